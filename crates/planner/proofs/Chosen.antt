-- The best channel so far, over the channels in turn.
use Prim.Native.Nat.{ℕ, suc, ◌+◌, ◌*◌, ◌<◌}
use mathlib.Core.Path.{◌≡◌, refl, sym, subst, ◌∙◌}
use mathlib.Core.Logic.{inl, inr}
use mathlib.Core.List.{List}
use mathlib.Core.Bool.{Bool, not}
use native.Mathlib.Numerals.{add-one}
use native.Mathlib.Omega.{arith}
use lib.Dec.{T, eqb, eqb→eq, eqb_refl}
use lib.ListN.{get_or, set, length, length-set, replicate, length-replicate, get_or-replicate}
use lib.Seq.{get_or-set_same, get_or-set_other}
use borrow.Author.Tests.{lt-ltb, le-ltb}
use Rattle.std.specs.Prelude.{Option, Some, None, IfSome}
use Rattle.topology_rules.specs.Count.{both, any, first}
use Rattle.topology_rules.specs.Format.{cable_count}
use Rattle.topology_rules.specs.Net.{Net, WellFormed, net_of}
use Rattle.topology_rules.specs.Accepted.{Accepted}
use Rattle.planner_rules.specs.Tree.{rises, preferred, parent_channel}
use Rattle.planner.specs.Choices.{leads_up, improves, chosen_over, parent_of, Channels, Finds}
use Rattle.topology_rules.proofs.Tests.{decide, split, both_T, T_both, eq→eqb, choose_cond}
use Rattle.topology_rules.proofs.Searches.{First, below_cases, first_found, least_high}
use Rattle.topology_rules.proofs.Soundness.{well_formed}
use Rattle.planner_rules.proofs.Parents.{rises_T, preferred_irreflexive, preferred_transitive, first_parent, parent_is, one_parent}

module _ (n : Net) where
  module _ (f : ℕ → Bool) where
    -- Of the channels below k that pass, the one kept has none before it; none is kept where none passes.
    abbrev pub Best : ℕ → Option ℕ → Type 0
    Best k None = (u : ℕ) → u < k → T (f u) → ⊥
    Best k (Some j) = First f (preferred n) k j

    -- channel k does not pass
    best_pass : (k : ℕ) (kept : Option ℕ) → Best k kept → (T (f k) → ⊥) → Best (suc k) kept
    best_pass k None none d = λ u h t. elim (below_cases u k h) [ inl q ↦ d (rw q at t) | inr q ↦ none u q t ]
    best_pass k (Some j) (l, t, none) d = (omega arith, t, λ u h p r. elim (below_cases u k h) [ inl q ↦ d (rw q at p) | inr q ↦ none u q p r ])

    -- it passes, and does not improve
    best_keep : (k : ℕ) (kept : Option ℕ) → Best k kept → (T (improves n kept k) → ⊥) → Best (suc k) kept
    best_keep k None none d = absurd (d tt)
    best_keep k (Some j) (l, t, none) d = (omega arith, t, λ u h p r. elim (below_cases u k h) [ inl q ↦ d (rw q at r) | inr q ↦ none u q p r ])

    -- it passes, and improves
    best_take : (k : ℕ) (kept : Option ℕ) → Best k kept → T (f k) → T (improves n kept k) → Best (suc k) (Some k)
    best_take k None none t m =
        (omega arith, t, λ u h p r. elim (below_cases u k h) [ inl q ↦ preferred_irreflexive n k (rw q at r) | inr q ↦ none u q p ])
    best_take k (Some j) (l, s, none) t m = (
      omega arith,
      t,
      λ u h p r. elim (below_cases u k h) [ inl q ↦ preferred_irreflexive n k (rw q at r) | inr q ↦ none u q p (preferred_transitive n u k j r m) ],
    )

    -- one that is kept is among those passed
    best_there : (k : ℕ) (kept : Option ℕ) → Best k kept → IfSome kept (λ ch. ch < k)
    best_there k None none = tt
    best_there k (Some j) b = b.0

  -- after i channels
  pub record Chosen (i : ℕ) (g : List (Option ℕ)) : Type 0 where
    pub whole : length g ≡ 64
    pub each : (s : ℕ) → s < n.switches → Best (rises n s) i (get_or g s None)

  -- a channel that leads up rises from the switch that it leaves
  leads_rises : (ch : ℕ) → T (leads_up n ch) → T (rises n (n.source ch) ch)
  leads_rises ch t = T_both (eqb (n.source ch) (n.source ch)) _ (eqb_refl (n.source ch)) t

  -- and from no other
  rises_leads : (s ch : ℕ) → ch < n.channels → T (rises n s ch) → (n.source ch ≡ s) × T (leads_up n ch)
  rises_leads s ch h t = let r = rises_T n s ch h t in (r.starts, eq→eqb _ _ (rw (← r.starts) at r.lower))

  module _ (w : WellFormed n) where
    -- none is kept before the first
    chosen_start : Chosen 0 (replicate 64 None)
    chosen_start = record {
      whole = length-replicate {A = Option ℕ} 64 None;
      each = λ s h. rw (get_or-replicate {A = Option ℕ} 64 s None None (omega (arith, w.few_switches))) (λ u l. absurd (omega arith));
    }

    module _ (i : ℕ) (h : i < n.channels) (g : List (Option ℕ)) (c : Chosen i g) where
      -- the switch that channel i leaves, and what it keeps
      abbrev x : ℕ
      x = n.source i

      abbrev kept : Option ℕ
      kept = get_or g x None

      -- it is there
      x_there : x < n.switches
      x_there = w.from_a_switch i h

      -- the channel leads up and improves
      taken : T (leads_up n i) → T (improves n kept i) → Chosen (suc i) (set g x (Some i))
      taken t m = record {
        whole = length-set g x (Some i) ∙ c.whole;
        each = λ s k. elim (decide (eqb s x)) [
          | inl e ↦ rw (eqb→eq s x e, get_or-set_same g x (Some i) None (omega (arith, c.whole, x_there, w.few_switches)))
              (best_take (rises n x) i kept (c.each x x_there) (leads_rises i t) m)
          | inr d ↦ let ne : s ≡ x → ⊥ = λ e. d (eq→eqb s x e) in
              rw (get_or-set_other g x s (Some i) None ne) (best_pass (rises n s) i (get_or g s None) (c.each s k) (λ r. ne (sym (rises_leads s i h r).0)))
        ];
      }

      -- it does not
      left : (T (leads_up n i) → T (improves n kept i) → ⊥) → Chosen (suc i) g
      left d = record {
        whole = c.whole;
        each = λ s k. elim (decide (rises n s i)) [
          | inl r ↦ let (e, t) = rises_leads s i h r in
              best_keep (rises n s) i (get_or g s None) (c.each s k) (λ m. d t (rw e m))
          | inr r ↦ best_pass (rises n s) i (get_or g s None) (c.each s k) r
        ];
      }

      -- one step
      chosen_step : Chosen (suc i) (chosen_over n i g)
      chosen_step = choose_cond (Chosen (suc i)) (both (leads_up n i) (improves n kept i)) (set g x (Some i)) g
          (λ t. let (r, m) = both_T (leads_up n i) (improves n kept i) t in taken r m)
          (λ d. left (λ t m. d (T_both (leads_up n i) (improves n kept i) t m)))

      -- what is kept is a channel
      chosen_channel : (s : ℕ) → s < n.switches → IfSome (get_or g s None) (λ ch. ch < n.channels)
      chosen_channel s k = go (get_or g s None) (best_there (rises n s) i (get_or g s None) (c.each s k))
        where
          go : (kept : Option ℕ) → IfSome kept (λ ch. ch < i) → IfSome kept (λ ch. ch < n.channels)
          go None l = tt
          go (Some j) l = omega arith

    -- the best of all channels is the parent's
    best_parent : (s : ℕ) (v : Option ℕ) → s < n.switches → Best (rises n s) n.channels v → v ≡ parent_of n s
    unfolding parent_channel first
    best_parent s None h none = rw (first_none n.channels none, le-ltb n.channels n.channels (omega arith)) refl
      where
        -- where none passes, the rules find none
        first_none : (k : ℕ) → ((u : ℕ) → u < k → T (rises n s u) → ⊥) → first k (rises n s) (preferred n) ≡ k
        first_none k none = elim (split (first k (rises n s) (preferred n)) k) [
          | inl l ↦ absurd (none _ l (first_found (rises n s) (preferred n) k l).1)
          | inr l ↦ omega (arith, least_high (λ x. both (rises n s x) (not (any k (λ y. both (rises n s y) (preferred n y x))))) k)
        ]
    best_parent s (Some ch) h f =
        let p = first_parent n s ch f in
        let e : parent_channel n s ≡ ch = one_parent n w s (parent_channel n s) ch (parent_is n w s h (omega (arith, p.rising.lower))) p in
        rw (e, lt-ltb ch n.channels p.rising.is_live) refl

-- The channels of an accepted description: r as it was read, d as it is seen.
module _ (r d : List ℕ) (seen : r ≡ d) (a : Accepted r) where
  -- its net is well formed
  w : WellFormed (net_of d)
  w = well_formed d (rw seen at a)

  -- before the first
  pub none_chosen : Chosen (net_of d) 0 (replicate 64 None)
  none_chosen = chosen_start (net_of d) w

  module _ (i : ℕ) (h : i < 2 * cable_count r) (g : List (Option ℕ)) (c : Chosen (net_of d) i g) where
    -- what is kept are channels
    pub kept_channels : Channels d g
    unfolding net_of
    kept_channels = chosen_channel (net_of d) w i (rw seen at h) g c

    -- one more
    pub chosen_next : (f : List (Option ℕ)) → f ≡ chosen_over (net_of d) i g → Chosen (net_of d) (i + 1) f
    unfolding net_of
    chosen_next f e = subst (λ k. Chosen (net_of d) k f) (sym (add-one i)) (rw e (chosen_step (net_of d) w i (rw seen at h) g c))

  -- after the last
  pub all_chosen : (i : ℕ) (g : List (Option ℕ)) → i ≡ 2 * cable_count r → Chosen (net_of d) i g → Finds d g
  unfolding net_of
  all_chosen i g e c s h = best_parent (net_of d) w s (get_or g s None) h (rw (e, seen) at (c.each s h))
