-- The channel to the parent.
use mathlib.Core.Path.{◌≡◌, ap, sym, ◌∙◌}
use mathlib.Core.Logic.{inl, inr}
use mathlib.Core.Bool.{not}
use mathlib.Core.List.{[], ◌∷◌}
use Prim.Native.Nat.{ℕ, suc, ◌<◌}
use native.Mathlib.Omega.{arith}
use lib.ListN.{length}
use lib.Dec.{T, eqb, eqb→eq, ltb→lt, lt→ltb, not_T}
use Rattle.topology_rules.specs.Net.{Net, WellFormed, target, live}
use Rattle.planner_rules.specs.Tree.{root, level, up, rises, preferred, parent_channel, parent_number, parent_port}
use Rattle.planner_rules.specs.Rules.{Rises, Parent}
use Rattle.topology_rules.proofs.Tests.{split, both_T, T_both, eq→eqb, cond_is, cond_not}
use Rattle.topology_rules.proofs.Lex.{lex_T, T_lex, lex_irreflexive, lex_transitive}
use Rattle.topology_rules.proofs.Searches.{First, first_is, first_found}
use Rattle.topology_rules.proofs.Channels.{target_switch}
use Rattle.planner_rules.proofs.Walks.{Within}
use Rattle.planner_rules.proofs.Levels.{level_walk, level_least, level_rise, level_root, channel_root}
use Rattle.planner_rules.proofs.Order.{T_above}

module _ (n : Net) where
  pub rises_T : (s ch : ℕ) → ch < n.channels → T (rises n s ch) → Rises n s ch
  rises_T s ch h t =
      let p = both_T (eqb (n.source ch) s) (eqb (suc (level n (target n ch))) (level n s)) t in
      record { is_live = h; starts = eqb→eq (n.source ch) s p.0; lower = eqb→eq (suc (level n (target n ch))) (level n s) p.1 }

  pub T_rises : (s ch : ℕ) → Rises n s ch → T (rises n s ch)
  T_rises s ch r = T_both (eqb (n.source ch) s) (eqb (suc (level n (target n ch))) (level n s))
      (eq→eqb (n.source ch) s r.starts) (eq→eqb (suc (level n (target n ch))) (level n s) r.lower)

  pub preferred_irreflexive : (a : ℕ) → T (preferred n a a) → ⊥
  preferred_irreflexive a t = let u = n.uid (target n a) in lex_irreflexive u (n.out_port a) (lex_T u (n.out_port a) u (n.out_port a) t)

  pub preferred_transitive : (a b c : ℕ) → T (preferred n a b) → T (preferred n b c) → T (preferred n a c)
  preferred_transitive a b c p q =
      let u = n.uid (target n a) in
      let v = n.uid (target n b) in
      let x = n.uid (target n c) in
      T_lex u (n.out_port a) x (n.out_port c)
      (lex_transitive u (n.out_port a) v (n.out_port b) x (n.out_port c) (lex_T u (n.out_port a) v (n.out_port b) p) (lex_T v (n.out_port b) x (n.out_port c) q))

  -- a channel that no other is preferred to leads to the parent
  pub first_parent : (s a : ℕ) → First (rises n s) (preferred n) n.channels a → Parent n s a
  first_parent s a f = record {
    rising = rises_T s a f.0 f.1;
    lowest = λ b r. elim (split (n.uid (target n b)) (n.uid (target n a))) [
      | inl p ↦ absurd (f.2 b r.is_live (T_rises s b r) (T_lex (n.uid (target n b)) (n.out_port b) (n.uid (target n a)) (n.out_port a) (inl p)))
      | inr p ↦ p
    ];
    lowest_port = λ b r e. elim (split (n.out_port b) (n.out_port a)) [
      | inl p ↦ absurd (f.2 b r.is_live (T_rises s b r) (T_lex (n.uid (target n b)) (n.out_port b) (n.uid (target n a)) (n.out_port a) (inr (ap n.uid e, p))))
      | inr p ↦ p
    ];
  }

  module _ (w : WellFormed n) where
    -- a switch above level 0 has a way one level lower
    pub some_rises : (s : ℕ) → s < n.switches → 0 < level n s → (ch : ℕ) × Rises n s ch
    some_rises s h l = go (level_walk n w s h)
      where
        go : Within n (level n s) s (root n s) → (ch : ℕ) × Rises n s ch
        go ([], b, p) = absurd (omega (arith, ap (level n) p, level_root n w s h))
        go (ch ∷ r, b, p) =
            let c = ltb→lt ch n.channels p.0 in
            let e = ap (level n) p.1 in
            let up_one = level_rise n w ch c in
            let same : root n (target n ch) ≡ root n s = sym (channel_root n w ch c) ∙ ap (root n) p.1 in
            let down = level_least n w (target n ch) (length r) (target_switch n w ch c) (r, omega arith, rw same p.2) in
            (ch, record { is_live = c; starts = p.1; lower = omega arith })

    parent_first : (s : ℕ) → s < n.switches → 0 < level n s
        → First (rises n s) (preferred n) n.channels (parent_channel n s)
    unfolding parent_channel
    parent_first s h l =
        let r = some_rises s h l in
        first_is (rises n s) (preferred n) preferred_irreflexive preferred_transitive n.channels r.0 r.1.is_live (T_rises s r.0 r.1)

    pub parent_is : (s : ℕ) → s < n.switches → 0 < level n s → Parent n s (parent_channel n s)
    parent_is s h l = first_parent s (parent_channel n s) (parent_first s h l)

    -- a root has none
    pub parent_none : (s : ℕ) → level n s ≡ 0 → parent_channel n s < n.channels → ⊥
    unfolding parent_channel
    parent_none s e h =
        let r = rises_T s (parent_channel n s) h (first_found (rises n s) (preferred n) n.channels h).1 in
        omega (arith, r.lower)

    pub rises_up : (s ch : ℕ) → Rises n s ch → T (up n ch)
    unfolding up
    rises_up s ch r = T_above n (target n ch) (n.source ch) (inl (omega (arith, ap (level n) r.starts, r.lower)))

    -- the rules leave one channel for the parent
    pub one_parent : (s a b : ℕ) → Parent n s a → Parent n s b → a ≡ b
    one_parent s a b p q =
        let x = p.rising in
        let y = q.rising in
        let near = w.uids_differ (target n a) (target n b) (target_switch n w a x.is_live) (target_switch n w b y.is_live)
        (omega (arith, p.lowest b y, q.lowest a x)) in
        w.ports_differ a b x.is_live y.is_live (x.starts ∙ sym y.starts)
        (omega (arith, p.lowest_port b y (sym near), q.lowest_port a x near))

    -- the parent's number and the child's port, as printed and asked for
    pub parent_named : (s : ℕ) → s < n.switches → 0 < level n s
        → (parent_number n s ≡ n.number (target n (parent_channel n s))) × (parent_port n s ≡ n.out_port (parent_channel n s))
    unfolding parent_number parent_port
    parent_named s h l = (cond_is (live n (parent_channel n s)) _ _ there, cond_is (live n (parent_channel n s)) _ _ there)
      where
        there : T (live n (parent_channel n s))
        there = lt→ltb (parent_channel n s) n.channels (parent_is s h l).rising.is_live

    pub root_named : (s : ℕ) → level n s ≡ 0 → (parent_number n s ≡ 0) × (parent_port n s ≡ 0)
    unfolding parent_number parent_port
    root_named s e = (cond_not (live n (parent_channel n s)) _ _ none, cond_not (live n (parent_channel n s)) _ _ none)
      where
        none : T (not (live n (parent_channel n s)))
        none = not_T (live n (parent_channel n s)) (λ t. parent_none s e (ltb→lt (parent_channel n s) n.channels t))
