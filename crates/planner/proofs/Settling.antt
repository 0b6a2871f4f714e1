-- What the rounds make of the levels.
use Prim.Native.Nat.{ℕ, suc, zero, ◌+◌, ◌-◌, ◌≤◌, ◌<◌}
use mathlib.Core.Path.{◌≡◌, refl, sym, ap, ◌∙◌}
use mathlib.Core.Logic.{◌⊎◌, inl, inr}
use mathlib.Core.List.{List}
use mathlib.Core.Bool.{false, cond, not}
use native.Mathlib.Omega.{arith}
use native.Mathlib.Numerals.{add-one}
use borrow.Author.Tests.{le-leb, lt-leb}
use lib.Dec.{T, eqb, eqb→eq}
use lib.ListN.{get_or, set, length, length-set}
use Rattle.std.specs.Prelude.{Option, Some, None, is_some}
use Rattle.std.specs.Option.{option_eq}
use Rattle.topology_rules.specs.Count.{both}
use Rattle.topology_rules.specs.Net.{Net, WellFormed, target}
use Rattle.planner_rules.specs.Tree.{root, level}
use Rattle.planner.specs.Rows.{Tells}
use Rattle.planner.specs.Rounds.{in_turn, has_level, is_settled, settled, settled_over, settled_by, Settled}
use Rattle.topology_rules.proofs.Tests.{split, both_T, T_both, eq→eqb, choose_cond}
use Rattle.topology_rules.proofs.Searches.{below_cases}
use Rattle.topology_rules.proofs.Channels.{target_switch}
use Rattle.planner.proofs.Steps.{set_cases, turn_keeps}
use Rattle.planner_rules.proofs.Levels.{level_bound, level_rise, at_root, below_root}
use Rattle.planner_rules.proofs.Parents.{some_rises}

-- the test for level k as a fact
pub option_eq→eq : (o : Option ℕ) (k : ℕ) → T (option_eq eqb o (Some k)) → o ≡ Some k
option_eq→eq None k t = absurd t
option_eq→eq (Some j) k t = ap Some (eqb→eq j k t)

-- ... and back
pub eq→option_eq : (o : Option ℕ) (k : ℕ) → o ≡ Some k → T (option_eq eqb o (Some k))
eq→option_eq None k e = absurd cc
eq→option_eq (Some j) k e = eq→eqb j k cc

-- where the test fails, the level is another
pub none_has : (f : List (Option ℕ)) (k s : ℕ) → option_eq eqb (get_or f s None) (Some k) ≡ false → get_or f s None ≡ Some k → ⊥
none_has f k s d e = rw d at (eq→option_eq (get_or f s None) k e)

-- the test for no level as a fact
pub vacant : (o : Option ℕ) → T (not (is_some o)) → o ≡ None
vacant None t = refl
vacant (Some j) t = absurd t

-- ... and back
pub left_vacant : (o : Option ℕ) → o ≡ None → T (not (is_some o))
left_vacant None e = tt
left_vacant (Some j) e = absurd cc

module _ (n : Net) where
  -- over channel ch
  pub settled_at : (k ch a b : ℕ) (f g : List (Option ℕ)) → a ≡ n.source ch → b ≡ target n ch → g ≡ settled k a b f → g ≡ settled_over n k ch f
  settled_at k ch a b f g p q e = rw (p, q) at e

  -- a switch near enough has its level by then
  pub settled_near : (k s : ℕ) → level n s ≤ k → settled_by n k s ≡ Some (level n s)
  settled_near k s h = rw (le-leb (level n s) k h) refl

  -- ... and one further away has none
  pub settled_far : (k s : ℕ) → k < level n s → settled_by n k s ≡ None
  settled_far k s h = rw (lt-leb (level n s) k h) refl

  -- what is there by then is the switch's own level
  pub settled_shows : (k s l : ℕ) → settled_by n k s ≡ Some l → level n s ≡ l
  settled_shows k s l e = elim (split k (level n s)) [ inl h ↦ absurd (go (settled_far k s h)) | inr h ↦ same (settled_near k s h) ]
    where
      go : settled_by n k s ≡ None → ⊥
      go d = cc

      same : settled_by n k s ≡ Some (level n s) → level n s ≡ l
      same d = cc

  -- ... and where nothing is, the switch is further away
  pub settled_lacks : (k s : ℕ) → settled_by n k s ≡ None → k < level n s
  settled_lacks k s e = elim (split k (level n s)) [ inl h ↦ h | inr h ↦ absurd (go (settled_near k s h)) ]
    where
      go : settled_by n k s ≡ Some (level n s) → ⊥
      go d = cc

  -- in round k, after i channels: what changed is as it stands after the round
  record Round (k i : ℕ) (g : List (Option ℕ)) : Type 0 where
    whole : length g ≡ 64
    each : (j : ℕ) → j < n.switches → (get_or g j None ≡ settled_by n k j) ⊎ (get_or g j None ≡ settled_by n (suc k) j)
    gets : (ch : ℕ) → ch < i → level n (target n ch) ≡ k → get_or g (n.source ch) None ≡ settled_by n (suc k) (n.source ch)

  module _ (wf : WellFormed n) where
    -- before the first round the roots are settled
    pub settled_start : (r : List ℕ) (f : List (Option ℕ)) → length f ≡ 64 → Tells n.switches r (root n)
        → ((s : ℕ) → s < n.switches → get_or f s None ≡ cond (eqb (get_or r s 0) s) (Some 0) None) → Settled n 0 f
    settled_start r f whole roots told = record { whole = whole; each = λ j h. told j h ∙ start j h }
      where
        start : (j : ℕ) → j < n.switches → cond (eqb (get_or r j 0) j) (Some 0) None ≡ settled_by n 0 j
        start j h = rw (roots j h) (choose_cond (λ v. v ≡ settled_by n 0 j) (eqb (root n j) j) (Some 0) None
            (λ t. let e = at_root n wf j h (sym (eqb→eq (root n j) j t)) in ap Some (sym e) ∙ sym (settled_near 0 j (omega arith)))
            (λ d. sym (settled_far 0 j (below_root n wf j h (λ e. d (eq→eqb (root n j) j (sym e)))))))

    module _ (k : ℕ) where
      -- a switch with level k in the list has it
      shows : (g : List (Option ℕ)) (i : ℕ) → Round k i g → (j : ℕ) → j < n.switches → get_or g j None ≡ Some k → level n j ≡ k
      shows g i p j h e = elim (p.each j h) [ inl d ↦ settled_shows k j k (sym d ∙ e) | inr d ↦ settled_shows (suc k) j k (sym d ∙ e) ]

      -- one without a level is further away
      lacks : (g : List (Option ℕ)) (i : ℕ) → Round k i g → (j : ℕ) → j < n.switches → get_or g j None ≡ None → k < level n j
      lacks g i p j h e = elim (p.each j h) [ inl d ↦ settled_lacks k j (sym d ∙ e) | inr d ↦ omega (arith, settled_lacks (suc k) j (sym d ∙ e)) ]

      -- one that had its level before the round keeps it
      stays : (j : ℕ) → level n j ≤ k → settled_by n k j ≡ settled_by n (suc k) j
      stays j l = settled_near k j l ∙ sym (settled_near (suc k) j (omega arith))

      -- one channel more
      round_next : (i : ℕ) (g : List (Option ℕ)) → i < n.channels → Round k i g → Round k (suc i) (settled_over n k i g)
      round_next i g h p =
          choose_cond (Round k (suc i)) (both (has_level g y k) (not (is_settled g x))) (set g x (Some (k + 1))) g
          (λ t. let (e, d) = both_T (has_level g y k) (not (is_settled g x)) t in taken (option_eq→eq (get_or g y None) k e) (vacant (get_or g x None) d))
          (λ t. left (λ e d. t (T_both (has_level g y k) (not (is_settled g x)) (eq→option_eq (get_or g y None) k e) (left_vacant (get_or g x None) d))))
        where
          x : ℕ
          x = n.source i

          y : ℕ
          y = target n i

          x_low : x < n.switches
          x_low = wf.from_a_switch i h

          y_low : y < n.switches
          y_low = target_switch n wf i h

          taken : get_or g y None ≡ Some k → get_or g x None ≡ None → Round k (suc i) (set g x (Some (k + 1)))
          taken e d = record {
            whole = length-set g x (Some (k + 1)) ∙ p.whole;
            each = λ j l. elim (cases j) [ inl q ↦ inr q.1 | inr q ↦ rw q.1 (p.each j l) ];
            gets = λ ch l m. elim (cases (n.source ch)) [
              | inl q ↦ q.1
              | inr q ↦ elim (below_cases ch i l) [ inl z ↦ absurd (q.0 (ap n.source z)) | inr z ↦ q.1 ∙ p.gets ch z m ]
            ];
          }
            where
              new : Some (k + 1) ≡ settled_by n (suc k) x
              new =
                  let up = level_rise n wf i h in
                  let near = shows g i p y y_low e in
                  let far = lacks g i p x x_low d in
                  let at : k + 1 ≡ level n x = omega arith in
                  ap Some at ∙ sym (settled_near (suc k) x (omega arith))

              cases : (j : ℕ) → ((j ≡ x) × (get_or (set g x (Some (k + 1))) j None ≡ settled_by n (suc k) j)) ⊎ ((j ≡ x → ⊥) × (get_or (set g x (Some (k + 1))) j None ≡ get_or g j None))
              cases j = elim (set_cases g x j (Some (k + 1)) None (omega (arith, p.whole, wf.few_switches, x_low))) [ inl q ↦ inl (q.0, q.1 ∙ rw q.0 new) | inr q ↦ inr q ]

          left : (get_or g y None ≡ Some k → get_or g x None ≡ None → ⊥) → Round k (suc i) g
          left d = record {
            whole = p.whole;
            each = p.each;
            gets = λ ch l m. elim (below_cases ch i l) [ inl z ↦ rw z (kept (rw z at m)) | inr z ↦ p.gets ch z m ];
          }
            where
              there : (m : ℕ) → k ≤ m → level n y ≡ k → settled_by n m y ≡ Some k
              there m l e = settled_near m y (omega arith) ∙ ap Some e

              kept : level n y ≡ k → get_or g x None ≡ settled_by n (suc k) x
              kept e =
                  let far : get_or g y None ≡ Some k = elim (p.each y y_low) [ inl q ↦ q ∙ there k (omega arith) e | inr q ↦ q ∙ there (suc k) (omega arith) e ] in
                  elim (p.each x x_low) [
                    | inl q ↦ elim (split k (level n x)) [ inl l ↦ absurd (d far (q ∙ settled_far k x l)) | inr l ↦ q ∙ stays x l ]
                    | inr q ↦ q
                  ]

      -- ... up to the last
      round_done : (g : List (Option ℕ)) → Round k n.channels g → Settled n (suc k) g
      round_done g p = record { whole = p.whole; each = λ j h. elim (split k (level n j)) [ inl l ↦ later j h l | inr l ↦ sooner j h (stays j l) ] }
        where
          sooner : (j : ℕ) → j < n.switches → settled_by n k j ≡ settled_by n (suc k) j → get_or g j None ≡ settled_by n (suc k) j
          sooner j h e = elim (p.each j h) [ inl q ↦ q ∙ e | inr q ↦ q ]

          later : (j : ℕ) → j < n.switches → k < level n j → get_or g j None ≡ settled_by n (suc k) j
          later j h l = elim (split (suc k) (level n j)) [
            | inl m ↦ sooner j h (settled_far k j l ∙ sym (settled_far (suc k) j m))
            | inr m ↦ let (ch, r) = some_rises n wf j h (omega arith) in rw r.starts at (p.gets ch r.is_live (omega (arith, r.lower)))
          ]

      -- after a round exactly the switches one level further are settled too
      pub settled_next : (f g : List (Option ℕ)) → Settled n k f → g ≡ in_turn n.channels (settled_over n k) f → Settled n (k + 1) g
      settled_next f g p e = rw (add-one, e) (round_done (in_turn n.channels (settled_over n k) f)
          (turn_keeps (settled_over n k) (Round k) n.channels f
          (record { whole = p.whole; each = λ j h. inl (p.each j h); gets = λ ch h. absurd (omega arith) }) round_next))

    module _ (k : ℕ) (f : List (Option ℕ)) (p : Settled n k f) where
      -- where no switch is further away, each has its level
      all_settled : ((j : ℕ) → j < n.switches → level n j ≤ k) → (j : ℕ) → j < n.switches → get_or f j None ≡ Some (level n j)
      all_settled l j h = p.each j h ∙ settled_near k j (l j h)

      -- so after as many rounds as there are switches
      pub settled_last : n.switches ≤ k → (j : ℕ) → j < n.switches → get_or f j None ≡ Some (level n j)
      settled_last l = all_settled (λ j h. omega (arith, level_bound n wf j h))

      -- ... or where none has the level that was last given
      pub settled_done : ((j : ℕ) → j < n.switches → get_or f j None ≡ Some k → ⊥) → (j : ℕ) → j < n.switches → get_or f j None ≡ Some (level n j)
      settled_done none = all_settled (λ j h. elim (split k (level n j)) [ inl l ↦ absurd (go (level n j - k) j h (omega arith)) | inr l ↦ l ])
        where
          go : (m j : ℕ) → j < n.switches → level n j ≡ m + k → ⊥
          go zero j h e = none j h (p.each j h ∙ settled_near k j (omega arith) ∙ ap Some (omega arith))
          go (suc m) j h e = let (ch, r) = some_rises n wf j h (omega arith) in go m (target n ch) (target_switch n wf ch r.is_live) (omega (arith, r.lower))
