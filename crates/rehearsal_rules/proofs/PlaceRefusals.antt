-- Which refusal a placing meets: the first that applies.
use Prim.Native.Nat.{ℕ}
use mathlib.Core.List.{List, [], ◌∷◌}
use mathlib.Core.Bool.{not}
use mathlib.Core.Path.{◌≡◌, refl, sym, ◌∙◌, ap}
use mathlib.Core.Logic.{inl, inr}
use lib.Dec.{T, T_not, not_T, ltb, lt→ltb, ltb→lt}
use Rattle.topology_rules.specs.Count.{both}
use Rattle.topology_rules.specs.Check.{refuse, accepted, whenever}
use Rattle.topology_rules.specs.Net.{Net, WellFormed, live, leaving}
use Rattle.topology_rules.specs.Refusals.{Returned}
use Rattle.topology_rules.proofs.Tests.{decide, surely, both_T, T_both}
use Rattle.topology_rules.proofs.Firsts.{returned}
use Rattle.topology_rules.proofs.Chains.{Rules, chain, Says, test_of, chain_settled}
use Rattle.planner_rules.specs.Table.{holder, good}
use Rattle.planner_rules.proofs.Addresses.{holder_is, holder_of, good_exactly}
use Rattle.planner_rules.proofs.Ports.{leaving_leaves, leaves_leaving}
use Rattle.planner_rules.proofs.Holding.{holds_exactly}
use Rattle.rehearsal_rules.specs.Packets.{Cell, cells_of}
use Rattle.rehearsal_rules.specs.Answers.{moved, verdict_of}
use Rattle.rehearsal_rules.specs.Moves.{entries, taken?, place_answer}
use Rattle.rehearsal_rules.specs.Rules.{Numbered, PlaceWrong}
use Rattle.rehearsal_rules.proofs.Doing.{free_word}
use Rattle.rehearsal_rules.proofs.Needs.{needs_verdict, not_not, taken_word}

module _ (n : Net) (w : WellFormed n) (words : List ℕ) where
  abbrev held : List Cell
  held = cells_of words

  -- a number's switch is its holder
  numbered : (k s : ℕ) → Numbered n k s → s ≡ holder n k
  numbered k s (h, e) = rw e at (sym (holder_of n w s h))

  module _ (Sound : Type 0) (sound : Sound) where
    module _ (k a p : ℕ) where
      abbrev s : ℕ
      s = holder n k

      abbrev c : ℕ
      c = leaving n s p

      abbrev placings : Rules
      placings =
          (not (ltb s n.switches), 18) ∷ (not (good n a), 19) ∷ (not (both (entries n s 0 a p) (live n c)), 21) ∷ (not (not (taken? held c)), 22) ∷ []

      place_chain : verdict_of (place_answer n (entries n) held k a p) ≡ chain 0 placings accepted
      unfolding place_answer
      place_chain =
          needs_verdict (ltb s n.switches) 18 _
          ∙ ap (whenever (not (ltb s n.switches)) (refuse 18 0)) (needs_verdict (good n a) 19 _
          ∙ ap (whenever (not (good n a)) (refuse 19 0)) (needs_verdict (both (entries n s 0 a p) (live n c)) 21 _
          ∙ ap (whenever (not (both (entries n s 0 a p) (live n c))) (refuse 21 0)) (needs_verdict (not (taken? held c)) 22 (moved c))))

      abbrev Placing : ℕ → ℕ → Type 0
      Placing = PlaceWrong Sound n words k a p

      held_there : T (not (both (entries n s 0 a p) (live n c))) → Numbered n k s → Placing 21 0
      held_there t m = elim (decide (entries n s 0 a p)) [
        | inr d ↦ PlaceWrong.not_allowed s m (λ h. d ((holds_exactly n w s 0 a p).1 h))
        | inl e ↦ PlaceWrong.no_cable s m (λ b l. T_not (both (entries n s 0 a p) (live n c)) t (T_both (entries n s 0 a p) (live n c) e (rw (leaves_leaving n w s p b l) l.is_live)))
      ]

      place_says : Says Placing 0 placings
      place_says = (
        λ t. PlaceWrong.no_switch (λ x m. T_not (ltb s n.switches) t (lt→ltb s n.switches (rw (numbered k x m) at m.0))),
        λ f.
            let h = ltb→lt s n.switches (surely (ltb s n.switches) f) in
            let m : Numbered n k s = (h, holder_is n k h) in (
              λ t. PlaceWrong.bad_address (λ g. T_not (good n a) t ((good_exactly n w a).1 g)),
              λ _. (
                λ t. held_there t m,
                λ f. (
                  λ t.
                      let l = (both_T (entries n s 0 a p) (live n c) (surely (both (entries n s 0 a p) (live n c)) f)).1 in
                      PlaceWrong.next_taken s c m (leaving_leaves n s p (ltb→lt c n.channels l)) (taken_word words c (not_not (taken? held c) t)),
                  λ _. tt,
                ),
              ),
            ),
      )

      place_rows : (m i : ℕ) → Placing m i → (i ≡ 0) × T (test_of placings m)
      place_rows m i (PlaceWrong.unsound u) = absurd (u sound)
      place_rows m i (PlaceWrong.no_switch u) = (refl, not_T (ltb s n.switches) (λ t. let h = ltb→lt s n.switches t in u s (h, holder_is n k h)))
      place_rows m i (PlaceWrong.bad_address u) = (refl, not_T (good n a) (λ t. u ((good_exactly n w a).0 t)))
      place_rows m i (PlaceWrong.not_allowed x q u) =
          let e = numbered k x q in
          (refl, not_T (both (entries n s 0 a p) (live n c)) (λ t. u (rw e ((holds_exactly n w s 0 a p).0 (both_T (entries n s 0 a p) (live n c) t).0))))
      place_rows m i (PlaceWrong.no_cable x q u) =
          let e = numbered k x q in
          (refl, not_T (both (entries n s 0 a p) (live n c)) (λ t. u c (rw e (leaving_leaves n s p (ltb→lt c n.channels (both_T (entries n s 0 a p) (live n c) t).1)))))
      place_rows m i (PlaceWrong.next_taken x b q l u) =
          let e = numbered k x q in
          let z : c ≡ b = leaves_leaving n w s p b (rw e at l) in
          (refl, not_T (not (taken? held c)) (λ t. u (rw (← z) (free_word words c t))))

      pub place_returned : Returned Placing (verdict_of (place_answer n (entries n) held k a p))
      place_returned = rw place_chain (returned Placing (chain 0 placings accepted) (chain_settled Placing placings 22 tt place_says place_rows))
