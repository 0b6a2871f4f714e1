-- Which refusal an advance meets: the first that applies.
use Prim.Native.Nat.{ℕ}
use native.Mathlib.Omega.{arith}
use mathlib.Core.List.{List, [], ◌∷◌}
use mathlib.Core.Bool.{Bool, true, false, cond, not}
use mathlib.Core.Path.{◌≡◌, refl, ◌∙◌, ap}
use lib.ListN.{get_or}
use lib.Dec.{T, T_not, not_T, ltb→lt, nltb→le}
use Rattle.topology_rules.specs.Count.{both}
use Rattle.topology_rules.specs.Check.{refuse, accepted, whenever}
use Rattle.topology_rules.specs.Net.{Net, WellFormed, target, in_port, live, delivers}
use Rattle.topology_rules.specs.Refusals.{Returned}
use Rattle.topology_rules.proofs.Tests.{surely, both_T, T_both}
use Rattle.topology_rules.proofs.Firsts.{returned}
use Rattle.topology_rules.proofs.Chains.{Rules, chain, Says, test_of, chain_settled}
use Rattle.planner_rules.specs.Rules.{Holds}
use Rattle.planner_rules.proofs.Ports.{leaves_leaving, cable_or_out, delivers_exactly}
use Rattle.planner_rules.proofs.Holding.{holds_exactly}
use Rattle.rehearsal_rules.specs.Packets.{Cell, none, packet, full?, address_of, cells_of}
use Rattle.rehearsal_rules.specs.Answers.{moved, delivered, verdict_of}
use Rattle.rehearsal_rules.specs.Moves.{needs, entries, onward, allows, taken?, head_answer, advance_answer}
use Rattle.rehearsal_rules.specs.Rules.{AdvanceWrong}
use Rattle.rehearsal_rules.proofs.Words.{cell_at, address_word}
use Rattle.rehearsal_rules.proofs.Doing.{free_word, crosses}
use Rattle.rehearsal_rules.proofs.Needs.{needs_verdict, taken_word}

module _ (n : Net) (w : WellFormed n) (words : List ℕ) where
  abbrev held : List Cell
  held = cells_of words

  module _ (Sound : Type 0) (sound : Sound) where
    module _ (ch p : ℕ) where
      abbrev cell : Cell
      cell = get_or held ch none

      abbrev to : ℕ
      to = onward n ch p

      abbrev out : Bool
      out = delivers n (target n ch) p

      -- the tests of a head
      abbrev heads : Cell → Rules
      heads x = (not (full? x), 20) ∷ (not (allows n (entries n) ch (address_of x) p), 21) ∷ (both (not out) (taken? held to), 22) ∷ []

      last_verdict : (b t : Bool) → verdict_of (cond b (delivered p) (needs (not t) 22 (moved to))) ≡ whenever (both (not b) t) (refuse 22 0) accepted
      unfolding needs
      last_verdict true t = refl
      last_verdict false true = refl
      last_verdict false false = refl

      head_chain : (x : Cell) → verdict_of (head_answer n (entries n) held ch p x) ≡ chain 0 (heads x) accepted
      head_chain none = refl
      head_chain (packet pk) =
          needs_verdict (allows n (entries n) ch pk.address p) 21 _
          ∙ ap (whenever (not (allows n (entries n) ch pk.address p)) (refuse 21 0)) (last_verdict out (taken? held to))

      abbrev advancings : Rules
      advancings = (not (live n ch), 18) ∷ heads cell

      advance_chain : verdict_of (advance_answer n (entries n) held ch p) ≡ chain 0 advancings accepted
      unfolding advance_answer
      advance_chain = needs_verdict (live n ch) 18 _ ∙ ap (whenever (not (live n ch)) (refuse 18 0)) (head_chain cell)

      abbrev word : ℕ
      word = get_or words ch 0

      abbrev Advancing : ℕ → ℕ → Type 0
      Advancing = AdvanceWrong Sound n words ch p

      abbrev Held : Type 0
      Held = Holds n (target n ch) (in_port n ch) word p

      address_is : address_of cell ≡ word
      address_is = ap address_of (cell_at words ch) ∙ address_word word

      holds_word : T (allows n (entries n) ch (address_of cell) p) → Held
      holds_word t = rw address_is at ((holds_exactly n w (target n ch) (in_port n ch) (address_of cell) p).0 t)

      word_holds : Held → T (allows n (entries n) ch (address_of cell) p)
      word_holds h = (holds_exactly n w (target n ch) (in_port n ch) (address_of cell) p).1 (rw address_is h)

      advance_says : Says Advancing 0 advancings
      unfolding taken?
      advance_says = (
        λ t. AdvanceWrong.no_channel (nltb→le ch n.channels t),
        λ _. (
          λ t. AdvanceWrong.empty (free_word words ch t),
          λ _. (
            λ t. AdvanceWrong.not_allowed (λ h. T_not (allows n (entries n) ch (address_of cell) p) t (word_holds h)),
            λ f. (
              λ t.
                  let (on, tk) = both_T (not out) (taken? held to) t in
                  let h = holds_word (surely (allows n (entries n) ch (address_of cell) p) f) in
                  AdvanceWrong.next_taken to (crosses n w words (target n ch) (in_port n ch) word p h on) (taken_word words to tk),
              λ _. tt,
            ),
          ),
        ),
      )

      advance_rows : (m i : ℕ) → Advancing m i → (i ≡ 0) × T (test_of advancings m)
      unfolding taken?
      advance_rows m i (AdvanceWrong.unsound u) = absurd (u sound)
      advance_rows m i (AdvanceWrong.no_channel u) = (refl, not_T (live n ch) (λ t. omega (arith, ltb→lt ch n.channels t)))
      advance_rows m i (AdvanceWrong.empty u) = (refl, not_T (full? cell) (λ t. taken_word words ch t u))
      advance_rows m i (AdvanceWrong.not_allowed u) = (refl, not_T (allows n (entries n) ch (address_of cell) p) (λ t. u (holds_word t)))
      advance_rows m i (AdvanceWrong.next_taken c l u) =
          let on = not_T out (λ t. cable_or_out n w (target n ch) p c l ((delivers_exactly n (target n ch) p).0 t)) in
          let z : to ≡ c = leaves_leaving n w (target n ch) p c l in
          (refl, T_both (not out) (taken? held to) on (surely (taken? held to) (λ t. u (rw (← z) (free_word words to t)))))

      pub advance_returned : Returned Advancing (verdict_of (advance_answer n (entries n) held ch p))
      advance_returned = rw advance_chain (returned Advancing (chain 0 advancings accepted) (chain_settled Advancing advancings 22 tt advance_says advance_rows))
