-- How long the printed plan can be.
use Prim.Native.Nat.{ℕ, suc, ◌+◌, ◌*◌, ◌/◌, ◌≤◌, ◌<◌}
use mathlib.Core.Bool.{Bool, true}
use mathlib.Core.List.{List, [], ◌∷◌, ◌++◌}
use mathlib.Core.Path.{◌≡◌, refl}
use native.Mathlib.Nat.{mul-suc}
use native.Mathlib.Omega.{arith}
use lib.ListN.{get_or, length, length-append}
use lib.Dec.{ltb, eqb, eqb→eq, ltb→lt}
use Rattle.topology_rules.specs.Count.{those}
use Rattle.topology_rules.proofs.Laws.{refusal_laws}
use Rattle.topology_rules.specs.Check.{verdict}
use Rattle.topology_rules.specs.Net.{Net, WellFormed, net_of, target, live}
use Rattle.topology_rules.specs.Edit.{records}
use Rattle.topology_rules.proofs.Tests.{choose, choose_cond}
use Rattle.topology_rules.proofs.Channels.{target_switch}
use Rattle.topology_rules.proofs.Records.{those_listed}
use Rattle.topology_rules.proofs.Laws.{accepted_well_formed}
use Rattle.planner_rules.specs.Tree.{level, up, up_end, parent_channel, parent_number}
use Rattle.planner_rules.specs.Table.{holder}
use Rattle.planner_rules.specs.Printed.{plan_word, switch_word, link_word, refused_word, decimal, hex, fields, line, plan_line, switch_line, link_line, plan_text, printed}
use Rattle.planner_rules.proofs.Levels.{level_bound}
use Rattle.planner_rules.proofs.Digits.{decimal_length, hex_length}

-- Fields with a space before each.
abbrev spaced : List (List ℕ) → ℕ
spaced [] = 0
spaced (f ∷ fs) = suc (length f) + spaced fs

fields_length : (fs : List (List ℕ)) → length (fields fs) ≡ spaced fs + 1
unfolding fields
fields_length [] = refl
fields_length (f ∷ fs) = omega (arith, length-append f (fields fs), fields_length fs)

line_length : (word : List ℕ) (fs : List (List ℕ)) → length (line word fs) ≡ length word + spaced fs + 1
line_length word fs = omega (arith, length-append word (fields fs), fields_length fs)

two : (x : ℕ) → x < 100 → length (decimal x) ≤ 2
two x h = decimal_length 2 x (omega arith) h

three : (x : ℕ) → x < 1000 → length (decimal x) ≤ 3
three x h = decimal_length 3 x (omega arith) h

-- Records of at most w characters each.
records_bound : (r : ℕ → List ℕ) (w : ℕ) (is : List ℕ) → ((j : ℕ) → j < length is → length (r (get_or is j 0)) ≤ w) → length (records r is) ≤ w * length is
unfolding records
records_bound r w [] each = omega arith
records_bound r w (i ∷ is) each =
    omega (arith, length-append (r i) (records r is), each 0 (omega arith), records_bound r w is (λ j h. each (suc j) (omega arith)), mul-suc w (length is))

module _ (n : Net) (w : WellFormed n) where
  parent_small : (s : ℕ) → parent_number n s ≤ 64
  unfolding parent_number
  parent_small s =
      let c = parent_channel n s in
      choose_cond (λ (x : ℕ). x ≤ 64) (live n c) (n.number (target n c)) 0
      (λ t. w.number_high (target n c) (target_switch n w c (ltb→lt c n.channels t))) (λ d. omega arith)

  up_end_switch : (c : ℕ) → c < n.channels / 2 → up_end n c < n.switches
  unfolding up_end
  up_end_switch c h =
      let l : 2 * c < n.channels = omega arith in
      choose_cond (λ (s : ℕ). s < n.switches) (up n (2 * c)) (target n (2 * c)) (n.source (2 * c)) (λ _. target_switch n w (2 * c) l) (λ _. w.from_a_switch (2 * c) l)

  plan_length : length (plan_line n) ≤ 12
  plan_length =
      let s = n.switches in
      let c = n.channels / 2 in
      let few = w.few_switches in
      let many = w.few_channels in
      omega (arith, line_length plan_word (decimal s ∷ decimal c ∷ []), two s (omega arith), three c (omega arith))

  switch_length : (k : ℕ) → k ≤ 64 → holder n k < n.switches → length (switch_line n k) ≤ 25
  switch_length k h l =
      let s = holder n k in
      let few = w.few_switches in
      let deep = level_bound n w s l in
      let up = parent_small s in
      omega (
        arith,
        line_length switch_word (decimal k ∷ hex 12 (n.uid s) ∷ decimal (level n s) ∷ decimal (parent_number n s) ∷ []),
        two k (omega arith),
        hex_length 12 (n.uid s),
        two (level n s) (omega arith),
        two (parent_number n s) (omega arith),
      )

  link_length : (c : ℕ) → c < n.channels / 2 → length (link_line n c) ≤ 10
  link_length c h =
      let number = w.number_high (up_end n c) (up_end_switch c h) in
      let many = w.few_channels in
      omega (arith, line_length link_word (decimal c ∷ decimal (n.number (up_end n c)) ∷ []), three c (omega arith), two (n.number (up_end n c)) (omega arith))

  text_length : length (plan_text n) ≤ 12 + 64 * 25 + 384 * 10
  unfolding plan_text
  text_length =
      let held : ℕ → Bool = λ k. ltb (holder n k) n.switches in
      let ks = those 64 1 held in
      let cs = those (n.channels / 2) 0 (λ c. true) in
      let a = those_listed held 64 1 in
      let b = those_listed (λ c. true) (n.channels / 2) 0 in
      let many = w.few_channels in
      let some = records_bound (switch_line n) 25 ks
      (λ j h. switch_length (get_or ks j 0) (omega (arith, a.high j h)) (ltb→lt (holder n (get_or ks j 0)) n.switches (a.passes j h))) in
      let rest = records_bound (link_line n) 10 cs (λ j h. link_length (get_or cs j 0) (omega (arith, b.high j h))) in
      omega (
        arith,
        length-append (plan_line n ++ records (switch_line n) ks) (records (link_line n) cs),
        length-append (plan_line n) (records (switch_line n) ks),
        plan_length,
        a.few,
        b.few,
      )

-- whatever is read
pub printed_length : (d : List ℕ) → length (printed d) ≤ 12 + 64 * 25 + 384 * 10
unfolding printed
printed_length d =
    let v = verdict d in
    choose (λ (l : List ℕ). length l ≤ 12 + 64 * 25 + 384 * 10) (eqb v.number 0) (plan_text (net_of d)) (line refused_word (decimal v.number ∷ decimal v.position ∷ []))
    (λ t. text_length (net_of d) (accepted_well_formed d (eqb→eq v.number 0 t)))
    (λ f. let (k, at) = (refusal_laws d).check_small in
    omega (arith, line_length refused_word (decimal v.number ∷ decimal v.position ∷ []), two v.number (omega arith), three v.position (omega arith)))
