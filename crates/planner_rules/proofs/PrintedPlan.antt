-- What is printed, refused or accepted, line by line.
use Prim.Native.Nat.{ℕ, ◌*◌, ◌/◌, ◌<◌}
use mathlib.Core.Bool.{Bool, true}
use mathlib.Core.List.{List, [], ◌∷◌, ◌++◌}
use mathlib.Core.Path.{◌≡◌, refl, ap, ◌∙◌}
use native.Mathlib.Omega.{arith}
use lib.Dec.{eqb, ltb, eqb→eq, ltb→lt, lt→ltb}
use Rattle.topology_rules.specs.Count.{those, tabulate}
use Rattle.topology_rules.specs.Format.{switch_count, cable_count, uid_at}
use Rattle.topology_rules.specs.Check.{Verdict, verdict}
use Rattle.topology_rules.specs.Net.{WellFormed, net_of, number_at}
use Rattle.topology_rules.specs.Edit.{records}
use Rattle.topology_rules.proofs.Tests.{choose, eq→eqb}
use Rattle.topology_rules.proofs.Records.{those_first}
use Rattle.topology_rules.proofs.Laws.{accepted_well_formed, description_laws}
use Rattle.planner_rules.specs.Tree.{level, up_end, parent_number}
use Rattle.planner_rules.specs.Table.{holder}
use Rattle.planner_rules.specs.Printed.{plan_word, switch_word, link_word, refused_word, decimal, hex, line, switch_line, link_line, plan_text, printed}
use Rattle.planner_rules.proofs.Addresses.{held_exactly, held_by}

abbrev pub refusal_line : Verdict → List ℕ
refusal_line v = line refused_word (decimal v.number ∷ decimal v.position ∷ [])

module _ (d : List ℕ) where
  pub printed_refused : 0 < (verdict d).number → printed d ≡ refusal_line (verdict d)
  unfolding printed
  printed_refused h = choose (λ l. l ≡ refusal_line (verdict d)) (eqb (verdict d).number 0) (plan_text (net_of d)) (refusal_line (verdict d))
      (λ t. absurd (omega (arith, eqb→eq (verdict d).number 0 t))) (λ f. refl)

  pub link_reads : (c : ℕ) → link_line (net_of d) c ≡ line link_word (decimal c ∷ decimal (number_at d (up_end (net_of d) c)) ∷ [])
  unfolding net_of
  link_reads c = refl

  module _ (ok : (verdict d).number ≡ 0) where
    printed_plan : printed d ≡ plan_text (net_of d)
    unfolding printed
    printed_plan = choose (λ l. l ≡ plan_text (net_of d)) (eqb (verdict d).number 0) (plan_text (net_of d)) (refusal_line (verdict d))
        (λ t. refl) (λ f. absurd (f (eq→eqb (verdict d).number 0 ok)))

    w : WellFormed (net_of d)
    w = accepted_well_formed d ok

    held : ℕ → Bool
    held k = ltb (holder (net_of d) k) (net_of d).switches

    -- the numbers that are held are 1 to S
    numbers : those 64 1 held ≡ tabulate (switch_count d) 1 (λ k. k)
    unfolding held net_of
    numbers = those_first held 64 1 (switch_count d) w.few_switches (λ k h l.
        let (some, there) = held_exactly (net_of d) w k in
        let (number, range) = (description_laws d ok).numbers.held k in
        (λ t. omega (arith, range (some (ltb→lt _ _ t))), λ b. lt→ltb _ _ (there (number (h, omega arith)))))

    pub plan_reads : printed d ≡ line plan_word (decimal (switch_count d) ∷ decimal (cable_count d) ∷ [])
        ++ records (switch_line (net_of d)) (tabulate (switch_count d) 1 (λ k. k))
        ++ records (link_line (net_of d)) (tabulate (cable_count d) 0 (λ c. c))
    unfolding plan_text net_of held
    plan_reads = printed_plan ∙ ap text (half (cable_count d)) ∙ rw (numbers, cables)
      where
        text : ℕ → List ℕ
        text l = line plan_word (decimal (switch_count d) ∷ decimal l ∷ []) ++ records (switch_line (net_of d)) (those 64 1 held) ++ records (link_line (net_of d)) (those l 0 (λ c. true))

        half : (l : ℕ) → 2 * l / 2 ≡ l
        half l = omega arith

        cables : those (cable_count d) 0 (λ c. true) ≡ tabulate (cable_count d) 0 (λ c. c)
        cables = those_first (λ c. true) (cable_count d) 0 (cable_count d) (omega arith) (λ c b l. (λ t. l, λ t. tt))

    pub switch_reads : (s : ℕ) → s < switch_count d
        → switch_line (net_of d) (number_at d s) ≡ line switch_word (decimal (number_at d s) ∷ hex 12 (uid_at d s) ∷ decimal (level (net_of d) s) ∷ decimal (parent_number (net_of d) s) ∷ [])
    unfolding net_of
    switch_reads s h = ap (λ t. line switch_word (decimal (number_at d s) ∷ hex 12 (uid_at d t) ∷ decimal (level (net_of d) t) ∷ decimal (parent_number (net_of d) t) ∷ [])) (held_by (net_of d) w (number_at d s) s h refl)
