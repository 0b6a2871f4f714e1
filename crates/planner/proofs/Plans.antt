-- The parts of a plan: its first line, the lines of the switches, the lines of the cables.
use Prim.Native.Nat.{ℕ, ◌+◌, ◌≤◌, ◌<◌}
use mathlib.Core.Path.{◌≡◌, sym, ap, ◌∙◌}
use mathlib.Core.List.{List, [], ◌∷◌, ◌++◌}
use native.Mathlib.Omega.{arith}
use lib.ListN.{length, length-append}
use Rattle.topology_rules.specs.Format.{switch_count, cable_count}
use Rattle.topology_rules.specs.Check.{verdict}
use Rattle.topology_rules.specs.Accepted.{Accepted}
use Rattle.topology_rules.specs.Net.{net_of}
use Rattle.topology_rules.proofs.Laws.{accepted_exactly, accepted_well_formed, description_laws}
use Rattle.planner_rules.specs.Table.{holder}
use Rattle.planner_rules.specs.Printed.{plan_word, decimal, line, printed}
use Rattle.planner_rules.proofs.Addresses.{held_exactly}
use Rattle.planner_rules.proofs.PrintedPlan.{plan_reads}
use Rattle.planner_rules.proofs.PrintLaws.{print_laws}
use Rattle.planner.specs.Lines.{switch_lines, link_lines}
use Rattle.planner.specs.Room.{HasRoom}

module _ (d : List ℕ) (a : Accepted d) where
  -- it is not refused
  ok : (verdict d).number ≡ 0
  ok = (accepted_exactly d).1 a

  -- each of the numbers 1 to S has a holder
  pub number_held : (k : ℕ) → 0 < k → k ≤ switch_count d → holder (net_of d) k < switch_count d
  unfolding net_of
  number_held k low high =
      let (number, range) = (description_laws d ok).numbers.held k in
      (held_exactly (net_of d) (accepted_well_formed d ok) k).1 (number (low, high))

  -- the counts as the tree tells them, and a text that begins empty
  module _ (s l : ℕ) (se : s ≡ switch_count d) (le : l ≡ cable_count d) {start : List ℕ} (empty : start ≡ []) where
    abbrev heading : List ℕ
    heading = line plan_word (decimal s ∷ decimal l ∷ [])

    -- the three parts are the plan
    text : heading ++ switch_lines d ++ link_lines d ≡ printed d
    text = rw (se, le) (sym (plan_reads d ok))

    -- together they fit
    short : length heading + length (switch_lines d) + length (link_lines d) ≤ 5452
    short = omega (arith, print_laws.short d, ap length text, length-append (heading ++ switch_lines d) (link_lines d), length-append heading (switch_lines d))

    -- there is room for the first line
    pub heading_room : HasRoom start heading
    heading_room = omega (arith, short, ap length empty)

    module _ {t : List ℕ} (first : t ≡ start ++ heading) where
      -- it is all that is written
      begun : t ≡ heading
      begun = first ∙ ap (λ o. o ++ heading) empty

      -- there is room for the lines of the switches
      pub switches_room : HasRoom t (switch_lines d)
      switches_room = omega (arith, short, ap length begun)

      module _ {u : List ℕ} (second : u ≡ t ++ switch_lines d) where
        -- there is room for the lines of the cables
        pub links_room : HasRoom u (link_lines d)
        links_room = omega (arith, short, ap length begun, ap length second, length-append t (switch_lines d))

        -- then the plan is written
        pub plan_told : {v : List ℕ} → v ≡ u ++ link_lines d → v ≡ printed d
        plan_told third = third ∙ ap (λ o. o ++ link_lines d) (second ∙ ap (λ o. o ++ switch_lines d) begun) ∙ text
