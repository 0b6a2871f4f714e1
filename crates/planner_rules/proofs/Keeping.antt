-- The program prints of the bytes it keeps what it would print of all that it reads.
use Prim.Native.Nat.{ℕ, ◌≤◌, ◌<◌}
use mathlib.Core.List.{List}
use mathlib.Core.Logic.{◌⊎◌, inl, inr}
use mathlib.Core.Path.{◌≡◌, ap, sym, ◌∙◌}
use native.Mathlib.Omega.{arith}
use lib.ListN.{length, take}
use lib.Seq.{take_all}
use Rattle.topology_rules.specs.Check.{verdict}
use Rattle.topology_rules.proofs.Tests.{split}
use Rattle.topology_rules.proofs.Laws.{accepted_exactly, refusal_laws}
use Rattle.planner_rules.specs.Printed.{printed, program}
use Rattle.planner_rules.proofs.PrintedPlan.{refusal_line, printed_refused}

pub kept_enough : (input : List ℕ) → program input ≡ printed input
kept_enough input = go (split 2057 (length input))
  where
    same : verdict (take 2058 input) ≡ verdict input
    same = (refusal_laws input).check_prefix

    go : (2057 < length input) ⊎ (length input ≤ 2057) → program input ≡ printed input
    go (inr h) = ap printed (take_all 2058 input (omega arith))
    go (inl h) =
        let bad : (verdict input).number ≡ 0 → ⊥ = λ e. let a = (accepted_exactly input).0 e in omega (arith, a.size, a.few_switches, a.few_cables) in
        let t : 0 < (verdict input).number = omega arith in
        printed_refused (take 2058 input) (rw same t) ∙ ap refusal_line same ∙ sym (printed_refused input t)
