-- The line of a refusal is what is printed.
use Prim.Native.Nat.{ℕ, ◌<◌}
use mathlib.Core.Path.{◌≡◌, sym, ap, ◌∙◌}
use mathlib.Core.List.{List, [], ◌∷◌}
use native.Mathlib.Omega.{arith}
use Rattle.topology_rules.specs.Check.{verdict}
use Rattle.topology.specs.Reasons.{number_of, refusal_of}
use Rattle.topology.specs.declared.refusal.Refusal.{Refusal}
use Rattle.topology.proofs.Determined.{some_number}
use Rattle.planner_rules.specs.Printed.{refused_word, decimal, line, printed}
use Rattle.planner_rules.proofs.PrintLaws.{print_laws}

-- a text that is the line of the description's refusal
pub refusal_told : (d : List ℕ) (f : Refusal) → refusal_of f ≡ verdict d → {t : List ℕ} → t ≡ line refused_word (decimal (number_of f.reason) ∷ decimal f.position ∷ []) → t ≡ printed d
refusal_told d f told e =
    let some : 0 < (verdict d).number = omega (arith, some_number f.reason, ap (λ v. v.number) told) in
    e ∙ ap (λ v. line refused_word (decimal v.number ∷ decimal v.position ∷ [])) told ∙ sym (print_laws.refused d some)
