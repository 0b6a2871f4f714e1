-- What a list of examples says once it is found right.
use Prim.Native.Nat.{ℕ}
use mathlib.Core.List.{List, [], ◌∷◌}
use mathlib.Core.Bool.{true}
use mathlib.Core.Path.{◌≡◌, refl, ap₂}
use lib.Dec.{T, eqb, eqb→eq}
use Rattle.topology_rules.specs.Case.{Case, same, all_right, AllSaid}
use Rattle.topology_rules.specs.Examples.{checks, checks_right, edits, edits_right}
use Rattle.topology_rules.proofs.Tests.{both_T}

same_is : (xs ys : List ℕ) → T (same xs ys) → xs ≡ ys
same_is [] [] t = refl
same_is [] (y ∷ ys) t = absurd t
same_is (x ∷ xs) [] t = absurd t
same_is (x ∷ xs) (y ∷ ys) t = let b = both_T (eqb x y) (same xs ys) t in ap₂ ◌∷◌ (eqb→eq x y b.0) (same_is xs ys b.1)

said : (cs : List Case) → T (all_right cs) → AllSaid cs
said [] t = tt
said (c ∷ cs) t = let b = both_T (same c.found c.said) (all_right cs) t in (same_is c.found c.said b.0, said cs b.1)

pub all_said : (cs : List Case) → all_right cs ≡ true → AllSaid cs
all_said cs e = said cs (rw e tt)

pub checks_said : AllSaid checks
checks_said = all_said checks checks_right

pub edits_said : AllSaid edits
edits_said = all_said edits edits_right
