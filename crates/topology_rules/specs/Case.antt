-- Examples that the checker computes: what the rules give beside what they should give.
use Rattle.std.specs.Prelude.{ℕ, List, [], ◌∷◌, Bool, true, false, ◌≡◌, nat_eq}
use Rattle.topology_rules.specs.Count.{both}
use Rattle.topology_rules.specs.Check.{Verdict}

-- an example: its number, what the rules give, and what they should give
pub record Case : Type 0 where
  pub example : ℕ
  pub found : List ℕ
  pub said : List ℕ

abbrev pub case : ℕ → List ℕ → List ℕ → Case
case k a b = record { example = k; found = a; said = b }

abbrev pub same : List ℕ → List ℕ → Bool
same [] [] = true
same [] (y ∷ ys) = false
same (x ∷ xs) [] = false
same (x ∷ xs) (y ∷ ys) = both (nat_eq x y) (same xs ys)

abbrev pub all_right : List Case → Bool
all_right [] = true
all_right (c ∷ cs) = both (same c.found c.said) (all_right cs)

-- number and position
abbrev pub shown : Verdict → List ℕ
shown v = v.number ∷ v.position ∷ []

-- the same as a statement: each example gives what it should
abbrev pub AllSaid : List Case → Type 0
AllSaid [] = Unit {0}
AllSaid (c ∷ cs) = (c.found ≡ c.said) × AllSaid cs
