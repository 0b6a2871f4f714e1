-- A machine answers an order and goes on to its next state. A run is a list of orders, refused ones included.
use Rattle.std.specs.Prelude.{ℕ, suc, List, [], ◌∷◌, Bool, true, cond}
use Rattle.topology_rules.specs.Count.{both}

pub record Machine (S O A : Type 0) : Type 0 where
  pub answer : S → O → A
  pub next : S → O → S

module _ {S O A : Type 0} (m : Machine S O A) where
  -- the state after the orders
  unfoldable pub last : S → List O → S
  last s [] = s
  last s (o ∷ os) = last (m.next s o) os

  unfoldable pub answers : S → List O → List A
  answers s [] = []
  answers s (o ∷ os) = m.answer s o ∷ answers (m.next s o) os

-- how many pass
unfoldable pub tally : {A : Type 0} → (A → Bool) → List A → ℕ
tally f [] = 0
tally f (a ∷ l) = cond (f a) (suc (tally f l)) (tally f l)

abbrev pub every : {A : Type 0} → (A → Bool) → List A → Bool
every f [] = true
every f (a ∷ l) = both (f a) (every f l)
