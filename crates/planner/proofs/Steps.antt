-- What a loop changes and tests step by step.
use Prim.Native.Nat.{ℕ, suc, zero, ◌+◌, ◌<◌}
use mathlib.Core.Path.{◌≡◌, refl, sym, ap, ◌∙◌}
use mathlib.Core.Logic.{◌⊎◌, inl, inr}
use mathlib.Core.List.{List}
use mathlib.Core.Bool.{Bool, true, false, ◌||◌}
use native.Mathlib.Numerals.{add-one}
use native.Mathlib.Omega.{arith}
use lib.Dec.{eqb, eqb→eq}
use lib.ListN.{get_or, set, length, replicate}
use lib.Seq.{get_or-set_same, get_or-set_other}
use Rattle.topology_rules.specs.Count.{any}
use Rattle.planner.specs.Rows.{Tells}
use Rattle.planner.specs.Rounds.{in_turn}
use Rattle.topology_rules.proofs.Tests.{decide, split, eq→eqb}

module _ {A : Type 0} where
  -- k times v, and v past its end
  pub same_anywhere : (k i : ℕ) (v : A) → get_or (replicate k v) i v ≡ v
  same_anywhere zero i v = refl
  same_anywhere (suc k) zero v = refl
  same_anywhere (suc k) (suc i) v = same_anywhere k i v

  -- an element after one was set
  pub set_cases : (l : List A) (i j : ℕ) (v d : A) → i < length l → ((j ≡ i) × (get_or (set l i v) j d ≡ v)) ⊎ ((j ≡ i → ⊥) × (get_or (set l i v) j d ≡ get_or l j d))
  set_cases l i j v d h = elim (decide (eqb j i)) [
    | inl t ↦ let e = eqb→eq j i t in inl (e, rw e (get_or-set_same l i v d h))
    | inr n ↦ let o : j ≡ i → ⊥ = λ e. n (eq→eqb j i e) in inr (o, get_or-set_other l i j v d o)
  ]

  module _ (step : ℕ → A → A) where
    -- no step yet
    pub turn_first : (f : A) → f ≡ in_turn 0 step f
    unfolding in_turn
    turn_first f = refl

    -- one step more
    pub turn_next : (f₀ f g : A) (i : ℕ) → f ≡ in_turn i step f₀ → g ≡ step i f → g ≡ in_turn (i + 1) step f₀
    unfolding in_turn
    turn_next f₀ f g i e h = rw add-one (h ∙ ap (step i) e)

    -- what holds at the start and is kept by each step holds at the end
    pub turn_keeps : (P : ℕ → A → Type 0) (k : ℕ) (f : A) → P 0 f → ((i : ℕ) (g : A) → i < k → P i g → P (suc i) (step i g)) → P k (in_turn k step f)
    unfolding in_turn
    turn_keeps P zero f p s = p
    turn_keeps P (suc k) f p s = s k (in_turn k step f) (omega arith) (turn_keeps P k f p (λ i g h. s i g (omega arith)))

-- a list filled from the front
pub tells_next : (l : List ℕ) (f : ℕ → ℕ) (i v : ℕ) → i < length l → Tells i l f → v ≡ f i → Tells (i + 1) (set l i v) f
tells_next l f i v h t e j b = elim (set_cases l i j v 0 h) [
  | inl c ↦ c.1 ∙ e ∙ ap f (sym c.0)
  | inr c ↦ c.1 ∙ t j (elim (split j i) [ inl s ↦ s | inr s ↦ absurd (c.0 (omega arith)) ])
]

-- A test at each of the steps passed.
module _ (f : ℕ → Bool) where
  -- none has passed yet
  pub any_first : false ≡ any 0 f
  unfolding any
  any_first = refl

  -- the next may
  pub any_next : (k : ℕ) (c r : Bool) → c ≡ any k f → r ≡ f k → (c || r) ≡ any (k + 1) f
  unfolding any
  any_next k c r e d = rw (add-one, e, d) (go (any k f))
    where
      go : (b : Bool) → (b || f k) ≡ elim b [ true ↦ true | false ↦ f k ]
      go true = refl
      go false = refl

  -- where none of suc k passes, no earlier one does, nor the last
  pub none_passes : (k : ℕ) → any (suc k) f ≡ false → (any k f ≡ false) × (f k ≡ false)
  unfolding any
  none_passes k = go (any k f)
    where
      go : (b : Bool) → elim b [ true ↦ true | false ↦ f k ] ≡ false → (b ≡ false) × (f k ≡ false)
      go true e = absurd cc
      go false e = (refl, e)
