-- Tests as equations: what a loop over the numbers below a bound has found.
use mathlib.Core.Path.{◌≡◌, refl, sym, ◌∙◌, ap, subst}
use mathlib.Core.Bool.{Bool, true, false}
use Prim.Native.Nat.{ℕ, suc, ◌+◌, ◌*◌, ◌/◌, ◌%◌, ◌^◌}
use native.Mathlib.Numerals.{add-one}
use native.Mathlib.Omega.{arith}
use lib.Dec.{T, eqb}
use Rattle.topology_rules.specs.Count.{either, bit, any}

pub true_T : (b : Bool) → b ≡ true → T b
true_T b e = rw e tt

pub T_true : (b : Bool) → T b → b ≡ true
T_true true t = refl
T_true false t = absurd t

pub not_true_false : (b : Bool) → (T b → ⊥) → b ≡ false
not_true_false true n = absurd (n tt)
not_true_false false n = refl

-- one number more
pub any_suc : (f : ℕ → Bool) (k : ℕ) → any (suc k) f ≡ either (any k f) (f k)
unfolding any
any_suc f k = go (any k f)
  where
    go : (b : Bool) → elim b [ true ↦ true | false ↦ f k ] ≡ either b (f k)
    go true = refl
    go false = refl

pub any_none : (f : ℕ → Bool) → any 0 f ≡ false
unfolding any
any_none f = refl

-- the second test settles it where the first fails
pub either_left : (a b : Bool) → a ≡ true → either a b ≡ true
either_left a b e = rw e refl

pub either_right : (a b : Bool) → a ≡ false → either a b ≡ b
either_right a b e = rw e refl

pub either_none : (a b : Bool) → either a b ≡ false → (a ≡ false) × (b ≡ false)
either_none true b e = absurd (subst T e tt)
either_none false b e = (refl, e)

-- two numbers more
pub any_two : (f : ℕ → Bool) (c : ℕ) → either (either (any (2 * c) f) (f (2 * c))) (f (2 * c + 1)) ≡ any (2 * (c + 1)) f
any_two f c =
    let n : 2 * (c + 1) ≡ suc (suc (2 * c)) = omega arith in
    rw (n, add-one, any_suc, any_suc) refl

-- the lowest bit
pub lowest : (h k : ℕ) → h ≡ k → eqb (h % 2) 1 ≡ bit k 0
lowest h k e = let s : h % 2 ≡ k / 2 ^ 0 % 2 = omega arith in ap (λ x. eqb x 1) s

-- `a || b` in the code, where A and B are what the rules say of the two
module _ (a A B : Bool) (e : a ≡ A) where
  pub or_left : a ≡ true → a ≡ either A B
  or_left t = t ∙ sym (either_left A B (sym e ∙ t))

  pub or_right : (b : Bool) → a ≡ false → b ≡ B → b ≡ either A B
  or_right b t s = s ∙ sym (either_right A B (sym e ∙ t))
