-- Tests as facts: what a compound test says, and back.
use mathlib.Core.Path.{◌≡◌, refl}
use mathlib.Core.Logic.{◌⊎◌, inl, inr, ◌≢◌}
use mathlib.Core.Bool.{Bool, true, false, cond, not}
use Prim.Native.Nat.{ℕ, ◌≤◌, ◌<◌}
use native.Mathlib.Omega.{arith}
use lib.Dec.{T, ltb, eqb, not_T, T_not, ltb→lt, nltb→le, eqb→eq, eqb_refl}
use Rattle.topology_rules.specs.Count.{both, either}

-- a test passes, or it does not
pub decide : (b : Bool) → T b ⊎ (T b → ⊥)
decide true = inl tt
decide false = inr (λ t. t)

pub or_not : (b : Bool) → T b ⊎ T (not b)
or_not true = inl tt
or_not false = inr tt

pub surely : (b : Bool) → (T (not b) → ⊥) → T b
surely true d = tt
surely false d = d tt

pub same_test : (a b : Bool) → (T a → T b) → (T b → T a) → a ≡ b
same_test true true f g = refl
same_test true false f g = absurd (f tt)
same_test false true f g = absurd (g tt)
same_test false false f g = refl

-- numbers
pub split : (a b : ℕ) → (a < b) ⊎ (b ≤ a)
split a b = elim (decide (ltb a b)) [ inl h ↦ inl (ltb→lt a b h) | inr h ↦ inr (nltb→le a b (not_T (ltb a b) h)) ]

pub compare : (a b : ℕ) → (a ≡ b) ⊎ ((a < b) ⊎ (b < a))
compare a b = elim (split a b) [ inl h ↦ inr (inl h) | inr h ↦ elim (split b a) [ inl l ↦ inr (inr l) | inr l ↦ inl (omega arith) ] ]

pub eq→eqb : (a b : ℕ) → a ≡ b → T (eqb a b)
eq→eqb a b e = rw e (eqb_refl b)

pub ne→neqb : (a b : ℕ) → a ≢ b → T (not (eqb a b))
ne→neqb a b h = not_T (eqb a b) (λ t. h (eqb→eq a b t))

pub neqb→ne : (a b : ℕ) → T (not (eqb a b)) → a ≢ b
neqb→ne a b t e = T_not (eqb a b) t (eq→eqb a b e)

pub not_different : (a b : ℕ) → ((a ≢ b) → ⊥) → a ≡ b
not_different a b h = eqb→eq a b (surely (eqb a b) (λ t. h (neqb→ne a b t)))

-- two tests
pub both_T : (a b : Bool) → T (both a b) → T a × T b
both_T true b t = (tt, t)
both_T false b t = absurd t

pub T_both : (a b : Bool) → T a → T b → T (both a b)
T_both true b p q = q
T_both false b p q = absurd p

pub either_T : (a b : Bool) → T (either a b) → T a ⊎ T b
either_T true b t = inl tt
either_T false b t = inr t

pub T_either : (a b : Bool) → T a ⊎ T b → T (either a b)
T_either true b t = tt
T_either false b (inl t) = absurd t
T_either false b (inr t) = t

pub neither : (a b : Bool) → (T (either a b) → ⊥) → (T a → ⊥) × (T b → ⊥)
neither a b d = (λ t. d (T_either a b (inl t)), λ t. d (T_either a b (inr t)))

pub not_either : (a b : Bool) → T (not a) → T (not b) → T (not (either a b))
not_either true b s t = s
not_either false b s t = t

pub either_not : (a b : Bool) → T (either a b) → T (not a) → T b
either_not true b t s = absurd s
either_not false b t s = t

pub either_if : (a b : Bool) → (T (not a) → T b) → T (either a b)
either_if true b h = tt
either_if false b h = h tt

-- the two shapes that searches are written in: the second test waits for the first
pub or_T : (a b : Bool) → T (elim a [ true ↦ true | false ↦ b ]) → T a ⊎ T b
or_T true b t = inl tt
or_T false b t = inr t

pub T_or : (a b : Bool) → T a ⊎ T b → T (elim a [ true ↦ true | false ↦ b ])
T_or true b t = tt
T_or false b (inl t) = absurd t
T_or false b (inr t) = t

pub and_T : (a b : Bool) → T (elim a [ true ↦ b | false ↦ false ]) → T a × T b
and_T true b t = (tt, t)
and_T false b t = absurd t

pub T_and : (a b : Bool) → T a → T b → T (elim a [ true ↦ b | false ↦ false ])
T_and true b p q = q
T_and false b p q = absurd p

-- a choice by a test
pub choose : {A : Type 0} (P : A → Type 0) (b : Bool) (x y : A) → (T b → P x) → ((T b → ⊥) → P y) → P (elim b as (λ c. A) [ true ↦ x | false ↦ y ])
choose P true x y p q = p tt
choose P false x y p q = q (λ t. t)

pub choose_cond : {A : Type 0} (P : A → Type 0) (b : Bool) (x y : A) → (T b → P x) → ((T b → ⊥) → P y) → P (cond b x y)
choose_cond P true x y p q = p tt
choose_cond P false x y p q = q (λ t. t)

pub cond_is : {A : Type 0} (b : Bool) (x y : A) → T b → cond b x y ≡ x
cond_is true x y t = refl
cond_is false x y t = absurd t

pub cond_not : {A : Type 0} (b : Bool) (x y : A) → T (not b) → cond b x y ≡ y
cond_not true x y t = absurd t
cond_not false x y t = refl
