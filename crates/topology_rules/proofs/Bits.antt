-- The bits of a number.
use Prim.Native.Nat.{ℕ, suc, zero, ◌+◌, ◌-◌, ◌*◌, ◌/◌, ◌%◌, ◌^◌, ◌<◌, ◌≤◌}
use mathlib.Core.Bool.{Bool, true, false, not, cond}
use mathlib.Core.Logic.{◌⊎◌, inl, inr, ◌↔◌}
use mathlib.Core.Path.{◌≡◌, refl, sym, subst, ap, ◌∙◌}
use native.Mathlib.Omega.{arith}
use native.Mathlib.Nat.{two-pow-succ, pow-suc, div-eq_of_lt, le-div_iff_mul-le, mul-add-div_right, div-one, lt_of_lt_of_le, one-mul, zero-add, add-zero}
use lib.Arith.{bin_ind}
use lib.Dec.{T, eqb, eqb→eq}
use lib.Pow.{pow_pos, pow_mono, pow-add, pow-lt, shr-shr, high}
use Rattle.topology_rules.specs.Count.{bit, bits}
use Rattle.topology_rules.proofs.Tests.{decide, or_not, split, eq→eqb, neqb→ne}
use Rattle.topology_rules.proofs.Searches.{below_cases}

-- above its power a number has no bit
pub no_bit : (k m p : ℕ) → m < 2 ^ k → k ≤ p → bit m p ≡ false
no_bit k m p h l = rw (div-eq_of_lt {n = m} {m = 2 ^ p} (lt_of_lt_of_le h (pow_mono l)))

pub bits_lt : (k : ℕ) (f : ℕ → Bool) → bits k f < 2 ^ k
unfolding bits
bits_lt zero f = omega arith
bits_lt (suc k) f = go (f k) (bits_lt k f)
  where
    go : (b : Bool) → bits k f < 2 ^ k → cond b (2 ^ k) 0 + bits k f < 2 ^ suc k
    go true h = omega (arith, two-pow-succ k)
    go false h = omega (arith, two-pow-succ k)

bit_shifted : (d p m : ℕ) → bit (2 ^ (suc d + p) + m) p ≡ bit m p
bit_shifted d p m = rw (pow-add 2 (suc d) p, pow-suc 2 d, mul-add-div_right (pow_pos p)) (ap (λ (x : ℕ). eqb x 1) (even (2 ^ d) (m / 2 ^ p)))
  where
    even : (a b : ℕ) → (a * 2 + b) % 2 ≡ b % 2
    even a b = omega arith

-- a higher power leaves the bits below it
pub bit_below : (k m p : ℕ) → p < k → bit (2 ^ k + m) p ≡ bit m p
bit_below k m p h = subst (λ (j : ℕ). bit (2 ^ j + m) p ≡ bit m p) (back k p h) (bit_shifted (k - suc p) p m)
  where
    back : (k p : ℕ) → p < k → suc (k - suc p) + p ≡ k
    back k p h = omega arith

pub bit_at : (k m : ℕ) → m < 2 ^ k → bit (2 ^ k + m) k ≡ true
bit_at k m h = ap (λ (x : ℕ). eqb (x % 2) 1) (ap (λ (y : ℕ). (y + m) / 2 ^ k) (sym (one-mul (2 ^ k))) ∙ high 1 k h)

-- and the number of a set has exactly its bits
pub bits_bit : (k : ℕ) (f : ℕ → Bool) (p : ℕ) → p < k → bit (bits k f) p ≡ f p
unfolding bits
bits_bit zero f p h = absurd (omega arith)
bits_bit (suc k) f p h = go (f k) refl (below_cases p k h) (bits_bit k f p)
  where
    go : (b : Bool) → f k ≡ b → (p ≡ k) ⊎ (p < k) → (p < k → bit (bits k f) p ≡ f p) → bit (cond b (2 ^ k) 0 + bits k f) p ≡ f p
    go true e (inr l) ih = bit_below k (bits k f) p l ∙ ih l
    go false e (inr l) ih = rw zero-add (ih l)
    go true e (inl s) ih = rw s (bit_at k (bits k f) (bits_lt k f) ∙ sym e)
    go false e (inl s) ih = rw (zero-add, s) (no_bit k (bits k f) k (bits_lt k f) (omega arith) ∙ sym e)

pub zero_bit : (p : ℕ) → bit 0 p ≡ false
zero_bit p = no_bit 0 0 p (omega arith) (omega arith)

pub bit_pos : (m p : ℕ) → T (bit m p) → 0 < m
bit_pos zero p t = absurd (subst T (zero_bit p) t)
bit_pos (suc m) p t = omega arith

pub power_bit : (k p : ℕ) → T (bit (2 ^ k) p) ↔ (p ≡ k)
power_bit k p = (λ t. go t (split p k) (split k p), λ e. subst T (sym (top e)) tt)
  where
    top : p ≡ k → bit (2 ^ k) p ≡ true
    top e = ap (λ (q : ℕ). bit (2 ^ k) q) e ∙ ap (λ (m : ℕ). bit m k) (sym (add-zero (2 ^ k))) ∙ bit_at k 0 (pow_pos k)

    go : T (bit (2 ^ k) p) → (p < k) ⊎ (k ≤ p) → (k < p) ⊎ (p ≤ k) → p ≡ k
    go t (inl h) c = absurd (subst T (ap (λ (m : ℕ). bit m p) (sym (add-zero (2 ^ k))) ∙ bit_below k 0 p h ∙ zero_bit p) t)
    go t (inr h) (inl l) = absurd (subst T (no_bit (suc k) (2 ^ k) p (pow-lt {j = suc k} (omega arith)) l) t)
    go t (inr h) (inr l) = omega arith

-- the bits from k on
pub bit_from : (k m p : ℕ) → bit (m / 2 ^ k) p ≡ bit m (k + p)
bit_from k m p = ap (λ (x : ℕ). eqb (x % 2) 1) (shr-shr m k p)

half_bit : (a p : ℕ) → bit (a / 2) p ≡ bit a (suc p)
half_bit a p = let next : 1 + p ≡ suc p = omega arith in bit_from 1 a p ∙ ap (bit a) next

-- a number above 0 has a bit
pub some_bit : (m : ℕ) → 0 < m → (p : ℕ) × T (bit m p)
some_bit = bin_ind (λ m. 0 < m → (p : ℕ) × T (bit m p)) (λ h. absurd (omega arith)) (λ m ih h. odd? m ih h (decide (eqb (m % 2) 1)))
  where
    odd? : (m : ℕ) → (0 < m / 2 → (p : ℕ) × T (bit (m / 2) p)) → 0 < m → T (eqb (m % 2) 1) ⊎ (T (eqb (m % 2) 1) → ⊥) → (p : ℕ) × T (bit m p)
    odd? m ih h (inl t) = (0, rw div-one t)
    odd? m ih h (inr d) =
        let even : m % 2 ≡ 1 → ⊥ = λ e. d (eq→eqb (m % 2) 1 e) in
        let w = ih (omega arith) in
        (suc w.0, rw (← half_bit) w.1)

-- a number reaches a power exactly if it has a bit from there on
pub high_bit : (k m : ℕ) → (2 ^ k ≤ m) ↔ ((p : ℕ) × (k ≤ p) × T (bit m p))
high_bit k m = (up, λ r. elim (split m (2 ^ k)) [ inl h ↦ absurd (subst T (no_bit k m r.0 h r.1) r.2) | inr h ↦ h ])
  where
    up : 2 ^ k ≤ m → (p : ℕ) × (k ≤ p) × T (bit m p)
    up h = let w = some_bit (m / 2 ^ k) ((le-div_iff_mul-le (pow_pos k)).1 (rw one-mul h)) in (k + w.0, omega arith, subst T (bit_from k m w.0) w.1)

same_digit : (x y : ℕ) → x < 2 → y < 2 → eqb x 1 ≡ eqb y 1 → x ≡ y
same_digit x y h l e = go (or_not (eqb x 1)) (or_not (eqb y 1))
  where
    go : T (eqb x 1) ⊎ T (not (eqb x 1)) → T (eqb y 1) ⊎ T (not (eqb y 1)) → x ≡ y
    go (inl a) c = omega (arith, eqb→eq x 1 a, eqb→eq y 1 (subst T e a))
    go (inr a) (inl b) = absurd (neqb→ne x 1 a (eqb→eq x 1 (subst T (sym e) b)))
    go (inr a) (inr b) = omega (arith, neqb→ne x 1 a, neqb→ne y 1 b)

-- a number is known by its bits
pub same_bits : (k a b : ℕ) → a < 2 ^ k → b < 2 ^ k → ((p : ℕ) → p < k → bit a p ≡ bit b p) → a ≡ b
same_bits zero a b h l e = omega arith
same_bits (suc k) a b h l e =
    let halves : a / 2 ≡ b / 2 =
    same_bits k (a / 2) (b / 2) (omega (arith, two-pow-succ k)) (omega (arith, two-pow-succ k))
    (λ p i. half_bit a p ∙ e (suc p) (omega arith) ∙ sym (half_bit b p)) in
    let last = same_digit (a / 1 % 2) (b / 1 % 2) (omega arith) (omega arith) (e 0 (omega arith)) in
    omega arith
