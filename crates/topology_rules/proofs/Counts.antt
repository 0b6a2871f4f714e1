-- How many numbers below a bound pass.
use mathlib.Core.Path.{◌≡◌}
use mathlib.Core.Logic.{◌⊎◌, inl, inr}
use mathlib.Core.Bool.{Bool, true, false, not, cond}
use Prim.Native.Nat.{ℕ, suc, zero, ◌≤◌, ◌<◌}
use native.Mathlib.Nat.{not-suc-le-zero}
use native.Mathlib.Decide.{le_ind}
use native.Mathlib.Omega.{arith}
use lib.Dec.{T, not_T, T_not}
use Rattle.topology_rules.specs.Count.{both, any, count}
use Rattle.topology_rules.proofs.Tests.{decide, split, both_T, T_both, choose_cond}
use Rattle.topology_rules.proofs.Searches.{below_cases, any_T, T_any}

pub count_le : (f : ℕ → Bool) (k : ℕ) → count k f ≤ k
unfolding count
count_le f zero = omega arith
count_le f (suc k) = choose_cond (λ x. x ≤ suc k) (f k) (suc (count k f)) (count k f) (λ t. omega (arith, count_le f k)) (λ d. omega (arith, count_le f k))

pub count_none : (f : ℕ → Bool) (k : ℕ) → ((i : ℕ) → i < k → T (f i) → ⊥) → count k f ≡ 0
unfolding count
count_none f zero d = omega arith
count_none f (suc k) d =
    choose_cond (λ x. x ≡ 0) (f k) (suc (count k f)) (count k f) (λ t. absurd (d k (omega arith) t)) (λ n. count_none f k (λ i h. d i (omega arith)))

pub count_all : (f : ℕ → Bool) (k : ℕ) → ((i : ℕ) → i < k → T (f i)) → count k f ≡ k
unfolding count
count_all f zero t = omega arith
count_all f (suc k) t =
    choose_cond (λ x. x ≡ suc k) (f k) (suc (count k f)) (count k f) (λ u. omega (arith, count_all f k (λ i h. t i (omega arith)))) (λ n. absurd (n (t k (omega arith))))

step_le : (p q : Bool) (x y : ℕ) → (T p → T q) → x ≤ y → cond p (suc x) x ≤ cond q (suc y) y
step_le true true x y sub h = omega arith
step_le true false x y sub h = absurd (sub tt)
step_le false true x y sub h = omega arith
step_le false false x y sub h = h

step_lt : (p q : Bool) (x y : ℕ) → (T p → T q) → x < y → cond p (suc x) x < cond q (suc y) y
step_lt true true x y sub h = omega arith
step_lt true false x y sub h = absurd (sub tt)
step_lt false true x y sub h = omega arith
step_lt false false x y sub h = h

step_new : (p q : Bool) (x y : ℕ) → (T p → ⊥) → T q → x ≤ y → cond p (suc x) x < cond q (suc y) y
step_new true q x y d t h = absurd (d tt)
step_new false true x y d t h = omega arith
step_new false false x y d t h = absurd t

step_one : (p q : Bool) (x y : ℕ) → (T q → (T p → ⊥) → y ≤ x) → y ≤ suc x → cond q (suc y) y ≤ suc (cond p (suc x) x)
step_one true true x y d h = omega arith
step_one true false x y d h = omega arith
step_one false true x y d h = let l = d tt (λ t. t) in omega arith
step_one false false x y d h = h

module _ (f g : ℕ → Bool) where
  pub count_mono : (k : ℕ) → ((i : ℕ) → i < k → T (f i) → T (g i)) → count k f ≤ count k g
  unfolding count
  count_mono zero sub = omega arith
  count_mono (suc k) sub = step_le (f k) (g k) (count k f) (count k g) (sub k (omega arith)) (count_mono k (λ i h. sub i (omega arith)))

  -- one more passes
  pub count_more : (k : ℕ) → ((i : ℕ) → i < k → T (f i) → T (g i)) → (i : ℕ) → i < k → (T (f i) → ⊥) → T (g i) → count k f < count k g
  unfolding count
  count_more zero sub i h d t = absurd (not-suc-le-zero h)
  count_more (suc k) sub i h d t = elim (below_cases i k h) [
    | inl e ↦ step_new (f k) (g k) (count k f) (count k g) (rw e at d) (rw e at t) (count_mono k (λ j l. sub j (omega arith)))
    | inr l ↦ step_lt (f k) (g k) (count k f) (count k g) (sub k (omega arith)) (count_more k (λ j m. sub j (omega arith)) i l d t)
  ]

  -- a larger set has more, or is the same
  pub count_grows : (k : ℕ) → ((i : ℕ) → i < k → T (f i) → T (g i)) → (count k f < count k g) ⊎ ((i : ℕ) → i < k → T (g i) → T (f i))
  count_grows k sub = elim (decide (any k extra)) [
    | inl t ↦ let w = any_T extra k t in let p = both_T (not (f w.0)) (g w.0) w.2 in
        inl (count_more k sub w.0 w.1 (T_not (f w.0) p.0) p.1)
    | inr d ↦ inr (λ i h t. elim (decide (f i)) [ inl p ↦ p | inr p ↦ absurd (d (T_any extra k i h (T_both (not (f i)) (g i) (not_T (f i) p) t))) ])
  ]
    where
      extra : ℕ → Bool
      extra i = both (not (f i)) (g i)

-- one more passes at most
pub count_one_more : (f g : ℕ → Bool) (k : ℕ)
    → ((i j : ℕ) → i < k → j < k → T (g i) → (T (f i) → ⊥) → T (g j) → (T (f j) → ⊥) → i ≡ j) → count k g ≤ suc (count k f)
unfolding count
count_one_more f g zero once = omega arith
count_one_more f g (suc k) once = step_one (f k) (g k) (count k f) (count k g) rest (count_one_more f g k (λ i j p q. once i j (omega arith) (omega arith)))
  where
    -- no other is new beside k
    rest : T (g k) → (T (f k) → ⊥) → count k g ≤ count k f
    rest t d = count_mono g f k (λ i h u. elim (decide (f i)) [ inl p ↦ p | inr n ↦ absurd (omega (arith, once i k (omega arith) (omega arith) u n t d)) ])

-- A growing family of sets below k that stands still once it has not grown: it is complete after k - 1 steps.
module _ (f : ℕ → ℕ → Bool) (k : ℕ) (grows : (m i : ℕ) → i < k → T (f m i) → T (f (suc m) i)) where
  abbrev pub Still : ℕ → Type 0
  Still m = (i : ℕ) → i < k → T (f (suc m) i) → T (f m i)

  module _ (stays : (m : ℕ) → Still m → Still (suc m)) (start : ℕ) (below : start < k) (starts : T (f 0 start)) where
    many : (m : ℕ) → (m < count k (f m)) ⊎ Still m
    many zero = inl (omega (arith, count_more (λ i. false) (f 0) k (λ i h t. absurd t) start below (λ t. t) starts))
    many (suc m) = elim (many m) [ inr s ↦ inr (stays m s) | inl h ↦ elim (count_grows (f m) (f (suc m)) k (grows m)) [ inl l ↦ inl (omega arith) | inr s ↦ inr (stays m s) ] ]

    still : (p : ℕ) → k ≤ suc p → Still p
    still p h = elim (many p) [
      | inr s ↦ s
      | inl l ↦ elim (count_grows (f p) (f (suc p)) k (grows p)) [ inr s ↦ s | inl l' ↦ absurd (omega (arith, count_le (f (suc p)) k)) ]
    ]

    pub complete : (p m i : ℕ) → k ≤ suc p → i < k → T (f m i) → T (f p i)
    complete p zero i h l t = le_ind (λ q. T (f q i)) t (λ q _ r. grows q i l r) p (omega arith)
    complete p (suc m) i h l t = elim (split m p) [
      | inl b ↦ le_ind (λ q. T (f q i)) t (λ q _ r. grows q i l r) p b
      | inr b ↦ complete p m i h l (still m (omega arith) i l t)
    ]
