-- Switch numbers: each from 1 to S is one switch's.
use mathlib.Core.Path.{◌≡◌, ap}
use mathlib.Core.Logic.{inl, inr, ◌↔◌}
use mathlib.Core.Bool.{Bool}
use mathlib.Core.List.{List}
use Prim.Native.Nat.{ℕ, suc, zero, ◌+◌, ◌-◌, ◌≤◌, ◌<◌}
use native.Mathlib.Nat.{zero-add}
use native.Mathlib.Omega.{arith}
use lib.Dec.{T, eqb, ltb, eqb→eq, ltb→lt, lt→ltb}
use Rattle.topology_rules.specs.Count.{any, count}
use Rattle.topology_rules.specs.Format.{switch_count, uid_at}
use Rattle.topology_rules.specs.Net.{number_at}
use Rattle.topology_rules.specs.Accepted.{Accepted}
use Rattle.topology_rules.proofs.Tests.{decide, eq→eqb}
use Rattle.topology_rules.proofs.Searches.{any_T, T_any}
use Rattle.topology_rules.proofs.Counts.{count_mono, count_none, count_all, count_one_more}
use Rattle.topology_rules.proofs.Soundness.{numbers_differ, numbers_high}

-- n numbers below n, no two the same, are all of them
module _ (h : ℕ → ℕ) (n : ℕ) (once : (i j : ℕ) → i < n → j < n → h i ≡ h j → i ≡ j) (low : (i : ℕ) → i < n → h i < n) where
  -- how many are below k
  below : ℕ → ℕ → Bool
  below k i = ltb (h i) k

  one : (k : ℕ) → count n (below (suc k)) ≤ suc (count n (below k))
  unfolding below
  one k = count_one_more (below k) (below (suc k)) n (λ i j p q a b c e. once i j p q (omega (arith, at i a b, at j c e)))
    where
      at : (i : ℕ) → T (ltb (h i) (suc k)) → (T (ltb (h i) k) → ⊥) → h i ≡ k
      at i t d = let f : h i < k → ⊥ = λ l. d (lt→ltb (h i) k l) in omega (arith, ltb→lt (h i) (suc k) t)

  grow : (m j : ℕ) → count n (below (m + j)) ≤ count n (below m) + j
  grow m zero = let e : m + 0 ≡ m = omega arith in rw e (omega arith)
  grow m (suc j) = let e : m + suc j ≡ suc (m + j) = omega arith in rw e (omega (arith, one (m + j), grow m j))

  pub onto : (k : ℕ) → k < n → (i : ℕ) × (i < n) × (h i ≡ k)
  unfolding below
  onto k l = elim (decide (any n (λ i. eqb (h i) k))) [
    | inl t ↦ let (i, b, e) = any_T (λ i. eqb (h i) k) n t in (i, b, eqb→eq (h i) k e)
    | inr d ↦ absurd (omega (arith, few, many, none (λ i b e. d (T_any (λ i. eqb (h i) k) n i b (eq→eqb (h i) k e)))))
  ]
    where
      few : count n (below k) ≤ k
      few = omega (arith, rw zero-add at (grow 0 k), count_none (below 0) n (λ i b t. omega (arith, ltb→lt (h i) 0 t)))

      many : suc k ≤ count n (below (suc k))
      many =
          let e : suc k + (n - suc k) ≡ n = omega arith in
          omega (arith, rw e at (grow (suc k) (n - suc k)), count_all (below n) n (λ i b. lt→ltb (h i) n (low i b)))

      none : ((i : ℕ) → i < n → h i ≡ k → ⊥) → count n (below (suc k)) ≤ count n (below k)
      none f = count_mono (below (suc k)) (below k) n (λ i b t. let g : h i ≡ k → ⊥ = f i b in omega (arith, ltb→lt, lt→ltb))

-- a number is some switch's exactly if it is 1 to S
pub number_rule : (d : List ℕ) → Accepted d → (k : ℕ) → ((0 < k) × (k ≤ switch_count d)) ↔ ((i : ℕ) × (i < switch_count d) × (number_at d i ≡ k))
number_rule d a k = (λ (p, q). some k p q, λ (i, h, e). rw (← e) (omega arith, numbers_high d a i h))
  where
    place : ℕ → ℕ
    place i = count (switch_count d) (λ j. ltb (uid_at d j) (uid_at d i))

    some : (k : ℕ) → 0 < k → k ≤ switch_count d → (i : ℕ) × (i < switch_count d) × (number_at d i ≡ k)
    some zero p q = absurd (omega arith)
    some (suc k) p q =
        let (i, h, e) = onto place (switch_count d) (λ i j b c e. numbers_differ d a i j b c (ap suc e)) (λ i h. numbers_high d a i h) k q in
        (i, h, ap suc e)
