-- What the searches below a bound find.
use mathlib.Core.Path.{◌≡◌, refl, ap}
use mathlib.Core.Logic.{◌⊎◌, inl, inr}
use mathlib.Core.Bool.{Bool, not}
use Prim.Native.Nat.{ℕ, suc, zero, ◌+◌, ◌≤◌, ◌<◌}
use native.Mathlib.Nat.{not-suc-le-zero}
use native.Mathlib.Omega.{arith}
use lib.Dec.{T, not_T, T_not}
use Rattle.topology_rules.specs.Count.{both, any, least, first}
use Rattle.topology_rules.proofs.Tests.{decide, split, both_T, T_both, or_T, T_or, choose}

-- i below suc k is k, or below k
pub below_cases : (i k : ℕ) → i < suc k → (i ≡ k) ⊎ (i < k)
below_cases zero zero h = inl refl
below_cases zero (suc k) h = inr (omega arith)
below_cases (suc i) zero h = absurd (omega arith)
below_cases (suc i) (suc k) h = elim (below_cases i k (omega arith)) [ inl e ↦ inl (ap suc e) | inr l ↦ inr (omega arith) ]

module _ (f : ℕ → Bool) where
  pub any_T : (k : ℕ) → T (any k f) → (i : ℕ) × (i < k) × T (f i)
  unfolding any
  any_T zero t = absurd t
  any_T (suc k) t = elim (or_T (any k f) (f k) t) [ inl p ↦ let r = any_T k p in (r.0, omega arith, r.2) | inr p ↦ (k, omega arith, p) ]

  pub T_any : (k i : ℕ) → i < k → T (f i) → T (any k f)
  unfolding any
  T_any zero i h t = absurd (not-suc-le-zero h)
  T_any (suc k) i h t = T_or (any k f) (f k) (elim (below_cases i k h) [ inl e ↦ inr (rw e at t) | inr l ↦ inl (T_any k i l t) ])

  -- j is the least number from a on, below a + k, that passes; a + k where none does
  record Least (k a j : ℕ) : Type 0 where
    high : j ≤ a + k
    passes : j < a + k → T (f j)
    first : (i : ℕ) → a ≤ i → i < j → T (f i) → ⊥

  least_is : (k a : ℕ) → Least k a (least k a f)
  unfolding least
  least_is zero a = record { high = omega arith; passes = λ h. absurd (omega arith); first = λ i p q t. omega arith }
  least_is (suc k) a = choose (Least (suc k) a) (f a) a (least k (suc a) f)
      (λ t. record { high = omega arith; passes = λ h. t; first = λ i p q t. omega arith })
      (λ d. later d (least_is k (suc a)))
    where
      later : (T (f a) → ⊥) → Least k (suc a) (least k (suc a) f) → Least (suc k) a (least k (suc a) f)
      later d r = record {
        high = omega (arith, r.high);
        passes = λ h. r.passes (omega arith);
        first = λ i p q t. elim (below_cases a i (omega arith)) [ inl e ↦ d (rw e t) | inr l ↦ r.first i l q t ];
      }

  -- From 0.
  pub least_high : (k : ℕ) → least k 0 f ≤ k
  least_high k = omega (arith, (least_is k 0).high)

  pub least_finds : (k : ℕ) → least k 0 f < k → T (f (least k 0 f))
  least_finds k h = (least_is k 0).passes (omega arith)

  pub least_first : (k i : ℕ) → T (f i) → least k 0 f ≤ i
  least_first k i t = elim (split i (least k 0 f)) [ inl p ↦ absurd ((least_is k 0).first i (omega arith) p t) | inr p ↦ p ]

  pub least_passes : (k i : ℕ) → i < k → T (f i) → (least k 0 f ≤ i) × T (f (least k 0 f))
  least_passes k i h t = let l = least_first k i t in (l, least_finds k (omega arith))

-- A number among those below k that pass, before which the order puts no other.
module _ (f : ℕ → Bool) (R : ℕ → ℕ → Bool) where
  abbrev pub First : ℕ → ℕ → Type 0
  First k j = (j < k) × T (f j) × ((u : ℕ) → u < k → T (f u) → T (R u j) → ⊥)

  beaten : ℕ → ℕ → Bool
  beaten k a = any k (λ b. both (f b) (R b a))

  test : ℕ → ℕ → Bool
  unfolding beaten
  test k a = both (f a) (not (beaten k a))

  passes_first : (k j : ℕ) → j < k → T (test k j) → First k j
  unfolding test
  passes_first k j h t =
      let parts = both_T (f j) (not (beaten k j)) t in
      (h, parts.0, λ u l p q. T_not (beaten k j) parts.1 (T_any (λ b. both (f b) (R b j)) k u l (T_both (f u) (R u j) p q)))

  first_passes : (k j : ℕ) → First k j → T (test k j)
  unfolding test
  first_passes k j m =
      T_both (f j) (not (beaten k j)) m.1 (not_T (beaten k j) (λ p.
      let w = any_T (λ b. both (f b) (R b j)) k p in
      let v = both_T (f w.0) (R w.0 j) w.2 in
      m.2 w.0 w.1 v.0 v.1))

  -- what `first` finds passes and is first, whatever the order
  pub first_found : (k : ℕ) → first k f R < k → First k (first k f R)
  unfolding first test
  first_found k h = passes_first k (first k f R) h (least_finds (test k) k h)

  module _ (irreflexive : (a : ℕ) → T (R a a) → ⊥) (transitive : (a b c : ℕ) → T (R a b) → T (R b c) → T (R a c)) where
    some_first : (k : ℕ) → ((i : ℕ) → i < k → T (f i) → ⊥) ⊎ ((j : ℕ) × First k j)
    some_first zero = inl (λ i h t. not-suc-le-zero h)
    some_first (suc k) = go (some_first k) (decide (f k))
      where
        go : ((i : ℕ) → i < k → T (f i) → ⊥) ⊎ ((j : ℕ) × First k j) → T (f k) ⊎ (T (f k) → ⊥)
            → ((i : ℕ) → i < suc k → T (f i) → ⊥) ⊎ ((j : ℕ) × First (suc k) j)
        go (inl none) (inr d) = inl (λ i h t. elim (below_cases i k h) [ inl e ↦ d (rw e at t) | inr l ↦ none i l t ])
        go (inl none) (inl t) =
            inr (k, (omega arith, t, λ u h p q. elim (below_cases u k h) [ inl e ↦ irreflexive k (rw e at q) | inr l ↦ none u l p ]))
        go (inr m) (inr d) =
            inr (m.0, (omega arith, m.1.1, λ u h p q. elim (below_cases u k h) [ inl e ↦ d (rw e at p) | inr l ↦ m.1.2 u l p q ]))
        go (inr m) (inl t) = elim (decide (R k m.0)) [
          | inl r ↦ inr (
            k,
            (
              omega arith,
              t,
              λ u h p q. elim (below_cases u k h) [
                | inl e ↦ irreflexive k (rw e at q)
                | inr l ↦ m.1.2 u l p (transitive u k m.0 q r)
              ],
            ),
          )
          | inr r ↦ inr (m.0, (omega arith, m.1.1, λ u h p q. elim (below_cases u k h) [ inl e ↦ r (rw e at q) | inr l ↦ m.1.2 u l p q ]))
        ]

    -- where one passes, `first` finds one
    pub first_is : (k i : ℕ) → i < k → T (f i) → First k (first k f R)
    unfolding first test
    first_is k i h t = elim (some_first k) [
      | inl none ↦ absurd (none i h t)
      | inr m ↦
          let low = m.1.0 in
          first_found k (omega (arith, least_first (test k) k m.0 (first_passes k m.0 m.1)))
    ]
