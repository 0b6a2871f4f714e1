-- What std's searches over the numbers below n answer, where the closure computes a test of each number.
use mathlib.Core.Path.{◌≡◌, refl, sym, subst, ◌∙◌, ap}
use mathlib.Core.Logic.{inl, inr}
use mathlib.Core.Bool.{Bool, true, false, cond}
use mathlib.Core.List.{List, ◌∷◌}
use Prim.Native.Nat.{ℕ, suc, zero, ◌+◌, ◌≤◌, ◌<◌}
use native.Mathlib.Numerals.{add-one}
use native.Mathlib.Omega.{arith}
use lib.Dec.{T}
use lib.ListN.{length, get_or}
use denote.Param.Members.{Mut}
use denote.Ref.{Bor}
use Rattle.std.specs.Prelude.{Option, Some, None, Result, OkIff, MatchOption, ok_or, count_by}
use Rattle.std.specs.Bool.{⊤, MatchBool}
use Rattle.std.specs.Fn.{Called, CalledAt}
use Rattle.std.specs.Iterator.{YieldsThen}
use Rattle.std.specs.List.{FoldsTo, AllWithin, HoldsAt, range_with_len}
use Rattle.std.specs.declared.ops.Range.{Range}
use Rattle.std.proofs.iter.Yields.{nat_range_steps}
use Rattle.std.proofs.lemmas.Iterator.{YieldsList-from_range, cases_from_any, first_from_Range}
use Rattle.std.proofs.lemmas.List.Sums.{sum_by-cons}
use Rattle.std.proofs.lemmas.List.FromFn.{length-range_with_len, get_or-range_with_len}
use Rattle.topology_rules.specs.Count.{any, least, those}
use Rattle.topology_rules.proofs.Tests.{split}
use Rattle.topology_rules.proofs.Searches.{any_T, T_any, least_finds, least_passes}
use Rattle.topology.proofs.Scans.{true_T, T_true, not_true_false}

module _ (f : ℕ → Bool) (n : ℕ) where
  -- the least number that passes, or there is none
  abbrev pub IsLeast : Option ℕ → Type 0
  IsLeast r = MatchOption r (n ≤ least n 0 f) (λ i. (i < n) × (i ≡ least n 0 f))

  -- one that passes, and none before it does
  first_is_least : (r : Option ℕ)
      → MatchOption r ((k : ℕ) → 0 ≤ k → k < n → f k ≡ false) (λ i. (0 ≤ i) × (i < n) × (f i ≡ true) × ((k : ℕ) → 0 ≤ k → k < i → f k ≡ false))
      → IsLeast r
  first_is_least None none = elim (split (least n 0 f) n) [ inl l ↦ absurd (subst T (none _ (omega arith) l) (least_finds f n l)) | inr l ↦ l ]
  first_is_least (Some i) h =
      let low = least_passes f n i h.1 (true_T (f i) h.2) in
      elim (split (least n 0 f) i) [ inl l ↦ absurd (subst T (h.3 _ (omega arith) l) low.1) | inr l ↦ (h.1, omega (arith, low.0)) ]

  -- `find` gives the least number that passes, or there is none
  pub least_from_find : {F : Type 0} {g : Mut F (Bor ℕ × Unit {0}) Bool} {m : ℕ} (u : Range ℕ) (p : F) (r : Option ℕ)
      → (xs : List ℕ) × (j : F) × YieldsThen nat_range_steps (record { start = 0; end = m }) xs r u
      × FoldsTo (λ q x t. CalledAt g q x false t) p xs j × MatchOption r ⊤ (λ x. (h : F) × CalledAt g j x true h)
      → m ≡ n → ((x : ℕ) (b : Bool) (q : F) → CalledAt g p x b q → (q ≡ p) × (b ≡ f x)) → IsLeast r
  least_from_find {m = m} u p r ran top calls =
      first_is_least r (rw top at (first_from_Range (record { start = 0; end = m }) u p r (λ x. f x ≡ true) (λ x. f x ≡ false) ran
      (λ x q k. sym (calls x true q k).1) (λ x q k. ((calls x false q k).0, sym (calls x false q k).1))))

  -- where one passes, it is there
  pub some_least : (r : Option ℕ) → IsLeast r → least n 0 f < n → r ≡ Some (least n 0 f)
  some_least None h l = absurd (omega (arith, h))
  some_least (Some i) h l = ap Some h.1

  -- `ok_or` then gives it, or the error where there is none
  pub ok_at_least : {E : Type 0} {o : Result ℕ E} (r : Option ℕ) (e : E) → o ≡ ok_or r e → IsLeast r → OkIff o (least n 0 f < n) (least n 0 f)
  ok_at_least None e is h = rw is (λ l. omega arith)
  ok_at_least (Some i) e is h = rw is (omega arith, h.1)

  -- `any` tells whether one passes
  pub any_passes : {F : Type 0} {g : Mut F (ℕ × Unit {0}) Bool} (u : Range ℕ) (p : F) (r : Bool)
      → (xs : List ℕ) × (o : Option ℕ) × (j : F) × YieldsThen nat_range_steps (record { start = 0; end = n }) xs o u
      × FoldsTo (λ q x t. Called g q (x, tt) false t) p xs j × MatchOption o (r ≡ false) (λ x. (r ≡ true) × ((h : F) × Called g j (x, tt) true h))
      → ((x : ℕ) (b : Bool) (q : F) → Called g p (x, tt) b q → (q ≡ p) × (b ≡ f x)) → r ≡ any n f
  any_passes u p r ran calls =
      settled r (cases_from_any u p r (λ x. f x ≡ true) (λ x. f x ≡ false) ran (YieldsList-from_range 0 n n refl (omega arith))
      (λ x q k. sym (calls x true q k).1) (λ x q k. ((calls x false q k).0, sym (calls x false q k).1)))
    where
      -- the range as a list
      numbers : List ℕ
      numbers = range_with_len 0 n

      -- n of them
      long : length numbers ≡ n
      long = length-range_with_len 0 n

      -- each at its own place
      at : (k : ℕ) → k < n → get_or numbers k 0 ≡ k
      at k h = omega (arith, get_or-range_with_len 0 n k 0 h)

      -- one passes, or none does
      settled : (b : Bool) → MatchBool b ((k : ℕ) × (k < length numbers) × HoldsAt (λ x. f x ≡ true) numbers k) (AllWithin (λ x. f x ≡ false) numbers 0 (length numbers))
          → b ≡ any n f
      settled true h = let l = rw long at h.1 in sym (T_true (any n f) (T_any f n h.0 l (true_T _ (sym (ap f (at h.0 l)) ∙ h.2 0))))
      settled false h = sym (not_true_false (any n f) (λ t. let w = any_T f n t in subst T (sym (ap f (at w.0 w.1)) ∙ h w.0 0 (omega arith) (rw long w.1)) w.2))

-- `filter().count()` over a range counts those that pass
module _ (f : ℕ → Bool) where
  pick : (b : Bool) (a n : ℕ) (l : List ℕ) → n ≡ length l → cond b 1 0 + n ≡ length (elim b as (λ c. List ℕ) [ true ↦ a ∷ l | false ↦ l ])
  pick true a n l e = omega (arith, e)
  pick false a n l e = omega (arith, e)

  pub counts : (k a : ℕ) → count_by f (range_with_len a k) ≡ length (those k a f)
  unfolding those
  counts zero a = refl
  counts (suc k) a =
      sum_by-cons (λ x. cond (f x) 1 0) a (range_with_len (a + 1) k)
      ∙ pick (f a) a _ (those k (suc a) f) (ap (λ b. count_by f (range_with_len b k)) (add-one a) ∙ counts k (suc a))
