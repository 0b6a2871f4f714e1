-- The numbers that pass, as a list, and records written one after the other.
use mathlib.Core.Path.{◌≡◌, refl, sym, ap, ◌∙◌}
use mathlib.Core.Logic.{inl, inr, ◌↔◌, ◌≢◌}
use mathlib.Core.Bool.{Bool, true, false, not}
use mathlib.Core.List.{List, [], ◌∷◌, ◌++◌}
use Prim.Native.Nat.{ℕ, suc, zero, ◌+◌, ◌*◌, ◌-◌, ◌≤◌, ◌<◌}
use native.Mathlib.Nat.{add-zero, zero-add, mul-zero, mul-suc}
use native.Mathlib.Omega.{arith}
use lib.ListN.{get_or, length, length-append, get_or-append}
use lib.Seq.{get_or-append-add}
use lib.Dec.{T, eqb, ltb, ltb→lt, nltb→le, not_T}
use Rattle.topology_rules.specs.Count.{those, tabulate}
use Rattle.topology_rules.specs.Edit.{records, fall}
use Rattle.topology_rules.specs.EditRules.{Lists}
use Rattle.topology_rules.proofs.Tests.{split, choose, choose_cond, eq→eqb, ne→neqb}

-- v stands at place `at` of the list
abbrev pub Found : ℕ → List ℕ → ℕ → Type 0
Found v l at = (at < length l) × (get_or l at 0 ≡ v)

module _ (f : ℕ → Bool) where
  -- numbers from a on, below a + k, that pass, in ascending order
  pub record Listed (k a : ℕ) (l : List ℕ) : Type 0 where
    pub low : (j : ℕ) → j < length l → a ≤ get_or l j 0
    pub high : (j : ℕ) → j < length l → get_or l j 0 < a + k
    pub passes : (j : ℕ) → j < length l → T (f (get_or l j 0))
    pub ascending : (i j : ℕ) → i < j → j < length l → get_or l i 0 < get_or l j 0
    pub few : length l ≤ k

  pub those_listed : (k a : ℕ) → Listed k a (those k a f)
  unfolding those
  those_listed zero a = record {
    low = λ j h. absurd (omega arith);
    high = λ j h. absurd (omega arith);
    passes = λ j h. absurd (omega arith);
    ascending = λ i j h l. absurd (omega arith);
    few = omega arith;
  }
  those_listed (suc k) a = choose (Listed (suc k) a) (f a) (a ∷ those k (suc a) f) (those k (suc a) f) (λ t. first t (those_listed k (suc a))) (λ d. later (those_listed k (suc a)))
    where
      later : {l : List ℕ} → Listed k (suc a) l → Listed (suc k) a l
      later r = record {
        low = λ j h. omega (arith, r.low j h);
        high = λ j h. omega (arith, r.high j h);
        passes = r.passes;
        ascending = r.ascending;
        few = omega (arith, r.few);
      }

      first : {l : List ℕ} → T (f a) → Listed k (suc a) l → Listed (suc k) a (a ∷ l)
      first {l} t r = record { low = lows; high = highs; passes = passing; ascending = rising; few = omega (arith, r.few) }
        where
          lows : (j : ℕ) → j < length (a ∷ l) → a ≤ get_or (a ∷ l) j 0
          lows zero h = omega arith
          lows (suc j) h = omega (arith, r.low j (omega arith))

          highs : (j : ℕ) → j < length (a ∷ l) → get_or (a ∷ l) j 0 < a + suc k
          highs zero h = omega arith
          highs (suc j) h = omega (arith, r.high j (omega arith))

          passing : (j : ℕ) → j < length (a ∷ l) → T (f (get_or (a ∷ l) j 0))
          passing zero h = t
          passing (suc j) h = r.passes j (omega arith)

          rising : (i j : ℕ) → i < j → j < length (a ∷ l) → get_or (a ∷ l) i 0 < get_or (a ∷ l) j 0
          rising i zero h g = absurd (omega arith)
          rising zero (suc j) h g = omega (arith, r.low j (omega arith))
          rising (suc i) (suc j) h g = r.ascending i j (omega arith) (omega arith)

  -- and every one of them: a + m stands after as many as pass before it
  pub those_found : (k m a : ℕ) → m < k → T (f (a + m)) → Found (a + m) (those k a f) (length (those m a f))
  unfolding those
  those_found zero m a h t = absurd (omega arith)
  those_found (suc k) zero a h t = here (f a) (rw add-zero at t)
    where
      here : (b : Bool) → T b → Found (a + 0) (elim b as (λ c. List ℕ) [ true ↦ a ∷ those k (suc a) f | false ↦ those k (suc a) f ]) 0
      here true u = (omega arith, omega arith)
      here false u = absurd u
  those_found (suc k) (suc m) a h t = let shift : a + suc m ≡ suc a + m = omega arith in rw shift (later (f a) (those_found k m (suc a) (omega arith) (rw shift at t)))
    where
      later : (b : Bool) → Found (suc a + m) (those k (suc a) f) (length (those m (suc a) f))
          → Found (suc a + m) (elim b as (λ c. List ℕ) [ true ↦ a ∷ those k (suc a) f | false ↦ those k (suc a) f ])
          (length {A = ℕ} (elim b as (λ c. List ℕ) [ true ↦ a ∷ those m (suc a) f | false ↦ those m (suc a) f ]))
      later true r = (omega (arith, r.0), r.1)
      later false r = r

  -- where exactly the first m pass, it is those m
  pub those_first : (k a m : ℕ) → m ≤ k → ((i : ℕ) → a ≤ i → i < a + k → T (f i) ↔ (i < a + m)) → those k a f ≡ tabulate m a (λ i. i)
  unfolding those tabulate
  those_first zero a zero h says = refl
  those_first zero a (suc m) h says = absurd (omega arith)
  those_first (suc k) a zero h says = choose (λ l. l ≡ []) (f a) (a ∷ those k (suc a) f) (those k (suc a) f)
      (λ t. absurd (omega (arith, (says a (omega arith) (omega arith)).0 t)))
      (λ d. those_first k (suc a) zero (omega arith) (λ i b c. (λ t. omega (arith, (says i (omega arith) (omega arith)).0 t), λ g. absurd (omega arith))))
  those_first (suc k) a (suc m) h says = choose (λ l. l ≡ a ∷ tabulate m (suc a) (λ i. i)) (f a) (a ∷ those k (suc a) f) (those k (suc a) f)
      (λ t. ap (λ l. a ∷ l) (those_first k (suc a) m (omega arith) (λ i b c. let (x, y) = says i (omega arith) (omega arith) in (λ t. omega (arith, x t), λ g. y (omega arith)))))
      (λ d. absurd (d ((says a (omega arith) (omega arith)).1 (omega arith))))

-- so the list holds exactly those of which P is true
pub those_lists : (P : ℕ → Type 0) (f : ℕ → Bool) (k : ℕ) → ((i : ℕ) → T (f i) ↔ P i) → Lists k P (those k 0 f)
those_lists P f k says =
    let l = those_listed f k 0 in
    record {
      each = λ j h. (omega (arith, l.high j h), (says _).0 (l.passes j h));
      all = λ i h p. let (b, e) = those_found f k i 0 h (rw zero-add ((says i).1 p)) in (length (those i 0 f), b, e ∙ zero-add i);
      ascending = l.ascending;
    }

pub all_length : (k a : ℕ) → length (those k a (λ j. true)) ≡ k
unfolding those
all_length zero a = omega arith
all_length (suc k) a = omega (arith, all_length k (suc a))

-- all but i
module _ (i : ℕ) where
  abbrev pub others : ℕ → ℕ → List ℕ
  others k a = those k a (λ j. not (eqb j i))

  others_on : (k a : ℕ) → a ≢ i → length (others (suc k) a) ≡ suc (length (others k (suc a)))
  unfolding those
  others_on k a d = go (not (eqb a i)) (ne→neqb a i d)
    where
      go : (b : Bool) → T b → length {A = ℕ} (elim b as (λ c. List ℕ) [ true ↦ a ∷ others k (suc a) | false ↦ others k (suc a) ]) ≡ suc (length (others k (suc a)))
      go true t = refl
      go false t = absurd t

  others_skip : (k a : ℕ) → a ≡ i → length (others (suc k) a) ≡ length (others k (suc a))
  unfolding those
  others_skip k a e = go (eqb a i) (eq→eqb a i e)
    where
      go : (b : Bool) → T b → length {A = ℕ} (elim (not b) as (λ c. List ℕ) [ true ↦ a ∷ others k (suc a) | false ↦ others k (suc a) ]) ≡ length (others k (suc a))
      go true t = refl
      go false t = absurd t

  pub others_after : (k a : ℕ) → i < a → length (others k a) ≡ k
  unfolding those
  others_after zero a h = omega arith
  others_after (suc k) a h = let d : a ≢ i = λ e. omega arith in omega (arith, others_on k a d, others_after k (suc a) (omega arith))

  pub others_before : (k a : ℕ) → a + k ≤ i → length (others k a) ≡ k
  unfolding those
  others_before zero a h = omega arith
  others_before (suc k) a h = let d : a ≢ i = λ e. omega arith in omega (arith, others_on k a d, others_before k (suc a) (omega arith))

  pub others_length : (k a : ℕ) → a ≤ i → i < a + k → suc (length (others k a)) ≡ k
  others_length zero a l h = absurd (omega arith)
  others_length (suc k) a l h = elim (split a i) [
    | inl b ↦ let d : a ≢ i = λ e. omega arith in omega (arith, others_on k a d, others_length k (suc a) b (omega arith))
    | inr b ↦ let e : a ≡ i = omega arith in omega (arith, others_skip k a e, others_after k (suc a) (omega arith))
  ]

  -- positions above the removed one fall by 1
  pub fall_length : (x : ℕ) → x ≢ i → length (others x 0) ≡ fall i x
  fall_length x d = choose_cond (λ v. length (others x 0) ≡ v) (ltb i x) (x - 1) x
      (λ t. omega (arith, others_length x 0 (omega arith) (omega (arith, ltb→lt i x t))))
      (λ n. others_before x 0 (omega (arith, nltb→le i x (not_T (ltb i x) n))))

-- records of w bytes each
module _ (r : ℕ → List ℕ) (w : ℕ) (even : (i : ℕ) → length (r i) ≡ w) where
  pub records_length : (is : List ℕ) → length (records r is) ≡ w * length is
  unfolding records
  records_length [] = sym (mul-zero w)
  records_length (i ∷ is) = length-append (r i) (records r is) ∙ omega (arith, even i, records_length is, mul-suc w (length is))

  pub records_at : (is : List ℕ) (j b : ℕ) → j < length is → b < w → get_or (records r is) (w * j + b) 0 ≡ get_or (r (get_or is j 0)) b 0
  unfolding records
  records_at [] j b h l = absurd (omega arith)
  records_at (i ∷ is) zero b h l =
      let at : w * zero + b ≡ b = omega (arith, mul-zero w) in
      ap (λ (k : ℕ). get_or (r i ++ records r is) k 0) at ∙ get_or-append (r i) (records r is) 0 b (omega (arith, even i))
  records_at (i ∷ is) (suc j) b h l =
      let at : w * suc j + b ≡ length (r i) + (w * j + b) = omega (arith, even i, mul-suc w j) in
      ap (λ (k : ℕ). get_or (r i ++ records r is) k 0) at ∙ get_or-append-add (r i) (records r is) (w * j + b) 0 ∙ records_at is j b (omega arith) l
