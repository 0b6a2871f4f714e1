-- Numbers that pass, one number more: their list grows at its end, and so do the records written of it.
use mathlib.Core.Path.{◌≡◌, refl, sym, ap, ◌∙◌}
use mathlib.Core.Bool.{Bool, true, false, cond}
use mathlib.Core.List.{List, [], ◌∷◌, ◌++◌, append_assoc, append-nil}
use Prim.Native.Nat.{ℕ, suc, zero, ◌+◌, ◌*◌, ◌≤◌, ◌<◌}
use native.Mathlib.Nat.{add-zero, zero-add, mul-suc, mul-le-mul_left}
use native.Mathlib.Numerals.{add-one}
use native.Mathlib.Omega.{arith}
use lib.ListN.{get_or, length, length-append}
use borrow.Rule.Slice.PartMut.{put_mid}
use Rattle.std.proofs.lemmas.Slice.{put_mid-paste}
use Rattle.topology_rules.specs.Count.{those, count}
use Rattle.topology_rules.specs.Edit.{records}
use Rattle.topology.specs.Inside.{Written}
use Rattle.topology.proofs.Scans.{true_T}
use Rattle.topology_rules.proofs.Records.{those_found, records_length}
use Rattle.topology.proofs.Pieces.{written_none, written_after}

-- tests that agree below a bound choose the same numbers
pub those_same : (f g : ℕ → Bool) (k a : ℕ) → ((i : ℕ) → i < a + k → f i ≡ g i) → those k a f ≡ those k a g
unfolding those
those_same f g zero a same = refl
those_same f g (suc k) a same = go (f a) (g a) _ _ (same a (omega arith)) (those_same f g k (suc a) (λ i h. same i (omega arith)))
  where
    go : (b c : Bool) (l m : List ℕ) → b ≡ c → l ≡ m
        → ◌≡◌ {A = List ℕ} (elim b as (λ c. List ℕ) [ true ↦ a ∷ l | false ↦ l ]) (elim c as (λ c. List ℕ) [ true ↦ a ∷ m | false ↦ m ])
    go b true l m e s = rw e (ap (λ x. a ∷ x) s)
    go b false l m e s = rw e s

-- records that agree one by one
pub records_same : (r q : ℕ → List ℕ) (is : List ℕ) → ((j : ℕ) → j < length is → r (get_or is j 0) ≡ q (get_or is j 0)) → records r is ≡ records q is
unfolding records
records_same r q [] same = refl
records_same r q (i ∷ is) same = let rest = records_same r q is (λ j h. same (suc j) (omega arith)) in rw (same 0 (omega arith), rest) refl

module _ (f : ℕ → Bool) where
  -- at the end
  those_snoc : (k a : ℕ) → those (suc k) a f ≡ those k a f ++ cond (f (a + k)) ((a + k) ∷ []) []
  unfolding those
  those_snoc zero a = rw add-zero (go (f a))
    where
      go : (b : Bool) → elim b as (λ c. List ℕ) [ true ↦ a ∷ [] | false ↦ [] ] ≡ cond b (a ∷ []) []
      go true = refl
      go false = refl
  those_snoc (suc k) a = let shift : a + suc k ≡ suc a + k = omega arith in rw shift (go (f a) _ _ _ (those_snoc k (suc a)))
    where
      go : (b : Bool) (l m t : List ℕ) → l ≡ m ++ t
          → elim b as (λ c. List ℕ) [ true ↦ a ∷ l | false ↦ l ] ≡ elim b as (λ c. List ℕ) [ true ↦ a ∷ m | false ↦ m ] ++ t
      go true l m t e = ap (λ x. a ∷ x) e
      go false l m t e = e

  next : (k : ℕ) → those (k + 1) 0 f ≡ those k 0 f ++ cond (f k) (k ∷ []) []
  next k = rw (add-one k) (rw zero-add at (those_snoc k 0))

  those_more : (k : ℕ) → f k ≡ true → those (k + 1) 0 f ≡ those k 0 f ++ k ∷ []
  those_more k e = next k ∙ ap (λ b. those k 0 f ++ cond b (k ∷ []) []) e

  those_less : (k : ℕ) → f k ≡ false → those (k + 1) 0 f ≡ those k 0 f
  those_less k e = next k ∙ ap (λ b. those k 0 f ++ cond b (k ∷ []) []) e ∙ append-nil (those k 0 f)

  -- counted
  pub count_more : (k n : ℕ) → n ≡ length (those k 0 f) → f k ≡ true → n + 1 ≡ length (those (k + 1) 0 f)
  count_more k n h e = rw (those_more k e) (omega (arith, length-append (those k 0 f) (k ∷ [])))

  pub count_less : (k n : ℕ) → n ≡ length (those k 0 f) → f k ≡ false → n ≡ length (those (k + 1) 0 f)
  count_less k n h e = rw (those_less k e) h

  pub count_none : 0 ≡ length (those 0 0 f)
  unfolding those
  count_none = refl

  -- their list is as long as the rules count them
  pub count_those : (k : ℕ) → count k f ≡ length (those k 0 f)
  unfolding count those
  count_those zero = refl
  count_those (suc k) = go (f k) refl (count_those k)
    where
      go : (b : Bool) → b ≡ f k → count k f ≡ length (those k 0 f) → cond b (suc (count k f)) (count k f) ≡ length (those (suc k) 0 f)
      go true e c = rw (← add-one k) (rw (add-one (count k f)) at (count_more k (count k f) c (sym e)))
      go false e c = rw (← add-one k) (count_less k (count k f) c (sym e))

  -- where k passes, more pass below n
  those_room : (n k : ℕ) → k < n → f k ≡ true → length (those k 0 f) < length (those n 0 f)
  those_room n k h e = (those_found f n k 0 h (rw zero-add (true_T (f k) e))).0

records_append : (r : ℕ → List ℕ) (is js : List ℕ) → records r (is ++ js) ≡ records r is ++ records r js
unfolding records
records_append r [] js = refl
records_append r (i ∷ is) js = ap (λ l. r i ++ l) (records_append r is js) ∙ sym (append_assoc (r i) (records r is) (records r js))

single : (r : ℕ → List ℕ) (i : ℕ) → records r (i ∷ []) ≡ r i
unfolding records
single r i = append-nil (r i)

-- The records of those below n that pass, in a loop that has written the records of those below k.
module _ (r : ℕ → List ℕ) (f : ℕ → Bool) where
  abbrev so_far : ℕ → List ℕ
  so_far k = records r (those k 0 f)

  -- before the first
  pub none_yet : {from : ℕ} {o : List ℕ} → Written o from (so_far 0) o from
  unfolding records those
  none_yet {from} {o} = written_none o from

  module _ (k : ℕ) {from at : ℕ} {o out : List ℕ} (done : Written o from (so_far k) out at) where
    -- k does not pass
    pub passed_over : f k ≡ false → Written o from (so_far (k + 1)) out at
    passed_over e = rw (those_less f k e) done

    -- k passes, each record has w numbers, and there is room for all
    module _ (w : ℕ) (even : (i : ℕ) → length (r i) ≡ w) (n : ℕ) (room : from + w * length (those n 0 f) ≤ length o) (h : k < n) (e : f k ≡ true) where
      fits : from + length (so_far k) + w ≤ length o
      fits =
          let more = mul-le-mul_left w (those_room f n k h e) in
          omega (arith, records_length r w even (those k 0 f), mul-suc w (length (those k 0 f)))

      -- so there is room for the next
      pub next_fits : at + w ≤ length o
      next_fits = omega (arith, fits, done.up_to)

      -- and once it is copied there
      pub one_more : {piece : List ℕ} (m : ℕ) → piece ≡ r k → w ≡ m → Written o from (so_far (k + 1)) (put_mid at m out piece) (at + w)
      one_more {piece} m p q =
          rw (those_more f k e, records_append r (those k 0 f) (k ∷ []), single r k) (written_after done
          (record { up_to = omega (arith, even k); whole = put_mid-paste at m out piece (r k) (length (r k)) p (even k ∙ q) refl })
          (omega (arith, even k, fits)))
