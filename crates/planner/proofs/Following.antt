-- Lines that follow each other in a text, and the room that they need.
use mathlib.Core.Path.{◌≡◌, refl, sym, ap, ◌∙◌}
use mathlib.Core.List.{List, [], ◌∷◌, ◌++◌, append_assoc, append-nil}
use Prim.Native.Nat.{ℕ, suc, zero, ◌+◌, ◌-◌, ◌≤◌, ◌<◌}
use native.Mathlib.Nat.{add-zero}
use native.Mathlib.Numerals.{add-one}
use native.Mathlib.Omega.{arith}
use lib.ListN.{length, length-append}
use Rattle.topology_rules.specs.Count.{tabulate}
use Rattle.topology_rules.specs.Edit.{records}
use Rattle.planner.specs.Room.{HasRoom}

-- tabulated numbers grow at the end
tabulate_grows : (k a : ℕ) → tabulate (suc k) a (λ i. i) ≡ tabulate k a (λ i. i) ++ (a + k) ∷ []
unfolding tabulate
tabulate_grows zero a = rw add-zero refl
tabulate_grows (suc k) a = ap (λ l. a ∷ l) (tabulate_grows k (suc a)) ∙ ap (λ i. a ∷ tabulate k (suc a) (λ i. i) ++ i ∷ []) (omega arith)

-- Records of the numbers from a on, in a loop that has written k of n after o.
module _ (r : ℕ → List ℕ) (a : ℕ) (o : List ℕ) where
  abbrev so_far : ℕ → List ℕ
  so_far k = records r (tabulate k a (λ i. i))

  -- one record more
  grows : (k : ℕ) → so_far (k + 1) ≡ so_far k ++ r (a + k)
  unfolding records
  grows k = ap (λ n. so_far n) (add-one k) ∙ ap (records r) (tabulate_grows k a) ∙ go (tabulate k a (λ i. i)) (a + k)
    where
      go : (is : List ℕ) (i : ℕ) → records r (is ++ i ∷ []) ≡ records r is ++ r i
      go [] i = append-nil (r i)
      go (j ∷ is) i = ap (λ l. r j ++ l) (go is i) ∙ sym (append_assoc (r j) (records r is) (r i))

  -- fewer records are no longer
  higher : (k m : ℕ) → length (so_far k) ≤ length (so_far (k + m))
  higher k zero = rw add-zero (omega arith)
  higher k (suc m) =
      let e : k + suc m ≡ k + m + 1 = omega arith in
      rw e (omega (arith, higher k m, ap length (grows (k + m)), length-append (so_far (k + m)) (r (a + (k + m)))))

  -- none yet
  pub run_begun : o ≡ o ++ so_far 0
  unfolding records tabulate
  run_begun = sym (append-nil o)

  -- r i is the next
  module _ (k i : ℕ) (at : i ≡ a + k) {t : List ℕ} (done : t ≡ o ++ so_far k) where
    -- there is room for it
    pub run_room : (n : ℕ) → k < n → HasRoom o (so_far n) → HasRoom t (r i)
    run_room n h room =
        let e : k + 1 + (n - (k + 1)) ≡ n = omega arith in
        let m : length (so_far (k + 1)) ≤ length (so_far n) = rw e at (higher (k + 1) (n - (k + 1))) in
        rw at (omega (arith, ap length done, length-append o (so_far k), ap length (grows k), length-append (so_far k) (r (a + k))))

    -- it is written
    pub run_next : (m : ℕ) → m ≡ k + 1 → {s : List ℕ} → s ≡ t ++ r i → s ≡ o ++ so_far m
    run_next m e next = rw (next, done, at, e, grows k) (append_assoc o (so_far k) (r (a + k)))
