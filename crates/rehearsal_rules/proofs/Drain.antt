-- Any machine whose accepted orders lower its work: they are no more than the work. Where each lowers it by one, they are as many as it lowers.
use Prim.Native.Nat.{ℕ, suc, zero, ◌+◌, ◌≤◌, ◌<◌}
use native.Mathlib.Omega.{arith}
use mathlib.Core.List.{List, [], ◌∷◌, ◌++◌}
use mathlib.Core.Bool.{Bool, true, false, cond}
use mathlib.Core.Path.{◌≡◌, refl}
use mathlib.Core.Logic.{◌⊎◌, inl, inr}
use lib.Dec.{T}
use Rattle.rehearsal_rules.specs.Machine.{Machine, last, answers, tally, every}
use Rattle.topology_rules.proofs.Tests.{both_T}

abbrev pub one : Bool → ℕ
one b = cond b 1 0

pub tally_cons : (b : Bool) (k : ℕ) → cond b (suc k) k ≡ one b + k
tally_cons true k = omega arith
tally_cons false k = omega arith

module _ {S O A : Type 0} (m : Machine S O A) where
  -- orders and then more orders
  pub last_append : (s : S) (os qs : List O) → last m s (os ++ qs) ≡ last m (last m s os) qs
  unfolding last
  last_append s [] qs = refl
  last_append s (o ∷ os) qs = last_append (m.next s o) os qs

  -- what every order keeps, a run keeps
  pub keeps : (Inv : S → Type 0) → ((s : S) (o : O) → Inv s → Inv (m.next s o)) → (s : S) (os : List O) → Inv s → Inv (last m s os)
  unfolding last
  keeps Inv kept s [] i = i
  keeps Inv kept s (o ∷ os) i = keeps Inv kept (m.next s o) os (kept s o i)

  module _ (is_accepted : A → Bool) (counts : O → Bool) (Inv : S → Type 0) (kept : (s : S) (o : O) → Inv s → Inv (m.next s o)) (work : S → ℕ) where
    pub at_most : ((s : S) (o : O) → Inv s → T (counts o) → one (is_accepted (m.answer s o)) + work (m.next s o) ≤ work s)
        → (s : S) (os : List O) → Inv s → T (every counts os) → tally is_accepted (answers m s os) + work (last m s os) ≤ work s
    unfolding last answers tally
    at_most pays s [] i c = omega arith
    at_most pays s (o ∷ os) i c =
        let d = both_T (counts o) (every counts os) c in
        let here = pays s o i d.0 in
        let there = at_most pays (m.next s o) os (kept s o i) d.1 in
        omega (arith, tally_cons (is_accepted (m.answer s o)) (tally is_accepted (answers m (m.next s o) os)))

    pub exactly : ((s : S) (o : O) → Inv s → T (counts o) → one (is_accepted (m.answer s o)) + work (m.next s o) ≡ work s)
        → (s : S) (os : List O) → Inv s → T (every counts os) → tally is_accepted (answers m s os) + work (last m s os) ≡ work s
    unfolding last answers tally
    exactly pays s [] i c = omega arith
    exactly pays s (o ∷ os) i c =
        let d = both_T (counts o) (every counts os) c in
        let here = pays s o i d.0 in
        let there = exactly pays (m.next s o) os (kept s o i) d.1 in
        omega (arith, tally_cons (is_accepted (m.answer s o)) (tally is_accepted (answers m (m.next s o) os)))

-- Whoever cannot go waits for one of higher rank, and ranks are bounded: somebody can go.
pub chase : {X : Type 0} {Goes : Type 0} (rank : X → ℕ) (top : ℕ)
    → ((x : X) → rank x ≤ top) → ((x : X) → Goes ⊎ ((y : X) × (rank x < rank y))) → X → Goes
chase {X} {Goes} rank top bounded waits x = go top x (omega arith)
  where
    go : (k : ℕ) (x : X) → top ≤ rank x + k → Goes
    go zero x h = elim (waits x) [ inl g ↦ g | inr w ↦ let b = bounded w.0 in let l = w.1 in absurd (omega arith) ]
    go (suc k) x h = elim (waits x) [ inl g ↦ g | inr w ↦ let l = w.1 in go k w.0 (omega arith) ]
