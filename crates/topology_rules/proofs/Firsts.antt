-- The order of refusals, and the first that applies: there is one at most.
use mathlib.Core.Path.{◌≡◌, refl, sym, subst, ◌∙◌}
use mathlib.Core.Logic.{◌⊎◌, inl, inr}
use Prim.Native.Nat.{ℕ, ◌≤◌, ◌<◌}
use native.Mathlib.Omega.{arith}
use lib.Dec.{T, leb, leb→le, nleb→lt, not_T}
use Rattle.topology_rules.specs.Count.{Lower}
use Rattle.topology_rules.specs.Check.{Verdict, accepted}
use Rattle.topology_rules.specs.Refusals.{stage, Earlier, Returned}
use Rattle.topology_rules.proofs.Tests.{split, compare, choose_cond}
use Rattle.topology_rules.proofs.Lex.{lex_irreflexive, lex_transitive}

-- Earlier is a strict order, total on refusals that differ in number or position.
pub earlier_irreflexive : (k i : ℕ) → Earlier k i k i → ⊥
earlier_irreflexive k i (inl h) = omega arith
earlier_irreflexive k i (inr h) = lex_irreflexive i k h.1

pub earlier_transitive : (k i m j n l : ℕ) → Earlier k i m j → Earlier m j n l → Earlier k i n l
earlier_transitive k i m j n l (inl p) (inl q) = inl (omega arith)
earlier_transitive k i m j n l (inl p) (inr q) = inl (omega (arith, q.0))
earlier_transitive k i m j n l (inr p) (inl q) = inl (omega (arith, p.0))
earlier_transitive k i m j n l (inr p) (inr q) = inr (p.0 ∙ q.0, lex_transitive i k j m l n p.1 q.1)

pub earlier_total : (k i m j : ℕ) → ((k ≡ m) × (i ≡ j)) ⊎ (Earlier k i m j ⊎ Earlier m j k i)
earlier_total k i m j = go (compare (stage k) (stage m)) (compare i j) (compare k m)
  where
    go : (stage k ≡ stage m) ⊎ ((stage k < stage m) ⊎ (stage m < stage k)) → (i ≡ j) ⊎ ((i < j) ⊎ (j < i)) → (k ≡ m) ⊎ ((k < m) ⊎ (m < k))
        → ((k ≡ m) × (i ≡ j)) ⊎ (Earlier k i m j ⊎ Earlier m j k i)
    go (inr (inl p)) y z = inr (inl (inl p))
    go (inr (inr p)) y z = inr (inr (inl p))
    go (inl e) (inr (inl p)) z = inr (inl (inr (e, inl p)))
    go (inl e) (inr (inr p)) z = inr (inr (inr (sym e, inl p)))
    go (inl e) (inl f) (inr (inl p)) = inr (inl (inr (e, inr (f, p))))
    go (inl e) (inl f) (inr (inr p)) = inr (inr (inr (sym e, inr (sym f, p))))
    go (inl e) (inl f) (inl g) = inl (g, f)

pub earlier_asymmetric : (k i m j : ℕ) → Earlier k i m j → Earlier m j k i → ⊥
earlier_asymmetric k i m j p q = earlier_irreflexive k i (earlier_transitive k i m j k i p q)

stage_cases : (P : ℕ → Type 0) (k : ℕ) → (k ≤ 6 → P k) → (6 < k → k ≤ 8 → P 7) → (8 < k → k ≤ 12 → P 9) → (12 < k → P k) → P (stage k)
stage_cases P k a b c e = choose_cond P (leb k 6) k _ (λ t. a (leb→le k 6 t))
    (λ t. choose_cond P (leb k 8) 7 _ (λ u. b (above 6 t) (leb→le k 8 u))
    (λ u. choose_cond P (leb k 12) 9 k (λ w. c (above 8 u) (leb→le k 12 w)) (λ w. e (above 12 w))))
  where
    above : (x : ℕ) → (T (leb k x) → ⊥) → x < k
    above x d = nleb→lt k x (not_T (leb k x) d)

pub stage_mono : (k m : ℕ) → k ≤ m → stage k ≤ stage m
stage_mono k m h = stage_cases (λ s. s ≤ stage m) k
    (λ a. up k h (λ b. omega arith) (λ b. omega arith)) (λ a b. up 7 (omega arith) (λ c. omega arith) (λ c. omega arith))
    (λ a b. up 9 (omega arith) (λ c. absurd (omega arith)) (λ c. omega arith)) (λ a. up k h (λ c. absurd (omega arith)) (λ c. absurd (omega arith)))
  where
    up : (x : ℕ) → x ≤ m → (m ≤ 8 → x ≤ 7) → (m ≤ 12 → x ≤ 9) → x ≤ stage m
    up x a b c = stage_cases (λ s. x ≤ s) m (λ p. a) (λ p q. b q) (λ p q. c q) (λ p. a)

-- at one position the lower number comes first
pub earlier_number : (k m i : ℕ) → k < m → Earlier k i m i
earlier_number k m i h = elim (split (stage k) (stage m)) [ inl l ↦ inl l | inr l ↦ inr (omega (arith, stage_mono k m (omega arith)), inr (refl, h)) ]

-- numbers up to b, where b's stage is earlier, or the same and the position is
pub earlier_upto : (b k i m j : ℕ) → k ≤ b → Lower (stage b) i (stage m) j → Earlier k i m j
earlier_upto b k i m j h (inl l) = inl (omega (arith, stage_mono k b h))
earlier_upto b k i m j h (inr (e, l)) =
    elim (split (stage k) (stage m)) [ inl p ↦ inl p | inr p ↦ let s = stage_mono k b h in inr (omega arith, inl l) ]

pub same_verdict : (v w : Verdict) → v.number ≡ w.number → v.position ≡ w.position → v ≡ w
same_verdict v w e f = λ x. record { number = e x; position = f x }

-- a refusal was found, and refusal k at position i does not come before it
abbrev pub NotLater : Verdict → ℕ → ℕ → Type 0
NotLater v k i = (0 < v.number) × (Earlier k i v.number v.position → ⊥)

module _ (P : ℕ → ℕ → Type 0) where
  -- one verdict at most returns the first that applies
  pub returned_once : {v w : Verdict} → Returned P v → Returned P w → v ≡ w
  returned_once (Returned.none a) (Returned.none b) = refl
  returned_once (Returned.none a) (Returned.first x l) = absurd (a _ _ x)
  returned_once (Returned.first x l) (Returned.none b) = absurd (b _ _ x)
  returned_once (Returned.first {k} {i} x l) (Returned.first {k = m} {i = j} y o) = elim (earlier_total k i m j) [
    | inl e ↦ same_verdict _ _ e.0 e.1
    | inr e ↦ elim e [ inl f ↦ absurd (o k i x f) | inr f ↦ absurd (l m j y f) ]
  ]

  -- what a verdict says is so: 0 at position 0, or a refusal that applies
  abbrev pub Warranted : Verdict → Type 0
  Warranted v = ((v.number ≡ 0) × (v.position ≡ 0)) ⊎ P v.number v.position

  -- and it is later than none that applies
  abbrev pub Settled : Verdict → Type 0
  Settled v = Warranted v × ((k i : ℕ) → P k i → NotLater v k i)

  -- then it returns the first that applies
  pub returned : (v : Verdict) → Settled v → Returned P v
  returned v (inr p, c) = Returned.first p (λ m j q. (c m j q).1)
  returned v (inl (e, f), c) = subst (Returned P) (same_verdict accepted v (sym e) (sym f)) (Returned.none (λ k i p. omega (arith, (c k i p).0)))

  -- and where it is 0 none applies, and the position is 0
  pub settled_zero : (v : Verdict) → Settled v → v.number ≡ 0 → (v ≡ accepted) × ((k i : ℕ) → P k i → ⊥)
  settled_zero v (inl (_, f), c) e = (same_verdict v accepted e f, λ k i p. omega (arith, (c k i p).0))
  settled_zero v (inr p, c) e = absurd (omega (arith, (c _ _ p).0))
