-- Chains of tests, each with its refusal: they return the first that applies.
use mathlib.Core.Path.{◌≡◌, refl}
use mathlib.Core.Logic.{inl, inr}
use mathlib.Core.Bool.{Bool, true, false, cond}
use mathlib.Core.List.{List, [], ◌∷◌}
use Prim.Native.Nat.{ℕ, ◌≤◌, ◌<◌}
use native.Mathlib.Omega.{arith}
use lib.Dec.{T, eqb, ltb, leb, eqb→eq, ltb→lt, leb→le}
use Rattle.topology_rules.specs.Count.{both, Lower}
use Rattle.topology_rules.specs.Check.{Verdict, refuse, accepted, whenever}
use Rattle.topology_rules.specs.Refusals.{stage, Earlier}
use Rattle.topology_rules.proofs.Tests.{both_T, choose_cond}
use Rattle.topology_rules.proofs.Firsts.{NotLater, Warranted, earlier_irreflexive, earlier_asymmetric, earlier_number, earlier_upto, Settled}

-- One test.
warranted_whenever : (P : ℕ → ℕ → Type 0) (b : Bool) (k i : ℕ) (rest : Verdict) → (T b → P k i) → ((T b → ⊥) → Warranted P rest) → Warranted P (whenever b (refuse k i) rest)
warranted_whenever P true k i rest p s = inr (p tt)
warranted_whenever P false k i rest p s = s (λ t. t)

-- it is met
meet : (b : Bool) (k i : ℕ) (rest : Verdict) → 0 < k → T b → NotLater (whenever b (refuse k i) rest) k i
meet true k i rest h t = (h, earlier_irreflexive k i)
meet false k i rest h t = absurd t

-- it comes before the one that is meant
pass : (b : Bool) (m j : ℕ) (rest : Verdict) (k i : ℕ) → 0 < m → Earlier m j k i → NotLater rest k i → NotLater (whenever b (refuse m j) rest) k i
pass true m j rest k i h e l = (h, earlier_asymmetric m j k i e)
pass false m j rest k i h e l = l

-- Tests in a row, each with a refusal's number, all at position i.
abbrev pub Rules : Type 0
Rules = List (Bool × ℕ)

abbrev pub chain : ℕ → Rules → Verdict → Verdict
chain i [] rest = rest
chain i (r ∷ rs) rest = whenever r.0 (refuse r.1 i) (chain i rs rest)

-- their numbers ascend, above m and up to b
abbrev pub ascends : ℕ → Rules → ℕ → Bool
ascends m [] b = leb m b
ascends m (r ∷ rs) b = both (ltb m r.1) (ascends r.1 rs b)

-- a test that is met, while none before it is, says that its refusal applies
abbrev pub Says : (ℕ → ℕ → Type 0) → ℕ → Rules → Type 0
Says P i [] = Unit {0}
Says P i (r ∷ rs) = (T r.0 → P r.1 i) × ((T r.0 → ⊥) → Says P i rs)

-- for a test on which the later ones do not rely
pub and_then : {A B C : Type 0} → A → B → A × (C → B)
and_then a b = (a, λ _. b)

-- the test of refusal k
abbrev pub test_of : Rules → ℕ → Bool
test_of [] k = false
test_of (r ∷ rs) k = cond (eqb k r.1) r.0 (test_of rs k)

pub chain_warranted : (P : ℕ → ℕ → Type 0) (i : ℕ) (rs : Rules) (rest : Verdict) → Says P i rs → Warranted P rest → Warranted P (chain i rs rest)
chain_warranted P i [] rest e s = s
chain_warranted P i (r ∷ rs) rest (here, later) s = warranted_whenever P r.0 r.1 i (chain i rs rest) here (λ n. chain_warranted P i rs rest (later n) s)

-- the first ascends above m, and the rest above it
rises : (m : ℕ) (r : Bool × ℕ) (rs : Rules) (b : ℕ) → T (ascends m (r ∷ rs) b) → (m < r.1) × T (ascends r.1 rs b)
rises m r rs b a = let (p, q) = both_T (ltb m r.1) (ascends r.1 rs b) a in (ltb→lt m r.1 p, q)

ascent : (m : ℕ) (rs : Rules) (b : ℕ) → T (ascends m rs b) → m ≤ b
ascent m [] b a = leb→le m b a
ascent m (r ∷ rs) b a = let (p, q) = rises m r rs b a in omega (arith, ascent r.1 rs b q)

module _ (b i : ℕ) (rest : Verdict) (k j : ℕ) where
  -- another refusal, of a later stage or a later position
  pub chain_past : (m : ℕ) (rs : Rules) → T (ascends m rs b) → Lower (stage b) i (stage k) j → NotLater rest k j → NotLater (chain i rs rest) k j
  chain_past m [] a h l = l
  chain_past m (r ∷ rs) a h l =
      let (p, q) = rises m r rs b a in
      pass r.0 r.1 i (chain i rs rest) k j (omega arith) (earlier_upto b r.1 i k j (ascent r.1 rs b q) h) (chain_past r.1 rs q h l)

module _ (b i : ℕ) (rest : Verdict) (k : ℕ) where
  -- one of their own
  pub chain_met : (m : ℕ) (rs : Rules) → T (ascends m rs b) → T (test_of rs k) → (m < k) × NotLater (chain i rs rest) k i
  chain_met m [] a t = absurd t
  chain_met m (r ∷ rs) a t =
      let (p, q) = rises m r rs b a in
      choose_cond (λ c. T c → (m < k) × NotLater (chain i (r ∷ rs) rest) k i) (eqb k r.1) r.0 (test_of rs k)
      (λ e t. rw (eqb→eq k r.1 e) (p, meet r.0 r.1 i (chain i rs rest) (omega arith) t))
      (λ _ t.
      let (h, l) = chain_met r.1 rs q t in
      (omega arith, pass r.0 r.1 i (chain i rs rest) k i (omega arith) (earlier_number r.1 k i h) l)) t

-- what a job returns that is such a chain
pub chain_settled : (P : ℕ → ℕ → Type 0) (rs : Rules) (b : ℕ) → T (ascends 0 rs b) → Says P 0 rs → ((k i : ℕ) → P k i → (i ≡ 0) × T (test_of rs k)) → Settled P (chain 0 rs accepted)
chain_settled P rs b a s c = (chain_warranted P 0 rs accepted s (inl (refl, refl)), own)
  where
    own : (k i : ℕ) → P k i → NotLater (chain 0 rs accepted) k i
    own k i p = let (e, t) = c k i p in rw e (chain_met b 0 accepted k 0 rs a t).1
