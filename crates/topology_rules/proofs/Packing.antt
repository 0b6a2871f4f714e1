-- Answers as one number: what it says, and that different answers give different ones.
use Prim.Native.Nat.{ℕ, ◌+◌, ◌*◌, ◌^◌, ◌<◌}
use mathlib.Core.Path.{◌≡◌, refl, ap}
use native.Mathlib.Omega.{arith}
use Rattle.topology_rules.specs.Check.{refuse}
use Rattle.topology_rules.specs.Answers.{Reply, done, refused, packed}
use Rattle.topology_rules.proofs.Firsts.{same_verdict}

-- what fits: a returned value or a position of 32 bits, and a refusal that has a number
abbrev pub Fits : Reply → Type 0
Fits (done value) = value < 2 ^ 32
Fits (refused v) = (0 < v.number) × (v.position < 2 ^ 32)

pub record PackedLaws : Type 0 where
  pub of_done : (value : ℕ) → packed (done value) ≡ value
  pub of_refused : (k i : ℕ) → packed (refused (refuse k i)) ≡ k * 2 ^ 32 + i
  -- the answer can be read off
  pub once : (x y : Reply) → Fits x → Fits y → packed x ≡ packed y → x ≡ y

once : (x y : Reply) → Fits x → Fits y → packed x ≡ packed y → x ≡ y
once (done a) (done b) h l e = ap done e
once (done a) (refused w) h l e = absurd (omega (arith, l.0))
once (refused v) (done b) h l e = absurd (omega (arith, h.0))
once (refused v) (refused w) h l e = ap refused (same_verdict v w (omega (arith, h.1, l.1)) (omega (arith, h.1, l.1)))

pub packed_laws : PackedLaws
packed_laws = record { of_done = λ value. refl; of_refused = λ k i. refl; once = once }
