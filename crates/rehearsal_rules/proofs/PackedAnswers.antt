-- Answers to orders as one number: what it says, and that different answers give different ones.
use Prim.Native.Nat.{ℕ, ◌+◌, ◌*◌, ◌^◌, ◌<◌}
use mathlib.Core.Path.{◌≡◌, refl, ap}
use native.Mathlib.Omega.{arith}
use Rattle.rehearsal_rules.specs.Answers.{Answer, moved, delivered, refused, packed_answer}

-- what fits: a channel or a port of 16 bits, and a refusal that has a number
abbrev pub Fits : Answer → Type 0
Fits (moved c) = c < 65536
Fits (delivered p) = p < 65536
Fits (refused k) = 0 < k

pub record PackedLaws : Type 0 where
  pub of_moved : (c : ℕ) → packed_answer (moved c) ≡ c
  pub of_delivered : (p : ℕ) → packed_answer (delivered p) ≡ 65536 + p
  pub of_refused : (k : ℕ) → packed_answer (refused k) ≡ k * 2 ^ 32
  -- the answer can be read off
  pub once : (x y : Answer) → Fits x → Fits y → packed_answer x ≡ packed_answer y → x ≡ y

once : (x y : Answer) → Fits x → Fits y → packed_answer x ≡ packed_answer y → x ≡ y
once (moved c) (moved b) h l e = ap moved e
once (moved c) (delivered q) h l e = absurd (omega arith)
once (moved c) (refused m) h l e = absurd (omega arith)
once (delivered p) (moved b) h l e = absurd (omega arith)
once (delivered p) (delivered q) h l e = ap delivered (omega arith)
once (delivered p) (refused m) h l e = absurd (omega arith)
once (refused k) (moved b) h l e = absurd (omega arith)
once (refused k) (delivered q) h l e = absurd (omega arith)
once (refused k) (refused m) h l e = ap refused (omega arith)

pub packed_laws : PackedLaws
packed_laws = record { of_moved = λ c. refl; of_delivered = λ p. refl; of_refused = λ k. refl; once = once }
