-- A need that is not met is a refusal; a channel that is taken has a word above 0.
use Prim.Native.Nat.{ℕ, suc, zero}
use native.Mathlib.Omega.{arith}
use mathlib.Core.List.{List}
use mathlib.Core.Bool.{Bool, true, false, not}
use mathlib.Core.Path.{◌≡◌, refl}
use mathlib.Core.Logic.{◌≢◌}
use lib.ListN.{get_or}
use lib.Dec.{T}
use Rattle.topology_rules.specs.Check.{refuse, whenever}
use Rattle.rehearsal_rules.specs.Packets.{full?, cell_of, cells_of}
use Rattle.rehearsal_rules.specs.Answers.{Answer, verdict_of}
use Rattle.rehearsal_rules.specs.Moves.{needs, taken?}
use Rattle.rehearsal_rules.proofs.Words.{cell_at}

pub needs_verdict : (b : Bool) (k : ℕ) (x : Answer) → verdict_of (needs b k x) ≡ whenever (not b) (refuse k 0) (verdict_of x)
unfolding needs
needs_verdict true k x = refl
needs_verdict false k x = refl

pub not_not : (b : Bool) → T (not (not b)) → T b
not_not true t = tt
not_not false t = absurd t

pub taken_word : (words : List ℕ) (c : ℕ) → T (taken? (cells_of words) c) → get_or words c 0 ≢ 0
unfolding taken?
taken_word words c t e = go (get_or words c 0) e (rw (cell_at words c) at t)
  where
    go : (x : ℕ) → x ≡ 0 → T (full? (cell_of x)) → ⊥
    go zero e t = t
    go (suc x) e t = omega arith
