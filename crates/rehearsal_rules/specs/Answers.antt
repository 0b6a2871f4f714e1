-- Orders and their answers.
use Rattle.std.specs.Prelude.{ℕ, ◌+◌, ◌*◌, ◌^◌, Bool, true, false, not}
use Rattle.topology_rules.specs.Check.{Verdict, refuse, accepted}
use Rattle.topology_rules.specs.Count.{both}

-- a switch number, an address and an outgoing port; a channel and an outgoing port at its far end
pub data Order : Type 0 where
  placing : ℕ → ℕ → ℕ → Order
  advancing : ℕ → ℕ → Order

abbrev pub advances : Order → Bool
advances (placing k a p) = false
advances (advancing ch p) = true

-- moved to which channel, delivered at which port, or refused and why; an accepted placing answers its channel
pub data Answer : Type 0 where
  moved : ℕ → Answer
  delivered : ℕ → Answer
  refused : ℕ → Answer

abbrev pub is_accepted : Answer → Bool
is_accepted (moved c) = true
is_accepted (delivered p) = true
is_accepted (refused k) = false

abbrev pub leaves_net : Answer → Bool
leaves_net (moved c) = false
leaves_net (delivered p) = true
leaves_net (refused k) = false

-- an accepted placing brings a packet into the net
abbrev pub enters : Order → Answer → Bool
enters o x = both (not (advances o)) (is_accepted x)

-- the refusal's number, at position 0
abbrev pub verdict_of : Answer → Verdict
verdict_of (moved c) = accepted
verdict_of (delivered p) = accepted
verdict_of (refused k) = refuse k 0

-- the answer as one number, for callers in C: a channel, 65,536 + port, or the refusal's number above 32 bits
abbrev pub packed_answer : Answer → ℕ
packed_answer (moved c) = c
packed_answer (delivered p) = 65536 + p
packed_answer (refused k) = k * 2 ^ 32
