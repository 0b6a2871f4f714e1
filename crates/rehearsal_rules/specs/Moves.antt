-- Placing and advancing as a machine over what the channels hold.
use Rattle.std.specs.Prelude.{ℕ, List, Bool, true, false, cond, not, slice_index_or, set, nat_lt}
use Rattle.topology_rules.specs.Count.{both, bit}
use Rattle.topology_rules.specs.Net.{Net, target, in_port, live, leaving, delivers}
use Rattle.planner_rules.specs.Table.{holder, good, entry}
use Rattle.rehearsal_rules.specs.Machine.{Machine}
use Rattle.rehearsal_rules.specs.Packets.{Cell, none, packet, sent, full?}
use Rattle.rehearsal_rules.specs.Answers.{Order, placing, advancing, Answer, moved, delivered, refused}

-- a rule that must hold, the refusal where it does not, and the rest
unfoldable pub needs : Bool → ℕ → Answer → Answer
needs true k rest = rest
needs false k rest = refused k

-- Tables: whether a switch, for an incoming port and an address, holds an outgoing port. Document 01's are `entries`; another vendor's may differ.
abbrev pub Tables : Type 0
Tables = ℕ → ℕ → ℕ → ℕ → Bool

-- some packet holds channel c
unfoldable pub taken? : List Cell → ℕ → Bool
taken? held c = full? (slice_index_or held c none)

-- what the channels hold after an order so answered
abbrev pub settle : List Cell → Answer → Order → List Cell
settle held (refused k) o = held
settle held (moved c) (placing k a p) = set held c (packet (sent a))
settle held (moved c) (advancing ch p) = set (set held ch none) c (slice_index_or held ch none)
-- a placing is never delivered
settle held (delivered q) (placing k a p) = held
settle held (delivered q) (advancing ch p) = set held ch none

module _ (n : Net) where
  abbrev pub entries : Tables
  entries s i a p = bit (entry n s i a) p

  -- the channel that a packet held in ch goes to by port p
  abbrev pub onward : ℕ → ℕ → ℕ
  onward ch p = leaving n (target n ch) p

  -- what is held in ch may leave by port p where it arrives
  abbrev pub allows : Tables → ℕ → ℕ → ℕ → Bool
  allows holds ch a p = holds (target n ch) (in_port n ch) a p

  module _ (holds : Tables) where
    -- 18, 19, 21, 22
    unfoldable pub place_answer : List Cell → ℕ → ℕ → ℕ → Answer
    place_answer held k a p =
        let s = holder n k in
        let c = leaving n s p in
        needs (nat_lt s n.switches) 18
        (needs (good n a) 19
        (needs (both (holds s 0 a p) (live n c)) 21
        (needs (not (taken? held c)) 22
        (moved c))))

    -- 20, 21, 22
    abbrev pub head_answer : List Cell → ℕ → ℕ → Cell → Answer
    head_answer held ch p none = refused 20
    head_answer held ch p (packet pk) =
        needs (allows holds ch pk.address p) 21
        (cond (delivers n (target n ch) p) (delivered p)
        (needs (not (taken? held (onward ch p))) 22
        (moved (onward ch p))))

    -- 18, then those
    unfoldable pub advance_answer : List Cell → ℕ → ℕ → Answer
    advance_answer held ch p = needs (live n ch) 18 (head_answer held ch p (slice_index_or held ch none))

    abbrev pub answer : List Cell → Order → Answer
    answer held (placing k a p) = place_answer held k a p
    answer held (advancing ch p) = advance_answer held ch p

  unfoldable pub moving : Tables → Machine (List Cell) Order Answer
  moving holds = record { answer = answer holds; next = λ held o. settle held (answer holds held o) o }

  unfoldable pub rehearsal : Machine (List Cell) Order Answer
  rehearsal = moving entries
