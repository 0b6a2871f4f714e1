-- Demand 3, of any machine whose states hold packets in channels: packets never wait in a circle, and drain in exactly the legal hops left and one delivery each, at the addresses they were placed with.
use Rattle.std.specs.Prelude.{ℕ, ◌+◌, ◌%◌, List, ◌≡◌, ◌≢◌, slice_index_or, T}
use Rattle.topology_rules.specs.Net.{Net, target}
use Rattle.planner_rules.specs.Table.{destination}
use Rattle.rehearsal_rules.specs.Machine.{Machine, last, answers, tally, every}
use Rattle.rehearsal_rules.specs.Packets.{Cell, none, packet, sent, Full, address_of, nothing}
use Rattle.rehearsal_rules.specs.Answers.{Order, advancing, advances, Answer, delivered, is_accepted, leaves_net}
use Rattle.rehearsal_rules.specs.Left.{hops_left, work, packets, placings, Still}
use Rattle.rehearsal_rules.specs.Follow.{Whereabouts, in_channel, delivered_at, Apart, followed, Entered}

-- where a packet of address a belongs
abbrev pub home : Net → ℕ → Whereabouts
home n a = delivered_at (destination n a) (a % 16)

module _ (n : Net) {S : Type 0} (m : Machine S Order Answer) (cells : S → List Cell) (Sound : S → Type 0) where
  -- where the packet in c is after the orders
  abbrev pub goes_to : S → List Order → ℕ → Whereabouts
  goes_to s os c = followed n (in_channel c) os (answers m s os)

  -- What advances have done once no advance is accepted any more.
  pub record Drained (s : S) (os : List Order) : Type 0 where
    -- the sum of the legal hops left plus one each
    pub exactly : tally is_accepted (answers m s os) ≡ work (hops_left n) (cells s)
    pub once_each : tally leaves_net (answers m s os) ≡ packets (cells s)
    pub empty : cells (last m s os) ≡ nothing
    pub each_home : (ch : ℕ) → Full (slice_index_or (cells s) ch none) → goes_to s os ch ≡ home n (address_of (slice_index_or (cells s) ch none))

  -- Of any sound state, however it came about, and any orders, refused ones included.
  pub record Drains : Type 0 where
    pub stays_sound : (s : S) (os : List Order) → Sound s → Sound (last m s os)
    -- while a packet is in the net, some advance is accepted
    pub goes_on : (s : S) → Sound s → (ch : ℕ) → Full (slice_index_or (cells s) ch none) → (c : ℕ) × (p : ℕ) × T (is_accepted (m.answer s (advancing c p)))
    -- no packet appears or is lost: held before and placed are delivered and held after
    pub conserves : (s : S) (os : List Order) → Sound s
        → packets (cells s) + placings os (answers m s os) ≡ tally leaves_net (answers m s os) + packets (cells (last m s os))
    -- while only advances are made, each accepted one takes one from what is left, so they come to an end
    pub counts : (s : S) (os : List Order) → Sound s → T (every advances os)
        → tally is_accepted (answers m s os) + work (hops_left n) (cells (last m s os)) ≡ work (hops_left n) (cells s)
    -- an end that advances do reach
    pub ends : (s : S) → Sound s → (os : List Order) × T (every advances os) × Still m (last m s os)
    pub nothing_is_still : (s : S) → Sound s → cells s ≡ nothing → Still m s
    pub drained : (s : S) (os : List Order) → Sound s → T (every advances os) → Still m (last m s os) → Drained s os
    -- two packets stay two: they are never in one channel
    pub apart : (s : S) (os : List Order) → Sound s → (c d : ℕ) → Full (slice_index_or (cells s) c none) → Full (slice_index_or (cells s) d none) → c ≢ d
        → Apart (goes_to s os c) (goes_to s os d)
    -- from an empty net on, each delivery is of a packet that was placed, at the switch and port of the address it was placed with
    pub delivery : (s : S) → Sound s → cells s ≡ nothing → (os : List Order) (ch p q : ℕ) → m.answer (last m s os) (advancing ch p) ≡ delivered q
        → (a : ℕ) × Entered n m s os a (in_channel ch) × (target n ch ≡ destination n a) × (q ≡ a % 16)
    -- a packet that was placed and is not delivered is in the channel where it is said to be, with that address
    pub placed_there : (s : S) → Sound s → cells s ≡ nothing → (os : List Order) (a c : ℕ) → Entered n m s os a (in_channel c)
        → slice_index_or (cells (last m s os)) c none ≡ packet (sent a)
    -- and once the net is empty again each packet that was placed is there
    pub placed_home : (s : S) → Sound s → cells s ≡ nothing → (os : List Order) → cells (last m s os) ≡ nothing
        → (a : ℕ) (w : Whereabouts) → Entered n m s os a w → w ≡ home n a
