-- What a sound record is, what an order does, and which refusals apply, in relational words.
use Rattle.std.specs.Prelude.{ℕ, ◌≤◌, ◌<◌, List, ◌≡◌, ◌≢◌, slice_index, set, length}
use Rattle.topology_rules.specs.Accepted.{Accepted}
use Rattle.topology_rules.specs.Net.{Net, net_of, target, in_port}
use Rattle.planner_rules.specs.Rules.{Addresses, Good, Holds, Leaves}
use Rattle.rehearsal_rules.specs.Answers.{Order, placing, advancing, Answer, moved, delivered, refused}
use Rattle.rehearsal_rules.specs.Record.{Rehearsal, description_of}

-- a packet of address a may be held in ch, however it came there: the channel exists, the address is good, and the entry where it arrives holds some port
pub record MayHold (n : Net) (ch a : ℕ) : Type 0 where
  pub channel : ch < n.channels
  pub address : Good n a
  pub goes_on : (p : ℕ) × Holds n (target n ch) (in_port n ch) a p

-- the description is accepted, there are 768 channels, and each that is not 0 may hold what it holds
pub record SoundOn (d words : List ℕ) : Type 0 where
  pub description : Accepted d
  pub channels : length words ≡ 768
  pub each : (ch : ℕ) → slice_index words ch ≢ 0 → MayHold (net_of d) ch (slice_index words ch)

pub record SoundRecord (r : Rehearsal) : Type 0 where
  pub fits : r.size ≤ 2057
  pub kept : SoundOn (description_of r) r.words

-- switch s has number k
abbrev pub Numbered : Net → ℕ → ℕ → Type 0
Numbered n k s = (s < n.switches) × (n.number s ≡ k)

-- What an order on sound words does: its answer, and the words afterwards.
pub data Does (n : Net) (words : List ℕ) : Order → Answer → List ℕ → Type 0 where
  -- a refusal changes nothing
  stays : {o : Order} {k : ℕ} → 0 < k → Does n words o (refused k) words
  -- the packet comes into the empty channel that leaves the switch of that number by that port
  placed : {k a p s c : ℕ} → Numbered n k s → Good n a → Holds n s 0 a p → Leaves n s p c → slice_index words c ≡ 0
      → Does n words (placing k a p) (moved c) (set words c a)
  -- it goes over to the empty channel that leaves the far end by that port
  goes : {ch p c : ℕ} → ch < n.channels → slice_index words ch ≢ 0 → Holds n (target n ch) (in_port n ch) (slice_index words ch) p
      → Leaves n (target n ch) p c → slice_index words c ≡ 0
      → Does n words (advancing ch p) (moved c) (set (set words ch 0) c (slice_index words ch))
  -- it leaves the net at port 0 or a host port of the far end, which is the switch and port of its address
  leaves : {ch p : ℕ} → ch < n.channels → Addresses n (slice_index words ch) (target n ch) p
      → Does n words (advancing ch p) (delivered p) (set words ch 0)

-- The refusals of an order on words that are sound or not.
module _ (Sound : Type 0) (n : Net) (words : List ℕ) where
  pub data PlaceWrong (k a p : ℕ) : ℕ → ℕ → Type 0 where
    unsound : (Sound → ⊥) → PlaceWrong k a p 17 0
    no_switch : ((s : ℕ) → Numbered n k s → ⊥) → PlaceWrong k a p 18 0
    bad_address : (Good n a → ⊥) → PlaceWrong k a p 19 0
    not_allowed : (s : ℕ) → Numbered n k s → (Holds n s 0 a p → ⊥) → PlaceWrong k a p 21 0
    no_cable : (s : ℕ) → Numbered n k s → ((c : ℕ) → Leaves n s p c → ⊥) → PlaceWrong k a p 21 0
    next_taken : (s c : ℕ) → Numbered n k s → Leaves n s p c → slice_index words c ≢ 0 → PlaceWrong k a p 22 0

  pub data AdvanceWrong (ch p : ℕ) : ℕ → ℕ → Type 0 where
    unsound : (Sound → ⊥) → AdvanceWrong ch p 17 0
    no_channel : n.channels ≤ ch → AdvanceWrong ch p 18 0
    empty : slice_index words ch ≡ 0 → AdvanceWrong ch p 20 0
    not_allowed : (Holds n (target n ch) (in_port n ch) (slice_index words ch) p → ⊥) → AdvanceWrong ch p 21 0
    next_taken : (c : ℕ) → Leaves n (target n ch) p c → slice_index words c ≢ 0 → AdvanceWrong ch p 22 0

  -- the refusals of either order
  abbrev pub OrderWrong : Order → ℕ → ℕ → Type 0
  OrderWrong (placing k a p) = PlaceWrong k a p
  OrderWrong (advancing ch p) = AdvanceWrong ch p
