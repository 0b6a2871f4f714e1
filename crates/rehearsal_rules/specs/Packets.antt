-- What a channel holds, and the word that says so in a record.
use Rattle.std.specs.Prelude.{ℕ, suc, zero, List, map, Bool, true, false, replicate}

-- a packet is known by its address
pub record Packet : Type 0 where
  pub address : ℕ

-- a packet as it is placed
abbrev pub sent : ℕ → Packet
sent a = record { address = a }

-- what a channel holds
pub data Cell : Type 0 where
  none : Cell
  packet : Packet → Cell

-- a channel holds a packet
abbrev pub Full : Cell → Type 0
Full none = ⊥
Full (packet pk) = Unit {0}

abbrev pub full? : Cell → Bool
full? none = false
full? (packet pk) = true

-- 0 where there is none
abbrev pub address_of : Cell → ℕ
address_of none = 0
address_of (packet pk) = pk.address

-- a channel's word is 0, or its packet's address
abbrev pub cell_of : ℕ → Cell
cell_of zero = none
cell_of (suc a) = packet (sent (suc a))

abbrev pub word_of : Cell → ℕ
word_of x = address_of x

abbrev pub cells_of : List ℕ → List Cell
cells_of words = map cell_of words

abbrev pub words_of : List Cell → List ℕ
words_of held = map word_of held

-- every channel empty
unfoldable pub nothing : List Cell
nothing = replicate 768 none
