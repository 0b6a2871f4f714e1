-- Which channels' contents are sound, whatever way they came about.
use Rattle.std.specs.Prelude.{ℕ, suc, List, [], ◌∷◌, Bool, true, nat_lt}
use Rattle.topology_rules.specs.Count.{both}
use Rattle.topology_rules.specs.Net.{Net, target, in_port, live}
use Rattle.planner_rules.specs.Table.{good, entry}
use Rattle.rehearsal_rules.specs.Packets.{Cell, none, packet}

module _ (n : Net) where
  -- a packet that ch may hold: a good address, and an entry above 0 where it will arrive; none from 2 × L on
  abbrev pub sound_at : ℕ → ℕ → Bool
  sound_at ch a = both (live n ch) (both (good n a) (nat_lt 0 (entry n (target n ch) (in_port n ch) a)))

  abbrev pub sound_cell : ℕ → Cell → Bool
  sound_cell ch none = true
  sound_cell ch (packet pk) = sound_at ch pk.address

  unfoldable pub sound_from : ℕ → List Cell → Bool
  sound_from ch [] = true
  sound_from ch (x ∷ held) = both (sound_cell ch x) (sound_from (suc ch) held)

  abbrev pub sound_held : List Cell → Bool
  sound_held held = sound_from 0 held
