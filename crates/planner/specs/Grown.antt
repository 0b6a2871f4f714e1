-- The tree that an accepted description makes.
use Rattle.std.specs.Prelude.{ℕ, suc, ◌<◌, ◌≡◌, List, Some, length, slice_get, slice_index}
use Rattle.topology_rules.specs.Format.{switch_count}
use Rattle.topology_rules.specs.Accepted.{Accepted}
use Rattle.topology_rules.specs.Net.{Net, net_of}
use Rattle.planner_rules.specs.Tree.{level}
use Rattle.planner_rules.specs.Table.{holder}
use Rattle.planner.specs.declared.place.Place.{Place}
use Rattle.planner.specs.Choices.{parent_of}

-- what the tree says of switch s
abbrev pub place_of : Net → ℕ → Place
place_of n s = record { level = level n s; number = n.number s; parent = parent_of n s }

-- l says so of every switch of accepted description d
pub record Grown (d : List ℕ) (l : List Place) : Type 0 where
  pub accepted : Accepted d
  pub each : (s : ℕ) → s < switch_count d → slice_get l s ≡ Some (place_of (net_of d) s)

-- h has at place k the switch of description d with number k + 1, where one has it
pub record Held (d h : List ℕ) : Type 0 where
  pub whole : length h ≡ 64
  pub each : (k : ℕ) → holder (net_of d) (suc k) < switch_count d → slice_index h k ≡ holder (net_of d) (suc k)
