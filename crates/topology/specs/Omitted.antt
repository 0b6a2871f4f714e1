-- What stays without a switch and the cables that end there, or without a cable.
use Rattle.std.specs.Prelude.{ℕ, Bool, true, not, List, nat_eq}
use Rattle.topology_rules.specs.Edit.{fall, clear}
use Rattle.topology.specs.declared.omitted.Omitted.{Omitted}
use Rattle.topology.specs.declared.omitted.Omitted.TheVariants.{Switch, Cable}

-- switch j stays
abbrev pub switch_stays : Omitted → ℕ → Bool
switch_stays (Switch x) j = not (nat_eq j x)
switch_stays (Cable b) j = true

-- cable c stays
abbrev pub cable_stays : List ℕ → Omitted → ℕ → Bool
cable_stays d (Switch x) c = clear d x c
cable_stays d (Cable b) c = not (nat_eq c b)

-- the position that the switch at y has then
abbrev pub position : Omitted → ℕ → ℕ
position (Switch x) y = fall x y
position (Cable b) y = y
