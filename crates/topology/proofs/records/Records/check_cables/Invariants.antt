-- What the records from the one at hand on give is what all of them give, and the marks are those of the cables before it.
use Rattle.std.proofs.Common.{◌-◌, ◌≡◌}
use Rattle.topology_rules.specs.Format.{cable_count}
use Rattle.topology_rules.specs.Check.{cables_from}
use Rattle.topology.specs.Used.{Noted}
use Rattle.topology.proofs.records.Records.check_cables.Given as goal

abbrev pub invariant-loop-c : goal.invariant-loop-c
invariant-loop-c l =
    (cables_from l.self (cable_count l.self) 0 ≡ cables_from l.self (cable_count l.self - l.c) l.c) × Noted l.self l.c l.used
