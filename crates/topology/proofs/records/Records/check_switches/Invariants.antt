-- What the records from the one at hand on give is what all of them give.
use Rattle.std.proofs.Common.{◌-◌, ◌≡◌}
use Rattle.topology_rules.specs.Format.{switch_count}
use Rattle.topology_rules.specs.Check.{Verdict, switches_from}
use Rattle.topology.proofs.records.Records.check_switches.Given as goal

abbrev pub invariant-loop-i : goal.invariant-loop-i
invariant-loop-i l =
    (rest : Verdict) → switches_from l.self (switch_count l.self) 0 rest ≡ switches_from l.self (switch_count l.self - l.i) l.i rest
