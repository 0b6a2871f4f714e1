-- Of the first i switches, the records of those that stay stand there.
use Rattle.topology_rules.specs.Count.{those}
use Rattle.topology_rules.specs.Edit.{switch_record, records}
use Rattle.topology.specs.Inside.{Written}
use Rattle.topology.specs.Omitted.{switch_stays}
use Rattle.topology.proofs.writing.Part.put_switches.Given as goal

abbrev pub invariant-loop-i : goal.invariant-loop-i
invariant-loop-i l = Written l.initial.out l.from (records (switch_record l.self.records) (those l.i 0 (switch_stays l.self.without))) l.out l.at
