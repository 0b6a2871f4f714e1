-- Of the first c cables, the records of those that stay stand there.
use Rattle.topology_rules.specs.Count.{those}
use Rattle.topology_rules.specs.Edit.{cable_record, records}
use Rattle.topology.specs.Inside.{Written}
use Rattle.topology.specs.Omitted.{cable_stays, position}
use Rattle.topology.proofs.writing.Part.put_cables.Given as goal

abbrev pub invariant-loop-c : goal.invariant-loop-c
invariant-loop-c l = Written l.initial.out l.from (records (cable_record l.self.records (position l.self.without)) (those l.c 0 (cable_stays l.self.records l.self.without))) l.out l.at
