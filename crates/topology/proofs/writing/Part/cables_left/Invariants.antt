-- Of the first c cables, n stay.
use Rattle.std.proofs.Common.{◌≡◌, ◌≤◌, length}
use Rattle.topology_rules.specs.Count.{those}
use Rattle.topology.specs.Omitted.{cable_stays}
use Rattle.topology.proofs.writing.Part.cables_left.Given as goal

abbrev pub invariant-loop-c : goal.invariant-loop-c
invariant-loop-c l = (l.n ≤ l.c) × (l.n ≡ length (those l.c 0 (cable_stays l.self.records l.self.without)))
