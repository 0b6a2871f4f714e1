-- Of the first i switches, n stay.
use Rattle.std.proofs.Common.{◌≡◌, ◌≤◌, length}
use Rattle.topology_rules.specs.Count.{those}
use Rattle.topology.specs.Omitted.{switch_stays}
use Rattle.topology.proofs.writing.Part.switches_left.Given as goal

abbrev pub invariant-loop-i : goal.invariant-loop-i
invariant-loop-i l = (l.n ≤ l.i) × (l.n ≡ length (those l.i 0 (switch_stays l.self.without)))
