-- The lines of the first switches, below k, stand at the end.
use Rattle.std.proofs.Common.{◌≡◌, ◌++◌, ◌-◌}
use Rattle.topology_rules.specs.Count.{tabulate}
use Rattle.topology_rules.specs.Net.{net_of}
use Rattle.topology_rules.specs.Edit.{records}
use Rattle.planner_rules.specs.Printed.{switch_line}
use Rattle.planner.proofs.printing.switch_lines.Given as goal

abbrev pub invariant-loop-k : goal.invariant-loop-k
invariant-loop-k l = l.text ≡ l.fn.text ++ records (switch_line (net_of l.tree)) (tabulate (l.k - 1) 1 (λ i. i))
