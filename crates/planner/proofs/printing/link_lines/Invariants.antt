-- The lines of the first c cables stand at the end.
use Rattle.std.proofs.Common.{◌≡◌, ◌++◌}
use Rattle.topology_rules.specs.Count.{tabulate}
use Rattle.topology_rules.specs.Net.{net_of}
use Rattle.topology_rules.specs.Edit.{records}
use Rattle.planner_rules.specs.Printed.{link_line}
use Rattle.planner.proofs.printing.link_lines.Given as goal

abbrev pub invariant-loop-c : goal.invariant-loop-c
invariant-loop-c l = l.text ≡ l.fn.text ++ records (link_line (net_of l.tree)) (tabulate l.c 0 (λ i. i))
