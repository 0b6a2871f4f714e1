-- The steps of the channels passed are done, and whether one took a root over is noted.
use Rattle.std.proofs.Common.{◌≡◌}
use Rattle.topology_rules.specs.Count.{any}
use Rattle.topology_rules.specs.Format.{switch_count}
use Rattle.topology_rules.specs.Net.{net_of}
use Rattle.planner.specs.Rounds.{Row, in_turn, lowers_over, lifted_over}
use Rattle.planner.proofs.roots.lift_all.Given as goal

abbrev pub invariant-loop-ch : goal.invariant-loop-ch
invariant-loop-ch l = record {
  changes : l.changed ≡ any l.ch (lowers_over (net_of l.net) l.initial.root);
  lifts : l.root ≡ in_turn l.ch (lifted_over (net_of l.net)) l.initial.root;
  row : Row (switch_count l.net) l.root;
}
