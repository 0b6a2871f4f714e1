-- After k passes no UID within k cables is lower; as many passes as switches are enough, and so is one that changes nothing.
use Rattle.topology_rules.specs.Format.{switch_count}
use Rattle.topology_rules.specs.Net.{net_of}
use Rattle.planner.specs.Rounds.{Row}
use Rattle.planner.proofs.Lifting.{Near}
use Rattle.planner.proofs.roots.roots.Given as goal

abbrev pub invariant-loop-pass : goal.invariant-loop-pass
invariant-loop-pass l = record {
  row : Row (switch_count l.net) l.root;
  near : Near (net_of l.net) l._pass l.root;
}
