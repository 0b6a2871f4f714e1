-- Before round k exactly the switches at level k or less are settled.
use Rattle.topology_rules.specs.Net.{net_of}
use Rattle.planner.specs.Rounds.{Settled}
use Rattle.planner.proofs.levels.Levels.new.Given as goal

abbrev pub invariant-loop-k : goal.invariant-loop-k
invariant-loop-k l = Settled (net_of l.net) l.k l.level
