-- The channels passed are chosen over.
use Rattle.topology_rules.specs.Net.{net_of}
use Rattle.planner.proofs.Chosen.{Chosen}
use Rattle.planner.proofs.parents.parents.Given as goal

abbrev pub invariant-loop-ch : goal.invariant-loop-ch
invariant-loop-ch l = Chosen (net_of l.levels) l.ch l.best
