-- The steps of the channels passed are done.
use Rattle.std.proofs.Common.{◌≡◌}
use Rattle.topology_rules.specs.Net.{net_of}
use Rattle.planner.specs.Rounds.{in_turn, settled_over}
use Rattle.planner.proofs.levels.round.Given as goal

abbrev pub invariant-loop-ch : goal.invariant-loop-ch
invariant-loop-ch l = l.level ≡ in_turn l.ch (settled_over (net_of l.net) l.k) l.initial.level
