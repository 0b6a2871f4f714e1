-- Each channel is one step more.
use Rattle.std.proofs.Common.{arith, ◌≡◌}
use Rattle.topology_rules.specs.Net.{net_of}
use Rattle.planner.proofs.Steps.{turn_first, turn_next}
use Rattle.planner.proofs.Settling.{settled_at}
use Rattle.planner.proofs.levels.round.Goals as goal

pub loop-ch-init : goal.loop-ch-init
loop-ch-init c = turn_first _ _

pub loop-ch-preserved : goal.loop-ch-preserved
loop-ch-preserved c =
    turn_next _ _ _ _ _ c.loop-ch.invariant (settled_at (net_of _) c.args.k _ _ _ c.loop-ch.level _ c.source.ensures.switch.0 c.target.ensures.switch.0 c.settle.ensures)

pub returns : goal.returns
unfolding net_of
returns c = let e : (net_of c.args.net.now).channels ≡ c.loop-ch.ch = omega arith in rw e c.loop-ch.invariant
