-- Each channel is one step more, which says whether it took a root over.
use Rattle.std.proofs.Common.{arith, ◌≡◌}
use Rattle.topology_rules.specs.Net.{net_of}
use Rattle.planner.proofs.Lifting.{lifted_at, lowers_at}
use Rattle.planner.proofs.Steps.{any_first, any_next, turn_first, turn_next}
use Rattle.planner.proofs.roots.lift_all.Goals as goal

pub loop-ch-init : goal.loop-ch-init
loop-ch-init c = record { changes = any_first _; lifts = turn_first _ _; row = c.requires }

pub loop-ch-preserved : goal.loop-ch-preserved
loop-ch-preserved c = record {
  changes = any_next _ _ _ _ c.loop-ch.invariant.changes
      (lowers_at (net_of _) _ _ _ _ _ _ c.source.ensures.switch.0 c.target.ensures.switch.0 c.loop-ch.invariant.lifts c.lift-changed.ensures.lowers);
  lifts = turn_next _ _ _ _ _ c.loop-ch.invariant.lifts (lifted_at (net_of _) _ _ _ _ _ c.source.ensures.switch.0 c.target.ensures.switch.0 c.lift-changed.ensures.lifts);
  row = c.lift-changed.ensures.row;
}

pub returns-clause-changes : goal.returns-clause-changes
unfolding net_of
returns-clause-changes c = let e : (net_of c.args.net.now).channels ≡ c.loop-ch.ch = omega arith in rw e c.loop-ch.invariant.changes

pub returns-clause-lifts : goal.returns-clause-lifts
unfolding net_of
returns-clause-lifts c = let e : (net_of c.args.net.now).channels ≡ c.loop-ch.ch = omega arith in rw e c.loop-ch.invariant.lifts
