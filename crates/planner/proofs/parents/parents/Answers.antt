-- Each channel is one step more, and the best of all leads to the parent.
use Rattle.std.proofs.Common.{arith}
use Rattle.planner.proofs.Chosen.{none_chosen, kept_channels, chosen_next, all_chosen}
use Rattle.planner.proofs.parents.parents.Goals as goal

pub loop-ch-init : goal.loop-ch-init
loop-ch-init c = none_chosen _ _ c.net.ensures c.channels-ch-end.ensures.accepted

pub choose-requires-clause-kept : goal.choose-requires-clause-kept
choose-requires-clause-kept c = kept_channels _ _ c.net.ensures c.channels-ch-end.ensures.accepted _ (omega arith) _ c.loop-ch.invariant

pub loop-ch-preserved : goal.loop-ch-preserved
loop-ch-preserved c = chosen_next _ _ c.net.ensures c.channels-ch-end.ensures.accepted _ (omega arith) _ c.loop-ch.invariant _ c.choose.ensures

pub returns : goal.returns
returns c = all_chosen _ _ c.net.ensures c.channels-ch-end.ensures.accepted _ _ (omega arith) c.loop-ch.invariant
