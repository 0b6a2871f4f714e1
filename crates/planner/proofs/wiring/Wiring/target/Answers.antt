use Rattle.planner.proofs.Wirings.{target_told}
use Rattle.planner.proofs.wiring.Wiring.target.Goals as goal

pub returns-clause-switch : goal.returns-clause-switch
returns-clause-switch c = target_told _ c.channel.ensures.accepted _ c.requires _ c.channel.ensures.channel
