use Rattle.planner.proofs.Wirings.{source_told}
use Rattle.planner.proofs.wiring.Wiring.source.Goals as goal

pub returns-clause-switch : goal.returns-clause-switch
returns-clause-switch c = source_told _ c.channel.ensures.accepted _ c.requires _ c.channel.ensures.channel
