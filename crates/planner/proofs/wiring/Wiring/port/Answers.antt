use Rattle.planner.proofs.Wirings.{port_told}
use Rattle.planner.proofs.wiring.Wiring.port.Goals as goal

pub returns : goal.returns
returns c = port_told _ c.channel.ensures.accepted _ c.requires _ c.channel.ensures.channel
