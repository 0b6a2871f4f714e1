-- The channels are as many as the rules count.
use Rattle.std.proofs.Common.{ap}
use lib.Dec.{ltb}
use Rattle.topology.proofs.net.Net.has_channel.Goals as goal

pub returns-clause-there : goal.returns-clause-there
returns-clause-there c = ap (λ n. ltb c.args.ch n) c.channels.ensures.count.0
