use Rattle.std.proofs.Common.{arith}
use Rattle.topology.proofs.Described.{uid_seen}
use Rattle.topology.proofs.net.Net.uid.Goals as goal

pub returns : goal.returns
returns c = (omega arith, uid_seen _ _ c.self.view_is _ c.uid.ensures)
