use Rattle.std.proofs.Common.{ap, sym, ◌∙◌}
use borrow.Author.Tests.{true-ltb}
use Rattle.topology.proofs.Described.{port_is}
use Rattle.topology.proofs.net.Net.port.Goals as goal

pub returns : goal.returns
returns c =
    let there = true-ltb _ _ (sym c.if-not-has_channel.false ∙ c.has_channel.ensures.there) in
    let p = port_is _ _ c.self.view_is c.self.invariant c.args.ch there (ap (λ e. e.port) c.end.ensures) in
    record { port = (there, p.0); of_a_cable = p.1 }
