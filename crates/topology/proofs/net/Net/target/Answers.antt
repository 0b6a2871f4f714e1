use Rattle.std.proofs.Common.{ap, sym, ◌∙◌}
use borrow.Author.Tests.{true-ltb}
use Rattle.topology.proofs.Described.{target_is}
use Rattle.topology.proofs.net.Net.target.Goals as goal

pub returns : goal.returns
returns c =
    let there = true-ltb _ _ (sym c.if-not-has_channel.false ∙ c.has_channel.ensures.there) in
    let s = target_is _ _ c.self.view_is c.self.invariant c.args.ch there c.back.ensures.0 (ap (λ e. e.switch) c.end.ensures) in
    record { switch = (there, s.0); there = s.1; accepted = c.has_channel.ensures.accepted }
