-- The least switch with the UID.
use Rattle.std.proofs.Common.{rules, nat_eq}
use borrow.Author.Tests.{tests}
use Rattle.topology_rules.specs.Edit.{find}
use Rattle.topology_rules.specs.Net.{net_of}
use Rattle.topology.proofs.Ranges.{least_from_find, ok_at_least}
use Rattle.topology.proofs.net.Net.find.Goals as goal

pub returns-clause-found : goal.returns-clause-found
unfolding find net_of
returns-clause-found c =
    ok_at_least _ _ _ _ c.ok_or.ensures.value
    (least_from_find (λ i. nat_eq ((net_of c.args.self.now).uid i) c.args.uid) _ _ _ _ c.find.ensures.ran c.switches.ensures.count.0 (λ x b q k. (search rules, search (rules, tests))))
