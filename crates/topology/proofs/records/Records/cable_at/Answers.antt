-- The least cable with an end at the port.
use Rattle.std.proofs.Common.{◌+◌, ◌*◌, rules}
use borrow.Author.Tests.{tests}
use Rattle.topology_rules.specs.Count.{either}
use Rattle.topology_rules.specs.Edit.{cable_of}
use Rattle.topology_rules.specs.Format.{ends_at}
use Rattle.topology.proofs.Ranges.{least_from_find, ok_at_least}
use Rattle.topology.proofs.records.Records.cable_at.Goals as goal

pub returns-clause-found : goal.returns-clause-found
unfolding cable_of
returns-clause-found c =
    ok_at_least _ _ _ _ c.ok_or.ensures.value
    (least_from_find
    (λ b. either (ends_at c.args.self.now c.args.x c.args.p (2 * b)) (ends_at c.args.self.now c.args.x c.args.p (2 * b + 1)))
    _ _ _ _ c.find.ensures.ran c.cables.ensures.0 (λ x b q k. (search rules, search (rules, tests))))
