-- Whether one of the records before has the UID.
use Rattle.std.proofs.Common.{rules, nat_eq}
use borrow.Author.Tests.{tests}
use Rattle.topology_rules.specs.Format.{uid_at}
use Rattle.topology.proofs.Ranges.{any_passes}
use Rattle.topology.proofs.records.Records.repeated.Goals as goal

pub returns : goal.returns
returns c = any_passes (λ j. nat_eq (uid_at c.args.self.now j) c.args.u) _ _ _ _ c.any.ensures.ran (λ x b q k. (search rules, search (rules, tests)))
