-- Where no record is refused, the description is accepted.
use Rattle.topology.proofs.Headings.{none_refused}
use Rattle.topology.proofs.net.Net.read.Goals as goal

pub invariant_of-result : goal.invariant_of-result
invariant_of-result c =
    none_refused _ _ c.in_ok-records.ensures.bytes c.in_ok-records.ensures.answer c.in_ok-check_switches.ensures c.in_ok-check_cables.ensures
