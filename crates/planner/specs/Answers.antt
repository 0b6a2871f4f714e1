-- What the answer says.
use Rattle.std.specs.Prelude.{Result, Ok, Err}
use Rattle.topology.specs.declared.refusal.Refusal.{Refusal}
use Rattle.topology.specs.Reasons.{refusal_of}
use Rattle.planner_rules.specs.Stand as stand
use Rattle.planner.specs.declared.Stand.{Stand}

abbrev pub stand_of : Result Stand Refusal → stand.Stands
stand_of (Ok s) = stand.at s.level s.parent s.port
stand_of (Err r) = stand.refused (refusal_of r)
