-- Before the loop no switch has a level.
use Rattle.std.proofs.Common.{arith, refl, None}
use Rattle.planner.proofs.Steps.{same_anywhere}
use Rattle.planner.proofs.levels.first_levels.Goals as goal

pub loop-s-init : goal.loop-s-init
loop-s-init c = record {
  whole = refl;
  passed = λ j h. absurd (omega arith);
  ahead = λ j h. same_anywhere 64 j None;
}
