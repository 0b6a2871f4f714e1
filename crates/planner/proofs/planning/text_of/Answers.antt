-- A refusal is one line.
use Rattle.planner.proofs.Refusals.{refusal_told}
use Rattle.planner.proofs.planning.text_of.Goals as goal

pub returns-in-Err : goal.returns-in-Err
returns-in-Err c = refusal_told _ c.in-Err.refusal c.in-Err.ensures.answer c.refused.ensures
