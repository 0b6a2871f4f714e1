-- It is the only line, and it is short.
use Rattle.std.proofs.Common.{arith, ap, length}
use Rattle.planner.proofs.Lines.{refusal_room}
use Rattle.planner.proofs.printing.refused.Goals as goal

pub line-requires : goal.line-requires
line-requires c = omega (arith, ap length c.new-text.ensures, refusal_room c.from.result c.args.refusal.position (omega arith) (omega arith))
