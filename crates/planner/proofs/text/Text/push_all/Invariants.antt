-- What is written, and then the bytes that are left, is the whole text.
use Rattle.std.proofs.Common.{◌≡◌, ◌++◌, drop}
use Rattle.planner.proofs.text.Text.push_all.Given as goal

abbrev pub invariant-loop-b : goal.invariant-loop-b
invariant-loop-b l = l.self ++ drop l.b-index l.w ≡ l.fn.self ++ l.w
