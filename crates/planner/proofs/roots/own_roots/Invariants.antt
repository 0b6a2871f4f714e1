-- Each place passed holds its own index.
use Rattle.std.proofs.Common.{◌≡◌, length}
use Rattle.planner.specs.Rows.{Tells}
use Rattle.planner.proofs.roots.own_roots.Given as goal

abbrev pub invariant-loop-s : goal.invariant-loop-s
invariant-loop-s l = (length l.root ≡ 64) × Tells l.s l.root (λ j. j)
