-- What is written, and then the fields that are left, is the whole line.
use Rattle.std.proofs.Common.{◌≡◌, ◌++◌, drop, map}
use Rattle.planner_rules.specs.Printed.{fields, line}
use Rattle.planner.specs.Lines.{field_text}
use Rattle.planner.proofs.printing.line.Given as goal

abbrev pub invariant-loop-f : goal.invariant-loop-f
invariant-loop-f l = l.text ++ fields (map field_text (drop l.f-index l.fs)) ≡ l.fn.text ++ line l.word (map field_text l.fs)
