-- The library's digits are the rules'.
use Rattle.std.proofs.Common.{arith, ap, ◌∙◌, length, ◌++◌}
use Rattle.planner.proofs.Numerals.{decimal_same}
use Rattle.planner.proofs.text.Text.decimal.Goals as goal

pub push_all-requires : goal.push_all-requires
push_all-requires c = omega (arith, c.requires, ap length (c.as_bytes.ensures.value ∙ c.format.ensures.text ∙ decimal_same c.args.x c.ranges.x.fits))

pub returns : goal.returns
returns c = c.push_all.ensures ∙ ap (λ l. c.args.self.now ++ l) (c.as_bytes.ensures.value ∙ c.format.ensures.text ∙ decimal_same c.args.x c.ranges.x.fits)
