-- The library's digits of the lowest six bytes are the rules'.
use Rattle.std.proofs.Common.{arith, ap, ◌∙◌, length, ◌++◌}
use Rattle.planner.proofs.Numerals.{hex_same}
use Rattle.planner.proofs.text.Text.hex.Goals as goal

pub push_all-requires : goal.push_all-requires
push_all-requires c = omega (arith, c.requires, ap length (rw c.unwrap.ensures at c.encode_to_slice.ensures.written ∙ hex_same c.args.u c.to_be_bytes.ensures))

pub returns : goal.returns
returns c = c.push_all.ensures ∙ ap (λ l. c.args.self.now ++ l) (rw c.unwrap.ensures at c.encode_to_slice.ensures.written ∙ hex_same c.args.u c.to_be_bytes.ensures)
