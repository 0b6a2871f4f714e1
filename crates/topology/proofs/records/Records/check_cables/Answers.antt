-- What the records from the one at hand on give is what all of them give, and the marks are those of the cables before it.
use Rattle.std.proofs.Common.{◌≡◌, ◌-◌, ◌∙◌, ap, sym, arith}
use Rattle.topology.proofs.Handing.{returned}
use Rattle.topology_rules.specs.Check.{accepted, cables_from}
use Rattle.topology_rules.specs.Format.{cable_count}
use Rattle.topology.proofs.Noting.{noted_none, kept_ends}
use Rattle.topology.proofs.Passing.{cables_step, cables_done}
use Rattle.topology.proofs.records.Records.check_cables.Goals as goal

pub loop-c-init : goal.loop-c-init
loop-c-init c = let n : cable_count c.args.self.now ≡ cable_count c.args.self.now - 0 = omega arith in (ap (λ k. cables_from c.args.self.now k 0) n, noted_none _ c.none-used.result c.none-used.ensures)

pub returns-in_err-check_cable : goal.returns-in_err-check_cable
returns-in_err-check_cable c =
    rw (returned _ c.from_residual.ensures.1) (sym (c.loop-c.invariant.0 ∙ cables_step _ _ _ (rw c.cables-c-end.ensures.0 at c.loop-c-test.true) ∙ c.in_err-check_cable.ensures _))

pub note_ends-requires : goal.note_ends-requires
note_ends-requires c =
    (rw c.cables-c-end.ensures.0 at c.loop-c-test.true, c.loop-c.invariant.1, kept_ends _ _ (c.in_ok-check_cable.ensures accepted))

pub loop-c-preserved : goal.loop-c-preserved
loop-c-preserved c = (
  c.loop-c.invariant.0 ∙ cables_step _ _ _ (rw c.cables-c-end.ensures.0 at c.loop-c-test.true) ∙ c.in_ok-check_cable.ensures _,
  c.note_ends.ensures,
)

pub returns : goal.returns
returns c = sym (c.loop-c.invariant.0 ∙ cables_done _ _ _ (rw c.cables-c-end.ensures.0 at c.loop-c-test.false))
