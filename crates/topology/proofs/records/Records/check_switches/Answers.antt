-- What the records from the one at hand on give is what all of them give.
use Rattle.std.proofs.Common.{◌∙◌}
use Rattle.topology.proofs.Handing.{returned}
use Rattle.topology.proofs.Passing.{switches_step, switches_done}
use Rattle.topology.proofs.records.Records.check_switches.Goals as goal

pub returns-in_err-check_switch : goal.returns-in_err-check_switch
returns-in_err-check_switch c rest =
    rw (returned _ c.from_residual.ensures.1) (c.loop-i.invariant rest ∙ switches_step _ _ _ (rw c.switches-i-end.ensures.0 at c.loop-i-test.true) rest ∙ c.in_err-check_switch.ensures _)

pub loop-i-preserved : goal.loop-i-preserved
loop-i-preserved c rest =
    c.loop-i.invariant rest ∙ switches_step _ _ _ (rw c.switches-i-end.ensures.0 at c.loop-i-test.true) rest ∙ c.in_ok-check_switch.ensures _

pub returns : goal.returns
returns c rest = c.loop-i.invariant rest ∙ switches_done _ _ _ (rw c.switches-i-end.ensures.0 at c.loop-i-test.false) rest
