-- Of the first i switches, n stay.
use Rattle.std.proofs.Common.{◌∙◌, sym, arith}
use Rattle.topology.proofs.Choices.{count_none, count_more, count_less}
use Rattle.topology.proofs.writing.Part.switches_left.Goals.{then-keeps_switch, else-keeps_switch}
use Rattle.topology.proofs.writing.Part.switches_left.Goals as goal

pub loop-i-init : goal.loop-i-init
loop-i-init c = (omega arith, count_none _)

pub loop-i-preserved : goal.loop-i-preserved
loop-i-preserved c =
    let (few, counted) = c.loop-i.invariant in
    elim c.if-keeps_switch.branch [
      | then-keeps_switch w ↦ (omega (arith, w.n-is, few), w.n-is ∙ count_more _ _ _ counted (sym c.keeps_switch.ensures ∙ w.if-keeps_switch.true))
      | else-keeps_switch w ↦ (omega (arith, w.n-is, few), w.n-is ∙ count_less _ _ _ counted (sym c.keeps_switch.ensures ∙ w.if-keeps_switch.false))
    ]
