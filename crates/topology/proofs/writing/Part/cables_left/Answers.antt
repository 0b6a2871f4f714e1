-- Of the first c cables, n stay.
use Rattle.std.proofs.Common.{◌∙◌, sym, arith}
use Rattle.topology.proofs.Choices.{count_none, count_more, count_less}
use Rattle.topology.proofs.writing.Part.cables_left.Goals.{then-keeps_cable, else-keeps_cable}
use Rattle.topology.proofs.writing.Part.cables_left.Goals as goal

pub loop-c-init : goal.loop-c-init
loop-c-init c = (omega arith, count_none _)

pub loop-c-preserved : goal.loop-c-preserved
loop-c-preserved c =
    let (few, counted) = c.loop-c.invariant in
    elim c.if-keeps_cable.branch [
      | then-keeps_cable w ↦ (omega (arith, w.n-is, few), w.n-is ∙ count_more _ _ _ counted (sym c.keeps_cable.ensures ∙ w.if-keeps_cable.true))
      | else-keeps_cable w ↦ (omega (arith, w.n-is, few), w.n-is ∙ count_less _ _ _ counted (sym c.keeps_cable.ensures ∙ w.if-keeps_cable.false))
    ]
