-- Of the first c cables, the records of those that stay stand there.
use Rattle.std.proofs.Common.{◌∙◌, refl, sym, arith}
use Rattle.topology.proofs.Choices.{none_yet, passed_over, next_fits, one_more}
use Rattle.topology.proofs.writing.Part.put_cables.Goals.{then-keeps_cable, else-keeps_cable}
use Rattle.topology.proofs.writing.Part.put_cables.Goals as goal

pub loop-c-init : goal.loop-c-init
loop-c-init c = none_yet _ _

pub slice_bounds-copy_from_slice-end : goal.slice_bounds-copy_from_slice-end
slice_bounds-copy_from_slice-end c =
    let here = rw c.cables-c-end.ensures.0 at c.loop-c-test.true in
    let stays = sym c.keeps_cable.ensures ∙ c.if-keeps_cable.true in
    omega (arith, next_fits _ _ _ c.loop-c.invariant 4 (λ i. refl) _ c.requires here stays, c.loop-c.auto.out)

pub loop-c-preserved : goal.loop-c-preserved
loop-c-preserved c =
    let here = rw c.cables-c-end.ensures.0 at c.loop-c-test.true in
    elim c.if-keeps_cable.branch [
      | then-keeps_cable w ↦
          let stays = sym c.keeps_cable.ensures ∙ w.if-keeps_cable.true in
          rw (w.out-is, w.at-is) (one_more _ _ _ c.loop-c.invariant 4 (λ i. refl) _ c.requires here stays _ (w.copy_from_slice.ensures.after ∙ w.cable_record.ensures) (omega arith))
      | else-keeps_cable w ↦ rw (w.out-is, w.at-is) (passed_over _ _ _ c.loop-c.invariant (sym c.keeps_cable.ensures ∙ w.if-keeps_cable.false))
    ]
