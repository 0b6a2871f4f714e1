-- Of the first i switches, the records of those that stay stand there.
use Rattle.std.proofs.Common.{◌∙◌, refl, sym, arith}
use Rattle.topology.proofs.Choices.{none_yet, passed_over, next_fits, one_more}
use Rattle.topology.proofs.writing.Part.put_switches.Goals.{then-keeps_switch, else-keeps_switch}
use Rattle.topology.proofs.writing.Part.put_switches.Goals as goal

pub loop-i-init : goal.loop-i-init
loop-i-init c = none_yet _ _

pub slice_bounds-copy_from_slice-end : goal.slice_bounds-copy_from_slice-end
slice_bounds-copy_from_slice-end c =
    let here = rw c.switches-i-end.ensures.0 at c.loop-i-test.true in
    let stays = sym c.keeps_switch.ensures ∙ c.if-keeps_switch.true in
    omega (arith, next_fits _ _ _ c.loop-i.invariant 8 (λ i. refl) _ c.requires here stays, c.loop-i.auto.out)

pub loop-i-preserved : goal.loop-i-preserved
loop-i-preserved c =
    let here = rw c.switches-i-end.ensures.0 at c.loop-i-test.true in
    elim c.if-keeps_switch.branch [
      | then-keeps_switch w ↦
          let stays = sym c.keeps_switch.ensures ∙ w.if-keeps_switch.true in
          rw (w.out-is, w.at-is) (one_more _ _ _ c.loop-i.invariant 8 (λ i. refl) _ c.requires here stays _ (w.copy_from_slice.ensures.after ∙ w.switch_record.ensures) (omega arith))
      | else-keeps_switch w ↦ rw (w.out-is, w.at-is) (passed_over _ _ _ c.loop-i.invariant (sym c.keeps_switch.ensures ∙ w.if-keeps_switch.false))
    ]
