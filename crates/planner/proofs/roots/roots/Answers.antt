-- Each pass carries the roots one cable further.
use Rattle.std.proofs.Common.{arith, sym, ◌∙◌}
use Rattle.topology_rules.specs.Net.{net_of}
use Rattle.topology_rules.proofs.Soundness.{well_formed}
use Rattle.planner.proofs.Lifting.{own_row, near_none, near_next, near_quiet, near_last}
use Rattle.planner.proofs.roots.roots.Goals as goal

pub loop-pass-init : goal.loop-pass-init
unfolding net_of
loop-pass-init c =
    let wf = well_formed c.args.net.now c.switches-pass-end.ensures.accepted in
    record {
      row = own_row _ wf _ c.own_roots-root.ensures.0 c.own_roots-root.ensures.1;
      near = near_none _ wf _ c.own_roots-root.ensures.0 c.own_roots-root.ensures.1;
    }

pub loop-pass-preserved : goal.loop-pass-preserved
loop-pass-preserved c = record {
  row = c.lift_all.ensures.row;
  near = near_next _ (well_formed _ c.switches-pass-end.ensures.accepted) _ _ _ c.loop-pass.invariant.near c.lift_all.ensures.lifts;
}

pub returns-then-not-lift_all : goal.returns-then-not-lift_all
unfolding net_of
returns-then-not-lift_all c =
    near_quiet _ (well_formed c.args.net.now c.switches-pass-end.ensures.accepted) _ _ _ c.loop-pass.invariant.near c.lift_all.ensures.lifts (sym c.lift_all.ensures.changes ∙ c.if-not-lift_all.true)

pub returns-after-loop-pass : goal.returns-after-loop-pass
unfolding net_of
returns-after-loop-pass c =
    near_last _ (well_formed c.args.net.now c.switches-pass-end.ensures.accepted) _ _ (omega arith) c.loop-pass.invariant.near
