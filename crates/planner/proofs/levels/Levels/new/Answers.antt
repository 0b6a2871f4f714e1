-- Each round settles the switches one level further; the last is one after which none has the level just given.
use Rattle.std.proofs.Common.{arith, None}
use Rattle.topology_rules.specs.Net.{net_of}
use Rattle.topology_rules.proofs.Soundness.{well_formed}
use Rattle.planner.proofs.Settling.{none_has, settled_start, settled_next, settled_done, settled_last}
use Rattle.planner.proofs.levels.Levels.new.Goals as goal
use Rattle.planner.proofs.levels.Levels.new.Goals.{else-loop-k-test, then-loop-k-test+then-not-contains}

pub loop-k-init : goal.loop-k-init
unfolding net_of
loop-k-init c =
    settled_start _ (well_formed c.args.net.now c.switches-k-end.ensures.accepted) c.roots-root.result _ c.first_levels-level.ensures.whole c.roots-root.ensures c.first_levels-level.ensures.each

pub loop-k-preserved : goal.loop-k-preserved
loop-k-preserved c = settled_next _ (well_formed _ c.switches-k-end.ensures.accepted) _ _ _ c.loop-k.invariant c.round.ensures

pub invariant_of-result : goal.invariant_of-result
unfolding net_of
invariant_of-result c =
    let wf = well_formed c.args.net.now c.switches-k-end.ensures.accepted in
    record {
      whole = c.loop-k.invariant.whole;
      few = omega arith;
      each = elim c.loop-k-test.branch [
        | else-loop-k-test w ↦ settled_last _ wf _ _ c.loop-k.invariant (omega arith)
        | then-loop-k-test+then-not-contains w ↦ settled_done _ wf _ _ c.loop-k.invariant
            (λ j l. none_has _ _ j (w.if-not-contains.ensures.cases j None (omega arith) (omega (arith, c.loop-k.invariant.whole))))
      ];
    }
