-- A line more is that of the next switch.
use Rattle.std.proofs.Common.{◌+◌, ◌-◌, arith}
use Rattle.topology_rules.specs.Net.{net_of}
use Rattle.planner_rules.specs.Printed.{switch_line}
use Rattle.planner.proofs.Following.{run_begun, run_room, run_next}
use Rattle.planner.proofs.Holders.{held_at}
use Rattle.planner.proofs.Plans.{number_held}
use Rattle.planner.proofs.printing.switch_lines.Goals as goal

pub loop-k-init : goal.loop-k-init
loop-k-init c = run_begun (switch_line (net_of c.args.tree.now)) 1 _

pub switch_line-requires : goal.switch_line-requires
switch_line-requires c =
    let l = c.loop-k in
    let ok = c.switches-k-end.ensures.accepted in
    let (there, same) = held_at _ ok _ c.holders-holder.ensures l.k (omega arith) (number_held _ ok l.k (omega arith) (omega arith)) in (
      there,
      same,
      run_room (switch_line (net_of c.args.tree.now)) 1 _ (l.k - 1) l.k (omega arith) l.invariant _ (omega arith) c.requires,
    )

pub loop-k-preserved : goal.loop-k-preserved
loop-k-preserved c =
    let l = c.loop-k in
    run_next (switch_line (net_of c.args.tree.now)) 1 _ (l.k - 1) l.k (omega arith) l.invariant (l.k + 1 - 1) (omega arith) c.switch_line.ensures

pub returns-2 : goal.returns-2
returns-2 c =
    let l = c.loop-k in
    run_next (switch_line (net_of c.args.tree.now)) 1 _ (l.k - 1) l.k (omega arith) l.invariant _ (omega arith) c.switch_line.ensures
