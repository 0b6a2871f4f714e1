-- A line more is that of the next cable.
use Rattle.std.proofs.Common.{◌+◌, arith}
use Rattle.topology_rules.specs.Net.{net_of}
use Rattle.planner_rules.specs.Printed.{link_line}
use Rattle.planner.proofs.Following.{run_begun, run_room, run_next}
use Rattle.planner.proofs.printing.link_lines.Goals as goal

pub loop-c-init : goal.loop-c-init
loop-c-init c = run_begun (link_line (net_of c.args.tree.now)) 0 _

pub link_line-requires : goal.link_line-requires
link_line-requires c =
    let l = c.loop-c in
    (omega arith, run_room (link_line (net_of c.args.tree.now)) 0 _ l.c l.c (omega arith) l.invariant _ (omega arith) c.requires)

pub loop-c-preserved : goal.loop-c-preserved
loop-c-preserved c =
    let l = c.loop-c in
    run_next (link_line (net_of c.args.tree.now)) 0 _ l.c l.c (omega arith) l.invariant (l.c + 1) (omega arith) c.link_line.ensures
