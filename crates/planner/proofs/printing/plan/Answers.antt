-- The first line, the lines of the switches, and the lines of the cables.
use Rattle.planner.proofs.Plans.{heading_room, switches_room, links_room, plan_told}
use Rattle.planner.proofs.printing.plan.Goals as goal

pub line-requires : goal.line-requires
line-requires c =
    let s = c.switches.ensures in
    heading_room _ s.accepted c.switches.result c.cables.result s.count.0 c.cables.ensures.0 c.new-text.ensures

pub switch_lines-requires : goal.switch_lines-requires
switch_lines-requires c =
    let s = c.switches.ensures in
    switches_room _ s.accepted c.switches.result c.cables.result s.count.0 c.cables.ensures.0 c.new-text.ensures c.line.ensures

pub link_lines-requires : goal.link_lines-requires
link_lines-requires c =
    let s = c.switches.ensures in
    links_room _ s.accepted c.switches.result c.cables.result s.count.0 c.cables.ensures.0 c.new-text.ensures c.line.ensures c.switch_lines.ensures

pub returns : goal.returns
returns c =
    let s = c.switches.ensures in
    plan_told _ s.accepted c.switches.result c.cables.result s.count.0 c.cables.ensures.0 c.new-text.ensures c.line.ensures c.switch_lines.ensures c.link_lines.ensures
