-- A field less is left each time; at the end the newline is.
use Rattle.planner.proofs.Lines.{field_room, field_next, end_room, end_line, room_both}
use Rattle.planner.proofs.printing.line.Goals as goal

pub put_field-requires : goal.put_field-requires
put_field-requires c = let l = c.loop-f in field_room _ l.f-index _ _ l.invariant c.loop-f-test.true (room_both _ _ c.requires)

pub loop-f-preserved : goal.loop-f-preserved
loop-f-preserved c = let l = c.loop-f in field_next _ l.f-index _ _ l.invariant c.loop-f-test.true c.put_field.ensures

pub push-requires : goal.push-requires
push-requires c = let l = c.loop-f in end_room _ l.f-index _ _ l.invariant c.loop-f-test.false (room_both _ _ c.requires)

pub returns : goal.returns
returns c = let l = c.loop-f in end_line _ l.f-index _ _ l.invariant c.loop-f-test.false c.push.ensures
