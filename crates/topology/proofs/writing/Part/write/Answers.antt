-- The header, the switch records and the cable records, one after the other.
use Rattle.std.proofs.Common.{◌∙◌, refl, arith}
use Rattle.topology.proofs.Pieces.{front_written}
use Rattle.topology.proofs.Without.{switches_end, left_length, left_written}
use Rattle.topology.proofs.writing.Part.write.Goals as goal

pub returns-then-out-switches-clause-room : goal.returns-then-out-switches-clause-room
returns-then-out-switches-clause-room c =
    omega (arith, left_length c.args.self.now, c.switches_left-switches.ensures, c.cables_left-cables.ensures, c.if-out-switches.true)

pub put_cables-requires : goal.put_cables-requires
put_cables-requires c =
    let at = switches_end c.args.self.now c.put_switches-at.ensures in
    omega (arith, at, c.switches_left-switches.ensures, c.cables_left-cables.ensures, c.if-out-switches.false, c.put_switches-at.auto.out)

pub returns-clause-room : goal.returns-clause-room
returns-clause-room c =
    omega (arith, left_length c.args.self.now, c.switches_left-switches.ensures, c.cables_left-cables.ensures, c.if-out-switches.false)

pub returns-clause-ok : goal.returns-clause-ok
returns-clause-ok c =
    left_written c.args.self.now c.switches_left-switches.ensures.0 c.cables_left-cables.ensures.0 c.if-out-switches.false
    (front_written _ _ _ _ (c.copy_from_slice.ensures.after ∙ c.header.ensures) refl) c.put_switches-at.ensures c.put_cables.ensures
