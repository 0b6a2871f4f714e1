-- A byte less is left each time.
use Rattle.std.proofs.Common.{arith, ap, length, drop}
use Rattle.std.proofs.lemmas.List.{length-append, length-drop}
use Rattle.planner.proofs.text.Text.push_all.Goals as goal

pub push-requires : goal.push-requires
push-requires c =
    let l = c.loop-b in
    omega (arith, c.requires, c.loop-b-test.true, ap length l.invariant, length-append l.self (drop l.b-index c.args.w.now), length-append c.args.self.now c.args.w.now, length-drop l.b-index c.args.w.now)
