-- The first end, then the second, each by its place in the table.
use Rattle.std.proofs.Common.{◌∙◌}
use Rattle.topology.proofs.Noting.{first_low, second_low, taken_noted}
use Rattle.topology.proofs.Scans.{or_left, or_right}
use Rattle.topology.proofs.records.Records.ports_taken.Goals as goal

pub returns-then-occupied : goal.returns-then-occupied
returns-then-occupied c =
    let one = first_low _ _ c.requires.2 c.ends.ensures.few_switches _ c.ends.ensures.ends.0 in
    or_left _ _ _ (c.occupied.ensures ∙ taken_noted _ _ c.args.used.now c.requires.1 _ _ c.ends.ensures.ends.0 one.1 one.2) c.if-occupied.true

pub returns-else-occupied : goal.returns-else-occupied
returns-else-occupied c =
    let one = first_low _ _ c.requires.2 c.ends.ensures.few_switches _ c.ends.ensures.ends.0 in
    let other = second_low _ _ c.requires.2 c.ends.ensures.few_switches _ c.ends.ensures.ends.1 in
    or_right _ _ _ (c.occupied.ensures ∙ taken_noted _ _ c.args.used.now c.requires.1 _ _ c.ends.ensures.ends.0 one.1 one.2)
    _ c.if-occupied.false
    (c.occupied-else-occupied.ensures ∙ taken_noted _ _ c.args.used.now c.requires.1 _ _ c.ends.ensures.ends.1 other.1 other.2)
