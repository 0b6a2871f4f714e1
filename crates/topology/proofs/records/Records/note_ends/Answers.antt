-- Two ports more are marked, those of the two ends.
use Rattle.topology.proofs.Noting.{noted_next}
use Rattle.topology.proofs.records.Records.note_ends.Goals as goal

pub returns : goal.returns
returns c = noted_next _ _ c.args.used.now c.mark.new.self c.mark-2.new.self _ _ c.requires.1 c.ends.ensures.ends.0 c.ends.ensures.ends.1 c.mark.ensures c.mark-2.ensures
