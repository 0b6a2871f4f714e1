-- A refusal of the check is handed on; past it the search decides.
use Rattle.topology.proofs.Handing.{returned}
use Rattle.topology.proofs.EditAnswers.{find_handed, find_unknown, find_found}
use Rattle.topology.proofs.editing.find.Goals as goal

pub returns-in_err-net : goal.returns-in_err-net
returns-in_err-net c =
    rw (returned _ c.from_residual.ensures.1) (find_handed _ _ _ c.in_err-net.ensures.answer)

pub returns-in_err-x : goal.returns-in_err-x
returns-in_err-x c =
    rw (returned _ c.from_residual-in_err-x.ensures.1, c.in_err-x.ensures.missing) (find_unknown _ _ c.in_ok-net.ensures.answer (rw c.in_ok-net.ensures.bytes at c.in_err-x.ensures.found))

pub returns : goal.returns
returns c =
    let there = c.in_ok-x.ensures.found in
    find_found _ _ c.in_ok-net.ensures.answer (rw c.in_ok-net.ensures.bytes at there.0) _ (rw c.in_ok-net.ensures.bytes at there.1)
