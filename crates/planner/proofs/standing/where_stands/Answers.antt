-- A refusal is handed on; a switch found stands where the tree says.
use Rattle.std.proofs.Common.{◌∙◌}
use Rattle.std.proofs.lemmas.Result.{err_from_is_err_and}
use Rattle.planner.proofs.Finds.{stands_refused, stands_unknown, stands_found}
use Rattle.planner.proofs.standing.where_stands.Goals as goal

pub returns-in_err-net : goal.returns-in_err-net
returns-in_err-net c =
    let p = err_from_is_err_and c.from_residual.result c.from_residual.ensures.1 in
    rw (p.1, p.2) (stands_refused _ _ _ c.in_err-net.ensures.answer)

pub returns-in_err-s : goal.returns-in_err-s
returns-in_err-s c =
    let p = err_from_is_err_and c.from_residual-in_err-s.result c.from_residual-in_err-s.ensures.1 in
    rw (p.1, p.2, c.in_err-s.ensures.missing) (stands_unknown _ _ c.in_ok-net.ensures.answer (rw c.in_ok-net.ensures.bytes at c.in_err-s.ensures.found))

pub returns : goal.returns
returns c =
    let same = c.grow-tree.ensures ∙ c.in_ok-net.ensures.bytes in
    let there = c.in_ok-s.ensures.found in
    stands_found _ _ c.in_ok-net.ensures.answer _ _ _ _ (rw c.in_ok-net.ensures.bytes at there.0) (rw c.in_ok-net.ensures.bytes at there.1) (rw same at c.level.ensures) (rw same at c.parent_number.ensures) (rw same at c.parent_port.ensures)
