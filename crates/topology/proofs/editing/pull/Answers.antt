-- A refusal is handed on or found; past them all the writer has written the rest.
use Rattle.std.proofs.Common.{◌≡◌, ◌∙◌}
use Rattle.topology.proofs.Handing.{returned}
use Rattle.topology.proofs.EditAnswers.{pull_handed, pull_unknown, pull_none, pull_little, pull_written}
use Rattle.topology.proofs.editing.pull.Goals as goal

pub returns-in_err-net : goal.returns-in_err-net
returns-in_err-net c =
    let g = pull_handed _ _ _ c.in_err-net.ensures.answer _ _ in
    rw (returned _ c.from_residual.ensures.1) (record { answer = g.0; output = g.1 })

pub returns-in_err-x : goal.returns-in_err-x
returns-in_err-x c =
    let g = pull_unknown _ _ c.in_ok-net.ensures.answer (rw c.in_ok-net.ensures.bytes at c.in_err-x.ensures.found) _ _ in
    rw (returned _ c.from_residual-in_err-x.ensures.1, c.in_err-x.ensures.missing) (record { answer = g.0; output = g.1 })

pub returns-in_err-c : goal.returns-in_err-c
returns-in_err-c c =
    let same : c.net.inside.records ≡ c.args.d.now = c.net.view_is ∙ c.in_ok-net.ensures.bytes in
    let there = rw c.in_ok-net.ensures.bytes at c.in_ok-x.ensures.found in
    let g = pull_none _ _ c.in_ok-net.ensures.answer there.0 _ _ _ there.1 (rw same at c.in_err-c.ensures.found) in
    rw (returned _ c.from_residual-in_err-c.ensures.1, c.in_err-c.ensures.missing) (record { answer = g.0; output = g.1 })

pub returns-in_err-write : goal.returns-in_err-write
returns-in_err-write c =
    let same : c.net.inside.records ≡ c.args.d.now = c.net.view_is ∙ c.in_ok-net.ensures.bytes in
    let there = rw c.in_ok-net.ensures.bytes at c.in_ok-x.ensures.found in
    let cable = rw same at c.in_ok-c.ensures.found in
    let g = pull_little _ _ c.in_ok-net.ensures.answer there.0 _ _ _ there.1 cable.0 _ cable.1 (rw same at c.in_err-write.ensures.room) in
    rw (returned _ c.from_residual-in_err-write.ensures.1, c.in_err-write.ensures.ok.0, c.in_err-write.ensures.ok.1) (record { answer = g.0; output = g.1 })

pub returns : goal.returns
returns c =
    let same : c.net.inside.records ≡ c.args.d.now = c.net.view_is ∙ c.in_ok-net.ensures.bytes in
    let there = rw c.in_ok-net.ensures.bytes at c.in_ok-x.ensures.found in
    let cable = rw same at c.in_ok-c.ensures.found in
    let written = rw same at c.in_ok-write.ensures.ok in
    let g = pull_written _ _ c.in_ok-net.ensures.answer there.0 _ _ _ there.1 cable.0 _ cable.1 (rw same at c.in_ok-write.ensures.room) _ _ written.0 written.1 in
    record { answer = g.0; output = g.1 }
