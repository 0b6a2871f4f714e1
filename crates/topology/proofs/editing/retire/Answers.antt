-- A refusal is handed on or found; past them all the writer has written the rest.
use Rattle.std.proofs.Common.{◌≡◌, ◌∙◌, sym}
use Rattle.topology.proofs.Handing.{returned}
use Rattle.topology_rules.specs.Format.{switch_count}
use Rattle.topology.proofs.EditAnswers.{retire_handed, retire_unknown, retire_only, retire_little, retire_written}
use Rattle.topology.proofs.editing.retire.Goals as goal

pub returns-in_err-net : goal.returns-in_err-net
returns-in_err-net c =
    let g = retire_handed _ _ _ c.in_err-net.ensures.answer _ in
    rw (returned _ c.from_residual.ensures.1) (record { answer = g.0; output = g.1 })

pub returns-in_err-x : goal.returns-in_err-x
returns-in_err-x c =
    let g = retire_unknown _ _ c.in_ok-net.ensures.answer (rw c.in_ok-net.ensures.bytes at c.in_err-x.ensures.found) _ in
    rw (returned _ c.from_residual-in_err-x.ensures.1, c.in_err-x.ensures.missing) (record { answer = g.0; output = g.1 })

pub returns-then-switches-eq1 : goal.returns-then-switches-eq1
returns-then-switches-eq1 c =
    let there = rw c.in_ok-net.ensures.bytes at c.in_ok-x.ensures.found.0 in
    let g = retire_only _ _ c.in_ok-net.ensures.answer there _ (rw c.in_ok-net.ensures.bytes at (sym c.switches.ensures.count.0 ∙ c.if-switches-eq1.true)) in
    rw c.at.ensures (record { answer = g.0; output = g.1 })

pub returns-in_err-write : goal.returns-in_err-write
returns-in_err-write c =
    let same : c.net.inside.records ≡ c.args.d.now = c.net.view_is ∙ c.in_ok-net.ensures.bytes in
    let there = rw c.in_ok-net.ensures.bytes at c.in_ok-x.ensures.found in
    let more : switch_count c.args.d.now ≡ 1 → ⊥ = λ e. c.if-switches-eq1.false (c.switches.ensures.count.0 ∙ rw c.in_ok-net.ensures.bytes e) in
    let g = retire_little _ _ c.in_ok-net.ensures.answer there.0 _ more _ there.1 (rw same at c.in_err-write.ensures.room) in
    rw (returned _ c.from_residual-in_err-write.ensures.1, c.in_err-write.ensures.ok.0, c.in_err-write.ensures.ok.1) (record { answer = g.0; output = g.1 })

pub returns : goal.returns
returns c =
    let same : c.net.inside.records ≡ c.args.d.now = c.net.view_is ∙ c.in_ok-net.ensures.bytes in
    let there = rw c.in_ok-net.ensures.bytes at c.in_ok-x.ensures.found in
    let more : switch_count c.args.d.now ≡ 1 → ⊥ = λ e. c.if-switches-eq1.false (c.switches.ensures.count.0 ∙ rw c.in_ok-net.ensures.bytes e) in
    let written = rw same at c.in_ok-write.ensures.ok in
    let g = retire_written _ _ c.in_ok-net.ensures.answer there.0 _ more _ there.1 (rw same at c.in_ok-write.ensures.room) _ _ written.0 written.1 in
    record { answer = g.0; output = g.1 }
