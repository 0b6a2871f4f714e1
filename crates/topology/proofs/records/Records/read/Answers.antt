-- The rules are asked in their order, and the first that applies is returned.
use Rattle.std.proofs.Common.{◌∙◌, ap, sym, not, arith}
use borrow.Author.Tests.{lt-ltb, ne_eqb}
use Rattle.topology.proofs.Passing.{applies}
use Rattle.topology.proofs.Headings.{from_start, not_short, right_mark, right_version, right_switches, right_cables, other_length, right_length}
use Rattle.topology.proofs.records.Records.read.Goals as goal

pub returns-then-d-lt-HEADER-clause-answer : goal.returns-then-d-lt-HEADER-clause-answer
returns-then-d-lt-HEADER-clause-answer c = rw c.at.ensures (from_start _ ∙ applies _ _ _ (lt-ltb _ _ c.if-d-lt-HEADER.true))

pub returns-then-mark_differs-clause-answer : goal.returns-then-mark_differs-clause-answer
returns-then-mark_differs-clause-answer c = rw c.at-then-mark_differs.ensures (not_short _ c.if-d-lt-HEADER.false ∙ applies _ _ _ (sym c.if-mark_differs.ensures))

pub returns-then-two-ne1-clause-answer : goal.returns-then-two-ne1-clause-answer
returns-then-two-ne1-clause-answer c =
    rw c.at-then-two-ne1.ensures (right_mark _ c.if-d-lt-HEADER.false (sym c.if-mark_differs.ensures) ∙ applies _ _ _ (ap not (ne_eqb _ _ (λ e. c.if-two-ne1.true (c.two.ensures ∙ e)))))

pub returns-then-bad_count-clause-answer : goal.returns-then-bad_count-clause-answer
returns-then-bad_count-clause-answer c =
    rw c.at-then-bad_count.ensures (right_version _ c.if-d-lt-HEADER.false (sym c.if-mark_differs.ensures) (sym c.two.ensures ∙ c.if-two-ne1.false)
    ∙ applies _ _ _ (rw c.two-switches.ensures at (sym c.if-bad_count.ensures)))

pub returns-then-cables-gt-CABLES-clause-answer : goal.returns-then-cables-gt-CABLES-clause-answer
returns-then-cables-gt-CABLES-clause-answer c =
    rw c.at-then-cables-gt-CABLES.ensures (right_switches _ c.if-d-lt-HEADER.false (sym c.if-mark_differs.ensures) (sym c.two.ensures ∙ c.if-two-ne1.false) (rw c.two-switches.ensures at (sym c.if-bad_count.ensures))
    ∙ applies _ _ _ (lt-ltb _ _ (rw c.two-cables.ensures at c.if-cables-gt-CABLES.true)))

pub returns-then-d-switches-clause-answer : goal.returns-then-d-switches-clause-answer
returns-then-d-switches-clause-answer c =
    rw c.at-then-d-switches.ensures (let asked = right_cables _ c.if-d-lt-HEADER.false (sym c.if-mark_differs.ensures) (sym c.two.ensures ∙ c.if-two-ne1.false) (rw c.two-switches.ensures at (sym c.if-bad_count.ensures)) (rw c.two-cables.ensures at c.if-cables-gt-CABLES.false) in
    other_length _ asked (λ e. c.if-d-switches.true (omega (arith, e, c.two-switches.ensures, c.two-cables.ensures))))

pub returns-clause-answer : goal.returns-clause-answer
returns-clause-answer c =
    let asked = right_cables _ c.if-d-lt-HEADER.false (sym c.if-mark_differs.ensures) (sym c.two.ensures ∙ c.if-two-ne1.false) (rw c.two-switches.ensures at (sym c.if-bad_count.ensures)) (rw c.two-cables.ensures at c.if-cables-gt-CABLES.false) in
    right_length _ asked (omega (arith, c.if-d-switches.false, c.two-switches.ensures, c.two-cables.ensures))
