-- What a turn reads stands behind what was read before it.
use Rattle.std.proofs.Common.{◌≡◌, ℕ, ◌+◌, ◌-◌, ◌≤◌, List, ◌++◌, length, take, ap, sym, subst, ◌∙◌, arith, length-take-le}
use Rattle.std.proofs.Math.Seq.{take-append-add}
use Rattle.std.proofs.lemmas.List.{take-append-le}
use Rattle.std.proofs.KnownBytes.{Consumes-trans}
use Rattle.std.specs.Io.KnownBytes.{Consumes}
use borrow.Rule.Slice.PartMut.{post_of}
use Rattle.streams.proofs.read_full.Goals as goal

-- n elements of a part that stands from place a on, behind the first a
take-front_part : (a n : ℕ) (xs part rest : List ℕ) → a ≤ length xs → n ≤ length part → take a xs ++ take n part ≡ take (a + n) (take a xs ++ (part ++ rest))
take-front_part a n xs part rest within fits =
    let long : length (take a xs) ≡ a = length-take-le a xs within in
    ap (λ l. take a xs ++ l) (sym (take-append-le n part rest fits))
    ∙ sym (take-append-add (take a xs) (part ++ rest) n)
    ∙ ap (λ k. take (k + n) (take a xs ++ (part ++ rest))) long

pub loop-done-preserved : goal.loop-done-preserved
loop-done-preserved g c =
    let at = c.loop-done.done in
    let (within, before) = c.loop-done.invariant in
    let more = c.in_ok-n.ensures in
    let joined = take-front_part at c.in_ok-n.n c.loop-done.buffer c.read.new.buf (post_of at (length c.loop-done.buffer - at) c.loop-done.buffer) within more.bound.0 in
    (omega arith, subst (Consumes _ _) joined (Consumes-trans _ _ _ _ _ before more.bytes.0))
