-- Where it is known what a reader will give, the promise of `read_full` leaves one count and one front of the buffer.
use Rattle.std.proofs.Common.{◌≡◌, ℕ, ◌+◌, ◌<◌, ◌≤◌, List, ◌++◌, Bool, true, false, nat_lt, min, length, take, Some, refl, sym, ap, ◌∙◌, arith, length-append, length-take-le, take_all}
use Rattle.std.proofs.Math.Seq.{take-append_seam}
use Rattle.std.proofs.lemmas.List.{append-nil}
use Rattle.std.specs.Io.KnownBytes.{Consumes, IsAtEnd}
use borrow.Author.Tests.{ltb-true, ltb-false}

pub read_once : (xs ys buffer : List ℕ) (n : ℕ) → n ≤ length buffer → Consumes (Some xs) (Some ys) (take n buffer) → (n < length buffer → IsAtEnd (Some ys))
    → (n ≡ min (length xs) (length buffer)) × (take n buffer ≡ take (length buffer) xs)
read_once xs ys buffer n fits bytes end = go (nat_lt n (length buffer)) refl
  where
    front : length (take n buffer) ≡ n
    front = length-take-le n buffer fits

    total : length xs ≡ n + length ys
    total = ap length bytes ∙ length-append (take n buffer) ys ∙ ap (λ k. k + length ys) front

    go : (b : Bool) → nat_lt n (length buffer) ≡ b → (n ≡ min (length xs) (length buffer)) × (take n buffer ≡ take (length buffer) xs)
    go true e =
        let none : length ys ≡ 0 = ap length (end (ltb-true n (length buffer) e)) in
        let all : xs ≡ take n buffer = bytes ∙ ap (λ l. take n buffer ++ l) (end (ltb-true n (length buffer) e)) ∙ append-nil (take n buffer) in
        let short : n < length buffer = ltb-true n (length buffer) e in
        (omega (arith, total), sym all ∙ sym (take_all (length buffer) xs (omega (arith, total))))
    go false e =
        let full : n ≡ length buffer = omega (arith, ltb-false n (length buffer) e) in
        let seam : take (length buffer) (take n buffer ++ ys) ≡ take n buffer = ap (λ k. take k (take n buffer ++ ys)) (sym full ∙ sym front) ∙ take-append_seam (take n buffer) ys in
        (omega (arith, total), sym (ap (take (length buffer)) bytes ∙ seam))
