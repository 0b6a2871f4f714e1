-- Pieces written one after the other into a lent output.
use mathlib.Core.Path.{◌≡◌, sym, ap, ◌∙◌}
use mathlib.Core.List.{List, [], ◌++◌, append_assoc}
use Prim.Native.Nat.{ℕ, ◌+◌, ◌≤◌}
use native.Mathlib.Nat.{zero-add}
use native.Mathlib.Omega.{arith}
use lib.ListN.{length, take, drop, length-append}
use lib.Seq.{paste, paste-zero, length_paste_head, take_at, take-length, drop-append-add, drop-drop}
use Rattle.topology_rules.specs.Answers.{onto}
use Rattle.topology.specs.Inside.{Written}

-- a piece after a piece
piece_after : (o w r : List ℕ) (at : ℕ) → at + length w + length r ≤ length o
    → paste (paste o at w (length w)) (at + length w) r (length r) ≡ paste o at (w ++ r) (length (w ++ r))
piece_after o w r at h =
    let p = take at o ++ take (length w) w in
    let q = drop (at + length w) o in
    let lp : length p ≡ at + length w = length_paste_head o at w (length w) (omega arith) (omega arith) in
    let n : at + length w + length r ≡ at + length (w ++ r) = omega (arith, length-append w r) in
    let e₁ : take (at + length w) (p ++ q) ≡ p = take_at p q (at + length w) lp in
    let e₂ : drop (at + length w + length r) (p ++ q) ≡ drop (at + length (w ++ r)) o =
    sym (ap (λ m. drop (m + length r) (p ++ q)) lp) ∙ drop-append-add p q (length r) ∙ drop-drop (length r) (at + length w) o ∙ ap (λ m. drop m o) n in
    ap (λ z. z ++ take (length r) r ++ drop (at + length w + length r) (p ++ q)) e₁
    ∙ ap (λ z. p ++ take (length r) r ++ z) e₂
    ∙ ap (λ z. take at o ++ z ++ take (length r) r ++ drop (at + length (w ++ r)) o) (take-length w)
    ∙ ap (λ z. take at o ++ w ++ z ++ drop (at + length (w ++ r)) o) (take-length r)
    ∙ ap (λ z. z ++ drop (at + length (w ++ r)) o) (append_assoc (take at o) w r)
    ∙ ap (λ z. take at o ++ z ++ drop (at + length (w ++ r)) o) (sym (take-length (w ++ r)))

pub written_none : (o : List ℕ) (at : ℕ) → Written o at [] o at
written_none o at = record { up_to = omega arith; whole = paste-zero o at [] }

pub written_after : {o w r x y : List ℕ} {a b e : ℕ} → Written o a w x b → Written x b r y e → a + length w + length r ≤ length o → Written o a (w ++ r) y e
written_after {o} {w} {r} {x} {y} {a} {b} {e} p q h = record {
  up_to = omega (arith, p.up_to, q.up_to, length-append w r);
  whole = q.whole ∙ ap (λ at. paste x at r (length r)) p.up_to ∙ ap (λ l. paste l (a + length w) r (length r)) p.whole
      ∙ piece_after o w r a h;
}

-- what is written at the start
pub written_onto : {o w x : List ℕ} {e : ℕ} → Written o 0 w x e → (e ≡ length w) × (x ≡ onto w o)
written_onto {o} {w} {x} {e} p = (
  omega (arith, p.up_to),
  p.whole ∙ ap (λ l. [] ++ l ++ drop (0 + length w) o) (take-length w) ∙ ap (λ n. w ++ drop n o) (zero-add (length w)),
)

-- and a piece that was copied to the start
pub front_written : (o w x : List ℕ) (n : ℕ) → x ≡ w → n ≡ length w → Written o 0 w (x ++ drop n o) n
front_written o w x n e m = record {
  up_to = omega (arith, m);
  whole = ap (λ l. l ++ drop n o) (e ∙ sym (take-length w)) ∙ ap (λ k. take (length w) w ++ drop k o) (m ∙ sym (zero-add (length w)));
}
