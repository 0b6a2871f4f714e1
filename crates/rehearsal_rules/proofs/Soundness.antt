-- A sound list of packets, as a test and as facts.
use Prim.Native.Nat.{ℕ, suc, zero, ◌+◌, ◌≤◌}
use native.Mathlib.Omega.{arith}
use native.Mathlib.Nat.{add-zero, zero-add}
use mathlib.Core.List.{List, [], ◌∷◌}
use mathlib.Core.Path.{◌≡◌, subst}
use lib.ListN.{get_or, length}
use lib.Dec.{T}
use Rattle.topology_rules.specs.Net.{Net}
use Rattle.topology_rules.proofs.Tests.{both_T, T_both}
use Rattle.rehearsal_rules.specs.Packets.{Cell, none, packet}
use Rattle.rehearsal_rules.specs.Sound.{sound_at, sound_cell, sound_from, sound_held}
use Rattle.rehearsal_rules.proofs.Sound.{FineCell, Facts}

module _ (n : Net) where
  abbrev Fit : ℕ → ℕ → Type 0
  Fit ch a = T (sound_at n ch a)

  to_fine : (ch : ℕ) (x : Cell) → T (sound_cell n ch x) → FineCell n Fit ch x
  to_fine ch none t = tt
  to_fine ch (packet pk) t = record { fit = t }

  from_fine : (ch : ℕ) (x : Cell) → FineCell n Fit ch x → T (sound_cell n ch x)
  from_fine ch none f = tt
  from_fine ch (packet pk) f = f.fit

  sound_each : (o : ℕ) (l : List Cell) → ((i : ℕ) → T (sound_cell n (o + i) (get_or l i none))) → T (sound_from n o l)
  unfolding sound_from
  sound_each o [] each = tt
  sound_each o (x ∷ l) each =
      T_both (sound_cell n o x) (sound_from n (suc o) l) (subst (λ k. T (sound_cell n k x)) (add-zero o) (each 0))
      (sound_each (suc o) l (λ i. let shift : o + suc i ≡ suc o + i = omega arith in subst (λ k. T (sound_cell n k (get_or l i none))) shift (each (suc i))))

  from_sound : (o : ℕ) (l : List Cell) → T (sound_from n o l) → (i : ℕ) → T (sound_cell n (o + i) (get_or l i none))
  unfolding sound_from
  from_sound o [] t i = tt
  from_sound o (x ∷ l) t zero = rw add-zero (both_T (sound_cell n o x) (sound_from n (suc o) l) t).0
  from_sound o (x ∷ l) t (suc i) =
      let shift : suc o + i ≡ o + suc i = omega arith in
      subst (λ k. T (sound_cell n k (get_or l i none))) shift (from_sound (suc o) l (both_T (sound_cell n o x) (sound_from n (suc o) l) t).1 i)

  module _ (held : List Cell) where
    pub facts : n.channels ≤ length held → T (sound_held n held) → Facts n Fit held
    facts room t = record { room = room; each = λ ch. to_fine ch (get_or held ch none) (rw zero-add at (from_sound 0 held t ch)) }

    pub sound_facts : Facts n Fit held → T (sound_held n held)
    sound_facts f = sound_each 0 held (λ i. rw zero-add (from_fine i (get_or held i none) (f.each i)))
