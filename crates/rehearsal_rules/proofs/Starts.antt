-- Starting: what the record then keeps, and what a refused start leaves.
use Prim.Native.Nat.{ℕ, ◌-◌, ◌≤◌, ◌<◌}
use native.Mathlib.Omega.{arith}
use mathlib.Core.List.{List}
use mathlib.Core.Path.{◌≡◌, refl, ◌∙◌}
use lib.ListN.{length, length-append, length-replicate, replicate, drop}
use lib.Seq.{take-append_seam, drop-append_seam}
use lib.Dec.{T, eqb, leb, le→leb}
use Rattle.topology_rules.specs.Check.{accepted, verdict}
use Rattle.topology_rules.specs.Net.{net_of}
use Rattle.topology_rules.proofs.Tests.{split, T_both, eq→eqb, ne→neqb, cond_is, cond_not}
use Rattle.topology_rules.proofs.Laws.{accepted_exactly, accepted_well_formed, refusal_laws}
use Rattle.topology_rules.specs.Refusals.{Returned, Wrong}
use mathlib.Core.Logic.{◌⊎◌, inl, inr}
use Rattle.rehearsal_rules.specs.Packets.{cells_of, nothing}
use Rattle.rehearsal_rules.specs.Sound.{sound_held}
use Rattle.rehearsal_rules.specs.Record.{Rehearsal, description_of, sound_on, begun, start}
use Rattle.rehearsal_rules.proofs.Words.{no_words}
use Rattle.rehearsal_rules.proofs.Demand3.{nothing_sound}
use Rattle.rehearsal_rules.proofs.Calls.{Keeping, parts_sound}

module _ (d : List ℕ) where
  -- an accepted start, on any record, gives the record begun with d
  pub start_begins : (verdict d).number ≡ 0 → (r : Rehearsal) → start d r ≡ record { verdict = accepted; lent = begun d }
  unfolding start
  start_begins ok r = cond_is (eqb (verdict d).number 0) _ _ (eq→eqb (verdict d).number 0 ok)

  -- a refused start answers what checking does, and leaves the record as it was
  pub start_refused : ((verdict d).number ≡ 0 → ⊥) → (r : Rehearsal) → start d r ≡ record { verdict = verdict d; lent = r }
  unfolding start
  start_refused bad r = cond_not (eqb (verdict d).number 0) _ _ (ne→neqb (verdict d).number 0 bad)

  -- what it answers is the first refusal of the description that applies, or none
  pub start_returned : (r : Rehearsal) → Returned (Wrong d) (start d r).verdict
  start_returned r = go (split 0 (verdict d).number)
    where
      check : Returned (Wrong d) (verdict d)
      check = (refusal_laws d).check

      go : (0 < (verdict d).number) ⊎ ((verdict d).number ≤ 0) → Returned (Wrong d) (start d r).verdict
      go (inl h) = rw (start_refused (λ e. omega arith) r) check
      go (inr h) = let e : (verdict d).number ≡ 0 = omega arith in rw (start_begins e r) (rw ((refusal_laws d).check_accepts e) at check)

  pub begun_words : (begun d).words ≡ replicate 768 0
  unfolding begun
  begun_words = refl

  module _ (ok : (verdict d).number ≡ 0) where
    short : length d ≤ 2057
    short = let a = (accepted_exactly d).0 ok in omega (arith, a.size, a.few_switches, a.few_cables)

    pub begun_description : description_of (begun d) ≡ d
    unfolding begun
    begun_description = take-append_seam d (replicate (2057 - length d) 0)

    pub begun_room : length (begun d).bytes ≡ 2057
    unfolding begun
    begun_room = length-append d (replicate (2057 - length d) 0) ∙ omega (arith, short, length-replicate {A = ℕ} (2057 - length d) 0)

    -- zeros behind the description
    pub begun_tail : drop (length d) (begun d).bytes ≡ replicate (2057 - length d) 0
    unfolding begun
    begun_tail = drop-append_seam d (replicate (2057 - length d) 0)

    pub begun_empty : cells_of (begun d).words ≡ nothing
    unfolding begun
    begun_empty = no_words

    pub begun_keeping : Keeping d (begun d)
    unfolding begun
    begun_keeping =
        let empty : T (sound_held (net_of d) (cells_of (replicate 768 0))) = rw no_words (nothing_sound (net_of d) (accepted_well_formed d ok)).1 in
        let on : T (sound_on d (replicate 768 0)) = parts_sound d (replicate 768 0) ok (length-replicate {A = ℕ} 768 0) empty in (
          T_both (leb (length d) 2057) (sound_on (description_of (begun d)) (replicate 768 0)) (le→leb (length d) 2057 short) (rw begun_description on),
          begun_description,
        )
