-- Which refusal a call meets: the first that applies.
use Prim.Native.Nat.{ℕ, ◌≤◌}
use native.Mathlib.Omega.{arith}
use mathlib.Core.List.{List}
use mathlib.Core.Bool.{not}
use mathlib.Core.Path.{◌≡◌, refl}
use mathlib.Core.Logic.{◌⊎◌, inl, inr}
use lib.Dec.{T, T_not, leb, lit≤}
use Rattle.topology_rules.specs.Check.{refuse}
use Rattle.topology_rules.specs.Net.{Net, WellFormed, net_of}
use Rattle.topology_rules.specs.Refusals.{Earlier, Returned}
use Rattle.topology_rules.proofs.Tests.{or_not, both_T}
use Rattle.topology_rules.proofs.Firsts.{stage_mono}
use Rattle.topology_rules.proofs.Laws.{accepted_well_formed}
use Rattle.rehearsal_rules.specs.Packets.{cells_of}
use Rattle.rehearsal_rules.specs.Answers.{Order, placing, advancing, verdict_of}
use Rattle.rehearsal_rules.specs.Moves.{moving, rehearsal}
use Rattle.rehearsal_rules.specs.Record.{sound_on, call_on, Rehearsal, description_of, sound_record, call}
use Rattle.rehearsal_rules.specs.Rules.{SoundOn, SoundRecord, PlaceWrong, AdvanceWrong, OrderWrong}
use Rattle.rehearsal_rules.proofs.Calls.{obeyed, unsound_on, sound_parts, on_record, unsound_record}
use Rattle.rehearsal_rules.proofs.Fitness.{sound_exactly, record_exactly}
use Rattle.rehearsal_rules.proofs.PlaceRefusals.{place_returned}
use Rattle.rehearsal_rules.proofs.AdvanceRefusals.{advance_returned}

-- the machine's answer, where the words are sound
pub machine_returned : (n : Net) → WellFormed n → (words : List ℕ) (Sound : Type 0) → Sound → (o : Order) → Returned (OrderWrong Sound n words o) (verdict_of ((rehearsal n).answer (cells_of words) o))
unfolding rehearsal moving
machine_returned n w words Sound sound (placing k a p) = place_returned n w words Sound sound k a p
machine_returned n w words Sound sound (advancing ch p) = advance_returned n w words Sound sound ch p

module _ (Sound : Type 0) (n : Net) (words : List ℕ) where
  -- an order's refusals are 17 and above, at position 0
  pub late : (o : Order) (k i : ℕ) → OrderWrong Sound n words o k i → (17 ≤ k) × (i ≡ 0)
  late (placing k a p) m i (PlaceWrong.unsound x) = (lit≤ tt, refl)
  late (placing k a p) m i (PlaceWrong.no_switch x) = (lit≤ tt, refl)
  late (placing k a p) m i (PlaceWrong.bad_address x) = (lit≤ tt, refl)
  late (placing k a p) m i (PlaceWrong.not_allowed s x y) = (lit≤ tt, refl)
  late (placing k a p) m i (PlaceWrong.no_cable s x y) = (lit≤ tt, refl)
  late (placing k a p) m i (PlaceWrong.next_taken s c x y z) = (lit≤ tt, refl)
  late (advancing ch p) m i (AdvanceWrong.unsound x) = (lit≤ tt, refl)
  late (advancing ch p) m i (AdvanceWrong.no_channel x) = (lit≤ tt, refl)
  late (advancing ch p) m i (AdvanceWrong.empty x) = (lit≤ tt, refl)
  late (advancing ch p) m i (AdvanceWrong.not_allowed x) = (lit≤ tt, refl)
  late (advancing ch p) m i (AdvanceWrong.next_taken c x y) = (lit≤ tt, refl)

  pub unsound_applies : (Sound → ⊥) → (o : Order) → OrderWrong Sound n words o 17 0
  unsound_applies u (placing k a p) = PlaceWrong.unsound u
  unsound_applies u (advancing ch p) = AdvanceWrong.unsound u

  -- where the record is not sound, 17 comes before all else
  pub unsound_returned : (Sound → ⊥) → (o : Order) → Returned (OrderWrong Sound n words o) (refuse 17 0)
  unsound_returned u o = Returned.first (unsound_applies u o) (λ m j x e. before m j (late o m j x) e)
    where
      before : (m j : ℕ) → (17 ≤ m) × (j ≡ 0) → Earlier m j 17 0 → ⊥
      before m j (l, z) (inl h) = omega (arith, stage_mono 17 m l)
      before m j (l, z) (inr (s, inl h)) = omega arith
      before m j (l, z) (inr (s, inr h)) = omega arith

-- The first refusal that applies, of every call: on words, and on a record.
pub words_returned : (d words : List ℕ) (o : Order) → Returned (OrderWrong (SoundOn d words) (net_of d) words o) (verdict_of (call_on d words o).answer)
words_returned d words o = go (or_not (sound_on d words))
  where
    go : T (sound_on d words) ⊎ T (not (sound_on d words)) → Returned (OrderWrong (SoundOn d words) (net_of d) words o) (verdict_of (call_on d words o).answer)
    go (inl t) =
        rw (obeyed d words o t)
        (machine_returned (net_of d) (accepted_well_formed d (sound_parts d words t).0) words (SoundOn d words) ((sound_exactly d words).0 t) o)
    go (inr t) =
        rw (unsound_on d words o t)
        (unsound_returned (SoundOn d words) (net_of d) words (λ s. T_not (sound_on d words) t ((sound_exactly d words).1 s)) o)

pub record_returned : (r : Rehearsal) (o : Order) → Returned (OrderWrong (SoundRecord r) (net_of (description_of r)) r.words o) (verdict_of (call r o).answer)
record_returned r o = go (or_not (sound_record r))
  where
    d : List ℕ
    d = description_of r

    go : T (sound_record r) ⊎ T (not (sound_record r)) → Returned (OrderWrong (SoundRecord r) (net_of (description_of r)) r.words o) (verdict_of (call r o).answer)
    go (inl t) =
        let on = (both_T (leb r.size 2057) (sound_on d r.words) t).1 in
        rw (on_record d r o (t, refl), obeyed d r.words o on)
        (machine_returned (net_of d) (accepted_well_formed d (sound_parts d r.words on).0) r.words (SoundRecord r) ((record_exactly r).0 t) o)
    go (inr t) =
        rw (unsound_record r o t)
        (unsound_returned (SoundRecord r) (net_of d) r.words (λ s. T_not (sound_record r) t ((record_exactly r).1 s)) o)
