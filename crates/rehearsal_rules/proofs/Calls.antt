-- Calls on words and on records follow the machine over what the channels hold.
use Prim.Native.Nat.{ℕ}
use mathlib.Core.List.{List, [], ◌∷◌}
use mathlib.Core.Bool.{Bool, true, false, cond, not}
use mathlib.Core.Path.{◌≡◌, refl, ◌∙◌, ap}
use lib.ListN.{length, length-map}
use lib.Dec.{T, eqb, eqb→eq, leb}
use Rattle.topology_rules.specs.Count.{both}
use Rattle.topology_rules.specs.Check.{verdict}
use Rattle.topology_rules.specs.Net.{Net, WellFormed, net_of}
use Rattle.topology_rules.proofs.Tests.{both_T, T_both, eq→eqb, cond_is, cond_not}
use Rattle.topology_rules.proofs.Laws.{accepted_well_formed}
use Rattle.rehearsal_rules.specs.Machine.{last}
use Rattle.rehearsal_rules.specs.Packets.{Cell, cell_of, word_of, cells_of, words_of}
use Rattle.rehearsal_rules.specs.Answers.{Order, refused}
use Rattle.rehearsal_rules.specs.Moves.{rehearsal}
use Rattle.rehearsal_rules.specs.Sound.{sound_held}
use Rattle.rehearsal_rules.specs.Record.{Called, gives, sound_on, call_on, calls_on, Rehearsal, description_of, with_words, sound_record, call, calls}
use Rattle.rehearsal_rules.specs.Drains.{Drains}
use Rattle.rehearsal_rules.proofs.Demand3.{SoundCells, itself, drains}
use Rattle.rehearsal_rules.proofs.Simulation.{Simulates, drains_too}
use Rattle.rehearsal_rules.proofs.Words.{cells_back}

module _ (d : List ℕ) where
  abbrev n : Net
  n = net_of d

  -- the three parts of the test
  pub sound_parts : (words : List ℕ) → T (sound_on d words) → ((verdict d).number ≡ 0) × SoundCells n (cells_of words)
  sound_parts words t =
      let p = both_T (eqb (verdict d).number 0) _ t in
      let q = both_T (eqb (length words) 768) (sound_held n (cells_of words)) p.1 in
      (eqb→eq (verdict d).number 0 p.0, (length-map words cell_of ∙ eqb→eq (length words) 768 q.0, q.1))

  pub parts_sound : (words : List ℕ) → (verdict d).number ≡ 0 → length words ≡ 768 → T (sound_held n (cells_of words)) → T (sound_on d words)
  parts_sound words v l h =
      T_both (eqb (verdict d).number 0) (both (eqb (length words) 768) (sound_held n (cells_of words))) (eq→eqb (verdict d).number 0 v)
      (T_both (eqb (length words) 768) (sound_held n (cells_of words)) (eq→eqb (length words) 768 l) h)

  module _ (words : List ℕ) (o : Order) where
    next : List Cell
    next = (rehearsal n).next (cells_of words) o

    -- a call on sound words is the machine's answer and the machine's next state
    pub obeyed : T (sound_on d words) → call_on d words o ≡ gives ((rehearsal n).answer (cells_of words) o) (words_of ((rehearsal n).next (cells_of words) o))
    unfolding call_on
    obeyed t = cond_is (sound_on d words) _ _ t

    -- 17 where they are not sound
    pub unsound_on : T (not (sound_on d words)) → call_on d words o ≡ gives (refused 17) words
    unfolding call_on
    unsound_on t = cond_not (sound_on d words) _ _ t

    module _ (t : T (sound_on d words)) where
      well : WellFormed n
      well = accepted_well_formed d (sound_parts words t).0

      next_sound : SoundCells n next
      unfolding next last
      next_sound = (drains n well).stays_sound (cells_of words) (o ∷ []) (sound_parts words t).1

      next_back : cells_of (words_of next) ≡ next
      next_back = cells_back n next next_sound.1

      pub stays_on : T (sound_on d (call_on d words o).lent)
      unfolding next
      stays_on = rw (obeyed t) (parts_sound (words_of next) (sound_parts words t).0 (length-map next word_of ∙ next_sound.0) (rw next_back next_sound.1))

      pub cells_on : cells_of (call_on d words o).lent ≡ (rehearsal n).next (cells_of words) o
      unfolding next
      cells_on = rw (obeyed t) next_back

  abbrev pub On : List ℕ → Type 0
  On words = T (sound_on d words)

  follows_on : Simulates (calls_on d) (rehearsal n) cells_of On
  unfolding calls_on
  follows_on = record {
    keeps = stays_on;
    same_answer = λ words o t. ap (λ (c : Called (List ℕ)). c.answer) (obeyed words o t);
    same_next = cells_on;
  }

  -- demand 3 of calls on words
  pub words_drain : (verdict d).number ≡ 0 → Drains n (calls_on d) cells_of On
  words_drain ok = drains_too (calls_on d) (rehearsal n) cells_of On follows_on n itself (SoundCells n) (λ words t. (sound_parts words t).1) (drains n (accepted_well_formed d ok))

  -- a sound record that keeps d
  abbrev pub Keeping : Rehearsal → Type 0
  Keeping r = T (sound_record r) × (description_of r ≡ d)

  record_parts : (r : Rehearsal) → Keeping r → T (leb r.size 2057) × On r.words
  record_parts r k = let p = both_T (leb r.size 2057) _ k.0 in (p.0, rw k.1 at p.1)

  -- a call on a sound record is a call on its words
  pub on_record : (r : Rehearsal) (o : Order) → Keeping r → call r o ≡ gives (call_on d r.words o).answer (with_words r (call_on d r.words o).lent)
  unfolding call
  on_record r o k = cond_is (leb r.size 2057) _ _ (record_parts r k).0 ∙ rw k.1

  record_stays : (r : Rehearsal) (o : Order) → Keeping r → Keeping (call r o).lent
  record_stays r o k =
      let p = record_parts r k in
      let on : T (sound_on (description_of r) (call_on d r.words o).lent) = rw k.1 (stays_on r.words o p.1) in
      rw (on_record r o k) (T_both (leb r.size 2057) (sound_on (description_of r) (call_on d r.words o).lent) p.0 on, k.1)

  follows_record : Simulates calls (calls_on d) (λ r. r.words) Keeping
  unfolding calls calls_on
  follows_record = record {
    keeps = record_stays;
    same_answer = λ r o k. ap (λ (c : Called Rehearsal). c.answer) (on_record r o k);
    same_next = λ r o k. ap (λ (c : Called Rehearsal). c.lent.words) (on_record r o k);
  }

  -- demand 3 of calls on records that keep d
  pub records_drain : (verdict d).number ≡ 0 → Drains n calls (λ r. cells_of r.words) Keeping
  records_drain ok = drains_too calls (calls_on d) (λ r. r.words) Keeping follows_record n cells_of On (λ r k. (record_parts r k).1) (words_drain ok)

-- 17 on a record that is not sound, and it stays as it was
pub unsound_record : (r : Rehearsal) (o : Order) → T (not (sound_record r)) → call r o ≡ gives (refused 17) r
unfolding call
unsound_record r o t = go (leb r.size 2057) (sound_on (description_of r) r.words) t (unsound_on (description_of r) r.words o)
  where
    c : Called (List ℕ)
    c = call_on (description_of r) r.words o

    go : (a b : Bool) → T (not (both a b)) → (T (not b) → c ≡ gives (refused 17) r.words) → cond a (gives c.answer (with_words r c.lent)) (gives (refused 17) r) ≡ gives (refused 17) r
    go true true t f = absurd t
    go true false t f = ap (λ (x : Called (List ℕ)). gives x.answer (with_words r x.lent)) (f tt)
    go false b t f = refl

-- a call never touches the description that a record keeps
pub description_stays : (r : Rehearsal) (o : Order) → ((call r o).lent.bytes ≡ r.bytes) × ((call r o).lent.size ≡ r.size)
unfolding call
description_stays r o = go (leb r.size 2057)
  where
    c : Called (List ℕ)
    c = call_on (description_of r) r.words o

    go : (a : Bool) → let x = cond a (gives c.answer (with_words r c.lent)) (gives (refused 17) r) in (x.lent.bytes ≡ r.bytes) × (x.lent.size ≡ r.size)
    go true = (refl, refl)
    go false = (refl, refl)
