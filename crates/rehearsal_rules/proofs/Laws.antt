-- Demand 3 and the calls on one page: starting, placing, advancing, and that packets drain. PackedAnswers.antt has the laws of answers as one number, Ring.antt the examples.
use Prim.Native.Nat.{ℕ, ◌-◌}
use mathlib.Core.List.{List, ◌++◌}
use mathlib.Core.Bool.{Bool, not}
use mathlib.Core.Path.{◌≡◌, refl, ap}
use mathlib.Core.Logic.{◌↔◌, ◌⊎◌, inl, inr}
use lib.ListN.{get_or, length, drop, replicate}
use lib.Dec.{T, not_T, leb}
use Rattle.topology_rules.specs.Check.{accepted, verdict}
use Rattle.topology_rules.specs.Net.{Net, WellFormed, net_of}
use Rattle.topology_rules.specs.Refusals.{Returned, Wrong}
use Rattle.topology_rules.proofs.Tests.{both_T, or_not, decide}
use Rattle.rehearsal_rules.specs.Packets.{cells_of, nothing}
use Rattle.rehearsal_rules.specs.Answers.{Order, Answer, refused, is_accepted, verdict_of}
use Rattle.rehearsal_rules.specs.Moves.{rehearsal}
use Rattle.rehearsal_rules.specs.Record.{Called, gives, sound_on, call_on, calls_on, Rehearsal, description_of, sound_record, call, calls, begun, start}
use Rattle.rehearsal_rules.specs.Rules.{SoundOn, SoundRecord, Does, OrderWrong}
use Rattle.rehearsal_rules.specs.Drains.{Drains}
use Rattle.rehearsal_rules.specs.Promise.{begins, Kept}
use Rattle.rehearsal_rules.specs.Machine.{last}
use Rattle.rehearsal_rules.proofs.Simulation.{drains_under}
use Rattle.rehearsal_rules.proofs.Calls.{obeyed, unsound_on, cells_on, on_record, unsound_record, description_stays, words_drain, records_drain, Keeping}
use Rattle.rehearsal_rules.proofs.Starts.{start_begins, start_refused, start_returned, begun_description, begun_room, begun_tail, begun_words, begun_keeping, begun_empty}
use Rattle.rehearsal_rules.proofs.Fitness.{sound_exactly, record_exactly}
use Rattle.rehearsal_rules.proofs.Doing.{does_so, refused_stays}
use Rattle.rehearsal_rules.proofs.Refusing.{words_returned, record_returned}
use Rattle.rehearsal_rules.proofs.Accepting.{accepted_where, one_outcome}
use Rattle.rehearsal_rules.proofs.Words.{cell_at, word_full, bare_words}
use Rattle.rehearsal_rules.proofs.Drain.{last_append}

-- Starting a rehearsal of description d.
pub record StartLaws (d : List ℕ) : Type 0 where
  -- on any record: accepted where checking accepts, and then begun; else what checking says, and the record as it was
  pub begins : (verdict d).number ≡ 0 → (r : Rehearsal) → start d r ≡ record { verdict = accepted; lent = begun d }
  pub refuses : ((verdict d).number ≡ 0 → ⊥) → (r : Rehearsal) → start d r ≡ record { verdict = verdict d; lent = r }
  pub refusal : (r : Rehearsal) → Returned (Wrong d) (start d r).verdict
  -- a record just begun is sound, keeps d, and every channel is empty
  pub sound : (verdict d).number ≡ 0 → SoundRecord (begun d)
  pub keeps : (verdict d).number ≡ 0 → description_of (begun d) ≡ d
  pub room : (verdict d).number ≡ 0 → length (begun d).bytes ≡ 2057
  pub tail : (verdict d).number ≡ 0 → drop (length d) (begun d).bytes ≡ replicate (2057 - length d) 0
  pub empty : (begun d).words ≡ replicate 768 0

-- One order on the words of the channels, with the description beside them.
pub record WordLaws (d words : List ℕ) : Type 0 where
  -- the test for soundness is the rule
  pub sound_is : T (sound_on d words) ↔ SoundOn d words
  -- the answer is the first refusal that applies, 17 to 22, or none
  pub refusal : (o : Order) → Returned (OrderWrong (SoundOn d words) (net_of d) words o) (verdict_of (call_on d words o).answer)
  -- it is accepted exactly where none applies
  pub accepted : (o : Order) → T (is_accepted (call_on d words o).answer) ↔ ((k i : ℕ) → OrderWrong (SoundOn d words) (net_of d) words o k i → ⊥)
  -- on sound words an order does what the rules say; on others it changes nothing
  pub does : SoundOn d words → (o : Order) → Does (net_of d) words o (call_on d words o).answer (call_on d words o).lent
  pub unsound_stays : (SoundOn d words → ⊥) → (o : Order) → call_on d words o ≡ gives (refused 17) words
  -- it is the machine's answer and the machine's next state
  pub same_answer : SoundOn d words → (o : Order) → (call_on d words o).answer ≡ (rehearsal (net_of d)).answer (cells_of words) o
  pub same_next : SoundOn d words → (o : Order) → cells_of (call_on d words o).lent ≡ (rehearsal (net_of d)).next (cells_of words) o

-- The same on a record.
pub record RecordLaws (r : Rehearsal) : Type 0 where
  pub sound_is : T (sound_record r) ↔ SoundRecord r
  pub refusal : (o : Order) → Returned (OrderWrong (SoundRecord r) (net_of (description_of r)) r.words o) (verdict_of (call r o).answer)
  pub accepted : (o : Order) → T (is_accepted (call r o).answer) ↔ ((k i : ℕ) → OrderWrong (SoundRecord r) (net_of (description_of r)) r.words o k i → ⊥)
  pub does : SoundRecord r → (o : Order) → Does (net_of (description_of r)) r.words o (call r o).answer (call r o).lent.words
  pub unsound_stays : (SoundRecord r → ⊥) → (o : Order) → call r o ≡ gives (refused 17) r
  -- a refusal changes nothing, and no call touches the description
  pub refused_changes_nothing : (o : Order) → T (not (is_accepted (call r o).answer)) → (call r o).lent ≡ r
  pub keeps_description : (o : Order) → ((call r o).lent.bytes ≡ r.bytes) × ((call r o).lent.size ≡ r.size)

-- What the rules let an accepted order do is one thing.
pub one_thing : (n : Net) → WellFormed n → (words : List ℕ) {o : Order} {x y : Answer} {l m : List ℕ} → Does n words o x l → Does n words o y m
    → T (is_accepted x) → T (is_accepted y) → (x ≡ y) × (l ≡ m)
one_thing = one_outcome

-- a test that is a rule tells whether it holds
told : {A : Type 0} (b : Bool) → T b ↔ A → A ⊎ (A → ⊥)
told b e = elim (decide b) [ inl t ↦ inl (e.0 t) | inr f ↦ inr (λ a. f (e.1 a)) ]

pub start_laws : (d : List ℕ) → StartLaws d
start_laws d = record {
  begins = start_begins d;
  refuses = start_refused d;
  refusal = start_returned d;
  sound = λ ok. (record_exactly (begun d)).0 (begun_keeping d ok).0;
  keeps = begun_description d;
  room = begun_room d;
  tail = begun_tail d;
  empty = begun_words d;
}

pub word_laws : (d words : List ℕ) → WordLaws d words
word_laws d words =
    let test = sound_exactly d words in
    record {
      sound_is = test;
      refusal = words_returned d words;
      accepted = λ o. accepted_where (SoundOn d words) (net_of d) words o (call_on d words o).answer (words_returned d words o) (told (sound_on d words) test)
          (λ s. ((call_on d words o).lent, does_so d words o (test.1 s)));
      does = λ s o. does_so d words o (test.1 s);
      unsound_stays = λ u o. unsound_on d words o (not_T (sound_on d words) (λ t. u (test.0 t)));
      same_answer = λ s o. ap (λ (c : Called (List ℕ)). c.answer) (obeyed d words o (test.1 s));
      same_next = λ s o. cells_on d words o (test.1 s);
    }

module _ (r : Rehearsal) where
  kept : T (sound_record r) → T (sound_on (description_of r) r.words)
  kept t = (both_T (leb r.size 2057) (sound_on (description_of r) r.words) t).1

  as_before : (o : Order) → T (not (is_accepted (call r o).answer)) → (call r o).lent ≡ r
  as_before o n = go (or_not (sound_record r))
    where
      go : T (sound_record r) ⊎ T (not (sound_record r)) → (call r o).lent ≡ r
      go (inr t) = rw (unsound_record r o t) refl
      go (inl t) =
          let same = refused_stays (does_so (description_of r) r.words o (kept t)) (rw (on_record (description_of r) r o (t, refl)) at n) in
          rw (on_record (description_of r) r o (t, refl), same) refl

  done : (o : Order) → SoundRecord r → (l : List ℕ) × Does (net_of (description_of r)) r.words o (call r o).answer l
  done o s =
      let t = (record_exactly r).1 s in
      ((call_on (description_of r) r.words o).lent, rw (on_record (description_of r) r o (t, refl)) (does_so (description_of r) r.words o (kept t)))

  pub record_laws : RecordLaws r
  record_laws =
      let test = record_exactly r in
      record {
        sound_is = test;
        refusal = record_returned r;
        accepted = λ o. accepted_where (SoundRecord r) (net_of (description_of r)) r.words o (call r o).answer (record_returned r o) (told (sound_record r) test) (done o);
        does = λ s o. rw (on_record (description_of r) r o (test.1 s, refl)) (does_so (description_of r) r.words o (kept (test.1 s)));
        unsound_stays = λ u o. unsound_record r o (not_T (sound_record r) (λ t. u (test.0 t)));
        refused_changes_nothing = as_before;
        keeps_description = description_stays r;
      }

-- Demand 3, of every accepted description: for the calls on words, and for the calls on records that keep it.
pub demand_3_words : (d : List ℕ) → (verdict d).number ≡ 0 → Drains (net_of d) (calls_on d) cells_of (SoundOn d)
demand_3_words d ok = drains_under (net_of d) (calls_on d) cells_of (λ words. T (sound_on d words)) (SoundOn d) (sound_exactly d) (words_drain d ok)

pub demand_3 : (d : List ℕ) → (verdict d).number ≡ 0 → Drains (net_of d) calls (λ r. cells_of r.words) (λ r. SoundRecord r × (description_of r ≡ d))
demand_3 d ok =
    drains_under (net_of d) calls (λ r. cells_of r.words) (Keeping d) (λ r. SoundRecord r × (description_of r ≡ d))
    (λ r. (λ k. ((record_exactly r).0 k.0, k.1), λ s. ((record_exactly r).1 s.0, s.1))) (records_drain d ok)

-- And a start gives such a record, with an empty net: so all of it holds from a start on, after any orders.
pub from_start : (d : List ℕ) → (verdict d).number ≡ 0 → (r : Rehearsal)
    → let s = (start d r).lent in SoundRecord s × (description_of s ≡ d) × (cells_of s.words ≡ nothing)
from_start d ok r = rw (start_begins d ok r) ((record_exactly (begun d)).0 (begun_keeping d ok).0, begun_description d ok, begun_empty d ok)

-- Demand 3 in one place.
pub kept_promise : (d : List ℕ) → (verdict d).number ≡ 0 → (r : Rehearsal) (os : List Order) → Kept d r os
kept_promise d ok r os =
    let s = begins d r in
    let f = from_start d ok r in
    let law = demand_3 d ok in
    let now = last calls s os in
    let k = law.stays_sound s os (f.0, f.1) in
    record {
      goes_on = λ ch ne. law.goes_on now k ch (rw (cell_at now.words ch) (word_full (get_or now.words ch 0) ne));
      exactly = λ qs adv still. (law.drained now qs k adv still).exactly;
      empty = λ qs adv still. bare_words (last calls now qs).words (law.drained now qs k adv still).empty;
      home_each = λ qs adv still a w en.
          law.placed_home s (f.0, f.1) f.2 (os ++ qs) (rw (last_append calls s os qs) (law.drained now qs k adv still).empty) a w en;
    }
