-- Soundness, as the test that runs and as the rule that is read.
use Prim.Native.Nat.{ℕ, suc, zero}
use native.Mathlib.Omega.{arith}
use mathlib.Core.List.{List}
use mathlib.Core.Path.{◌≡◌, refl}
use mathlib.Core.Logic.{◌↔◌, ◌≢◌}
use lib.ListN.{get_or, length, length-map}
use lib.Dec.{T, eqb, eqb→eq, ltb, leb, ltb→lt, lt→ltb, leb→le, le→leb}
use Rattle.topology_rules.specs.Count.{both}
use Rattle.topology_rules.specs.Check.{verdict}
use Rattle.topology_rules.specs.Net.{Net, WellFormed, net_of, target, in_port, live}
use Rattle.topology_rules.proofs.Tests.{both_T, T_both}
use Rattle.topology_rules.proofs.Bits.{some_bit, bit_pos}
use Rattle.topology_rules.proofs.Laws.{accepted_exactly, accepted_well_formed}
use Rattle.planner_rules.specs.Table.{good, entry}
use Rattle.planner_rules.proofs.Addresses.{good_exactly}
use Rattle.planner_rules.proofs.Holding.{holds_exactly}
use Rattle.rehearsal_rules.specs.Packets.{cell_of, cells_of}
use Rattle.rehearsal_rules.specs.Sound.{sound_at, sound_held}
use Rattle.rehearsal_rules.specs.Record.{Rehearsal, description_of, sound_on, sound_record}
use Rattle.rehearsal_rules.specs.Rules.{MayHold, SoundOn, SoundRecord}
use Rattle.rehearsal_rules.proofs.Sound.{FineCell}
use Rattle.rehearsal_rules.proofs.Soundness.{facts, sound_facts}
use Rattle.rehearsal_rules.proofs.Words.{cell_at}
use Rattle.rehearsal_rules.proofs.Calls.{sound_parts, parts_sound}

module _ (n : Net) (w : WellFormed n) (ch a : ℕ) where
  ahead : ℕ
  ahead = entry n (target n ch) (in_port n ch) a

  pub sound_may_hold : T (sound_at n ch a) → MayHold n ch a
  sound_may_hold t =
      let p = both_T (live n ch) (both (good n a) _) t in
      let q = both_T (good n a) _ p.1 in
      let b = some_bit (entry n (target n ch) (in_port n ch) a) (ltb→lt _ _ q.1) in
      record {
        channel = ltb→lt ch n.channels p.0;
        address = (good_exactly n w a).0 q.0;
        goes_on = (b.0, (holds_exactly n w (target n ch) (in_port n ch) a b.0).0 b.1);
      }

  pub may_hold_sound : MayHold n ch a → T (sound_at n ch a)
  unfolding ahead
  may_hold_sound m =
      T_both (live n ch) (both (good n a) (ltb 0 ahead)) (lt→ltb ch n.channels m.channel)
      (T_both (good n a) (ltb 0 ahead) ((good_exactly n w a).1 m.address)
      (lt→ltb 0 ahead (bit_pos ahead m.goes_on.0 ((holds_exactly n w (target n ch) (in_port n ch) a m.goes_on.0).1 m.goes_on.1))))

module _ (d words : List ℕ) where
  abbrev n : Net
  n = net_of d

  abbrev Fit : ℕ → ℕ → Type 0
  Fit ch a = T (sound_at n ch a)

  -- a word that is not 0 is a packet's address
  fits : (ch x : ℕ) → x ≢ 0 → FineCell n Fit ch (cell_of x) → Fit ch x
  fits ch zero ne f = absurd (ne refl)
  fits ch (suc x) ne f = f.fit

  fine : (ch x : ℕ) → (x ≢ 0 → Fit ch x) → FineCell n Fit ch (cell_of x)
  fine ch zero f = tt
  fine ch (suc x) f = record { fit = f (λ e. omega arith) }

  sound_rule : T (sound_on d words) → SoundOn d words
  sound_rule t =
      let p = sound_parts d words t in
      let w = accepted_well_formed d p.0 in
      let size : length words ≡ 768 = sized t in
      let f = facts n (cells_of words) (rw p.1.0 w.few_channels) p.1.1 in
      record {
        description = (accepted_exactly d).0 p.0;
        channels = size;
        each = λ ch ne. sound_may_hold n w ch (get_or words ch 0) (fits ch (get_or words ch 0) ne (rw (cell_at words ch) at (f.each ch)));
      }
    where
      sized : T (sound_on d words) → length words ≡ 768
      sized t =
          let q = both_T (eqb (length words) 768) (sound_held n (cells_of words)) (both_T (eqb (verdict d).number 0) (both (eqb (length words) 768) (sound_held n (cells_of words))) t).1 in
          eqb→eq (length words) 768 q.0

  rule_sound : SoundOn d words → T (sound_on d words)
  rule_sound s =
      let ok = (accepted_exactly d).1 s.description in
      let w = accepted_well_formed d ok in
      parts_sound d words ok s.channels (sound_facts n (cells_of words) (record {
        room = rw (length-map words cell_of, s.channels) w.few_channels;
        each = λ ch. rw (cell_at words ch) (fine ch (get_or words ch 0) (λ ne. may_hold_sound n w ch (get_or words ch 0) (s.each ch ne)));
      }))

  pub sound_exactly : T (sound_on d words) ↔ SoundOn d words
  sound_exactly = (sound_rule, rule_sound)

pub record_exactly : (r : Rehearsal) → T (sound_record r) ↔ SoundRecord r
record_exactly r = (
  λ t.
      let p = both_T (leb r.size 2057) (sound_on (description_of r) r.words) t in
      record { fits = leb→le r.size 2057 p.0; kept = (sound_exactly (description_of r) r.words).0 p.1 },
  λ s. T_both (leb r.size 2057) (sound_on (description_of r) r.words) (le→leb r.size 2057 s.fits) ((sound_exactly (description_of r) r.words).1 s.kept),
)
