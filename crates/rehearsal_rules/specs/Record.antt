-- The calls: orders on a description and the words of its channels, and on a record that keeps both.
use Rattle.std.specs.Prelude.{ℕ, ◌-◌, List, ◌++◌, Bool, cond, length, take, replicate, nat_eq, nat_le}
use Rattle.topology_rules.specs.Count.{both}
use Rattle.topology_rules.specs.Check.{Verdict, accepted, verdict}
use Rattle.topology_rules.specs.Net.{net_of}
use Rattle.rehearsal_rules.specs.Machine.{Machine}
use Rattle.rehearsal_rules.specs.Packets.{cells_of, words_of}
use Rattle.rehearsal_rules.specs.Answers.{Order, Answer, refused}
use Rattle.rehearsal_rules.specs.Moves.{rehearsal}
use Rattle.rehearsal_rules.specs.Sound.{sound_held}

-- an answer, and what then is what was lent
pub record Called (A : Type 0) : Type 0 where
  pub answer : Answer
  pub lent : A

abbrev pub gives : {A : Type 0} → Answer → A → Called A
gives x s = record { answer = x; lent = s }

module _ (d : List ℕ) where
  -- an accepted description, 768 channels, and each held packet sound
  abbrev pub sound_on : List ℕ → Bool
  sound_on words = both (nat_eq (verdict d).number 0) (both (nat_eq (length words) 768) (sound_held (net_of d) (cells_of words)))

  -- one order on the channels' words; 17 where they are not sound
  unfoldable pub call_on : List ℕ → Order → Called (List ℕ)
  call_on words o =
      let m = rehearsal (net_of d) in
      let obeyed = gives (m.answer (cells_of words) o) (words_of (m.next (cells_of words) o)) in
      cond (sound_on words) obeyed (gives (refused 17) words)

  unfoldable pub calls_on : Machine (List ℕ) Order Answer
  calls_on = record { answer = λ words o. (call_on words o).answer; next = λ words o. (call_on words o).lent }

-- The record: 2,057 bytes that begin with the description, the description's length, and 768 channels. It keeps nothing else of the plan.
pub record Rehearsal : Type 0 where
  pub bytes : List ℕ
  pub size : ℕ
  pub words : List ℕ

abbrev pub description_of : Rehearsal → List ℕ
description_of r = take r.size r.bytes

abbrev pub with_words : Rehearsal → List ℕ → Rehearsal
with_words r words = record { bytes = r.bytes; size = r.size; words = words }

-- sound: its length is no more than it has room for, and what it keeps is
abbrev pub sound_record : Rehearsal → Bool
sound_record r = both (nat_le r.size 2057) (sound_on (description_of r) r.words)

-- one order on a record
unfoldable pub call : Rehearsal → Order → Called Rehearsal
call r o =
    let c = call_on (description_of r) r.words o in
    cond (nat_le r.size 2057) (gives c.answer (with_words r c.lent)) (gives (refused 17) r)

unfoldable pub calls : Machine Rehearsal Order Answer
calls = record { answer = λ r o. (call r o).answer; next = λ r o. (call r o).lent }

-- a record just started with description d: zeros behind it, every channel empty
unfoldable pub begun : List ℕ → Rehearsal
begun d = record { bytes = d ++ replicate (2057 - length d) 0; size = length d; words = replicate 768 0 }

pub record Started : Type 0 where
  pub verdict : Verdict
  pub lent : Rehearsal

-- starting, on any record: what checking says, and the record is begun or as before
unfoldable pub start : List ℕ → Rehearsal → Started
start d r = let v = verdict d in cond (nat_eq v.number 0) (record { verdict = accepted; lent = begun d }) (record { verdict = v; lent = r })
