-- Calls on records: examples that the checker computes.
use Rattle.std.specs.Prelude.{ℕ, List, [], ◌∷◌, ◌++◌, map, Bool, true, cond, ◌≡◌, refl, length, slice_index, set, take}
use Rattle.topology_rules.specs.Count.{any, least, first, count, bits}
use Rattle.topology_rules.specs.Check.{verdict, switches_from, cables_from}
use Rattle.topology_rules.specs.Net.{net_of, leaving}
use Rattle.topology_rules.specs.Case.{Case, case, all_right, shown}
use Rattle.topology_rules.specs.Samples.{r5}
use Rattle.planner_rules.specs.Tree.{within, root, level, above, up}
use Rattle.planner_rules.specs.Routes.{way, legal_length}
use Rattle.planner_rules.specs.Table.{holder, arrival, begins, entry}
use Rattle.rehearsal_rules.specs.Machine.{answers, last}
use Rattle.rehearsal_rules.specs.Packets.{cells_of}
use Rattle.rehearsal_rules.specs.Answers.{Order, placing, advancing, Answer, packed_answer, verdict_of}
use Rattle.rehearsal_rules.specs.Moves.{rehearsal, moving, place_answer, advance_answer, needs, taken?}
use Rattle.rehearsal_rules.specs.Sound.{sound_from}
use Rattle.rehearsal_rules.specs.Left.{hops_left, sum_from, work, packets}
use Rattle.rehearsal_rules.specs.Record.{Rehearsal, with_words, sound_record, call_on, call, calls, begun, start}
use Rattle.rehearsal_rules.specs.Worked.{rubbish, started}

-- the answers to these orders on a record, refusals by their number
abbrev numbers : Rehearsal → List Order → List ℕ
numbers r os = map (λ (x : Answer). (verdict_of x).number) (answers calls r os)

-- the record with word a in channel ch
abbrev holding : ℕ → ℕ → Rehearsal
holding ch a = with_words started (set started.words ch a)

abbrev yes1 : Bool → ℕ
yes1 b = cond b 1 0

-- what the last record of a run holds in these channels
abbrev held : Rehearsal → List Order → List ℕ → List ℕ
held r os chs = map (λ (ch : ℕ). slice_index (last calls r os).words ch) chs

unfoldable pub refusals : List Case
refusals =
    -- 17 on a record that was never started, and it stays as it was
    case 17 (numbers rubbish (placing 5 53 2 ∷ advancing 0 1 ∷ []) ++ (last calls rubbish (placing 5 53 2 ∷ [])).words) (17 ∷ 17 ∷ 7 ∷ 7 ∷ [])
    -- 17 for a bad address, a held channel from 2 × L on, an entry of 0 ahead, a word that is an address and more, and a length above 2,057
    ∷ case 17 (numbers (holding 0 54) (advancing 0 1 ∷ []) ++ numbers (holding 10 53) (advancing 0 1 ∷ []) ++ numbers (holding 9 53) (advancing 0 1 ∷ [])) (17 ∷ 17 ∷ 17 ∷ [])
    ∷ case 17 (numbers (holding 1 65589) (advancing 0 1 ∷ []) ++ numbers (record { bytes = r5; size = 2058; words = started.words }) (advancing 0 1 ∷ [])) (17 ∷ 17 ∷ [])
    -- 18, then 19 and 20: no such switch number, 257 is not 1, no such channel
    ∷ case 18 (numbers started (placing 0 53 2 ∷ placing 6 5 2 ∷ placing 257 53 1 ∷ advancing 10 1 ∷ [])) (18 ∷ 18 ∷ 18 ∷ 18 ∷ [])
    ∷ case 19 (numbers started (placing 5 5 2 ∷ placing 5 54 2 ∷ placing 5 1040 2 ∷ placing 5 54 99 ∷ [])) (19 ∷ 19 ∷ 19 ∷ 19 ∷ [])
    ∷ case 20 (numbers started (advancing 0 1 ∷ advancing 9 99 ∷ [])) (20 ∷ 20 ∷ [])
    -- 21: not in the entry, no cable (one's own processor), no such port; a turn up after down
    ∷ case 21 (numbers started (placing 5 53 1 ∷ placing 3 53 5 ∷ placing 5 53 99 ∷ []) ++ numbers (holding 0 53) (advancing 0 1 ∷ [])) (21 ∷ 21 ∷ 21 ∷ 21 ∷ [])
    -- 22: the next channel is taken, for a placing and for an advance; 21 comes first
    ∷ case 22 (numbers (holding 8 53) (placing 5 53 2 ∷ placing 5 53 1 ∷ [])) (22 ∷ 21 ∷ [])
    ∷ case 22 (map packed_answer (answers calls started (placing 5 53 2 ∷ placing 1 53 1 ∷ advancing 8 1 ∷ []))) (8 ∷ 0 ∷ 94489280512 ∷ [])
    ∷ []

pub refusals_right : all_right refusals ≡ true
unfolding refusals r5 verdict switches_from cables_from net_of leaving within root level above up way legal_length holder arrival begins entry answers last rehearsal moving place_answer advance_answer taken? needs sound_from call_on call calls begun start any least first count bits
refusals_right = refl

unfoldable pub runs : List Case
runs =
    -- starting: what the record then keeps; a refused start keeps it as it was
    case 1 (started.size ∷ length started.bytes ∷ length started.words ∷ yes1 (sound_record started) ∷ take 3 started.bytes) (69 ∷ 2057 ∷ 768 ∷ 1 ∷ 85 ∷ 68 ∷ 82 ∷ [])
    ∷ case 2 (shown (start (take 8 r5) rubbish).verdict ++ (start (take 8 r5) rubbish).lent.words) (1 ∷ 0 ∷ 7 ∷ 7 ∷ [])
    -- W10 step by step: the packet stands in channel 8, in channel 0, in channel 2, and is gone
    ∷ case 3 (held started (placing 5 53 2 ∷ []) (8 ∷ 0 ∷ 2 ∷ [])) (53 ∷ 0 ∷ 0 ∷ [])
    ∷ case 4 (held started (placing 5 53 2 ∷ advancing 8 1 ∷ []) (8 ∷ 0 ∷ 2 ∷ [])) (0 ∷ 53 ∷ 0 ∷ [])
    ∷ case 5 (held started (placing 5 53 2 ∷ advancing 8 1 ∷ advancing 0 2 ∷ []) (8 ∷ 0 ∷ 2 ∷ [])) (0 ∷ 0 ∷ 53 ∷ [])
    ∷ case 6 (held started (placing 5 53 2 ∷ advancing 8 1 ∷ advancing 0 2 ∷ advancing 2 5 ∷ []) (8 ∷ 0 ∷ 2 ∷ [])) (0 ∷ 0 ∷ 0 ∷ [])
    -- two hops and the delivery are left after its placing
    ∷ case 7 (work (hops_left (net_of r5)) (cells_of (last calls started (placing 5 53 2 ∷ [])).words) ∷ packets (cells_of (last calls started (placing 5 53 2 ∷ [])).words) ∷ []) (3 ∷ 1 ∷ [])
    -- soundness asks nothing of how a packet came there: address 53 in channel 1 is sound, though no placing leads it there
    ∷ case 8 (yes1 (sound_record (holding 1 53)) ∷ map packed_answer (answers calls (holding 1 53) (advancing 1 1 ∷ []))) (1 ∷ 0 ∷ [])
    ∷ []

pub runs_right : all_right runs ≡ true
unfolding runs r5 verdict switches_from cables_from net_of leaving within root level above up way legal_length holder arrival begins entry answers last rehearsal moving place_answer advance_answer taken? needs sound_from sum_from hops_left call_on call calls begun start any least first count bits
runs_right = refl
