-- Document 01's examples W1 to W12, one list, proved together of the written rules.
use Rattle.std.specs.Prelude.{List, [], ◌∷◌, map, true, ◌≡◌, refl}
use Rattle.topology_rules.specs.Count.{any, least, first, count, bits, those}
use Rattle.topology_rules.specs.Check.{verdict, switches_from, cables_from}
use Rattle.topology_rules.specs.Net.{Net, net_of, leaving}
use Rattle.topology_rules.specs.Edit.{find, retire_verdict, retired, part, records}
use Rattle.topology_rules.specs.Case.{Case, case, all_right, shown}
use Rattle.topology_rules.specs.Samples.{r5, one, pair}
use Rattle.planner_rules.specs.Tree.{within, root, level, above, up, parent_channel, parent_port}
use Rattle.planner_rules.specs.Routes.{way, legal_length, free}
use Rattle.planner_rules.specs.Table.{holder, arrival, begins, entry}
use Rattle.rehearsal_rules.specs.Machine.{answers}
use Rattle.rehearsal_rules.specs.Answers.{placing, advancing, packed_answer}
use Rattle.rehearsal_rules.specs.Moves.{rehearsal, moving, place_answer, advance_answer, needs, taken?}
use Rattle.rehearsal_rules.specs.Sound.{sound_from}
use Rattle.rehearsal_rules.specs.Record.{Rehearsal, call_on, call, calls, begun, start}

abbrev ring : Net
ring = net_of r5

-- a record that was never started: it is started with R5
abbrev pub rubbish : Rehearsal
rubbish = record { bytes = 255 ∷ []; size = 9999; words = 7 ∷ 7 ∷ [] }

abbrev pub started : Rehearsal
started = (start r5 rubbish).lent

unfoldable pub worked : List Case
worked =
    -- W1: no bytes are refused with 1 at position 0
    case 1 (shown (verdict [])) (1 ∷ 0 ∷ [])
    -- W2: one switch and no cable has level 0 and number 1, and its entry (0, 16) is 1
    ∷ case 2 (level (net_of one) 0 ∷ (net_of one).number 0 ∷ entry (net_of one) 0 0 16 ∷ []) (0 ∷ 1 ∷ 1 ∷ [])
    -- W3: R5's levels, A to E
    ∷ case 3 (level ring 0 ∷ level ring 1 ∷ level ring 2 ∷ level ring 3 ∷ level ring 4 ∷ []) (0 ∷ 1 ∷ 2 ∷ 2 ∷ 1 ∷ [])
    -- W4: from E to C the legal length is 3, where two cables would do; E's entry (0, 53) is 4
    ∷ case 4 (legal_length ring free 4 2 ∷ least 5 0 (λ m. within ring m 4 2) ∷ entry ring 4 0 53 ∷ []) (3 ∷ 2 ∷ 4 ∷ [])
    -- W5: from B to D it is 2; B's entry (0, 64) is 4
    ∷ case 5 (legal_length ring free 1 3 ∷ entry ring 1 0 64 ∷ []) (2 ∷ 4 ∷ [])
    -- W6: at E, from port 2, address 53 is discarded
    ∷ case 6 (entry ring 4 2 53 ∷ []) (0 ∷ [])
    -- W7: at A, from port 2, address 53 has entry 2
    ∷ case 7 (entry ring 0 2 53 ∷ []) (2 ∷ [])
    -- W8: at C, from port 1, address 53 has entry 32
    ∷ case 8 (entry ring 2 1 53 ∷ []) (32 ∷ [])
    -- W9: at C, from port 0, address 49 is discarded
    ∷ case 9 (entry ring 2 0 49 ∷ []) (0 ∷ [])
    -- W10: placed at 5 for 53 by port 2 into channel 8; by 1, 2 and 5 on to channel 0, channel 2, and delivered at port 5
    ∷ case 10 (map packed_answer (answers calls started (placing 5 53 2 ∷ advancing 8 1 ∷ advancing 0 2 ∷ advancing 2 5 ∷ []))) (8 ∷ 0 ∷ 2 ∷ 65541 ∷ [])
    -- W11: R5 has no UID 21 to retire
    ∷ case 11 (shown (retire_verdict r5 21 2057)) (13 ∷ 0 ∷ [])
    -- W12: UIDs 1 and 2 with two cables: UID 1's entry (0, 32) is 6, and the parent cable is at port 1
    ∷ case 12 (entry (net_of pair) 0 0 32 ∷ parent_port (net_of pair) 1 ∷ []) (6 ∷ 1 ∷ [])
    ∷ []

pub worked_right : all_right worked ≡ true
unfolding worked r5 one pair verdict switches_from cables_from find retire_verdict retired part records those net_of leaving within root level above up parent_channel parent_port way legal_length holder arrival begins entry answers rehearsal moving place_answer advance_answer taken? needs sound_from call_on call calls begun start any least first count bits
worked_right = refl
