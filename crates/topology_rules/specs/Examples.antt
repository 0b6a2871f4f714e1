-- Descriptions checked, found, retired and pulled: examples that the checker computes.
use Rattle.std.specs.Prelude.{ℕ, suc, List, [], ◌∷◌, ◌++◌, true, ◌≡◌, refl, take, drop, set}
use Rattle.topology_rules.specs.Count.{any, least, those, count}
use Rattle.topology_rules.specs.Format.{uid_at}
use Rattle.topology_rules.specs.Check.{refuse, verdict, switches_from, cables_from}
use Rattle.topology_rules.specs.Net.{number_at}
use Rattle.topology_rules.specs.Answers.{Outcome, refused, packed}
use Rattle.topology_rules.specs.Edit.{header, find, cable_of, retire_verdict, pull_verdict, retired, pulled, part, records, retire, pull}
use Rattle.topology_rules.specs.Case.{Case, case, all_right, shown}
use Rattle.topology_rules.specs.Samples.{r5, r4, one, pair, triangle, twins}

-- byte k of description d set to v, then checked
abbrev damaged : List ℕ → ℕ → ℕ → List ℕ
damaged d k v = shown (verdict (set d k v))

-- k switches with no cable, UIDs 1 to k
abbrev lone : ℕ → List ℕ
lone k = header k 0 ++ records (λ i. 0 ∷ 0 ∷ 0 ∷ 0 ∷ 0 ∷ suc i ∷ 0 ∷ 0 ∷ []) (those k 0 (λ i. true))

-- each refusal once, first those of the header
unfoldable pub checks : List Case
checks =
    case 0 (shown (verdict r5) ++ shown (verdict one) ++ shown (verdict pair) ++ shown (verdict triangle) ++ shown (verdict twins)) (0 ∷ 0 ∷ 0 ∷ 0 ∷ 0 ∷ 0 ∷ 0 ∷ 0 ∷ 0 ∷ 0 ∷ [])
    ∷ case 1 (shown (verdict []) ++ shown (verdict (take 8 r5))) (1 ∷ 0 ∷ 1 ∷ 0 ∷ [])
    ∷ case 2 (damaged r5 0 86 ++ damaged r5 1 86 ++ damaged r5 2 86) (2 ∷ 0 ∷ 2 ∷ 0 ∷ 2 ∷ 0 ∷ [])
    ∷ case 3 (damaged r5 4 2 ++ damaged r5 3 1) (3 ∷ 0 ∷ 3 ∷ 0 ∷ [])
    ∷ case 4 (damaged r5 6 0 ++ damaged r5 6 65 ++ damaged r5 5 1) (4 ∷ 0 ∷ 4 ∷ 0 ∷ 4 ∷ 0 ∷ [])
    ∷ case 5 (damaged r5 7 2) (5 ∷ 0 ∷ [])
    ∷ case 6 (damaged r5 8 4 ++ shown (verdict (take 68 r5)) ++ shown (verdict (r5 ++ 0 ∷ []))) (6 ∷ 0 ∷ 6 ∷ 0 ∷ 6 ∷ 0 ∷ [])
    -- record 1 with record 0's UID, with no UID, and with a UID that differs from it in one bit only
    ∷ case 7 (damaged r5 22 10 ++ damaged r5 22 0 ++ damaged r5 22 11 ++ damaged (set r5 22 10) 17 128) (7 ∷ 1 ∷ 7 ∷ 1 ∷ 0 ∷ 0 ∷ 0 ∷ 0 ∷ [])
    -- hosts on ports 0, 12 and 13; 7 before 8 in one record, and an earlier record's 8 before a later one's 7
    ∷ case 8 (damaged r5 16 33 ++ damaged r5 15 16 ++ damaged r5 15 32 ++ damaged (set r5 16 33) 14 0 ++ damaged (set r5 16 33) 22 0) (8 ∷ 0 ∷ 0 ∷ 0 ∷ 8 ∷ 0 ∷ 7 ∷ 0 ∷ 8 ∷ 0 ∷ [])
    -- the lower number wins over both ends: a port 13 at the first, a switch that is not there at the second
    ∷ case 9 (damaged r5 51 5 ++ damaged (set r5 50 13) 51 5) (9 ∷ 0 ∷ 9 ∷ 0 ∷ [])
    ∷ case 10 (damaged r5 50 0 ++ damaged r5 50 13 ++ damaged r5 50 12) (10 ∷ 0 ∷ 10 ∷ 0 ∷ 0 ∷ 0 ∷ [])
    ∷ case 11 (damaged r5 55 1) (11 ∷ 1 ∷ [])
    -- a host port; a port that an earlier cable's first or second end uses
    ∷ case 12 (damaged r5 50 5 ++ damaged pair 30 1 ++ damaged pair 32 1) (12 ∷ 0 ∷ 12 ∷ 1 ∷ 12 ∷ 1 ∷ [])
    -- an earlier cable's 12 before a later one's 9; a switch record's 8 before a cable record's 9
    ∷ case 13 (damaged (set r5 50 5) 55 5 ++ damaged (set r5 48 33) 51 5) (12 ∷ 0 ∷ 8 ∷ 4 ∷ [])
    -- 64 switches and 65
    ∷ case 14 (shown (verdict (lone 64)) ++ shown (verdict (lone 65))) (0 ∷ 0 ∷ 4 ∷ 0 ∷ [])
    ∷ []

pub checks_right : all_right checks ≡ true
unfolding checks r5 one pair triangle twins verdict switches_from cables_from any those records
checks_right = refl

-- an answer as it is packed, and the output
abbrev told : Outcome → List ℕ
told o = packed o.reply ∷ o.out

-- UIDs as read, numbers, finding, retiring and pulling
unfoldable pub edits : List Case
edits =
    -- all 48 bits count: the twins' UIDs, their numbers, and where each is found; 49 bits are found nowhere
    case 1 (uid_at twins 0 ∷ uid_at twins 1 ∷ uid_at twins 2 ∷ []) (140737488355330 ∷ 2 ∷ 3 ∷ [])
    ∷ case 2 (number_at twins 0 ∷ number_at twins 1 ∷ number_at twins 2 ∷ []) (3 ∷ 1 ∷ 2 ∷ [])
    ∷ case 3 (find twins 140737488355330 ∷ find twins 2 ∷ find twins 3 ∷ find twins 281474976710658 ∷ []) (0 ∷ 1 ∷ 2 ∷ 3 ∷ [])
    -- retiring C of R5 leaves the rest in order, at lower positions; the output's tail stays
    ∷ case 4 (told (retire r5 30 (r5 ++ 99 ∷ []))) (53 ∷ r4 ++ drop 53 r5 ++ 99 ∷ [])
    -- 13, 14, 16 in this order, and nothing is written
    ∷ case 5 (told (retire r5 21 (9 ∷ [])) ++ told (retire one 8 []) ++ told (retire one 7 [])) (55834574848 ∷ 9 ∷ 55834574848 ∷ 60129542144 ∷ [])
    ∷ case 6 (shown (retire_verdict r5 30 52) ++ shown (retire_verdict r5 30 53) ++ shown (retire_verdict (take 8 r5) 30 99)) (16 ∷ 0 ∷ 0 ∷ 0 ∷ 1 ∷ 0 ∷ [])
    -- pulling A.1–B.1, named from either end
    ∷ case 7 (drop 49 (pulled r5 (cable_of r5 (find r5 20) 1))) (drop 53 r5)
    ∷ case 8 (take 9 (pulled r5 (cable_of r5 (find r5 10) 1)) ++ drop 49 (pulled r5 0)) (85 ∷ 68 ∷ 82 ∷ 0 ∷ 1 ∷ 0 ∷ 5 ∷ 0 ∷ 4 ∷ drop 53 r5)
    -- a refusal's position is packed too
    ∷ case 11 (packed (refused (refuse 12 3)) ∷ []) (51539607555 ∷ [])
    -- 13, then 15 at a host port, at port 0 and above 12, then 16
    ∷ case 9 (shown (pull_verdict r5 21 5 0) ++ shown (pull_verdict r5 20 5 0) ++ shown (pull_verdict r5 20 0 0) ++ shown (pull_verdict r5 20 13 0)) (13 ∷ 0 ∷ 15 ∷ 0 ∷ 15 ∷ 0 ∷ 15 ∷ 0 ∷ [])
    ∷ case 10 (shown (pull_verdict r5 20 1 64) ++ shown (pull_verdict r5 20 1 65) ++ told (pull r5 20 1 (7 ∷ []))) (16 ∷ 0 ∷ 0 ∷ 0 ∷ 68719476736 ∷ 7 ∷ [])
    ∷ []

pub edits_right : all_right edits ≡ true
unfolding edits r5 r4 one twins verdict switches_from cables_from any least those count find cable_of retire_verdict pull_verdict retired pulled part records retire pull
edits_right = refl
