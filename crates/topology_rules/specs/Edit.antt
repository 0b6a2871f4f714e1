-- Finding, retiring and pulling.
use Rattle.std.specs.Prelude.{ℕ, ◌+◌, ◌*◌, ◌-◌, ◌/◌, ◌%◌, List, [], ◌∷◌, ◌++◌, Bool, true, cond, not, slice_index, length, nat_eq, nat_lt, nat_le}
use Rattle.topology_rules.specs.Count.{either, least, those}
use Rattle.topology_rules.specs.Format.{mark, switch_count, cable_count, uid_at, end_switch, end_port, ends_at}
use Rattle.topology_rules.specs.Check.{Verdict, refuse, accepted, whenever, verdict}
use Rattle.topology_rules.specs.Answers.{Reply, answered, Outcome, outcome}

-- the record with that UID, all 48 bits compared; past the last where none has it
unfoldable pub find : List ℕ → ℕ → ℕ
find d u = least (switch_count d) 0 (λ i. nat_eq (uid_at d i) u)

-- the cable at port p of switch record i; past the last where there is none
unfoldable pub cable_of : List ℕ → ℕ → ℕ → ℕ
cable_of d i p = least (cable_count d) 0 (λ c. either (ends_at d i p (2 * c)) (ends_at d i p (2 * c + 1)))

-- the records of these numbers, one after the other
unfoldable pub records : (ℕ → List ℕ) → List ℕ → List ℕ
records r [] = []
records r (i ∷ is) = r i ++ records r is

-- the mark, version 1 and the two counts
abbrev pub header : ℕ → ℕ → List ℕ
header s l = mark ++ 0 ∷ 1 ∷ s / 256 ∷ s % 256 ∷ l / 256 ∷ l % 256 ∷ []

-- switch record i, as it stands
abbrev pub switch_record : List ℕ → ℕ → List ℕ
switch_record d i =
    let at = 9 + 8 * i in
    slice_index d at ∷ slice_index d (at + 1) ∷ slice_index d (at + 2) ∷ slice_index d (at + 3)
    ∷ slice_index d (at + 4) ∷ slice_index d (at + 5) ∷ slice_index d (at + 6) ∷ slice_index d (at + 7) ∷ []

-- cable record c, its switch positions changed
abbrev pub cable_record : List ℕ → (ℕ → ℕ) → ℕ → List ℕ
cable_record d new_position c =
    new_position (end_switch d (2 * c)) ∷ end_port d (2 * c) ∷ new_position (end_switch d (2 * c + 1)) ∷ end_port d (2 * c + 1) ∷ []

-- the switch records ss and the cable records cs alone
unfoldable pub part : List ℕ → List ℕ → List ℕ → (ℕ → ℕ) → List ℕ
part d ss cs new_position = header (length ss) (length cs) ++ records (switch_record d) ss ++ records (cable_record d new_position) cs

-- positions above the removed one fall by 1
abbrev pub fall : ℕ → ℕ → ℕ
fall i x = cond (nat_lt i x) (x - 1) x

-- neither end of cable c is at switch record i
abbrev pub clear : List ℕ → ℕ → ℕ → Bool
clear d i c = not (either (nat_eq (end_switch d (2 * c)) i) (nat_eq (end_switch d (2 * c + 1)) i))

abbrev pub other_switches : List ℕ → ℕ → List ℕ
other_switches d i = those (switch_count d) 0 (λ j. not (nat_eq j i))

abbrev pub clear_cables : List ℕ → ℕ → List ℕ
clear_cables d i = those (cable_count d) 0 (clear d i)

abbrev pub other_cables : List ℕ → ℕ → List ℕ
other_cables d c = those (cable_count d) 0 (λ x. not (nat_eq x c))

-- without switch record i and without the cables that end there
unfoldable pub retired : List ℕ → ℕ → List ℕ
retired d i = part d (other_switches d i) (clear_cables d i) (fall i)

-- without cable record c; everything else is kept
unfoldable pub pulled : List ℕ → ℕ → List ℕ
pulled d c = part d (those (switch_count d) 0 (λ j. true)) (other_cables d c) (λ x. x)

-- the refusal of a job that checks the description first
abbrev pub checked : List ℕ → Verdict → Verdict
checked d rest = whenever (not (nat_eq (verdict d).number 0)) (verdict d) rest

-- 1 to 12, then 13
unfoldable pub find_verdict : List ℕ → ℕ → Verdict
find_verdict d u = let unknown = whenever (nat_le (switch_count d) (find d u)) (refuse 13 0) accepted in checked d unknown

-- where the record with that UID stands
unfoldable pub find_reply : List ℕ → ℕ → Reply
find_reply d u = answered (find_verdict d u) (find d u)

-- 1 to 12, then 13, 14, 16, where room bytes are lent
unfoldable pub retire_verdict : List ℕ → ℕ → ℕ → Verdict
retire_verdict d u room =
    let i = find d u in
    let full = whenever (nat_lt room (length (retired d i))) (refuse 16 0) accepted in
    let only = whenever (nat_eq (switch_count d) 1) (refuse 14 0) full in
    let unknown = whenever (nat_le (switch_count d) i) (refuse 13 0) only in
    checked d unknown

-- 1 to 12, then 13, 15, 16
unfoldable pub pull_verdict : List ℕ → ℕ → ℕ → ℕ → Verdict
pull_verdict d u p room =
    let i = find d u in
    let c = cable_of d i p in
    let full = whenever (nat_lt room (length (pulled d c))) (refuse 16 0) accepted in
    let none = whenever (nat_le (cable_count d) c) (refuse 15 0) full in
    let unknown = whenever (nat_le (switch_count d) i) (refuse 13 0) none in
    checked d unknown

-- the new length and the new description at the start of the output
unfoldable pub retire : List ℕ → ℕ → List ℕ → Outcome
retire d u out = let new = retired d (find d u) in outcome (retire_verdict d u (length out)) (length new) new out

unfoldable pub pull : List ℕ → ℕ → ℕ → List ℕ → Outcome
pull d u p out = let new = pulled d (cable_of d (find d u) p) in outcome (pull_verdict d u p (length out)) (length new) new out
