-- Addresses, table entries, and the table of one switch.
use Rattle.std.specs.Prelude.{ℕ, suc, ◌/◌, ◌%◌, ◌^◌, ◌<◌, Bool, true, false, cond, List, length, nat_eq, nat_lt, nat_le}
use Rattle.topology_rules.specs.Count.{both, either, least, bits, tabulate}
use Rattle.topology_rules.specs.Format.{switch_count}
use Rattle.topology_rules.specs.Check.{Verdict, refuse, accepted, whenever}
use Rattle.topology_rules.specs.Net.{Net, net_of, target, leaving, cabled, delivers, live, back}
use Rattle.topology_rules.specs.Refusals.{Wrong}
use Rattle.topology_rules.specs.Answers.{Outcome, outcome}
use Rattle.topology_rules.specs.Edit.{find, checked}
use Rattle.topology_rules.specs.EditRules.{Named}
use Rattle.planner_rules.specs.Tree.{up}
use Rattle.planner_rules.specs.Routes.{Arrival, free, may_cross, after, legal_length, far}

module _ (n : Net) where
  -- the switch that holds a number; past the last where none does
  unfoldable pub holder : ℕ → ℕ
  holder k = least n.switches 0 (λ s. nat_eq (n.number s) k)

  -- an address is 16 × number + port
  abbrev pub destination : ℕ → ℕ
  destination a = holder (a / 16)

  -- good: 16 to 1,039, the number is held, and the port is 0 or a host port of that switch
  abbrev pub good : ℕ → Bool
  good a = both (both (nat_le 16 a) (nat_le a 1039)) (both (nat_lt (destination a) n.switches) (delivers n (destination a) (a % 16)))

  -- the incoming port is 0 or has a host or a cable
  abbrev pub attached : ℕ → ℕ → Bool
  attached s i = either (delivers n s i) (cabled n s i)

  -- how what comes in by port i of s arrives: over a cable by its crossing, else free
  unfoldable pub arrival : ℕ → ℕ → Arrival
  arrival s i = cond (cabled n s i) (after (up n (back (leaving n s i)))) free

  -- crossing ch is allowed for that arrival and begins a shortest legal remainder from s to t
  unfoldable pub begins : Arrival → ℕ → ℕ → ℕ → Bool
  begins k s t ch =
      let here = legal_length n k s t in
      let there = legal_length n (after (up n ch)) (target n ch) t in
      elim (both (live n ch) (may_cross k (up n ch))) [ true ↦ elim (nat_lt here (far n)) [ true ↦ nat_eq (suc there) here | false ↦ false ] | false ↦ false ]

  -- the entry of s for what comes in by port i with address a: bit p for port p, 0 meaning discard
  unfoldable pub entry : ℕ → ℕ → ℕ → ℕ
  entry s i a =
      elim (both (attached s i) (good a)) [
        | false ↦ 0
        | true ↦ elim (nat_eq s (destination a)) [
          | true ↦ 2 ^ (a % 16)
          | false ↦ bits 13 (λ p. begins (arrival s i) s (destination a) (leaving n s p))
        ]
      ]

  -- what stands at a place of the table of s: 1,040 × incoming port + address
  abbrev pub entry_at : ℕ → ℕ → ℕ
  entry_at s at = entry s (at / 1040) (at % 1040)

  -- the table of s, 13 × 1,040 entries
  unfoldable pub table_of : ℕ → List ℕ
  table_of s = tabulate 13520 0 (entry_at s)

-- 1 to 12, then 13, 16, where room entries are lent
unfoldable pub table_verdict : List ℕ → ℕ → ℕ → Verdict
table_verdict d u room =
    let full = whenever (nat_lt room 13520) (refuse 16 0) accepted in
    let unknown = whenever (nat_le (switch_count d) (find d u)) (refuse 13 0) full in
    checked d unknown

-- the table of the switch with UID u at the start of the lent entries
unfoldable pub table : List ℕ → ℕ → List ℕ → Outcome
table d u out = outcome (table_verdict d u (length out)) 0 (table_of (net_of d) (find d u)) out

-- the refusals of that job, where room entries are lent
pub data TableWrong (d : List ℕ) (u room : ℕ) : ℕ → ℕ → Type 0 where
  description : {k i : ℕ} → Wrong d k i → TableWrong d u room k i
  unknown : ((i : ℕ) → Named d u i → ⊥) → TableWrong d u room 13 0
  little_room : room < 13520 → TableWrong d u room 16 0
