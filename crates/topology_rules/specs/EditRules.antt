-- Retiring and pulling in relational words: what the new description keeps, and which refusals apply.
use Rattle.std.specs.Prelude.{ℕ, ◌+◌, ◌*◌, ◌<◌, List, ◌≡◌, slice_index, length}
use Rattle.topology_rules.specs.Format.{switch_count, cable_count, size_for, uid_at, hosts_at, end_switch, end_port, EndOf}
use Rattle.topology_rules.specs.Edit.{retired, pulled}
use Rattle.topology_rules.specs.Refusals.{Wrong}

-- l holds exactly the numbers below k of which P is true, in ascending order
pub record Lists (k : ℕ) (P : ℕ → Type 0) (l : List ℕ) : Type 0 where
  pub each : (j : ℕ) → j < length l → (slice_index l j < k) × P (slice_index l j)
  pub all : (i : ℕ) → i < k → P i → (j : ℕ) × (j < length l) × (slice_index l j ≡ i)
  pub ascending : (i j : ℕ) → i < j → j < length l → slice_index l i < slice_index l j

-- Description `new` holds exactly the switch records and cable records of d of which Switch and Cable are true, in their order.
pub record Keeps (d new : List ℕ) (Switch Cable : ℕ → Type 0) : Type 0 where
  pub switches : List ℕ
  pub cables : List ℕ
  pub kept_switches : Lists (switch_count d) Switch switches
  pub kept_cables : Lists (cable_count d) Cable cables
  pub switch_total : switch_count new ≡ length switches
  pub cable_total : cable_count new ≡ length cables
  pub size : length new ≡ size_for (length switches) (length cables)
  -- switch record j is the old record switches[j]
  pub uids : (j : ℕ) → j < length switches → uid_at new j ≡ uid_at d (slice_index switches j)
  pub hosts : (j : ℕ) → j < length switches → hosts_at new j ≡ hosts_at d (slice_index switches j)
  -- cable record c is the old record cables[c]: each end on the same switch, wherever that now stands, and the same port
  pub end_there : (c b : ℕ) → c < length cables → b < 2 → end_switch new (2 * c + b) < length switches
  pub end_switch_kept : (c b : ℕ) → c < length cables → b < 2 → slice_index switches (end_switch new (2 * c + b)) ≡ end_switch d (2 * slice_index cables c + b)
  pub end_port_kept : (c b : ℕ) → c < length cables → b < 2 → end_port new (2 * c + b) ≡ end_port d (2 * slice_index cables c + b)

-- cable c has an end at port p of record i
abbrev pub CableAt : List ℕ → ℕ → ℕ → ℕ → Type 0
CableAt d i p c = (c < cable_count d) × ((e : ℕ) × EndOf c e × (end_switch d e ≡ i) × (end_port d e ≡ p))

module _ (d : List ℕ) (u : ℕ) where
  -- record i has that UID
  abbrev pub Named : ℕ → Type 0
  Named i = (i < switch_count d) × (uid_at d i ≡ u)

  -- the refusals of retiring, where room bytes are lent
  pub data RetireWrong (room : ℕ) : ℕ → ℕ → Type 0 where
    description : {k i : ℕ} → Wrong d k i → RetireWrong room k i
    unknown : ((i : ℕ) → Named i → ⊥) → RetireWrong room 13 0
    only_switch : switch_count d ≡ 1 → RetireWrong room 14 0
    little_room : (i : ℕ) → Named i → room < length (retired d i) → RetireWrong room 16 0

  -- the refusals of pulling the cable at port p
  pub data PullWrong (p room : ℕ) : ℕ → ℕ → Type 0 where
    description : {k i : ℕ} → Wrong d k i → PullWrong p room k i
    unknown : ((i : ℕ) → Named i → ⊥) → PullWrong p room 13 0
    no_cable : (i : ℕ) → Named i → ((c : ℕ) → CableAt d i p c → ⊥) → PullWrong p room 15 0
    little_room : (i c : ℕ) → Named i → CableAt d i p c → room < length (pulled d c) → PullWrong p room 16 0
