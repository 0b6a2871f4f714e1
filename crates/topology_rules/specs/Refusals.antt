-- Which refusal is returned, said of rules and not of a search: what applies, what comes earlier, the first that applies.
use Rattle.std.specs.Prelude.{ℕ, ◌+◌, ◌*◌, ◌≤◌, ◌<◌, List, cond, ◌≡◌, ◌⊎◌, ◌≢◌, slice_index, length, T, nat_le}
use Rattle.topology_rules.specs.Count.{bit, Lower}
use Rattle.topology_rules.specs.Format.{mark, version_of, switch_count, cable_count, size_for, uid_at, hosts_at, end_switch, end_port, EndOf}
use Rattle.topology_rules.specs.Check.{Verdict, refuse, accepted}

-- 1 to 6 come as numbered, 7 and 8 together with the switch records, 9 to 12 together with the cable records, a job's own as numbered
abbrev pub stage : ℕ → ℕ
stage k = cond (nat_le k 6) k (cond (nat_le k 8) 7 (cond (nat_le k 12) 9 k))

-- refusal k at position i comes before refusal m at position j: among records file order, in one record the lower number
abbrev pub Earlier : ℕ → ℕ → ℕ → ℕ → Type 0
Earlier k i m j = (stage k < stage m) ⊎ ((stage k ≡ stage m) × Lower i k j m)

-- the first that applies, or 0 at position 0 where none does
pub data Returned (Applies : ℕ → ℕ → Type 0) : Verdict → Type 0 where
  none : ((k i : ℕ) → Applies k i → ⊥) → Returned Applies accepted
  first : {k i : ℕ} → Applies k i → ((m j : ℕ) → Applies m j → Earlier m j k i → ⊥) → Returned Applies (refuse k i)

-- Refusals 1 to 12, row by row: `Wrong d k i` says that refusal k applies at position i.
pub data Wrong (d : List ℕ) : ℕ → ℕ → Type 0 where
  short : length d < 9 → Wrong d 1 0
  other_letter : (k : ℕ) → k < 3 → slice_index d k ≢ slice_index mark k → Wrong d 2 0
  other_version : version_of d ≢ 1 → Wrong d 3 0
  no_switch : switch_count d ≡ 0 → Wrong d 4 0
  many_switches : 64 < switch_count d → Wrong d 4 0
  many_cables : 384 < cable_count d → Wrong d 5 0
  other_length : length d ≢ size_for (switch_count d) (cable_count d) → Wrong d 6 0
  uid_zero : {i : ℕ} → i < switch_count d → uid_at d i ≡ 0 → Wrong d 7 i
  uid_again : {i : ℕ} (j : ℕ) → i < switch_count d → j < i → uid_at d j ≡ uid_at d i → Wrong d 7 i
  host_outside : {i : ℕ} (p : ℕ) → i < switch_count d → T (bit (hosts_at d i) p) → (p ≡ 0) ⊎ (12 < p) → Wrong d 8 i
  end_nowhere : {c : ℕ} (e : ℕ) → c < cable_count d → EndOf c e → switch_count d ≤ end_switch d e → Wrong d 9 c
  end_outside : {c : ℕ} (e : ℕ) → c < cable_count d → EndOf c e → (end_port d e ≡ 0) ⊎ (12 < end_port d e) → Wrong d 10 c
  on_one_switch : {c : ℕ} → c < cable_count d → end_switch d (2 * c) ≡ end_switch d (2 * c + 1) → Wrong d 11 c
  host_port : {c : ℕ} (e : ℕ) → c < cable_count d → EndOf c e → T (bit (hosts_at d (end_switch d e)) (end_port d e)) → Wrong d 12 c
  used_port : {c : ℕ} (e f : ℕ) → c < cable_count d → EndOf c e → f < 2 * c → end_switch d f ≡ end_switch d e → end_port d f ≡ end_port d e → Wrong d 12 c
