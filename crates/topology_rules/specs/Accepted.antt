-- What an accepted description says: each refusal of 1 to 12, the other way round.
use Rattle.std.specs.Prelude.{ℕ, ◌+◌, ◌*◌, ◌≤◌, ◌<◌, List, not, ◌≡◌, ◌≢◌, slice_index, length, T}
use Rattle.topology_rules.specs.Count.{bit}
use Rattle.topology_rules.specs.Format.{version_of, switch_count, cable_count, size_for, uid_at, hosts_at, end_switch, end_port}

module _ (d : List ℕ) where
  -- switch record i: 7, 8
  pub record Switch (i : ℕ) : Type 0 where
    pub uid_some : uid_at d i ≢ 0
    pub uid_new : (j : ℕ) → j < i → uid_at d j ≢ uid_at d i
    pub hosts_low : T (not (bit (hosts_at d i) 0))
    pub hosts_high : hosts_at d i < 8192

  -- end e of cable c: 9, 10, 12
  pub record End (c e : ℕ) : Type 0 where
    pub switch_there : end_switch d e < switch_count d
    pub port_low : 0 < end_port d e
    pub port_high : end_port d e ≤ 12
    pub no_host : T (not (bit (hosts_at d (end_switch d e)) (end_port d e)))
    pub unused : (f : ℕ) → f < 2 * c → end_switch d f ≡ end_switch d e → end_port d f ≢ end_port d e

  -- cable record c: 9 to 12, 11 by `apart`
  pub record Cable (c : ℕ) : Type 0 where
    pub first : End c (2 * c)
    pub second : End c (2 * c + 1)
    pub apart : end_switch d (2 * c) ≢ end_switch d (2 * c + 1)

  -- U, D, R
  pub record Marked : Type 0 where
    pub letter_u : slice_index d 0 ≡ 85
    pub letter_d : slice_index d 1 ≡ 68
    pub letter_r : slice_index d 2 ≡ 82

  -- 1 to 6, then the records
  pub record Accepted : Type 0 where
    pub marked : Marked
    pub version : version_of d ≡ 1
    pub some_switch : 0 < switch_count d
    pub few_switches : switch_count d ≤ 64
    pub few_cables : cable_count d ≤ 384
    pub size : length d ≡ size_for (switch_count d) (cable_count d)
    pub switches : (i : ℕ) → i < switch_count d → Switch i
    pub cables : (c : ℕ) → c < cable_count d → Cable c
