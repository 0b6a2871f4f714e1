-- The first refusal of a description, 1 to 12, with its position; 0 at position 0 where it is accepted.
use Rattle.std.specs.Prelude.{ℕ, suc, zero, ◌+◌, ◌*◌, List, Bool, true, false, not, slice_index, length, nat_eq, nat_lt, nat_le}
use Rattle.topology_rules.specs.Count.{either, bit, any}
use Rattle.topology_rules.specs.Format.{mark, version_of, switch_count, cable_count, size_for, uid_at, hosts_at, end_switch, end_port, ends_at}

pub record Verdict : Type 0 where
  pub number : ℕ
  pub position : ℕ

abbrev pub refuse : ℕ → ℕ → Verdict
refuse k at = record { number = k; position = at }

abbrev pub accepted : Verdict
accepted = refuse 0 0

-- the first that applies is returned: a test, what it gives, and the rest
abbrev pub whenever : Bool → Verdict → Verdict → Verdict
whenever true v rest = v
whenever false v rest = rest

-- letter k is not the mark's
abbrev pub letter_differs : List ℕ → ℕ → Bool
letter_differs d k = not (nat_eq (slice_index d k) (slice_index mark k))

-- 2: the mark differs
abbrev pub mark_differs : List ℕ → Bool
mark_differs d = either (letter_differs d 0) (either (letter_differs d 1) (letter_differs d 2))

-- 3: the version is not 1
abbrev pub version_differs : List ℕ → Bool
version_differs d = not (nat_eq (version_of d) 1)

-- 4: S is 0 or above 64
abbrev pub bad_count : ℕ → Bool
bad_count s = either (nat_eq s 0) (nat_lt 64 s)

-- 6: the length is not the one that S and L ask for
abbrev pub length_differs : List ℕ → Bool
length_differs d = not (nat_eq (length d) (size_for (switch_count d) (cable_count d)))

-- 7: the UID is 0 or equals an earlier record's
abbrev pub bad_uid : List ℕ → ℕ → Bool
bad_uid d i = either (nat_eq (uid_at d i) 0) (any i (λ j. nat_eq (uid_at d j) (uid_at d i)))

-- 8: the host mask has a bit outside 1..12
abbrev pub bad_hosts : List ℕ → ℕ → Bool
bad_hosts d i = either (bit (hosts_at d i) 0) (nat_le 8192 (hosts_at d i))

-- 9: an end's switch position is S or more
abbrev pub bad_switch : List ℕ → ℕ → Bool
bad_switch d e = nat_le (switch_count d) (end_switch d e)

abbrev pub bad_switches : List ℕ → ℕ → Bool
bad_switches d c = either (bad_switch d (2 * c)) (bad_switch d (2 * c + 1))

-- 10: an end's port is 0 or above 12
abbrev pub bad_port : ℕ → Bool
bad_port p = either (nat_eq p 0) (nat_lt 12 p)

abbrev pub bad_ports : List ℕ → ℕ → Bool
bad_ports d c = either (bad_port (end_port d (2 * c))) (bad_port (end_port d (2 * c + 1)))

-- 11: both ends are on one switch
abbrev pub one_switch : List ℕ → ℕ → Bool
one_switch d c = nat_eq (end_switch d (2 * c)) (end_switch d (2 * c + 1))

-- 12: an end is a host port, or used by an earlier cable
abbrev pub port_taken : List ℕ → ℕ → ℕ → Bool
port_taken d c e = either (bit (hosts_at d (end_switch d e)) (end_port d e)) (any (2 * c) (ends_at d (end_switch d e) (end_port d e)))

abbrev pub ports_taken : List ℕ → ℕ → Bool
ports_taken d c = either (port_taken d c (2 * c)) (port_taken d c (2 * c + 1))

-- one switch record, 7 before 8
abbrev pub switch_rule : List ℕ → ℕ → Verdict → Verdict
switch_rule d i rest = whenever (bad_uid d i) (refuse 7 i) (whenever (bad_hosts d i) (refuse 8 i) rest)

-- one cable record, 9, 10, 11, 12
abbrev pub cable_rule : List ℕ → ℕ → Verdict → Verdict
cable_rule d c rest =
    whenever (bad_switches d c) (refuse 9 c)
    (whenever (bad_ports d c) (refuse 10 c)
    (whenever (one_switch d c) (refuse 11 c)
    (whenever (ports_taken d c) (refuse 12 c) rest)))

-- the switch records from i on, in file order
unfoldable pub switches_from : List ℕ → ℕ → ℕ → Verdict → Verdict
switches_from d zero i rest = rest
switches_from d (suc k) i rest = let more = switches_from d k (suc i) rest in switch_rule d i more

-- the cable records from c on, in file order
unfoldable pub cables_from : List ℕ → ℕ → ℕ → Verdict
cables_from d zero c = accepted
cables_from d (suc k) c = let more = cables_from d k (suc c) in cable_rule d c more

-- 1 to 6 as numbered, then the switch records, then the cable records
unfoldable pub verdict : List ℕ → Verdict
verdict d =
    let records = switches_from d (switch_count d) 0 (cables_from d (cable_count d) 0) in
    let sized = whenever (length_differs d) (refuse 6 0) records in
    whenever (nat_lt (length d) 9) (refuse 1 0)
    (whenever (mark_differs d) (refuse 2 0)
    (whenever (version_differs d) (refuse 3 0)
    (whenever (bad_count (switch_count d)) (refuse 4 0)
    (whenever (nat_lt 384 (cable_count d)) (refuse 5 0) sized))))
