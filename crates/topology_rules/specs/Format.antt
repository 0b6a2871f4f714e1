-- A description's bytes as numbers.
use Rattle.std.specs.Prelude.{ℕ, ◌+◌, ◌*◌, ◌<◌, List, [], ◌∷◌, Bool, ◌≡◌, ◌⊎◌, slice_index, nat_eq}
use Rattle.topology_rules.specs.Count.{both}

-- each is a byte
abbrev pub Bytes : List ℕ → Type 0
Bytes d = (k : ℕ) → slice_index d k < 256

-- the three letters UDR
abbrev pub mark : List ℕ
mark = 85 ∷ 68 ∷ 82 ∷ []

-- two bytes at i, the higher first
abbrev pub be16 : List ℕ → ℕ → ℕ
be16 d i = 256 * slice_index d i + slice_index d (i + 1)

-- six bytes at i
abbrev pub be48 : List ℕ → ℕ → ℕ
be48 d i = 4294967296 * be16 d i + 65536 * be16 d (i + 2) + be16 d (i + 4)

-- the version
abbrev pub version_of : List ℕ → ℕ
version_of d = be16 d 3

-- S
abbrev pub switch_count : List ℕ → ℕ
switch_count d = be16 d 5

-- L
abbrev pub cable_count : List ℕ → ℕ
cable_count d = be16 d 7

-- the length that S and L ask for
abbrev pub size_for : ℕ → ℕ → ℕ
size_for s l = 9 + 8 * s + 4 * l

-- the UID of switch record i
abbrev pub uid_at : List ℕ → ℕ → ℕ
uid_at d i = be48 d (9 + 8 * i)

-- the host mask of switch record i
abbrev pub hosts_at : List ℕ → ℕ → ℕ
hosts_at d i = be16 d (15 + 8 * i)

-- where the cable records start
abbrev pub cables_at : List ℕ → ℕ
cables_at d = 9 + 8 * switch_count d

-- Ends are counted through: 2 c is the first end of cable c and 2 c + 1 its second.
abbrev pub end_switch : List ℕ → ℕ → ℕ
end_switch d e = slice_index d (cables_at d + 2 * e)

abbrev pub end_port : List ℕ → ℕ → ℕ
end_port d e = slice_index d (cables_at d + 2 * e + 1)

-- end e is one of cable c's two
abbrev pub EndOf : ℕ → ℕ → Type 0
EndOf c e = (e ≡ 2 * c) ⊎ (e ≡ 2 * c + 1)

-- end e is at port p of switch record i
abbrev pub ends_at : List ℕ → ℕ → ℕ → ℕ → Bool
ends_at d i p e = both (nat_eq (end_switch d e) i) (nat_eq (end_port d e) p)
