-- Marks for the ports of the switches, and the ports that the cables use.
use Rattle.std.specs.Prelude.{ℕ, ◌*◌, ◌<◌, ◌≤◌, ◌≡◌, List, Bool, false, [], slice_index_or, nat_eq}
use Rattle.topology_rules.specs.Count.{both, either, any}
use Rattle.topology_rules.specs.Format.{ends_at}
use Rattle.topology.specs.declared.used.Used.{Used}

-- port p of switch x is marked
abbrev pub is_marked : Used → ℕ → ℕ → Bool
is_marked u x p = slice_index_or (slice_index_or u.marks x []) p false

-- none is
abbrev pub NoneMarked : Used → Type 0
NoneMarked u = (x p : ℕ) → x < 64 → p ≤ 12 → is_marked u x p ≡ false

-- those that were, and port q of switch y
abbrev pub MarksOne : Used → Used → ℕ → ℕ → Type 0
MarksOne old new y q = (x p : ℕ) → x < 64 → p ≤ 12 → is_marked new x p ≡ either (is_marked old x p) (both (nat_eq y x) (nat_eq q p))

-- port p of switch x is an end of one of the first c cables
unfoldable pub used : List ℕ → ℕ → ℕ → ℕ → Bool
used d c x p = any (2 * c) (ends_at d x p)

-- the marks say which ports those are
abbrev pub Noted : List ℕ → ℕ → Used → Type 0
Noted d c u = (x p : ℕ) → x < 64 → p ≤ 12 → is_marked u x p ≡ used d c x p
