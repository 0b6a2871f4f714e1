-- Small descriptions for the examples.
use Rattle.std.specs.Prelude.{ℕ, List, [], ◌∷◌}

-- the ring of five, A to E: a host on port 5 of each
unfoldable pub r5 : List ℕ
r5 = 85 ∷ 68 ∷ 82 ∷ 0 ∷ 1 ∷ 0 ∷ 5 ∷ 0 ∷ 5
    ∷ 0 ∷ 0 ∷ 0 ∷ 0 ∷ 0 ∷ 10 ∷ 0 ∷ 32
    ∷ 0 ∷ 0 ∷ 0 ∷ 0 ∷ 0 ∷ 20 ∷ 0 ∷ 32
    ∷ 0 ∷ 0 ∷ 0 ∷ 0 ∷ 0 ∷ 30 ∷ 0 ∷ 32
    ∷ 0 ∷ 0 ∷ 0 ∷ 0 ∷ 0 ∷ 40 ∷ 0 ∷ 32
    ∷ 0 ∷ 0 ∷ 0 ∷ 0 ∷ 0 ∷ 50 ∷ 0 ∷ 32
    ∷ 0 ∷ 1 ∷ 1 ∷ 1
    ∷ 1 ∷ 2 ∷ 2 ∷ 1
    ∷ 2 ∷ 2 ∷ 3 ∷ 1
    ∷ 3 ∷ 2 ∷ 4 ∷ 1
    ∷ 4 ∷ 2 ∷ 0 ∷ 2 ∷ []

-- R5 without C and its two cables
unfoldable pub r4 : List ℕ
r4 = 85 ∷ 68 ∷ 82 ∷ 0 ∷ 1 ∷ 0 ∷ 4 ∷ 0 ∷ 3
    ∷ 0 ∷ 0 ∷ 0 ∷ 0 ∷ 0 ∷ 10 ∷ 0 ∷ 32
    ∷ 0 ∷ 0 ∷ 0 ∷ 0 ∷ 0 ∷ 20 ∷ 0 ∷ 32
    ∷ 0 ∷ 0 ∷ 0 ∷ 0 ∷ 0 ∷ 40 ∷ 0 ∷ 32
    ∷ 0 ∷ 0 ∷ 0 ∷ 0 ∷ 0 ∷ 50 ∷ 0 ∷ 32
    ∷ 0 ∷ 1 ∷ 1 ∷ 1
    ∷ 2 ∷ 2 ∷ 3 ∷ 1
    ∷ 3 ∷ 2 ∷ 0 ∷ 2 ∷ []

-- one switch, no cable
unfoldable pub one : List ℕ
one = 85 ∷ 68 ∷ 82 ∷ 0 ∷ 1 ∷ 0 ∷ 1 ∷ 0 ∷ 0 ∷ 0 ∷ 0 ∷ 0 ∷ 0 ∷ 0 ∷ 7 ∷ 0 ∷ 0 ∷ []

-- UIDs 1 and 2, cables 1–1 and 2–2
unfoldable pub pair : List ℕ
pair = 85 ∷ 68 ∷ 82 ∷ 0 ∷ 1 ∷ 0 ∷ 2 ∷ 0 ∷ 2
    ∷ 0 ∷ 0 ∷ 0 ∷ 0 ∷ 0 ∷ 1 ∷ 0 ∷ 0
    ∷ 0 ∷ 0 ∷ 0 ∷ 0 ∷ 0 ∷ 2 ∷ 0 ∷ 0
    ∷ 0 ∷ 1 ∷ 1 ∷ 1 ∷ 0 ∷ 2 ∷ 1 ∷ 2 ∷ []

-- records out of UID order: 1, 9 and 5, a cable between each two
unfoldable pub triangle : List ℕ
triangle = 85 ∷ 68 ∷ 82 ∷ 0 ∷ 1 ∷ 0 ∷ 3 ∷ 0 ∷ 3
    ∷ 0 ∷ 0 ∷ 0 ∷ 0 ∷ 0 ∷ 1 ∷ 0 ∷ 0
    ∷ 0 ∷ 0 ∷ 0 ∷ 0 ∷ 0 ∷ 9 ∷ 0 ∷ 0
    ∷ 0 ∷ 0 ∷ 0 ∷ 0 ∷ 0 ∷ 5 ∷ 0 ∷ 0
    ∷ 0 ∷ 1 ∷ 1 ∷ 1 ∷ 0 ∷ 2 ∷ 2 ∷ 1 ∷ 1 ∷ 2 ∷ 2 ∷ 2 ∷ []

-- three UIDs: 2^47 + 2, 2, which differs from it in bit 47 alone, and 3, which differs from that in bit 0 alone.
-- The first has hosts on ports 1 and 12; a cable joins the last two at ports 12 and 3; the first is a component by itself.
unfoldable pub twins : List ℕ
twins = 85 ∷ 68 ∷ 82 ∷ 0 ∷ 1 ∷ 0 ∷ 3 ∷ 0 ∷ 1
    ∷ 128 ∷ 0 ∷ 0 ∷ 0 ∷ 0 ∷ 2 ∷ 16 ∷ 2
    ∷ 0 ∷ 0 ∷ 0 ∷ 0 ∷ 0 ∷ 2 ∷ 0 ∷ 0
    ∷ 0 ∷ 0 ∷ 0 ∷ 0 ∷ 0 ∷ 3 ∷ 0 ∷ 2
    ∷ 1 ∷ 12 ∷ 2 ∷ 3 ∷ []

-- UIDs 1, 3, 2 and 4 in this order: 4 has two neighbours at level 1, 3 by its port 1 and 2 by its port 2
unfoldable pub diamond : List ℕ
diamond = 85 ∷ 68 ∷ 82 ∷ 0 ∷ 1 ∷ 0 ∷ 4 ∷ 0 ∷ 4
    ∷ 0 ∷ 0 ∷ 0 ∷ 0 ∷ 0 ∷ 1 ∷ 0 ∷ 0
    ∷ 0 ∷ 0 ∷ 0 ∷ 0 ∷ 0 ∷ 3 ∷ 0 ∷ 0
    ∷ 0 ∷ 0 ∷ 0 ∷ 0 ∷ 0 ∷ 2 ∷ 0 ∷ 0
    ∷ 0 ∷ 0 ∷ 0 ∷ 0 ∷ 0 ∷ 4 ∷ 0 ∷ 0
    ∷ 0 ∷ 1 ∷ 1 ∷ 1
    ∷ 0 ∷ 2 ∷ 2 ∷ 1
    ∷ 1 ∷ 2 ∷ 3 ∷ 1
    ∷ 2 ∷ 2 ∷ 3 ∷ 2 ∷ []
