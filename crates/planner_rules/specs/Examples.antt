-- Trees, routes, entries and printed plans: examples that the checker computes.
use Rattle.std.specs.Prelude.{ℕ, ◌+◌, ◌*◌, List, [], ◌∷◌, ◌++◌, true, ◌≡◌, refl, set}
use Rattle.topology_rules.specs.Count.{any, least, first, count, bits, those}
use Rattle.topology_rules.specs.Check.{verdict, switches_from, cables_from}
use Rattle.topology_rules.specs.Net.{Net, net_of, leaving}
use Rattle.topology_rules.specs.Edit.{find, find_verdict, records}
use Rattle.topology_rules.specs.Case.{Case, case, all_right, shown}
use Rattle.topology_rules.specs.Samples.{r5, pair, triangle, twins, diamond}
use Rattle.planner_rules.specs.Tree.{within, root, level, above, up, parent_channel, up_end, parent_number, parent_port}
use Rattle.planner_rules.specs.Routes.{free, bound, way, legal_length}
use Rattle.planner_rules.specs.Table.{holder, arrival, begins, entry, entry_at, table_verdict}
use Rattle.planner_rules.specs.Stand as stand
use Rattle.planner_rules.specs.Stand.{Stands, stands}
use Rattle.planner_rules.specs.Printed.{digits, hex, fields, plan_text, printed}

abbrev ring : Net
ring = net_of r5

abbrev up_number : Net → ℕ → ℕ
up_number n c = n.number (up_end n c)

unfoldable pub trees : List Case
trees =
    -- R5's parents, parent ports and up ends
    case 1 (parent_number ring 0 ∷ parent_number ring 1 ∷ parent_number ring 2 ∷ parent_number ring 3 ∷ parent_number ring 4 ∷ []) (0 ∷ 1 ∷ 2 ∷ 5 ∷ 1 ∷ [])
    ∷ case 2 (parent_port ring 0 ∷ parent_port ring 1 ∷ parent_port ring 2 ∷ parent_port ring 3 ∷ parent_port ring 4 ∷ []) (0 ∷ 1 ∷ 1 ∷ 2 ∷ 2 ∷ [])
    ∷ case 3 (up_number ring 0 ∷ up_number ring 1 ∷ up_number ring 2 ∷ up_number ring 3 ∷ up_number ring 4 ∷ []) (1 ∷ 2 ∷ 3 ∷ 5 ∷ 1 ∷ [])
    -- at equal levels the lower UID is up, not the earlier record; numbers go by UID, not by record
    ∷ case 4 (up_end (net_of triangle) 2 ∷ (net_of triangle).number 1 ∷ (net_of triangle).number 2 ∷ []) (2 ∷ 3 ∷ 2 ∷ [])
    -- of two cables to the parent the one at the child's lowest port
    ∷ case 5 (parent_port (net_of pair) 1 ∷ parent_port (net_of (set (set pair 28 2) 32 1)) 1 ∷ []) (1 ∷ 1 ∷ [])
    -- of two neighbours one level lower the one of lowest UID, not of lowest record or port; both begin a shortest route to the root
    ∷ case 6 (parent_number (net_of diamond) 3 ∷ parent_port (net_of diamond) 3 ∷ entry (net_of diamond) 3 0 16 ∷ []) (2 ∷ 2 ∷ 6 ∷ [])
    -- two components: each root is the lowest by all 48 bits of its UID
    ∷ case 7 (root (net_of twins) 0 ∷ root (net_of twins) 1 ∷ root (net_of twins) 2 ∷ level (net_of twins) 2 ∷ parent_number (net_of twins) 2 ∷ []) (0 ∷ 1 ∷ 1 ∷ 1 ∷ 1 ∷ [])
    ∷ []

pub trees_right : all_right trees ≡ true
unfolding trees r5 pair triangle twins diamond net_of leaving within root level above up parent_channel up_end parent_number parent_port way legal_length holder arrival begins entry any least first count bits
trees_right = refl

-- the entry at record s
abbrev at : ℕ → ℕ → ℕ → ℕ
at s i a = entry ring s i a

unfoldable pub tables : List Case
tables =
    -- from the host port as from port 0; from an unattached port nothing; a host to its own address gets the packet back
    case 1 (at 4 5 53 ∷ at 4 0 53 ∷ at 4 3 53 ∷ at 4 13 53 ∷ at 2 5 53 ∷ []) (4 ∷ 4 ∷ 0 ∷ 0 ∷ 32 ∷ [])
    -- the switch's own processor; a port with neither host nor 0; reserved and unknown addresses
    ∷ case 2 (at 0 0 48 ∷ at 2 0 48 ∷ at 0 0 49 ∷ at 0 0 5 ∷ at 0 0 101 ∷ at 0 0 1040 ∷ at 0 0 65589 ∷ []) (2 ∷ 1 ∷ 0 ∷ 0 ∷ 0 ∷ 0 ∷ 0 ∷ [])
    -- a bound arrival goes on down, never up
    ∷ case 3 (at 1 1 53 ∷ at 1 1 16 ∷ at 4 2 64 ∷ at 4 2 16 ∷ []) (4 ∷ 0 ∷ 2 ∷ 0 ∷ [])
    -- port 12, another component, and numbers compared whole: 257 is no switch
    ∷ case 4 (entry (net_of twins) 1 0 32 ∷ entry (net_of twins) 1 0 48 ∷ entry (net_of twins) 0 12 60 ∷ entry (net_of twins) 0 1 49 ∷ holder ring 257 ∷ holder ring 0 ∷ []) (4096 ∷ 0 ∷ 4096 ∷ 2 ∷ 5 ∷ 5 ∷ [])
    -- the place of an entry: 1,040 × incoming port + address
    ∷ case 5 (entry_at ring 4 (1040 * 0 + 53) ∷ entry_at ring 0 (1040 * 2 + 53) ∷ entry_at ring 2 (1040 * 1 + 53) ∷ []) (4 ∷ 2 ∷ 32 ∷ [])
    -- legal lengths: W4 by a packet that is bound has no way, the plain way has two cables
    ∷ case 6 (legal_length ring free 4 2 ∷ legal_length ring bound 4 2 ∷ legal_length ring bound 4 3 ∷ least 5 0 (λ m. within ring m 4 2) ∷ []) (3 ∷ 10 ∷ 1 ∷ 2 ∷ [])
    -- 13 before 16, and the first 12 before both
    ∷ case 7 (shown (table_verdict r5 21 0) ++ shown (table_verdict r5 20 13519) ++ shown (table_verdict r5 20 13520) ++ shown (table_verdict (set r5 14 0) 21 0)) (13 ∷ 0 ∷ 16 ∷ 0 ∷ 0 ∷ 0 ∷ 7 ∷ 0 ∷ [])
    ∷ []

pub tables_right : all_right tables ≡ true
unfolding tables r5 pair twins verdict switches_from cables_from find table_verdict net_of leaving within root level above up way legal_length holder arrival begins entry any least first count bits
tables_right = refl

-- 0, level, parent and port; or a refusal's number and position
abbrev placed : Stands → List ℕ
placed (stand.at l p q) = 0 ∷ l ∷ p ∷ q ∷ []
placed (stand.refused v) = shown v

unfoldable pub standing : List Case
standing =
    -- a child, the root, and the switch of UID 40 in R5
    case 1 (placed (stands pair 2) ++ placed (stands pair 1) ++ placed (stands r5 40)) (0 ∷ 1 ∷ 1 ∷ 1 ∷ 0 ∷ 0 ∷ 0 ∷ 0 ∷ 0 ∷ 2 ∷ 5 ∷ 2 ∷ [])
    -- no switch of that UID; no description
    ∷ case 2 (placed (stands pair 3) ++ placed (stands [] 1)) (13 ∷ 0 ∷ 1 ∷ 0 ∷ [])
    ∷ []

pub standing_right : all_right standing ≡ true
unfolding standing stands r5 pair verdict switches_from cables_from find find_verdict net_of leaving within root level above up parent_channel parent_number parent_port any least first count
standing_right = refl

-- what R5 prints: plan 5 5, five switches, five cables
unfoldable pub r5_text : List ℕ
r5_text = 112 ∷ 108 ∷ 97 ∷ 110 ∷ 32 ∷ 53 ∷ 32 ∷ 53 ∷ 10
    ∷ 115 ∷ 119 ∷ 32 ∷ 49 ∷ 32 ∷ 48 ∷ 48 ∷ 48 ∷ 48 ∷ 48 ∷ 48 ∷ 48 ∷ 48 ∷ 48 ∷ 48 ∷ 48 ∷ 97 ∷ 32 ∷ 48 ∷ 32 ∷ 48 ∷ 10
    ∷ 115 ∷ 119 ∷ 32 ∷ 50 ∷ 32 ∷ 48 ∷ 48 ∷ 48 ∷ 48 ∷ 48 ∷ 48 ∷ 48 ∷ 48 ∷ 48 ∷ 48 ∷ 49 ∷ 52 ∷ 32 ∷ 49 ∷ 32 ∷ 49 ∷ 10
    ∷ 115 ∷ 119 ∷ 32 ∷ 51 ∷ 32 ∷ 48 ∷ 48 ∷ 48 ∷ 48 ∷ 48 ∷ 48 ∷ 48 ∷ 48 ∷ 48 ∷ 48 ∷ 49 ∷ 101 ∷ 32 ∷ 50 ∷ 32 ∷ 50 ∷ 10
    ∷ 115 ∷ 119 ∷ 32 ∷ 52 ∷ 32 ∷ 48 ∷ 48 ∷ 48 ∷ 48 ∷ 48 ∷ 48 ∷ 48 ∷ 48 ∷ 48 ∷ 48 ∷ 50 ∷ 56 ∷ 32 ∷ 50 ∷ 32 ∷ 53 ∷ 10
    ∷ 115 ∷ 119 ∷ 32 ∷ 53 ∷ 32 ∷ 48 ∷ 48 ∷ 48 ∷ 48 ∷ 48 ∷ 48 ∷ 48 ∷ 48 ∷ 48 ∷ 48 ∷ 51 ∷ 50 ∷ 32 ∷ 49 ∷ 32 ∷ 49 ∷ 10
    ∷ 108 ∷ 110 ∷ 32 ∷ 48 ∷ 32 ∷ 49 ∷ 10
    ∷ 108 ∷ 110 ∷ 32 ∷ 49 ∷ 32 ∷ 50 ∷ 10
    ∷ 108 ∷ 110 ∷ 32 ∷ 50 ∷ 32 ∷ 51 ∷ 10
    ∷ 108 ∷ 110 ∷ 32 ∷ 51 ∷ 32 ∷ 53 ∷ 10
    ∷ 108 ∷ 110 ∷ 32 ∷ 52 ∷ 32 ∷ 49 ∷ 10 ∷ []

-- what the twins print: plan 3 1, the switch of UID 2^47 + 2 last, one cable
unfoldable pub twins_text : List ℕ
twins_text = 112 ∷ 108 ∷ 97 ∷ 110 ∷ 32 ∷ 51 ∷ 32 ∷ 49 ∷ 10
    ∷ 115 ∷ 119 ∷ 32 ∷ 49 ∷ 32 ∷ 48 ∷ 48 ∷ 48 ∷ 48 ∷ 48 ∷ 48 ∷ 48 ∷ 48 ∷ 48 ∷ 48 ∷ 48 ∷ 50 ∷ 32 ∷ 48 ∷ 32 ∷ 48 ∷ 10
    ∷ 115 ∷ 119 ∷ 32 ∷ 50 ∷ 32 ∷ 48 ∷ 48 ∷ 48 ∷ 48 ∷ 48 ∷ 48 ∷ 48 ∷ 48 ∷ 48 ∷ 48 ∷ 48 ∷ 51 ∷ 32 ∷ 49 ∷ 32 ∷ 49 ∷ 10
    ∷ 115 ∷ 119 ∷ 32 ∷ 51 ∷ 32 ∷ 56 ∷ 48 ∷ 48 ∷ 48 ∷ 48 ∷ 48 ∷ 48 ∷ 48 ∷ 48 ∷ 48 ∷ 48 ∷ 50 ∷ 32 ∷ 48 ∷ 32 ∷ 48 ∷ 10
    ∷ 108 ∷ 110 ∷ 32 ∷ 48 ∷ 32 ∷ 49 ∷ 10 ∷ []

unfoldable pub prints : List Case
prints =
    case 1 (printed r5) r5_text
    -- refused 1 0; refused 12 1
    ∷ case 2 (printed []) (114 ∷ 101 ∷ 102 ∷ 117 ∷ 115 ∷ 101 ∷ 100 ∷ 32 ∷ 49 ∷ 32 ∷ 48 ∷ 10 ∷ [])
    ∷ case 3 (printed (set pair 32 1)) (114 ∷ 101 ∷ 102 ∷ 117 ∷ 115 ∷ 101 ∷ 100 ∷ 32 ∷ 49 ∷ 50 ∷ 32 ∷ 49 ∷ 10 ∷ [])
    -- all 48 bits of a UID; two components
    ∷ case 4 (printed twins) twins_text
    ∷ []

pub prints_right : all_right prints ≡ true
unfolding prints r5 r5_text pair twins twins_text verdict switches_from cables_from records those printed plan_text digits hex fields net_of leaving within root level above up parent_channel up_end parent_number holder any least first count
prints_right = refl
