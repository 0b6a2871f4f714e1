-- Demand 2 on one page: tree, directions, legal routes, entries and tables are as the rules say, of every well_formed net. The printed plan has its own page, PrintLaws.antt.
use mathlib.Core.Path.{◌≡◌}
use mathlib.Core.Logic.{◌⊎◌, ◌↔◌, ◌≢◌}
use mathlib.Core.Bool.{not}
use mathlib.Core.List.{List, ◌∷◌, Memᴰ}
use Prim.Native.Nat.{ℕ, suc, ◌+◌, ◌*◌, ◌%◌, ◌≤◌, ◌<◌, ◌^◌}
use lib.ListN.{get_or, length}
use lib.Dec.{T}
use Rattle.topology_rules.specs.Count.{bit}
use Rattle.topology_rules.specs.Check.{verdict}
use Rattle.topology_rules.specs.Net.{Net, WellFormed, net_of, target, in_port, back, host, delivers, leaving}
use Rattle.topology_rules.specs.Accepted.{Accepted}
use Rattle.topology_rules.specs.Refusals.{Returned}
use Rattle.topology_rules.specs.Edit.{find}
use Rattle.topology_rules.specs.EditRules.{Named}
use Rattle.topology_rules.proofs.Laws.{accepted_well_formed, OutcomeLaws}
use Rattle.planner_rules.specs.Tree.{within, joined, root, level, above, up, up_end, parent_channel, parent_number, parent_port}
use Rattle.planner_rules.specs.Routes.{Arrival, free, bound, after, way, far, legal_length}
use Rattle.planner_rules.specs.Table.{holder, destination, good, attached, arrival, begins, entry, table_of, table_verdict, table, TableWrong}
use Rattle.planner_rules.specs.Rules.{Once, Walk, Parent, Downs, UpThenDown, Legal, Shortest, Leaves, Delivers, Attached, Arrives, Addresses, Good, Holds}
use Rattle.planner_rules.proofs.Walks.{within_walk, walk_within, joined_exactly, short_walk, joined_refl, joined_sym, joined_trans}
use Rattle.planner_rules.proofs.Levels.{root_switch, root_joined, root_lowest, root_same, level_shortest, within_level, level_bound, level_zero, at_root, below_root, channel_root, level_rise, level_fall}
use Rattle.planner_rules.proofs.Order.{above_T, T_above, up_above, above_irreflexive, above_transitive, above_asymmetric, above_total, up_back}
use Rattle.planner_rules.proofs.Parents.{parent_is, parent_none, one_parent, parent_named, root_named, rises_up}
use Rattle.planner_rules.proofs.Climbs.{route}
use Rattle.planner_rules.proofs.Descents.{up_end_found, bound_descends, legal_once}
use Rattle.planner_rules.proofs.Heights.{legal_short}
use Rattle.planner_rules.proofs.UpDown.{free_exactly, bound_exactly}
use Rattle.planner_rules.proofs.Ways.{way_legal}
use Rattle.planner_rules.proofs.Lengths.{length_shortest, length_rule, shortest_length, length_here, begins_rule}
use Rattle.planner_rules.proofs.Ports.{delivers_exactly, leaves_exactly, attached_exactly, cable_or_out}
use Rattle.planner_rules.proofs.Addresses.{held_exactly, held_by, good_exactly, addresses_one, address_range}
use Rattle.planner_rules.proofs.Arrivals.{arrival_inside, attached_arrives, arrives_so}
use Rattle.planner_rules.proofs.Entries.{arrives, entry_lt, determined}
use Rattle.planner_rules.proofs.Holding.{holds_exactly, holds_none, unattached_discards, bad_discards, no_way_discards, apart_discards, way_serves, bound_down, home_exactly, own_address, arrival_decides}
use Rattle.planner_rules.proofs.Tables.{table_length, table_place, table_narrow}
use Rattle.planner_rules.proofs.TableJob.{table_returned, table_allowed, table_outcome}

pub record TreeLaws (n : Net) : Type 0 where
  -- components: switches joined by walks
  pub within_walks : (m s t : ℕ) → T (within n m s t) ↔ ((r : List ℕ) × (length r ≤ m) × Walk n s r t)
  pub joined_walks : (s t : ℕ) → s < n.switches → T (joined n s t) ↔ ((r : List ℕ) × Walk n s r t)
  pub short_walks : (s t : ℕ) (r : List ℕ) → s < n.switches → Walk n s r t → (q : List ℕ) × (length q < n.switches) × Walk n s q t
  pub reflexive : (s : ℕ) → T (joined n s s)
  pub symmetric : (s t : ℕ) → T (joined n s t) → T (joined n t s)
  pub transitive : (s t u : ℕ) → s < n.switches → T (joined n s t) → T (joined n t u) → T (joined n s u)
  -- root of a component: its switch of lowest UID
  pub root_a_switch : (s : ℕ) → s < n.switches → root n s < n.switches
  pub root_of_component : (s : ℕ) → s < n.switches → T (joined n s (root n s))
  pub root_has_lowest : (s t : ℕ) → s < n.switches → T (joined n s t) → n.uid (root n s) ≤ n.uid t
  pub one_root : (s t : ℕ) → s < n.switches → T (joined n s t) → root n s ≡ root n t
  -- level: the fewest cables to that root; the root has level 0
  pub level_is_shortest : (s : ℕ) → s < n.switches
      → ((r : List ℕ) × (length r ≡ level n s) × Walk n s r (root n s)) × ((q : List ℕ) → Walk n s q (root n s) → level n s ≤ length q)
  pub within_level : (s k : ℕ) → s < n.switches → T (within n k s (root n s)) ↔ (level n s ≤ k)
  pub level_small : (s : ℕ) → s < n.switches → level n s < n.switches
  pub level_of_root : (s : ℕ) → s < n.switches → (level n s ≡ 0) ↔ (s ≡ root n s)
  pub across : (ch : ℕ) → ch < n.channels
      → (root n (n.source ch) ≡ root n (target n ch)) × (level n (n.source ch) ≤ suc (level n (target n ch))) × (level n (target n ch) ≤ suc (level n (n.source ch)))
  -- parent: the neighbour one level lower with the lowest UID, by the lowest port; a root has none
  pub parent : (s : ℕ) → s < n.switches → s ≢ root n s → Parent n s (parent_channel n s) × T (up n (parent_channel n s))
  pub one_parent : (s a b : ℕ) → Parent n s a → Parent n s b → a ≡ b
  pub no_parent : (s : ℕ) → s < n.switches → s ≡ root n s → parent_channel n s < n.channels → ⊥
  -- the parent's number and the child's port towards it; 0 and 0 for a root
  pub parent_named : (s : ℕ) → s < n.switches → s ≢ root n s
      → (parent_number n s ≡ n.number (target n (parent_channel n s))) × (parent_port n s ≡ n.out_port (parent_channel n s))
  pub root_named : (s : ℕ) → s < n.switches → s ≡ root n s → (parent_number n s ≡ 0) × (parent_port n s ≡ 0)
  -- up end: the lower level, at equal levels the lower UID; a strict total order, so each cable has one
  pub above_is : (s t : ℕ) → T (above n s t) ↔ ((level n s < level n t) ⊎ ((level n s ≡ level n t) × (n.uid s < n.uid t)))
  pub up_is : (ch : ℕ) → up n ch ≡ above n (target n ch) (n.source ch)
  pub never_above_itself : (s : ℕ) → T (above n s s) → ⊥
  pub above_chain : (s t u : ℕ) → T (above n s t) → T (above n t u) → T (above n s u)
  pub not_both : (s t : ℕ) → T (above n s t) → T (above n t s) → ⊥
  pub one_above : (s t : ℕ) → s < n.switches → t < n.switches → s ≢ t → T (above n s t) ⊎ T (above n t s)
  pub one_up : (ch : ℕ) → ch < n.channels → up n (back ch) ≡ not (up n ch)
  pub up_end_is : (c : ℕ) → 2 * c < n.channels
      → ((up_end n c ≡ target n (2 * c)) × T (above n (target n (2 * c)) (n.source (2 * c))))
      ⊎ ((up_end n c ≡ n.source (2 * c)) × T (above n (n.source (2 * c)) (target n (2 * c))))

pub record RouteLaws (n : Net) : Type 0 where
  -- a legal route goes up and then down; for a packet that has come down it goes down only
  pub free_routes : (s t : ℕ) (r : List ℕ) → Legal n free s r t ↔ UpThenDown n s r t
  pub bound_routes : (s t : ℕ) (r : List ℕ) → Legal n bound s r t ↔ (Downs n r × Walk n s r t)
  -- a legal route from each switch to each other of its component, no longer than the sum of the two levels
  pub some_route : (s t : ℕ) → s < n.switches → T (joined n s t) → (r : List ℕ) × (length r ≤ level n s + level n t) × Legal n free s r t
  -- they follow one strict order, cross no channel twice, and are short
  pub bounds_descend : (s t : ℕ) (r : List ℕ) → Legal n bound s r t → (ch : ℕ) → Memᴰ ch r → T (above n (n.source ch) (target n ch))
  pub once : (k : Arrival) (s t : ℕ) (r : List ℕ) → Legal n k s r t → Once r
  pub no_longer : (k : Arrival) (s t : ℕ) (r : List ℕ) → Legal n k s r t → length r + 2 ≤ far n
  -- the search finds exactly the legal routes; by `no_longer` its bound is enough
  pub ways : (m : ℕ) (k : Arrival) (s t : ℕ) → T (way n m k s t) ↔ ((r : List ℕ) × (length r ≤ m) × Legal n k s r t)
  -- the legal length is the length of a shortest legal remainder, and far exactly where there is none
  pub length_known : (k : Arrival) (s t : ℕ) → (legal_length n k s t < far n) ↔ ((r : List ℕ) × Legal n k s r t)
  pub length_reached : (k : Arrival) (s t : ℕ) → legal_length n k s t < far n → (r : List ℕ) × Shortest n k s r t × (length r ≡ legal_length n k s t)
  pub length_of_shortest : (k : Arrival) (s t : ℕ) (r : List ℕ) → Shortest n k s r t → length r ≡ legal_length n k s t
  pub length_at_home : (k : Arrival) (t : ℕ) → legal_length n k t t ≡ 0
  pub beginning : (k : Arrival) (s t ch : ℕ) → n.source ch ≡ s → T (begins n k s t ch) ↔ ((r : List ℕ) × Shortest n k s (ch ∷ r) t)

pub record PortLaws (n : Net) : Type 0 where
  -- a number is held exactly if some switch has it, and by that switch
  pub held : (k : ℕ) → (holder n k < n.switches) ↔ ((s : ℕ) × (s < n.switches) × (n.number s ≡ k))
  pub held_by : (k s : ℕ) → s < n.switches → n.number s ≡ k → holder n k ≡ s
  -- a good address names one switch and one port of it, which is 0 or a host port; it is from 16 to 1,039
  pub good_addresses : (a : ℕ) → T (good n a) ↔ Good n a
  pub names_one : (a t q : ℕ) → Addresses n a t q → (t ≡ destination n a) × (q ≡ a % 16)
  pub in_range : (a t q : ℕ) → Addresses n a t q → (16 ≤ a) × (a ≤ 1039)
  -- port 0 and host ports deliver; a channel leaves by a port that does not, and one at most; attached is a port of either kind
  pub delivering : (s p : ℕ) → T (delivers n s p) ↔ Delivers n s p
  pub leaving_by : (s p c : ℕ) → Leaves n s p c ↔ ((leaving n s p ≡ c) × (c < n.channels))
  pub cable_or_out : (s p c : ℕ) → Leaves n s p c → Delivers n s p → ⊥
  pub attaching : (s i : ℕ) → T (attached n s i) ↔ Attached n s i
  -- by an attached port packets arrive in one way: free from port 0 and host ports, over a cable as the crossing says
  pub arriving : (s i : ℕ) → Attached n s i → Arrives n s i (arrival n s i)
  pub one_arrival : (s i : ℕ) (k : Arrival) → Arrives n s i k → Attached n s i × (k ≡ arrival n s i)
  pub free_inside : (s i : ℕ) → Delivers n s i → arrival n s i ≡ free
  pub over_cables : (ch : ℕ) → ch < n.channels → arrival n (target n ch) (in_port n ch) ≡ after (up n ch)

pub record EntryLaws (n : Net) : Type 0 where
  -- an entry is exactly the set that the rules say, and they leave one number
  pub holds : (s i a p : ℕ) → T (bit (entry n s i a) p) ↔ Holds n s i a p
  pub no_other_bits : (s i a : ℕ) → entry n s i a < 2 ^ 13
  pub one_entry : (s i a x y : ℕ) → x < 2 ^ 16 → y < 2 ^ 16
      → ((p : ℕ) → p < 16 → T (bit x p) ↔ Holds n s i a p) → ((p : ℕ) → p < 16 → T (bit y p) ↔ Holds n s i a p) → x ≡ y
  -- above 0 wherever a legal remainder exists; 0 where no port is held
  pub serves : (s i a t q : ℕ) (k : Arrival) → Arrives n s i k → Addresses n a t q → (r : List ℕ) → Legal n k s r t → 0 < entry n s i a
  pub discards : (s i a : ℕ) → ((p : ℕ) → Holds n s i a p → ⊥) → entry n s i a ≡ 0
  -- so 0 for an unattached port, for an address that is not good, for another component, and where no legal remainder exists
  pub unattached : (s i a : ℕ) → (Attached n s i → ⊥) → entry n s i a ≡ 0
  pub not_good : (s i a : ℕ) → (Good n a → ⊥) → entry n s i a ≡ 0
  pub apart : (s i a t q : ℕ) → Addresses n a t q → T (not (joined n s t)) → entry n s i a ≡ 0
  pub no_way : (s i a t q : ℕ) (k : Arrival) → Arrives n s i k → Addresses n a t q → ((r : List ℕ) → Legal n k s r t → ⊥) → entry n s i a ≡ 0
  -- what has come down never goes up again
  pub never_up : (s i a p c : ℕ) → Arrives n s i bound → T (bit (entry n s i a) p) → Leaves n s p c → T (not (up n c))
  -- at the destination the addressed port alone; what a host sends to its own address comes back to it
  pub at_home : (s i a q : ℕ) → Attached n s i → Addresses n a s q → entry n s i a ≡ 2 ^ q
  pub to_itself : (s q : ℕ) → s < n.switches → T (host n s q) → entry n s q (16 * n.number s + q) ≡ 2 ^ q
  -- of the incoming port only the arrival counts
  pub by_arrival : (s i j a : ℕ) (k : Arrival) → Arrives n s i k → Arrives n s j k → entry n s i a ≡ entry n s j a

pub record TableLaws (n : Net) : Type 0 where
  -- 13 rows of 1,040 entries of 16 bits, the one for incoming port i and address a at place 1,040 × i + a
  pub size : (s : ℕ) → length (table_of n s) ≡ 13520
  pub places : (s i a : ℕ) → i < 13 → a < 1040 → get_or (table_of n s) (1040 * i + a) 0 ≡ entry n s i a
  pub narrow : (s j : ℕ) → get_or (table_of n s) j 0 < 2 ^ 16

-- The job that writes the table of the switch with UID u.
pub record TableJobLaws (d : List ℕ) (u : ℕ) : Type 0 where
  -- the first refusal that applies, where room entries are lent; and what 0 says
  pub returns : (room : ℕ) → Returned (TableWrong d u room) (table_verdict d u room)
  pub accepts : (room : ℕ) → (table_verdict d u room).number ≡ 0 → Accepted d × Named d u (find d u) × (13520 ≤ room)
  -- refused, it changes nothing; else the table stands at the start of what is lent, and the rest is as it was
  pub leaves : (out : List ℕ) → OutcomeLaws (table_verdict d u (length out)) 0 (table_of (net_of d) (find d u)) out (table d u out)

pub table_job_laws : (d : List ℕ) (u : ℕ) → TableJobLaws d u
table_job_laws d u = record { returns = table_returned d u; accepts = table_allowed d u; leaves = table_outcome d u }

module _ (n : Net) (w : WellFormed n) where
  pub tree_laws : TreeLaws n
  tree_laws = record {
    within_walks = λ m s t. (within_walk n m s t, walk_within n m s t);
    joined_walks = joined_exactly n w;
    short_walks = short_walk n w;
    reflexive = joined_refl n w;
    symmetric = joined_sym n w;
    transitive = joined_trans n w;
    root_a_switch = root_switch n w;
    root_of_component = root_joined n w;
    root_has_lowest = root_lowest n w;
    one_root = root_same n w;
    level_is_shortest = level_shortest n w;
    within_level = within_level n w;
    level_small = level_bound n w;
    level_of_root = λ s h. (level_zero n w s h, at_root n w s h);
    across = λ ch h. (channel_root n w ch h, level_rise n w ch h, level_fall n w ch h);
    parent = λ s h d. let p = parent_is n w s h (below_root n w s h d) in (p, rises_up n w s (parent_channel n s) p.rising);
    one_parent = one_parent n w;
    no_parent = λ s h e. parent_none n w s (at_root n w s h e);
    parent_named = λ s h d. parent_named n w s h (below_root n w s h d);
    root_named = λ s h e. root_named n w s (at_root n w s h e);
    above_is = λ s t. (above_T n s t, T_above n s t);
    up_is = up_above n;
    never_above_itself = above_irreflexive n;
    above_chain = above_transitive n;
    not_both = above_asymmetric n;
    one_above = above_total n w;
    one_up = up_back n w;
    up_end_is = up_end_found n w;
  }

  pub route_laws : RouteLaws n
  route_laws = record {
    free_routes = free_exactly n;
    bound_routes = bound_exactly n;
    some_route = route n w;
    bounds_descend = λ s t r p ch m. (bound_descends n w s t r p ch m).0;
    once = legal_once n w;
    no_longer = legal_short n w;
    ways = way_legal n;
    length_known = length_rule n w;
    length_reached = length_shortest n;
    length_of_shortest = shortest_length n w;
    length_at_home = length_here n;
    beginning = λ k s t ch e. begins_rule n w k s t ch (λ l. e);
  }

  pub port_laws : PortLaws n
  port_laws = record {
    held = held_exactly n w;
    held_by = held_by n w;
    good_addresses = good_exactly n w;
    names_one = addresses_one n w;
    in_range = address_range n w;
    delivering = delivers_exactly n;
    leaving_by = leaves_exactly n w;
    cable_or_out = cable_or_out n w;
    attaching = attached_exactly n w;
    arriving = attached_arrives n w;
    one_arrival = arrives_so n w;
    free_inside = arrival_inside n w;
    over_cables = arrives n w;
  }

  pub entry_laws : EntryLaws n
  entry_laws = record {
    holds = holds_exactly n w;
    no_other_bits = entry_lt n w;
    one_entry = λ s i a. determined (Holds n s i a);
    serves = way_serves n w;
    discards = holds_none n w;
    unattached = unattached_discards n w;
    not_good = bad_discards n w;
    apart = apart_discards n w;
    no_way = no_way_discards n w;
    never_up = bound_down n w;
    at_home = home_exactly n w;
    to_itself = own_address n w;
    by_arrival = arrival_decides n w;
  }

  pub table_laws : TableLaws n
  table_laws = record { size = table_length n; places = table_place n; narrow = table_narrow n w }

-- every accepted description's net has them all
pub demand_2 : (d : List ℕ) → (verdict d).number ≡ 0 → TreeLaws (net_of d) × RouteLaws (net_of d) × EntryLaws (net_of d)
demand_2 d e = let w = accepted_well_formed d e in (tree_laws (net_of d) w, route_laws (net_of d) w, entry_laws (net_of d) w)

pub demand_2_tables : (d : List ℕ) → (verdict d).number ≡ 0 → PortLaws (net_of d) × TableLaws (net_of d)
demand_2_tables d e = let w = accepted_well_formed d e in (port_laws (net_of d) w, table_laws (net_of d) w)
