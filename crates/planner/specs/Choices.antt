-- Which channel each switch keeps as the one to its parent.
use Rattle.std.specs.Prelude.{ℕ, suc, ◌*◌, ◌<◌, ◌≡◌, Bool, true, cond, List, Option, Some, None, IfSome, nat_eq, slice_index_or, set}
use Rattle.topology_rules.specs.Count.{both}
use Rattle.topology_rules.specs.Format.{switch_count, cable_count}
use Rattle.topology_rules.specs.Net.{Net, net_of, target, live}
use Rattle.planner_rules.specs.Tree.{level, preferred, parent_channel}

module _ (n : Net) where
  -- channel ch leads one level lower
  abbrev pub leads_up : ℕ → Bool
  leads_up ch = nat_eq (suc (level n (target n ch))) (level n (n.source ch))

  -- channel ch takes the place of the one kept so far
  abbrev pub improves : Option ℕ → ℕ → Bool
  improves None ch = true
  improves (Some kept) ch = preferred n ch kept

  -- the switch that channel ch leaves keeps it where it leads up and is the best so far
  abbrev pub chosen_over : ℕ → List (Option ℕ) → List (Option ℕ)
  chosen_over ch l = let s = n.source ch in cond (both (leads_up ch) (improves (slice_index_or l s None) ch)) (set l s (Some ch)) l

  -- the channel to the parent of switch s; none for a root
  abbrev pub parent_of : ℕ → Option ℕ
  parent_of s = cond (live n (parent_channel n s)) (Some (parent_channel n s)) None

module _ (d : List ℕ) where
  -- what the switches of description d keep are channels
  abbrev pub Channels : List (Option ℕ) → Type 0
  Channels l = (s : ℕ) → s < switch_count d → IfSome (slice_index_or l s None) (λ ch. ch < 2 * cable_count d)

  -- l holds the channel to the parent of each of them
  abbrev pub Finds : List (Option ℕ) → Type 0
  Finds l = (s : ℕ) → s < switch_count d → slice_index_or l s None ≡ parent_of (net_of d) s
