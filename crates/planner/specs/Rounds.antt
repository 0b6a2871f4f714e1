-- What a pass over the channels does to the roots and to the levels, step by step.
use Rattle.std.specs.Prelude.{ℕ, suc, zero, ◌+◌, ◌<◌, ◌≤◌, ◌≡◌, Bool, not, cond, List, length, Option, Some, None, is_some, slice_index, slice_index_or, slice_set, nat_eq, nat_lt, nat_le}
use Rattle.std.specs.Option.{option_eq}
use Rattle.topology_rules.specs.Count.{both}
use Rattle.topology_rules.specs.Format.{switch_count}
use Rattle.topology_rules.specs.Net.{Net, net_of, target}
use Rattle.planner_rules.specs.Tree.{level}
use Rattle.planner.specs.Rows.{Below}

-- the steps 0 to k - 1, one after the other
unfoldable pub in_turn : {A : Type 0} → ℕ → (ℕ → A → A) → A → A
in_turn zero step f = f
in_turn (suc k) step f = step k (in_turn k step f)

-- 64 numbers, of which the first k, at most 64, are below k
pub record Row (k : ℕ) (f : List ℕ) : Type 0 where
  pub whole : length f ≡ 64
  pub few : k ≤ 64
  pub low : Below k k f

module _ (n : Net) where
  -- by the roots f the root of b has a lower UID than that of a
  abbrev pub lowers : ℕ → ℕ → List ℕ → Bool
  lowers a b f = nat_lt (n.uid (slice_index f b)) (n.uid (slice_index f a))

  -- then a takes it over
  abbrev pub lifted : ℕ → ℕ → List ℕ → List ℕ
  lifted a b f = cond (lowers a b f) (slice_set f a (slice_index f b)) f

  -- ... over channel ch, from its source in a to its target in b
  abbrev pub lifted_over : ℕ → List ℕ → List ℕ
  lifted_over ch f = lifted (n.source ch) (target n ch) f

  -- in a pass that began with the roots f it is taken over at channel ch
  abbrev pub lowers_over : List ℕ → ℕ → Bool
  lowers_over f ch = lowers (n.source ch) (target n ch) (in_turn ch lifted_over f)

-- switch s has level k
abbrev pub has_level : List (Option ℕ) → ℕ → ℕ → Bool
has_level f s k = option_eq nat_eq (slice_index_or f s None) (Some k)

-- switch s has a level
abbrev pub is_settled : List (Option ℕ) → ℕ → Bool
is_settled f s = is_some (slice_index_or f s None)

-- in round k a takes the level k + 1 where it has none and b has level k
abbrev pub settled : ℕ → ℕ → ℕ → List (Option ℕ) → List (Option ℕ)
settled k a b f = cond (both (has_level f b k) (not (is_settled f a))) (slice_set f a (Some (k + 1))) f

-- ... over channel ch
abbrev pub settled_over : Net → ℕ → ℕ → List (Option ℕ) → List (Option ℕ)
settled_over n k ch f = settled k (n.source ch) (target n ch) f

-- the level of a switch once the rounds before k are done; none while it is not settled
abbrev pub settled_by : Net → ℕ → ℕ → Option ℕ
settled_by n k s = cond (nat_le (level n s) k) (Some (level n s)) None

-- 64 places, in which each switch of description d has its level
pub record Leveled (d : List ℕ) (f : List (Option ℕ)) : Type 0 where
  pub whole : length f ≡ 64
  pub few : switch_count d ≤ 64
  pub each : (s : ℕ) → s < switch_count d → slice_index_or f s None ≡ Some (level (net_of d) s)

-- 64 levels, each as it stands then
pub record Settled (n : Net) (k : ℕ) (f : List (Option ℕ)) : Type 0 where
  pub whole : length f ≡ 64
  pub each : (s : ℕ) → s < n.switches → slice_index_or f s None ≡ settled_by n k s
