-- One spanning tree for each connected component, and the up end of each cable.
use Rattle.std.specs.Prelude.{ℕ, suc, zero, ◌*◌, Bool, true, false, cond, nat_eq, nat_lt}
use Rattle.topology_rules.specs.Count.{both, lower, any, least, first}
use Rattle.topology_rules.specs.Net.{Net, target, live}

module _ (n : Net) where
  -- t is reached from s over at most m cables
  unfoldable pub within : ℕ → ℕ → ℕ → Bool
  within zero s t = nat_eq s t
  within (suc m) s t =
      elim (nat_eq s t) [
        | true ↦ true
        | false ↦ any n.channels (λ ch. elim (nat_eq (n.source ch) s) [ true ↦ within m (target n ch) t | false ↦ false ])
      ]

  -- s and t are in one component
  abbrev pub joined : ℕ → ℕ → Bool
  joined s t = within n.switches s t

  abbrev pub lower_uid : ℕ → ℕ → Bool
  lower_uid s t = nat_lt (n.uid s) (n.uid t)

  -- root of a component: its switch of lowest UID
  unfoldable pub root : ℕ → ℕ
  root s = first n.switches (joined s) lower_uid

  -- level: the fewest cables to that root
  unfoldable pub level : ℕ → ℕ
  level s = least n.switches 0 (λ m. within m s (root s))

  -- channel ch leads from s to a neighbour one level lower
  abbrev pub rises : ℕ → ℕ → Bool
  rises s ch = both (nat_eq (n.source ch) s) (nat_eq (suc (level (target n ch))) (level s))

  -- the lower UID at its far end, then the lower port at the child
  abbrev pub preferred : ℕ → ℕ → Bool
  preferred a b = lower (n.uid (target n a)) (n.out_port a) (n.uid (target n b)) (n.out_port b)

  -- the channel over the parent cable, from s to its parent; past the last for a root
  unfoldable pub parent_channel : ℕ → ℕ
  parent_channel s = first n.channels (rises s) preferred

  -- s is the up end against t: the lower level; at equal levels the lower UID
  unfoldable pub above : ℕ → ℕ → Bool
  above s t = lower (level s) (n.uid s) (level t) (n.uid t)

  -- crossing towards the up end is an up crossing
  unfoldable pub up : ℕ → Bool
  up ch = above (target n ch) (n.source ch)

  -- the switch at the up end of cable c
  unfoldable pub up_end : ℕ → ℕ
  up_end c = cond (up (2 * c)) (target n (2 * c)) (n.source (2 * c))

  -- the parent's number or 0
  unfoldable pub parent_number : ℕ → ℕ
  parent_number s = cond (live n (parent_channel s)) (n.number (target n (parent_channel s))) 0

  -- the child's port of the parent cable or 0
  unfoldable pub parent_port : ℕ → ℕ
  parent_port s = cond (live n (parent_channel s)) (n.out_port (parent_channel s)) 0
