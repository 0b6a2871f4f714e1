-- What a tree's places tell: r is the description as it was read, d as it is seen.
use Prim.Native.Nat.{ℕ, ◌*◌, ◌<◌}
use mathlib.Core.Path.{◌≡◌, refl, sym, ap, ◌∙◌}
use mathlib.Core.List.{List}
use mathlib.Core.Bool.{Bool, true, false, cond}
use borrow.Author.Tests.{ltb-true}
use Rattle.std.specs.Prelude.{Option, Some, None}
use Rattle.topology_rules.specs.Format.{cable_count}
use Rattle.topology_rules.specs.Net.{Net, net_of, target, live}
use Rattle.planner_rules.specs.Tree.{parent_channel, parent_number, parent_port, above, up, up_end}
use Rattle.planner.specs.Choices.{parent_of}

-- a channel is kept only where one is live
some_kept : (t : Bool) (p ch : ℕ) → cond t (Some p) None ≡ Some ch → (t ≡ true) × (p ≡ ch)
some_kept true p ch e = (refl, cc)
some_kept false p ch e = absurd cc

-- none is kept only where none is live
none_kept : (t : Bool) (p : ℕ) → cond t (Some p) None ≡ None → t ≡ false
none_kept true p e = absurd cc
none_kept false p e = refl

-- A root.
module _ (n : Net) (s : ℕ) {kept : Option ℕ} (said : kept ≡ parent_of n s) (is : kept ≡ None) where
  -- it has no channel up
  none : live n (parent_channel n s) ≡ false
  none = none_kept (live n (parent_channel n s)) (parent_channel n s) (sym said ∙ is)

  -- its parent's number is 0
  pub no_number : 0 ≡ parent_number n s
  unfolding parent_number
  no_number = rw none refl

  -- its port is 0
  pub no_port : 0 ≡ parent_port n s
  unfolding parent_port
  no_port = rw none refl

-- A switch with channel ch to its parent.
module _ (r d : List ℕ) (seen : r ≡ d) (s : ℕ) {kept : Option ℕ} {ch : ℕ} (said : kept ≡ parent_of (net_of d) s) (is : kept ≡ Some ch) where
  -- the net
  abbrev n : Net
  n = net_of d

  -- it is the one of the rules
  found : (live n (parent_channel n s) ≡ true) × (parent_channel n s ≡ ch)
  found = some_kept (live n (parent_channel n s)) (parent_channel n s) ch (sym said ∙ is)

  -- it is a channel
  pub channel_there : ch < 2 * cable_count r
  unfolding net_of
  channel_there = rw (seen, ← found.1) (ltb-true (parent_channel n s) _ found.0)

  -- its far end has the parent's number
  pub parent_number_is : {x y : ℕ} → x ≡ target (net_of r) ch → y ≡ n.number x → y ≡ parent_number n s
  unfolding parent_number
  parent_number_is to e = rw (found.0, found.1) (e ∙ ap n.number (rw seen at to))

  -- it leaves by the parent port
  pub parent_port_is : {x : ℕ} → x ≡ (net_of r).out_port ch → x ≡ parent_port n s
  unfolding parent_port
  parent_port_is e = rw (found.0, found.1) (rw seen at e)

-- The up end of cable c, from the ends of its channel.
module _ (r d : List ℕ) (seen : r ≡ d) (c : ℕ) {one other x y : ℕ} (from : one ≡ (net_of r).source (2 * c)) (to : other ≡ target (net_of r) (2 * c))
    (number : y ≡ (net_of d).number x) where
  -- it is the target where that stands above the source
  pub up_at_target : above (net_of d) other one ≡ true → x ≡ other → y ≡ (net_of d).number (up_end (net_of d) c)
  unfolding up up_end
  up_at_target t e = let t' = rw (from, to, seen) at t in rw t' (number ∙ ap (net_of d).number (e ∙ rw seen at to))

  -- it is the source where the target does not
  pub up_at_source : above (net_of d) other one ≡ false → x ≡ one → y ≡ (net_of d).number (up_end (net_of d) c)
  unfolding up up_end
  up_at_source t e = let t' = rw (from, to, seen) at t in rw t' (number ∙ ap (net_of d).number (e ∙ rw seen at from))
