-- Up channels rank by how near the root they lead, then down channels by how far from it: a rank that rises along legal routes.
use Prim.Native.Nat.{ℕ, ◌+◌, ◌-◌, ◌≤◌, ◌<◌}
use native.Mathlib.Omega.{arith}
use mathlib.Core.Bool.{Bool, true, false, cond, not}
use mathlib.Core.Path.{◌≡◌}
use mathlib.Core.Logic.{◌⊎◌, inl, inr}
use lib.Dec.{T, T_not}
use Rattle.topology_rules.specs.Net.{Net, WellFormed, target}
use Rattle.topology_rules.proofs.Tests.{or_not, cond_is, cond_not}
use Rattle.topology_rules.proofs.Channels.{target_switch}
use Rattle.planner_rules.specs.Tree.{up}
use Rattle.planner_rules.specs.Routes.{may_cross, after}
use Rattle.planner_rules.proofs.Descents.{up_climbs, down_descends}
use Rattle.planner_rules.proofs.Heights.{depth, depth_grows, depth_bound}

forbidden : (a b : Bool) → T (not a) → T b → T (may_cross (after a) b) → ⊥
forbidden true b na tb m = na
forbidden false true na tb m = m
forbidden false false na tb m = tb

module _ (n : Net) where
  pub rank : ℕ → ℕ
  rank ch = cond (up n ch) (n.switches - depth n (target n ch)) (n.switches + depth n (target n ch))

  rank_up : (ch : ℕ) → T (up n ch) → rank ch ≡ n.switches - depth n (target n ch)
  unfolding rank
  rank_up ch t = cond_is (up n ch) _ _ t

  rank_down : (ch : ℕ) → T (not (up n ch)) → rank ch ≡ n.switches + depth n (target n ch)
  unfolding rank
  rank_down ch t = cond_not (up n ch) _ _ t

  module _ (w : WellFormed n) where
    low : (ch : ℕ) → ch < n.channels → depth n (target n ch) < n.switches
    low ch l = depth_bound n (target n ch) (target_switch n w ch l)

    climbs : (ch : ℕ) → ch < n.channels → T (up n ch) → depth n (target n ch) < depth n (n.source ch)
    climbs ch l u = depth_grows n (target n ch) (n.source ch) (target_switch n w ch l) (up_climbs n w ch u)

    descends : (ch : ℕ) → ch < n.channels → T (not (up n ch)) → depth n (n.source ch) < depth n (target n ch)
    descends ch l d = depth_grows n (n.source ch) (target n ch) (w.from_a_switch ch l) (down_descends n w ch l (T_not (up n ch) d))

    pub rank_bounded : (ch : ℕ) → ch < n.channels → rank ch ≤ n.switches + n.switches
    rank_bounded ch l = go (or_not (up n ch))
      where
        go : T (up n ch) ⊎ T (not (up n ch)) → rank ch ≤ n.switches + n.switches
        go (inl u) = omega (arith, rank_up ch u)
        go (inr d) = omega (arith, rank_down ch d, low ch l)

    pub rank_rises : (ch c : ℕ) → ch < n.channels → c < n.channels → n.source c ≡ target n ch → T (may_cross (after (up n ch)) (up n c)) → rank ch < rank c
    rank_rises ch c l m e may = go (or_not (up n ch)) (or_not (up n c))
      where
        go : T (up n ch) ⊎ T (not (up n ch)) → T (up n c) ⊎ T (not (up n c)) → rank ch < rank c
        go (inl u) (inl v) = omega (arith, rank_up ch u, rank_up c v, rw e at (climbs c m v), low ch l)
        go (inl u) (inr v) = omega (arith, rank_up ch u, rank_down c v, descends c m v)
        go (inr u) (inl v) = absurd (forbidden (up n ch) (up n c) u v may)
        go (inr u) (inr v) = omega (arith, rank_down ch u, rank_down c v, rw e at (descends c m v))
