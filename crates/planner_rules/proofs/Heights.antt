-- How many switches stand above one: up crossings lower that number and down crossings raise it, which bounds every legal route.
use mathlib.Core.Path.{◌≡◌, ap}
use mathlib.Core.Logic.{◌⊎◌, inl, inr}
use mathlib.Core.Bool.{true}
use mathlib.Core.List.{List, [], ◌∷◌}
use Prim.Native.Nat.{ℕ, ◌+◌, ◌≤◌, ◌<◌}
use native.Mathlib.Omega.{arith}
use lib.ListN.{length}
use lib.Dec.{T, ltb→lt, T_not}
use Rattle.topology_rules.specs.Count.{count}
use Rattle.topology_rules.specs.Net.{Net, WellFormed, target, live}
use Rattle.planner_rules.specs.Tree.{joined, above, up}
use Rattle.planner_rules.specs.Routes.{Arrival, free, bound, after, far}
use Rattle.planner_rules.specs.Rules.{Walk, Legal}
use Rattle.topology_rules.proofs.Tests.{decide}
use Rattle.topology_rules.proofs.Counts.{count_le, count_more}
use Rattle.topology_rules.proofs.Channels.{target_switch}
use Rattle.planner_rules.proofs.Walks.{walk_switch, walk_joined, joined_refl}
use Rattle.planner_rules.proofs.Order.{above_irreflexive, above_transitive}
use Rattle.planner_rules.proofs.Climbs.{after_up, after_down}
use Rattle.planner_rules.proofs.Descents.{up_climbs, down_descends}

module _ (n : Net) where
  -- how many switches stand above s
  pub depth : ℕ → ℕ
  depth s = count n.switches (λ u. above n u s)

  pub depth_grows : (s t : ℕ) → s < n.switches → T (above n s t) → depth s < depth t
  unfolding depth
  depth_grows s t h a =
      count_more (λ u. above n u s) (λ u. above n u t) n.switches (λ u _ b. above_transitive n u s t b a) s h (above_irreflexive n s) a

  pub depth_bound : (s : ℕ) → s < n.switches → depth s < n.switches
  unfolding depth
  depth_bound s h =
      omega (arith, count_more (λ u. above n u s) (λ _. true) n.switches (λ _ _ _. tt) s h (above_irreflexive n s) tt, count_le (λ _. true) n.switches)

  pub legal_walk : (k : Arrival) (s t : ℕ) (r : List ℕ) → Legal n k s r t → Walk n s r t
  legal_walk k s t [] p = p
  legal_walk k s t (ch ∷ r) p = (p.0, p.1, legal_walk (after (up n ch)) (target n ch) t r p.3)

  module _ (w : WellFormed n) where
    -- a crossing starts at a switch
    starts_switch : (s ch : ℕ) → T (live n ch) → n.source ch ≡ s → s < n.switches
    starts_switch s ch l e = rw e at (w.from_a_switch ch (ltb→lt ch n.channels l))

    pub legal_joined : (k : Arrival) (s t : ℕ) (r : List ℕ) → Legal n k s r t → T (joined n s t)
    legal_joined k s t [] p = rw p (joined_refl n w t)
    legal_joined k s t (ch ∷ r) p =
        walk_joined n w (length (ch ∷ r)) s t (starts_switch s ch p.0 p.1) (ch ∷ r, omega arith, legal_walk k s t (ch ∷ r) p)

    pub bound_length : (s t : ℕ) (r : List ℕ) → Legal n bound s r t → length r + depth s ≤ depth t
    bound_length s t [] p = omega (arith, ap depth p)
    bound_length s t (ch ∷ r) p =
        let c = ltb→lt ch n.channels p.0 in
        let d = T_not (up n ch) p.2 in
        let rest = bound_length (target n ch) t r (rw (after_down (up n ch) d) at p.3) in
        omega (arith, depth_grows (n.source ch) (target n ch) (w.from_a_switch ch c) (down_descends n w ch c d), ap depth p.1)

    pub free_length : (s t : ℕ) (r : List ℕ) → Legal n free s r t → length r ≤ depth s + depth t
    free_length s t [] p = omega arith
    free_length s t (ch ∷ r) p = go (decide (up n ch)) (λ q. free_length (target n ch) t r q)
      where
        c : ch < n.channels
        c = ltb→lt ch n.channels p.0

        go : T (up n ch) ⊎ (T (up n ch) → ⊥) → (Legal n free (target n ch) r t → length r ≤ depth (target n ch) + depth t)
            → length (ch ∷ r) ≤ depth s + depth t
        go (inl u) later =
            omega (
              arith,
              later (rw (after_up (up n ch) u) at p.3),
              depth_grows (target n ch) (n.source ch) (target_switch n w ch c) (up_climbs n w ch u),
              ap depth p.1,
            )
        go (inr d) later =
            omega (
              arith,
              bound_length (target n ch) t r (rw (after_down (up n ch) d) at p.3),
              depth_grows (n.source ch) (target n ch) (w.from_a_switch ch c) (down_descends n w ch c d),
            )

    legal_length_bound : (k : Arrival) (s t : ℕ) (r : List ℕ) → s < n.switches → Legal n k s r t → length r + 2 ≤ far n
    legal_length_bound k s t r h p = go k p
      where
        l : t < n.switches
        l = walk_switch n w s t r h (legal_walk k s t r p)

        go : (k : Arrival) → Legal n k s r t → length r + 2 ≤ far n
        go free p = omega (arith, free_length s t r p, depth_bound s h, depth_bound t l)
        go bound p = omega (arith, bound_length s t r p, depth_bound s h, depth_bound t l)

    -- so no legal route has 2 S - 1 crossings, and the search for them never gives up too early
    pub legal_short : (k : Arrival) (s t : ℕ) (r : List ℕ) → Legal n k s r t → length r + 2 ≤ far n
    legal_short k s t [] p = omega (arith, w.some_switch)
    legal_short k s t (ch ∷ r) p = omega (arith, legal_length_bound k s t (ch ∷ r) (starts_switch s ch p.0 p.1) p)
