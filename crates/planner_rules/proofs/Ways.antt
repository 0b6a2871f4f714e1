-- The search for legal routes finds exactly them.
use mathlib.Core.Logic.{inl, inr, ◌↔◌}
use mathlib.Core.Bool.{Bool, true, false}
use mathlib.Core.List.{List, [], ◌∷◌}
use Prim.Native.Nat.{ℕ, suc, zero, ◌≤◌}
use native.Mathlib.Omega.{arith}
use lib.ListN.{length}
use lib.Dec.{T, eqb, eqb→eq, ltb→lt, lt→ltb}
use Rattle.topology_rules.specs.Count.{any, both}
use Rattle.topology_rules.specs.Net.{Net, target}
use Rattle.planner_rules.specs.Tree.{up}
use Rattle.planner_rules.specs.Routes.{Arrival, may_cross, after, way}
use Rattle.planner_rules.specs.Rules.{Legal}
use Rattle.topology_rules.proofs.Tests.{both_T, T_both, or_T, T_or, and_T, T_and, eq→eqb}
use Rattle.topology_rules.proofs.Searches.{any_T, T_any}

module _ (n : Net) where
  open_step : Arrival → ℕ → ℕ → Bool
  open_step k s ch = both (eqb (n.source ch) s) (may_cross k (up n ch))

  step : ℕ → Arrival → ℕ → ℕ → ℕ → Bool
  unfolding open_step way
  step m k s t ch = elim (open_step k s ch) [ true ↦ way n m (after (up n ch)) (target n ch) t | false ↦ false ]

  way_route : (m : ℕ) (k : Arrival) (s t : ℕ) → T (way n m k s t) → (r : List ℕ) × (length r ≤ m) × Legal n k s r t
  unfolding way step
  way_route zero k s t h = ([], omega arith, eqb→eq s t h)
  way_route (suc m) k s t h = elim (or_T (eqb s t) (any n.channels (step m k s t)) h) [
    | inl p ↦ ([], omega arith, eqb→eq s t p)
    | inr p ↦
        let (ch, l, q) = any_T (step m k s t) n.channels p in
        let v = and_T (open_step k s ch) (way n m (after (up n ch)) (target n ch) t) q in
        let x = both_T (eqb (n.source ch) s) (may_cross k (up n ch)) v.0 in
        let r = way_route m (after (up n ch)) (target n ch) t v.1 in
        (ch ∷ r.0, omega arith, (lt→ltb ch n.channels l, eqb→eq (n.source ch) s x.0, x.1, r.2))
  ]

  route_way : (m : ℕ) (k : Arrival) (s t : ℕ) (r : List ℕ) → length r ≤ m → Legal n k s r t → T (way n m k s t)
  unfolding way step
  route_way zero k s t [] h p = eq→eqb s t p
  route_way zero k s t (ch ∷ r) h p = absurd (omega arith)
  route_way (suc m) k s t [] h p = T_or (eqb s t) (any n.channels (step m k s t)) (inl (eq→eqb s t p))
  route_way (suc m) k s t (ch ∷ r) h p =
      T_or (eqb s t) (any n.channels (step m k s t)) (inr
      (T_any (step m k s t) n.channels ch (ltb→lt ch n.channels p.0)
      (T_and (open_step k s ch) (way n m (after (up n ch)) (target n ch) t)
      (T_both (eqb (n.source ch) s) (may_cross k (up n ch)) (eq→eqb (n.source ch) s p.1) p.2)
      (route_way m (after (up n ch)) (target n ch) t r (omega arith) p.3))))

  pub way_legal : (m : ℕ) (k : Arrival) (s t : ℕ) → T (way n m k s t) ↔ ((r : List ℕ) × (length r ≤ m) × Legal n k s r t)
  way_legal m k s t = (way_route m k s t, λ r. route_way m k s t r.0 r.1 r.2)
