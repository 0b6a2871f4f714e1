-- Legal routes go up and then down in one strict order, so they cross no channel twice.
use mathlib.Core.Path.{◌≡◌, refl, ap, ◌∙◌}
use mathlib.Core.Logic.{◌⊎◌, inl, inr}
use mathlib.Core.List.Memᴰ
use mathlib.Core.List.{List, [], ◌∷◌, Memᴰ}
use Prim.Native.Nat.{ℕ, ◌*◌, ◌<◌}
use lib.Dec.{T, ltb→lt, not_T, T_not}
use Rattle.topology_rules.specs.Net.{Net, WellFormed, target, back}
use Rattle.planner_rules.specs.Tree.{above, up, up_end}
use Rattle.planner_rules.specs.Routes.{Arrival, free, bound, after}
use Rattle.planner_rules.specs.Rules.{Legal, Once}
use Rattle.topology_rules.proofs.Tests.{decide, choose_cond}
use Rattle.topology_rules.proofs.Channels.{target_back}
use Rattle.planner_rules.proofs.Climbs.{after_up, after_down}
use Rattle.planner_rules.proofs.Order.{above_irreflexive, above_transitive, above_asymmetric, down_back_up}

module _ (n : Net) where
  -- a crossing's end at or below, or at or above, a switch
  abbrev pub AtOrBelow : ℕ → ℕ → Type 0
  AtOrBelow s u = (u ≡ s) ⊎ T (above n s u)

  abbrev pub AtOrAbove : ℕ → ℕ → Type 0
  AtOrAbove s u = (u ≡ s) ⊎ T (above n u s)

  module _ (w : WellFormed n) where
    pub up_climbs : (ch : ℕ) → T (up n ch) → T (above n (target n ch) (n.source ch))
    unfolding up
    up_climbs ch t = t

    pub down_descends : (ch : ℕ) → ch < n.channels → (T (up n ch) → ⊥) → T (above n (n.source ch) (target n ch))
    down_descends ch h d = rw (target_back n ch) at (up_climbs (back ch) (down_back_up n w ch h (not_T (up n ch) d)))

    -- the up end of a cable is the end that stands above the other
    abbrev pub UpEnd : ℕ → ℕ → Type 0
    UpEnd ch u = ((u ≡ target n ch) × T (above n (target n ch) (n.source ch))) ⊎ ((u ≡ n.source ch) × T (above n (n.source ch) (target n ch)))

    pub up_end_found : (c : ℕ) → 2 * c < n.channels → UpEnd (2 * c) (up_end n c)
    unfolding up_end
    up_end_found c h = choose_cond (UpEnd (2 * c)) (up n (2 * c)) (target n (2 * c)) (n.source (2 * c)) (λ t. inl (refl, up_climbs (2 * c) t)) (λ t. inr (refl, down_descends (2 * c) h t))

    -- each crossing of a packet that may only go down descends, and starts no higher than the route
    pub bound_descends : (s t : ℕ) (r : List ℕ) → Legal n bound s r t → (ch : ℕ) → Memᴰ ch r
        → T (above n (n.source ch) (target n ch)) × AtOrBelow s (n.source ch)
    bound_descends s t [] p ch m = absurd (Memᴰ.not-nil m)
    bound_descends s t (c ∷ r) p ch m = go (bound_descends (target n c) t r (rw (after_down (up n c) d) at p.3) ch) (Memᴰ.cases_cons m)
      where
        d : T (up n c) → ⊥
        d = T_not (up n c) p.2

        falls : T (above n (n.source c) (target n c))
        falls = down_descends c (ltb→lt c n.channels p.0) d

        go : (Memᴰ ch r → T (above n (n.source ch) (target n ch)) × AtOrBelow (target n c) (n.source ch)) → (ch ≡ c) ⊎ Memᴰ ch r
            → T (above n (n.source ch) (target n ch)) × AtOrBelow s (n.source ch)
        go later (inl e) = (rw e falls, inl (ap n.source e ∙ p.1))
        go later (inr m) = let v = later m in (
          v.0,
          inr (elim v.1 [
            | inl e ↦ rw (e, ← p.1) falls
            | inr q ↦ rw (← p.1) (above_transitive n (n.source c) (target n c) (n.source ch) falls q)
          ]),
        )

    -- an up crossing of a legal route starts no lower than the route
    pub free_climbs : (s t : ℕ) (r : List ℕ) → Legal n free s r t → (ch : ℕ) → Memᴰ ch r → T (up n ch) → AtOrAbove s (n.source ch)
    free_climbs s t [] p ch m u = absurd (Memᴰ.not-nil m)
    free_climbs s t (c ∷ r) p ch m u = go (λ q. free_climbs (target n c) t r q ch) (Memᴰ.cases_cons m) (decide (up n c))
      where
        go : (Legal n free (target n c) r t → Memᴰ ch r → T (up n ch) → AtOrAbove (target n c) (n.source ch))
            → (ch ≡ c) ⊎ Memᴰ ch r → T (up n c) ⊎ (T (up n c) → ⊥) → AtOrAbove s (n.source ch)
        go later (inl e) k = inl (ap n.source e ∙ p.1)
        go later (inr m) (inl k) = inr (elim (later (rw (after_up (up n c) k) at p.3) m u) [
          | inl e ↦ rw (e, ← p.1) (up_climbs c k)
          | inr q ↦ rw (← p.1) (above_transitive n (n.source ch) (target n c) (n.source c) q (up_climbs c k))
        ])
        go later (inr m) (inr k) =
            absurd (above_asymmetric n (target n ch) (n.source ch) (up_climbs ch u)
            (bound_descends (target n c) t r (rw (after_down (up n c) k) at p.3) ch m).0)

    pub legal_once : (k : Arrival) (s t : ℕ) (r : List ℕ) → Legal n k s r t → Once r
    legal_once k s t [] p = tt
    legal_once k s t (c ∷ r) p = (λ m. go m (decide (up n c)), legal_once (after (up n c)) (target n c) t r p.3)
      where
        go : Memᴰ c r → T (up n c) ⊎ (T (up n c) → ⊥) → ⊥
        go m (inl u) = elim (free_climbs (target n c) t r (rw (after_up (up n c) u) at p.3) c m u) [
          | inl e ↦ above_irreflexive n (target n c) (rw e at (up_climbs c u))
          | inr q ↦ above_asymmetric n (target n c) (n.source c) (up_climbs c u) q
        ]
        go m (inr d) =
            let v = bound_descends (target n c) t r (rw (after_down (up n c) d) at p.3) c m in
            elim v.1 [
              | inl e ↦ above_irreflexive n (target n c) (rw e at v.0)
              | inr q ↦ above_asymmetric n (n.source c) (target n c) v.0 q
            ]
