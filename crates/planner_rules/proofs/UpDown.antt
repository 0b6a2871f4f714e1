-- A legal route is a walk of up crossings, then down crossings; for a bound packet of down crossings alone.
use Prim.Native.Nat.{ℕ}
use mathlib.Core.List.{List, [], ◌∷◌, ◌++◌}
use mathlib.Core.Logic.{◌⊎◌, inl, inr, ◌↔◌}
use mathlib.Core.Path.{refl, ap}
use lib.Dec.{T, T_not, not_T}
use Rattle.topology_rules.specs.Net.{Net, target}
use Rattle.topology_rules.proofs.Tests.{decide}
use Rattle.planner_rules.specs.Tree.{up}
use Rattle.planner_rules.specs.Routes.{free, bound}
use Rattle.planner_rules.specs.Rules.{Walk, Ups, Downs, UpThenDown, Legal}
use Rattle.planner_rules.proofs.Climbs.{Falling, after_up, after_down, falling_legal}
use Rattle.planner_rules.proofs.Heights.{legal_walk}

module _ (n : Net) where
  downs_falling : (s t : ℕ) (r : List ℕ) → Downs n r → Walk n s r t → Falling n s r t
  downs_falling s t [] d p = p
  downs_falling s t (ch ∷ r) d p = (p.0, p.1, d.0, downs_falling (target n ch) t r d.1 p.2)

  bound_downs : (s t : ℕ) (r : List ℕ) → Legal n bound s r t → Downs n r
  bound_downs s t [] p = tt
  bound_downs s t (ch ∷ r) p = (p.2, bound_downs (target n ch) t r (rw (after_down (up n ch) (T_not (up n ch) p.2)) at p.3))

  pub bound_exactly : (s t : ℕ) (r : List ℕ) → Legal n bound s r t ↔ (Downs n r × Walk n s r t)
  bound_exactly s t r = (λ p. (bound_downs s t r p, legal_walk n bound s t r p), λ (d, p). falling_legal n bound s r t (downs_falling s t r d p))

  ups_legal : (s t : ℕ) (a b : List ℕ) → Ups n a → Downs n b → Walk n s (a ++ b) t → Legal n free s (a ++ b) t
  ups_legal s t [] b u d p = falling_legal n free s b t (downs_falling s t b d p)
  ups_legal s t (ch ∷ a) b u d p = (p.0, p.1, tt, rw (after_up (up n ch) u.0) (ups_legal (target n ch) t a b u.1 d p.2))

  free_shape : (s t : ℕ) (r : List ℕ) → Legal n free s r t → UpThenDown n s r t
  free_shape s t [] p = record { climb = []; descent = []; is = refl; ups = tt; downs = tt; leads = p }
  free_shape s t (ch ∷ r) p = go (decide (up n ch)) (free_shape (target n ch) t r)
    where
      go : T (up n ch) ⊎ (T (up n ch) → ⊥) → (Legal n free (target n ch) r t → UpThenDown n (target n ch) r t) → UpThenDown n s (ch ∷ r) t
      go (inl u) later =
          let v = later (rw (after_up (up n ch) u) at p.3) in
          record {
            climb = ch ∷ v.climb;
            descent = v.descent;
            is = ap (λ q. ch ∷ q) v.is;
            ups = (u, v.ups);
            downs = v.downs;
            leads = (p.0, p.1, v.leads);
          }
      go (inr d) later = record {
        climb = [];
        descent = ch ∷ r;
        is = refl;
        ups = tt;
        downs = (not_T (up n ch) d, bound_downs (target n ch) t r (rw (after_down (up n ch) d) at p.3));
        leads = legal_walk n free s t (ch ∷ r) p;
      }

  pub free_exactly : (s t : ℕ) (r : List ℕ) → Legal n free s r t ↔ UpThenDown n s r t
  free_exactly s t r = (
    free_shape s t r,
    λ v. rw v.is (ups_legal s t v.climb v.descent v.ups v.downs (rw v.is at v.leads)),
  )
