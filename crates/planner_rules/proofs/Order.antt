-- Which switch stands above another, and which way over a cable is up.
use mathlib.Core.Path.{◌≡◌, refl, sym}
use mathlib.Core.Logic.{◌⊎◌, inl, inr}
use mathlib.Core.Bool.{not}
use Prim.Native.Nat.{ℕ, ◌<◌}
use lib.Dec.{T, not_T, T_not}
use Rattle.topology_rules.specs.Net.{Net, WellFormed, target, back}
use Rattle.planner_rules.specs.Tree.{level, above, up}
use Rattle.topology_rules.proofs.Tests.{same_test}
use Rattle.topology_rules.proofs.Lex.{Lower, lex_T, T_lex, lex_irreflexive, lex_transitive, lex_total}
use Rattle.topology_rules.proofs.Channels.{target_back, target_switch}

module _ (n : Net) where
  -- s stands above t: the lower level, then the lower identifier
  abbrev pub Above : ℕ → ℕ → Type 0
  Above s t = Lower (level n s) (n.uid s) (level n t) (n.uid t)

  pub above_T : (s t : ℕ) → T (above n s t) → Above s t
  unfolding above
  above_T s t = lex_T (level n s) (n.uid s) (level n t) (n.uid t)

  pub T_above : (s t : ℕ) → Above s t → T (above n s t)
  unfolding above
  T_above s t = T_lex (level n s) (n.uid s) (level n t) (n.uid t)

  pub up_above : (ch : ℕ) → up n ch ≡ above n (target n ch) (n.source ch)
  unfolding up
  up_above ch = refl

  pub above_irreflexive : (s : ℕ) → T (above n s s) → ⊥
  above_irreflexive s t = lex_irreflexive (level n s) (n.uid s) (above_T s s t)

  pub above_transitive : (s t u : ℕ) → T (above n s t) → T (above n t u) → T (above n s u)
  above_transitive s t u p q =
      T_above s u (lex_transitive (level n s) (n.uid s) (level n t) (n.uid t) (level n u) (n.uid u) (above_T s t p) (above_T t u q))

  pub above_asymmetric : (s t : ℕ) → T (above n s t) → T (above n t s) → ⊥
  above_asymmetric s t p q = above_irreflexive s (above_transitive s t s p q)

  module _ (w : WellFormed n) where
    pub above_total : (s t : ℕ) → s < n.switches → t < n.switches → (s ≡ t → ⊥) → T (above n s t) ⊎ T (above n t s)
    above_total s t h l d =
        elim (lex_total (level n s) (n.uid s) (level n t) (n.uid t) (λ e. d (w.uids_differ s t h l e))) [
          | inl p ↦ inl (T_above s t p)
          | inr p ↦ inr (T_above t s p)
        ]

    -- of the two channels of a cable exactly one is up
    pub up_not_back : (ch : ℕ) → T (up n ch) → T (not (up n (back ch)))
    unfolding up
    up_not_back ch t = not_T (up n (back ch)) (λ q. above_asymmetric (target n ch) (n.source ch) t (rw (target_back n ch) at q))

    pub down_back_up : (ch : ℕ) → ch < n.channels → T (not (up n ch)) → T (up n (back ch))
    unfolding up
    down_back_up ch h t = elim (above_total (target n ch) (n.source ch) (target_switch n w ch h) (w.from_a_switch ch h) (λ e. w.no_loop ch h (sym e))) [
      | inl p ↦ absurd (T_not (up n ch) t p)
      | inr p ↦ rw (target_back n ch) p
    ]

    pub up_back : (ch : ℕ) → ch < n.channels → up n (back ch) ≡ not (up n ch)
    up_back ch h = same_test (up n (back ch)) (not (up n ch)) (λ q. not_T (up n ch) (λ t. T_not (up n (back ch)) (up_not_back ch t) q)) (down_back_up ch h)
