-- The order of pairs: by the first, then by the second.
use mathlib.Core.Path.{◌≡◌}
use mathlib.Core.Logic.{◌⊎◌, inl, inr}
use Prim.Native.Nat.{ℕ, ◌≤◌, ◌<◌}
use native.Mathlib.Omega.{arith}
use lib.Dec.{T, ltb, eqb, ltb→lt, lt→ltb, eqb→eq}
use Rattle.topology_rules.specs.Count.{both, lower}
pub use Rattle.topology_rules.specs.Count.{Lower}
use Rattle.topology_rules.proofs.Tests.{split, both_T, T_both, either_T, T_either, eq→eqb}

module _ (a x b y : ℕ) where
  pub lex_T : T (lower a x b y) → Lower a x b y
  lex_T t = elim (either_T (ltb a b) _ t) [
    | inl h ↦ inl (ltb→lt a b h)
    | inr h ↦ let p = both_T (eqb a b) (ltb x y) h in inr (eqb→eq a b p.0, ltb→lt x y p.1)
  ]

  pub T_lex : Lower a x b y → T (lower a x b y)
  T_lex (inl h) = T_either (ltb a b) (both (eqb a b) (ltb x y)) (inl (lt→ltb a b h))
  T_lex (inr h) = T_either (ltb a b) (both (eqb a b) (ltb x y)) (inr (T_both (eqb a b) (ltb x y) (eq→eqb a b h.0) (lt→ltb x y h.1)))

pub lex_irreflexive : (a x : ℕ) → Lower a x a x → ⊥
lex_irreflexive a x (inl h) = omega arith
lex_irreflexive a x (inr h) = omega arith

pub lex_transitive : (a x b y c z : ℕ) → Lower a x b y → Lower b y c z → Lower a x c z
lex_transitive a x b y c z (inl p) (inl q) = inl (omega arith)
lex_transitive a x b y c z (inl p) (inr q) = inl (omega arith)
lex_transitive a x b y c z (inr p) (inl q) = inl (omega arith)
lex_transitive a x b y c z (inr p) (inr q) = inr (omega arith, omega arith)

pub lex_total : (a x b y : ℕ) → (x ≡ y → ⊥) → Lower a x b y ⊎ Lower b y a x
lex_total a x b y d = go (split a b) (split b a) (split x y)
  where
    go : (a < b) ⊎ (b ≤ a) → (b < a) ⊎ (a ≤ b) → (x < y) ⊎ (y ≤ x) → Lower a x b y ⊎ Lower b y a x
    go (inl p) q r = inl (inl p)
    go (inr p) (inl q) r = inr (inl q)
    go (inr p) (inr q) (inl r) = inl (inr (omega arith, r))
    go (inr p) (inr q) (inr r) = inr (inr (omega arith, omega arith))
