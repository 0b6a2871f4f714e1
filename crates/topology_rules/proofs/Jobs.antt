-- What a job returns that checks the description first.
use mathlib.Core.Path.{◌≡◌, refl}
use mathlib.Core.Logic.{◌⊎◌, inl, inr}
use mathlib.Core.Bool.{Bool, true, false, not}
use mathlib.Core.List.{List}
use Prim.Native.Nat.{ℕ, ◌<◌}
use native.Mathlib.Omega.{arith}
use lib.Dec.{T, eqb, eqb→eq}
use Rattle.topology_rules.specs.Check.{Verdict, accepted, whenever, verdict}
use Rattle.topology_rules.specs.Refusals.{stage, Wrong}
use Rattle.topology_rules.specs.Accepted.{Accepted}
use Rattle.topology_rules.specs.Edit.{checked}
use Rattle.topology_rules.proofs.Tests.{eq→eqb}
use Rattle.topology_rules.proofs.Firsts.{NotLater, Warranted, stage_mono, earlier_asymmetric, Settled}
use Rattle.topology_rules.proofs.Chains.{Rules, ascends, Says, test_of, chain, chain_warranted, chain_met}
use Rattle.topology_rules.proofs.Returns.{verdict_settled}
use Rattle.topology_rules.proofs.Verdicts.{wrong_number, accepted_rule, verdict_rule}

module _ (d : List ℕ) where
  -- what the check returns, or what the rest returns over an accepted description
  pub checked_cases : (Q : Verdict → Type 0) (rest : Verdict) → (Accepted d → Q rest) → (0 < (verdict d).number → Q (verdict d)) → Q (checked d rest)
  checked_cases Q rest p q = go (eqb (verdict d).number 0) (λ t. (verdict_rule d).0 (eqb→eq (verdict d).number 0 t)) (λ f. positive (λ e. f (eq→eqb (verdict d).number 0 e)))
    where
      go : (b : Bool) → (T b → Accepted d) → ((T b → ⊥) → 0 < (verdict d).number) → Q (whenever (not b) (verdict d) rest)
      go true f g = p (f tt)
      go false f g = q (g (λ t. t))

      positive : {n : ℕ} → (n ≡ 0 → ⊥) → 0 < n
      positive f = omega arith

  -- the job's own refusals come after 1 to 12, and those tests may rely on an accepted description
  module _ (P : ℕ → ℕ → Type 0) (rs : Rules) (b : ℕ) (rising : T (ascends 12 rs b))
      (handed : (k i : ℕ) → Wrong d k i → P k i) (says : Accepted d → Says P 0 rs)
      (rows : (k i : ℕ) → P k i → Wrong d k i ⊎ ((12 < k) × (i ≡ 0) × (Accepted d → T (test_of rs k)))) where
    pub checked_settled : Settled P (checked d (chain 0 rs accepted))
    checked_settled = (warranted, λ k i p. complete k i (rows k i p))
      where
        warranted : Warranted P (checked d (chain 0 rs accepted))
        warranted = checked_cases (Warranted P) (chain 0 rs accepted) (λ a. chain_warranted P 0 rs accepted (says a) (inl (refl, refl)))
            (λ h. elim (verdict_settled d).0 [ inl e ↦ inl e | inr w ↦ inr (handed _ _ w) ])

        complete : (k i : ℕ) → Wrong d k i ⊎ ((12 < k) × (i ≡ 0) × (Accepted d → T (test_of rs k))) → NotLater (checked d (chain 0 rs accepted)) k i
        complete k i (inl w) = checked_cases (λ v. NotLater v k i) (chain 0 rs accepted) (λ a. absurd ((accepted_rule d).0 a k i w))
            (λ h. (verdict_settled d).1 k i w)
        complete k i (inr (l, e, met)) = checked_cases (λ v. NotLater v k i) (chain 0 rs accepted)
            (λ a. rw e (chain_met b 0 accepted k 12 rs rising (met a)).1)
            (λ h. (h, earlier_asymmetric _ _ k i (inl (before h (verdict_settled d).0))))
          where
            before : 0 < (verdict d).number → Warranted (Wrong d) (verdict d) → stage (verdict d).number < stage k
            before h (inl e) = absurd (omega (arith, e.0))
            before h (inr w) = omega (arith, stage_mono (verdict d).number 12 (wrong_number d w).1, stage_mono 13 k l)
