-- What a job with a verdict leaves behind.
use mathlib.Core.Path.{◌≡◌, refl, sym, subst, ◌∙◌}
use mathlib.Core.Logic.{inl, inr}
use mathlib.Core.Bool.{Bool, true, false, cond}
use mathlib.Core.List.{List}
use Prim.Native.Nat.{ℕ, ◌≤◌, ◌<◌}
use native.Mathlib.Omega.{arith}
use lib.ListN.{length, take, drop, length-append, length-drop}
use lib.Seq.{take-append_seam, drop-append_seam}
use lib.Dec.{eqb}
use Rattle.topology_rules.specs.Check.{Verdict}
use Rattle.topology_rules.specs.Answers.{Reply, done, refused, answered, Outcome, onto, outcome}
use Rattle.topology_rules.proofs.Tests.{split, cond_is, cond_not, eq→eqb, ne→neqb}

abbrev Done : Reply → Type 0
Done (done n) = Unit {0}
Done (refused v) = ⊥

-- what an answer tells of the verdict
module _ (v : Verdict) (value : ℕ) where
  reply_refused : 0 < v.number → answered v value ≡ refused v
  reply_refused h = cond_not (eqb v.number 0) _ _ (ne→neqb v.number 0 (λ e. omega arith))

  reply_done : v.number ≡ 0 → answered v value ≡ done value
  reply_done e = cond_is (eqb v.number 0) _ _ (eq→eqb v.number 0 e)

  apart : {n : ℕ} {a : Verdict} → done n ≡ refused a → ⊥
  apart e = subst Done e tt

  -- a refusal that is told is the verdict's own
  pub refusal_told : (w : Verdict) → answered v value ≡ refused w → (w ≡ v) × (0 < w.number)
  refusal_told w e = elim (split 0 v.number) [
    | inl h ↦ let same : w ≡ v = own (sym e ∙ reply_refused h) in (same, rw same h)
    | inr h ↦ absurd (apart (sym (reply_done (omega arith)) ∙ e))
  ]
    where
      own : {a b : Verdict} → refused a ≡ refused b → a ≡ b
      own e = cc

  -- a value that is told is what the job returns
  pub value_told : (n : ℕ) → answered v value ≡ done n → (v.number ≡ 0) × (value ≡ n)
  value_told n e = elim (split 0 v.number) [
    | inl h ↦ absurd (apart (sym e ∙ reply_refused h))
    | inr h ↦ let z : v.number ≡ 0 = omega arith in (z, same (sym (reply_done z) ∙ e))
  ]
    where
      same : {a b : ℕ} → done a ≡ done b → a ≡ b
      same e = cc

module _ (v : Verdict) (value : ℕ) (new out : List ℕ) where
  pub outcome_refused : 0 < v.number → outcome v value new out ≡ record { reply = refused v; out = out }
  outcome_refused h = cond_not (eqb v.number 0) _ _ (ne→neqb v.number 0 (λ e. omega arith))

  pub outcome_done : v.number ≡ 0 → outcome v value new out ≡ record { reply = done value; out = onto new out }
  outcome_done e = cond_is (eqb v.number 0) _ _ (eq→eqb v.number 0 e)

  outcome_reply : (outcome v value new out).reply ≡ answered v value
  outcome_reply = go (eqb v.number 0) _ _
    where
      go : (b : Bool) (x y : Outcome) → (cond b x y).reply ≡ cond b x.reply y.reply
      go true x y = refl
      go false x y = refl

  pub outcome_told : (w : Verdict) → (outcome v value new out).reply ≡ refused w → (w ≡ v) × (0 < w.number)
  outcome_told w e = refusal_told v value w (sym outcome_reply ∙ e)

-- what is written, and what stays
module _ (new out : List ℕ) where
  pub onto_new : take (length new) (onto new out) ≡ new
  onto_new = take-append_seam new (drop (length new) out)

  pub onto_rest : drop (length new) (onto new out) ≡ drop (length new) out
  onto_rest = drop-append_seam new (drop (length new) out)

  pub onto_length : length new ≤ length out → length (onto new out) ≡ length out
  onto_length h = length-append new (drop (length new) out) ∙ omega (arith, length-drop (length new) out)
