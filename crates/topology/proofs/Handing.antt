-- A job that checks first: a refusal of the check is handed on, and an accepted description goes on to the rest.
use mathlib.Core.Path.{◌≡◌, refl, sym, ap, ◌∙◌}
use mathlib.Core.Bool.{not}
use mathlib.Core.List.{List}
use Prim.Native.Nat.{ℕ}
use native.Mathlib.Omega.{arith}
use lib.Dec.{T, eqb}
use lib.ListN.{length}
use Rattle.std.specs.Prelude.{Result, Ok, Err}
use Rattle.std.specs.Result.{IsErrAnd}
use Rattle.topology_rules.specs.Check.{Verdict, accepted, verdict}
use Rattle.topology_rules.specs.Answers.{Reply, done, refused, Outcome, answered, onto, outcome}
use Rattle.topology_rules.specs.Edit.{checked}
use Rattle.topology_rules.proofs.Tests.{cond_not, ne→neqb}
use Rattle.topology_rules.proofs.Outcomes.{outcome_refused, outcome_done}
use Rattle.topology.specs.Reasons.{number_of, refusal_of}
use Rattle.topology.specs.declared.refusal.Reason.{Reason}
use Rattle.topology.specs.declared.refusal.Refusal.{Refusal}
use Rattle.topology.proofs.Determined.{some_number}
use Rattle.topology.proofs.Passing.{applies}
use Rattle.topology.proofs.Scans.{T_true}

not_zero : (k : Reason) → T (not (eqb (number_of k) 0))
not_zero k = ne→neqb (number_of k) 0 (λ e. omega (arith, some_number k))

-- what `?` returns where the error becomes x
pub returned : {T E : Type 0} {x : E} (r : Result T E) → IsErrAnd r (λ y. y ≡ x) → r ≡ Err x
returned (Ok y) h = absurd h
returned (Err y) h = ap Err h

-- the check's answer
module _ (d : List ℕ) where
  pub went_on : accepted ≡ verdict d → (rest : Verdict) → checked d rest ≡ rest
  went_on e rest = rw (← e) refl

  pub handed_on : (f : Refusal) → refusal_of f ≡ verdict d → (rest : Verdict) → checked d rest ≡ refusal_of f
  handed_on f e rest = rw (← e) (applies (not (eqb (number_of f.reason) 0)) _ rest (T_true _ (not_zero f.reason)))

-- what a job answers that refuses
module _ (v : Verdict) (value : ℕ) (f : Refusal) (e : v ≡ refusal_of f) where
  pub answered_refused : answered v value ≡ refused (refusal_of f)
  answered_refused = rw e (cond_not (eqb (number_of f.reason) 0) _ _ (not_zero f.reason))

-- and one that refuses nothing
pub answered_done : (v : Verdict) (value : ℕ) → v ≡ accepted → answered v value ≡ done value
answered_done v value e = rw e refl

-- the reply and the output that this outcome has
abbrev pub Gives : Outcome → Reply → List ℕ → Type 0
Gives o reply out = (reply ≡ o.reply) × (out ≡ o.out)

-- a job with this verdict that writes new
module _ (v : Verdict) (new out : List ℕ) where
  abbrev job : Outcome
  job = outcome v (length new) new out

  gives : (reply : Reply) (after : List ℕ) → job ≡ record { reply = reply; out = after } → Gives job reply after
  gives reply after e = (ap (λ w. w.reply) (sym e), ap (λ w. w.out) (sym e))

  pub refuses : (f : Refusal) → v ≡ refusal_of f → Gives job (refused (refusal_of f)) out
  refuses f e = gives _ _ (rw e (outcome_refused (refusal_of f) (length new) new out (some_number f.reason)))

  pub writes : v ≡ accepted → (w : List ℕ) → w ≡ new → (n : ℕ) (after : List ℕ) → n ≡ length w → after ≡ onto w out → Gives job (done n) after
  writes e w s n after p q =
      let g = gives _ _ (outcome_done v (length new) new out (ap (λ w. w.number) e)) in
      (ap done (p ∙ ap length s) ∙ g.0, q ∙ ap (λ z. onto z out) s ∙ g.1)
