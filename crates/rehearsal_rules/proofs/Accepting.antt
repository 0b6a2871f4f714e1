-- An order is accepted exactly where no refusal applies, and then it does one thing.
use Prim.Native.Nat.{ℕ, ◌<◌}
use native.Mathlib.Omega.{arith}
use mathlib.Core.List.{List}
use mathlib.Core.Path.{◌≡◌, refl, sym, ◌∙◌, ap, subst}
use mathlib.Core.Logic.{◌↔◌, ◌⊎◌, inl, inr}
use lib.ListN.{set, get_or}
use lib.Dec.{T}
use Rattle.topology_rules.specs.Check.{Verdict}
use Rattle.topology_rules.specs.Net.{Net, WellFormed, target}
use Rattle.topology_rules.specs.Refusals.{Returned}
use Rattle.planner_rules.specs.Rules.{Leaves}
use Rattle.planner_rules.proofs.Ports.{leaves_leaving, cable_or_out}
use Rattle.rehearsal_rules.specs.Answers.{Order, Answer, moved, delivered, refused, is_accepted, verdict_of}
use Rattle.rehearsal_rules.specs.Rules.{Does, OrderWrong}
use Rattle.rehearsal_rules.proofs.Refusing.{late, unsound_applies}

module _ (P : ℕ → ℕ → Type 0) (positive : (k i : ℕ) → P k i → 0 < k) where
  -- a verdict of 0 says that none applies, and where none does it is 0
  zero_none : {v : Verdict} → Returned P v → v.number ≡ 0 → (k i : ℕ) → P k i → ⊥
  zero_none (Returned.none a) e = a
  zero_none (Returned.first {k} {i} x l) e = absurd (omega (arith, positive k i x))

  none_zero : {v : Verdict} → Returned P v → ((k i : ℕ) → P k i → ⊥) → v.number ≡ 0
  none_zero (Returned.none a) n = refl
  none_zero (Returned.first x l) n = absurd (n _ _ x)

-- an accepted answer has no number, and one that stays has one
no_number : (x : Answer) → T (is_accepted x) → (verdict_of x).number ≡ 0
no_number (moved c) t = refl
no_number (delivered p) t = refl
no_number (refused k) t = absurd t

some_number : {n : Net} {words l : List ℕ} {o : Order} {x : Answer} → Does n words o x l → (verdict_of x).number ≡ 0 → T (is_accepted x)
some_number (Does.stays h) e = absurd (omega arith)
some_number (Does.placed m g h l z) e = tt
some_number (Does.goes c ne h l z) e = tt
some_number (Does.leaves c x) e = tt

module _ (Sound : Type 0) (n : Net) (words : List ℕ) (o : Order) (x : Answer) (back : Returned (OrderWrong Sound n words o) (verdict_of x)) where
  abbrev Wrong : ℕ → ℕ → Type 0
  Wrong = OrderWrong Sound n words o

  positive : (k i : ℕ) → Wrong k i → 0 < k
  positive k i w = omega (arith, (late Sound n words o k i w).0)

  -- where the record is sound or not can be told, and a sound one's answer is what the rules say
  pub accepted_where : Sound ⊎ (Sound → ⊥) → (Sound → (l : List ℕ) × Does n words o x l) → T (is_accepted x) ↔ ((k i : ℕ) → Wrong k i → ⊥)
  accepted_where s does = (λ t. zero_none Wrong positive back (no_number x t), λ none. there s none)
    where
      there : Sound ⊎ (Sound → ⊥) → ((k i : ℕ) → Wrong k i → ⊥) → T (is_accepted x)
      there (inl y) none = some_number (does y).1 (none_zero Wrong positive back none)
      there (inr u) none = absurd (none 17 0 (unsound_applies Sound n words u o))

module _ (n : Net) (w : WellFormed n) (words : List ℕ) where
  one_channel : (s p c b : ℕ) → Leaves n s p c → Leaves n s p b → c ≡ b
  one_channel s p c b l k = sym (leaves_leaving n w s p c l) ∙ leaves_leaving n w s p b k

  -- the rules let an accepted order do one thing
  pub one_outcome : {o : Order} {x y : Answer} {l m : List ℕ} → Does n words o x l → Does n words o y m → T (is_accepted x) → T (is_accepted y) → (x ≡ y) × (l ≡ m)
  one_outcome (Does.stays h) b t u = absurd t
  one_outcome (Does.placed m g h l e) (Does.stays z) t u = absurd u
  one_outcome (Does.placed {a = a} {p = p} {s = s} {c = c} m g h l e) (Does.placed {s = r} {c = b} m' g' h' l' e') t u =
      let same : s ≡ r = w.numbers_differ s r m.0 m'.0 (m.1 ∙ sym m'.1) in
      let z = one_channel r p c b (subst (λ v. Leaves n v p c) same l) l' in
      (ap moved z, ap (λ (v : ℕ). set words v a) z)
  one_outcome (Does.goes c ne h l e) (Does.stays z) t u = absurd u
  one_outcome (Does.goes {ch = ch} {p = p} {c = c} h ne hd l e) (Does.goes {c = b} h' ne' hd' l' e') t u =
      let z = one_channel (target n ch) p c b l l' in
      (ap moved z, ap (λ (v : ℕ). set (set words ch 0) v (get_or words ch 0)) z)
  one_outcome (Does.goes {ch = ch} {p = p} {c = c} h ne hd l e) (Does.leaves h' x) t u = absurd (cable_or_out n w (target n ch) p c l x.served)
  one_outcome (Does.leaves h x) (Does.stays z) t u = absurd u
  one_outcome (Does.leaves {ch = ch} {p = p} h x) (Does.goes {c = c} h' ne' hd' l' e') t u = absurd (cable_or_out n w (target n ch) p c l' x.served)
  one_outcome (Does.leaves h x) (Does.leaves h' x') t u = (refl, refl)
