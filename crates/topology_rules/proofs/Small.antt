-- The numbers and positions that checking returns are small.
use mathlib.Core.Logic.{inl, inr}
use mathlib.Core.List.{List}
use Prim.Native.Nat.{ℕ, ◌≤◌, ◌<◌}
use native.Mathlib.Omega.{arith}
use lib.Dec.{lit<, lit≤}
use Rattle.topology_rules.specs.Format.{switch_count, cable_count}
use Rattle.topology_rules.specs.Check.{Verdict, verdict}
use Rattle.topology_rules.specs.Refusals.{Earlier, Returned, Wrong, short, other_letter, other_version, no_switch, many_switches, many_cables, other_length, uid_zero, uid_again, host_outside, end_nowhere, end_outside, on_one_switch, host_port, used_port}
use Rattle.topology_rules.proofs.Tests.{split}
use Rattle.topology_rules.proofs.Verdicts.{wrong_number}
use Rattle.topology_rules.proofs.Returns.{verdict_returned}

module _ (d : List ℕ) where
  -- where 4 or 5 does not apply there are few records
  few_switches : (Wrong d 4 0 → ⊥) → {i : ℕ} → i < switch_count d → i < 384
  few_switches n h = elim (split 64 (switch_count d)) [ inl l ↦ absurd (n (many_switches l)) | inr l ↦ omega arith ]

  few_cables : (Wrong d 5 0 → ⊥) → {c : ℕ} → c < cable_count d → c < 384
  few_cables n h = elim (split 384 (cable_count d)) [ inl l ↦ absurd (n (many_cables l)) | inr l ↦ omega arith ]

  position : {k i : ℕ} → Wrong d k i → ((m j : ℕ) → Wrong d m j → Earlier m j k i → ⊥) → i < 384
  position (short h) none = lit< tt
  position (other_letter k h x) none = lit< tt
  position (other_version x) none = lit< tt
  position (no_switch e) none = lit< tt
  position (many_switches h) none = lit< tt
  position (many_cables h) none = lit< tt
  position (other_length x) none = lit< tt
  position (uid_zero h e) none = few_switches (λ w. none 4 0 w (inl (lit< tt))) h
  position (uid_again j h b e) none = few_switches (λ w. none 4 0 w (inl (lit< tt))) h
  position (host_outside p h b o) none = few_switches (λ w. none 4 0 w (inl (lit< tt))) h
  position (end_nowhere e h o b) none = few_cables (λ w. none 5 0 w (inl (lit< tt))) h
  position (end_outside e h o b) none = few_cables (λ w. none 5 0 w (inl (lit< tt))) h
  position (on_one_switch h e) none = few_cables (λ w. none 5 0 w (inl (lit< tt))) h
  position (host_port e h o b) none = few_cables (λ w. none 5 0 w (inl (lit< tt))) h
  position (used_port e f h o b x y) none = few_cables (λ w. none 5 0 w (inl (lit< tt))) h

  small : {v : Verdict} → Returned (Wrong d) v → (v.number ≤ 12) × (v.position < 384)
  small (Returned.none a) = (lit≤ tt, lit< tt)
  small (Returned.first w none) = ((wrong_number d w).1, position w none)

  pub verdict_small : ((verdict d).number ≤ 12) × ((verdict d).position < 384)
  verdict_small = small (verdict_returned d)
