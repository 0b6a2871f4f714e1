-- A description is accepted exactly if no refusal applies.
use mathlib.Core.Path.{◌≡◌, refl}
use mathlib.Core.Logic.{inl, inr, ◌↔◌}
use mathlib.Core.List.{List}
use Prim.Native.Nat.{ℕ, suc, zero, ◌*◌, ◌+◌, ◌≤◌, ◌<◌}
use native.Mathlib.Omega.{arith}
use lib.ListN.{get_or, length}
use lib.Dec.{not_T, T_not, lit<, lit≤}
use Rattle.topology_rules.specs.Count.{bit}
use Rattle.topology_rules.specs.Format.{mark, version_of, switch_count, cable_count, size_for, hosts_at, end_switch, end_port, EndOf}
use Rattle.topology_rules.specs.Check.{accepted, verdict}
use Rattle.topology_rules.specs.Refusals.{Wrong, short, other_letter, other_version, no_switch, many_switches, many_cables, other_length, uid_zero, uid_again, host_outside, end_nowhere, end_outside, on_one_switch, host_port, used_port}
use Rattle.topology_rules.specs.Accepted.{Switch, End, Accepted}
use Rattle.topology_rules.proofs.Tests.{split, not_different}
use Rattle.topology_rules.proofs.Bits.{high_bit}
use Rattle.topology_rules.proofs.Firsts.{settled_zero}
use Rattle.topology_rules.proofs.Returns.{verdict_settled}

module _ (d : List ℕ) where
  pub wrong_number : {k i : ℕ} → Wrong d k i → (0 < k) × (k ≤ 12)
  wrong_number (short h) = (lit< tt, lit≤ tt)
  wrong_number (other_letter j h x) = (lit< tt, lit≤ tt)
  wrong_number (other_version x) = (lit< tt, lit≤ tt)
  wrong_number (no_switch e) = (lit< tt, lit≤ tt)
  wrong_number (many_switches h) = (lit< tt, lit≤ tt)
  wrong_number (many_cables h) = (lit< tt, lit≤ tt)
  wrong_number (other_length x) = (lit< tt, lit≤ tt)
  wrong_number (uid_zero h e) = (lit< tt, lit≤ tt)
  wrong_number (uid_again j h b e) = (lit< tt, lit≤ tt)
  wrong_number (host_outside p h b o) = (lit< tt, lit≤ tt)
  wrong_number (end_nowhere e h o b) = (lit< tt, lit≤ tt)
  wrong_number (end_outside e h o b) = (lit< tt, lit≤ tt)
  wrong_number (on_one_switch h e) = (lit< tt, lit≤ tt)
  wrong_number (host_port e h o b) = (lit< tt, lit≤ tt)
  wrong_number (used_port e f h o b x y) = (lit< tt, lit≤ tt)

  -- an accepted description's cable has two such ends
  pub end_at : Accepted d → {c e : ℕ} → c < cable_count d → EndOf c e → End d c e
  end_at a h (inl z) = rw z (a.cables _ h).first
  end_at a h (inr z) = rw z (a.cables _ h).second

  none_wrong : Accepted d → (k i : ℕ) → Wrong d k i → ⊥
  none_wrong a k i (short h) = omega (arith, a.size)
  none_wrong a k i (other_letter zero h x) = x a.marked.letter_u
  none_wrong a k i (other_letter (suc zero) h x) = x a.marked.letter_d
  none_wrong a k i (other_letter (suc (suc zero)) h x) = x a.marked.letter_r
  none_wrong a k i (other_letter (suc (suc (suc j))) h x) = omega arith
  none_wrong a k i (other_version x) = x a.version
  none_wrong a k i (no_switch e) = omega (arith, a.some_switch)
  none_wrong a k i (many_switches h) = omega (arith, a.few_switches)
  none_wrong a k i (many_cables h) = omega (arith, a.few_cables)
  none_wrong a k i (other_length x) = x a.size
  none_wrong a k i (uid_zero h e) = (a.switches i h).uid_some e
  none_wrong a k i (uid_again j h b e) = (a.switches i h).uid_new j b e
  none_wrong a k i (host_outside p h b (inl e)) = T_not (bit (hosts_at d i) 0) (a.switches i h).hosts_low (rw e at b)
  none_wrong a k i (host_outside p h b (inr l)) = omega (arith, (high_bit 13 (hosts_at d i)).1 (p, l, b), (a.switches i h).hosts_high)
  none_wrong a k c (end_nowhere e h o b) = omega (arith, (end_at a h o).switch_there)
  none_wrong a k c (end_outside e h o (inl z)) = omega (arith, (end_at a h o).port_low)
  none_wrong a k c (end_outside e h o (inr l)) = omega (arith, (end_at a h o).port_high)
  none_wrong a k c (on_one_switch h e) = (a.cables c h).apart e
  none_wrong a k c (host_port e h o b) = T_not (bit (hosts_at d (end_switch d e)) (end_port d e)) (end_at a h o).no_host b
  none_wrong a k c (used_port e f h o b x y) = (end_at a h o).unused f b x y

  -- the other way round
  module _ (fine : (k i : ℕ) → Wrong d k i → ⊥) where
    switch_fine : (i : ℕ) → i < switch_count d → Switch d i
    switch_fine i h = record {
      uid_some = λ e. fine 7 i (uid_zero h e);
      uid_new = λ j b e. fine 7 i (uid_again j h b e);
      hosts_low = not_T (bit (hosts_at d i) 0) (λ t. fine 8 i (host_outside 0 h t (inl refl)));
      hosts_high = elim (split (hosts_at d i) 8192) [
        | inl l ↦ l
        | inr l ↦ let (p, q, b) = (high_bit 13 (hosts_at d i)).0 l in absurd (fine 8 i (host_outside p h b (inr q)))
      ];
    }

    end_fine : (c e : ℕ) → c < cable_count d → EndOf c e → End d c e
    end_fine c e h o =
        let there : switch_count d ≤ end_switch d e → ⊥ = λ b. fine 9 c (end_nowhere e h o b) in
        let low : end_port d e ≡ 0 → ⊥ = λ z. fine 10 c (end_outside e h o (inl z)) in
        let high : 12 < end_port d e → ⊥ = λ l. fine 10 c (end_outside e h o (inr l)) in
        record {
          switch_there = omega arith;
          port_low = omega arith;
          port_high = omega arith;
          no_host = not_T (bit (hosts_at d (end_switch d e)) (end_port d e)) (λ t. fine 12 c (host_port e h o t));
          unused = λ f b x y. fine 12 c (used_port e f h o b x y);
        }

    letter : (k : ℕ) → k < 3 → get_or d k 0 ≡ get_or mark k 0
    letter k h = not_different (get_or d k 0) (get_or mark k 0) (λ x. fine 2 0 (other_letter k h x))

    all_fine : Accepted d
    all_fine =
        let some : switch_count d ≡ 0 → ⊥ = λ e. fine 4 0 (no_switch e) in
        let few : 64 < switch_count d → ⊥ = λ h. fine 4 0 (many_switches h) in
        let fewer : 384 < cable_count d → ⊥ = λ h. fine 5 0 (many_cables h) in
        record {
          marked = record { letter_u = letter 0 (lit< tt); letter_d = letter 1 (lit< tt); letter_r = letter 2 (lit< tt) };
          version = not_different (version_of d) 1 (λ x. fine 3 0 (other_version x));
          some_switch = omega arith;
          few_switches = omega arith;
          few_cables = omega arith;
          size = not_different (length d) (size_for (switch_count d) (cable_count d)) (λ x. fine 6 0 (other_length x));
          switches = switch_fine;
          cables = λ c h. record {
            first = end_fine c (2 * c) h (inl refl);
            second = end_fine c (2 * c + 1) h (inr refl);
            apart = λ e. fine 11 c (on_one_switch h e);
          };
        }

  pub accepted_rule : Accepted d ↔ ((k i : ℕ) → Wrong d k i → ⊥)
  accepted_rule = (none_wrong, all_fine)

  -- checking returns 0 exactly for these, and then at position 0
  pub verdict_zero : (verdict d).number ≡ 0 → (verdict d ≡ accepted) × Accepted d
  verdict_zero e = let (v, fine) = settled_zero (Wrong d) (verdict d) (verdict_settled d) e in (v, all_fine fine)

  pub verdict_rule : ((verdict d).number ≡ 0) ↔ Accepted d
  verdict_rule = (
    λ e. (verdict_zero e).1,
    λ a. elim (verdict_settled d).0 [ inl e ↦ e.0 | inr w ↦ absurd (none_wrong a _ _ w) ],
  )
