-- Each test of the check, and the statement that it tests.
use mathlib.Core.Path.{◌≡◌, refl}
use mathlib.Core.Logic.{◌⊎◌, inl, inr, ◌↔◌, ◌≢◌}
use mathlib.Core.Bool.{Bool, not}
use mathlib.Core.List.{List}
use Prim.Native.Nat.{ℕ, suc, zero, ◌+◌, ◌*◌, ◌≤◌, ◌<◌}
use native.Mathlib.Omega.{arith}
use lib.ListN.{get_or}
use lib.Dec.{T, ltb, leb, eqb, eqb→eq, leb→le, le→leb, ltb→lt, lt→ltb, lit<}
use Rattle.topology_rules.specs.Count.{either, bit, any}
use Rattle.topology_rules.specs.Format.{mark, switch_count, uid_at, hosts_at, end_switch, end_port, EndOf, ends_at}
use Rattle.topology_rules.specs.Check.{letter_differs, mark_differs, bad_count, bad_uid, bad_hosts, bad_port, port_taken}
use Rattle.topology_rules.proofs.Tests.{either_T, T_either, both_T, T_both, eq→eqb, ne→neqb, neqb→ne}
use Rattle.topology_rules.proofs.Searches.{any_T, T_any}
use Rattle.topology_rules.proofs.Bits.{high_bit}

-- one test or the other
pub or_rule : {A B : Type 0} (a b : Bool) → T a ↔ A → T b ↔ B → T (either a b) ↔ (A ⊎ B)
or_rule a b p q = (
  λ t. elim (either_T a b t) [ inl x ↦ inl (p.0 x) | inr x ↦ inr (q.0 x) ],
  λ s. T_either a b (elim s [ inl x ↦ inl (p.1 x) | inr x ↦ inr (q.1 x) ]),
)

pub any_rule : {A : ℕ → Type 0} (k : ℕ) (f : ℕ → Bool) → ((i : ℕ) → T (f i) ↔ A i) → T (any k f) ↔ ((i : ℕ) × (i < k) × A i)
any_rule k f p = (λ t. let w = any_T f k t in (w.0, w.1, (p w.0).0 w.2), λ w. T_any f k w.0 w.1 ((p w.0).1 w.2))

-- one of a cable's two ends
pub end_rule : {A : ℕ → Type 0} (c : ℕ) (f : ℕ → Bool) → ((e : ℕ) → T (f e) ↔ A e) → T (either (f (2 * c)) (f (2 * c + 1))) ↔ ((e : ℕ) × EndOf c e × A e)
end_rule {A} c f p = (out, λ w. T_either (f (2 * c)) (f (2 * c + 1)) (side w.1 ((p w.0).1 w.2)))
  where
    out : T (either (f (2 * c)) (f (2 * c + 1))) → (e : ℕ) × EndOf c e × A e
    out t = elim (either_T (f (2 * c)) (f (2 * c + 1)) t) [ inl x ↦ (2 * c, inl refl, (p (2 * c)).0 x) | inr x ↦ (2 * c + 1, inr refl, (p (2 * c + 1)).0 x) ]

    side : {e : ℕ} → EndOf c e → T (f e) → T (f (2 * c)) ⊎ T (f (2 * c + 1))
    side (inl z) t = inl (rw z at t)
    side (inr z) t = inr (rw z at t)

module _ (a b : ℕ) where
  pub eq_rule : T (eqb a b) ↔ (a ≡ b)
  eq_rule = (eqb→eq a b, eq→eqb a b)

  pub ne_rule : T (not (eqb a b)) ↔ (a ≢ b)
  ne_rule = (neqb→ne a b, ne→neqb a b)

  pub lt_rule : T (ltb a b) ↔ (a < b)
  lt_rule = (ltb→lt a b, lt→ltb a b)

  pub le_rule : T (leb a b) ↔ (a ≤ b)
  le_rule = (leb→le a b, le→leb a b)

module _ (d : List ℕ) where
  abbrev OtherLetter : ℕ → Type 0
  OtherLetter k = get_or d k 0 ≢ get_or mark k 0

  pub mark_rule : T (mark_differs d) ↔ ((k : ℕ) × (k < 3) × OtherLetter k)
  mark_rule = (
    λ t. elim (three.0 t) [ inl x ↦ (0, lit< tt, x) | inr y ↦ elim y [ inl x ↦ (1, lit< tt, x) | inr x ↦ (2, lit< tt, x) ] ],
    λ w. three.1 (which w.0 w.1 w.2),
  )
    where
      letter : (k : ℕ) → T (letter_differs d k) ↔ OtherLetter k
      letter k = ne_rule (get_or d k 0) (get_or mark k 0)

      three : T (mark_differs d) ↔ (OtherLetter 0 ⊎ (OtherLetter 1 ⊎ OtherLetter 2))
      three = or_rule (letter_differs d 0) _ (letter 0) (or_rule (letter_differs d 1) (letter_differs d 2) (letter 1) (letter 2))

      which : (k : ℕ) → k < 3 → OtherLetter k → OtherLetter 0 ⊎ (OtherLetter 1 ⊎ OtherLetter 2)
      which zero h x = inl x
      which (suc zero) h x = inr (inl x)
      which (suc (suc zero)) h x = inr (inr x)
      which (suc (suc (suc k))) h x = absurd (omega arith)

  pub count_rule : T (bad_count (switch_count d)) ↔ ((switch_count d ≡ 0) ⊎ (64 < switch_count d))
  count_rule = or_rule (eqb (switch_count d) 0) (ltb 64 (switch_count d)) (eq_rule (switch_count d) 0) (lt_rule 64 (switch_count d))

  pub uid_rule : (i : ℕ) → T (bad_uid d i) ↔ ((uid_at d i ≡ 0) ⊎ ((j : ℕ) × (j < i) × (uid_at d j ≡ uid_at d i)))
  uid_rule i = or_rule (eqb (uid_at d i) 0) _ (eq_rule (uid_at d i) 0) (any_rule i _ (λ j. eq_rule (uid_at d j) (uid_at d i)))

  -- a bit above 12 is there exactly from 2 ^ 13 on
  pub hosts_rule : (i : ℕ) → T (bad_hosts d i) ↔ ((p : ℕ) × T (bit (hosts_at d i) p) × ((p ≡ 0) ⊎ (12 < p)))
  hosts_rule i = (
    λ t. elim (halves.0 t) [ inl x ↦ (0, x, inl refl) | inr h ↦ let w = (high_bit 13 m).0 h in (w.0, w.2, inr w.1) ],
    λ w. halves.1 (elim w.2 [ inl e ↦ inl (rw e at w.1) | inr h ↦ inr ((high_bit 13 m).1 (w.0, h, w.1)) ]),
  )
    where
      m : ℕ
      m = hosts_at d i

      halves : T (bad_hosts d i) ↔ (T (bit m 0) ⊎ (8192 ≤ m))
      halves = or_rule (bit m 0) (leb 8192 m) (λ t. t, λ t. t) (le_rule 8192 m)

  pub port_rule : (e : ℕ) → T (bad_port (end_port d e)) ↔ ((end_port d e ≡ 0) ⊎ (12 < end_port d e))
  port_rule e = or_rule (eqb (end_port d e) 0) (ltb 12 (end_port d e)) (eq_rule (end_port d e) 0) (lt_rule 12 (end_port d e))

  pub ends_rule : (i p e : ℕ) → T (ends_at d i p e) ↔ ((end_switch d e ≡ i) × (end_port d e ≡ p))
  ends_rule i p e = (
    λ t. let q = both_T (eqb (end_switch d e) i) (eqb (end_port d e) p) t in (eqb→eq (end_switch d e) i q.0, eqb→eq (end_port d e) p q.1),
    λ q. T_both (eqb (end_switch d e) i) (eqb (end_port d e) p) (eq→eqb (end_switch d e) i q.0) (eq→eqb (end_port d e) p q.1),
  )

  -- the port of end e has a host, or an earlier cable's end
  abbrev pub Taken : ℕ → ℕ → Type 0
  Taken c e = T (bit (hosts_at d (end_switch d e)) (end_port d e)) ⊎ ((f : ℕ) × (f < 2 * c) × ((end_switch d f ≡ end_switch d e) × (end_port d f ≡ end_port d e)))

  pub taken_rule : (c e : ℕ) → T (port_taken d c e) ↔ Taken c e
  taken_rule c e = or_rule (bit (hosts_at d (end_switch d e)) (end_port d e)) _ (λ t. t, λ t. t) (any_rule (2 * c) _ (ends_rule (end_switch d e) (end_port d e)))
