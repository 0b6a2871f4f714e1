-- Finding a record by its UID, and the cable at a port.
use mathlib.Core.Path.{◌≡◌, sym, ◌∙◌}
use mathlib.Core.Logic.{inl, inr, ◌↔◌}
use mathlib.Core.Bool.{not}
use mathlib.Core.List.{List}
use Prim.Native.Nat.{ℕ, ◌+◌, ◌*◌, ◌^◌, ◌≤◌, ◌<◌}
use native.Mathlib.Omega.{arith}
use lib.Dec.{T, eqb, leb, eqb→eq, leb→le, le→leb, nleb→lt, not_T}
use Rattle.topology_rules.specs.Count.{bit, either}
use Rattle.topology_rules.specs.Format.{Bytes, switch_count, cable_count, uid_at, hosts_at, end_switch, end_port, EndOf, ends_at}
use Rattle.topology_rules.specs.Accepted.{Accepted}
use Rattle.topology_rules.specs.Edit.{find, cable_of}
use Rattle.topology_rules.specs.EditRules.{Named, CableAt}
use Rattle.topology_rules.proofs.Tests.{split, eq→eqb}
use Rattle.topology_rules.proofs.Searches.{least_finds, least_first}
use Rattle.topology_rules.proofs.Rows.{end_rule, ends_rule}
use Rattle.topology_rules.proofs.Verdicts.{end_at}
use Rattle.topology_rules.proofs.Soundness.{uids_differ, ends_differ}

-- A search that ends at its bound found nothing.
module _ {A : Type 0} (n x : ℕ) (r : (x < n) ↔ A) where
  none_found : T (leb n x) ↔ (A → ⊥)
  none_found = (λ t a. omega (arith, leb→le n x t, r.1 a), λ f. elim (split x n) [ inl h ↦ absurd (f (r.0 h)) | inr h ↦ le→leb n x h ])

  some_found : (T (leb n x) → ⊥) → x < n
  some_found f = nleb→lt n x (not_T (leb n x) f)

module _ (d : List ℕ) (u : ℕ) where
  pub find_is : find d u < switch_count d → uid_at d (find d u) ≡ u
  unfolding find
  find_is h = eqb→eq (uid_at d (find d u)) u (least_finds (λ i. eqb (uid_at d i) u) (switch_count d) h)

  pub find_rule : (find d u < switch_count d) ↔ ((i : ℕ) × (i < switch_count d) × (uid_at d i ≡ u))
  unfolding find
  find_rule = (
    λ h. (find d u, h, find_is h),
    λ (i, h, e). omega (arith, h, least_first (λ i. eqb (uid_at d i) u) (switch_count d) i (eq→eqb (uid_at d i) u e)),
  )

  pub unknown_rule : T (leb (switch_count d) (find d u)) ↔ ((i : ℕ) → Named d u i → ⊥)
  unknown_rule = let r = none_found (switch_count d) (find d u) find_rule in (λ t i (h, e). r.0 t (i, h, e), λ f. r.1 (λ (i, h, e). f i (h, e)))

  pub known : (T (leb (switch_count d) (find d u)) → ⊥) → Named d u (find d u)
  known f = let h = some_found (switch_count d) (find d u) find_rule f in (h, find_is h)

  -- a UID argument above 48 bits is not found
  pub found_narrow : Bytes d → find d u < switch_count d → u < 2 ^ 48
  found_narrow b h =
      let at = 9 + 8 * find d u in
      omega (arith, find_is h, b at, b (at + 1), b (at + 2), b (at + 2 + 1), b (at + 4), b (at + 4 + 1))

  -- in an accepted description one record at most has that UID
  pub found_once : Accepted d → (i : ℕ) → Named d u i → find d u ≡ i
  found_once a i (h, e) = let f = find_rule.1 (i, h, e) in uids_differ d a (find d u) i f h (find_is f ∙ sym e)

module _ (d : List ℕ) where
  -- the first cable at that port
  cable_test : (i p c : ℕ) → T (either (ends_at d i p (2 * c)) (ends_at d i p (2 * c + 1))) ↔ ((e : ℕ) × EndOf c e × ((end_switch d e ≡ i) × (end_port d e ≡ p)))
  cable_test i p c = end_rule c (ends_at d i p) (ends_rule d i p)

  pub cable_is : (i p : ℕ) → cable_of d i p < cable_count d → CableAt d i p (cable_of d i p)
  unfolding cable_of
  cable_is i p h =
      let (e, o, (s, q)) = (cable_test i p (cable_of d i p)).0 (least_finds (λ c. either (ends_at d i p (2 * c)) (ends_at d i p (2 * c + 1))) (cable_count d) h) in
      (h, (e, o, s, q))

  pub cable_found : (i p : ℕ) → (cable_of d i p < cable_count d) ↔ ((c : ℕ) × CableAt d i p c)
  unfolding cable_of
  cable_found i p = (
    λ h. (cable_of d i p, cable_is i p h),
    λ (c, (h, (e, o, s, q))).
        omega (arith, h, least_first (λ c. either (ends_at d i p (2 * c)) (ends_at d i p (2 * c + 1))) (cable_count d) c ((cable_test i p c).1 (e, o, (s, q)))),
  )

  pub none_rule : (i p : ℕ) → T (leb (cable_count d) (cable_of d i p)) ↔ ((c : ℕ) → CableAt d i p c → ⊥)
  none_rule i p = let r = none_found (cable_count d) (cable_of d i p) (cable_found i p) in (λ t c k. r.0 t (c, k), λ f. r.1 (λ (c, k). f c k))

  pub cabled : (i p : ℕ) → (T (leb (cable_count d) (cable_of d i p)) → ⊥) → CableAt d i p (cable_of d i p)
  cabled i p f = cable_is i p (some_found (cable_count d) (cable_of d i p) (cable_found i p) f)

  -- In an accepted description one cable at most is at a port.
  module _ (a : Accepted d) where
    pub cable_once : (i p c : ℕ) → CableAt d i p c → cable_of d i p ≡ c
    cable_once i p c (h, (e, o, s, q)) =
        let (l, (f, k, t, r)) = cable_is i p ((cable_found i p).1 (c, (h, (e, o, s, q)))) in
        same o k (ends_differ d a e f (within h o) (within l k) (s ∙ sym t) (q ∙ sym r))
      where
        within : {x y : ℕ} → x < cable_count d → EndOf x y → y < 2 * cable_count d
        within h (inl z) = omega arith
        within h (inr z) = omega arith

        same : {x y z w : ℕ} → EndOf x y → EndOf z w → y ≡ w → z ≡ x
        same (inl o) (inl k) e = omega arith
        same (inl o) (inr k) e = absurd (omega arith)
        same (inr o) (inl k) e = absurd (omega arith)
        same (inr o) (inr k) e = omega arith

    -- none is at port 0, at a host port or above 12
    pub cable_port : (i p c : ℕ) → CableAt d i p c → (0 < p) × (p ≤ 12) × T (not (bit (hosts_at d i) p))
    cable_port i p c (h, (e, o, s, q)) = let x = end_at d a h o in rw (← s, ← q) (x.port_low, x.port_high, x.no_host)
