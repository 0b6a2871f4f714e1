-- Checking a description returns the first refusal that applies.
use mathlib.Core.Path.{◌≡◌, refl, sym}
use mathlib.Core.Logic.{◌⊎◌, inl, inr, ◌↔◌}
use mathlib.Core.List.{List, [], ◌∷◌}
use Prim.Native.Nat.{ℕ, suc, zero, ◌+◌, ◌*◌, ◌≤◌, ◌<◌}
use native.Mathlib.Nat.{add-zero}
use native.Mathlib.Omega.{arith}
use lib.ListN.{length}
use lib.Dec.{T, ltb}
use Rattle.topology_rules.specs.Format.{version_of, switch_count, cable_count, size_for, end_switch, end_port, EndOf}
use Rattle.topology_rules.specs.Check.{Verdict, accepted, verdict, switches_from, cables_from, switch_rule, cable_rule, mark_differs, version_differs, bad_count, length_differs, bad_uid, bad_hosts, bad_switch, bad_switches, bad_port, bad_ports, one_switch, port_taken, ports_taken}
use Rattle.topology_rules.specs.Refusals.{stage, Returned, Wrong, short, other_letter, other_version, no_switch, many_switches, many_cables, other_length, uid_zero, uid_again, host_outside, end_nowhere, end_outside, on_one_switch, host_port, used_port}
use Rattle.topology_rules.proofs.Searches.{below_cases}
use Rattle.topology_rules.proofs.Firsts.{NotLater, Warranted, Settled, returned}
use Rattle.topology_rules.proofs.Chains.{Rules, Says, and_then, test_of, chain_warranted, chain_past, chain_met}
use Rattle.topology_rules.proofs.Rows.{mark_rule, ne_rule, lt_rule, le_rule, eq_rule, count_rule, uid_rule, hosts_rule, end_rule, port_rule, Taken, taken_rule}

-- Records in file order: what holds of the rest holds of all, record by record.
module _ (from : ℕ → ℕ → Verdict) (rule : ℕ → Verdict → Verdict) (rest : Verdict)
    (ends : (i : ℕ) → from 0 i ≡ rest) (goes : (n i : ℕ) → from (suc n) i ≡ rule i (from n (suc i))) where
  along : (Q : ℕ → Verdict → Type 0) (n i : ℕ) → Q (i + n) rest → ((j : ℕ) (v : Verdict) → j < i + n → Q (suc j) v → Q j (rule j v)) → Q i (from n i)
  along Q zero i r step = rw (ends i) (rw add-zero at r)
  along Q (suc n) i r step =
      let on : i + suc n ≡ suc i + n = omega arith in
      rw (goes n i) (step i (from n (suc i)) (omega arith) (along Q n (suc i) (rw on at r) (λ j v h q. step j v (omega arith) q)))

  -- a refusal of record j
  reach : (k n j : ℕ) → j < n → ((i : ℕ) (v : Verdict) → i < j → NotLater v k j → NotLater (rule i v) k j) → ((v : Verdict) → NotLater (rule j v) k j) → NotLater (from n 0) k j
  reach k n j h before own = along (λ i v. i ≤ j → NotLater v k j) n 0 (λ l. absurd (omega arith)) step (omega arith)
    where
      step : (i : ℕ) (v : Verdict) → i < 0 + n → (suc i ≤ j → NotLater v k j) → i ≤ j → NotLater (rule i v) k j
      step i v h q l = elim (below_cases i j (omega arith)) [ inl e ↦ rw e (own v) | inr b ↦ before i v b (q b) ]

module _ (d : List ℕ) where
  -- The tests, in order: of the header, of a switch record, of a cable record.
  abbrev front : Rules
  front = (ltb (length d) 9, 1) ∷ (mark_differs d, 2) ∷ (version_differs d, 3) ∷ (bad_count (switch_count d), 4) ∷ (ltb 384 (cable_count d), 5) ∷ (length_differs d, 6) ∷ []

  abbrev of_switch : ℕ → Rules
  of_switch i = (bad_uid d i, 7) ∷ (bad_hosts d i, 8) ∷ []

  abbrev of_cable : ℕ → Rules
  of_cable c = (bad_switches d c, 9) ∷ (bad_ports d c, 10) ∷ (one_switch d c, 11) ∷ (ports_taken d c, 12) ∷ []

  -- a cable's tests, of either end
  nowhere_rule : (c : ℕ) → T (bad_switches d c) ↔ ((e : ℕ) × EndOf c e × (switch_count d ≤ end_switch d e))
  nowhere_rule c = end_rule c (bad_switch d) (λ e. le_rule (switch_count d) (end_switch d e))

  outside_rule : (c : ℕ) → T (bad_ports d c) ↔ ((e : ℕ) × EndOf c e × ((end_port d e ≡ 0) ⊎ (12 < end_port d e)))
  outside_rule c = end_rule c (λ e. bad_port (end_port d e)) (port_rule d)

  loop_rule : (c : ℕ) → T (one_switch d c) ↔ (end_switch d (2 * c) ≡ end_switch d (2 * c + 1))
  loop_rule c = eq_rule (end_switch d (2 * c)) (end_switch d (2 * c + 1))

  used_rule : (c : ℕ) → T (ports_taken d c) ↔ ((e : ℕ) × EndOf c e × Taken d c e)
  used_rule c = end_rule c (port_taken d c) (taken_rule d c)

  -- each test that is met says that its refusal applies
  front_says : Says (Wrong d) 0 front
  front_says =
      and_then (λ t. short ((lt_rule (length d) 9).0 t))
      (and_then (λ t. let (k, h, x) = (mark_rule d).0 t in other_letter k h x)
      (and_then (λ t. other_version ((ne_rule (version_of d) 1).0 t))
      (and_then (λ t. elim ((count_rule d).0 t) [ inl e ↦ no_switch e | inr h ↦ many_switches h ])
      (and_then (λ t. many_cables ((lt_rule 384 (cable_count d)).0 t))
      (and_then (λ t. other_length ((ne_rule (length d) (size_for (switch_count d) (cable_count d))).0 t)) tt)))))

  switch_says : (i : ℕ) → i < switch_count d → Says (Wrong d) i (of_switch i)
  switch_says i h =
      and_then (λ t. elim ((uid_rule d i).0 t) [ inl e ↦ uid_zero h e | inr (j, b, e) ↦ uid_again j h b e ])
      (and_then (λ t. let (p, b, o) = (hosts_rule d i).0 t in host_outside p h b o) tt)

  cable_says : (c : ℕ) → c < cable_count d → Says (Wrong d) c (of_cable c)
  cable_says c h =
      and_then (λ t. let (e, o, b) = (nowhere_rule c).0 t in end_nowhere e h o b)
      (and_then (λ t. let (e, o, b) = (outside_rule c).0 t in end_outside e h o b)
      (and_then (λ t. on_one_switch h ((loop_rule c).0 t))
      (and_then (λ t. let (e, o, u) = (used_rule c).0 t in elim u [ inl b ↦ host_port e h o b | inr (f, b, (x, y)) ↦ used_port e f h o b x y ]) tt)))

  abbrev cables : Verdict
  cables = cables_from d (cable_count d) 0

  abbrev switches : Verdict
  switches = switches_from d (switch_count d) 0 cables

  warranted : Warranted (Wrong d) (verdict d)
  unfolding verdict switches_from cables_from
  warranted = chain_warranted (Wrong d) 0 front switches front_says
      (along (λ n i. switches_from d n i cables) (switch_rule d) cables (λ i. refl) (λ n i. refl) (λ i v. Warranted (Wrong d) v) (switch_count d) 0
      (along (cables_from d) (cable_rule d) accepted (λ c. refl) (λ n c. refl) (λ c v. Warranted (Wrong d) v) (cable_count d) 0 (inl (refl, refl))
      (λ c v h. chain_warranted (Wrong d) c (of_cable c) v (cable_says c (omega arith))))
      (λ i v h. chain_warranted (Wrong d) i (of_switch i) v (switch_says i (omega arith))))

  -- no test before its own hides a refusal
  at_front : (k : ℕ) → T (test_of front k) → NotLater (verdict d) k 0
  unfolding verdict
  at_front k t = (chain_met 6 0 switches k 0 front tt t).1

  at_switch : (k i : ℕ) → stage k ≡ 7 → i < switch_count d → T (test_of (of_switch i) k) → NotLater (verdict d) k i
  unfolding verdict switches_from
  at_switch k i s h t = chain_past 6 0 switches k i 0 front tt (inl (omega (arith, s)))
      (reach (λ n i. switches_from d n i cables) (switch_rule d) cables (λ i. refl) (λ n i. refl) k (switch_count d) i h
      (λ j v b. chain_past 8 j v k i 6 (of_switch j) tt (inr (sym s, b))) (λ v. (chain_met 8 i v k 6 (of_switch i) tt t).1))

  at_cable : (k c : ℕ) → stage k ≡ 9 → c < cable_count d → T (test_of (of_cable c) k) → NotLater (verdict d) k c
  unfolding verdict switches_from cables_from
  at_cable k c s h t = chain_past 6 0 switches k c 0 front tt (inl (omega (arith, s)))
      (along (λ n i. switches_from d n i cables) (switch_rule d) cables (λ i. refl) (λ n i. refl) (λ i v. NotLater v k c) (switch_count d) 0
      (reach (cables_from d) (cable_rule d) accepted (λ c. refl) (λ n c. refl) k (cable_count d) c h
      (λ j v b. chain_past 12 j v k c 8 (of_cable j) tt (inr (sym s, b))) (λ v. (chain_met 12 c v k 8 (of_cable c) tt t).1))
      (λ i v h. chain_past 8 i v k c 6 (of_switch i) tt (inl (omega (arith, s)))))

  complete : (k i : ℕ) → Wrong d k i → NotLater (verdict d) k i
  complete k i (short h) = at_front 1 ((lt_rule (length d) 9).1 h)
  complete k i (other_letter j h x) = at_front 2 ((mark_rule d).1 (j, h, x))
  complete k i (other_version x) = at_front 3 ((ne_rule (version_of d) 1).1 x)
  complete k i (no_switch e) = at_front 4 ((count_rule d).1 (inl e))
  complete k i (many_switches h) = at_front 4 ((count_rule d).1 (inr h))
  complete k i (many_cables h) = at_front 5 ((lt_rule 384 (cable_count d)).1 h)
  complete k i (other_length x) = at_front 6 ((ne_rule (length d) (size_for (switch_count d) (cable_count d))).1 x)
  complete k i (uid_zero h e) = at_switch 7 i refl h ((uid_rule d i).1 (inl e))
  complete k i (uid_again j h b e) = at_switch 7 i refl h ((uid_rule d i).1 (inr (j, b, e)))
  complete k i (host_outside p h b o) = at_switch 8 i refl h ((hosts_rule d i).1 (p, b, o))
  complete k c (end_nowhere e h o b) = at_cable 9 c refl h ((nowhere_rule c).1 (e, o, b))
  complete k c (end_outside e h o b) = at_cable 10 c refl h ((outside_rule c).1 (e, o, b))
  complete k c (on_one_switch h e) = at_cable 11 c refl h ((loop_rule c).1 e)
  complete k c (host_port e h o b) = at_cable 12 c refl h ((used_rule c).1 (e, o, inl b))
  complete k c (used_port e f h o b x y) = at_cable 12 c refl h ((used_rule c).1 (e, o, inr (f, b, (x, y))))

  pub verdict_settled : Settled (Wrong d) (verdict d)
  verdict_settled = (warranted, complete)

  pub verdict_returned : Returned (Wrong d) (verdict d)
  verdict_returned = returned (Wrong d) (verdict d) verdict_settled
