-- Numbers and addresses name switches and ports, whatever the numbering.
use Prim.Native.Nat.{ℕ, ◌+◌, ◌*◌, ◌/◌, ◌%◌, ◌≤◌, ◌<◌}
use mathlib.Core.Logic.{◌↔◌}
use mathlib.Core.Path.{◌≡◌, sym}
use native.Mathlib.Omega.{arith}
use lib.Dec.{T, eqb, ltb, leb, eqb_refl, eqb→eq, ltb→lt, lt→ltb, leb→le, le→leb}
use Rattle.topology_rules.specs.Count.{both}
use Rattle.topology_rules.specs.Net.{Net, WellFormed, delivers}
use Rattle.topology_rules.proofs.Tests.{both_T, T_both}
use Rattle.topology_rules.proofs.Searches.{least_finds, least_first}
use Rattle.planner_rules.specs.Table.{holder, destination, good}
use Rattle.planner_rules.specs.Rules.{Addresses, Good}
use Rattle.planner_rules.proofs.Ports.{delivers_exactly}

module _ (n : Net) where
  pub holder_is : (k : ℕ) → holder n k < n.switches → n.number (holder n k) ≡ k
  unfolding holder
  holder_is k h = eqb→eq (n.number (holder n k)) k (least_finds (λ s. eqb (n.number s) k) n.switches h)

  -- what the test of a good address says
  pub record GoodTest (a : ℕ) : Type 0 where
    pub low : 16 ≤ a
    pub high : a ≤ 1039
    pub held : destination n a < n.switches
    pub port : T (delivers n (destination n a) (a % 16))

  pub good_is : (a : ℕ) → T (good n a) → GoodTest a
  good_is a g =
      let to = destination n a in
      let x = both_T (both (leb 16 a) (leb a 1039)) (both (ltb to n.switches) (delivers n to (a % 16))) g in
      let y = both_T (leb 16 a) (leb a 1039) x.0 in
      let z = both_T (ltb to n.switches) (delivers n to (a % 16)) x.1 in
      record { low = leb→le 16 a y.0; high = leb→le a 1039 y.1; held = ltb→lt to n.switches z.0; port = z.1 }

  is_good : (a : ℕ) → GoodTest a → T (good n a)
  is_good a g =
      let to = destination n a in
      T_both (both (leb 16 a) (leb a 1039)) (both (ltb to n.switches) (delivers n to (a % 16)))
      (T_both (leb 16 a) (leb a 1039) (le→leb 16 a g.low) (le→leb a 1039 g.high))
      (T_both (ltb to n.switches) (delivers n to (a % 16)) (lt→ltb to n.switches g.held) g.port)

  module _ (w : WellFormed n) where
    pub holder_of : (s : ℕ) → s < n.switches → holder n (n.number s) ≡ s
    unfolding holder
    holder_of s h =
        let low = least_first (λ t. eqb (n.number t) (n.number s)) n.switches s (eqb_refl (n.number s)) in
        let at : holder n (n.number s) < n.switches = omega arith in
        w.numbers_differ (holder n (n.number s)) s at h (holder_is (n.number s) at)

    -- a number is held exactly if some switch has it, and by that switch
    pub held_by : (k s : ℕ) → s < n.switches → n.number s ≡ k → holder n k ≡ s
    held_by k s h e = rw e at (holder_of s h)

    pub held_exactly : (k : ℕ) → (holder n k < n.switches) ↔ ((s : ℕ) × (s < n.switches) × (n.number s ≡ k))
    held_exactly k = (λ h. (holder n k, h, holder_is k h), λ (s, h, e). rw (held_by k s h e) h)

    pub destination_of : (s p : ℕ) → s < n.switches → p < 16 → destination n (16 * n.number s + p) ≡ s
    destination_of s p h l = let e : (16 * n.number s + p) / 16 ≡ n.number s = omega arith in rw e (holder_of s h)

    -- good: the number is a switch's, and the port is 0 or a host port of that switch
    pub good_rule : (a : ℕ) → T (good n a) ↔ ((s : ℕ) × (p : ℕ) × (s < n.switches) × (p < 16) × T (delivers n s p) × (a ≡ 16 * n.number s + p))
    good_rule a = (out, λ (s, p, h, l, t, e). rw e (is_good (16 * n.number s + p) (back s p h l t)))
      where
        out : T (good n a) → (s : ℕ) × (p : ℕ) × (s < n.switches) × (p < 16) × T (delivers n s p) × (a ≡ 16 * n.number s + p)
        out t = let g = good_is a t in (destination n a, a % 16, g.held, omega arith, g.port, omega (arith, holder_is (a / 16) g.held))

        back : (s p : ℕ) → s < n.switches → p < 16 → T (delivers n s p) → GoodTest (16 * n.number s + p)
        back s p h l t = record {
          low = omega (arith, w.number_low s h);
          high = omega (arith, w.number_high s h);
          held = rw (destination_of s p h l) h;
          port = let e : (16 * n.number s + p) % 16 ≡ p = omega arith in rw (destination_of s p h l, e) t;
        }

    -- the same in the rules' words, and what an address leaves no choice in
    pub good_exactly : (a : ℕ) → T (good n a) ↔ Good n a
    good_exactly a = (
      λ t. let (s, p, h, l, d, e) = (good_rule a).0 t in (s, p, record { a_switch = h; a_port = l; spelled = e; served = (delivers_exactly n s p).0 d }),
      λ (s, p, x). (good_rule a).1 (s, p, x.a_switch, x.a_port, (delivers_exactly n s p).1 x.served, x.spelled),
    )

    pub addresses_one : (a t q : ℕ) → Addresses n a t q → (t ≡ destination n a) × (q ≡ a % 16)
    addresses_one a t q x = rw x.spelled (sym (destination_of t q x.a_switch x.a_port), omega (arith, x.a_port))

    pub address_range : (a t q : ℕ) → Addresses n a t q → (16 ≤ a) × (a ≤ 1039)
    address_range a t q x = let g = good_is a ((good_exactly a).1 (t, q, x)) in (g.low, g.high)
