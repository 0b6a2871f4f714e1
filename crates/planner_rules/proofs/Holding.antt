-- What an entry holds, in the rules' words, and which entries are 0.
use Prim.Native.Nat.{ℕ, ◌+◌, ◌*◌, ◌%◌, ◌^◌, ◌<◌}
use mathlib.Core.Bool.{not}
use mathlib.Core.List.{List, [], ◌∷◌}
use mathlib.Core.Logic.{inl, inr, ◌↔◌}
use mathlib.Core.Path.{◌≡◌, refl, sym, ap, ◌∙◌}
use native.Mathlib.Omega.{arith}
use lib.Dec.{T, ltb→lt, T_not}
use Rattle.topology_rules.specs.Count.{bit}
use Rattle.topology_rules.specs.Net.{Net, WellFormed, leaving, host}
use Rattle.topology_rules.proofs.Tests.{same_test}
use Rattle.topology_rules.proofs.Bits.{same_bits}
use Rattle.planner_rules.specs.Tree.{joined, up}
use Rattle.planner_rules.specs.Routes.{Arrival, bound}
use Rattle.planner_rules.specs.Table.{good, destination, arrival, entry}
use Rattle.planner_rules.specs.Rules.{Legal, Leaves, Attached, Arrives, Addresses, Good, Holds, here, onward}
use Rattle.planner_rules.proofs.Heights.{legal_joined}
use Rattle.planner_rules.proofs.Ports.{leaving_leaves, leaves_leaving, attached_exactly, delivers_low, cable_or_out}
use Rattle.planner_rules.proofs.Addresses.{good_exactly, addresses_one}
use Rattle.planner_rules.proofs.Entries.{Chosen, entry_rule, entry_lt, entry_home, entry_none, entry_some}
use Rattle.planner_rules.proofs.Arrivals.{attached_arrives, arrives_so}

module _ (n : Net) (w : WellFormed n) where
  -- a good address is port a % 16 of the switch that holds its number
  addressed : (a : ℕ) → T (good n a) → Addresses n a (destination n a) (a % 16)
  addressed a g =
      let (t, q, x) = (good_exactly n w a).0 g in
      let e = addresses_one n w a t q x in
      rw (e.0, e.1) at x

  chosen_holds : (s i a p : ℕ) → Chosen n s i a p → Holds n s i a p
  chosen_holds s i a p (on, g, x) = elim x [
    | inl h ↦ here at (rw (h.0, h.1) (addressed a g))
    | inr h ↦
        let l = h.1.1.0.0 in
        onward h.1.0 at (addressed a g) h.0 (attached_arrives n w s i at) (leaving_leaves n s p (ltb→lt (leaving n s p) n.channels l)) h.1.1
  ]
    where
      at : Attached n s i
      at = (attached_exactly n w s i).0 on

  holds_chosen : (s i a p : ℕ) → Holds n s i a p → Chosen n s i a p
  holds_chosen s i a p (here at x) = ((attached_exactly n w s i).1 at, (good_exactly n w a).1 (s, p, x), inl (addresses_one n w a s p x))
  holds_chosen s i a p (onward {t = t} {q = q} {c = c} {k = k} r at x d v l sh) = (
    (attached_exactly n w s i).1 at,
    (good_exactly n w a).1 (t, q, x),
    inr (λ e. d (e ∙ sym to), (r, rw (← to, leaves_leaving n w s p c l, ← (arrives_so n w s i k v).1) sh)),
  )
    where
      to : t ≡ destination n a
      to = (addresses_one n w a t q x).0

  pub holds_exactly : (s i a p : ℕ) → T (bit (entry n s i a) p) ↔ Holds n s i a p
  holds_exactly s i a p = let r = entry_rule n w s i a p in (λ t. chosen_holds s i a p (r.0 t), λ h. r.1 (holds_chosen s i a p h))

  -- no port, so discard
  pub holds_none : (s i a : ℕ) → ((p : ℕ) → Holds n s i a p → ⊥) → entry n s i a ≡ 0
  holds_none s i a none = entry_none n w s i a (λ p c. none p (chosen_holds s i a p c))

  -- a port is held only where a legal remainder exists
  pub holds_way : (s i a p t q : ℕ) (k : Arrival) → Holds n s i a p → Arrives n s i k → Addresses n a t q → (r : List ℕ) × Legal n k s r t
  holds_way s i a p t q k (here at x) v y = ([], (addresses_one n w a s p x).0 ∙ sym (addresses_one n w a t q y).0)
  holds_way s i a p t q k (onward {t = u} {q = o} {c = c} {k = j} r at x d z l sh) v y =
      let to = (addresses_one n w a u o x).0 ∙ sym (addresses_one n w a t q y).0 in
      let so = (arrives_so n w s i j z).1 ∙ sym (arrives_so n w s i k v).1 in
      (c ∷ r, rw (← to, ← so) sh.0)

  pub unattached_discards : (s i a : ℕ) → (Attached n s i → ⊥) → entry n s i a ≡ 0
  unattached_discards s i a none = holds_none s i a (λ p h. none ((attached_exactly n w s i).0 (holds_chosen s i a p h).0))

  pub bad_discards : (s i a : ℕ) → (Good n a → ⊥) → entry n s i a ≡ 0
  bad_discards s i a none = holds_none s i a (λ p h. none ((good_exactly n w a).0 (holds_chosen s i a p h).1))

  pub no_way_discards : (s i a t q : ℕ) (k : Arrival) → Arrives n s i k → Addresses n a t q → ((r : List ℕ) → Legal n k s r t → ⊥) → entry n s i a ≡ 0
  no_way_discards s i a t q k v x none = holds_none s i a (λ p h. let (r, l) = holds_way s i a p t q k h v x in none r l)

  -- another component
  pub apart_discards : (s i a t q : ℕ) → Addresses n a t q → T (not (joined n s t)) → entry n s i a ≡ 0
  apart_discards s i a t q x d = holds_none s i a (λ p h.
      let v = attached_arrives n w s i ((attached_exactly n w s i).0 (holds_chosen s i a p h).0) in
      let (r, l) = holds_way s i a p t q (arrival n s i) h v x in
      T_not (joined n s t) d (legal_joined n w (arrival n s i) s t r l))

  pub way_serves : (s i a t q : ℕ) (k : Arrival) → Arrives n s i k → Addresses n a t q → (r : List ℕ) → Legal n k s r t → 0 < entry n s i a
  way_serves s i a t q k v x r l =
      let (at, so) = arrives_so n w s i k v in
      entry_some n w s i a ((attached_exactly n w s i).1 at) ((good_exactly n w a).1 (t, q, x)) r (rw (← so, ← (addresses_one n w a t q x).0) l)

  -- what has come down goes on down
  pub bound_down : (s i a p c : ℕ) → Arrives n s i bound → T (bit (entry n s i a) p) → Leaves n s p c → T (not (up n c))
  bound_down s i a p c v b l = go ((holds_exactly s i a p).0 b)
    where
      go : Holds n s i a p → T (not (up n c))
      go (here at x) = absurd (cable_or_out n w s p c l x.served)
      go (onward {c = e} {k = k} r at x d z m sh) =
          let same : e ≡ c = sym (leaves_leaving n w s p e m) ∙ leaves_leaving n w s p c l in
          let so : k ≡ bound = (arrives_so n w s i k z).1 ∙ sym (arrives_so n w s i bound v).1 in
          rw (so, same) at sh.0.2

  -- at the destination the addressed port alone; a host's packet to its own address comes back
  pub home_exactly : (s i a q : ℕ) → Attached n s i → Addresses n a s q → entry n s i a ≡ 2 ^ q
  home_exactly s i a q at x =
      let (to, port) = addresses_one n w a s q x in
      entry_home n w s i a ((attached_exactly n w s i).1 at) ((good_exactly n w a).1 (s, q, x)) to ∙ ap (λ (p : ℕ). 2 ^ p) (sym port)

  pub own_address : (s q : ℕ) → s < n.switches → T (host n s q) → entry n s q (16 * n.number s + q) ≡ 2 ^ q
  own_address s q h t =
      let low = delivers_low n w s q h (inr t) in
      home_exactly s q (16 * n.number s + q) q (inl (inr t)) (record { a_switch = h; a_port = omega arith; spelled = refl; served = inr t })

  -- an entry depends on the incoming port only through the arrival
  pub arrival_decides : (s i j a : ℕ) (k : Arrival) → Arrives n s i k → Arrives n s j k → entry n s i a ≡ entry n s j a
  arrival_decides s i j a k v x =
      same_bits 13 (entry n s i a) (entry n s j a) (entry_lt n w s i a) (entry_lt n w s j a)
      (λ p l. same_test (bit (entry n s i a) p) (bit (entry n s j a) p) (carry i j p v x) (carry j i p x v))
    where
      carry : (i j p : ℕ) → Arrives n s i k → Arrives n s j k → T (bit (entry n s i a) p) → T (bit (entry n s j a) p)
      carry i j p v x t =
          let (on, g, c) = (entry_rule n w s i a p).0 t in
          let (at, so) = arrives_so n w s j k x in
          (entry_rule n w s j a p).1 ((attached_exactly n w s j).1 at, g, rw (← (arrives_so n w s i k v).1, so) at c)
