-- Ports: which lead out of the net, which have a cable, which are attached.
use Prim.Native.Nat.{ℕ, ◌<◌}
use native.Mathlib.Omega.{arith}
use mathlib.Core.Logic.{inl, inr, ◌↔◌}
use mathlib.Core.Path.{◌≡◌, subst}
use lib.Dec.{T, eqb, eqb→eq, ltb→lt, lt→ltb, T_not}
use Rattle.topology_rules.specs.Net.{Net, WellFormed, host, delivers, leaving, cabled}
use Rattle.topology_rules.proofs.Tests.{split, either_T, T_either, eq→eqb}
use Rattle.topology_rules.proofs.Bits.{no_bit}
use Rattle.topology_rules.proofs.Channels.{leaving_is, leaving_of, cable_port}
use Rattle.planner_rules.specs.Table.{attached}
use Rattle.planner_rules.specs.Rules.{Leaves, Delivers, Attached}

module _ (n : Net) where
  pub delivers_exactly : (s p : ℕ) → T (delivers n s p) ↔ Delivers n s p
  delivers_exactly s p = (
    λ t. elim (either_T (eqb p 0) (host n s p) t) [ inl e ↦ inl (eqb→eq p 0 e) | inr e ↦ inr e ],
    λ d. T_either (eqb p 0) (host n s p) (elim d [ inl e ↦ inl (eq→eqb p 0 e) | inr e ↦ inr e ]),
  )

  -- what the search for a port's channel finds leaves by that port
  pub leaving_leaves : (s p : ℕ) → leaving n s p < n.channels → Leaves n s p (leaving n s p)
  leaving_leaves s p l = let is = leaving_is n s p l in
      record { is_live = lt→ltb (leaving n s p) n.channels l; starts = is.0; by_port = is.1 }

  module _ (w : WellFormed n) where
    -- and it finds every one
    pub leaves_leaving : (s p c : ℕ) → Leaves n s p c → leaving n s p ≡ c
    leaves_leaving s p c l = rw (l.starts, l.by_port) at (leaving_of n w c (ltb→lt c n.channels l.is_live))

    pub leaves_exactly : (s p c : ℕ) → Leaves n s p c ↔ ((leaving n s p ≡ c) × (c < n.channels))
    leaves_exactly s p c = (
      λ l. (leaves_leaving s p c l, ltb→lt c n.channels l.is_live),
      λ (e, h). rw e at (leaving_leaves s p (rw e h)),
    )

    pub cabled_exactly : (s p : ℕ) → T (cabled n s p) ↔ ((c : ℕ) × Leaves n s p c)
    cabled_exactly s p = (
      λ t. (leaving n s p, leaving_leaves s p (ltb→lt (leaving n s p) n.channels t)),
      λ (c, l). rw (leaves_leaving s p c l) l.is_live,
    )

    pub attached_exactly : (s i : ℕ) → T (attached n s i) ↔ Attached n s i
    attached_exactly s i = (
      λ t. elim (either_T (delivers n s i) (cabled n s i) t) [ inl d ↦ inl ((delivers_exactly s i).0 d) | inr c ↦ inr ((cabled_exactly s i).0 c) ],
      λ a. T_either (delivers n s i) (cabled n s i) (elim a [ inl d ↦ inl ((delivers_exactly s i).1 d) | inr c ↦ inr ((cabled_exactly s i).1 c) ]),
    )

    -- what delivers is one of a switch's ports
    pub delivers_low : (s p : ℕ) → s < n.switches → Delivers n s p → p < 13
    delivers_low s p h d = elim (split p 13) [
      | inl l ↦ l
      | inr l ↦ elim d [ inl e ↦ omega arith | inr t ↦ absurd (subst T (no_bit 13 (n.hosts s) p (w.few_hosts s h) l) t) ]
    ]

    -- no port does both: one with a cable does not deliver, one that delivers has no cable
    pub cable_or_out : (s p c : ℕ) → Leaves n s p c → Delivers n s p → ⊥
    cable_or_out s p c l d =
        let h = ltb→lt (leaving n s p) n.channels ((cabled_exactly s p).1 (c, l)) in
        T_not (delivers n s p) (cable_port n w s p h) ((delivers_exactly s p).1 d)
