-- An entry holds just the ports that the rules say.
use Prim.Native.Nat.{ℕ, ◌%◌, ◌^◌, ◌<◌, ◌≤◌}
use mathlib.Core.Bool.{Bool, true, false}
use mathlib.Core.List.{List, [], ◌∷◌}
use mathlib.Core.Logic.{◌⊎◌, inl, inr, ◌↔◌, ◌≢◌}
use mathlib.Core.Path.{◌≡◌, refl, sym, subst, ◌∙◌}
use native.Mathlib.Omega.{arith}
use lib.ListN.{length}
use lib.Dec.{T, eqb, ltb→lt, eqb→eq, lit<}
use lib.Pow.{pow-lt}
use Rattle.topology_rules.specs.Count.{both, bit, bits}
use Rattle.topology_rules.specs.Net.{Net, WellFormed, live, leaving, delivers, cabled, target, in_port}
use Rattle.topology_rules.proofs.Tests.{decide, split, both_T, T_both, T_either, same_test, eq→eqb, cond_is}
use Rattle.topology_rules.proofs.Bits.{no_bit, zero_bit, bit_pos, power_bit, bits_bit, bits_lt, same_bits}
use Rattle.topology_rules.proofs.Channels.{back_back, leaving_is, leaving_of, leaving_back, comes_in}
use Rattle.planner_rules.specs.Tree.{up}
use Rattle.planner_rules.specs.Routes.{Arrival, after, legal_length}
use Rattle.planner_rules.specs.Table.{good, destination, attached, arrival, begins, entry}
use Rattle.planner_rules.specs.Rules.{Legal, Shortest}
use Rattle.planner_rules.proofs.Ports.{delivers_exactly, delivers_low}
use Rattle.planner_rules.proofs.Addresses.{good_is}
use Rattle.planner_rules.proofs.Lengths.{length_shortest, length_rule, begins_rule}

module _ (n : Net) where
  -- what the entry of s for incoming port i and address a chooses, in terms of the computed definitions
  abbrev pub Chosen : ℕ → ℕ → ℕ → ℕ → Type 0
  Chosen s i a p =
      T (attached n s i) × T (good n a) ×
      (((s ≡ destination n a) × (p ≡ a % 16))
      ⊎ ((s ≢ destination n a) × ((r : List ℕ) × Shortest n (arrival n s i) s (leaving n s p ∷ r) (destination n a))))

  module _ (w : WellFormed n) where
    -- what comes over a channel comes in by an attached port, and arrives as the crossing says
    pub lands_attached : (ch : ℕ) → ch < n.channels → T (attached n (target n ch) (in_port n ch))
    lands_attached ch l = T_either (delivers n (target n ch) (in_port n ch)) (cabled n (target n ch) (in_port n ch)) (inr (comes_in n w ch l))

    pub arrives : (ch : ℕ) → ch < n.channels → arrival n (target n ch) (in_port n ch) ≡ after (up n ch)
    unfolding arrival
    arrives ch l = cond_is (cabled n (target n ch) (in_port n ch)) _ _ (comes_in n w ch l) ∙ rw (leaving_back n w ch l, back_back ch)

    module _ (s i a : ℕ) where
      -- the ports by which a shortest legal remainder begins
      abbrev onward : ℕ → Bool
      onward p = begins n (arrival n s i) s (destination n a) (leaving n s p)

      abbrev Begins : ℕ → Type 0
      Begins p = (r : List ℕ) × Shortest n (arrival n s i) s (leaving n s p ∷ r) (destination n a)

      onward_rule : (p : ℕ) → T (bit (bits 13 onward) p) ↔ Begins p
      onward_rule p = go (split p 13)
        where
          at : T (live n (leaving n s p)) → leaving n s p < n.channels
          at = ltb→lt (leaving n s p) n.channels

          lead : T (onward p) ↔ Begins p
          lead = begins_rule n w (arrival n s i) s (destination n a) (leaving n s p) (λ l. (leaving_is n s p (at l)).0)

          no_port : T (live n (leaving n s p)) → 13 ≤ p → ⊥
          no_port l h = omega (arith, (leaving_is n s p (at l)).1, (w.by_a_port (leaving n s p) (at l)).1)

          go : (p < 13) ⊎ (13 ≤ p) → T (bit (bits 13 onward) p) ↔ Begins p
          go (inl h) =
              let e = bits_bit 13 onward p h in
              (λ t. lead.0 (subst T e t), λ r. subst T (sym e) (lead.1 r))
          go (inr h) =
              let e = no_bit 13 (bits 13 onward) p (bits_lt 13 onward) h in
              (λ t. absurd (subst T e t), λ r. absurd (no_port r.1.0.0 h))

      abbrev pick : Bool → Bool → ℕ
      pick b c = elim b [ false ↦ 0 | true ↦ elim c [ true ↦ 2 ^ (a % 16) | false ↦ bits 13 onward ] ]

      pub entry_rule : (p : ℕ) → T (bit (entry n s i a) p) ↔ Chosen s i a p
      unfolding entry
      entry_rule p = go (both (attached n s i) (good n a)) (eqb s (destination n a)) (both_T (attached n s i) (good n a))
          (λ h. T_both (attached n s i) (good n a) h.0 h.1) (eqb→eq s (destination n a)) (eq→eqb s (destination n a))
        where
          go : (b c : Bool) → (T b → T (attached n s i) × T (good n a)) → (T (attached n s i) × T (good n a) → T b)
              → (T c → s ≡ destination n a) → (s ≡ destination n a → T c) → T (bit (pick b c) p) ↔ Chosen s i a p
          go false c f f' g g' = (λ t. absurd (subst T (zero_bit p) t), λ h. absurd (f' (h.0, h.1)))
          go true true f f' g g' = (
            λ t. ((f tt).0, (f tt).1, inl (g tt, (power_bit (a % 16) p).0 t)),
            λ h. elim h.2 [ inl x ↦ (power_bit (a % 16) p).1 x.1 | inr x ↦ absurd (x.0 (g tt)) ],
          )
          go true false f f' g g' = (
            λ t. ((f tt).0, (f tt).1, inr (λ e. g' e, (onward_rule p).0 t)),
            λ h. elim h.2 [ inl x ↦ absurd (g' x.0) | inr x ↦ (onward_rule p).1 x.1 ],
          )

      port_low : T (good n a) → a % 16 < 13
      port_low t = let g = good_is n a t in delivers_low n w (destination n a) (a % 16) g.held ((delivers_exactly n (destination n a) (a % 16)).0 g.port)

      pub entry_lt : entry n s i a < 2 ^ 13
      unfolding entry
      entry_lt = go (both (attached n s i) (good n a)) (eqb s (destination n a)) (λ t. (both_T (attached n s i) (good n a) t).1)
        where
          go : (b c : Bool) → (T b → T (good n a)) → pick b c < 2 ^ 13
          go false c g = lit< tt
          go true true g = pow-lt (port_low (g tt))
          go true false g = bits_lt 13 onward

      -- at the destination the addressed port alone
      pub entry_home : T (attached n s i) → T (good n a) → s ≡ destination n a → entry n s i a ≡ 2 ^ (a % 16)
      unfolding entry
      entry_home on g e = go (both (attached n s i) (good n a)) (eqb s (destination n a)) (T_both (attached n s i) (good n a) on g) (eq→eqb s (destination n a) e)
        where
          go : (b c : Bool) → T b → T c → pick b c ≡ 2 ^ (a % 16)
          go false c t u = absurd t
          go true true t u = refl
          go true false t u = absurd u

      -- no port, so discard
      pub entry_none : ((p : ℕ) → Chosen s i a p → ⊥) → entry n s i a ≡ 0
      entry_none none = same_bits 13 (entry n s i a) 0 entry_lt (lit< tt)
          (λ p l. same_test (bit (entry n s i a) p) (bit 0 p) (λ t. absurd (none p ((entry_rule p).0 t))) (λ t. absurd (subst T (zero_bit p) t)))

      -- some port wherever a legal remainder exists
      pub entry_some : T (attached n s i) → T (good n a) → (r : List ℕ) → Legal n (arrival n s i) s r (destination n a) → 0 < entry n s i a
      entry_some on g r l = held (decide (eqb s (destination n a))) (length_shortest n k s to ((length_rule n w k s to).1 (r, l)))
        where
          k : Arrival
          k = arrival n s i

          to : ℕ
          to = destination n a

          held : T (eqb s to) ⊎ (T (eqb s to) → ⊥) → (q : List ℕ) × Shortest n k s q to × (length q ≡ legal_length n k s to) → 0 < entry n s i a
          held (inl e) q = bit_pos (entry n s i a) (a % 16) ((entry_rule (a % 16)).1 (on, g, inl (eqb→eq s to e, refl)))
          held (inr d) ([], q, e) = absurd (d (eq→eqb s to q.0))
          held (inr d) (ch ∷ q, l, e) =
              let port : leaving n s (n.out_port ch) ≡ ch = rw l.0.1 at (leaving_of n w ch (ltb→lt ch n.channels l.0.0)) in
              bit_pos (entry n s i a) (n.out_port ch) ((entry_rule (n.out_port ch)).1 (on, g, inr (λ x. d (eq→eqb s to x), (q, rw port l))))

-- a set of ports is one number of 16 bits
pub determined : (Port : ℕ → Type 0) (x y : ℕ) → x < 2 ^ 16 → y < 2 ^ 16
    → ((p : ℕ) → p < 16 → T (bit x p) ↔ Port p) → ((p : ℕ) → p < 16 → T (bit y p) ↔ Port p) → x ≡ y
determined Port x y h l f g = same_bits 16 x y h l (λ p b. same_test (bit x p) (bit y p) (λ t. (g p b).1 ((f p b).0 t)) (λ t. (f p b).1 ((g p b).0 t)))
