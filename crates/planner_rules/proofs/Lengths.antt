-- `legal_length` is the length of a shortest legal route, and `begins` says which crossings begin one.
use Prim.Native.Nat.{ℕ, suc, ◌<◌, ◌≤◌}
use mathlib.Core.Bool.{Bool, true, false}
use mathlib.Core.List.{List, [], ◌∷◌}
use mathlib.Core.Logic.{◌↔◌}
use mathlib.Core.Path.{◌≡◌, refl}
use native.Mathlib.Omega.{arith}
use lib.ListN.{length}
use lib.Dec.{T, ltb, eqb, ltb→lt, lt→ltb, eqb→eq}
use Rattle.topology_rules.specs.Count.{both}
use Rattle.topology_rules.specs.Net.{Net, WellFormed, target, live}
use Rattle.topology_rules.proofs.Tests.{both_T, T_both, and_T, T_and, eq→eqb}
use Rattle.topology_rules.proofs.Searches.{least_finds, least_first}
use Rattle.planner_rules.specs.Tree.{up}
use Rattle.planner_rules.specs.Routes.{Arrival, may_cross, after, way, far, legal_length}
use Rattle.planner_rules.specs.Table.{begins}
use Rattle.planner_rules.specs.Rules.{Legal, Shortest}
use Rattle.planner_rules.proofs.Ways.{way_legal}
use Rattle.planner_rules.proofs.Heights.{legal_short}

module _ (n : Net) where
  pub length_low : (k : Arrival) (s t : ℕ) (r : List ℕ) → Legal n k s r t → legal_length n k s t ≤ length r
  unfolding legal_length
  length_low k s t r l = least_first (λ m. way n m k s t) (far n) (length r) ((way_legal n (length r) k s t).1 (r, omega arith, l))

  pub length_shortest : (k : Arrival) (s t : ℕ) → legal_length n k s t < far n → (r : List ℕ) × Shortest n k s r t × (length r ≡ legal_length n k s t)
  unfolding legal_length
  length_shortest k s t h =
      let r = (way_legal n (legal_length n k s t) k s t).0 (least_finds (λ m. way n m k s t) (far n) h) in
      (r.0, (r.2, λ q l. omega (arith, r.1, length_low k s t q l)), omega (arith, r.1, length_low k s t r.0 r.2))

  pub length_here : (k : Arrival) (t : ℕ) → legal_length n k t t ≡ 0
  length_here k t = omega (arith, length_low k t t [] refl)

  module _ (w : WellFormed n) where
    pub length_rule : (k : Arrival) (s t : ℕ) → (legal_length n k s t < far n) ↔ ((r : List ℕ) × Legal n k s r t)
    length_rule k s t = (λ l. let r = length_shortest k s t l in (r.0, r.1.0), λ r. omega (arith, length_low k s t r.0 r.1, legal_short n w k s t r.0 r.1))

    pub shortest_length : (k : Arrival) (s t : ℕ) (r : List ℕ) → Shortest n k s r t → length r ≡ legal_length n k s t
    shortest_length k s t r l =
        let q = length_shortest k s t ((length_rule k s t).1 (r, l.0)) in
        omega (arith, length_low k s t r l.0, l.1 q.0 q.1.0, q.2)

    -- what is left of a shortest legal route after its first crossing is shortest
    pub shortest_rest : (k : Arrival) (s t ch : ℕ) (r : List ℕ) → Shortest n k s (ch ∷ r) t → Shortest n (after (up n ch)) (target n ch) r t
    shortest_rest k s t ch r l = let i = l.0 in (i.3, λ q j. omega (arith, l.1 (ch ∷ q) (i.0, i.1, i.2, j)))

    -- ch need start at s only where it is live: then `leaving` serves for ch, past the last where a port has no cable
    pub begins_rule : (k : Arrival) (s t ch : ℕ) → (T (live n ch) → n.source ch ≡ s)
        → T (begins n k s t ch) ↔ ((r : List ℕ) × Shortest n k s (ch ∷ r) t)
    unfolding begins
    begins_rule k s t ch e = (out, λ r. back r.0 r.1)
      where
        k' : Arrival
        k' = after (up n ch)

        s' : ℕ
        s' = target n ch

        allowed : Bool
        allowed = both (live n ch) (may_cross k (up n ch))

        here : ℕ
        here = legal_length n k s t

        there : ℕ
        there = legal_length n k' s' t

        next : Bool
        next = elim (ltb here (far n)) [ true ↦ eqb (suc there) here | false ↦ false ]

        out : T (begins n k s t ch) → (r : List ℕ) × Shortest n k s (ch ∷ r) t
        out b =
            let a = and_T allowed next b in
            let c = both_T (live n ch) (may_cross k (up n ch)) a.0 in
            let d = and_T (ltb here (far n)) (eqb (suc there) here) a.1 in
            let f = eqb→eq (suc there) here d.1 in
            let l = ltb→lt here (far n) d.0 in
            let q = length_shortest k' s' t (omega arith) in
            (q.0, ((c.0, e c.0, c.1, q.1.0), λ x i. omega (arith, length_low k s t x i, q.2)))

        back : (r : List ℕ) → Shortest n k s (ch ∷ r) t → T (begins n k s t ch)
        back r l =
            let i = l.0 in
            let whole = shortest_length k s t (ch ∷ r) l in
            let rest = shortest_length k' s' t r (shortest_rest k s t ch r l) in
            T_and allowed next (T_both (live n ch) (may_cross k (up n ch)) i.0 i.2)
            (T_and (ltb here (far n)) (eqb (suc there) here) (lt→ltb here (far n) ((length_rule k s t).1 (ch ∷ r, i))) (eq→eqb (suc there) here (omega arith)))

    -- A crossing with which a shortest legal remainder begins leaves one crossing less.
    pub record Hop (k : Arrival) (s t ch : ℕ) : Type 0 where
      pub is_live : ch < n.channels
      pub starts : n.source ch ≡ s
      pub may : T (may_cross k (up n ch))
      pub one_less : legal_length n k s t ≡ suc (legal_length n (after (up n ch)) (target n ch) t)
      pub some_way : legal_length n k s t < far n

    pub shortest_hop : (k : Arrival) (s t ch : ℕ) (r : List ℕ) → Shortest n k s (ch ∷ r) t → Hop k s t ch
    shortest_hop k s t ch r l =
        let i = l.0 in
        let whole = shortest_length k s t (ch ∷ r) l in
        let rest = shortest_length (after (up n ch)) (target n ch) t r (shortest_rest k s t ch r l) in
        record { is_live = ltb→lt ch n.channels i.0; starts = i.1; may = i.2; one_less = omega arith; some_way = (length_rule k s t).1 (ch ∷ r, i) }
