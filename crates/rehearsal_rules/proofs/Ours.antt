-- Document 01's entries obey the laws of Figures.antt, with legal lengths for figures. Only the planner's laws are used.
use Prim.Native.Nat.{ℕ, ◌<◌}
use native.Mathlib.Omega.{arith}
use mathlib.Core.Logic.{inl, inr, ◌≢◌}
use lib.Dec.{T}
use Rattle.topology_rules.specs.Net.{Net, WellFormed, target, in_port, leaving}
use Rattle.planner_rules.specs.Tree.{up}
use Rattle.planner_rules.specs.Routes.{after, legal_length, far}
use Rattle.planner_rules.specs.Table.{good, destination, arrival, entry}
use Rattle.planner_rules.proofs.Lengths.{Hop, shortest_hop, length_rule, length_here}
use Rattle.planner_rules.proofs.Entries.{Chosen, entry_rule, entry_some, lands_attached, arrives}
use Rattle.rehearsal_rules.proofs.Figures.{TableLaws, Exact}

module _ (n : Net) (w : WellFormed n) where
  hop : (s i a p : ℕ) → Chosen n s i a p → s ≢ destination n a → Hop n w (arrival n s i) s (destination n a) (leaving n s p)
  hop s i a p h ne = elim h.2 [ inl x ↦ absurd (ne x.0) | inr x ↦ shortest_hop n w _ s _ _ x.1.0 x.1.1 ]

  way_on : (ch a : ℕ) → ch < n.channels → T (good n a)
      → legal_length n (after (up n ch)) (target n ch) (destination n a) < far n → 0 < entry n (target n ch) (in_port n ch) a
  way_on ch a l g h =
      let r = (length_rule n w (after (up n ch)) (target n ch) (destination n a)).0 h in
      entry_some n w (target n ch) (in_port n ch) a (lands_attached n w ch l) g r.0 (rw (arrives n w ch l) r.1)

  pub table_laws : TableLaws n (entry n) (legal_length n) (far n)
  table_laws = record {
    here = λ s i a p h e. elim ((entry_rule n w s i a p).0 h.2).2 [ inl x ↦ x.1 | inr x ↦ absurd (x.0 e) ];
    on = λ s i a p h ne.
        let x = hop s i a p ((entry_rule n w s i a p).0 h.2) ne in
        let fall = x.one_less in
        let some = x.some_way in
        record { is_live = x.is_live; may = x.may; less = omega arith; reached = omega arith };
    way_on = way_on;
    at_home = length_here n;
  }

  pub exact : Exact n (entry n) (legal_length n) (far n)
  exact = record { by_one = λ s i a p h ne. (hop s i a p ((entry_rule n w s i a p).0 h.2) ne).one_less }
