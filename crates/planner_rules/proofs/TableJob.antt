-- The job that writes a table: which refusal it meets, and what it leaves.
use Prim.Native.Nat.{ℕ, ◌≤◌, ◌<◌}
use mathlib.Core.List.{List, [], ◌∷◌}
use mathlib.Core.Logic.{◌⊎◌, inl, inr}
use mathlib.Core.Path.{◌≡◌, refl}
use native.Mathlib.Omega.{arith}
use lib.ListN.{length}
use lib.Dec.{T, leb, ltb, ltb→lt, lt→ltb, lit<}
use Rattle.topology_rules.specs.Format.{switch_count}
use Rattle.topology_rules.specs.Accepted.{Accepted}
use Rattle.topology_rules.specs.Net.{net_of}
use Rattle.topology_rules.specs.Refusals.{Returned, Wrong}
use Rattle.topology_rules.specs.Edit.{find}
use Rattle.topology_rules.specs.EditRules.{Named}
use Rattle.topology_rules.proofs.Chains.{Rules, Says, test_of, and_then}
use Rattle.topology_rules.proofs.Firsts.{Settled, returned, settled_zero}
use Rattle.topology_rules.proofs.Verdicts.{accepted_rule}
use Rattle.topology_rules.proofs.Jobs.{checked_settled}
use Rattle.topology_rules.proofs.Finding.{unknown_rule, known}
use Rattle.topology_rules.proofs.Laws.{OutcomeLaws, outcome_laws}
use Rattle.planner_rules.specs.Table.{table_of, table_verdict, table, TableWrong, description, unknown, little_room}
use Rattle.planner_rules.proofs.Tables.{table_length}

module _ (d : List ℕ) (u : ℕ) where
  module _ (room : ℕ) where
    settled : Settled (TableWrong d u room) (table_verdict d u room)
    unfolding table_verdict
    settled = checked_settled d (TableWrong d u room) rules 16 tt (λ k j w. description w) (λ a. says) rows
      where
        rules : Rules
        rules = (leb (switch_count d) (find d u), 13) ∷ (ltb room 13520, 16) ∷ []

        says : Says (TableWrong d u room) 0 rules
        says = and_then (λ t. unknown ((unknown_rule d u).0 t)) (and_then (λ t. little_room (ltb→lt room 13520 t)) tt)

        rows : (k j : ℕ) → TableWrong d u room k j → Wrong d k j ⊎ ((12 < k) × (j ≡ 0) × (Accepted d → T (test_of rules k)))
        rows k j (description w) = inl w
        rows k j (unknown f) = inr (lit< tt, refl, λ a. (unknown_rule d u).1 f)
        rows k j (little_room h) = inr (lit< tt, refl, λ a. lt→ltb room 13520 h)

    pub table_returned : Returned (TableWrong d u room) (table_verdict d u room)
    table_returned = returned (TableWrong d u room) (table_verdict d u room) settled

    -- where it returns 0
    pub table_allowed : (table_verdict d u room).number ≡ 0 → Accepted d × Named d u (find d u) × (13520 ≤ room)
    table_allowed e =
        let (_, none) = settled_zero (TableWrong d u room) (table_verdict d u room) settled e in
        let fits : room < 13520 → ⊥ = λ h. none 16 0 (little_room h) in
        ((accepted_rule d).1 (λ k j w. none k j (description w)), known d u (λ t. none 13 0 (unknown ((unknown_rule d u).0 t))), omega arith)

  pub table_outcome : (out : List ℕ) → let new = table_of (net_of d) (find d u) in OutcomeLaws (table_verdict d u (length out)) 0 new out (table d u out)
  unfolding table
  table_outcome out =
      outcome_laws (table_verdict d u (length out)) 0 (table_of (net_of d) (find d u)) out (λ e. omega (arith, table_length (net_of d) (find d u), (table_allowed (length out) e).2))
