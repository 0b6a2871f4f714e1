-- Where a switch named by UID stands in its tree.
use Rattle.std.specs.Prelude.{ℕ, List, cond, nat_eq}
use Rattle.topology_rules.specs.Check.{Verdict}
use Rattle.topology_rules.specs.Net.{net_of}
use Rattle.topology_rules.specs.Edit.{find, find_verdict}
use Rattle.planner_rules.specs.Tree.{level, parent_number, parent_port}

-- its level, its parent's number or 0, and its own port of the parent cable or 0; or 1 to 13
pub data Stands : Type 0 where
  at : ℕ → ℕ → ℕ → Stands
  refused : Verdict → Stands

unfoldable pub stands : List ℕ → ℕ → Stands
stands d u =
    let v = find_verdict d u in
    let n = net_of d in
    let s = find d u in
    let place = at (level n s) (parent_number n s) (parent_port n s) in
    cond (nat_eq v.number 0) place (refused v)
