-- The worked examples as statements, and that the laws are not empty: the ring of five has them.
use mathlib.Core.List.{List}
use mathlib.Core.Path.{◌≡◌, refl}
use Prim.Native.Nat.{ℕ, ◌+◌, ◌≤◌}
use lib.ListN.{length}
use lib.Dec.{lit<}
use Rattle.topology_rules.specs.Count.{any}
use Rattle.topology_rules.specs.Check.{verdict, switches_from, cables_from}
use Rattle.topology_rules.specs.Net.{net_of}
use Rattle.topology_rules.specs.Samples.{r5}
use Rattle.topology_rules.specs.Case.{AllSaid}
use Rattle.topology_rules.proofs.Cases.{all_said}
use Rattle.rehearsal_rules.specs.Worked.{worked, worked_right}
use Rattle.rehearsal_rules.specs.Examples.{refusals, refusals_right, runs, runs_right}
use Rattle.planner_rules.specs.Tree.{level, within}
use Rattle.planner_rules.specs.Routes.{free}
use Rattle.planner_rules.specs.Rules.{Legal}
use Rattle.planner_rules.proofs.Laws.{TreeLaws, RouteLaws, EntryLaws, demand_2}
use Rattle.rehearsal_rules.specs.Packets.{cells_of}
use Rattle.rehearsal_rules.specs.Record.{description_of, calls}
use Rattle.rehearsal_rules.specs.Rules.{SoundRecord}
use Rattle.rehearsal_rules.specs.Drains.{Drains}
use Rattle.rehearsal_rules.proofs.Laws.{demand_3}

-- W1 to W12
pub worked_said : AllSaid worked
worked_said = all_said worked worked_right

pub refusals_said : AllSaid refusals
refusals_said = all_said refusals refusals_right

pub runs_said : AllSaid runs
runs_said = all_said runs runs_right

pub r5_accepted : (verdict r5).number ≡ 0
unfolding r5 verdict switches_from cables_from any
r5_accepted = refl

pub ring_laws : TreeLaws (net_of r5) × RouteLaws (net_of r5) × EntryLaws (net_of r5)
ring_laws = demand_2 r5 r5_accepted

pub ring_drains : Drains (net_of r5) calls (λ r. cells_of r.words) (λ r. SoundRecord r × (description_of r ≡ r5))
ring_drains = demand_3 r5 r5_accepted

-- E to C
pub e_to_c : (r : List ℕ) × (length r ≤ level (net_of r5) 4 + level (net_of r5) 2) × Legal (net_of r5) free 4 r 2
unfolding net_of r5 within any
e_to_c = ring_laws.1.some_route 4 2 (lit< tt) tt
