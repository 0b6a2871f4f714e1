-- Any tables whose figures fall drain within the sum of their figures plus one each, from any sound record.
use Prim.Native.Nat.{ℕ, ◌≤◌}
use mathlib.Core.List.{List}
use mathlib.Core.Path.{◌≡◌}
use lib.ListN.{length, replicate}
use lib.Dec.{T}
use Rattle.topology_rules.specs.Net.{Net, WellFormed}
use Rattle.planner_rules.specs.Routes.{Arrival}
use Rattle.rehearsal_rules.specs.Machine.{last, answers, tally, every}
use Rattle.rehearsal_rules.specs.Packets.{Cell, none}
use Rattle.rehearsal_rules.specs.Answers.{is_accepted, Order, advances}
use Rattle.rehearsal_rules.specs.Moves.{moving}
use Rattle.rehearsal_rules.specs.Left.{Still, work}
use Rattle.rehearsal_rules.proofs.Sound.{Facts}
use Rattle.rehearsal_rules.proofs.Spending.{gone_most}
use Rattle.rehearsal_rules.proofs.Figures.{TableLaws, Fits, left, holding, descends, draining}
use Rattle.rehearsal_rules.proofs.Ranks.{rank}

module _ (n : Net) (w : WellFormed n) (table : ℕ → ℕ → ℕ → ℕ) (figure : Arrival → ℕ → ℕ → ℕ) (no_way_figure : ℕ) (e : TableLaws n table figure no_way_figure) where
  pub within_figures : (held : List Cell) (os : List Order) → Facts n (Fits n table figure no_way_figure) held → T (every advances os)
      → Still (moving n (holding table)) (last (moving n (holding table)) held os)
      → (tally is_accepted (answers (moving n (holding table)) held os) ≤ work (left n table figure no_way_figure) held)
      × (last (moving n (holding table)) held os ≡ replicate (length held) none)
  within_figures = gone_most n (holding table) (Fits n table figure no_way_figure) (rank n) (draining n table figure no_way_figure w e) (left n table figure no_way_figure) (descends n table figure no_way_figure w e)
