-- Each switch passed has its level before the first round, and the others have none.
use Rattle.std.proofs.Common.{◌≡◌, ℕ, ◌<◌, ◌≤◌, Some, None, cond, length, slice_index, slice_index_or, nat_eq}
use Rattle.planner.proofs.levels.first_levels.Given as goal

abbrev pub invariant-loop-s : goal.invariant-loop-s
invariant-loop-s l = record {
  whole : length l.level ≡ 64;
  passed : (j : ℕ) → j < l.s → slice_index_or l.level j None ≡ cond (nat_eq (slice_index l.root j) j) (Some 0) None;
  ahead : (j : ℕ) → l.s ≤ j → slice_index_or l.level j None ≡ None;
}
