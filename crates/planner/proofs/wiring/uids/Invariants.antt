-- Each switch passed has its UID.
use Rattle.std.proofs.Common.{◌≡◌, ◌<◌, ℕ, length, Some, slice_get}
use Rattle.topology_rules.specs.Net.{net_of}
use Rattle.planner.proofs.wiring.uids.Given as goal

abbrev pub invariant-loop-s : goal.invariant-loop-s
invariant-loop-s l = record {
  whole : length l.uid ≡ 64;
  each : (t : ℕ) → t < l.s → slice_get l.uid t ≡ Some ((net_of l.net).uid t);
}
