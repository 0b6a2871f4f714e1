-- Each channel passed stands in the row.
use Rattle.std.proofs.Common.{◌≡◌, ◌<◌, ℕ, length, Some, slice_get}
use Rattle.topology_rules.specs.Net.{net_of}
use Rattle.planner.specs.Wired.{channel_of}
use Rattle.planner.proofs.wiring.channels.Given as goal

abbrev pub invariant-loop-ch : goal.invariant-loop-ch
invariant-loop-ch l = record {
  whole : length l.row ≡ 768;
  each : (t : ℕ) → t < l.ch → slice_get l.row t ≡ Some (channel_of (net_of l.net) t);
}
