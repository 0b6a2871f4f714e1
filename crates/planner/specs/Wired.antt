-- The wiring that was read from an accepted description.
use Rattle.std.specs.Prelude.{ℕ, ◌*◌, ◌<◌, ◌≡◌, List, Some, slice_get}
use Rattle.topology_rules.specs.Format.{switch_count, cable_count}
use Rattle.topology_rules.specs.Accepted.{Accepted}
use Rattle.topology_rules.specs.Net.{Net, net_of, target}
use Rattle.planner.specs.declared.channel.Channel.{Channel}

-- what is kept of channel ch
abbrev pub channel_of : Net → ℕ → Channel
channel_of n ch = record { source = n.source ch; port = n.out_port ch; target = target n ch }

-- d is accepted, u has the UID of each of its switches, and l what is kept of each of its channels
pub record Wired (d u : List ℕ) (l : List Channel) : Type 0 where
  pub accepted : Accepted d
  pub uids : (s : ℕ) → s < switch_count d → slice_get u s ≡ Some ((net_of d).uid s)
  pub channels : (ch : ℕ) → ch < 2 * cable_count d → slice_get l ch ≡ Some (channel_of (net_of d) ch)
