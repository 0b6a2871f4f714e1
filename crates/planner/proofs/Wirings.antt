-- Where the channels of an accepted description lead.
use Prim.Native.Nat.{ℕ, ◌*◌, ◌<◌, ◌≤◌}
use mathlib.Core.Path.{◌≡◌, ap}
use mathlib.Core.List.{List}
use Rattle.topology_rules.specs.Format.{switch_count, cable_count}
use Rattle.topology_rules.specs.Net.{net_of, target}
use Rattle.topology_rules.specs.Accepted.{Accepted}
use Rattle.topology_rules.proofs.Soundness.{well_formed}
use Rattle.topology_rules.proofs.Channels.{target_switch}
use Rattle.planner.specs.declared.channel.Channel.{Channel}
use Rattle.planner.specs.Wired.{channel_of}

module _ (d : List ℕ) (a : Accepted d) (ch : ℕ) (there : ch < 2 * cable_count d) (c : Channel) (e : c ≡ channel_of (net_of d) ch) where
  -- from a switch
  pub source_told : (c.source ≡ (net_of d).source ch) × (c.source < switch_count d)
  unfolding net_of
  source_told = let f = ap (λ k. k.source) e in (f, rw f ((well_formed d a).from_a_switch ch there))

  -- to a switch
  pub target_told : (c.target ≡ target (net_of d) ch) × (c.target < switch_count d)
  unfolding net_of
  target_told = let f = ap (λ k. k.target) e in (f, rw f (target_switch (net_of d) (well_formed d a) ch there))

  -- by a cable's port
  pub port_told : (c.port ≡ (net_of d).out_port ch) × (c.port ≤ 12)
  unfolding net_of
  port_told = let f = ap (λ k. k.port) e in (f, rw f ((well_formed d a).by_a_port ch there).1)
