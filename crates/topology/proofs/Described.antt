-- What an accepted description says of its net, as the code reads it: r as it was read, d as it is seen.
use mathlib.Core.Path.{◌≡◌, refl, ◌∙◌}
use mathlib.Core.List.{List}
use Prim.Native.Nat.{ℕ, ◌*◌, ◌<◌, ◌≤◌}
use Rattle.topology_rules.specs.Format.{switch_count, cable_count, uid_at, end_switch, end_port}
use Rattle.topology_rules.specs.Net.{net_of, target, back}
use Rattle.topology_rules.specs.Accepted.{Accepted}
use Rattle.topology_rules.proofs.Soundness.{well_formed}
use Rattle.topology_rules.proofs.Channels.{target_switch}

pub uid_is : (d : List ℕ) (s : ℕ) → uid_at d s ≡ (net_of d).uid s
unfolding net_of
uid_is d s = refl

module _ (r d : List ℕ) (seen : r ≡ d) where
  pub uid_seen : {x : ℕ} (s : ℕ) → x ≡ uid_at r s → x ≡ (net_of d).uid s
  uid_seen s e = rw (← seen) e ∙ uid_is d s

  module _ (a : Accepted r) (ch : ℕ) (there : ch < 2 * cable_count d) where
    now : Accepted d
    now = rw (← seen) a

    pub source_is : {x : ℕ} → x ≡ end_switch r ch → (x ≡ (net_of d).source ch) × (x < switch_count d)
    unfolding net_of
    source_is {x = x} e = let f : x ≡ end_switch d ch = rw (← seen) e in (f, rw f ((well_formed d now).from_a_switch ch there))

    pub target_is : {x y : ℕ} → y ≡ back ch → x ≡ end_switch r y → (x ≡ target (net_of d) ch) × (x < switch_count d)
    unfolding net_of
    target_is {x = x} b e = let f : x ≡ end_switch d (back ch) = rw (← seen, ← b) e in (f, rw f (target_switch (net_of d) (well_formed d now) ch there))

    pub port_is : {x : ℕ} → x ≡ end_port r ch → (x ≡ (net_of d).out_port ch) × (x ≤ 12)
    unfolding net_of
    port_is {x = x} e = let f : x ≡ end_port d ch = rw (← seen) e in (f, rw f ((well_formed d now).by_a_port ch there).1)
