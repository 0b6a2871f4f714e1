-- A net: numbered switches with host ports, and cables between ports. Channel 2 c runs from the first to the second end of cable c, 2 c + 1 the other way.
use Rattle.std.specs.Prelude.{ℕ, suc, ◌+◌, ◌*◌, ◌-◌, ◌%◌, ◌^◌, ◌≤◌, ◌<◌, List, Bool, cond, not, ◌≡◌, T, nat_eq, nat_lt}
use Rattle.topology_rules.specs.Count.{both, either, bit, least, count}
use Rattle.topology_rules.specs.Format.{switch_count, cable_count, uid_at, hosts_at, end_switch, end_port}

pub record Net : Type 0 where
  pub switches : ℕ
  pub channels : ℕ
  pub uid : ℕ → ℕ
  pub number : ℕ → ℕ
  -- bit p set where port p has a host
  pub hosts : ℕ → ℕ
  -- the switch and the port that a channel leaves
  pub source : ℕ → ℕ
  pub out_port : ℕ → ℕ

-- the channel the other way over the same cable
abbrev pub back : ℕ → ℕ
back ch = cond (nat_eq (ch % 2) 0) (ch + 1) (ch - 1)

module _ (n : Net) where
  -- where a channel ends: the switch, and the port it comes in by
  abbrev pub target : ℕ → ℕ
  target ch = n.source (back ch)

  abbrev pub in_port : ℕ → ℕ
  in_port ch = n.out_port (back ch)

  -- the channel takes part in the plan
  abbrev pub live : ℕ → Bool
  live ch = nat_lt ch n.channels

  -- the channel that leaves switch s by port p; past the last where there is none
  unfoldable pub leaving : ℕ → ℕ → ℕ
  leaving s p = least n.channels 0 (λ ch. both (nat_eq (n.source ch) s) (nat_eq (n.out_port ch) p))

  abbrev pub cabled : ℕ → ℕ → Bool
  cabled s p = live (leaving s p)

  abbrev pub host : ℕ → ℕ → Bool
  host s p = bit (n.hosts s) p

  -- port p of s is its own processor or has a host: what goes out there leaves the net
  abbrev pub delivers : ℕ → ℕ → Bool
  delivers s p = either (nat_eq p 0) (host s p)

-- 1 to S in ascending UID over the whole description
abbrev pub number_at : List ℕ → ℕ → ℕ
number_at d i = suc (count (switch_count d) (λ j. nat_lt (uid_at d j) (uid_at d i)))

-- the net of an accepted description
unfoldable pub net_of : List ℕ → Net
net_of d = record {
  switches = switch_count d;
  channels = 2 * cable_count d;
  uid = uid_at d;
  number = number_at d;
  hosts = hosts_at d;
  source = end_switch d;
  out_port = end_port d;
}

-- What an accepted description says of its net. Of the numbers it says only what any numbering has.
pub record WellFormed (n : Net) : Type 0 where
  pub some_switch : 0 < n.switches
  pub few_switches : n.switches ≤ 64
  pub few_channels : n.channels ≤ 768
  pub both_ways : (ch : ℕ) → ch < n.channels → back ch < n.channels
  pub uids_differ : (s t : ℕ) → s < n.switches → t < n.switches → n.uid s ≡ n.uid t → s ≡ t
  pub numbers_differ : (s t : ℕ) → s < n.switches → t < n.switches → n.number s ≡ n.number t → s ≡ t
  pub number_low : (s : ℕ) → s < n.switches → 0 < n.number s
  pub number_high : (s : ℕ) → s < n.switches → n.number s ≤ 64
  pub few_hosts : (s : ℕ) → s < n.switches → n.hosts s < 2 ^ 13
  pub no_host_at_0 : (s : ℕ) → s < n.switches → T (not (host n s 0))
  pub from_a_switch : (ch : ℕ) → ch < n.channels → n.source ch < n.switches
  pub by_a_port : (ch : ℕ) → ch < n.channels → (0 < n.out_port ch) × (n.out_port ch ≤ 12)
  pub no_loop : (ch : ℕ) → ch < n.channels → n.source ch ≡ target n ch → ⊥
  pub ports_differ : (a b : ℕ) → a < n.channels → b < n.channels → n.source a ≡ n.source b → n.out_port a ≡ n.out_port b → a ≡ b
  pub no_host_there : (ch : ℕ) → ch < n.channels → T (not (host n (n.source ch) (n.out_port ch)))
