-- How what comes in by a port arrives: the computed arrival is the one that the rules say, and there is no other.
use Prim.Native.Nat.{ℕ}
use mathlib.Core.Logic.{◌⊎◌, inl, inr}
use mathlib.Core.Path.{◌≡◌, sym, ap, ◌∙◌}
use lib.Dec.{T, ltb→lt, lt→ltb, not_T, T_not}
use Rattle.topology_rules.specs.Net.{Net, WellFormed, live, back, target, in_port, leaving, cabled}
use Rattle.topology_rules.proofs.Tests.{decide, cond_not}
use Rattle.topology_rules.proofs.Channels.{back_back, target_back}
use Rattle.planner_rules.specs.Tree.{up}
use Rattle.planner_rules.specs.Routes.{Arrival, free, bound, after}
use Rattle.planner_rules.specs.Table.{arrival}
use Rattle.planner_rules.specs.Rules.{Leaves, Delivers, Attached, Arrives, from_inside, by_up, by_down}
use Rattle.planner_rules.proofs.Climbs.{after_up, after_down}
use Rattle.planner_rules.proofs.Entries.{arrives}
use Rattle.planner_rules.proofs.Ports.{cabled_exactly, cable_or_out}

module _ (n : Net) (w : WellFormed n) where
  -- channel ch comes in by port i of s
  pub record Enters (s i ch : ℕ) : Type 0 where
    pub is_live : T (live n ch)
    pub ends : target n ch ≡ s
    pub by_port : in_port n ch ≡ i

  live_back : (ch : ℕ) → T (live n ch) → T (live n (back ch))
  live_back ch l = lt→ltb (back ch) n.channels (w.both_ways ch (ltb→lt ch n.channels l))

  -- where a channel leaves, the one back comes in; and the other way round
  pub enters_back : (s i c : ℕ) → Leaves n s i c → Enters s i (back c)
  enters_back s i c l =
      record { is_live = live_back c l.is_live; ends = target_back n c ∙ l.starts; by_port = ap n.out_port (back_back c) ∙ l.by_port }

  pub leaves_back : (s i ch : ℕ) → Enters s i ch → Leaves n s i (back ch)
  leaves_back s i ch e = record { is_live = live_back ch e.is_live; starts = e.ends; by_port = e.by_port }

  -- from port 0 and from host ports packets arrive free, over a cable as the crossing says
  pub arrival_inside : (s i : ℕ) → Delivers n s i → arrival n s i ≡ free
  unfolding arrival
  arrival_inside s i d =
      cond_not (cabled n s i) (after (up n (back (leaving n s i)))) free
      (not_T (cabled n s i) (λ t. let (c, l) = (cabled_exactly n w s i).0 t in cable_or_out n w s i c l d))

  pub arrival_over : (s i ch : ℕ) → Enters s i ch → arrival n s i ≡ after (up n ch)
  arrival_over s i ch e = rw (e.ends, e.by_port) at (arrives n w ch (ltb→lt ch n.channels e.is_live))

  pub attached_arrives : (s i : ℕ) → Attached n s i → Arrives n s i (arrival n s i)
  attached_arrives s i (inl d) = rw (arrival_inside s i d) (from_inside d)
  attached_arrives s i (inr (c, l)) = rw (arrival_over s i (back c) e) (go (decide (up n (back c))))
    where
      e : Enters s i (back c)
      e = enters_back s i c l

      go : T (up n (back c)) ⊎ (T (up n (back c)) → ⊥) → Arrives n s i (after (up n (back c)))
      go (inl u) = rw (after_up (up n (back c)) u) (by_up (back c) e.is_live e.ends e.by_port u)
      go (inr d) = rw (after_down (up n (back c)) d) (by_down (back c) e.is_live e.ends e.by_port (not_T (up n (back c)) d))

  -- what arrives is attached, and arrives in no other way
  pub arrives_so : (s i : ℕ) (k : Arrival) → Arrives n s i k → Attached n s i × (k ≡ arrival n s i)
  arrives_so s i free (from_inside d) = (inl d, sym (arrival_inside s i d))
  arrives_so s i free (by_up ch l t p u) =
      let e : Enters s i ch = record { is_live = l; ends = t; by_port = p } in
      (inr (back ch, leaves_back s i ch e), sym (arrival_over s i ch e ∙ after_up (up n ch) u))
  arrives_so s i bound (by_down ch l t p d) =
      let e : Enters s i ch = record { is_live = l; ends = t; by_port = p } in
      (inr (back ch, leaves_back s i ch e), sym (arrival_over s i ch e ∙ after_down (up n ch) (T_not (up n ch) d)))
