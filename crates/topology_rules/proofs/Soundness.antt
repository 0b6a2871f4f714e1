-- The net of an accepted description is well formed.
use mathlib.Core.Path.{◌≡◌, ap, sym, ◌∙◌}
use mathlib.Core.Logic.{◌⊎◌, inl, inr}
use mathlib.Core.Bool.{Bool, true}
use mathlib.Core.List.{List}
use Prim.Native.Nat.{ℕ, ◌+◌, ◌*◌, ◌/◌, ◌≤◌, ◌<◌}
use native.Mathlib.Omega.{arith}
use lib.Dec.{ltb, ltb→lt, lt→ltb}
use Rattle.topology_rules.specs.Format.{switch_count, cable_count, uid_at, end_switch, end_port}
use Rattle.topology_rules.specs.Net.{WellFormed, net_of, back, number_at}
use Rattle.topology_rules.proofs.Tests.{split}
use Rattle.topology_rules.proofs.Counts.{count_le, count_more}
use Rattle.topology_rules.proofs.Channels.{Back, back_is}
use Rattle.topology_rules.specs.Accepted.{Accepted, End, Cable}

-- two numbers that would differ, were one below the other, are equal
pub level_ground : (a b : ℕ) → (a < b → ⊥) → (b < a → ⊥) → a ≡ b
level_ground a b p q = omega arith

module _ (d : List ℕ) (a : Accepted d) where
  pub uids_differ : (s t : ℕ) → s < switch_count d → t < switch_count d → uid_at d s ≡ uid_at d t → s ≡ t
  uids_differ s t h l e = level_ground s t (λ p. (a.switches t l).uid_new s p e) (λ p. (a.switches s h).uid_new t p (sym e))

  below : ℕ → ℕ → Bool
  below i j = ltb (uid_at d j) (uid_at d i)

  pub numbers_grow : (s t : ℕ) → s < switch_count d → uid_at d s < uid_at d t → number_at d s < number_at d t
  unfolding below
  numbers_grow s t h l =
      omega (arith, count_more (below s) (below t) (switch_count d) (λ i _ p. omega (arith, ltb→lt, lt→ltb)) s h (λ p. omega (arith, ltb→lt)) (lt→ltb (uid_at d s) (uid_at d t) l))

  pub numbers_high : (s : ℕ) → s < switch_count d → number_at d s ≤ switch_count d
  unfolding below
  numbers_high s h =
      omega (arith, count_more (below s) (λ _. true) (switch_count d) (λ i _ p. tt) s h (λ p. omega (arith, ltb→lt)) tt, count_le (λ _. true) (switch_count d))

  pub numbers_differ : (s t : ℕ) → s < switch_count d → t < switch_count d → number_at d s ≡ number_at d t → s ≡ t
  numbers_differ s t h l e = uids_differ s t h l (level_ground (uid_at d s) (uid_at d t)
      (λ p. omega (arith, numbers_grow s t h p)) (λ p. omega (arith, numbers_grow t s l p)))

  -- a channel is an end of a cable
  abbrev Side : ℕ → ℕ → Type 0
  Side ch c = ((ch ≡ 2 * c) × (back ch ≡ 2 * c + 1)) ⊎ ((ch ≡ 2 * c + 1) × (back ch ≡ 2 * c))

  side : (ch : ℕ) → ch < 2 * cable_count d → (c : ℕ) × (c < cable_count d) × Side ch c
  side ch h = (ch / 2, omega arith, go (back_is ch))
    where
      go : Back ch (back ch) → Side ch (ch / 2)
      go (inl p) = inl (omega arith, omega arith)
      go (inr p) = inr (omega arith, omega arith)

  end_of : (ch : ℕ) → ch < 2 * cable_count d → (c : ℕ) × Side ch c × End d c ch
  end_of ch h = let p = side ch h in (p.0, p.2, go p.0 p.2 (a.cables p.0 p.1))
    where
      go : (c : ℕ) → Side ch c → Cable d c → End d c ch
      go c (inl p) k = rw p.0 k.first
      go c (inr p) k = rw p.0 k.second

  ends_apart : (ch : ℕ) → ch < 2 * cable_count d → end_switch d ch ≡ end_switch d (back ch) → ⊥
  ends_apart ch h e = let p = side ch h in go p.0 p.2 (a.cables p.0 p.1)
    where
      go : (c : ℕ) → Side ch c → Cable d c → ⊥
      go c (inl p) k = k.apart (sym (ap (end_switch d) p.0) ∙ e ∙ ap (end_switch d) p.1)
      go c (inr p) k = k.apart (sym (ap (end_switch d) p.1) ∙ sym e ∙ ap (end_switch d) p.0)

  ports_apart : (x y : ℕ) → x < 2 * cable_count d → y < 2 * cable_count d → end_switch d x ≡ end_switch d y → end_port d x ≡ end_port d y → x < y → ⊥
  ports_apart x y h l s p b = let e = end_of y l in go e.0 e.1 e.2
    where
      go : (c : ℕ) → Side y c → End d c y → ⊥
      go c (inl q) k = k.unused x (omega arith) s p
      go c (inr q) k = elim (split x (2 * c)) [
        | inl m ↦ k.unused x m s p
        | inr m ↦ ends_apart y l (sym s ∙ ap (end_switch d) (same m))
      ]
        where
          same : 2 * c ≤ x → x ≡ back y
          same m = omega arith

  -- two ends at one port of one switch are one end
  pub ends_differ : (x y : ℕ) → x < 2 * cable_count d → y < 2 * cable_count d → end_switch d x ≡ end_switch d y → end_port d x ≡ end_port d y → x ≡ y
  ends_differ x y h l s p = level_ground x y (ports_apart x y h l s p) (ports_apart y x l h (sym s) (sym p))

  pub well_formed : WellFormed (net_of d)
  unfolding net_of
  well_formed = record {
    some_switch = a.some_switch;
    few_switches = a.few_switches;
    few_channels = omega arith;
    both_ways = λ ch h. let p = side ch h in elim p.2 [ inl q ↦ omega arith | inr q ↦ omega arith ];
    uids_differ = uids_differ;
    numbers_differ = numbers_differ;
    number_low = λ s h. omega arith;
    number_high = λ s h. omega (arith, numbers_high s h);
    few_hosts = λ s h. (a.switches s h).hosts_high;
    no_host_at_0 = λ s h. (a.switches s h).hosts_low;
    from_a_switch = λ ch h. (end_of ch h).2.switch_there;
    by_a_port = λ ch h. ((end_of ch h).2.port_low, (end_of ch h).2.port_high);
    no_loop = λ ch h e. ends_apart ch h e;
    ports_differ = ends_differ;
    no_host_there = λ ch h. (end_of ch h).2.no_host;
  }
