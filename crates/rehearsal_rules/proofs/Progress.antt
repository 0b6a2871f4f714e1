-- While a packet is in the net, some advance is accepted: whoever waits, waits for one of higher rank.
use Prim.Native.Nat.{ℕ, ◌<◌}
use mathlib.Core.List.{List}
use mathlib.Core.Bool.{not}
use mathlib.Core.Logic.{◌⊎◌, inl, inr}
use lib.ListN.{get_or}
use lib.Dec.{T}
use Rattle.topology_rules.specs.Net.{Net, target, delivers}
use Rattle.rehearsal_rules.specs.Packets.{Cell, none, packet, Full, address_of, full?}
use Rattle.rehearsal_rules.specs.Answers.{is_accepted, advancing}
use Rattle.rehearsal_rules.specs.Moves.{Tables, onward, allows, moving, taken?}
use Rattle.topology_rules.proofs.Tests.{or_not}
use Rattle.rehearsal_rules.proofs.Drain.{chase}
use Rattle.rehearsal_rules.proofs.Tables.{Draining}
use Rattle.rehearsal_rules.proofs.Exactly.{MayAdvance, advance_exactly}
use Rattle.rehearsal_rules.proofs.Sound.{FineCell, Facts}

full_T : (x : Cell) → T (full? x) → Full x
full_T none t = t
full_T (packet pk) t = tt

module _ (n : Net) (holds : Tables) (Fit : ℕ → ℕ → Type 0) (rank : ℕ → ℕ) (law : Draining n holds Fit rank) where
  cell_fit : (ch : ℕ) (x : Cell) → Full x → FineCell n Fit ch x → Fit ch (address_of x)
  cell_fit ch none full f = absurd full
  cell_fit ch (packet pk) full f = f.fit

  module _ (held : List Cell) (s : Facts n Fit held) where
    abbrev Moves : Type 0
    Moves = (c : ℕ) × (p : ℕ) × T (is_accepted ((moving n holds).answer held (advancing c p)))

    abbrev Heads : Type 0
    Heads = (c : ℕ) × Full (get_or held c none)

    abbrev Ahead : ℕ → Type 0
    Ahead ch = (y : Heads) × (rank ch < rank y.0)

    fits : (ch : ℕ) → Full (get_or held ch none) → Fit ch (address_of (get_or held ch none))
    fits ch full = cell_fit ch (get_or held ch none) full (s.each ch)

    accepts : (ch p : ℕ) → MayAdvance n holds held ch p → Moves
    accepts ch p m = (ch, p, (advance_exactly n holds held ch p).1 m)

    steps : (ch p : ℕ) → Full (get_or held ch none) → T (allows n holds ch (address_of (get_or held ch none)) p)
        → T (delivers n (target n ch) p) ⊎ T (not (delivers n (target n ch) p)) → T (taken? held (onward n ch p)) ⊎ T (not (taken? held (onward n ch p))) → Moves ⊎ Ahead ch
    unfolding taken?
    steps ch p full al (inl off) d = inl (accepts ch p (record { channel = law.live ch _ (fits ch full); head = full; held_port = al; room = inl off }))
    steps ch p full al (inr on) (inr free) = inl (accepts ch p (record { channel = law.live ch _ (fits ch full); head = full; held_port = al; room = inr (on, free) }))
    steps ch p full al (inr on) (inl tk) =
        inr ((onward n ch p, full_T (get_or held (onward n ch p) none) tk), law.rises ch _ (law.joins ch _ p (fits ch full, al, on)))

    pub progress : (ch : ℕ) → Full (get_or held ch none) → (c : ℕ) × (p : ℕ) × T (is_accepted ((moving n holds).answer held (advancing c p)))
    progress ch full = chase (λ (x : Heads). rank x.0) law.top (λ x. law.bounded _ _ (fits x.0 x.1)) waits (ch, full)
      where
        waits : (x : Heads) → Moves ⊎ Ahead x.0
        waits x =
            let port = law.allowed x.0 _ (fits x.0 x.1) in
            steps x.0 port.0 x.1 port.1 (or_not (delivers n (target n x.0) port.0)) (or_not (taken? held (onward n x.0 port.0)))
