-- A packet keeps its address, and leaves the net at that address.
use Prim.Native.Nat.{ℕ, ◌<◌, ◌%◌}
use native.Mathlib.Nat.{le_trans}
use mathlib.Core.List.{List, [], ◌∷◌}
use mathlib.Core.Bool.{cond}
use mathlib.Core.Path.{◌≡◌, sym, ap, ◌∙◌, subst}
use mathlib.Core.Logic.{◌≢◌}
use lib.ListN.{get_or, set, length, length-set}
use lib.Seq.{get_or-set_same, get_or-set_other}
use lib.Dec.{eqb, eqb→eq}
use Rattle.topology_rules.specs.Net.{Net}
use Rattle.planner_rules.specs.Table.{destination}
use Rattle.rehearsal_rules.specs.Machine.{last, answers}
use Rattle.rehearsal_rules.specs.Packets.{Packet, Cell, none, packet, address_of}
use Rattle.rehearsal_rules.specs.Answers.{Answer, Order}
use Rattle.rehearsal_rules.specs.Moves.{Tables, onward, moving}
use Rattle.rehearsal_rules.specs.Follow.{Whereabouts, in_channel, delivered_at, hop, followed}
use Rattle.topology_rules.proofs.Tests.{choose_cond, eq→eqb}
use Rattle.rehearsal_rules.proofs.Tables.{Draining}
use Rattle.rehearsal_rules.proofs.Effects.{Effect, stays, placed, goes, leaves, effect}
use Rattle.rehearsal_rules.proofs.Sound.{Facts, fine_at, apart, sound_next}

-- a packet of address a is where it is said to be
abbrev pub At : Net → ℕ → List Cell → Whereabouts → Type 0
At n a held (in_channel c) = (pk : Packet) × (get_or held c none ≡ packet pk) × (pk.address ≡ a)
At n a held (delivered_at s p) = (s ≡ destination n a) × (p ≡ a % 16)

-- a packet in channel c is the one that an order names, or another
pub by_channel : (P : Whereabouts → Type 0) (c ch : ℕ) (x y : Whereabouts) → (c ≡ ch → P x) → (c ≢ ch → P y) → P (cond (eqb c ch) x y)
by_channel P c ch x y f g = choose_cond P (eqb c ch) x y (λ t. f (eqb→eq c ch t)) (λ d. g (λ e. d (eq→eqb c ch e)))

module _ (n : Net) (holds : Tables) (Fit : ℕ → ℕ → Type 0) (rank : ℕ → ℕ) (law : Draining n holds Fit rank) where
  module _ (a : ℕ) where
    pub one_hop : (held : List Cell) {o : Order} {x : Answer} {m : List Cell} → Effect n holds held o x m → Facts n Fit held → (w : Whereabouts)
        → At n a held w → At n a m (hop n w x o)
    one_hop held f s (delivered_at t p) at = at
    one_hop held (stays h) s (in_channel c) at = at
    one_hop held (placed sw g h k f) s (in_channel c) at = (at.0, get_or-set_other held _ c _ none (λ e. apart n holds Fit rank law s _ f at.1 (sym e)) ∙ at.1, at.2)
    one_hop held (goes {ch = ch} {p = p} {pk = pk} k e al on f) s (in_channel c) at =
        by_channel (At n a (set (set held ch none) (onward n ch p) (packet pk))) c ch _ _
        (λ h.
        let same : packet pk ≡ packet at.0 = sym e ∙ subst (λ k. get_or held k none ≡ packet at.0) h at.1 in
        let keeps : pk.address ≡ at.0.address = ap address_of same in
        let there : onward n ch p < length held = le_trans (law.live _ _ (law.kept ch _ p ((fine_at n Fit s e).fit, al, on))) s.room in
        (pk, get_or-set_same (set held ch none) (onward n ch p) _ none (rw length-set there), keeps ∙ at.2))
        (λ ne. (at.0, get_or-set_other (set held ch none) _ c _ none (λ h. apart n holds Fit rank law s _ f at.1 (sym h)) ∙ get_or-set_other held ch c none none ne ∙ at.1, at.2))
    one_hop held (leaves {ch = ch} {p = p} {pk = pk} k e al off) s (in_channel c) at =
        by_channel (At n a (set held ch none)) c ch _ _
        (λ h.
        let same : packet pk ≡ packet at.0 = sym e ∙ subst (λ k. get_or held k none ≡ packet at.0) h at.1 in
        let keeps : pk.address ≡ at.0.address = ap address_of same in
        rw (keeps ∙ at.2) at (law.home ch pk.address p ((fine_at n Fit s e).fit, al, off)))
        (λ ne. (at.0, get_or-set_other held ch c none none ne ∙ at.1, at.2))

    pub keeps_address : (held : List Cell) (os : List Order) → Facts n Fit held → (w : Whereabouts) → At n a held w
        → At n a (last (moving n holds) held os) (followed n w os (answers (moving n holds) held os))
    unfolding last answers followed
    keeps_address held [] s w at = at
    keeps_address held (o ∷ os) s w at = keeps_address ((moving n holds).next held o) os (sound_next n holds Fit rank law held o s) _ (one_hop held (effect n holds held o) s w at)
