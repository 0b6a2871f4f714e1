-- Placing and advancing are accepted exactly as the rules say.
use Prim.Native.Nat.{ℕ, ◌<◌}
use mathlib.Core.List.{List}
use mathlib.Core.Bool.{Bool, true, false, not}
use mathlib.Core.Path.{◌≡◌, refl, ◌∙◌}
use mathlib.Core.Logic.{◌⊎◌, inl, inr, ◌↔◌}
use lib.ListN.{get_or}
use lib.Dec.{T, lt→ltb}
use Rattle.topology_rules.specs.Net.{Net, target, leaving, live, delivers}
use Rattle.planner_rules.specs.Table.{holder, good}
use Rattle.rehearsal_rules.specs.Packets.{Cell, none, packet, Full, address_of}
use Rattle.rehearsal_rules.specs.Answers.{Answer, moved, delivered, is_accepted, placing, advancing}
use Rattle.rehearsal_rules.specs.Moves.{Tables, onward, allows, needs, moving, place_answer, advance_answer, head_answer, taken?}
use Rattle.topology_rules.proofs.Tests.{T_both, cond_is, cond_not}
use Rattle.rehearsal_rules.proofs.Effects.{Effect, stays, placed, goes, leaves, effect}

module _ (n : Net) (holds : Tables) (held : List Cell) where
  pub record MayPlace (k a p : ℕ) : Type 0 where
    pub switch : holder n k < n.switches
    pub address : T (good n a)
    pub held_port : T (holds (holder n k) 0 a p)
    pub cable : leaving n (holder n k) p < n.channels
    pub next_empty : T (not (taken? held (leaving n (holder n k) p)))

  -- a channel that holds a head, a port that its entry holds, and that port leaves the net or the next channel is free
  pub record MayAdvance (ch p : ℕ) : Type 0 where
    pub channel : ch < n.channels
    pub head : Full (get_or held ch none)
    pub held_port : T (allows n holds ch (address_of (get_or held ch none)) p)
    pub room : T (delivers n (target n ch) p) ⊎ (T (not (delivers n (target n ch) p)) × T (not (taken? held (onward n ch p))))

needs_is : (b : Bool) (r : ℕ) (x : Answer) → T b → needs b r x ≡ x
unfolding needs
needs_is true r x t = refl
needs_is false r x t = absurd t

module _ (n : Net) (holds : Tables) (held : List Cell) where
  placed_so : {k a p : ℕ} {x : Answer} {m : List Cell} → Effect n holds held (placing k a p) x m → T (is_accepted x) → MayPlace n holds held k a p
  placed_so (stays h) t = absurd t
  placed_so (placed s g h c f) t = record { switch = s; address = g; held_port = h; cable = c; next_empty = f }

  advanced_so : {ch p : ℕ} {x : Answer} {m : List Cell} → Effect n holds held (advancing ch p) x m → T (is_accepted x) → MayAdvance n holds held ch p
  advanced_so (stays h) t = absurd t
  advanced_so (goes c e h on f) t = record { channel = c; head = rw e tt; held_port = rw e h; room = inr (on, f) }
  advanced_so (leaves c e h off) t = record { channel = c; head = rw e tt; held_port = rw e h; room = inl off }

  may_place : (k a p : ℕ) → MayPlace n holds held k a p → place_answer n holds held k a p ≡ moved (leaving n (holder n k) p)
  unfolding place_answer
  may_place k a p m =
      let port = T_both (holds (holder n k) 0 a p) (live n (leaving n (holder n k) p)) m.held_port (lt→ltb _ _ m.cable) in
      needs_is _ _ _ (lt→ltb _ _ m.switch) ∙ needs_is _ _ _ m.address ∙ needs_is _ _ _ port ∙ needs_is _ _ _ m.next_empty

  head_accepted : (ch p : ℕ) (x : Cell) → Full x → T (allows n holds ch (address_of x) p)
      → T (delivers n (target n ch) p) ⊎ (T (not (delivers n (target n ch) p)) × T (not (taken? held (onward n ch p)))) → T (is_accepted (head_answer n holds held ch p x))
  head_accepted ch p none full al room = absurd full
  head_accepted ch p (packet pk) full al (inl off) =
      let is : head_answer n holds held ch p (packet pk) ≡ delivered p = needs_is _ _ _ al ∙ cond_is (delivers n (target n ch) p) _ _ off in
      rw is tt
  head_accepted ch p (packet pk) full al (inr on) =
      let is : head_answer n holds held ch p (packet pk) ≡ moved (onward n ch p) = needs_is _ _ _ al ∙ cond_not (delivers n (target n ch) p) _ _ on.0 ∙ needs_is _ _ _ on.1 in
      rw is tt

  may_advance : (ch p : ℕ) → MayAdvance n holds held ch p → T (is_accepted (advance_answer n holds held ch p))
  unfolding advance_answer
  may_advance ch p m = rw (needs_is _ _ (head_answer n holds held ch p (get_or held ch none)) (lt→ltb _ _ m.channel)) (head_accepted ch p (get_or held ch none) m.head m.held_port m.room)

  pub place_exactly : (k a p : ℕ) → T (is_accepted ((moving n holds).answer held (placing k a p))) ↔ MayPlace n holds held k a p
  unfolding moving
  place_exactly k a p = (placed_so (effect n holds held (placing k a p)), λ m. rw (may_place k a p m) tt)

  pub advance_exactly : (ch p : ℕ) → T (is_accepted ((moving n holds).answer held (advancing ch p))) ↔ MayAdvance n holds held ch p
  unfolding moving
  advance_exactly ch p = (advanced_so (effect n holds held (advancing ch p)), may_advance ch p)
