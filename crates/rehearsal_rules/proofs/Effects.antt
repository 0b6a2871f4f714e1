-- What one order does to the held packets, case by case.
use Prim.Native.Nat.{ℕ, ◌<◌}
use mathlib.Core.List.{List}
use mathlib.Core.Bool.{Bool, true, false, cond, not}
use mathlib.Core.Path.{◌≡◌, refl}
use lib.ListN.{get_or, set}
use lib.Dec.{T, ltb→lt, lit<}
use Rattle.topology_rules.specs.Net.{Net, target, live, leaving, delivers}
use Rattle.planner_rules.specs.Table.{holder, good}
use Rattle.rehearsal_rules.specs.Packets.{Packet, sent, Cell, none, packet}
use Rattle.rehearsal_rules.specs.Answers.{Answer, moved, delivered, refused, Order, placing, advancing}
use Rattle.rehearsal_rules.specs.Moves.{Tables, onward, allows, needs, taken?, answer, place_answer, advance_answer, head_answer, settle, moving}
use Rattle.topology_rules.proofs.Tests.{both_T}

module _ (n : Net) (holds : Tables) (held : List Cell) where
  abbrev pub Free : ℕ → Type 0
  Free c = T (not (taken? held c))

  pub data Effect : Order → Answer → List Cell → Type 0 where
    stays : {o : Order} {r : ℕ} → 0 < r → Effect o (refused r) held
    placed : {k a p : ℕ} → holder n k < n.switches → T (good n a) → T (holds (holder n k) 0 a p) → leaving n (holder n k) p < n.channels
        → Free (leaving n (holder n k) p)
        → Effect (placing k a p) (moved (leaving n (holder n k) p)) (set held (leaving n (holder n k) p) (packet (sent a)))
    goes : {ch p : ℕ} {pk : Packet} → ch < n.channels → get_or held ch none ≡ packet pk → T (allows n holds ch pk.address p) → T (not (delivers n (target n ch) p))
        → Free (onward n ch p)
        → Effect (advancing ch p) (moved (onward n ch p)) (set (set held ch none) (onward n ch p) (packet pk))
    leaves : {ch p : ℕ} {pk : Packet} → ch < n.channels → get_or held ch none ≡ packet pk → T (allows n holds ch pk.address p) → T (delivers n (target n ch) p)
        → Effect (advancing ch p) (delivered p) (set held ch none)

  abbrev Does : Order → Answer → Type 0
  Does o x = Effect o x (settle held x o)

  after : (o : Order) (b : Bool) (r : ℕ) (x : Answer) → 0 < r → (T b → Does o x) → Does o (needs b r x)
  unfolding needs
  after o true r x h k = k tt
  after o false r x h k = stays h

  either_way : (o : Order) (b : Bool) (x y : Answer) → (T b → Does o x) → (T (not b) → Does o y) → Does o (cond b x y)
  either_way o true x y k l = k tt
  either_way o false x y k l = l tt

  heads : (ch p : ℕ) → ch < n.channels → (x : Cell) → get_or held ch none ≡ x → Does (advancing ch p) (head_answer n holds held ch p x)
  heads ch p h none e = stays (lit< tt)
  heads ch p h (packet pk) e =
      after _ _ _ _ (lit< tt) λ al.
      either_way _ (delivers n (target n ch) p) _ _ (λ off. leaves h e al off) (λ on. after _ _ _ _ (lit< tt) λ f. rw e (goes h e al on f))

  does : (o : Order) → Does o (answer n holds held o)
  unfolding place_answer advance_answer
  does (placing k a p) =
      after _ _ _ _ (lit< tt) λ s. after _ _ _ _ (lit< tt) λ g. after _ _ _ _ (lit< tt) λ t. after _ _ _ _ (lit< tt) λ f.
      let h = both_T (holds (holder n k) 0 a p) (live n (leaving n (holder n k) p)) t in
      placed (ltb→lt _ _ s) g h.0 (ltb→lt _ _ h.1) f
  does (advancing ch p) = after _ _ _ _ (lit< tt) λ l. heads ch p (ltb→lt _ _ l) (get_or held ch none) refl

  pub effect : (o : Order) → Effect o ((moving n holds).answer held o) ((moving n holds).next held o)
  unfolding moving
  effect o = does o
