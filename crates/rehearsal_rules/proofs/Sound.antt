-- What a sound record says of its packets, and that every order keeps it.
use Prim.Native.Nat.{ℕ, ◌≤◌}
use native.Mathlib.Omega.{arith}
use mathlib.Core.List.{List}
use mathlib.Core.Bool.{not}
use mathlib.Core.Path.{◌≡◌, refl, sym, ◌∙◌, subst}
use mathlib.Core.Logic.{◌≢◌}
use lib.ListN.{get_or, set, length, length-set}
use lib.Dec.{T}
use Rattle.topology_rules.specs.Net.{Net}
use Rattle.rehearsal_rules.specs.Packets.{Packet, sent, Cell, none, packet, full?}
use Rattle.rehearsal_rules.specs.Answers.{Answer, Order}
use Rattle.rehearsal_rules.specs.Moves.{Tables, onward, taken?, moving}
use Rattle.rehearsal_rules.proofs.Tables.{Draining}
use Rattle.rehearsal_rules.proofs.Held.{Each, each_set}
use Rattle.rehearsal_rules.proofs.Effects.{Free, Effect, stays, placed, goes, leaves, effect}

module _ (n : Net) where
  module _ (Fit : ℕ → ℕ → Type 0) where
    pub record Fine (ch : ℕ) (pk : Packet) : Type 0 where
      pub fit : Fit ch pk.address

    abbrev pub FineCell : ℕ → Cell → Type 0
    FineCell ch none = Unit {0}
    FineCell ch (packet pk) = Fine ch pk

    pub record Facts (held : List Cell) : Type 0 where
      pub room : n.channels ≤ length held
      pub each : Each none FineCell held

    pub fine_at : {held : List Cell} {ch : ℕ} {pk : Packet} → Facts held → get_or held ch none ≡ packet pk → Fine ch pk
    fine_at {held} {ch} s e = subst (FineCell ch) e (s.each ch)

  module _ (holds : Tables) (Fit : ℕ → ℕ → Type 0) (rank : ℕ → ℕ) (law : Draining n holds Fit rank) where
    -- a free channel has no head
    pub no_head : {held : List Cell} → Facts Fit held → (c : ℕ) → Free n holds held c → get_or held c none ≡ none
    unfolding taken?
    no_head {held} s c f = go (get_or held c none) f
      where
        go : (x : Cell) → T (not (full? x)) → x ≡ none
        go none t = refl
        go (packet pk) t = absurd t

    pub apart : {held : List Cell} {ch : ℕ} {pk : Packet} → Facts Fit held → (c : ℕ) → Free n holds held c → get_or held ch none ≡ packet pk → c ≢ ch
    apart {held} {ch} {pk} s c f e h =
        let clash : none ≡ packet pk = sym (no_head s c f) ∙ subst (λ k. get_or held k none ≡ packet pk) (sym h) e in
        let z : ◌≡◌ {A = ℕ} 0 1 = cc in
        absurd (omega arith)

    does_keep : (held : List Cell) {o : Order} {x : Answer} {l : List Cell} → Effect n holds held o x l → Facts Fit held → Facts Fit l
    does_keep held (stays h) s = s
    does_keep held (placed {a = a} sw g h l f) s =
        record {
          room = rw length-set s.room;
          each = each_set none (FineCell Fit) held _ (packet (sent a)) s.each (record { fit = law.started _ a _ sw g h l });
        }
    does_keep held (goes {ch = ch} {p = p} {pk = pk} l e al on f) s =
        let here = fine_at Fit s e in
        record {
          room = simp length-set s.room;
          each = each_set none (FineCell Fit) (set held ch none) (onward n ch p) (packet pk)
              (each_set none (FineCell Fit) held ch none s.each tt) (record { fit = law.kept ch _ p (here.fit, al, on) });
        }
    does_keep held (leaves {ch = ch} l e al off) s = record { room = rw length-set s.room; each = each_set none (FineCell Fit) held ch none s.each tt }

    pub sound_next : (held : List Cell) (o : Order) → Facts Fit held → Facts Fit ((moving n holds).next held o)
    sound_next held o s = does_keep held (effect n holds held o) s
