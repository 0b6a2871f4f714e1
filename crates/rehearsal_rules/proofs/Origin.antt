-- Each packet in the net was placed there, with the address that it still has.
use Prim.Native.Nat.{ℕ, ◌≤◌, ◌<◌, ◌%◌}
use native.Mathlib.Omega.{arith}
use native.Mathlib.Nat.{le_trans}
use native.Mathlib.Decide.{ℕ_discrete}
use mathlib.Core.List.{List, [], ◌∷◌}
use mathlib.Core.Path.{◌≡◌, refl, sym, ◌∙◌, ap, ap₂, subst}
use mathlib.Core.Logic.{◌≢◌, ◌⊎◌, inl, inr}
use lib.ListN.{get_or, set, length}
use lib.Seq.{get_or-set_same, get_or-set_other}
use Rattle.topology_rules.specs.Net.{Net, target, leaving}
use Rattle.planner_rules.specs.Table.{destination, holder}
use Rattle.rehearsal_rules.specs.Machine.{Machine, last, answers}
use Rattle.rehearsal_rules.specs.Packets.{Packet, sent, Cell, none, packet, address_of, Full}
use Rattle.rehearsal_rules.specs.Answers.{Answer, moved, delivered, Order, placing, advancing}
use Rattle.rehearsal_rules.specs.Moves.{Tables, onward, moving}
use Rattle.rehearsal_rules.specs.Follow.{Whereabouts, in_channel, delivered_at, hop, followed, Entered, now, later}
use Rattle.rehearsal_rules.proofs.Drain.{keeps}
use Rattle.rehearsal_rules.proofs.Identity.{by_channel, At, keeps_address}
use Rattle.rehearsal_rules.proofs.Tables.{Draining}
use Rattle.rehearsal_rules.proofs.Effects.{Effect, stays, placed, goes, leaves, effect}
use Rattle.rehearsal_rules.proofs.Sound.{Facts, fine_at, sound_next}

pub full_if : (x : Cell) {pk : Packet} → x ≡ packet pk → Full x
full_if x e = rw e tt

pub empty_not : (x : Cell) → x ≡ none → Full x → ⊥
empty_not x e f = rw e at f

module _ (n : Net) (holds : Tables) (held : List Cell) (fits : n.channels ≤ length held) where
  -- the head in c after an order was in the net before, or the order placed it
  data Back (c : ℕ) : Order → Answer → Type 0 where
    was : {o : Order} {x : Answer} (d : ℕ) → Full (get_or held d none) → hop n (in_channel d) x o ≡ in_channel c → Back c o x
    new : {k a p : ℕ} → Back c (placing k a p) (moved c)

  emptied : (ch c : ℕ) → ch < n.channels → Full (get_or (set held ch none) c none) → c ≢ ch
  emptied ch c l full e = empty_not (get_or (set held ch none) c none) (rw e (get_or-set_same held ch none none (le_trans l fits))) full

  back : (c : ℕ) {o : Order} {x : Answer} {m : List Cell} → Effect n holds held o x m → Full (get_or m c none) → Back c o x
  back c (stays h) full = was c full refl
  back c (placed {k = k} {a = a} {p = p} sw g h l f) full = same? (ℕ_discrete c (leaving n (holder n k) p))
    where
      same? : Dec (c ≡ leaving n (holder n k) p) → Back c (placing k a p) (moved (leaving n (holder n k) p))
      same? (yes e) = rw (← e) new
      same? (no ne) = was c (subst Full (get_or-set_other held _ c (packet (sent a)) none ne) full) refl
  back c (goes {ch = ch} {p = p} l e al on f) full = same? (ℕ_discrete c (onward n ch p))
    where
      same? : Dec (c ≡ onward n ch p) → Back c (advancing ch p) (moved (onward n ch p))
      same? (yes h) = was ch (full_if (get_or held ch none) e) (by_channel (λ w. w ≡ in_channel c) ch ch _ _ (λ u. ap in_channel (sym h)) (λ u. absurd (u refl)))
      same? (no ne) =
          let there : Full (get_or (set held ch none) c none) = subst Full (get_or-set_other (set held ch none) _ c _ none ne) full in
          let other : c ≢ ch = emptied ch c l there in
          was c (subst Full (get_or-set_other held ch c none none other) there) (by_channel (λ w. w ≡ in_channel c) c ch _ _ (λ u. absurd (other u)) (λ u. refl))
  back c (leaves {ch = ch} {p = p} l e al off) full =
      let other : c ≢ ch = emptied ch c l full in
      was c (subst Full (get_or-set_other held ch c none none other) full) (by_channel (λ w. w ≡ in_channel c) c ch _ _ (λ u. absurd (other u)) (λ u. refl))

module _ (n : Net) (holds : Tables) (Fit : ℕ → ℕ → Type 0) (rank : ℕ → ℕ) (law : Draining n holds Fit rank) where
  abbrev machine : Machine (List Cell) Order Answer
  machine = moving n holds

  -- an accepted placing puts the packet into the channel that it answers
  put : (held : List Cell) → n.channels ≤ length held → {k a p : ℕ} {x : Answer} {m : List Cell} (c : ℕ) → Effect n holds held (placing k a p) x m → x ≡ moved c
      → get_or m c none ≡ packet (sent a)
  put held fits c (stays h) e = let z : ◌≡◌ {A = ℕ} 0 1 = cc in absurd (omega arith)
  put held fits c (placed {k = k} {a = a} {p = p} sw g h l f) e =
      let same : leaving n (holder n k) p ≡ c = cc in
      rw (← same) (get_or-set_same held _ (packet (sent a)) none (le_trans l fits))

  pub entered_at : {held : List Cell} {os : List Order} {a : ℕ} {w : Whereabouts} → Facts n Fit held → Entered n machine held os a w → At n a (last machine held os) w
  unfolding last
  entered_at {held} s (now {os = os} {k = k} {a = a} {p = p} {c = c} e) =
      keeps_address n holds Fit rank law a _ os (sound_next n holds Fit rank law held (placing k a p) s) (in_channel c)
      (_, put held s.room c (effect n holds held (placing k a p)) e, refl)
  entered_at {held} s (later {o = o} e) = entered_at (sound_next n holds Fit rank law held o s) e

  -- Once the net is empty, each packet that was placed is delivered at the switch and port of its address.
  pub each_home : {held : List Cell} {os : List Order} {a : ℕ} {w : Whereabouts} → Facts n Fit held → Entered n machine held os a w
      → ((ch : ℕ) → get_or (last machine held os) ch none ≡ none) → w ≡ delivered_at (destination n a) (a % 16)
  each_home {held} {os} {a} {w} s e bare = go w (entered_at s e)
    where
      go : (w : Whereabouts) → At n a (last machine held os) w → w ≡ delivered_at (destination n a) (a % 16)
      go (in_channel d) h = absurd (empty_not (get_or (last machine held os) d none) (bare d) (full_if _ h.1))
      go (delivered_at t p) h = ap₂ delivered_at h.0 h.1

  From : List Cell → List Order → ℕ → Type 0
  From held os ch = ((c : ℕ) × Full (get_or held c none) × (followed n (in_channel c) os (answers machine held os) ≡ in_channel ch))
      ⊎ ((a : ℕ) × Entered n machine held os a (in_channel ch))

  from : (held : List Cell) (os : List Order) (ch : ℕ) → Facts n Fit held → Full (get_or (last machine held os) ch none) → From held os ch
  unfolding From last answers followed
  from held [] ch s full = inl (ch, full, refl)
  from held (o ∷ os) ch s full = step (from (machine.next held o) os ch (sound_next n holds Fit rank law held o s) full)
    where
      joined : (c : ℕ) {o : Order} {x : Answer} → Back n holds held s.room c o x → x ≡ machine.answer held o
          → followed n (in_channel c) os (answers machine (machine.next held o) os) ≡ in_channel ch → From held (o ∷ os) ch
      joined c (was d fd e) same more = inl (d, fd, rw (← same, e) more)
      joined c (new {k = k} {a = a} {p = p}) same more =
          inr (a, subst (λ w. Entered n machine held (placing k a p ∷ os) a w) more (now (sym same)))

      step : From (machine.next held o) os ch → From held (o ∷ os) ch
      step (inl w) = joined w.0 (back n holds held s.room w.0 (effect n holds held o) w.1) refl w.2
      step (inr w) = inr (w.0, later w.1)

  -- Each packet in a net that started empty was placed, with the address that it has.
  pub origin : (held : List Cell) (os : List Order) (ch : ℕ) → Facts n Fit held → ((c : ℕ) → get_or held c none ≡ none) → {pk : Packet}
      → get_or (last machine held os) ch none ≡ packet pk → Entered n machine held os pk.address (in_channel ch)
  unfolding From
  origin held os ch s bare {pk} e = go (from held os ch s (full_if _ e))
    where
      go : From held os ch → Entered n machine held os pk.address (in_channel ch)
      go (inl w) = absurd (empty_not (get_or held w.0 none) (bare w.0) w.1)
      go (inr w) =
          let at = entered_at s w.1 in
          let sa : w.0 ≡ pk.address = sym at.2 ∙ ap address_of (sym at.1 ∙ e) in
          subst (λ y. Entered n machine held os y (in_channel ch)) sa w.1

  -- Each delivery is of a packet that was placed, at the switch and port of the address it was placed with.
  pub delivery : (held : List Cell) (os : List Order) → Facts n Fit held → ((c : ℕ) → get_or held c none ≡ none) → (ch p q : ℕ)
      → machine.answer (last machine held os) (advancing ch p) ≡ delivered q
      → (a : ℕ) × Entered n machine held os a (in_channel ch) × (target n ch ≡ destination n a) × (q ≡ a % 16)
  delivery held os s bare ch p q e = go (effect n holds (last machine held os) (advancing ch p)) e
    where
      end : Facts n Fit (last machine held os)
      end = keeps machine (Facts n Fit) (sound_next n holds Fit rank law) held os s

      go : {x : Answer} {m : List Cell} → Effect n holds (last machine held os) (advancing ch p) x m → x ≡ delivered q
          → (a : ℕ) × Entered n machine held os a (in_channel ch) × (target n ch ≡ destination n a) × (q ≡ a % 16)
      go (stays h) e = let z : ◌≡◌ {A = ℕ} 0 1 = cc in absurd (omega arith)
      go (goes l h al on f) e = let z : ◌≡◌ {A = ℕ} 0 1 = cc in absurd (omega arith)
      go (leaves {pk = pk} l h al off) e =
          let there = law.home ch pk.address p ((fine_at n Fit end h).fit, al, off) in
          let same : p ≡ q = cc in
          (pk.address, origin held os ch s bare h, there.0, sym same ∙ there.1)
