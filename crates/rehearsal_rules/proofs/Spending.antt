-- Accepted advances against what is left to do.
use Prim.Native.Nat.{ℕ, ◌+◌, ◌≤◌, ◌<◌}
use native.Mathlib.Omega.{arith}
use native.Mathlib.Nat.{le_trans}
use mathlib.Core.List.{List}
use mathlib.Core.Path.{◌≡◌, refl, ◌∙◌, ap}
use mathlib.Core.Logic.{◌≢◌, ◌⊎◌, inl, inr}
use lib.ListN.{get_or, set, length, length-set, replicate}
use lib.Seq.{get_or-set_other}
use lib.Dec.{T, T_not}
use Rattle.topology_rules.specs.Net.{Net}
use Rattle.rehearsal_rules.specs.Machine.{last, answers, tally, every}
use Rattle.rehearsal_rules.specs.Packets.{Packet, Cell, none, packet, Full}
use Rattle.rehearsal_rules.specs.Answers.{Answer, is_accepted, leaves_net, Order, advancing, advances}
use Rattle.rehearsal_rules.specs.Moves.{Tables, onward, moving}
use Rattle.rehearsal_rules.specs.Left.{Still, to_go, sum, work, each, packets}
use Rattle.rehearsal_rules.proofs.Drain.{one, keeps, at_most, exactly}
use Rattle.rehearsal_rules.proofs.Tables.{Draining, Descends, Counts}
use Rattle.rehearsal_rules.proofs.Held.{sum_set, sum_empty, some_or_none}
use Rattle.rehearsal_rules.proofs.Effects.{Free, Effect, stays, placed, goes, leaves, effect}
use Rattle.rehearsal_rules.proofs.Sound.{Facts, fine_at, no_head, apart, sound_next}
use Rattle.rehearsal_rules.proofs.Progress.{progress}

-- sums over the heads after each kind of step
module _ (cost : ℕ → Cell → ℕ) (free : (ch : ℕ) → cost ch none ≡ 0) (held : List Cell) (ch : ℕ) (x : Cell) (e : get_or held ch none ≡ x) (hc : ch < length held) where
  pub here_sum : (y : Cell) → sum cost (set held ch y) + cost ch x ≡ sum cost held + cost ch y
  here_sum y = rw e at (sum_set none cost held ch y hc)

  on_sum : (to : ℕ) (y : Cell) → to < length held → to ≢ ch → get_or held to none ≡ none → sum cost (set (set held ch none) to y) + cost ch x ≡ sum cost held + cost to y
  on_sum to y ht ne z =
      let first = here_sum none in
      let second = sum_set none cost (set held ch none) to y (rw length-set ht) in
      let was : cost to (get_or (set held ch none) to none) ≡ 0 = ap (cost to) (get_or-set_other held ch to none none ne ∙ z) ∙ free to in
      let gone = free ch in
      omega arith

module _ (n : Net) (holds : Tables) (Fit : ℕ → ℕ → Type 0) (rank : ℕ → ℕ) (law : Draining n holds Fit rank) where
  same_length : (held : List Cell) {o : Order} {x : Answer} {l : List Cell} → Effect n holds held o x l → length l ≡ length held
  same_length held (stays h) = refl
  same_length held (placed sw g h l f) = simp length-set
  same_length held (goes l e al on f) = simp length-set
  same_length held (leaves l e al off) = simp length-set

  pub last_length : (held : List Cell) (os : List Order) → length (last (moving n holds) held os) ≡ length held
  last_length held os =
      keeps (moving n holds) (λ l. length l ≡ length held) (λ l o e. same_length l (effect n holds l o) ∙ e) held os refl

  pub sound_last : (held : List Cell) (os : List Order) → Facts n Fit held → Facts n Fit (last (moving n holds) held os)
  sound_last held os s = keeps (moving n holds) (Facts n Fit) (sound_next n holds Fit rank law) held os s

  -- an accepted advance to another channel, and its sum
  pub goes_sum : (cost : ℕ → Cell → ℕ) → ((ch : ℕ) → cost ch none ≡ 0) → {held : List Cell} {ch : ℕ} {pk : Packet} (p : ℕ) → Facts n Fit held → ch < n.channels
      → get_or held ch none ≡ packet pk → onward n ch p < n.channels → Free n holds held (onward n ch p)
      → sum cost (set (set held ch none) (onward n ch p) (packet pk)) + cost ch (packet pk)
      ≡ sum cost held + cost (onward n ch p) (packet pk)
  goes_sum cost free {held} {ch} p s hc e ht f =
      on_sum cost free held ch _ e (le_trans hc s.room) (onward n ch p) _ (le_trans ht s.room) (apart n holds Fit rank law s _ f e) (no_head n holds Fit rank law s _ f)

  module _ (figure : ℕ → ℕ → ℕ) where
    nothing_left : (ch : ℕ) → to_go figure ch none ≡ 0
    nothing_left ch = refl

    pays_most : Descends n holds Fit figure → (held : List Cell) {o : Order} {x : Answer} {l : List Cell} → Effect n holds held o x l → Facts n Fit held → T (advances o)
        → one (is_accepted x) + work figure l ≤ work figure held
    pays_most down held (stays h) s adv = omega arith
    pays_most down held (placed sw g h l f) s adv = absurd adv
    pays_most down held (goes {ch = ch} {p = p} {pk = pk} l e al on f) s adv =
        let here = fine_at n Fit s e in
        let to = law.live _ pk.address (law.kept ch pk.address p (here.fit, al, on)) in
        let sums = goes_sum (to_go figure) nothing_left p s l e to f in
        let pay = down.falls ch pk.address p (here.fit, al, on) in
        omega arith
    pays_most down held (leaves {ch = ch} {p = p} {pk = pk} l e al off) s adv =
        let here = fine_at n Fit s e in
        let sums = here_sum (to_go figure) nothing_left held ch (packet pk) e (le_trans l s.room) none in
        let pay = down.at_home ch pk.address p (here.fit, al, off) in
        omega arith

    pays : Counts n holds Fit figure → (held : List Cell) {o : Order} {x : Answer} {l : List Cell} → Effect n holds held o x l → Facts n Fit held → T (advances o)
        → one (is_accepted x) + work figure l ≡ work figure held
    pays cs held (stays h) s adv = omega arith
    pays cs held (placed sw g h l f) s adv = absurd adv
    pays cs held (goes {ch = ch} {p = p} {pk = pk} l e al on f) s adv =
        let here = fine_at n Fit s e in
        let to = law.live _ pk.address (law.kept ch pk.address p (here.fit, al, on)) in
        let sums = goes_sum (to_go figure) nothing_left p s l e to f in
        let pay = cs.by_one ch pk.address p (here.fit, al, on) in
        omega arith
    pays cs held (leaves {ch = ch} {p = p} {pk = pk} l e al off) s adv =
        let here = fine_at n Fit s e in
        let sums = here_sum (to_go figure) nothing_left held ch (packet pk) e (le_trans l s.room) none in
        let pay = cs.at_home ch pk.address p (here.fit, al, off) in
        omega arith

    -- Advances, in whichever order, refused ones included.
    module _ (held : List Cell) (os : List Order) (s : Facts n Fit held) (adv : T (every advances os)) where
      pub spent_most : Descends n holds Fit figure → tally is_accepted (answers (moving n holds) held os) + work figure (last (moving n holds) held os) ≤ work figure held
      spent_most down =
          at_most (moving n holds) is_accepted advances (Facts n Fit) (sound_next n holds Fit rank law) (work figure)
          (λ l o i c. pays_most down l (effect n holds l o) i c) held os s adv

      pub spent : Counts n holds Fit figure → tally is_accepted (answers (moving n holds) held os) + work figure (last (moving n holds) held os) ≡ work figure held
      spent cs =
          exactly (moving n holds) is_accepted advances (Facts n Fit) (sound_next n holds Fit rank law) (work figure)
          (λ l o i c. pays cs l (effect n holds l o) i c) held os s adv

  -- deliveries against the packets in the net
  one_out : (held : List Cell) {o : Order} {x : Answer} {l : List Cell} → Effect n holds held o x l → Facts n Fit held → T (advances o)
      → one (leaves_net x) + packets l ≡ packets held
  one_out held (stays h) s adv = omega arith
  one_out held (placed sw g h l f) s adv = absurd adv
  one_out held (goes {ch = ch} {p = p} {pk = pk} l e al on f) s adv =
      let here = fine_at n Fit s e in
      let to = law.live _ pk.address (law.kept ch pk.address p (here.fit, al, on)) in
      let sums = goes_sum each (λ ch. refl) p s l e to f in
      omega arith
  one_out held (leaves {ch = ch} {pk = pk} l e al off) s adv =
      let sums = here_sum each (λ ch. refl) held ch (packet pk) e (le_trans l s.room) none in
      omega arith

  pub left_net : (held : List Cell) (os : List Order) → Facts n Fit held → T (every advances os)
      → tally leaves_net (answers (moving n holds) held os) + packets (last (moving n holds) held os) ≡ packets held
  left_net held os s adv =
      exactly (moving n holds) leaves_net advances (Facts n Fit) (sound_next n holds Fit rank law) packets
      (λ l o i c. one_out l (effect n holds l o) i c) held os s adv

  pub still_empty : (held : List Cell) → Facts n Fit held → Still (moving n holds) held → held ≡ replicate (length held) none
  still_empty held s still = go (some_or_none held)
    where
      go : ((ch : ℕ) × Full (get_or held ch none)) ⊎ (held ≡ replicate (length held) none) → held ≡ replicate (length held) none
      go (inr e) = e
      go (inl w) = let a = progress n holds Fit rank law held s w.0 w.1 in absurd (T_not (is_accepted ((moving n holds).answer held (advancing a.0 a.1))) (still a.0 a.1) a.2)

  pub emptied : (held : List Cell) (os : List Order) → Facts n Fit held → Still (moving n holds) (last (moving n holds) held os)
      → last (moving n holds) held os ≡ replicate (length held) none
  emptied held os s still = still_empty _ (sound_last held os s) still ∙ ap (λ k. replicate k none) (last_length held os)

  -- Once no advance is accepted, the accepted ones number what was left, and the net is empty.
  pub gone : (figure : ℕ → ℕ → ℕ) → Counts n holds Fit figure → (held : List Cell) (os : List Order) → Facts n Fit held → T (every advances os)
      → Still (moving n holds) (last (moving n holds) held os)
      → (tally is_accepted (answers (moving n holds) held os) ≡ work figure held) × (last (moving n holds) held os ≡ replicate (length held) none)
  gone figure cs held os s adv still =
      let bare = emptied held os s still in
      let nil : work figure (last (moving n holds) held os) ≡ 0 = rw bare (sum_empty none (to_go figure) (λ ch. refl) (length held)) in
      (omega (arith, spent figure held os s adv cs), bare)

  -- the same where figures only fall: no more than their sum and one each
  pub gone_most : (figure : ℕ → ℕ → ℕ) → Descends n holds Fit figure → (held : List Cell) (os : List Order) → Facts n Fit held → T (every advances os)
      → Still (moving n holds) (last (moving n holds) held os)
      → (tally is_accepted (answers (moving n holds) held os) ≤ work figure held) × (last (moving n holds) held os ≡ replicate (length held) none)
  gone_most figure down held os s adv still = (omega (arith, spent_most figure held os s adv down), emptied held os s still)
