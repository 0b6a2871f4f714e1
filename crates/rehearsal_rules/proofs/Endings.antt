-- Packets are conserved, an empty net is still, and advances reach an empty net.
use Prim.Native.Nat.{ℕ, suc, zero, ◌+◌, ◌≤◌, ◌<◌}
use native.Mathlib.Omega.{arith}
use native.Mathlib.Nat.{le_trans}
use mathlib.Core.List.{List, [], ◌∷◌}
use mathlib.Core.Bool.{Bool, true, false}
use mathlib.Core.Path.{◌≡◌, refl}
use mathlib.Core.Logic.{◌⊎◌, inl, inr}
use lib.ListN.{get_or, length, replicate}
use lib.Dec.{T, not_T}
use Rattle.topology_rules.specs.Net.{Net, leaving}
use Rattle.planner_rules.specs.Table.{holder}
use Rattle.rehearsal_rules.specs.Machine.{last, answers, tally, every}
use Rattle.rehearsal_rules.specs.Packets.{Cell, none, packet, sent, Full}
use Rattle.rehearsal_rules.specs.Answers.{Answer, is_accepted, leaves_net, enters, Order, placing, advancing, advances}
use Rattle.rehearsal_rules.specs.Moves.{Tables, moving}
use Rattle.rehearsal_rules.specs.Left.{work, each, packets, placings, Still}
use Rattle.rehearsal_rules.proofs.Drain.{one, tally_cons}
use Rattle.rehearsal_rules.proofs.Tables.{Draining, Counts}
use Rattle.rehearsal_rules.proofs.Held.{some_or_none, none_there}
use Rattle.rehearsal_rules.proofs.Effects.{Effect, stays, placed, goes, leaves, effect}
use Rattle.rehearsal_rules.proofs.Exactly.{advance_exactly}
use Rattle.rehearsal_rules.proofs.Sound.{Facts, fine_at, no_head, sound_next}
use Rattle.rehearsal_rules.proofs.Spending.{here_sum, goes_sum, spent}
use Rattle.rehearsal_rules.proofs.Progress.{progress}

module _ (n : Net) (holds : Tables) where
  -- nothing can be advanced where nothing is held
  pub idle : (held : List Cell) → ((ch : ℕ) → get_or held ch none ≡ none) → Still (moving n holds) held
  idle held bare ch p = not_T (is_accepted ((moving n holds).answer held (advancing ch p)))
      (λ t. rw (bare ch) at ((advance_exactly n holds held ch p).0 t).head)

  module _ (Fit : ℕ → ℕ → Type 0) (rank : ℕ → ℕ) (law : Draining n holds Fit rank) where
    -- one order: what is held and what it places is what it delivers and what is held then
    balance : (held : List Cell) {o : Order} {x : Answer} {l : List Cell} → Effect n holds held o x l → Facts n Fit held
        → packets held + one (enters o x) ≡ one (leaves_net x) + packets l
    balance held (stays {o = o} {r = r} h) s = go o
      where
        go : (o : Order) → packets held + one (enters o (Answer.refused r)) ≡ 0 + packets held
        go (placing k a p) = omega arith
        go (advancing ch p) = omega arith
    balance held (placed {k = k} {a = a} {p = p} sw g h l f) s =
        let c = leaving n (holder n k) p in
        let sums = here_sum each (λ ch. refl) held c none (no_head n holds Fit rank law s c f) (le_trans l s.room) (packet (sent a)) in
        omega arith
    balance held (goes {ch = ch} {p = p} {pk = pk} l e al on f) s =
        let here = fine_at n Fit s e in
        let to = law.live _ pk.address (law.kept ch pk.address p (here.fit, al, on)) in
        let sums = goes_sum n holds Fit rank law each (λ ch. refl) p s l e to f in
        omega arith
    balance held (leaves {ch = ch} {pk = pk} l e al off) s =
        let sums = here_sum each (λ ch. refl) held ch (packet pk) e (le_trans l s.room) none in
        omega arith

    pub conserved : (held : List Cell) (os : List Order) → Facts n Fit held
        → packets held + placings os (answers (moving n holds) held os) ≡ tally leaves_net (answers (moving n holds) held os) + packets (last (moving n holds) held os)
    unfolding last answers tally placings
    conserved held [] s = omega arith
    conserved held (o ∷ os) s =
        let x = (moving n holds).answer held o in
        let l = (moving n holds).next held o in
        let here = balance held (effect n holds held o) s in
        let rest = conserved l os (sound_next n holds Fit rank law held o s) in
        omega (arith, tally_cons (enters o x) (placings os (answers (moving n holds) l os)), tally_cons (leaves_net x) (tally leaves_net (answers (moving n holds) l os)))

    module _ (figure : ℕ → ℕ → ℕ) (cs : Counts n holds Fit figure) where
      abbrev Ends : List Cell → Type 0
      Ends held = (os : List Order) × T (every advances os) × Still (moving n holds) (last (moving n holds) held os)

      -- while a packet is in the net some advance leaves less to do
      step : (held : List Cell) → Facts n Fit held → ((l : List Cell) → work figure l < work figure held → Facts n Fit l → Ends l)
          → ((ch : ℕ) × Full (get_or held ch none)) ⊎ (held ≡ replicate (length held) none) → Ends held
      unfolding last answers tally
      step held s later (inr e) = ([], tt, idle held (λ ch. rw e (none_there (length held) ch)))
      step held s later (inl w) =
          let (c, p, t) = progress n holds Fit rank law held s w.0 w.1 in
          let o = advancing c p in
          let paid = spent n holds Fit rank law figure held (o ∷ []) s tt cs in
          let less : work figure ((moving n holds).next held o) < work figure held = omega (arith, tally_cons (is_accepted ((moving n holds).answer held o)) 0, counted (is_accepted ((moving n holds).answer held o)) t) in
          let rest = later ((moving n holds).next held o) less (sound_next n holds Fit rank law held o s) in
          (o ∷ rest.0, rest.1, rest.2)
        where
          counted : (b : Bool) → T b → one b ≡ 1
          counted true t = refl
          counted false t = absurd t

      steps : (k : ℕ) (held : List Cell) → work figure held ≤ k → Facts n Fit held → Ends held
      steps zero held h s = step held s (λ l less f. absurd (omega arith)) (some_or_none held)
      steps (suc k) held h s = step held s (λ l less f. steps k l (omega arith) f) (some_or_none held)

      -- from every sound state advances reach one where none is accepted
      pub reached : (held : List Cell) → Facts n Fit held → (os : List Order) × T (every advances os) × Still (moving n holds) (last (moving n holds) held os)
      reached held s = steps (work figure held) held (omega arith) s
