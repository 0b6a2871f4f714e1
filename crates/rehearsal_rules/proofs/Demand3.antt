-- Demand 3 of the machine over what the channels hold, in every well_formed net.
use Prim.Native.Nat.{ℕ, ◌%◌}
use native.Mathlib.Omega.{arith}
use mathlib.Core.List.{List}
use mathlib.Core.Path.{◌≡◌, ap, refl, ◌∙◌, ap₂}
use lib.ListN.{get_or, length, replicate, length-replicate}
use lib.Dec.{T}
use Rattle.topology_rules.specs.Net.{Net, WellFormed}
use Rattle.planner_rules.specs.Routes.{legal_length, far}
use Rattle.planner_rules.specs.Table.{entry, destination}
use Rattle.rehearsal_rules.specs.Machine.{last, every}
use Rattle.rehearsal_rules.specs.Packets.{Packet, sent, Cell, none, packet, Full, address_of, nothing}
use Rattle.rehearsal_rules.specs.Answers.{Order, advances}
use Rattle.rehearsal_rules.specs.Moves.{entries, moving, rehearsal}
use Rattle.rehearsal_rules.specs.Sound.{sound_at, sound_held}
use Rattle.rehearsal_rules.specs.Left.{hops_left, Still, packets, each}
use Rattle.rehearsal_rules.specs.Follow.{Whereabouts, in_channel, delivered_at}
use Rattle.rehearsal_rules.specs.Drains.{goes_to, Drained, Drains}
use Rattle.rehearsal_rules.proofs.Tables as tables
use Rattle.rehearsal_rules.proofs.Figures.{counts, draining}
use Rattle.rehearsal_rules.proofs.Ranks.{rank}
use Rattle.rehearsal_rules.proofs.Ours.{table_laws, exact}
use Rattle.rehearsal_rules.proofs.Held.{none_there, sum_empty}
use Rattle.rehearsal_rules.proofs.Sound.{Facts}
use Rattle.rehearsal_rules.proofs.Soundness.{facts, sound_facts}
use Rattle.rehearsal_rules.proofs.Progress.{progress}
use Rattle.rehearsal_rules.proofs.Spending.{last_length, sound_last, spent, left_net, gone}
use Rattle.rehearsal_rules.proofs.Endings.{conserved, reached, idle}
use Rattle.rehearsal_rules.proofs.Identity.{At, keeps_address}
use Rattle.rehearsal_rules.proofs.Apart.{stay_apart}
use Rattle.rehearsal_rules.proofs.Origin.{entered_at, each_home, delivery, empty_not, full_if}

bare : (ch : ℕ) → get_or nothing ch none ≡ none
unfolding nothing
bare ch = none_there 768 ch

size : length nothing ≡ 768
unfolding nothing
size = length-replicate {A = Cell} 768 none

all_empty : (k : ℕ) → k ≡ 768 → replicate k none ≡ nothing
unfolding nothing
all_empty k h = rw h

no_packets : packets nothing ≡ 0
unfolding nothing
no_packets = sum_empty none each (λ ch. refl) 768

-- the packet in a cell
whole : (x : Cell) → Full x → (pk : Packet) × (x ≡ packet pk) × (pk.address ≡ address_of x)
whole none f = absurd f
whole (packet pk) f = (pk, refl, refl)

-- 768 channels, each empty or sound
abbrev pub SoundCells : Net → List Cell → Type 0
SoundCells n held = (length held ≡ 768) × T (sound_held n held)

-- what a list of cells itself is taken for
abbrev pub itself : List Cell → List Cell
itself held = held

module _ (n : Net) (w : WellFormed n) where
  abbrev Fit : ℕ → ℕ → Type 0
  Fit ch a = T (sound_at n ch a)

  law : tables.Draining n (entries n) Fit (rank n)
  law = draining n (entry n) (legal_length n) (far n) w (table_laws n w)

  hops : tables.Counts n (entries n) Fit (hops_left n)
  unfolding hops_left
  hops = counts n (entry n) (legal_length n) (far n) w (table_laws n w) (exact n w)

  known : (held : List Cell) → SoundCells n held → Facts n Fit held
  known held s = facts n held (rw s.0 w.few_channels) s.1

  sound : (held : List Cell) → length held ≡ 768 → Facts n Fit held → SoundCells n held
  sound held e f = (e, sound_facts n held f)

  -- an empty net is sound
  pub nothing_sound : SoundCells n nothing
  nothing_sound = sound nothing size (record {
    room = rw size w.few_channels;
    each = λ ch. rw (bare ch) tt;
  })

  stays : (held : List Cell) (os : List Order) → SoundCells n held → SoundCells n (last (rehearsal n) held os)
  unfolding rehearsal
  stays held os s =
      sound (last (moving n (entries n)) held os) (last_length n (entries n) Fit (rank n) law held os ∙ s.0)
      (sound_last n (entries n) Fit (rank n) law held os (known held s))

  -- in an empty net a packet that is where it is said to be is at home
  home : (a : ℕ) (w : Whereabouts) → At n a nothing w → w ≡ delivered_at (destination n a) (a % 16)
  home a (in_channel c) at = absurd (empty_not (get_or nothing c none) (bare c) (full_if _ at.1))
  home a (delivered_at t p) at = ap₂ delivered_at at.0 at.1

  done : (held : List Cell) (os : List Order) → SoundCells n held → T (every advances os) → Still (rehearsal n) (last (rehearsal n) held os)
      → Drained n (rehearsal n) itself (SoundCells n) held os
  unfolding rehearsal
  done held os s adv still =
      let f = known held s in
      let d = gone n (entries n) Fit (rank n) law (hops_left n) hops held os f adv still in
      let empty : last (moving n (entries n)) held os ≡ nothing = d.1 ∙ all_empty _ s.0 in
      let zero_left : packets (last (moving n (entries n)) held os) ≡ 0 = rw empty no_packets in
      let outs = left_net n (entries n) Fit (rank n) law held os f adv in
      record {
        exactly = d.0;
        once_each = omega arith;
        empty = empty;
        each_home = λ ch full.
            let p = whole (get_or held ch none) full in
            home _ (goes_to n (moving n (entries n)) itself (SoundCells n) held os ch) (rw empty at (keeps_address n (entries n) Fit (rank n) law _ held os f (in_channel ch) p));
      }

  -- a packet that is where it is said to be
  there : (a c : ℕ) (held : List Cell) → At n a held (in_channel c) → get_or held c none ≡ packet (sent a)
  there a c held (pk, e, same) = e ∙ ap (λ (a : ℕ). packet (sent a)) same

  pub drains : Drains n (rehearsal n) itself (SoundCells n)
  unfolding rehearsal
  drains = record {
    stays_sound = stays;
    goes_on = λ held s ch full. progress n (entries n) Fit (rank n) law held (known held s) ch full;
    conserves = λ held os s. conserved n (entries n) Fit (rank n) law held os (known held s);
    counts = λ held os s adv. spent n (entries n) Fit (rank n) law (hops_left n) held os (known held s) adv hops;
    ends = λ held s. reached n (entries n) Fit (rank n) law (hops_left n) hops held (known held s);
    nothing_is_still = λ held s e. idle n (entries n) held (λ ch. rw e (bare ch));
    drained = done;
    apart = λ held os s c d fc fd ne.
        let p = whole (get_or held c none) fc in
        let q = whole (get_or held d none) fd in
        stay_apart n (entries n) Fit (rank n) law _ _ held os (known held s) (in_channel c) (in_channel d) p q (λ e p q. ne (cc));
    delivery = λ held s e os ch p q h. delivery n (entries n) Fit (rank n) law held os (known held s) (λ c. rw e (bare c)) ch p q h;
    placed_there = λ held s e os a c en. there a c (last (moving n (entries n)) held os) (entered_at n (entries n) Fit (rank n) law (known held s) en);
    placed_home = λ held s e os done a w en. each_home n (entries n) Fit (rank n) law (known held s) en (λ ch. rw done (bare ch));
  }
