-- What an order on sound words does, in the rules' words.
use Prim.Native.Nat.{ℕ, suc, zero}
use mathlib.Core.List.{List}
use mathlib.Core.Bool.{not}
use mathlib.Core.Path.{◌≡◌, refl, sym, ◌∙◌, ap, subst}
use mathlib.Core.Logic.{◌≢◌}
use lib.ListN.{get_or, set}
use lib.Dec.{T, T_not}
use Rattle.topology_rules.specs.Net.{Net, WellFormed, net_of, target, in_port, leaving, delivers}
use Rattle.topology_rules.proofs.Laws.{accepted_well_formed}
use Rattle.planner_rules.specs.Table.{holder}
use Rattle.planner_rules.specs.Rules.{Addresses, Holds, Leaves}
use Rattle.planner_rules.proofs.Addresses.{holder_is, good_exactly}
use Rattle.planner_rules.proofs.Ports.{delivers_exactly, leaving_leaves, leaves_leaving, cable_or_out}
use Rattle.planner_rules.proofs.Holding.{holds_exactly}
use Rattle.rehearsal_rules.specs.Packets.{Packet, sent, Cell, none, packet, Full, full?, address_of, cell_of, word_of, cells_of, words_of}
use Rattle.rehearsal_rules.specs.Answers.{Order, Answer, is_accepted}
use Rattle.rehearsal_rules.specs.Moves.{entries, onward, taken?, rehearsal}
use Rattle.rehearsal_rules.specs.Record.{sound_on, call_on}
use Rattle.rehearsal_rules.specs.Rules.{Does}
use Rattle.rehearsal_rules.proofs.Effects.{Effect, stays, placed, goes, leaves, effect}
use Rattle.rehearsal_rules.proofs.Words.{map_set, words_back, cell_at, full_word, address_word}
use Rattle.rehearsal_rules.proofs.Calls.{obeyed, sound_parts}

-- an empty channel's word is 0
empty_word : (x : ℕ) → T (not (full? (cell_of x))) → x ≡ 0
empty_word zero t = refl
empty_word (suc x) t = absurd t

pub free_word : (words : List ℕ) (c : ℕ) → T (not (taken? (cells_of words) c)) → get_or words c 0 ≡ 0
unfolding taken?
free_word words c t = empty_word (get_or words c 0) (rw (cell_at words c) at t)

module _ (n : Net) (w : WellFormed n) (words : List ℕ) where
  abbrev held : List Cell
  held = cells_of words

  -- the words after one channel changed
  put : (c : ℕ) (x : Cell) → words_of (set held c x) ≡ set words c (word_of x)
  put c x = map_set word_of held c x ∙ ap (λ (l : List ℕ). set l c (word_of x)) (words_back words)

  put_two : (ch c : ℕ) (x : Cell) → words_of (set (set held ch none) c x) ≡ set (set words ch 0) c (word_of x)
  put_two ch c x = map_set word_of (set held ch none) c x ∙ ap (λ (l : List ℕ). set l c (word_of x)) (put ch none)

  -- a held packet's word is its address
  word_is : (ch : ℕ) (pk : Packet) → get_or held ch none ≡ packet pk → get_or words ch 0 ≡ pk.address
  word_is ch pk e = sym (address_word (get_or words ch 0)) ∙ ap address_of (sym (cell_at words ch) ∙ e)

  word_some : (ch : ℕ) (pk : Packet) → get_or held ch none ≡ packet pk → get_or words ch 0 ≢ 0
  word_some ch pk e = full_word (get_or words ch 0) (subst Full (sym e ∙ cell_at words ch) tt)

  -- at a port that does not deliver a held port leads over a cable; at one that does it is the addressed one
  pub crosses : (s i a p : ℕ) → Holds n s i a p → T (not (delivers n s p)) → Leaves n s p (leaving n s p)
  crosses s i a p (Holds.here at x) on = absurd (T_not (delivers n s p) on ((delivers_exactly n s p).1 x.served))
  crosses s i a p (Holds.onward {c = c} r at x d v l sh) on = rw (leaves_leaving n w s p c l) l

  at_home : (s i a p : ℕ) → Holds n s i a p → T (delivers n s p) → Addresses n a s p
  at_home s i a p (Holds.here at x) off = x
  at_home s i a p (Holds.onward {c = c} r at x d v l sh) off = absurd (cable_or_out n w s p c l ((delivers_exactly n s p).0 off))

  does : {o : Order} {x : Answer} {m : List Cell} → Effect n (entries n) held o x m → Does n words o x (words_of m)
  does (stays h) = rw (words_back words) (Does.stays h)
  does (placed {k = k} {a = a} {p = p} sw g h l f) =
      let s = holder n k in
      rw (put (leaving n s p) (packet (sent a)))
      (Does.placed (sw, holder_is n k sw) ((good_exactly n w a).0 g) ((holds_exactly n w s 0 a p).0 h) (leaving_leaves n s p l) (free_word words (leaving n s p) f))
  does (goes {ch = ch} {p = p} {pk = pk} l e al on f) =
      let same = word_is ch pk e in
      let h : Holds n (target n ch) (in_port n ch) (get_or words ch 0) p = rw same ((holds_exactly n w (target n ch) (in_port n ch) pk.address p).0 al) in
      rw (put_two ch (onward n ch p) (packet pk), ← same)
      (Does.goes l (word_some ch pk e) h (crosses (target n ch) (in_port n ch) (get_or words ch 0) p h on) (free_word words (onward n ch p) f))
  does (leaves {ch = ch} {p = p} {pk = pk} l e al off) =
      let h = (holds_exactly n w (target n ch) (in_port n ch) pk.address p).0 al in
      let x : Addresses n (get_or words ch 0) (target n ch) p = rw (word_is ch pk e) (at_home (target n ch) (in_port n ch) pk.address p h off) in
      rw (put ch none) (Does.leaves l x)

-- a call on sound words does what the rules say
pub does_so : (d words : List ℕ) (o : Order) → T (sound_on d words) → Does (net_of d) words o (call_on d words o).answer (call_on d words o).lent
unfolding rehearsal
does_so d words o t =
    let w = accepted_well_formed d (sound_parts d words t).0 in
    rw (obeyed d words o t) (does (net_of d) w words (effect (net_of d) (entries (net_of d)) (cells_of words) o))

-- a refusal changes nothing
pub refused_stays : {n : Net} {words l : List ℕ} {o : Order} {x : Answer} → Does n words o x l → T (not (is_accepted x)) → l ≡ words
refused_stays (Does.stays h) t = refl
refused_stays (Does.placed m g h l e) t = absurd t
refused_stays (Does.goes c ne h l e) t = absurd t
refused_stays (Does.leaves c x) t = absurd t
