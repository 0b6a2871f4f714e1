-- Channels' words and what they hold.
use Prim.Native.Nat.{ℕ, suc, zero, ◌≤◌}
use native.Mathlib.Omega.{arith}
use mathlib.Core.List.{List, [], ◌∷◌, map}
use mathlib.Core.Path.{◌≡◌, refl, sym, ap, ap₂, ◌∙◌}
use mathlib.Core.Logic.{◌≢◌}
use lib.ListN.{get_or, set, replicate}
use lib.Dec.{T}
use Rattle.topology_rules.specs.Net.{Net, live}
use Rattle.topology_rules.proofs.Tests.{both_T}
use Rattle.planner_rules.specs.Table.{good}
use Rattle.planner_rules.proofs.Addresses.{good_is}
use Rattle.rehearsal_rules.specs.Packets.{Packet, sent, Cell, none, packet, Full, address_of, cell_of, word_of, cells_of, words_of, nothing}
use Rattle.rehearsal_rules.specs.Sound.{sound_cell, sound_from}

-- any map, element by element
module _ {A B : Type 0} (f : A → B) where
  pub map_set : (l : List A) (i : ℕ) (v : A) → map f (set l i v) ≡ set (map f l) i (f v)
  map_set [] i v = refl
  map_set (x ∷ l) zero v = refl
  map_set (x ∷ l) (suc i) v = ap₂ ◌∷◌ refl (map_set l i v)

  pub map_replicate : (k : ℕ) (v : A) → map f (replicate k v) ≡ replicate k (f v)
  map_replicate zero v = refl
  map_replicate (suc k) v = ap₂ ◌∷◌ refl (map_replicate k v)

word_back : (x : ℕ) → word_of (cell_of x) ≡ x
word_back zero = refl
word_back (suc x) = refl

pub words_back : (words : List ℕ) → words_of (cells_of words) ≡ words
words_back [] = refl
words_back (x ∷ words) = ap₂ ◌∷◌ (word_back x) (words_back words)

-- what channel ch holds is what its word says
pub cell_at : (words : List ℕ) (ch : ℕ) → get_or (cells_of words) ch none ≡ cell_of (get_or words ch 0)
cell_at [] ch = refl
cell_at (x ∷ words) zero = refl
cell_at (x ∷ words) (suc ch) = cell_at words ch

pub full_word : (x : ℕ) → Full (cell_of x) → x ≢ 0
full_word zero f e = f
full_word (suc x) f e = omega arith

pub word_full : (x : ℕ) → x ≢ 0 → Full (cell_of x)
word_full zero d = d refl
word_full (suc x) d = tt

pub address_word : (x : ℕ) → address_of (cell_of x) ≡ x
address_word = word_back

-- every channel empty, as words
pub no_words : cells_of (replicate 768 0) ≡ nothing
unfolding nothing
no_words = map_replicate cell_of 768 0

-- and the other way round: words that hold nothing are zeros
pub bare_words : (words : List ℕ) → cells_of words ≡ nothing → words ≡ replicate 768 0
bare_words words e = sym (words_back words) ∙ ap words_of (e ∙ sym no_words) ∙ words_back (replicate 768 0)

module _ (n : Net) where
  -- a sound packet has an address above 0, so its word gives it back
  cell_back : (ch : ℕ) (x : Cell) → T (sound_cell n ch x) → cell_of (word_of x) ≡ x
  cell_back ch none t = refl
  cell_back ch (packet pk) t = go pk (good_is n pk.address (both_T (good n pk.address) _ (both_T (live n ch) _ t).1).0).low
    where
      go : (pk : Packet) → 16 ≤ pk.address → cell_of pk.address ≡ packet pk
      go pk h = above pk.address h
        where
          above : (a : ℕ) → 16 ≤ a → cell_of a ≡ packet (sent a)
          above zero h = absurd (omega arith)
          above (suc a) h = refl

  cells_from : (o : ℕ) (held : List Cell) → T (sound_from n o held) → cells_of (words_of held) ≡ held
  unfolding sound_from
  cells_from o [] t = refl
  cells_from o (x ∷ held) t =
      let p = both_T (sound_cell n o x) (sound_from n (suc o) held) t in
      ap₂ ◌∷◌ (cell_back o x p.0) (cells_from (suc o) held p.1)

  pub cells_back : (held : List Cell) → T (sound_from n 0 held) → cells_of (words_of held) ≡ held
  cells_back held t = cells_from 0 held t
