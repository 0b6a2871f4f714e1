-- Where one packet is, as whoever sees the orders and their answers can tell.
use Rattle.std.specs.Prelude.{ℕ, List, [], ◌∷◌, cond, ◌≡◌, nat_eq}
use Rattle.topology_rules.specs.Net.{Net, target}
use Rattle.rehearsal_rules.specs.Machine.{Machine, answers}
use Rattle.rehearsal_rules.specs.Answers.{Answer, moved, delivered, refused, Order, placing, advancing}

-- in a channel, or delivered at a switch and port
pub data Whereabouts : Type 0 where
  in_channel : ℕ → Whereabouts
  delivered_at : ℕ → ℕ → Whereabouts

-- not both in one channel
abbrev pub Apart : Whereabouts → Whereabouts → Type 0
Apart w v = (e : ℕ) → w ≡ in_channel e → v ≡ in_channel e → ⊥

module _ (n : Net) where
  -- where a packet is after an order so answered
  abbrev pub hop : Whereabouts → Answer → Order → Whereabouts
  hop (delivered_at s p) x o = delivered_at s p
  hop (in_channel c) (refused k) o = in_channel c
  hop (in_channel c) (moved d) (placing k a p) = in_channel c
  hop (in_channel c) (moved d) (advancing ch p) = cond (nat_eq c ch) (in_channel d) (in_channel c)
  -- a placing is never delivered
  hop (in_channel c) (delivered q) (placing k a p) = in_channel c
  hop (in_channel c) (delivered q) (advancing ch p) = cond (nat_eq c ch) (delivered_at (target n ch) q) (in_channel c)

  -- after orders so answered; there are as many answers as orders
  unfoldable pub followed : Whereabouts → List Order → List Answer → Whereabouts
  followed w [] xs = w
  followed w (o ∷ os) [] = w
  followed w (o ∷ os) (x ∷ xs) = followed (hop w x o) os xs

-- Of a run from s over os: a packet that one of its orders placed with address a is at w after it.
pub data Entered (n : Net) {S : Type 0} (m : Machine S Order Answer) : S → List Order → ℕ → Whereabouts → Type 0 where
  now : {s : S} {os : List Order} {k a p c : ℕ} → m.answer s (placing k a p) ≡ moved c
      → Entered n m s (placing k a p ∷ os) a (followed n (in_channel c) os (answers m (m.next s (placing k a p)) os))
  later : {s : S} {o : Order} {os : List Order} {a : ℕ} {w : Whereabouts} → Entered n m (m.next s o) os a w → Entered n m s (o ∷ os) a w
