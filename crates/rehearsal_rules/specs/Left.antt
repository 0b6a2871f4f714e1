-- What is left to do: hops, packets, and sums over the channels.
use Rattle.std.specs.Prelude.{ℕ, suc, ◌+◌, List, [], ◌∷◌, cond, not, T}
use Rattle.topology_rules.specs.Net.{Net, target}
use Rattle.planner_rules.specs.Tree.{up}
use Rattle.planner_rules.specs.Routes.{after, legal_length}
use Rattle.planner_rules.specs.Table.{destination}
use Rattle.rehearsal_rules.specs.Machine.{Machine}
use Rattle.rehearsal_rules.specs.Packets.{Cell, none, packet}
use Rattle.rehearsal_rules.specs.Answers.{Order, advancing, Answer, is_accepted, enters}

-- the legal hops left to a packet held in ch
unfoldable pub hops_left : Net → ℕ → ℕ → ℕ
hops_left n ch a = legal_length n (after (up n ch)) (target n ch) (destination n a)

-- what is left to a packet in ch: its hops, and one for delivery
abbrev pub to_go : (ℕ → ℕ → ℕ) → ℕ → Cell → ℕ
to_go figure ch none = 0
to_go figure ch (packet pk) = suc (figure ch pk.address)

-- a sum over the channels
unfoldable pub sum_from : {C : Type 0} → (ℕ → C → ℕ) → ℕ → List C → ℕ
sum_from cost ch [] = 0
sum_from cost ch (x ∷ held) = cost ch x + sum_from cost (suc ch) held

abbrev pub sum : {C : Type 0} → (ℕ → C → ℕ) → List C → ℕ
sum cost held = sum_from cost 0 held

abbrev pub work : (ℕ → ℕ → ℕ) → List Cell → ℕ
work figure held = sum (to_go figure) held

abbrev pub each : ℕ → Cell → ℕ
each ch none = 0
each ch (packet pk) = 1

-- the packets in the net
abbrev pub packets : List Cell → ℕ
packets held = sum each held

-- how many of these orders, so answered, brought a packet into the net; there are as many answers as orders
unfoldable pub placings : List Order → List Answer → ℕ
placings [] xs = 0
placings (o ∷ os) [] = 0
placings (o ∷ os) (x ∷ xs) = cond (enters o x) (suc (placings os xs)) (placings os xs)

-- no advance is accepted
abbrev pub Still : {S : Type 0} → Machine S Order Answer → S → Type 0
Still m s = (ch p : ℕ) → T (not (is_accepted (m.answer s (advancing ch p))))
