-- The printed plan, as bytes.
use Rattle.std.specs.Prelude.{ℕ, suc, zero, ◌+◌, ◌/◌, ◌%◌, List, [], ◌∷◌, ◌++◌, true, false, cond, take, nat_eq, nat_lt}
use Rattle.topology_rules.specs.Count.{those}
use Rattle.topology_rules.specs.Check.{verdict}
use Rattle.topology_rules.specs.Net.{Net, net_of}
use Rattle.topology_rules.specs.Edit.{records}
use Rattle.planner_rules.specs.Tree.{level, up_end, parent_number}
use Rattle.planner_rules.specs.Table.{holder}

abbrev pub space : ℕ
space = 32

abbrev pub newline : ℕ
newline = 10

-- the words plan, sw, ln and refused
abbrev pub plan_word : List ℕ
plan_word = 112 ∷ 108 ∷ 97 ∷ 110 ∷ []

abbrev pub switch_word : List ℕ
switch_word = 115 ∷ 119 ∷ []

abbrev pub link_word : List ℕ
link_word = 108 ∷ 110 ∷ []

abbrev pub refused_word : List ℕ
refused_word = 114 ∷ 101 ∷ 102 ∷ 117 ∷ 115 ∷ 101 ∷ 100 ∷ []

-- a number in decimal digits, with no zero before them; it has at most as many digits as the first argument
unfoldable pub digits : ℕ → ℕ → List ℕ
digits zero x = []
digits (suc k) x = elim (nat_lt x 10) [ true ↦ (48 + x) ∷ [] | false ↦ digits k (x / 10) ++ (48 + x % 10) ∷ [] ]

abbrev pub decimal : ℕ → List ℕ
decimal x = digits (suc x) x

-- 0 to 9, then a to f
abbrev pub hex_digit : ℕ → ℕ
hex_digit x = cond (nat_lt x 10) (48 + x) (87 + x)

-- the lowest k hex digits of a number
unfoldable pub hex : ℕ → ℕ → List ℕ
hex zero x = []
hex (suc k) x = hex k (x / 16) ++ hex_digit (x % 16) ∷ []

-- fields, one space before each, and a newline
unfoldable pub fields : List (List ℕ) → List ℕ
fields [] = newline ∷ []
fields (f ∷ fs) = space ∷ f ++ fields fs

-- a word and its fields
abbrev pub line : List ℕ → List (List ℕ) → List ℕ
line word fs = word ++ fields fs

module _ (n : Net) where
  abbrev pub plan_line : List ℕ
  plan_line = line plan_word (decimal n.switches ∷ decimal (n.channels / 2) ∷ [])

  -- number, UID, level, parent's number or 0
  abbrev pub switch_line : ℕ → List ℕ
  switch_line k = let s = holder n k in line switch_word (decimal k ∷ hex 12 (n.uid s) ∷ decimal (level n s) ∷ decimal (parent_number n s) ∷ [])

  -- position, number of the up end
  abbrev pub link_line : ℕ → List ℕ
  link_line c = line link_word (decimal c ∷ decimal (n.number (up_end n c)) ∷ [])

  -- the switches in number order, the cables in record order
  unfoldable pub plan_text : List ℕ
  plan_text =
      plan_line
      ++ records switch_line (those 64 1 (λ k. nat_lt (holder n k) n.switches))
      ++ records link_line (those (n.channels / 2) 0 (λ c. true))

-- what the program prints of a description
unfoldable pub printed : List ℕ → List ℕ
printed d =
    let v = verdict d in
    elim (nat_eq v.number 0) [ true ↦ plan_text (net_of d) | false ↦ line refused_word (decimal v.number ∷ decimal v.position ∷ []) ]

-- of its input the program keeps at most 2,058 bytes
abbrev pub program : List ℕ → List ℕ
program input = printed (take 2058 input)
