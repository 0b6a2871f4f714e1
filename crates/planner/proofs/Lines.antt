-- A line, field by field.
use mathlib.Core.Path.{◌≡◌, sym, ap, ◌∙◌}
use mathlib.Core.List.{List, [], ◌∷◌, ◌++◌, append_assoc}
use Prim.Native.Nat.{ℕ, ◌+◌, ◌^◌, ◌≤◌, ◌<◌}
use native.Mathlib.Omega.{arith}
use lib.ListN.{get_or, length, drop, length-append}
use Rattle.std.proofs.Common.{map}
use Rattle.std.proofs.lemmas.List.{at_drop_more, at_drop_all}
use Rattle.planner_rules.specs.Printed.{space, newline, refused_word, decimal, fields, line}
use Rattle.planner_rules.proofs.Digits.{decimal_length}
use Rattle.planner.specs.Lines.{field_text}
use Rattle.planner.specs.Room.{HasRoom}
use Rattle.planner.specs.declared.printing.Field.{Field}
use Rattle.planner.specs.declared.printing.Field.TheVariants.{Number}

-- A loop over the fields of a line: of all that there will be, t is written, and the fields from the i-th on are left.
module _ (fs : List Field) (i : ℕ) (t all : List ℕ) where
  abbrev from_field : List Field → List ℕ
  from_field l = fields (map field_text l)

  abbrev this : List ℕ
  this = space ∷ field_text (get_or fs i (Number 0))

  abbrev later : List ℕ
  later = from_field (drop (i + 1) fs)

  module _ (whole : t ++ from_field (drop i fs) ≡ all) where
    -- the field at i comes next, then those after it
    more : i < length fs → t ++ (this ++ later) ≡ all
    unfolding fields
    more h = ap (λ l. t ++ l) (sym (at_drop_more from_field fs i (Number 0) h)) ∙ whole

    -- there is room for it
    pub field_room : i < length fs → length all ≤ 5452 → HasRoom t this
    field_room h room = omega (arith, ap length (more h), length-append t (this ++ later), length-append this later)

    -- one field more
    pub field_next : i < length fs → {s : List ℕ} → s ≡ t ++ this → s ++ later ≡ all
    field_next h e = ap (λ l. l ++ later) e ∙ append_assoc t this later ∙ more h

    -- where no field is left, the newline comes next
    last : length fs ≤ i → t ++ newline ∷ [] ≡ all
    unfolding fields
    last h = ap (λ l. t ++ l) (sym (at_drop_all from_field fs i h)) ∙ whole

    -- there is room for it
    pub end_room : length fs ≤ i → length all ≤ 5452 → HasRoom t (newline ∷ [])
    end_room h room = omega (arith, ap length (last h), length-append t (newline ∷ []))

    -- all is written
    pub end_line : length fs ≤ i → {s : List ℕ} → s ≡ t ++ newline ∷ [] → s ≡ all
    end_line h e = e ∙ last h

-- o and v fit together
pub room_both : (o v : List ℕ) → HasRoom o v → length (o ++ v) ≤ 5452
room_both o v room = omega (arith, length-append o v)

-- a refusal is short
pub refusal_room : (number position : ℕ) → number < 2 ^ 16 → position < 2 ^ 16 → length (line refused_word (decimal number ∷ decimal position ∷ [])) ≤ 5452
unfolding fields
refusal_room number position h g =
    let a = decimal number in
    let b = decimal position in
    omega (arith, decimal_length 5 number (omega arith) (omega arith), decimal_length 5 position (omega arith) (omega arith), length-append a (space ∷ b ++ newline ∷ []), length-append b (newline ∷ []))
