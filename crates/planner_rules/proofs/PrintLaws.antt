-- The laws of the printed plan on one page: what every input prints, its numbers and its lines.
use Prim.Native.Nat.{ℕ, ◌≤◌, ◌<◌, ◌^◌}
use mathlib.Core.List.{List, [], ◌∷◌, ◌++◌}
use mathlib.Core.Path.{◌≡◌}
use lib.ListN.{get_or, length}
use Rattle.topology_rules.specs.Count.{tabulate}
use Rattle.topology_rules.specs.Format.{switch_count, cable_count, uid_at}
use Rattle.topology_rules.specs.Check.{verdict}
use Rattle.topology_rules.specs.Net.{net_of, number_at}
use Rattle.topology_rules.specs.Edit.{records}
use Rattle.planner_rules.specs.Tree.{level, up_end, parent_number}
use Rattle.planner_rules.specs.Printed.{plan_word, switch_word, link_word, refused_word, decimal, hex, line, switch_line, link_line, printed, program}
use Rattle.planner_rules.proofs.Digits.{Each, decimal_value, hex_value, Digit, HexDigit, Plain, decimal_read, decimal_each, decimal_first, decimal_zero, decimal_plain, hex_length, hex_read, hex_each, hex_plain}
use Rattle.planner_rules.proofs.Printing.{Line, Lines, line_whole, printed_lines}
use Rattle.planner_rules.proofs.PrintedPlan.{printed_refused, plan_reads, switch_reads, link_reads}
use Rattle.planner_rules.proofs.Sizes.{printed_length}
use Rattle.planner_rules.proofs.Keeping.{kept_enough}

-- What an accepted description prints: its counts, then a text for each number from 1 to S, then one for each cable in record order.
pub record PlanText (d : List ℕ) : Type 0 where
  pub switch_text : ℕ → List ℕ
  pub link_text : ℕ → List ℕ
  pub text : printed d ≡ line plan_word (decimal (switch_count d) ∷ decimal (cable_count d) ∷ [])
      ++ records switch_text (tabulate (switch_count d) 1 (λ k. k))
      ++ records link_text (tabulate (cable_count d) 0 (λ c. c))
  -- of switch s: number, UID, level, parent's number or 0; by NumberLaws.held each of 1 to S is some switch's
  pub of_each_switch : (s : ℕ) → s < switch_count d
      → switch_text (number_at d s) ≡ line switch_word (decimal (number_at d s) ∷ hex 12 (uid_at d s) ∷ decimal (level (net_of d) s) ∷ decimal (parent_number (net_of d) s) ∷ [])
  -- of cable c: position, number of the up end
  pub of_each_cable : (c : ℕ) → c < cable_count d → link_text c ≡ line link_word (decimal c ∷ decimal (number_at d (up_end (net_of d) c)) ∷ [])

-- Printed numbers and lines; Digits.antt and Printing.antt say what the words mean.
pub record PrintLaws : Type 0 where
  -- one line for what is refused, else the plan
  pub refused : (d : List ℕ) → 0 < (verdict d).number → printed d ≡ line refused_word (decimal (verdict d).number ∷ decimal (verdict d).position ∷ [])
  pub planned : (d : List ℕ) → (verdict d).number ≡ 0 → PlanText d
  -- decimal numbers read back, in the digits 0 to 9, with no zero before other digits
  pub decimal_reads : (x : ℕ) → decimal_value (decimal x) ≡ x
  pub decimal_digits : (x : ℕ) → Each Digit (decimal x)
  pub decimal_shortest : (x : ℕ) → get_or (decimal x) 0 0 ≡ 48 → x ≡ 0
  pub decimal_of_0 : decimal 0 ≡ 48 ∷ []
  -- k hex digits are k of 0 to 9 and a to f, and read back
  pub hex_size : (k x : ℕ) → length (hex k x) ≡ k
  pub hex_digits : (k x : ℕ) → Each HexDigit (hex k x)
  pub hex_reads : (k x : ℕ) → x < 16 ^ k → hex_value (hex k x) ≡ x
  -- no number has a space or a newline; a word and fields without them make one line, which has its one newline at its end
  pub decimal_plain : (x : ℕ) → Each Plain (decimal x)
  pub hex_plain : (k x : ℕ) → Each Plain (hex k x)
  pub one_line : (word : List ℕ) (fs : List (List ℕ)) → Each Plain word → Each (Each Plain) fs → Line (line word fs)
  -- whatever is read, what is printed is whole lines, and at most 5,452 characters
  pub whole_lines : (d : List ℕ) → Lines (printed d)
  pub short : (d : List ℕ) → length (printed d) ≤ 5452
  -- of a longer input the bytes that the program keeps are enough
  pub kept : (input : List ℕ) → program input ≡ printed input

pub print_laws : PrintLaws
print_laws = record {
  refused = printed_refused;
  planned = λ d ok. record {
    switch_text = switch_line (net_of d);
    link_text = link_line (net_of d);
    text = plan_reads d ok;
    of_each_switch = switch_reads d ok;
    of_each_cable = λ c h. link_reads d c;
  };
  decimal_reads = decimal_read;
  decimal_digits = decimal_each;
  decimal_shortest = decimal_first;
  decimal_of_0 = decimal_zero;
  hex_size = hex_length;
  hex_digits = hex_each;
  hex_reads = hex_read;
  decimal_plain = decimal_plain;
  hex_plain = hex_plain;
  one_line = line_whole;
  whole_lines = printed_lines;
  short = printed_length;
  kept = kept_enough;
}
