-- The printed plan: whole lines, and not many characters.
use Prim.Native.Nat.{ℕ, ◌/◌}
use mathlib.Core.Bool.{true}
use mathlib.Core.List.{List, [], ◌∷◌, ◌++◌, append-nil, append_assoc}
use mathlib.Core.Logic.{◌≢◌}
use mathlib.Core.Path.{◌≡◌, refl, sym, ap, ◌∙◌}
use native.Mathlib.Omega.{arith}
use lib.Dec.{ltb, eqb}
use Rattle.topology_rules.specs.Count.{those}
use Rattle.topology_rules.specs.Check.{verdict}
use Rattle.topology_rules.specs.Net.{Net, net_of}
use Rattle.topology_rules.specs.Edit.{records}
use Rattle.topology_rules.proofs.Tests.{choose}
use Rattle.planner_rules.specs.Tree.{level, up_end, parent_number}
use Rattle.planner_rules.specs.Table.{holder}
use Rattle.planner_rules.specs.Printed.{space, newline, plan_word, switch_word, link_word, refused_word, decimal, hex, fields, line, plan_line, switch_line, link_line, plan_text, printed}
use Rattle.planner_rules.proofs.Digits.{Each, each_append, each_map, Plain, decimal_plain, hex_plain}

-- a line: one newline, at its end
pub record Line (l : List ℕ) : Type 0 where
  pub body : List ℕ
  pub ended : l ≡ body ++ newline ∷ []
  pub no_other : Each (λ c. c ≢ newline) body

-- lines, one after the other
pub data Lines : List ℕ → Type 0 where
  end : Lines []
  more : {l rest : List ℕ} → Line l → Lines rest → Lines (l ++ rest)

lines_append : {a : List ℕ} (b : List ℕ) → Lines a → Lines b → Lines (a ++ b)
lines_append b end q = q
lines_append b (more {l = l} {rest = rest} x p) q = rw (append_assoc l rest b) (more x (lines_append b p q))

lines_records : (r : ℕ → List ℕ) → ((i : ℕ) → Line (r i)) → (is : List ℕ) → Lines (records r is)
unfolding records
lines_records r each [] = end
lines_records r each (i ∷ is) = more (each i) (lines_records r each is)

-- a word and fields with neither space nor newline make one line
same_line : (l : List ℕ) → Each Plain l → Each (λ c. c ≢ newline) l
same_line = each_map Plain (λ c. c ≢ newline) (λ c p. p.1)

before_line : (a l : List ℕ) → Each (λ c. c ≢ newline) a → Line l → Line (a ++ l)
before_line a l p v = record {
  body = a ++ v.body;
  ended = ap (λ r. a ++ r) v.ended ∙ sym (append_assoc a v.body (newline ∷ []));
  no_other = each_append (λ c. c ≢ newline) a v.body p v.no_other;
}

fields_line : (fs : List (List ℕ)) → Each (Each Plain) fs → Line (fields fs)
unfolding fields
fields_line [] p = record { body = []; ended = refl; no_other = tt }
fields_line (f ∷ fs) p = before_line (space ∷ f) (fields fs) (λ e. omega arith, same_line f p.0) (fields_line fs p.1)

pub line_whole : (word : List ℕ) (fs : List (List ℕ)) → Each Plain word → Each (Each Plain) fs → Line (line word fs)
line_whole word fs p q = before_line word (fields fs) (same_line word p) (fields_line fs q)

-- two numbers after a word
pair_line : (word : List ℕ) (x y : ℕ) → Each Plain word → Line (line word (decimal x ∷ decimal y ∷ []))
pair_line word x y p = line_whole word (decimal x ∷ decimal y ∷ []) p (decimal_plain x, (decimal_plain y, tt))

module _ (n : Net) where
  pub plan_is_line : Line (plan_line n)
  plan_is_line = pair_line plan_word n.switches (n.channels / 2) (omega arith)

  pub link_is_line : (c : ℕ) → Line (link_line n c)
  link_is_line c = pair_line link_word c (n.number (up_end n c)) (omega arith)

  pub switch_is_line : (k : ℕ) → Line (switch_line n k)
  switch_is_line k =
      let s = holder n k in
      line_whole switch_word (decimal k ∷ hex 12 (n.uid s) ∷ decimal (level n s) ∷ decimal (parent_number n s) ∷ []) (omega arith)
      (decimal_plain k, (hex_plain 12 (n.uid s), (decimal_plain (level n s), (decimal_plain (parent_number n s), tt))))

  text_lines : Lines (plan_text n)
  unfolding plan_text
  text_lines =
      let ks = those 64 1 (λ k. ltb (holder n k) n.switches) in
      let cs = those (n.channels / 2) 0 (λ c. true) in
      lines_append (records (link_line n) cs) (more plan_is_line (lines_records (switch_line n) switch_is_line ks)) (lines_records (link_line n) link_is_line cs)

-- what is printed is lines, for every input
pub printed_lines : (d : List ℕ) → Lines (printed d)
unfolding printed
printed_lines d =
    let v = verdict d in
    choose Lines (eqb v.number 0) (plan_text (net_of d)) (line refused_word (decimal v.number ∷ decimal v.position ∷ []))
    (λ t. text_lines (net_of d)) (λ f. rw append-nil at (more (pair_line refused_word v.number v.position (omega arith)) end))
