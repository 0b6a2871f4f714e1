-- The lines of a printed plan: a field, all lines of the switches, all lines of the cables.
use Rattle.std.specs.Prelude.{ℕ, List}
use Rattle.topology_rules.specs.Count.{tabulate}
use Rattle.topology_rules.specs.Format.{switch_count, cable_count}
use Rattle.topology_rules.specs.Net.{net_of}
use Rattle.topology_rules.specs.Edit.{records}
use Rattle.planner_rules.specs.Printed.{decimal, hex, switch_line, link_line}
use Rattle.planner.specs.declared.printing.Field.{Field}
use Rattle.planner.specs.declared.printing.Field.TheVariants.{Number, Uid}

-- what a field says
abbrev pub field_text : Field → List ℕ
field_text (Number x) = decimal x
field_text (Uid u) = hex 12 u

-- the switches of description d in number order, and its cables in record order
abbrev pub switch_lines : List ℕ → List ℕ
switch_lines d = records (switch_line (net_of d)) (tabulate (switch_count d) 1 (λ k. k))

abbrev pub link_lines : List ℕ → List ℕ
link_lines d = records (link_line (net_of d)) (tabulate (cable_count d) 0 (λ c. c))
