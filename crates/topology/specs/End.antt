-- The ends of cables as the code holds them.
use Rattle.std.specs.Prelude.{ℕ, List}
use Rattle.topology_rules.specs.Format.{end_switch, end_port}
use Rattle.topology.specs.declared.records.End.{End}

-- end e of description d
abbrev pub end_at : List ℕ → ℕ → End
end_at d e = record { switch = end_switch d e; port = end_port d e }
