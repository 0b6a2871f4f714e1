-- What the private functions ask of each other.
use Rattle.std.specs.Prelude.{ℕ, ◌+◌, ◌*◌, ◌≤◌, ◌<◌, ◌≡◌, List, length}
use Rattle.std.proofs.Math.Seq.{paste}
use Rattle.topology_rules.specs.Format.{switch_count, cable_count, end_switch, end_port}
use Rattle.topology_rules.specs.Check.{Verdict, switches_from, cables_from}

-- the counts that were read, and room for their records
pub record Sized (d : List ℕ) (s l : ℕ) : Type 0 where
  pub switches : s ≡ switch_count d
  pub cables : l ≡ cable_count d
  pub few_switches : s ≤ 64
  pub few_cables : l ≤ 384
  pub room : 9 + 8 * s + 4 * l ≤ length d

-- both ends of cable c are at cable ports of switches that are there
pub record Ends (d : List ℕ) (c : ℕ) : Type 0 where
  pub first_switch : end_switch d (2 * c) < switch_count d
  pub second_switch : end_switch d (2 * c + 1) < switch_count d
  pub first_port : end_port d (2 * c) ≤ 12
  pub second_port : end_port d (2 * c + 1) ≤ 12

-- w stands in what was o, from at on and up to end, and all else is as it was
pub record Written (o : List ℕ) (at : ℕ) (w out : List ℕ) (end : ℕ) : Type 0 where
  pub up_to : end ≡ at + length w
  pub whole : out ≡ paste o at w (length w)

-- what the records of a description are refused for, once 1 to 6 do not apply
abbrev pub records_verdict : List ℕ → Verdict
records_verdict d = switches_from d (switch_count d) 0 (cables_from d (cable_count d) 0)
