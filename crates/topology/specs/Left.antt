-- What an edit leaves of a description.
use Rattle.std.specs.Prelude.{ℕ, List}
use Rattle.topology_rules.specs.Count.{those}
use Rattle.topology_rules.specs.Format.{switch_count, cable_count}
use Rattle.topology_rules.specs.Edit.{records, switch_record, cable_record, part}
use Rattle.topology.specs.Omitted.{switch_stays, cable_stays, position}
use Rattle.topology.specs.declared.writing.Part.{Part}

-- the switches and the cables that stay
abbrev pub switches_left : Part → List ℕ
switches_left p = those (switch_count p.records) 0 (switch_stays p.without)

abbrev pub cables_left : Part → List ℕ
cables_left p = those (cable_count p.records) 0 (cable_stays p.records p.without)

-- their records, as they are then
abbrev pub switch_records : Part → List ℕ
switch_records p = records (switch_record p.records) (switches_left p)

abbrev pub cable_records : Part → List ℕ
cable_records p = records (cable_record p.records (position p.without)) (cables_left p)

-- the whole
unfoldable pub left : Part → List ℕ
left p = part p.records (switches_left p) (cables_left p) (position p.without)
