-- What an edit leaves: how much, and the three pieces of it.
use mathlib.Core.Path.{◌≡◌, refl}
use mathlib.Core.List.{List, ◌++◌}
use Prim.Native.Nat.{ℕ, ◌+◌, ◌*◌, ◌≤◌}
use native.Mathlib.Omega.{arith}
use lib.ListN.{length, length-append}
use Rattle.topology_rules.specs.Answers.{onto}
use Rattle.topology_rules.specs.Edit.{header, switch_record, cable_record, part}
use Rattle.topology_rules.proofs.Records.{records_length}
use Rattle.topology.specs.Inside.{Written}
use Rattle.topology.specs.Omitted.{position}
use Rattle.topology.specs.Left.{switches_left, cables_left, switch_records, cable_records, left}
use Rattle.topology.specs.declared.writing.Part.{Part}
use Rattle.topology.proofs.Pieces.{written_after, written_onto}

module _ (p : Part) where
  -- how long the records are that stay
  switches_length : length (switch_records p) ≡ 8 * length (switches_left p)
  switches_length = records_length (switch_record p.records) 8 (λ i. refl) (switches_left p)

  cables_length : length (cable_records p) ≡ 4 * length (cables_left p)
  cables_length = records_length (cable_record p.records (position p.without)) 4 (λ i. refl) (cables_left p)

  -- where the switch records end
  pub switches_end : {o out : List ℕ} {at : ℕ} → Written o 9 (switch_records p) out at → at ≡ 9 + 8 * length (switches_left p)
  switches_end w = omega (arith, w.up_to, switches_length)

  -- how long the whole is
  pub left_length : length (left p) ≡ 9 + 8 * length (switches_left p) + 4 * length (cables_left p)
  unfolding left part
  left_length =
      let head = header (length (switches_left p)) (length (cables_left p)) in
      omega (arith, switches_length, cables_length, length-append head (switch_records p ++ cable_records p), length-append (switch_records p) (cable_records p))

  -- the three pieces, written one after the other
  pub left_written : {s l : ℕ} → s ≡ length (switches_left p) → l ≡ length (cables_left p) → {o u v r : List ℕ} {at end : ℕ} → 9 + 8 * s + 4 * l ≤ length o
      → Written o 0 (header s l) u 9 → Written u 9 (switch_records p) v at → Written v at (cable_records p) r end
      → (end ≡ length (left p)) × (r ≡ onto (left p) o)
  unfolding left part
  left_written {s} {l} es el room x y z =
      let h = length-append (header s l) (switch_records p) in
      rw (es, el) at (written_onto (written_after (written_after x y (omega (arith, switches_length, es, room))) z (omega (arith, switches_length, cables_length, h, es, el, room))))
