-- Descriptions are bytes, and stay bytes.
use Prim.Native.Nat.{ℕ, suc, zero, ◌+◌, ◌*◌, ◌-◌, ◌≤◌, ◌<◌}
use mathlib.Core.List.{List, [], ◌∷◌, ◌++◌}
use mathlib.Core.Bool.{Bool, true, not}
use native.Mathlib.Omega.{arith}
use lib.ListN.{get_or, length}
use lib.Dec.{eqb, ltb, lit<}
use Rattle.topology_rules.specs.Format.{Bytes, switch_count, cable_count, cables_at}
use Rattle.topology_rules.specs.Count.{those}
use Rattle.topology_rules.specs.Edit.{header, switch_record, cable_record, records, part, fall, clear, retired, pulled}
use Rattle.topology_rules.proofs.Tests.{choose_cond}
use Rattle.topology_rules.proofs.Records.{those_listed}

none : Bytes []
none k = lit< tt

more : (x : ℕ) (l : List ℕ) → x < 256 → Bytes l → Bytes (x ∷ l)
more x l h b zero = h
more x l h b (suc k) = b k

join : (a b : List ℕ) → Bytes a → Bytes b → Bytes (a ++ b)
join [] b p q = q
join (x ∷ a) b p q = more x (a ++ b) (p 0) (join a b (λ k. p (suc k)) q)

records_bytes : (r : ℕ → List ℕ) → ((i : ℕ) → Bytes (r i)) → (is : List ℕ) → Bytes (records r is)
unfolding records
records_bytes r each [] = none
records_bytes r each (i ∷ is) = join (r i) (records r is) (each i) (records_bytes r each is)

-- a list written out
abbrev Each : List ℕ → Type 0
Each [] = Unit {0}
Each (x ∷ l) = (x < 256) × Each l

each : (l : List ℕ) → Each l → Bytes l
each [] e = none
each (x ∷ l) e = more x l e.0 (each l e.1)

header_bytes : (s l : ℕ) → s < 65536 → l < 65536 → Bytes (header s l)
header_bytes s l h g =
    each (header s l) (lit< tt, (lit< tt, (lit< tt, (lit< tt, (lit< tt, (omega arith, (omega arith, (omega arith, (omega arith, tt)))))))))

module _ (d : List ℕ) (b : Bytes d) where
  switch_bytes : (i : ℕ) → Bytes (switch_record d i)
  switch_bytes i =
      let at = 9 + 8 * i in
      each (switch_record d i) (b at, (b (at + 1), (b (at + 2), (b (at + 3), (b (at + 4), (b (at + 5), (b (at + 6), (b (at + 7), tt))))))))

  module _ (new_position : ℕ → ℕ) (low : (x : ℕ) → new_position x ≤ x) where
    moved : (k : ℕ) → new_position (get_or d k 0) < 256
    moved k = omega (arith, low (get_or d k 0), b k)

    cable_bytes : (c : ℕ) → Bytes (cable_record d new_position c)
    cable_bytes c =
        let at = cables_at d + 2 * (2 * c) in
        let to = cables_at d + 2 * (2 * c + 1) in
        each (cable_record d new_position c) (moved at, (b (at + 1), (moved to, (b (to + 1), tt))))

    part_bytes : (ss cs : List ℕ) → length ss < 65536 → length cs < 65536 → Bytes (part d ss cs new_position)
    unfolding part
    part_bytes ss cs h g =
        join (header (length ss) (length cs)) (records (switch_record d) ss ++ records (cable_record d new_position) cs) (header_bytes (length ss) (length cs) h g)
        (join (records (switch_record d) ss) (records (cable_record d new_position) cs) (records_bytes (switch_record d) switch_bytes ss) (records_bytes (cable_record d new_position) cable_bytes cs))

  fits : (k : ℕ) (f : ℕ → Bool) → k < 65536 → length (those k 0 f) < 65536
  fits k f h = omega (arith, (those_listed f k 0).few)

  switches_fit : switch_count d < 65536
  switches_fit = omega (arith, b 5, b 6)

  cables_fit : cable_count d < 65536
  cables_fit = omega (arith, b 7, b 8)

  fall_low : (i x : ℕ) → fall i x ≤ x
  fall_low i x = choose_cond (λ y. y ≤ x) (ltb i x) (x - 1) x (λ t. omega arith) (λ t. omega arith)

  pub retired_bytes : (i : ℕ) → Bytes (retired d i)
  unfolding retired
  retired_bytes i = part_bytes (fall i) (fall_low i) _ _ (fits (switch_count d) (λ j. not (eqb j i)) switches_fit) (fits (cable_count d) (clear d i) cables_fit)

  pub pulled_bytes : (c : ℕ) → Bytes (pulled d c)
  unfolding pulled
  pulled_bytes c = part_bytes (λ x. x) (λ x. omega arith) _ _ (fits (switch_count d) (λ j. true) switches_fit) (fits (cable_count d) (λ x. not (eqb x c)) cables_fit)
