-- What retiring and pulling leave: accepted, exactly what they should keep, and where it stands.
use mathlib.Core.Path.{◌≡◌}
use mathlib.Core.Logic.{inl, inr, ◌↔◌, ◌≢◌}
use mathlib.Core.Bool.{Bool, true, not}
use mathlib.Core.List.{List}
use Prim.Native.Nat.{ℕ, suc, ◌+◌, ◌*◌, ◌<◌}
use native.Mathlib.Nat.{zero-add}
use native.Mathlib.Omega.{arith}
use lib.ListN.{length}
use lib.Dec.{T, eqb, T_not}
use Rattle.topology_rules.specs.Count.{either, those}
use Rattle.topology_rules.specs.Format.{switch_count, cable_count, uid_at, hosts_at, end_switch, end_port, EndOf}
use Rattle.topology_rules.specs.Accepted.{Accepted}
use Rattle.topology_rules.specs.Edit.{fall, clear, other_switches, clear_cables, other_cables, retired, pulled}
use Rattle.topology_rules.specs.EditRules.{Keeps}
use Rattle.topology_rules.proofs.Tests.{neither, not_either, ne→neqb, eq→eqb}
use Rattle.topology_rules.proofs.Rows.{ne_rule}
use Rattle.topology_rules.proofs.Records.{Found, those_found, all_length, others_length, fall_length}
use Rattle.topology_rules.proofs.Parts.{part_length, part_switches, part_cables, part_switch, part_cable}
use Rattle.topology_rules.proofs.Edits.{end_side, end_of, part_accepted, part_keeps}

-- all switches, as pulling keeps them
abbrev all_switches : List ℕ → List ℕ
all_switches d = those (switch_count d) 0 (λ j. true)

module _ (d : List ℕ) where
  -- the switches other than i, each where it fell to
  other_found : (i x : ℕ) → x < switch_count d → x ≢ i → Found x (other_switches d i) (fall i x)
  other_found i x h n =
      rw (fall_length i x n, zero-add) at (those_found (λ j. not (eqb j i)) (switch_count d) x 0 h (rw zero-add (ne→neqb x i n)))

  all_found : (x : ℕ) → x < switch_count d → Found x (all_switches d) x
  all_found x h = rw (all_length x 0, zero-add) at (those_found (λ j. true) (switch_count d) x 0 h tt)

  pub retired_counts : (i : ℕ) → i < switch_count d → (suc (switch_count (retired d i)) ≡ switch_count d) × (cable_count (retired d i) ≡ length (clear_cables d i))
  unfolding retired
  retired_counts i h = (
    omega (arith, part_switches d (other_switches d i) (clear_cables d i) (fall i), others_length i (switch_count d) 0 (omega arith) (omega arith)),
    part_cables d (other_switches d i) (clear_cables d i) (fall i),
  )

  pub retired_length : (i : ℕ) → i < switch_count d → 8 + length (retired d i) ≡ 9 + 8 * switch_count d + 4 * length (clear_cables d i)
  unfolding retired
  retired_length i h =
      omega (arith, part_length d (other_switches d i) (clear_cables d i) (fall i), others_length i (switch_count d) 0 (omega arith) (omega arith))

  pub retired_switch : (i x : ℕ) → x < switch_count d → x ≢ i
      → (uid_at (retired d i) (fall i x) ≡ uid_at d x) × (hosts_at (retired d i) (fall i x) ≡ hosts_at d x)
  unfolding retired
  retired_switch i x h n = part_switch d (other_switches d i) (clear_cables d i) (fall i) x (fall i x) (other_found i x h n)

  -- cable c, clear of i, stands after as many as are clear of i before it
  pub retired_cable : (i c b : ℕ) → c < cable_count d → T (clear d i c) → b < 2
      → let e = 2 * length (those c 0 (clear d i)) + b in
      (end_switch (retired d i) e ≡ fall i (end_switch d (2 * c + b))) × (end_port (retired d i) e ≡ end_port d (2 * c + b))
  unfolding retired
  retired_cable i c b h t l = part_cable d (other_switches d i) (clear_cables d i) (fall i) c (length (those c 0 (clear d i))) b
      (rw zero-add at (those_found (clear d i) (cable_count d) c 0 h (rw zero-add t))) l

  pub pulled_counts : (c : ℕ) → c < cable_count d → (switch_count (pulled d c) ≡ switch_count d) × (suc (cable_count (pulled d c)) ≡ cable_count d)
  unfolding pulled
  pulled_counts c h =
      let ss = all_switches d in
      let cs = other_cables d c in (
        omega (arith, part_switches d ss cs (λ x. x), all_length (switch_count d) 0),
        omega (arith, part_cables d ss cs (λ x. x), others_length c (cable_count d) 0 (omega arith) (omega arith)),
      )

  pub pulled_length : (c : ℕ) → c < cable_count d → 4 + length (pulled d c) ≡ 9 + 8 * switch_count d + 4 * cable_count d
  unfolding pulled
  pulled_length c h =
      let ss = all_switches d in
      let cs = other_cables d c in
      omega (arith, part_length d ss cs (λ x. x), all_length (switch_count d) 0, others_length c (cable_count d) 0 (omega arith) (omega arith))

  pub pulled_switch : (c x : ℕ) → x < switch_count d → (uid_at (pulled d c) x ≡ uid_at d x) × (hosts_at (pulled d c) x ≡ hosts_at d x)
  unfolding pulled
  pulled_switch c x h = part_switch d (all_switches d) (other_cables d c) (λ x. x) x x (all_found x h)

  pub pulled_cable : (c x b : ℕ) → x < cable_count d → x ≢ c → b < 2
      → (end_switch (pulled d c) (2 * fall c x + b) ≡ end_switch d (2 * x + b)) × (end_port (pulled d c) (2 * fall c x + b) ≡ end_port d (2 * x + b))
  unfolding pulled
  pulled_cable c x b h n l = part_cable d (all_switches d) (other_cables d c) (λ x. x) x (fall c x) b
      (rw (fall_length c x n, zero-add) at (those_found (λ x. not (eqb x c)) (cable_count d) x 0 h (rw zero-add (ne→neqb x c n)))) l

-- neither end of the cable is at that switch
clear_rule : (d : List ℕ) (i c : ℕ) → T (clear d i c) ↔ ((end_switch d (2 * c) ≢ i) × (end_switch d (2 * c + 1) ≢ i))
clear_rule d i c = (
  λ t. let (p, q) = neither x y (T_not (either x y) t) in (λ e. p (eq→eqb (end_switch d (2 * c)) i e), λ e. q (eq→eqb (end_switch d (2 * c + 1)) i e)),
  λ (p, q). not_either x y (ne→neqb (end_switch d (2 * c)) i p) (ne→neqb (end_switch d (2 * c + 1)) i q),
)
  where
    x : Bool
    x = eqb (end_switch d (2 * c)) i

    y : Bool
    y = eqb (end_switch d (2 * c + 1)) i

module _ (d : List ℕ) (a : Accepted d) where
  -- both ends of a cable that retiring keeps are on switches that it keeps, and likewise for pulling
  retire_stands : (i x b : ℕ) → x < cable_count d → b < 2 → T (clear d i x) → Found (end_switch d (2 * x + b)) (other_switches d i) (fall i (end_switch d (2 * x + b)))
  retire_stands i x b m z t = other_found d i (end_switch d (2 * x + b)) (end_of d a x b m z).switch_there (off (end_side x b z))
    where
      off : {e : ℕ} → EndOf x e → end_switch d e ≢ i
      off (inl z) = rw z ((clear_rule d i x).0 t).0
      off (inr z) = rw z ((clear_rule d i x).0 t).1

  pull_stands : (c x b : ℕ) → x < cable_count d → b < 2 → T (not (eqb x c)) → Found (end_switch d (2 * x + b)) (all_switches d) (end_switch d (2 * x + b))
  pull_stands c x b m z t = all_found d (end_switch d (2 * x + b)) (end_of d a x b m z).switch_there

  pub retired_ok : (i : ℕ) → i < switch_count d → 1 < switch_count d → Accepted (retired d i)
  unfolding retired
  retired_ok i h l =
      part_accepted d a (λ j. not (eqb j i)) (clear d i) (fall i) (retire_stands i) (omega (arith, others_length i (switch_count d) 0 (omega arith) (omega arith)))

  pub retired_keeps : (i : ℕ) → Keeps d (retired d i) (λ j. j ≢ i) (λ c. (end_switch d (2 * c) ≢ i) × (end_switch d (2 * c + 1) ≢ i))
  unfolding retired
  retired_keeps i = part_keeps d a (λ j. not (eqb j i)) (clear d i) (fall i) (retire_stands i) _ _ (λ j. ne_rule j i) (clear_rule d i)

  pub pulled_ok : (c : ℕ) → Accepted (pulled d c)
  unfolding pulled
  pulled_ok c = part_accepted d a (λ j. true) (λ x. not (eqb x c)) (λ x. x) (pull_stands c) (omega (arith, all_length (switch_count d) 0, a.some_switch))

  pub pulled_keeps : (c : ℕ) → Keeps d (pulled d c) (λ j. Unit {0}) (λ x. x ≢ c)
  unfolding pulled
  pulled_keeps c = part_keeps d a (λ j. true) (λ x. not (eqb x c)) (λ x. x) (pull_stands c) _ _ (λ j. (λ t. tt, λ t. tt)) (λ x. ne_rule x c)
