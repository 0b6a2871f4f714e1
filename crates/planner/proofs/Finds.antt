-- What a search for a UID answers, and where that switch then stands.
use Prim.Native.Nat.{ℕ, ◌≤◌, ◌<◌}
use mathlib.Core.Path.{◌≡◌, refl}
use mathlib.Core.List.{List}
use mathlib.Core.Bool.{false}
use native.Mathlib.Omega.{arith}
use borrow.Author.Tests.{le-leb, lt-leb, ne_eqb}
use lib.Dec.{eqb}
use Rattle.topology_rules.specs.Format.{switch_count}
use Rattle.topology_rules.specs.Check.{refuse, accepted, verdict}
use Rattle.topology_rules.specs.Net.{net_of}
use Rattle.topology_rules.specs.Edit.{find, find_verdict}
use Rattle.topology.specs.Reasons.{number_of, refusal_of}
use Rattle.topology.specs.declared.refusal.Refusal.{Refusal}
use Rattle.topology.proofs.Determined.{some_number}
use Rattle.planner_rules.specs.Tree.{level, parent_number, parent_port}
use Rattle.planner_rules.specs.Stand.{at, refused, stands}

module _ (d : List ℕ) (u : ℕ) where
  -- a refusal of the description is handed on
  pub stands_refused : (f : Refusal) → refusal_of f ≡ verdict d → refused (refusal_of f) ≡ stands d u
  unfolding stands find_verdict
  stands_refused f e =
      let some : eqb (number_of f.reason) 0 ≡ false = ne_eqb _ _ (λ z. omega (arith, some_number f.reason)) in
      rw (← e, some, some) refl

  module _ (e : accepted ≡ verdict d) where
    -- no switch has the UID
    pub stands_unknown : (find d u < switch_count d → ⊥) → refused (refuse 13 0) ≡ stands d u
    unfolding stands find_verdict
    stands_unknown h = let past : switch_count d ≤ find d u = omega arith in rw (← e, le-leb _ _ past) refl

    -- switch s has it
    pub stands_found : (s x y z : ℕ) → find d u < switch_count d → s ≡ find d u → x ≡ level (net_of d) s → y ≡ parent_number (net_of d) s → z ≡ parent_port (net_of d) s → at x y z ≡ stands d u
    unfolding stands find_verdict
    stands_found s x y z h se xe ye ze = rw (xe, ye, ze, se, ← e, lt-leb _ _ h) refl
