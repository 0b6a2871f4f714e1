-- The promise leaves one outcome: answers with the same numbers and values are the same.
use Prim.Native.Nat.{ℕ}
use mathlib.Core.List.{List}
use mathlib.Core.Path.{◌≡◌, sym, ap, ◌∙◌}
use Rattle.std.specs.Prelude.{Result, Ok, Err}
use Rattle.topology.specs.declared.refusal.Refusal.{Refusal}
use Rattle.topology.proofs.Determined.{refusal_once}
use Rattle.planner_rules.specs.Stand as stand
use Rattle.planner_rules.specs.Stand.{Stands, stands}
use Rattle.planner.specs.Answers.{stand_of}
use Rattle.planner.specs.declared.Stand.{Stand}

-- the place that an answer tells, if it tells one
place_in : Stands → Stand
place_in (stand.at x y z) = record { level = x; parent = y; port = z }
place_in (stand.refused v) = record { level = 0; parent = 0; port = 0 }

-- Two answers that say the same are the same.
pub stand_once : (r q : Result Stand Refusal) → stand_of r ≡ stand_of q → r ≡ q
unfolding place_in
stand_once (Ok s) (Ok t) e = ap (λ x. Ok (place_in x)) e
stand_once (Ok s) (Err q) e = absurd cc
stand_once (Err r) (Ok t) e = absurd cc
stand_once (Err r) (Err q) e = ap Err (refusal_once r q cc)

-- So the operation's promise allows one outcome.
pub where_stands_once : (d : List ℕ) (u : ℕ) (r q : Result Stand Refusal) → stand_of r ≡ stands d u → stand_of q ≡ stands d u → r ≡ q
where_stands_once d u r q e f = stand_once r q (e ∙ sym f)
