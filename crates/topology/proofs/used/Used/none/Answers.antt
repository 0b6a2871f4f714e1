-- Every row is 13 times false.
use Rattle.std.proofs.Common.{◌∙◌, ap, refl, arith, length, replicate, false, List, Bool, []}
use lib.ListN.{get_or, get_or-replicate}
use Rattle.topology.proofs.used.Used.none.Goals as goal

pub invariant_of-result : goal.invariant_of-result
invariant_of-result c = record { rows = refl; row = λ x h. ap length (get_or-replicate 64 x (replicate 13 false) [] h) }

pub returns : goal.returns
returns c x p hx hp = ap (λ (l : List Bool). get_or l p false) (get_or-replicate 64 x (replicate 13 false) [] hx) ∙ get_or-replicate 13 p false false (omega (arith, hp))
