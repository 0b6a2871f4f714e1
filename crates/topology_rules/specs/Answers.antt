-- What a job answers and leaves behind.
use Rattle.std.specs.Prelude.{ℕ, ◌+◌, ◌*◌, ◌^◌, List, ◌++◌, cond, length, drop, nat_eq}
use Rattle.topology_rules.specs.Check.{Verdict}

-- done, with the number that the job returns, or refused
pub data Reply : Type 0 where
  done : ℕ → Reply
  refused : Verdict → Reply

-- the answer of a job with this verdict that returns value
abbrev pub answered : Verdict → ℕ → Reply
answered v value = cond (nat_eq v.number 0) (done value) (refused v)

-- a call's answer, and what the lent output holds afterwards
pub record Outcome : Type 0 where
  pub reply : Reply
  pub out : List ℕ

-- the lent output once new stands at its start: beyond it nothing changes
abbrev pub onto : List ℕ → List ℕ → List ℕ
onto new out = new ++ drop (length new) out

-- a job with this verdict: it returns value and writes new, or refuses and changes nothing
abbrev pub outcome : Verdict → ℕ → List ℕ → List ℕ → Outcome
outcome v value new out = cond (nat_eq v.number 0) (record { reply = done value; out = onto new out }) (record { reply = refused v; out = out })

-- the answer as one number, for callers in C: refusal number and position, or 0 and what is returned
abbrev pub packed : Reply → ℕ
packed (done value) = value
packed (refused v) = v.number * 2 ^ 32 + v.position
