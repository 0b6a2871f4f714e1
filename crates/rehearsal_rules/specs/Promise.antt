-- Demand 3 in one place: from a start, after any orders, and then advances alone until none is accepted.
use Rattle.std.specs.Prelude.{ℕ, List, ◌++◌, ◌≡◌, ◌≢◌, slice_index, replicate, T}
use Rattle.topology_rules.specs.Net.{net_of}
use Rattle.rehearsal_rules.specs.Machine.{last, answers, tally, every}
use Rattle.rehearsal_rules.specs.Packets.{cells_of}
use Rattle.rehearsal_rules.specs.Answers.{Order, advancing, advances, is_accepted}
use Rattle.rehearsal_rules.specs.Left.{hops_left, work, Still}
use Rattle.rehearsal_rules.specs.Follow.{Whereabouts, Entered}
use Rattle.rehearsal_rules.specs.Record.{Rehearsal, calls, start}
use Rattle.rehearsal_rules.specs.Drains.{home}

-- the record r started with description d
abbrev pub begins : List ℕ → Rehearsal → Rehearsal
begins d r = (start d r).lent

-- what demand 3 says of the orders os made on it
pub record Kept (d : List ℕ) (r : Rehearsal) (os : List Order) : Type 0 where
  -- while a packet is in the net some advance is accepted
  pub goes_on : let now = last calls (begins d r) os in
      (ch : ℕ) → slice_index now.words ch ≢ 0 → (c : ℕ) × (p : ℕ) × T (is_accepted (calls.answer now (advancing c p)))
  -- if only advances qs go on until none is accepted, the accepted ones number exactly the legal hops left plus one each
  pub exactly : let now = last calls (begins d r) os in
      (qs : List Order) → T (every advances qs) → Still calls (last calls now qs)
      → tally is_accepted (answers calls now qs) ≡ work (hops_left (net_of d)) (cells_of now.words)
  -- the net is then empty
  pub empty : let now = last calls (begins d r) os in
      (qs : List Order) → T (every advances qs) → Still calls (last calls now qs) → (last calls now qs).words ≡ replicate 768 0
  -- and each packet that was placed is delivered at the switch and port of its address
  pub home_each : let now = last calls (begins d r) os in
      (qs : List Order) → T (every advances qs) → Still calls (last calls now qs)
      → (a : ℕ) (w : Whereabouts) → Entered (net_of d) calls (begins d r) (os ++ qs) a w → w ≡ home (net_of d) a
