-- Legal routes: zero or more up crossings, then zero or more down crossings.
use Rattle.std.specs.Prelude.{ℕ, suc, zero, ◌*◌, Bool, true, false, not, nat_eq}
use Rattle.topology_rules.specs.Count.{both, any, least}
use Rattle.topology_rules.specs.Net.{Net, target}
use Rattle.planner_rules.specs.Tree.{up}

-- how a packet has arrived: free, or bound to cross only down from then on
pub data Arrival : Type 0 where
  free bound : Arrival

-- a crossing, up or not, is allowed for that arrival
abbrev pub may_cross : Arrival → Bool → Bool
may_cross free goes_up = true
may_cross bound goes_up = not goes_up

-- over a cable by an up crossing packets arrive free, by a down crossing bound
abbrev pub after : Bool → Arrival
after true = free
after false = bound

module _ (n : Net) where
  -- t is reached from s by a packet that arrived so, over at most m legal crossings
  unfoldable pub way : ℕ → Arrival → ℕ → ℕ → Bool
  way zero k s t = nat_eq s t
  way (suc m) k s t =
      elim (nat_eq s t) [
        | true ↦ true
        | false ↦ any n.channels (λ ch.
            elim (both (nat_eq (n.source ch) s) (may_cross k (up n ch))) [ true ↦ way m (after (up n ch)) (target n ch) t | false ↦ false ])
      ]

  -- more crossings than any legal route has
  abbrev pub far : ℕ
  far = 2 * n.switches

  -- the crossings of a shortest legal remainder; far where there is none
  unfoldable pub legal_length : Arrival → ℕ → ℕ → ℕ
  legal_length k s t = least far 0 (λ m. way m k s t)
