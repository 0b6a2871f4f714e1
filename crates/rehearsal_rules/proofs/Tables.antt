-- Tables under which packets drain, whoever made them.
use Prim.Native.Nat.{ℕ, suc, ◌≤◌, ◌<◌, ◌%◌}
use mathlib.Core.Bool.{not}
use mathlib.Core.Path.{◌≡◌}
use lib.Dec.{T}
use Rattle.topology_rules.specs.Net.{Net, target, leaving, delivers}
use Rattle.planner_rules.specs.Table.{good, destination}
use Rattle.rehearsal_rules.specs.Moves.{Tables, onward, allows}
use Rattle.planner_rules.specs.Tree.{up}
use Rattle.planner_rules.specs.Routes.{may_cross, after}

-- from channel b a packet may cross into c
pub record Joined (n : Net) (b c : ℕ) : Type 0 where
  pub near : b < n.channels
  pub far : c < n.channels
  pub meets : n.source c ≡ target n b
  pub may : T (may_cross (after (up n b)) (up n c))

module _ (n : Net) (holds : Tables) (Fit : ℕ → ℕ → Type 0) where
  -- what ch may hold goes on by p to another channel; leaves the net by p
  abbrev pub Onward : ℕ → ℕ → ℕ → Type 0
  Onward ch a p = Fit ch a × T (allows n holds ch a p) × T (not (delivers n (target n ch) p))

  abbrev pub Home : ℕ → ℕ → ℕ → Type 0
  Home ch a p = Fit ch a × T (allows n holds ch a p) × T (delivers n (target n ch) p)

  -- The laws: ranks of channels rise, so that packets never wait in a circle.
  pub record Draining (rank : ℕ → ℕ) : Type 0 where
    pub live : (ch a : ℕ) → Fit ch a → ch < n.channels
    pub started : (s a p : ℕ) → s < n.switches → T (good n a) → T (holds s 0 a p) → leaving n s p < n.channels → Fit (leaving n s p) a
    pub allowed : (ch a : ℕ) → Fit ch a → (p : ℕ) × T (allows n holds ch a p)
    pub kept : (ch a p : ℕ) → Onward ch a p → Fit (onward n ch p) a
    pub joins : (ch a p : ℕ) → Onward ch a p → Joined n ch (onward n ch p)
    pub rises : (b c : ℕ) → Joined n b c → rank b < rank c
    pub top : ℕ
    pub bounded : (ch a : ℕ) → Fit ch a → rank ch ≤ top
    pub home : (ch a p : ℕ) → Home ch a p → (target n ch ≡ destination n a) × (p ≡ a % 16)

  -- Each step lowers the packet's figure; or by one exactly, to 0 where it leaves the net.
  pub record Descends (figure : ℕ → ℕ → ℕ) : Type 0 where
    pub falls : (ch a p : ℕ) → Onward ch a p → figure (onward n ch p) a < figure ch a
    pub at_home : (ch a p : ℕ) → Home ch a p → figure ch a ≡ 0

  pub record Counts (figure : ℕ → ℕ → ℕ) : Type 0 where
    pub by_one : (ch a p : ℕ) → Onward ch a p → figure ch a ≡ suc (figure (onward n ch p) a)
    pub at_home : (ch a p : ℕ) → Home ch a p → figure ch a ≡ 0
