-- The table of one switch, place by place.
use Prim.Native.Nat.{ℕ, suc, zero, ◌+◌, ◌*◌, ◌/◌, ◌%◌, ◌^◌, ◌<◌}
use mathlib.Core.Logic.{inl, inr}
use mathlib.Core.Path.{◌≡◌, refl, ap, ◌∙◌}
use native.Mathlib.Omega.{arith}
use lib.ListN.{get_or, length, get_or-eq_default}
use Rattle.topology_rules.specs.Count.{tabulate}
use Rattle.topology_rules.specs.Net.{Net, WellFormed}
use Rattle.topology_rules.proofs.Tests.{split}
use Rattle.planner_rules.specs.Table.{entry, entry_at, table_of}
use Rattle.planner_rules.proofs.Entries.{entry_lt}

module _ (f : ℕ → ℕ) where
  pub tabulate_length : (k a : ℕ) → length (tabulate k a f) ≡ k
  unfolding tabulate
  tabulate_length zero a = refl
  tabulate_length (suc k) a = ap suc (tabulate_length k (suc a))

  pub tabulate_at : (k a j : ℕ) → j < k → get_or (tabulate k a f) j 0 ≡ f (a + j)
  unfolding tabulate
  tabulate_at zero a j h = absurd (omega arith)
  tabulate_at (suc k) a zero h = ap f (omega arith)
  tabulate_at (suc k) a (suc j) h = tabulate_at k (suc a) j (omega arith) ∙ ap f (omega arith)

module _ (n : Net) where
  pub table_length : (s : ℕ) → length (table_of n s) ≡ 13520
  unfolding table_of
  table_length s = tabulate_length (entry_at n s) 13520 0

  table_at : (s j : ℕ) → j < 13520 → get_or (table_of n s) j 0 ≡ entry_at n s j
  unfolding table_of
  table_at s j h = tabulate_at (entry_at n s) 13520 0 j h ∙ ap (entry_at n s) (omega arith)

  -- the entry for incoming port i and address a stands at place 1,040 × i + a
  pub table_place : (s i a : ℕ) → i < 13 → a < 1040 → get_or (table_of n s) (1040 * i + a) 0 ≡ entry n s i a
  table_place s i a h l =
      let row : (1040 * i + a) / 1040 ≡ i = omega arith in
      let column : (1040 * i + a) % 1040 ≡ a = omega arith in
      rw (row, column) at (table_at s (1040 * i + a) (omega arith))

  pub table_narrow : WellFormed n → (s j : ℕ) → get_or (table_of n s) j 0 < 2 ^ 16
  table_narrow w s j = elim (split j 13520) [
    | inl h ↦ rw (table_at s j h) (omega (arith, entry_lt n w s (j / 1040) (j % 1040)))
    | inr h ↦ rw (get_or-eq_default (table_of n s) 0 {n = j} (omega (arith, table_length s))) (omega arith)
  ]
