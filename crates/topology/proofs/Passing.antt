-- A chain of rules in the code: the first that applies settles it.
use mathlib.Core.Path.{◌≡◌, refl}
use mathlib.Core.Bool.{Bool, true, false}
use mathlib.Core.List.{List}
use Prim.Native.Nat.{ℕ, suc, ◌+◌, ◌-◌, ◌≤◌, ◌<◌}
use native.Mathlib.Omega.{arith}
use native.Mathlib.Numerals.{add-one}
use Rattle.topology_rules.specs.Check.{Verdict, accepted, whenever, switch_rule, switches_from, cable_rule, cables_from}

pub applies : (a : Bool) (v rest : Verdict) → a ≡ true → whenever a v rest ≡ v
applies a v rest e = rw e refl

pub passes : (a : Bool) (v rest : Verdict) → a ≡ false → whenever a v rest ≡ rest
passes a v rest e = rw e refl

-- one record of a list of records
module _ (d : List ℕ) where
  pub switches_step : (s i : ℕ) → i < s → (rest : Verdict) → switches_from d (s - i) i rest ≡ switch_rule d i (switches_from d (s - (i + 1)) (i + 1) rest)
  unfolding switches_from
  switches_step s i h rest = let n : s - i ≡ suc (s - (i + 1)) = omega arith in rw (n, add-one i) refl

  pub switches_done : (s i : ℕ) → s ≤ i → (rest : Verdict) → switches_from d (s - i) i rest ≡ rest
  unfolding switches_from
  switches_done s i h rest = let n : s - i ≡ 0 = omega arith in rw n refl

  pub cables_step : (l c : ℕ) → c < l → cables_from d (l - c) c ≡ cable_rule d c (cables_from d (l - (c + 1)) (c + 1))
  unfolding cables_from
  cables_step l c h = let n : l - c ≡ suc (l - (c + 1)) = omega arith in rw (n, add-one c) refl

  pub cables_done : (l c : ℕ) → l ≤ c → cables_from d (l - c) c ≡ accepted
  unfolding cables_from
  cables_done l c h = let n : l - c ≡ 0 = omega arith in rw n refl
