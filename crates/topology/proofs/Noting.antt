-- The marks say which ports the cables so far use.
use mathlib.Core.Path.{◌≡◌, refl, sym, ap, ◌∙◌}
use mathlib.Core.Bool.{Bool, true, false}
use mathlib.Core.List.{List}
use Prim.Native.Nat.{ℕ, ◌+◌, ◌*◌, ◌≤◌, ◌<◌}
use native.Mathlib.Omega.{arith}
use lib.Dec.{eqb, ltb}
use borrow.Author.Tests.{leb-false, ltb-false}
use Rattle.topology_rules.specs.Count.{both, either, bit, any}
use Rattle.topology_rules.specs.Format.{switch_count, hosts_at, end_port, ends_at}
use Rattle.topology_rules.specs.Check.{Verdict, refuse, accepted, whenever, bad_switch, bad_switches, bad_port, bad_ports, port_taken, cable_rule}
use Rattle.topology.specs.Inside.{Ends}
use Rattle.topology.specs.Used.{is_marked, NoneMarked, MarksOne, used, Noted}
use Rattle.topology.specs.declared.used.Used.{Used}
use Rattle.topology.specs.End.{end_at}
use Rattle.topology.specs.declared.records.End.{End}
use Rattle.topology.proofs.Scans.{any_none, any_two, either_none}

-- 9 and 10 did not apply
pub ends : (d : List ℕ) (c : ℕ) → bad_switches d c ≡ false → bad_ports d c ≡ false → Ends d c
ends d c o b =
    let x = either_none (bad_switch d (2 * c)) (bad_switch d (2 * c + 1)) o in
    let p = either_none (bad_port (end_port d (2 * c))) (bad_port (end_port d (2 * c + 1))) b in
    record {
      first_switch = leb-false _ _ x.0;
      second_switch = leb-false _ _ x.1;
      first_port = low _ p.0;
      second_port = low _ p.1;
    }
  where
    low : (p : ℕ) → bad_port p ≡ false → p ≤ 12
    low p e = ltb-false 12 p (either_none (eqb p 0) (ltb 12 p) e).1

-- an accepted record has ends to note
pub kept_ends : (d : List ℕ) (c : ℕ) → cable_rule d c accepted ≡ accepted → Ends d c
kept_ends d c e = let x = go (bad_switches d c) (bad_ports d c) _ (ap (λ v. v.number) e) in ends d c x.0 x.1
  where
    go : (a b : Bool) (rest : Verdict) → (whenever a (refuse 9 c) (whenever b (refuse 10 c) rest)).number ≡ 0 → (a ≡ false) × (b ≡ false)
    go true b rest e = absurd (omega arith)
    go false true rest e = absurd (omega arith)
    go false false rest e = (refl, refl)

-- so their places are in the table
module _ (d : List ℕ) (c : ℕ) (k : Ends d c) (few : switch_count d ≤ 64) (x : End) where
  pub first_low : x ≡ end_at d (2 * c) → (x.switch < switch_count d) × (x.switch < 64) × (x.port ≤ 12)
  first_low e = rw e (k.first_switch, omega (arith, k.first_switch), k.first_port)

  pub second_low : x ≡ end_at d (2 * c + 1) → (x.switch < switch_count d) × (x.switch < 64) × (x.port ≤ 12)
  second_low e = rw e (k.second_switch, omega (arith, k.second_switch), k.second_port)

-- the marks decide 12
pub taken_noted : (d : List ℕ) (c : ℕ) (u : Used) → Noted d c u → (e : ℕ) (x : End) → x ≡ end_at d e → x.switch < 64 → x.port ≤ 12
    → either (bit (hosts_at d x.switch) x.port) (is_marked u x.switch x.port) ≡ port_taken d c e
unfolding used
taken_noted d c u k e x at hx hp =
    ap (either (bit (hosts_at d x.switch) x.port)) (k x.switch x.port hx hp)
    ∙ ap (λ (y : End). either (bit (hosts_at d y.switch) y.port) (any (2 * c) (ends_at d y.switch y.port))) at

-- no cable yet
pub noted_none : (d : List ℕ) (u : Used) → NoneMarked u → Noted d 0 u
unfolding used
noted_none d u none x p hx hp = none x p hx hp ∙ sym (any_none (ends_at d x p))

-- one cable more
pub noted_next : (d : List ℕ) (c : ℕ) (u v w : Used) (x y : End) → Noted d c u → x ≡ end_at d (2 * c) → y ≡ end_at d (2 * c + 1)
    → MarksOne u v x.switch x.port → MarksOne v w y.switch y.port → Noted d (c + 1) w
unfolding used
noted_next d c u v w x y k ex ey first second a b ha hb =
    second a b ha hb
    ∙ ap (λ m. either m (both (eqb y.switch a) (eqb y.port b))) (first a b ha hb)
    ∙ ap (λ m. either (either m (both (eqb x.switch a) (eqb x.port b))) (both (eqb y.switch a) (eqb y.port b))) (k a b ha hb)
    ∙ ap (λ m. either (either (used d c a b) m) (both (eqb y.switch a) (eqb y.port b))) (same x (2 * c) ex)
    ∙ ap (either (either (used d c a b) (ends_at d a b (2 * c)))) (same y (2 * c + 1) ey)
    ∙ any_two (ends_at d a b) c
  where
    same : (end : End) (f : ℕ) → end ≡ end_at d f → both (eqb end.switch a) (eqb end.port b) ≡ ends_at d a b f
    same end f e = ap (λ (z : End). both (eqb z.switch a) (eqb z.port b)) e
