-- Channels, their way back, and the ports they leave and come in by.
use mathlib.Core.Path.{◌≡◌, refl, sym, ap, subst, ◌∙◌}
use mathlib.Core.Logic.{◌⊎◌, inl, inr}
use mathlib.Core.Bool.{not}
use Prim.Native.Nat.{ℕ, ◌+◌, ◌*◌, ◌-◌, ◌%◌, ◌≤◌, ◌<◌}
use native.Mathlib.Omega.{arith}
use lib.Dec.{T, eqb, eqb→eq, eqb_refl, lt→ltb}
use Rattle.topology_rules.specs.Count.{both}
use Rattle.topology_rules.specs.Net.{Net, WellFormed, back, target, in_port, leaving, cabled, host, delivers}
use Rattle.topology_rules.proofs.Tests.{both_T, T_both, not_either, eq→eqb, ne→neqb, choose_cond}
use Rattle.topology_rules.proofs.Searches.{least_finds, least_first}

-- b is the channel back of ch
abbrev pub Back : ℕ → ℕ → Type 0
Back ch b = ((ch % 2 ≡ 0) × (b ≡ ch + 1)) ⊎ ((ch % 2 ≡ 1) × (b ≡ ch - 1))

pub back_is : (ch : ℕ) → Back ch (back ch)
back_is ch = choose_cond (Back ch) (eqb (ch % 2) 0) (ch + 1) (ch - 1)
    (λ t. inl (eqb→eq (ch % 2) 0 t, refl))
    (λ d. inr (odd (λ e. d (eq→eqb (ch % 2) 0 e)), refl))
  where
    odd : (ch % 2 ≡ 0 → ⊥) → ch % 2 ≡ 1
    odd d = omega arith

pub back_back : (ch : ℕ) → back (back ch) ≡ ch
back_back ch = go (back ch) (back (back ch)) (back_is ch) (back_is (back ch))
  where
    go : (b c : ℕ) → Back ch b → Back b c → c ≡ ch
    go b c (inl p) (inl q) = absurd (omega arith)
    go b c (inl p) (inr q) = omega arith
    go b c (inr p) (inl q) = omega arith
    go b c (inr p) (inr q) = absurd (omega arith)

-- the two channels of cable c
pub back_first : (c : ℕ) → back (2 * c) ≡ 2 * c + 1
back_first c = go (back_is (2 * c))
  where
    go : {b : ℕ} → Back (2 * c) b → b ≡ 2 * c + 1
    go (inl e) = e.1
    go (inr e) = absurd (omega arith)

pub back_second : (c : ℕ) → back (2 * c + 1) ≡ 2 * c
back_second c = ap back (sym (back_first c)) ∙ back_back (2 * c)

module _ (n : Net) where
  pub target_back : (ch : ℕ) → target n (back ch) ≡ n.source ch
  target_back ch = ap n.source (back_back ch)

  pub leaving_is : (s p : ℕ) → leaving n s p < n.channels → (n.source (leaving n s p) ≡ s) × (n.out_port (leaving n s p) ≡ p)
  unfolding leaving
  leaving_is s p l =
      let c = leaving n s p in
      let d = both_T (eqb (n.source c) s) (eqb (n.out_port c) p) (least_finds (λ ch. both (eqb (n.source ch) s) (eqb (n.out_port ch) p)) n.channels l) in
      (eqb→eq (n.source c) s d.0, eqb→eq (n.out_port c) p d.1)

  module _ (wf : WellFormed n) where
    pub target_switch : (ch : ℕ) → ch < n.channels → target n ch < n.switches
    target_switch ch h = wf.from_a_switch (back ch) (wf.both_ways ch h)

    pub leaving_of : (ch : ℕ) → ch < n.channels → leaving n (n.source ch) (n.out_port ch) ≡ ch
    unfolding leaving
    leaving_of ch l =
        let s = n.source ch in
        let p = n.out_port ch in
        let near : leaving n s p ≤ ch =
        least_first (λ c. both (eqb (n.source c) s) (eqb (n.out_port c) p)) n.channels ch
        (T_both (eqb s s) (eqb p p) (eqb_refl s) (eqb_refl p)) in
        let m : leaving n s p < n.channels = omega arith in
        let is = leaving_is s p m in
        wf.ports_differ _ _ m l is.0 is.1

    pub leaving_back : (ch : ℕ) → ch < n.channels → leaving n (target n ch) (in_port n ch) ≡ back ch
    leaving_back ch l = leaving_of (back ch) (wf.both_ways ch l)

    pub comes_in : (ch : ℕ) → ch < n.channels → T (cabled n (target n ch) (in_port n ch))
    comes_in ch l = rw (leaving_back ch l) (lt→ltb _ _ (wf.both_ways ch l))

    -- a port with a cable is no way out of the net
    pub cable_port : (s p : ℕ) → leaving n s p < n.channels → T (not (delivers n s p))
    cable_port s p l =
        let is = leaving_is s p l in
        let low = (wf.by_a_port (leaving n s p) l).0 in
        not_either (eqb p 0) (host n s p) (ne→neqb p 0 (omega arith))
        (subst (λ t. T (not (host n t p))) is.0 (subst (λ q. T (not (host n (n.source (leaving n s p)) q))) is.1 (wf.no_host_there (leaving n s p) l)))
