-- What is left of the rules as 1 to 6, one after the other, do not apply, and how the records settle it.
use mathlib.Core.Path.{◌≡◌, refl, sym, ap, ◌∙◌}
use mathlib.Core.Bool.{false, not}
use mathlib.Core.List.{List}
use Prim.Native.Nat.{ℕ, ◌≤◌}
use lib.ListN.{length}
use lib.Dec.{eqb, ltb}
use borrow.Author.Tests.{eq-eqb, ne_eqb, ltb-false, le-ltb}
use Rattle.topology_rules.specs.Format.{version_of, switch_count, cable_count, size_for}
use Rattle.topology_rules.specs.Check.{Verdict, refuse, accepted, whenever, verdict, mark_differs, version_differs, bad_count, length_differs, switches_from, cables_from}
use Rattle.topology_rules.specs.Accepted.{Accepted}
use Rattle.topology_rules.proofs.Verdicts.{verdict_rule}
use Rattle.topology.specs.Inside.{records_verdict}
use Rattle.topology.proofs.Scans.{either_none}
use Rattle.topology.proofs.Passing.{applies, passes}

-- the rules from one on
module _ (d : List ℕ) where
  abbrev pub from_length : Verdict
  from_length = whenever (length_differs d) (refuse 6 0) (records_verdict d)

  abbrev pub from_cables : Verdict
  from_cables = whenever (ltb 384 (cable_count d)) (refuse 5 0) from_length

  abbrev pub from_switches : Verdict
  from_switches = whenever (bad_count (switch_count d)) (refuse 4 0) from_cables

  abbrev pub from_version : Verdict
  from_version = whenever (version_differs d) (refuse 3 0) from_switches

  abbrev pub from_mark : Verdict
  from_mark = whenever (mark_differs d) (refuse 2 0) from_version

  pub from_start : verdict d ≡ whenever (ltb (length d) 9) (refuse 1 0) from_mark
  unfolding verdict
  from_start = refl

-- the rules before these do not apply
abbrev pub Left : (List ℕ → Verdict) → List ℕ → Type 0
Left rules d = verdict d ≡ rules d

-- one after the other they do not apply
module _ (d : List ℕ) (long : 9 ≤ length d) where
  pub not_short : Left from_mark d
  not_short = from_start d ∙ passes _ _ _ (le-ltb _ _ long)

  module _ (same : mark_differs d ≡ false) where
    pub right_mark : Left from_version d
    right_mark = not_short ∙ passes _ _ _ same

    module _ (one : version_of d ≡ 1) where
      pub right_version : Left from_switches d
      right_version = right_mark ∙ passes _ _ _ (ap not (eq-eqb _ _ one))

      module _ (some : bad_count (switch_count d) ≡ false) where
        pub right_switches : Left from_cables d
        right_switches = right_version ∙ passes _ _ _ some

        pub right_cables : cable_count d ≤ 384 → Left from_length d
        right_cables few = right_switches ∙ passes _ _ _ (le-ltb _ _ few)

-- 6, or the records
module _ (d : List ℕ) (e : Left from_length d) where
  pub other_length : (length d ≡ size_for (switch_count d) (cable_count d) → ⊥) → verdict d ≡ refuse 6 0
  other_length n = e ∙ applies _ _ _ (ap not (ne_eqb _ _ n))

  pub right_length : length d ≡ size_for (switch_count d) (cable_count d) → Left records_verdict d
  right_length f = e ∙ passes _ _ _ (ap not (eq-eqb _ _ f))

-- 4 does not apply
pub few : (s : ℕ) → bad_count s ≡ false → s ≤ 64
few s e = ltb-false 64 s (either_none (eqb s 0) (ltb 64 s) e).1

-- where nothing is refused: r as the records were read
pub none_refused : (r d : List ℕ) → r ≡ d → verdict d ≡ records_verdict d → ((rest : Verdict) → switches_from r (switch_count r) 0 rest ≡ rest)
    → accepted ≡ cables_from r (cable_count r) 0 → Accepted r
none_refused r d same e switches cables =
    let v : verdict r ≡ records_verdict r = rw same e in
    (verdict_rule r).0 (ap (λ v. v.number) (v ∙ switches (cables_from r (cable_count r) 0) ∙ sym cables))
