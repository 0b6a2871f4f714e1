-- Retiring and pulling return the first refusal that applies; finding returns 0 where a record has the UID.
use mathlib.Core.Path.{◌≡◌, refl}
use mathlib.Core.Logic.{◌⊎◌, inl, inr}
use mathlib.Core.Bool.{Bool, true, false}
use mathlib.Core.List.{List, [], ◌∷◌}
use Prim.Native.Nat.{ℕ, ◌≤◌, ◌<◌}
use native.Mathlib.Omega.{arith}
use lib.ListN.{length}
use lib.Dec.{T, eqb, ltb, leb, eqb→eq, ltb→lt, lt→ltb, lit<}
use Rattle.topology_rules.specs.Format.{switch_count, cable_count}
use Rattle.topology_rules.specs.Check.{refuse, accepted, whenever}
use Rattle.topology_rules.specs.Refusals.{Returned, Wrong}
use Rattle.topology_rules.specs.Accepted.{Accepted}
use Rattle.topology_rules.specs.Edit.{find, cable_of, retired, pulled, find_verdict, retire_verdict, pull_verdict}
use Rattle.topology_rules.specs.EditRules.{Named, CableAt, RetireWrong, PullWrong, only_switch, no_cable}
use Rattle.topology_rules.proofs.Tests.{eq→eqb}
use Rattle.topology_rules.proofs.Chains.{Rules, Says, test_of, and_then}
use Rattle.topology_rules.proofs.Firsts.{Settled, returned, settled_zero}
use Rattle.topology_rules.proofs.Verdicts.{accepted_rule}
use Rattle.topology_rules.proofs.Jobs.{checked_cases, checked_settled}
use Rattle.topology_rules.proofs.Finding.{unknown_rule, known, none_rule, cabled, found_once, cable_once}

module _ (d : List ℕ) (u : ℕ) where
  abbrev found : ℕ
  found = find d u

  pub find_allowed : (find_verdict d u).number ≡ 0 → Accepted d × Named d u found
  unfolding find_verdict
  find_allowed = checked_cases d (λ v. v.number ≡ 0 → Accepted d × Named d u found) _ (λ a e. (a, go (leb (switch_count d) found) e (known d u))) (λ h e. absurd (omega arith))
    where
      go : (b : Bool) → (whenever b (refuse 13 0) accepted).number ≡ 0 → ((T b → ⊥) → Named d u found) → Named d u found
      go true e f = absurd (omega arith)
      go false e f = f (λ t. t)

  module _ (room : ℕ) where
    retire_settled : Settled (RetireWrong d u room) (retire_verdict d u room)
    unfolding retire_verdict
    retire_settled = checked_settled d (RetireWrong d u room) rules 16 tt (λ k j w. RetireWrong.description w) (λ a. says) rows
      where
        rules : Rules
        rules = (leb (switch_count d) found, 13) ∷ (eqb (switch_count d) 1, 14) ∷ (ltb room (length (retired d found)), 16) ∷ []

        says : Says (RetireWrong d u room) 0 rules
        says = (
          λ t. RetireWrong.unknown ((unknown_rule d u).0 t),
          λ n.
              and_then (λ t. only_switch (eqb→eq (switch_count d) 1 t))
              (and_then (λ t. RetireWrong.little_room found (known d u n) (ltb→lt room (length (retired d found)) t)) tt),
        )

        rows : (k j : ℕ) → RetireWrong d u room k j → Wrong d k j ⊎ ((12 < k) × (j ≡ 0) × (Accepted d → T (test_of rules k)))
        rows k j (RetireWrong.description w) = inl w
        rows k j (RetireWrong.unknown f) = inr (lit< tt, refl, λ a. (unknown_rule d u).1 f)
        rows k j (only_switch e) = inr (lit< tt, refl, λ a. eq→eqb (switch_count d) 1 e)
        rows k j (RetireWrong.little_room x n h) = inr (lit< tt, refl, λ a. rw (found_once d u a x n) (lt→ltb room (length (retired d x)) h))

    pub retire_returned : Returned (RetireWrong d u room) (retire_verdict d u room)
    retire_returned = returned (RetireWrong d u room) (retire_verdict d u room) retire_settled

    -- where it returns 0
    pub retire_allowed : (retire_verdict d u room).number ≡ 0 → Accepted d × Named d u found × (1 < switch_count d) × (length (retired d found) ≤ room)
    retire_allowed e =
        let (_, none) = settled_zero (RetireWrong d u room) (retire_verdict d u room) retire_settled e in
        let named = known d u (λ t. none 13 0 (RetireWrong.unknown ((unknown_rule d u).0 t))) in
        let a = (accepted_rule d).1 (λ k j w. none k j (RetireWrong.description w)) in
        let more : switch_count d ≡ 1 → ⊥ = λ s. none 14 0 (only_switch s) in
        let fits : room < length (retired d found) → ⊥ = λ h. none 16 0 (RetireWrong.little_room found named h) in
        (a, named, omega (arith, a.some_switch), omega arith)

  module _ (p room : ℕ) where
    abbrev cable : ℕ
    cable = cable_of d found p

    pull_settled : Settled (PullWrong d u p room) (pull_verdict d u p room)
    unfolding pull_verdict
    pull_settled = checked_settled d (PullWrong d u p room) rules 16 tt (λ k j w. PullWrong.description w) (λ a. says) rows
      where
        rules : Rules
        rules = (leb (switch_count d) found, 13) ∷ (leb (cable_count d) cable, 15) ∷ (ltb room (length (pulled d cable)), 16) ∷ []

        says : Says (PullWrong d u p room) 0 rules
        says = (
          λ t. PullWrong.unknown ((unknown_rule d u).0 t),
          λ n. (
            λ t. no_cable found (known d u n) ((none_rule d found p).0 t),
            λ m. and_then (λ t. PullWrong.little_room found cable (known d u n) (cabled d found p m) (ltb→lt room (length (pulled d cable)) t)) tt,
          ),
        )

        rows : (k j : ℕ) → PullWrong d u p room k j → Wrong d k j ⊎ ((12 < k) × (j ≡ 0) × (Accepted d → T (test_of rules k)))
        rows k j (PullWrong.description w) = inl w
        rows k j (PullWrong.unknown f) = inr (lit< tt, refl, λ a. (unknown_rule d u).1 f)
        rows k j (no_cable x n f) = inr (lit< tt, refl, λ a. rw (found_once d u a x n) ((none_rule d x p).1 f))
        rows k j (PullWrong.little_room x y n o h) =
            inr (lit< tt, refl, λ a. rw (found_once d u a x n, cable_once d a x p y o) (lt→ltb room (length (pulled d y)) h))

    pub pull_returned : Returned (PullWrong d u p room) (pull_verdict d u p room)
    pull_returned = returned (PullWrong d u p room) (pull_verdict d u p room) pull_settled

    pub pull_allowed : (pull_verdict d u p room).number ≡ 0 → Accepted d × Named d u found × CableAt d found p cable × (length (pulled d cable) ≤ room)
    pull_allowed e =
        let (_, none) = settled_zero (PullWrong d u p room) (pull_verdict d u p room) pull_settled e in
        let named = known d u (λ t. none 13 0 (PullWrong.unknown ((unknown_rule d u).0 t))) in
        let there = cabled d found p (λ t. none 15 0 (no_cable found named ((none_rule d found p).0 t))) in
        let fits : room < length (pulled d cable) → ⊥ = λ h. none 16 0 (PullWrong.little_room found cable named there h) in
        ((accepted_rule d).1 (λ k j w. none k j (PullWrong.description w)), named, there, omega arith)
