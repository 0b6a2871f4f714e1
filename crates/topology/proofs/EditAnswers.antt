-- What finding, retiring and pulling answer and write, past the check, by what the searches found.
use mathlib.Core.Path.{◌≡◌, refl, sym, ap, ◌∙◌}
use mathlib.Core.List.{List}
use Prim.Native.Nat.{ℕ, ◌≤◌, ◌<◌}
use native.Mathlib.Omega.{arith}
use lib.ListN.{length}
use lib.Dec.{eqb, leb}
use borrow.Author.Tests.{le-leb, lt-leb, lt-ltb, le-ltb, eq-eqb, ne_eqb}
use Rattle.topology_rules.specs.Format.{switch_count, cable_count}
use Rattle.topology_rules.specs.Check.{Verdict, refuse, accepted, whenever, verdict}
use Rattle.topology_rules.specs.Answers.{done, refused, onto}
use Rattle.topology_rules.specs.Edit.{find, cable_of, retired, pulled, find_verdict, find_reply, retire_verdict, pull_verdict, retire, pull, checked}
use Rattle.topology.specs.Reasons.{refusal_of}
use Rattle.topology.specs.Left.{left}
use Rattle.topology.specs.declared.omitted.Omitted.{Omitted}
use Rattle.topology.specs.declared.refusal.Refusal.{Refusal}
use Rattle.topology.specs.declared.refusal.Reason.TheVariants.{NoSuchUid, OnlySwitch, NoCable, LittleRoom}
use Rattle.topology.specs.declared.omitted.Omitted.TheVariants.{Switch, Cable}
use Rattle.topology.proofs.Passing.{applies, passes}
use Rattle.topology.proofs.Handing.{went_on, handed_on, answered_refused, answered_done, Gives, refuses, writes}

-- what is left without a switch, or without a cable
abbrev without : List ℕ → Omitted → List ℕ
without d o = left (record { records = d; without = o })

-- it is what retiring and pulling leave
retired_is : (d : List ℕ) (x : ℕ) → without d (Switch x) ≡ retired d x
unfolding left retired
retired_is d x = refl

pulled_is : (d : List ℕ) (c : ℕ) → without d (Cable c) ≡ pulled d c
unfolding left pulled
pulled_is d c = refl

-- a test that a number is below a bound, as the rules ask it
unknown : (k n : ℕ) (v rest : Verdict) → (k < n → ⊥) → whenever (leb n k) v rest ≡ v
unknown k n v rest h = let past : n ≤ k = omega (arith, h) in applies _ _ _ (le-leb _ _ past)

known : (k n : ℕ) (v rest : Verdict) → k < n → whenever (leb n k) v rest ≡ rest
known k n v rest h = passes _ _ _ (lt-leb _ _ h)

-- a refusal of the check
module _ (d : List ℕ) (u : ℕ) (f : Refusal) (e : refusal_of f ≡ verdict d) where
  pub find_handed : refused (refusal_of f) ≡ find_reply d u
  unfolding find_reply find_verdict
  find_handed = sym (answered_refused (find_verdict d u) (find d u) f (handed_on d f e _))

  pub retire_handed : (out : List ℕ) → Gives (retire d u out) (refused (refusal_of f)) out
  unfolding retire retire_verdict
  retire_handed out = refuses _ (retired d (find d u)) out f (handed_on d f e _)

  pub pull_handed : (p : ℕ) (out : List ℕ) → Gives (pull d u p out) (refused (refusal_of f)) out
  unfolding pull pull_verdict
  pull_handed p out = refuses _ (pulled d (cable_of d (find d u) p)) out f (handed_on d f e _)

-- past the check
module _ (d : List ℕ) (u : ℕ) (e : accepted ≡ verdict d) where
  -- 13
  module _ (h : find d u < switch_count d → ⊥) where
    pub find_unknown : refused (refuse 13 0) ≡ find_reply d u
    unfolding find_reply find_verdict
    find_unknown = sym (answered_refused (find_verdict d u) (find d u) (record { reason = NoSuchUid; position = 0 }) (went_on d e _ ∙ unknown _ _ _ _ h))

    pub retire_unknown : (out : List ℕ) → Gives (retire d u out) (refused (refuse 13 0)) out
    unfolding retire retire_verdict
    retire_unknown out = refuses _ (retired d (find d u)) out (record { reason = NoSuchUid; position = 0 }) (went_on d e _ ∙ unknown _ _ _ _ h)

    pub pull_unknown : (p : ℕ) (out : List ℕ) → Gives (pull d u p out) (refused (refuse 13 0)) out
    unfolding pull pull_verdict
    pull_unknown p out = refuses _ (pulled d (cable_of d (find d u) p)) out (record { reason = NoSuchUid; position = 0 }) (went_on d e _ ∙ unknown _ _ _ _ h)

  module _ (h : find d u < switch_count d) where
    go_on : (rest : Verdict) → checked d (whenever (leb (switch_count d) (find d u)) (refuse 13 0) rest) ≡ rest
    go_on rest = went_on d e _ ∙ known _ _ _ _ h

    pub find_found : (x : ℕ) → x ≡ find d u → done x ≡ find_reply d u
    unfolding find_reply find_verdict
    find_found x p = ap done p ∙ sym (answered_done (find_verdict d u) (find d u) (go_on _))

    module _ (out : List ℕ) where
      -- 14
      pub retire_only : switch_count d ≡ 1 → Gives (retire d u out) (refused (refuse 14 0)) out
      unfolding retire retire_verdict
      retire_only s = refuses _ (retired d (find d u)) out (record { reason = OnlySwitch; position = 0 }) (go_on _ ∙ applies _ _ _ (eq-eqb _ _ s))

      module _ (s : switch_count d ≡ 1 → ⊥) (x : ℕ) (p : x ≡ find d u) where
        on : (rest : Verdict) → checked d (whenever (leb (switch_count d) (find d u)) (refuse 13 0) (whenever (eqb (switch_count d) 1) (refuse 14 0) rest)) ≡ rest
        on rest = go_on _ ∙ passes _ _ _ (ne_eqb _ _ s)

        switch_rest : without d (Switch x) ≡ retired d (find d u)
        switch_rest = retired_is d x ∙ ap (retired d) p

        -- 16
        pub retire_little : length out < length (without d (Switch x)) → Gives (retire d u out) (refused (refuse 16 0)) out
        unfolding retire retire_verdict
        retire_little g =
            refuses _ (retired d (find d u)) out (record { reason = LittleRoom; position = 0 }) (on _ ∙ applies _ _ _ (lt-ltb _ _ (rw switch_rest at g)))

        pub retire_written : length (without d (Switch x)) ≤ length out → (n : ℕ) (after : List ℕ) → n ≡ length (without d (Switch x)) → after ≡ onto (without d (Switch x)) out
            → Gives (retire d u out) (done n) after
        unfolding retire retire_verdict
        retire_written g = writes _ (retired d (find d u)) out (on _ ∙ passes _ _ _ (le-ltb _ _ (rw switch_rest at g))) (without d (Switch x)) switch_rest

      module _ (p x : ℕ) (there : x ≡ find d u) where
        abbrev cable : ℕ
        cable = cable_of d (find d u) p

        here : cable_of d x p ≡ cable
        here = ap (λ y. cable_of d y p) there

        -- 15
        pub pull_none : (cable_of d x p < cable_count d → ⊥) → Gives (pull d u p out) (refused (refuse 15 0)) out
        unfolding pull pull_verdict
        pull_none g = refuses _ (pulled d cable) out (record { reason = NoCable; position = 0 }) (go_on _ ∙ unknown _ _ _ _ (rw here at g))

        module _ (g : cable_of d x p < cable_count d) (c : ℕ) (q : c ≡ cable_of d x p) where
          past : (rest : Verdict) → checked d (whenever (leb (switch_count d) (find d u)) (refuse 13 0) (whenever (leb (cable_count d) cable) (refuse 15 0) rest)) ≡ rest
          past rest = go_on _ ∙ known _ _ _ _ (rw here at g)

          cable_rest : without d (Cable c) ≡ pulled d cable
          cable_rest = pulled_is d c ∙ ap (pulled d) (q ∙ here)

          pub pull_little : length out < length (without d (Cable c)) → Gives (pull d u p out) (refused (refuse 16 0)) out
          unfolding pull pull_verdict
          pull_little r = refuses _ (pulled d cable) out (record { reason = LittleRoom; position = 0 }) (past _ ∙ applies _ _ _ (lt-ltb _ _ (rw cable_rest at r)))

          pub pull_written : length (without d (Cable c)) ≤ length out → (n : ℕ) (after : List ℕ) → n ≡ length (without d (Cable c)) → after ≡ onto (without d (Cable c)) out
              → Gives (pull d u p out) (done n) after
          unfolding pull pull_verdict
          pull_written r = writes _ (pulled d cable) out (past _ ∙ passes _ _ _ (le-ltb _ _ (rw cable_rest at r))) (without d (Cable c)) cable_rest
