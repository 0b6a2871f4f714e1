-- The first 2,058 bytes are enough: what is longer is refused alike, whatever follows.
use mathlib.Core.Path.{◌≡◌, refl, sym, ap, ◌∙◌}
use mathlib.Core.Logic.{inl, inr}
use mathlib.Core.Bool.{Bool, true, false}
use mathlib.Core.List.{List}
use Prim.Native.Nat.{ℕ, ◌<◌}
use native.Mathlib.Omega.{arith}
use lib.ListN.{get_or, length, take}
use lib.Seq.{take_all, length-take-le, get_or-take}
use lib.Dec.{T, eqb, ltb, ltb→lt, lt→ltb, lit<}
use Rattle.topology_rules.specs.Format.{switch_count, cable_count, size_for}
use Rattle.topology_rules.specs.Check.{Verdict, refuse, whenever, verdict, mark_differs, version_differs, bad_count, length_differs}
use Rattle.topology_rules.proofs.Tests.{split, neither, ne→neqb}

whenever_met : (b : Bool) (v rest : Verdict) → T b → whenever b v rest ≡ v
whenever_met true v rest t = refl
whenever_met false v rest t = absurd t

-- only the rest differs, and only where it is reached
whenever_same : (b : Bool) (v x y : Verdict) → ((T b → ⊥) → x ≡ y) → whenever b v x ≡ whenever b v y
whenever_same true v x y e = refl
whenever_same false v x y e = e (λ t. t)

-- what is above 2,057 bytes is refused by 2 to 6, read from the first nine bytes
abbrev long : List ℕ → Verdict
long d =
    whenever (mark_differs d) (refuse 2 0)
    (whenever (version_differs d) (refuse 3 0)
    (whenever (bad_count (switch_count d)) (refuse 4 0)
    (whenever (ltb 384 (cable_count d)) (refuse 5 0) (refuse 6 0))))

long_refused : (d : List ℕ) → 2057 < length d → verdict d ≡ long d
unfolding verdict
long_refused d h =
    whenever_same (ltb (length d) 9) (refuse 1 0) _ (long d) (λ _.
    whenever_same (mark_differs d) (refuse 2 0) _ _ (λ _.
    whenever_same (version_differs d) (refuse 3 0) _ _ (λ _.
    whenever_same (bad_count (switch_count d)) (refuse 4 0) _ _ (λ s.
    whenever_same (ltb 384 (cable_count d)) (refuse 5 0) _ _ (λ l.
    whenever_met (length_differs d) (refuse 6 0) _ (other s l)))))) ∙ short (ltb (length d) 9) (λ t. omega (arith, ltb→lt (length d) 9 t))
  where
    other : (T (bad_count (switch_count d)) → ⊥) → (T (ltb 384 (cable_count d)) → ⊥) → T (length_differs d)
    other s l =
        let (_, m) = neither (eqb (switch_count d) 0) (ltb 64 (switch_count d)) s in
        let few : 64 < switch_count d → ⊥ = λ h. m (lt→ltb 64 (switch_count d) h) in
        let fewer : 384 < cable_count d → ⊥ = λ h. l (lt→ltb 384 (cable_count d) h) in
        ne→neqb (length d) (size_for (switch_count d) (cable_count d)) (λ e. omega arith)

    short : (b : Bool) → (T b → ⊥) → whenever b (refuse 1 0) (long d) ≡ long d
    short true n = absurd (n tt)
    short false n = refl

pub prefix_enough : (d : List ℕ) → verdict (take 2058 d) ≡ verdict d
prefix_enough d = elim (split 2057 (length d)) [
  | inr h ↦ ap verdict (take_all 2058 d (omega arith))
  | inl h ↦ long_refused (take 2058 d) (omega (arith, length-take-le 2058 d h)) ∙ same ∙ sym (long_refused d h)
]
  where
    byte : (k : ℕ) → k < 2058 → get_or (take 2058 d) k 0 ≡ get_or d k 0
    byte k h = get_or-take 2058 d k 0 h

    same : long (take 2058 d) ≡ long d
    same = rw (byte 0 (lit< tt), byte 1 (lit< tt), byte 2 (lit< tt), byte 3 (lit< tt), byte 4 (lit< tt), byte 5 (lit< tt), byte 6 (lit< tt), byte 7 (lit< tt), byte 8 (lit< tt))
