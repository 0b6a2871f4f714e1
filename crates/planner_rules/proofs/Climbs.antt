-- Up the tree to the root and down again: a legal route between any two switches of a component.
use mathlib.Core.Path.{◌≡◌, refl, ap, sym, ◌∙◌}
use mathlib.Core.Bool.{Bool, true, false, not}
use mathlib.Core.List.{List, [], ◌∷◌, ◌++◌}
use Prim.Native.Nat.{ℕ, suc, zero, ◌+◌, ◌≤◌, ◌<◌}
use native.Mathlib.Omega.{arith}
use lib.ListN.{length, length-append}
use lib.Dec.{T, ltb→lt, lt→ltb}
use Rattle.topology_rules.specs.Net.{Net, WellFormed, target, live, back}
use Rattle.planner_rules.specs.Tree.{root, level, joined, up, parent_channel}
use Rattle.planner_rules.specs.Routes.{Arrival, free, bound, may_cross, after}
use Rattle.planner_rules.specs.Rules.{Legal}
use Rattle.topology_rules.proofs.Channels.{target_switch, target_back}
use Rattle.planner_rules.proofs.Walks.{joined_switch}
use Rattle.planner_rules.proofs.Levels.{level_zero, channel_root, root_same}
use Rattle.planner_rules.proofs.Order.{up_not_back}
use Rattle.planner_rules.proofs.Parents.{parent_is, rises_up}

-- how a crossing leaves a packet
pub after_up : (b : Bool) → T b → after b ≡ free
after_up true t = refl
after_up false t = absurd t

pub after_down : (b : Bool) → (T b → ⊥) → after b ≡ bound
after_down true d = absurd (d tt)
after_down false d = refl

module _ (n : Net) where
  -- up crossings alone
  abbrev pub Rising : ℕ → List ℕ → ℕ → Type 0
  Rising s [] t = s ≡ t
  Rising s (ch ∷ r) t = T (live n ch) × (n.source ch ≡ s) × T (up n ch) × Rising (target n ch) r t

  -- down crossings alone
  abbrev pub Falling : ℕ → List ℕ → ℕ → Type 0
  Falling s [] t = s ≡ t
  Falling s (ch ∷ r) t = T (live n ch) × (n.source ch ≡ s) × T (not (up n ch)) × Falling (target n ch) r t

  may_fall : (k : Arrival) (b : Bool) → T (not b) → T (may_cross k b)
  may_fall free b t = tt
  may_fall bound b t = t

  pub falling_legal : (k : Arrival) (s : ℕ) (r : List ℕ) (t : ℕ) → Falling s r t → Legal n k s r t
  falling_legal k s [] t p = p
  falling_legal k s (ch ∷ r) t p = (p.0, p.1, may_fall k (up n ch) p.2, falling_legal (after (up n ch)) (target n ch) r t p.3)

  pub rising_legal : (s m t : ℕ) (a b : List ℕ) → Rising s a m → Legal n free m b t → Legal n free s (a ++ b) t
  rising_legal s m t [] b p q = rw p q
  rising_legal s m t (ch ∷ a) b p q =
      (p.0, p.1, tt, rw (after_up (up n ch) p.2) (rising_legal (target n ch) m t a b p.3 q))

  falling_append : (s m t : ℕ) (a b : List ℕ) → Falling s a m → Falling m b t → Falling s (a ++ b) t
  falling_append s m t [] b p q = rw p q
  falling_append s m t (ch ∷ a) b p q = (p.0, p.1, p.2, falling_append (target n ch) m t a b p.3 q)

  module _ (w : WellFormed n) where
    pub rising_turn : (s t : ℕ) (r : List ℕ) → Rising s r t → (q : List ℕ) × (length q ≡ length r) × Falling t q s
    rising_turn s t [] p = ([], refl, sym p)
    rising_turn s t (ch ∷ r) p =
        let v = rising_turn (target n ch) t r p.3 in
        let step : Falling (target n ch) (back ch ∷ []) s =
        (lt→ltb (back ch) n.channels (w.both_ways ch (ltb→lt ch n.channels p.0)), refl, up_not_back n w ch p.2, target_back n ch ∙ p.1) in
        (v.0 ++ back ch ∷ [], rw length-append (omega arith), falling_append t (target n ch) s v.0 (back ch ∷ []) v.2 step)

    pub climb : (k s : ℕ) → s < n.switches → level n s ≡ k → (r : List ℕ) × (length r ≡ k) × Rising s r (root n s)
    climb zero s h e = ([], refl, level_zero n w s h e)
    climb (suc k) s h e =
        let c = parent_channel n s in
        let r = (parent_is n w s h (omega arith)).rising in
        let v = climb k (target n c) (target_switch n w c r.is_live) (omega arith) in
        let same : root n (target n c) ≡ root n s = sym (channel_root n w c r.is_live) ∙ ap (root n) r.starts in
        (c ∷ v.0, omega arith, (lt→ltb c n.channels r.is_live, r.starts, rises_up n w s c r, rw same at v.2))

    pub route : (s t : ℕ) → s < n.switches → T (joined n s t) → (r : List ℕ) × (length r ≤ level n s + level n t) × Legal n free s r t
    route s t h j =
        let l = joined_switch n w s t h j in
        let a = climb (level n s) s h refl in
        let b = climb (level n t) t l refl in
        let d = rising_turn t (root n t) b.0 b.2 in
        let same = root_same n w s t h j in (
          a.0 ++ d.0,
          rw length-append (omega arith),
          rising_legal s (root n s) t a.0 d.0 a.2 (falling_legal free (root n s) d.0 t (rw same d.2)),
        )
