-- The root of a component and the levels above it.
use mathlib.Core.Path.{◌≡◌, refl, sym, ap, ◌∙◌}
use mathlib.Core.Logic.{inl, inr, ◌↔◌, ◌≢◌}
use mathlib.Core.List.{List, [], ◌∷◌}
use Prim.Native.Nat.{ℕ, suc, ◌≤◌, ◌<◌, pred}
use native.Mathlib.Omega.{arith}
use lib.ListN.{length}
use lib.Dec.{T, ltb→lt, lt→ltb}
use Rattle.topology_rules.specs.Net.{Net, WellFormed, target, back}
use Rattle.planner_rules.specs.Tree.{within, joined, lower_uid, root, level}
use Rattle.planner_rules.specs.Rules.{Walk}
use Rattle.topology_rules.proofs.Tests.{split}
use Rattle.topology_rules.proofs.Searches.{First, first_is, least_passes}
use Rattle.topology_rules.proofs.Channels.{target_switch, target_back}
use Rattle.planner_rules.proofs.Walks.{Within, within_walk, walk_within, within_more, within_short, joined_walk, joined_refl, joined_sym, joined_trans, channel_joined, joined_switch}

module _ (n : Net) (w : WellFormed n) where
  lower_irreflexive : (a : ℕ) → T (lower_uid n a a) → ⊥
  lower_irreflexive a t = omega (arith, ltb→lt)

  lower_transitive : (a b c : ℕ) → T (lower_uid n a b) → T (lower_uid n b c) → T (lower_uid n a c)
  lower_transitive a b c p q = omega (arith, ltb→lt, lt→ltb)

  root_first : (s : ℕ) → s < n.switches → First (joined n s) (lower_uid n) n.switches (root n s)
  unfolding root
  root_first s h = first_is (joined n s) (lower_uid n) lower_irreflexive lower_transitive n.switches s h (joined_refl n w s)

  pub root_switch : (s : ℕ) → s < n.switches → root n s < n.switches
  root_switch s h = (root_first s h).0

  pub root_joined : (s : ℕ) → s < n.switches → T (joined n s (root n s))
  root_joined s h = (root_first s h).1

  -- no switch of the component has a lower identifier
  pub root_lowest : (s t : ℕ) → s < n.switches → T (joined n s t) → n.uid (root n s) ≤ n.uid t
  root_lowest s t h j = elim (split (n.uid t) (n.uid (root n s))) [
    | inl l ↦ absurd ((root_first s h).2 t (joined_switch n w s t h j) j (lt→ltb (n.uid t) (n.uid (root n s)) l))
    | inr l ↦ l
  ]

  root_below : (s t : ℕ) → s < n.switches → t < n.switches → T (joined n s t) → n.uid (root n s) ≤ n.uid (root n t)
  root_below s t h l j = root_lowest s (root n t) h (joined_trans n w s t (root n t) h j (root_joined t l))

  pub root_same : (s t : ℕ) → s < n.switches → T (joined n s t) → root n s ≡ root n t
  root_same s t h j =
      let l = joined_switch n w s t h j in
      w.uids_differ (root n s) (root n t) (root_switch s h) (root_switch t l)
      (omega (arith, root_below s t h l j, root_below t s l h (joined_sym n w s t j)))

  pub root_root : (s : ℕ) → s < n.switches → root n (root n s) ≡ root n s
  root_root s h = sym (root_same s (root n s) h (root_joined s h))

  -- The level is the length of a shortest walk to the root.
  level_found : (s : ℕ) → s < n.switches → (m : ℕ) → m < n.switches → Within n m s (root n s)
      → (level n s ≤ m) × T (within n (level n s) s (root n s))
  unfolding level
  level_found s h m l v = least_passes (λ k. within n k s (root n s)) n.switches m l (walk_within n m s (root n s) v)

  level_some : (s : ℕ) → s < n.switches → (level n s ≤ pred n.switches) × T (within n (level n s) s (root n s))
  level_some s h =
      level_found s h (pred n.switches) (omega arith)
      (within_short n w n.switches (pred n.switches) s (root n s) h (root_switch s h) (omega arith) (joined_walk n w s (root n s) (root_joined s h)))

  pub level_bound : (s : ℕ) → s < n.switches → level n s < n.switches
  level_bound s h = omega (arith, level_some s h)

  pub level_walk : (s : ℕ) → s < n.switches → Within n (level n s) s (root n s)
  level_walk s h = within_walk n (level n s) s (root n s) (level_some s h).1

  pub level_least : (s m : ℕ) → s < n.switches → Within n m s (root n s) → level n s ≤ m
  level_least s m h v = elim (split m n.switches) [ inl l ↦ (level_found s h m l v).0 | inr l ↦ omega (arith, level_bound s h) ]

  pub level_shortest : (s : ℕ) → s < n.switches
      → ((r : List ℕ) × (length r ≡ level n s) × Walk n s r (root n s)) × ((q : List ℕ) → Walk n s q (root n s) → level n s ≤ length q)
  level_shortest s h =
      let v = level_walk s h in
      ((v.0, omega (arith, level_least s (length v.0) h (v.0, omega arith, v.2)), v.2), λ q p. level_least s (length q) h (q, omega arith, p))

  pub level_root : (s : ℕ) → s < n.switches → level n (root n s) ≡ 0
  level_root s h =
      omega (arith, level_least (root n s) 0 (root_switch s h) ([], omega arith, sym (root_root s h)))

  pub level_zero : (s : ℕ) → s < n.switches → level n s ≡ 0 → s ≡ root n s
  level_zero s h e = go (level_walk s h)
    where
      go : Within n (level n s) s (root n s) → s ≡ root n s
      go ([], l, p) = p
      go (ch ∷ r, l, p) = absurd (omega arith)

  pub at_root : (s : ℕ) → s < n.switches → s ≡ root n s → level n s ≡ 0
  at_root s h e = ap (level n) e ∙ level_root s h

  pub below_root : (s : ℕ) → s < n.switches → s ≢ root n s → 0 < level n s
  below_root s h d = let z : level n s ≡ 0 → ⊥ = λ e. d (level_zero s h e) in omega arith

  pub within_level : (s k : ℕ) → s < n.switches → T (within n k s (root n s)) ↔ (level n s ≤ k)
  within_level s k h = (
    λ t. level_least s k h (within_walk n k s (root n s) t),
    λ l. walk_within n k s (root n s) (within_more n (level n s) k s (root n s) l (level_walk s h)),
  )

  -- Across a channel.
  pub channel_root : (ch : ℕ) → ch < n.channels → root n (n.source ch) ≡ root n (target n ch)
  channel_root ch h = root_same (n.source ch) (target n ch) (w.from_a_switch ch h) (channel_joined n w ch h)

  pub level_rise : (ch : ℕ) → ch < n.channels → level n (n.source ch) ≤ suc (level n (target n ch))
  level_rise ch h =
      let v = level_walk (target n ch) (target_switch n w ch h) in
      level_least (n.source ch) (suc (level n (target n ch))) (w.from_a_switch ch h)
      (ch ∷ v.0, omega arith, (lt→ltb ch n.channels h, refl, rw (channel_root ch h) v.2))

  pub level_fall : (ch : ℕ) → ch < n.channels → level n (target n ch) ≤ suc (level n (n.source ch))
  level_fall ch h = rw (target_back n ch) at (level_rise (back ch) (w.both_ways ch h))
