-- Walks through a net, and the switches joined by them.
use mathlib.Core.Path.{refl, sym}
use mathlib.Core.Logic.{inl, inr, ◌↔◌}
use mathlib.Core.Bool.{Bool, true, false}
use mathlib.Core.List.{List, [], ◌∷◌, ◌++◌}
use Prim.Native.Nat.{ℕ, suc, zero, ◌+◌, ◌≤◌, ◌<◌, pred}
use native.Mathlib.Omega.{arith}
use lib.ListN.{length, length-append}
use lib.Dec.{T, eqb, eqb→eq, ltb→lt, lt→ltb}
use Rattle.topology_rules.specs.Count.{any}
use Rattle.topology_rules.specs.Net.{Net, WellFormed, target, back}
use Rattle.planner_rules.specs.Tree.{within, joined}
use Rattle.planner_rules.specs.Rules.{Walk}
use Rattle.topology_rules.proofs.Tests.{or_T, T_or, and_T, T_and, eq→eqb}
use Rattle.topology_rules.proofs.Searches.{any_T, T_any}
use Rattle.topology_rules.proofs.Counts.{complete}
use Rattle.topology_rules.proofs.Channels.{target_back, target_switch}

module _ (n : Net) where
  -- t is reached from s over at most m cables
  abbrev pub Within : ℕ → ℕ → ℕ → Type 0
  Within m s t = (r : List ℕ) × (length r ≤ m) × Walk n s r t

  step : ℕ → ℕ → ℕ → ℕ → Bool
  unfolding within
  step m s t ch = elim (eqb (n.source ch) s) [ true ↦ within n m (target n ch) t | false ↦ false ]

  pub within_walk : (m s t : ℕ) → T (within n m s t) → Within m s t
  unfolding within step
  within_walk zero s t h = ([], omega arith, eqb→eq s t h)
  within_walk (suc m) s t h = elim (or_T (eqb s t) (any n.channels (step m s t)) h) [
    | inl p ↦ ([], omega arith, eqb→eq s t p)
    | inr p ↦
        let w = any_T (step m s t) n.channels p in
        let q = and_T (eqb (n.source w.0) s) (within n m (target n w.0) t) w.2 in
        let r = within_walk m (target n w.0) t q.1 in
        (w.0 ∷ r.0, omega arith, (lt→ltb w.0 n.channels w.1, eqb→eq (n.source w.0) s q.0, r.2))
  ]

  pub walk_within : (m s t : ℕ) → Within m s t → T (within n m s t)
  unfolding within step
  walk_within m s t w = go m s w.0 w.1 w.2
    where
      go : (m s : ℕ) (r : List ℕ) → length r ≤ m → Walk n s r t → T (within n m s t)
      go zero s [] h p = eq→eqb s t p
      go zero s (ch ∷ r) h p = absurd (omega arith)
      go (suc m) s [] h p = T_or (eqb s t) (any n.channels (step m s t)) (inl (eq→eqb s t p))
      go (suc m) s (ch ∷ r) h p =
          T_or (eqb s t) (any n.channels (step m s t)) (inr
          (T_any (step m s t) n.channels ch (ltb→lt ch n.channels p.0)
          (T_and (eqb (n.source ch) s) (within n m (target n ch) t) (eq→eqb (n.source ch) s p.1) (go m (target n ch) r (omega arith) p.2))))

  walk_append : (s t u : ℕ) (a b : List ℕ) → Walk n s a t → Walk n t b u → Walk n s (a ++ b) u
  walk_append s t u [] b p q = rw p q
  walk_append s t u (ch ∷ a) b p q = (p.0, p.1, walk_append (target n ch) t u a b p.2 q)

  pub within_refl : (m s : ℕ) → Within m s s
  within_refl m s = ([], omega arith, refl)

  pub within_trans : (m k s t u : ℕ) → Within m s t → Within k t u → Within (m + k) s u
  within_trans m k s t u p q = (p.0 ++ q.0, rw length-append (omega arith), walk_append s t u p.0 q.0 p.2 q.2)

  pub within_more : (m k s t : ℕ) → m ≤ k → Within m s t → Within k s t
  within_more m k s t h w = (w.0, omega arith, w.2)

  pub within_one : (ch : ℕ) → ch < n.channels → Within 1 (n.source ch) (target n ch)
  within_one ch h = (ch ∷ [], omega arith, (lt→ltb ch n.channels h, refl, refl))

  module _ (w : WellFormed n) where
    pub within_back : (ch : ℕ) → ch < n.channels → Within 1 (target n ch) (n.source ch)
    within_back ch h = rw (target_back n ch) at (within_one (back ch) (w.both_ways ch h))

    pub within_turn : (m s t : ℕ) → Within m s t → Within m t s
    within_turn m s t v = go m s v.0 v.1 v.2
      where
        go : (m s : ℕ) (r : List ℕ) → length r ≤ m → Walk n s r t → Within m t s
        go m s [] h p = ([], omega arith, sym p)
        go m s (ch ∷ r) h p =
            within_more (length r + 1) m t s (omega arith)
            (within_trans (length r) 1 t (target n ch) s (go (length r) (target n ch) r (omega arith) p.2)
            (rw p.1 at (within_back ch (ltb→lt ch n.channels p.0))))

    grows : (t m s : ℕ) → s < n.switches → T (within n m s t) → T (within n (suc m) s t)
    grows t m s h p = walk_within (suc m) s t (within_more m (suc m) s t (omega arith) (within_walk m s t p))

    stays : (t m : ℕ) → ((s : ℕ) → s < n.switches → T (within n (suc m) s t) → T (within n m s t))
        → (s : ℕ) → s < n.switches → T (within n (suc (suc m)) s t) → T (within n (suc m) s t)
    stays t m still s h p = go (within_walk (suc (suc m)) s t p)
      where
        go : Within (suc (suc m)) s t → T (within n (suc m) s t)
        go ([], l, e) = walk_within (suc m) s t ([], omega arith, e)
        go (ch ∷ r, l, e) =
            let v = within_walk m (target n ch) t
            (still (target n ch) (target_switch n w ch (ltb→lt ch n.channels e.0)) (walk_within (suc m) (target n ch) t (r, omega arith, e.2))) in
            walk_within (suc m) s t (ch ∷ v.0, omega arith, (e.0, e.1, v.2))

    -- each walk can be cut to fewer than all switches
    pub within_short : (m k s t : ℕ) → s < n.switches → t < n.switches → n.switches ≤ suc k → Within m s t → Within k s t
    within_short m k s t h l b v =
        within_walk k s t (complete (λ j u. within n j u t) n.switches (grows t) (stays t) t l (walk_within 0 t t (within_refl 0 t)) k m s b h (walk_within m s t v))

    pub walk_switch : (s t : ℕ) (r : List ℕ) → s < n.switches → Walk n s r t → t < n.switches
    walk_switch s t [] h p = rw p at h
    walk_switch s t (ch ∷ r) h p = walk_switch (target n ch) t r (target_switch n w ch (ltb→lt ch n.channels p.0)) p.2

    -- Switches joined by a walk are an equivalence's classes.
    pub walk_joined : (m s t : ℕ) → s < n.switches → Within m s t → T (joined n s t)
    walk_joined m s t h v =
        walk_within n.switches s t (within_short m n.switches s t h (walk_switch s t v.0 h v.2) (omega arith) v)

    pub joined_walk : (s t : ℕ) → T (joined n s t) → Within n.switches s t
    joined_walk s t = within_walk n.switches s t

    pub joined_switch : (s t : ℕ) → s < n.switches → T (joined n s t) → t < n.switches
    joined_switch s t h j = let v = joined_walk s t j in walk_switch s t v.0 h v.2

    pub joined_refl : (s : ℕ) → T (joined n s s)
    joined_refl s = walk_within n.switches s s (within_refl n.switches s)

    pub joined_sym : (s t : ℕ) → T (joined n s t) → T (joined n t s)
    joined_sym s t j = walk_within n.switches t s (within_turn n.switches s t (joined_walk s t j))

    pub joined_trans : (s t u : ℕ) → s < n.switches → T (joined n s t) → T (joined n t u) → T (joined n s u)
    joined_trans s t u h j k =
        walk_joined (n.switches + n.switches) s u h (within_trans n.switches n.switches s t u (joined_walk s t j) (joined_walk t u k))

    pub channel_joined : (ch : ℕ) → ch < n.channels → T (joined n (n.source ch) (target n ch))
    channel_joined ch h = walk_joined 1 (n.source ch) (target n ch) (w.from_a_switch ch h) (within_one ch h)

    pub joined_exactly : (s t : ℕ) → s < n.switches → T (joined n s t) ↔ ((r : List ℕ) × Walk n s r t)
    joined_exactly s t h = (λ j. let v = joined_walk s t j in (v.0, v.2), λ (r, p). walk_joined (length r) s t h (r, omega arith, p))

    pub short_walk : (s t : ℕ) (r : List ℕ) → s < n.switches → Walk n s r t → (q : List ℕ) × (length q < n.switches) × Walk n s q t
    short_walk s t r h p =
        let v = within_short (length r) (pred n.switches) s t h (walk_switch s t r h p) (omega arith) (r, omega arith, p) in
        (v.0, omega arith, v.2)
