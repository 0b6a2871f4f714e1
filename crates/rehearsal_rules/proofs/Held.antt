-- Lists with something for each channel, whatever it is: what they say after one place changes.
use Prim.Native.Nat.{ℕ, suc, zero, ◌+◌, ◌<◌}
use native.Mathlib.Omega.{arith}
use native.Mathlib.Nat.{add-zero, zero-add}
use native.Mathlib.Decide.{ℕ_discrete, dec_lt}
use mathlib.Core.List.{List, [], ◌∷◌}
use mathlib.Core.Path.{◌≡◌, refl, ap₂}
use mathlib.Core.Logic.{◌⊎◌, inl, inr}
use lib.ListN.{get_or, set, length, replicate}
use lib.Seq.{get_or-set_same, get_or-set_other, set_out}
use Rattle.rehearsal_rules.specs.Packets.{Cell, none, packet, Full}
use Rattle.rehearsal_rules.specs.Left.{sum, sum_from}

module _ {C : Type 0} (d : C) where
  abbrev pub Each : (ℕ → C → Type 0) → List C → Type 0
  Each P held = (ch : ℕ) → P ch (get_or held ch d)

  pub each_set : (P : ℕ → C → Type 0) (held : List C) (i : ℕ) (v : C) → Each P held → P i v → Each P (set held i v)
  each_set P held i v each new ch = same? (ℕ_discrete ch i) (dec_lt i (length held))
    where
      same? : Dec (ch ≡ i) → Dec (i < length held) → P ch (get_or (set held i v) ch d)
      same? (no ne) x = rw (get_or-set_other held i ch v d ne) (each ch)
      same? (yes e) (yes h) = rw (e, get_or-set_same held i v d h) new
      same? (yes e) (no h) = rw (set_out held i v (omega arith)) (each ch)

  module _ (cost : ℕ → C → ℕ) where
    from_set : (o : ℕ) (held : List C) (i : ℕ) (v : C) → i < length held
        → sum_from cost o (set held i v) + cost (o + i) (get_or held i d) ≡ sum_from cost o held + cost (o + i) v
    unfolding sum_from
    from_set o [] i v h = absurd (omega arith)
    from_set o (a ∷ held) zero v h = rw add-zero (omega arith)
    from_set o (a ∷ held) (suc i) v h =
        let ih = from_set (suc o) held i v (omega arith) in
        let shift : o + suc i ≡ suc o + i = omega arith in
        rw shift (omega arith)

    pub sum_set : (held : List C) (i : ℕ) (v : C) → i < length held → sum cost (set held i v) + cost i (get_or held i d) ≡ sum cost held + cost i v
    sum_set held i v h = rw zero-add at (from_set 0 held i v h)

    from_empty : ((ch : ℕ) → cost ch d ≡ 0) → (o k : ℕ) → sum_from cost o (replicate k d) ≡ 0
    unfolding sum_from
    from_empty free o zero = refl
    from_empty free o (suc k) = rw (free o, from_empty free (suc o) k)

    pub sum_empty : ((ch : ℕ) → cost ch d ≡ 0) → (k : ℕ) → sum cost (replicate k d) ≡ 0
    sum_empty free k = from_empty free 0 k

-- a packet's head is found in some channel, or the net is empty
pub some_or_none : (held : List Cell) → ((ch : ℕ) × Full (get_or held ch none)) ⊎ (held ≡ replicate (length held) none)
some_or_none [] = inr refl
some_or_none (packet pk ∷ held) = inl (0, tt)
some_or_none (none ∷ held) = here (some_or_none held)
  where
    here : ((ch : ℕ) × Full (get_or held ch none)) ⊎ (held ≡ replicate (length held) none)
        → ((ch : ℕ) × Full (get_or (none ∷ held) ch none)) ⊎ (none ∷ held ≡ none ∷ replicate (length held) none)
    here (inl w) = inl (suc w.0, w.1)
    here (inr l) = inr (ap₂ ◌∷◌ refl l)

pub none_there : (k ch : ℕ) → get_or (replicate k none) ch none ≡ none
none_there zero ch = refl
none_there (suc k) zero = refl
none_there (suc k) (suc ch) = none_there k ch
