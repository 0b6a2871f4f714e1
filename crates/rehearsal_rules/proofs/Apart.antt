-- Two packets that are not in one channel never come to be in one.
use Prim.Native.Nat.{ℕ}
use native.Mathlib.Omega.{arith}
use mathlib.Core.List.{List, [], ◌∷◌}
use mathlib.Core.Bool.{cond}
use mathlib.Core.Path.{◌≡◌, refl, sym, ◌∙◌}
use mathlib.Core.Logic.{◌≢◌}
use lib.Dec.{eqb}
use Rattle.topology_rules.specs.Net.{Net, target}
use Rattle.rehearsal_rules.specs.Machine.{answers}
use Rattle.rehearsal_rules.specs.Packets.{Cell}
use Rattle.rehearsal_rules.specs.Answers.{Answer, Order}
use Rattle.rehearsal_rules.specs.Moves.{Tables, moving, onward}
use Rattle.rehearsal_rules.specs.Follow.{Whereabouts, in_channel, delivered_at, Apart, hop, followed}
use Rattle.rehearsal_rules.proofs.Effects.{Effect, stays, placed, goes, leaves, effect}
use Rattle.rehearsal_rules.proofs.Sound.{Facts, apart, sound_next}
use Rattle.rehearsal_rules.proofs.Tables.{Draining}
use Rattle.rehearsal_rules.proofs.Identity.{At, by_channel, one_hop}

-- the packet in ch, whichever of the two, goes to y, where neither was
pub shift : (c d ch : ℕ) (y : Whereabouts) → c ≢ d → ((e : ℕ) → y ≡ in_channel e → (c ≢ e) × (d ≢ e))
    → Apart (cond (eqb c ch) y (in_channel c)) (cond (eqb d ch) y (in_channel d))
shift c d ch y ne far =
    by_channel (λ w. Apart w (cond (eqb d ch) y (in_channel d))) c ch _ _
    (λ e. by_channel (λ v. Apart y v) d ch _ _ (λ f. absurd (ne (e ∙ sym f))) (λ f k p q. (far k p).1 (cc)))
    (λ e. by_channel (λ v. Apart (in_channel c) v) d ch _ _ (λ f k p q. (far k q).0 (cc)) (λ f k p q. ne (cc)))

pub not_inside : {t p e : ℕ} → delivered_at t p ≡ in_channel e → ⊥
not_inside h = let z : ◌≡◌ {A = ℕ} 0 1 = cc in absurd (omega arith)

module _ (n : Net) (holds : Tables) (Fit : ℕ → ℕ → Type 0) (rank : ℕ → ℕ) (law : Draining n holds Fit rank) where
  one_apart : (held : List Cell) {o : Order} {x : Answer} {m : List Cell} → Effect n holds held o x m → Facts n Fit held → {a b : ℕ} (c d : ℕ)
      → At n a held (in_channel c) → At n b held (in_channel d) → c ≢ d → Apart (hop n (in_channel c) x o) (hop n (in_channel d) x o)
  one_apart held (stays h) s c d ca db ne = λ e p q. ne (cc)
  one_apart held (placed sw g h k f) s c d ca db ne = λ e p q. ne (cc)
  one_apart held (goes {ch = ch} {p = p} k e al on f) s c d ca db ne =
      shift c d ch (in_channel (onward n ch p)) ne (λ i h.
      let same : onward n ch p ≡ i = cc in
      rw (← same) (λ u. apart n holds Fit rank law s _ f ca.1 (sym u), λ u. apart n holds Fit rank law s _ f db.1 (sym u)))
  one_apart held (leaves {ch = ch} {p = p} k e al off) s c d ca db ne = shift c d ch (delivered_at (target n ch) p) ne (λ i h. absurd (not_inside h))

  module _ (a b : ℕ) where
    hops_apart : (held : List Cell) {o : Order} {x : Answer} {m : List Cell} → Effect n holds held o x m → Facts n Fit held → (w v : Whereabouts) → At n a held w → At n b held v
        → Apart w v → Apart (hop n w x o) (hop n v x o)
    hops_apart held f s (delivered_at t p) v at bt ap = λ e p q. not_inside p
    hops_apart held f s (in_channel c) (delivered_at t p) at bt ap = λ e p q. not_inside q
    hops_apart held f s (in_channel c) (in_channel d) at bt ap = one_apart held f s c d at bt (λ e. ap d (rw e) refl)

    pub stay_apart : (held : List Cell) (os : List Order) → Facts n Fit held → (w v : Whereabouts) → At n a held w → At n b held v → Apart w v
        → Apart (followed n w os (answers (moving n holds) held os)) (followed n v os (answers (moving n holds) held os))
    unfolding answers followed
    stay_apart held [] s w v at bt ap = ap
    stay_apart held (o ∷ os) s w v at bt ap =
        let f = effect n holds held o in
        stay_apart ((moving n holds).next held o) os (sound_next n holds Fit rank law held o s) _ _ (one_hop n holds Fit rank law a held f s w at) (one_hop n holds Fit rank law b held f s v bt) (hops_apart held f s w v at bt ap)
