-- The fields of a description by their bytes, and of its net by the description.
use mathlib.Core.Path.{◌≡◌, sym, ap, ◌∙◌}
use mathlib.Core.Logic.{◌↔◌}
use mathlib.Core.List.{List}
use Prim.Native.Nat.{ℕ, suc, zero, ◌+◌, ◌*◌, ◌^◌, ◌<◌}
use native.Mathlib.Omega.{arith}
use lib.ListN.{get_or}
use Rattle.topology_rules.specs.Format.{Bytes, be16, be48, switch_count, hosts_at, end_switch, end_port}

-- a byte of a list that is named by another sum
pub byte : (d : List ℕ) {x y : ℕ} → x ≡ y → get_or d x 0 ≡ get_or d y 0
byte d e = ap (λ (k : ℕ). get_or d k 0) e

pub six_bytes : (d : List ℕ) (a : ℕ)
    → be48 d a ≡ 2 ^ 40 * get_or d (a + 0) 0 + 2 ^ 32 * get_or d (a + 1) 0 + 2 ^ 24 * get_or d (a + 2) 0 + 2 ^ 16 * get_or d (a + 3) 0 + 2 ^ 8 * get_or d (a + 4) 0 + get_or d (a + 5) 0
six_bytes d a =
    let e : a + 0 ≡ a = omega arith in
    let f : a + 2 + 1 ≡ a + 3 = omega arith in
    let g : a + 4 + 1 ≡ a + 5 = omega arith in
    omega (arith, byte d e, byte d f, byte d g)

-- the digits of a number are its own
two_digits : (x y u v : ℕ) → y < 256 → v < 256 → 256 * x + y ≡ 256 * u + v → (x ≡ u) × (y ≡ v)
two_digits x y u v h l e = omega arith

three_digits : (x y z u v w : ℕ) → y < 65536 → z < 65536 → v < 65536 → w < 65536
    → 4294967296 * x + 65536 * y + z ≡ 4294967296 * u + 65536 * v + w → (x ≡ u) × (y ≡ v) × (z ≡ w)
three_digits x y z u v w a b c f e = omega arith

-- two such numbers are equal exactly if all six bytes are
module _ (d e : List ℕ) (p : Bytes d) (q : Bytes e) (a b : ℕ) where
  abbrev Same : ℕ → Type 0
  Same k = get_or d (a + k) 0 ≡ get_or e (b + k) 0

  pub two_same : (k : ℕ) → be16 d (a + k) ≡ be16 e (b + k) → Same k × Same (k + 1)
  two_same k s =
      let (x, y) = two_digits _ _ _ _ (p (a + k + 1)) (q (b + k + 1)) s in
      let f : a + (k + 1) ≡ a + k + 1 = omega arith in
      let g : b + (k + 1) ≡ b + k + 1 = omega arith in
      (x, byte d f ∙ y ∙ sym (byte e g))

  word : (l : List ℕ) → Bytes l → (k : ℕ) → be16 l k < 65536
  word l h k = omega (arith, h k, h (k + 1))

  pub six_same : (be48 d a ≡ be48 e b) ↔ ((k : ℕ) → k < 6 → Same k)
  six_same = (λ s. each (out s), λ f. six_bytes d a ∙ omega (arith, f 0 (omega arith), f 1 (omega arith), f 2 (omega arith), f 3 (omega arith), f 4 (omega arith), f 5 (omega arith)) ∙ sym (six_bytes e b))
    where
      out : be48 d a ≡ be48 e b → (Same 0 × Same 1) × (Same 2 × Same 3) × (Same 4 × Same 5)
      out s =
          let (x, y, z) = three_digits _ _ _ _ _ _ (word d p (a + 2)) (word d p (a + 4)) (word e q (b + 2)) (word e q (b + 4)) s in
          let f : a ≡ a + 0 = omega arith in
          let g : b ≡ b + 0 = omega arith in
          (two_same 0 (ap (be16 d) (sym f) ∙ x ∙ ap (be16 e) g), two_same 2 y, two_same 4 z)

      each : (Same 0 × Same 1) × (Same 2 × Same 3) × (Same 4 × Same 5) → (k : ℕ) → k < 6 → Same k
      each r zero h = r.0.0
      each r (suc zero) h = r.0.1
      each r (suc (suc zero)) h = r.1.0
      each r (suc (suc (suc zero))) h = r.1.1
      each r (suc (suc (suc (suc zero)))) h = r.2.0
      each r (suc (suc (suc (suc (suc zero))))) h = r.2.1
      each r (suc (suc (suc (suc (suc (suc k)))))) h = absurd (omega arith)

module _ (d : List ℕ) where
  pub host_bytes : (i : ℕ) → hosts_at d i ≡ 2 ^ 8 * get_or d (9 + 8 * i + 6) 0 + get_or d (9 + 8 * i + 7) 0
  host_bytes i =
      let e : 15 + 8 * i ≡ 9 + 8 * i + 6 = omega arith in
      let f : 15 + 8 * i + 1 ≡ 9 + 8 * i + 7 = omega arith in
      omega (arith, byte d e, byte d f)

  -- the four bytes of a cable record
  pub end_bytes : (c : ℕ)
      → let at = 9 + 8 * switch_count d + 4 * c in
      (end_switch d (2 * c) ≡ get_or d at 0) × (end_port d (2 * c) ≡ get_or d (at + 1) 0) × (end_switch d (2 * c + 1) ≡ get_or d (at + 2) 0) × (end_port d (2 * c + 1) ≡ get_or d (at + 3) 0)
  end_bytes c = (byte d (omega arith), byte d (omega arith), byte d (omega arith), byte d (omega arith))
