-- The digits that the library prints are those of the rules.
use mathlib.Core.Bool.{Bool, true, ◌&&◌}
use mathlib.Core.Path.{◌≡◌, refl, sym, ap, ◌∙◌}
use mathlib.Core.Logic.{inl, inr}
use mathlib.Core.List.{List, [], ◌∷◌, ◌++◌, append_assoc}
use Prim.Native.Nat.{ℕ, suc, zero, ◌+◌, ◌/◌, ◌%◌, ◌^◌, ◌≤◌, ◌<◌}
use native.Mathlib.Omega.{arith}
use lib.Dec.{eqb}
use lib.ListN.{get_or, take, drop}
use Rattle.hex.specs.Hex.{lower_digits, encode_with, encode_lower}
use Rattle.std.specs.Fmt as std
use Rattle.std.specs.Int.{to_be_bytes, w64}
use Rattle.std.proofs.lemmas.Bool.{and_parts, eqb-true}
use Rattle.std.proofs.lemmas.Fmt.{decimal_from_appends, length-decimal-le_succ}
use Rattle.topology_rules.proofs.Tests.{split}
use Rattle.planner_rules.specs.Printed.{digits, decimal, hex_digit, hex}

-- Decimal: below 10, the number itself.
digits_one : (k x : ℕ) → x < 10 → digits (suc k) x ≡ (48 + x) ∷ []
unfolding digits
digits_one k x h = grind (arith)

-- from 10 on, the last digit after the others
digits_more : (k x : ℕ) → 10 ≤ x → digits (suc k) x ≡ digits k (x / 10) ++ (48 + x % 10) ∷ []
unfolding digits
digits_more k x h = grind (arith)

-- enough digits are all digits
pub digits_enough : (k m x : ℕ) → x < k → x < m → digits k x ≡ digits m x
digits_enough zero m x h l = absurd (omega arith)
digits_enough (suc k) zero x h l = absurd (omega arith)
digits_enough (suc k) (suc m) x h l = elim (split x 10) [
  | inl s ↦ digits_one k x s ∙ sym (digits_one m x s)
  | inr s ↦ digits_more k x s ∙ ap (λ l. l ++ (48 + x % 10) ∷ []) (digits_enough k m (x / 10) (omega arith) (omega arith)) ∙ sym (digits_more m x s)
]

-- the library prints every number of the machine as the rules do
pub decimal_same : (x : ℕ) → x < 2 ^ 64 → std.decimal x ≡ decimal x
decimal_same x small = sym (decimal_from_appends digits (record { one = digits_one; more = digits_more }) (suc x) x small (omega (arith, length-decimal-le_succ x small)))

-- Hexadecimal: whether the first n entries of the library's table are the rules' digits.
abbrev are_digits : ℕ → Bool
are_digits zero = true
are_digits (suc n) = eqb (get_or lower_digits n 0) (hex_digit n) && are_digits n

-- an entry below n is a digit then
digit_below : (n x : ℕ) → are_digits n ≡ true → x < n → get_or lower_digits x 0 ≡ hex_digit x
digit_below zero x t h = absurd (omega arith)
digit_below (suc n) x t h =
    let parts = and_parts (eqb (get_or lower_digits n 0) (hex_digit n)) (are_digits n) t in
    elim (split x n) [
      | inl l ↦ digit_below n x parts.1 l
      | inr g ↦ let e : x ≡ n = omega arith in rw e (eqb-true _ _ parts.0)
    ]

-- a byte in two digits of the library's table
abbrev pair : ℕ → List ℕ
pair b = get_or lower_digits (b / 16) 0 ∷ get_or lower_digits (b % 16) 0 ∷ []

-- the two lowest digits are those of the lowest byte, after the others
byte_more : (k x y : ℕ) {l : List ℕ} → y ≡ x / 256 → hex k y ≡ l → hex (suc (suc k)) x ≡ l ++ pair (x % 256)
unfolding hex
byte_more k x y e h =
    let rest : x / 16 / 16 ≡ y = omega (arith, e) in
    let high : hex_digit (x / 16 % 16) ≡ get_or lower_digits (x % 256 / 16) 0 = ap hex_digit (omega arith) ∙ sym (digit_below 16 _ refl (omega arith)) in
    let low : hex_digit (x % 16) ≡ get_or lower_digits (x % 256 % 16) 0 = ap hex_digit (omega arith) ∙ sym (digit_below 16 _ refl (omega arith)) in
    append_assoc (hex k (x / 16 / 16)) _ _ ∙ (λ i. hex k (rest i) ++ high i ∷ low i ∷ []) ∙ ap (λ m. m ++ pair (x % 256)) h

-- at last no digit is left
none : (x : ℕ) → hex 0 x ≡ []
unfolding hex
none x = refl

-- the library prints the lowest six bytes as the rules do
pub hex_same : (u : ℕ) {bytes : List ℕ} → bytes ≡ to_be_bytes w64 u → encode_lower (take 6 (drop 2 bytes)) ≡ hex 12 u
unfolding encode_with
hex_same u told = ap (λ b. encode_lower (take 6 (drop 2 b))) told ∙ sym
    (byte_more 10 u (u / 256) (omega arith)
    (byte_more 8 (u / 256) (u / 65536) (omega arith)
    (byte_more 6 (u / 65536) (u / 16777216) (omega arith)
    (byte_more 4 (u / 16777216) (u / 4294967296) (omega arith)
    (byte_more 2 (u / 4294967296) (u / 1099511627776) (omega arith)
    (byte_more 0 (u / 1099511627776) _ refl (none _)))))))
