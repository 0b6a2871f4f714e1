-- Printed numbers: which characters they have, how many, and that they read back.
use Prim.Native.Nat.{ℕ, suc, zero, ◌+◌, ◌*◌, ◌-◌, ◌/◌, ◌%◌, ◌^◌, ◌≤◌, ◌<◌}
use mathlib.Core.Bool.{cond}
use mathlib.Core.List.{List, [], ◌∷◌, ◌++◌}
use mathlib.Core.Logic.{◌⊎◌, inl, inr, ◌≢◌}
use mathlib.Core.Path.{◌≡◌, refl, ◌∙◌}
use native.Mathlib.Nat.{pow-succ'}
use native.Mathlib.Omega.{arith}
use lib.ListN.{get_or, length, length-append}
use lib.Dec.{ltb, ltb→lt, lt→ltb, nltb→le, not_T}
use Rattle.topology_rules.proofs.Tests.{split, choose, choose_cond}
use Rattle.planner_rules.specs.Printed.{space, newline, digits, decimal, hex_digit, hex}

-- P of each element
abbrev pub Each : {A : Type 0} → (A → Type 0) → List A → Type 0
Each P [] = Unit {0}
Each P (c ∷ l) = P c × Each P l

module _ {A : Type 0} (P : A → Type 0) where
  pub each_append : (a b : List A) → Each P a → Each P b → Each P (a ++ b)
  each_append [] b p q = q
  each_append (c ∷ a) b p q = (p.0, each_append a b p.1 q)

  pub each_map : (Q : A → Type 0) → ((c : A) → P c → Q c) → (l : List A) → Each P l → Each Q l
  each_map Q f [] p = tt
  each_map Q f (c ∷ l) p = (f c p.0, each_map Q f l p.1)

-- The number that characters spell in a base, v being spelled before them; `worth` is what one character counts.
abbrev pub spelled : ℕ → (ℕ → ℕ) → ℕ → List ℕ → ℕ
spelled base worth v [] = v
spelled base worth v (c ∷ l) = spelled base worth (base * v + worth c) l

abbrev pub decimal_value : List ℕ → ℕ
decimal_value l = spelled 10 (λ c. c - 48) 0 l

abbrev pub hex_worth : ℕ → ℕ
hex_worth c = cond (ltb c 58) (c - 48) (c - 87)

abbrev pub hex_value : List ℕ → ℕ
hex_value l = spelled 16 hex_worth 0 l

spelled_last : (base : ℕ) (worth : ℕ → ℕ) (v : ℕ) (l : List ℕ) (c : ℕ) → spelled base worth v (l ++ c ∷ []) ≡ base * spelled base worth v l + worth c
spelled_last base worth v [] c = refl
spelled_last base worth v (b ∷ l) c = spelled_last base worth (base * v + worth b) l c

-- 0 to 9; 0 to 9 or a to f; what separates fields and lines is neither
abbrev pub Digit : ℕ → Type 0
Digit c = (48 ≤ c) × (c ≤ 57)

abbrev pub HexDigit : ℕ → Type 0
HexDigit c = Digit c ⊎ ((97 ≤ c) × (c ≤ 102))

abbrev pub Plain : ℕ → Type 0
Plain c = (c ≢ space) × (c ≢ newline)

-- Decimal.
module _ (k x : ℕ) where
  abbrev longer : List ℕ
  longer = digits k (x / 10) ++ (48 + x % 10) ∷ []

  abbrev shorter : List ℕ
  shorter = (48 + x) ∷ []

  -- what is true of one digit and of one digit more is true of a number's digits
  one_more : (P : List ℕ → Type 0) → (x < 10 → P shorter) → (10 ≤ x → P longer) → P (digits (suc k) x)
  unfolding digits
  one_more P one more = choose P (ltb x 10) shorter longer (λ t. one (ltb→lt x 10 t)) (λ d. more (nltb→le x 10 (not_T (ltb x 10) d)))

digits_read : (k x : ℕ) → x < k → decimal_value (digits k x) ≡ x
digits_read zero x h = absurd (omega arith)
digits_read (suc k) x h = one_more k x (λ l. decimal_value l ≡ x)
    (λ l. omega arith)
    (λ l. spelled_last 10 (λ c. c - 48) 0 (digits k (x / 10)) (48 + x % 10) ∙ omega (arith, digits_read k (x / 10) (omega arith)))

digits_each : (k x : ℕ) → Each Digit (digits k x)
unfolding digits
digits_each zero x = tt
digits_each (suc k) x = one_more k x (Each Digit)
    (λ l. ((omega arith, omega arith), tt))
    (λ l. each_append Digit (digits k (x / 10)) ((48 + x % 10) ∷ []) (digits_each k (x / 10)) ((omega arith, omega arith), tt))

digits_first : (k x : ℕ) → x < k → 0 < x → 48 < get_or (digits k x) 0 0
digits_first zero x h p = absurd (omega arith)
digits_first (suc k) x h p = one_more k x (λ l. 48 < get_or l 0 0) (λ l. omega arith) (λ l. kept (digits k (x / 10)) (digits_first k (x / 10) (omega arith) (omega arith)))
  where
    kept : (l : List ℕ) → 48 < get_or l 0 0 → 48 < get_or (l ++ (48 + x % 10) ∷ []) 0 0
    kept [] h = absurd (omega arith)
    kept (c ∷ l) h = h

digits_length : (k m x : ℕ) → 0 < m → x < 10 ^ m → length (digits k x) ≤ m
unfolding digits
digits_length zero m x p h = omega arith
digits_length (suc k) zero x p h = absurd (omega arith)
digits_length (suc k) (suc m) x p h = one_more k x (λ l. length l ≤ suc m) (λ l. omega arith) (λ l. rw length-append (go m h l (digits_length k m (x / 10))))
  where
    go : (m : ℕ) → x < 10 ^ suc m → 10 ≤ x → (0 < m → x / 10 < 10 ^ m → length (digits k (x / 10)) ≤ m) → length (digits k (x / 10)) + 1 ≤ suc m
    go zero h l later = absurd (omega arith)
    go (suc m) h l later = omega (arith, later (omega arith) (omega (arith, pow-succ' 10 (suc m))))

pub decimal_read : (x : ℕ) → decimal_value (decimal x) ≡ x
decimal_read x = digits_read (suc x) x (omega arith)

pub decimal_each : (x : ℕ) → Each Digit (decimal x)
decimal_each x = digits_each (suc x) x

-- no zero stands before other digits
pub decimal_first : (x : ℕ) → get_or (decimal x) 0 0 ≡ 48 → x ≡ 0
decimal_first x e = elim (split 0 x) [ inl h ↦ absurd (omega (arith, digits_first (suc x) x (omega arith) h)) | inr h ↦ omega arith ]

pub decimal_zero : decimal 0 ≡ 48 ∷ []
unfolding digits
decimal_zero = refl

pub decimal_length : (m x : ℕ) → 0 < m → x < 10 ^ m → length (decimal x) ≤ m
decimal_length m x = digits_length (suc x) m x

-- Hexadecimal.
hex_digit_reads : (x : ℕ) → x < 16 → (hex_worth (hex_digit x) ≡ x) × HexDigit (hex_digit x)
hex_digit_reads x h = choose_cond Right (ltb x 10) (48 + x) (87 + x) (λ t. low (ltb→lt x 10 t)) (λ d. high (nltb→le x 10 (not_T (ltb x 10) d)))
  where
    Right : ℕ → Type 0
    Right c = (hex_worth c ≡ x) × HexDigit c

    low : x < 10 → Right (48 + x)
    low l = (
      choose_cond (λ (v : ℕ). v ≡ x) (ltb (48 + x) 58) (48 + x - 48) (48 + x - 87) (λ t. omega arith) (λ d. absurd (d (lt→ltb (48 + x) 58 (omega arith)))),
      inl (omega arith, omega arith),
    )

    high : 10 ≤ x → Right (87 + x)
    high l = (
      choose_cond (λ (v : ℕ). v ≡ x) (ltb (87 + x) 58) (87 + x - 48) (87 + x - 87) (λ t. absurd (omega (arith, ltb→lt (87 + x) 58 t))) (λ d. omega arith),
      inr (omega arith, omega arith),
    )

pub hex_length : (k x : ℕ) → length (hex k x) ≡ k
unfolding hex
hex_length zero x = refl
hex_length (suc k) x = length-append (hex k (x / 16)) (hex_digit (x % 16) ∷ []) ∙ omega (arith, hex_length k (x / 16))

pub hex_each : (k x : ℕ) → Each HexDigit (hex k x)
unfolding hex
hex_each zero x = tt
hex_each (suc k) x = each_append HexDigit (hex k (x / 16)) (hex_digit (x % 16) ∷ []) (hex_each k (x / 16)) ((hex_digit_reads (x % 16) (omega arith)).1, tt)

pub hex_read : (k x : ℕ) → x < 16 ^ k → hex_value (hex k x) ≡ x
unfolding hex
hex_read zero x h = omega arith
hex_read (suc k) x h =
    spelled_last 16 hex_worth 0 (hex k (x / 16)) (hex_digit (x % 16))
    ∙ omega (arith, hex_read k (x / 16) (omega (arith, pow-succ' 16 k)), (hex_digit_reads (x % 16) (omega arith)).0)

-- Neither has a space or a newline.
pub decimal_plain : (x : ℕ) → Each Plain (decimal x)
decimal_plain x = each_map Digit Plain (λ c d. (λ e. omega arith, λ e. omega arith)) (decimal x) (decimal_each x)

pub hex_plain : (k x : ℕ) → Each Plain (hex k x)
hex_plain k x = each_map HexDigit Plain (λ c d. elim d [ inl r ↦ (λ e. omega arith, λ e. omega arith) | inr r ↦ (λ e. omega arith, λ e. omega arith) ]) (hex k x) (hex_each k x)
