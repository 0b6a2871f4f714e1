-- The bytes of a description that keeps some of the switches and cables.
use mathlib.Core.Path.{◌≡◌, refl, ap, ◌∙◌}
use mathlib.Core.Logic.{◌⊎◌, inl, inr}
use mathlib.Core.List.{List, ◌++◌}
use Prim.Native.Nat.{ℕ, suc, zero, ◌+◌, ◌*◌, ◌/◌, ◌%◌, ◌<◌}
use native.Mathlib.Nat.{add-zero}
use native.Mathlib.Omega.{arith}
use lib.ListN.{get_or, length, length-append, get_or-append}
use lib.Seq.{get_or-append-add}
use lib.Dec.{lit<}
use Rattle.topology_rules.specs.Format.{be16, switch_count, cable_count, uid_at, hosts_at, end_switch, end_port}
use Rattle.topology_rules.specs.Edit.{header, switch_record, cable_record, records, part}
use Rattle.topology_rules.proofs.Tests.{split}
use Rattle.topology_rules.proofs.Records.{Found, records_length, records_at}

pub switch_byte : (d : List ℕ) (i b : ℕ) → b < 8 → get_or (switch_record d i) b 0 ≡ get_or d (9 + 8 * i + b) 0
switch_byte d i zero h = rw add-zero refl
switch_byte d i (suc zero) h = refl
switch_byte d i (suc (suc zero)) h = refl
switch_byte d i (suc (suc (suc zero))) h = refl
switch_byte d i (suc (suc (suc (suc zero)))) h = refl
switch_byte d i (suc (suc (suc (suc (suc zero))))) h = refl
switch_byte d i (suc (suc (suc (suc (suc (suc zero)))))) h = refl
switch_byte d i (suc (suc (suc (suc (suc (suc (suc zero))))))) h = refl
switch_byte d i (suc (suc (suc (suc (suc (suc (suc (suc b)))))))) h = absurd (omega arith)

module _ (d ss cs : List ℕ) (new_position : ℕ → ℕ) where
  abbrev new : List ℕ
  new = part d ss cs new_position

  abbrev front : List ℕ
  front = header (length ss) (length cs)

  abbrev middle : List ℕ
  middle = records (switch_record d) ss

  abbrev rest : List ℕ
  rest = records (cable_record d new_position) cs

  middle_length : length middle ≡ 8 * length ss
  middle_length = records_length (switch_record d) 8 (λ i. refl) ss

  pub part_length : length new ≡ 9 + 8 * length ss + 4 * length cs
  unfolding part
  part_length = length-append front (middle ++ rest) ∙ omega (arith, length-append middle rest, middle_length, records_length (cable_record d new_position) 4 (λ c. refl) cs)

  pub part_switches : switch_count new ≡ length ss
  unfolding part
  part_switches = omega arith

  pub part_cables : cable_count new ≡ length cs
  unfolding part
  part_cables = omega arith

  byte_at : (j b : ℕ) → j < length ss → b < 8 → get_or new (9 + 8 * j + b) 0 ≡ get_or d (9 + 8 * get_or ss j 0 + b) 0
  unfolding part
  byte_at j b h l =
      let at : 9 + 8 * j + b ≡ length front + (8 * j + b) = omega arith in
      ap (λ (k : ℕ). get_or new k 0) at ∙ get_or-append-add front (middle ++ rest) (8 * j + b) 0
      ∙ get_or-append middle rest 0 (8 * j + b) (omega (arith, middle_length))
      ∙ records_at (switch_record d) 8 (λ i. refl) ss j b h l ∙ switch_byte d (get_or ss j 0) b l

  byte : (j b x y : ℕ) → j < length ss → b < 8 → x ≡ 9 + 8 * j + b → y ≡ 9 + 8 * get_or ss j 0 + b → get_or new x 0 ≡ get_or d y 0
  byte j b x y h l e f = rw (e, f) (byte_at j b h l)

  two : (j b x y : ℕ) → j < length ss → b < 7 → x ≡ 9 + 8 * j + b → y ≡ 9 + 8 * get_or ss j 0 + b → be16 new x ≡ be16 d y
  two j b x y h l e f = omega (arith, byte j b x y h (omega arith) e f, byte j (b + 1) (x + 1) (y + 1) h (omega arith) (omega arith) (omega arith))

  pub part_uid : (j : ℕ) → j < length ss → uid_at new j ≡ uid_at d (get_or ss j 0)
  part_uid j h =
      let x = 9 + 8 * j in
      let y = 9 + 8 * get_or ss j 0 in
      omega (arith, two j 0 x y h (lit< tt) (omega arith) (omega arith), two j 2 (x + 2) (y + 2) h (lit< tt) refl refl, two j 4 (x + 4) (y + 4) h (lit< tt) refl refl)

  pub part_hosts : (j : ℕ) → j < length ss → hosts_at new j ≡ hosts_at d (get_or ss j 0)
  part_hosts j h = two j 6 (15 + 8 * j) (15 + 8 * get_or ss j 0) h (lit< tt) (omega arith) (omega arith)

  cable_byte : (c b : ℕ) → c < length cs → b < 4 → get_or new (9 + 8 * length ss + 4 * c + b) 0 ≡ get_or (cable_record d new_position (get_or cs c 0)) b 0
  unfolding part
  cable_byte c b h l =
      let at : 9 + 8 * length ss + 4 * c + b ≡ length front + (length middle + (4 * c + b)) = omega (arith, middle_length) in
      ap (λ (k : ℕ). get_or new k 0) at ∙ get_or-append-add front (middle ++ rest) (length middle + (4 * c + b)) 0
      ∙ get_or-append-add middle rest (4 * c + b) 0 ∙ records_at (cable_record d new_position) 4 (λ c. refl) cs c b h l

  -- the end of d that end e was
  abbrev pub was : ℕ → ℕ
  was e = 2 * get_or cs (e / 2) 0 + e % 2

  abbrev Ends : ℕ → Type 0
  Ends e = (end_switch new e ≡ new_position (end_switch d (was e))) × (end_port new e ≡ end_port d (was e))

  pub part_end : (e : ℕ) → e < 2 * length cs → Ends e
  part_end e h = go (parity e)
    where
      parity : (e : ℕ) → (e % 2 ≡ 0) ⊎ (e % 2 ≡ 1)
      parity e = elim (split (e % 2) 1) [ inl l ↦ inl (omega arith) | inr l ↦ inr (omega arith) ]

      at : (b x : ℕ) → x ≡ 9 + 8 * length ss + 4 * (e / 2) + b → b < 4 → get_or new x 0 ≡ get_or (cable_record d new_position (get_or cs (e / 2) 0)) b 0
      at b x f l = rw f (cable_byte (e / 2) b (omega arith) l)

      start : ℕ
      start = 9 + 8 * switch_count new

      starts : start ≡ 9 + 8 * length ss
      starts = omega (arith, part_switches)

      go : (e % 2 ≡ 0) ⊎ (e % 2 ≡ 1) → Ends e
      go (inl z) =
          let same : was e ≡ 2 * get_or cs (e / 2) 0 = omega arith in
          rw same (at 0 (start + 2 * e) (omega (arith, starts)) (lit< tt), at 1 (start + 2 * e + 1) (omega (arith, starts)) (lit< tt))
      go (inr z) =
          let same : was e ≡ 2 * get_or cs (e / 2) 0 + 1 = omega arith in
          rw same (at 2 (start + 2 * e) (omega (arith, starts)) (lit< tt), at 3 (start + 2 * e + 1) (omega (arith, starts)) (lit< tt))

  -- a record of d that stands in the list stands there as it was, its switches where they now are
  pub part_switch : (x at : ℕ) → Found x ss at → (uid_at new at ≡ uid_at d x) × (hosts_at new at ≡ hosts_at d x)
  part_switch x at (h, e) = (part_uid at h ∙ ap (uid_at d) e, part_hosts at h ∙ ap (hosts_at d) e)

  pub part_cable : (x at b : ℕ) → Found x cs at → b < 2
      → (end_switch new (2 * at + b) ≡ new_position (end_switch d (2 * x + b))) × (end_port new (2 * at + b) ≡ end_port d (2 * x + b))
  part_cable x at b (h, s) l =
      let e = 2 * at + b in
      let half : e / 2 ≡ at = omega arith in
      let same : was e ≡ 2 * x + b = ap (λ (k : ℕ). 2 * get_or cs k 0 + e % 2) half ∙ omega (arith, s) in
      let q = part_end e (omega arith) in
      (q.0 ∙ ap (λ (k : ℕ). new_position (end_switch d k)) same, q.1 ∙ ap (end_port d) same)
