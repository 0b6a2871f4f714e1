-- What an edit keeps leaves one description: `Keeps` settles every byte behind mark and version.
use mathlib.Core.Path.{◌≡◌, sym, ap, ◌∙◌}
use mathlib.Core.Logic.{inl, inr}
use mathlib.Core.List.{List}
use Prim.Native.Nat.{ℕ, suc, zero, ◌+◌, ◌*◌, ◌-◌, ◌/◌, ◌%◌, ◌≤◌, ◌<◌}
use native.Mathlib.Omega.{arith}
use lib.ListN.{get_or, length}
use lib.Seq.{ext_get_or}
use Rattle.topology_rules.specs.Format.{Bytes, version_of, switch_count, cable_count, cables_at, uid_at, hosts_at, end_switch, end_port}
use Rattle.topology_rules.specs.Accepted.{Accepted, Marked}
use Rattle.topology_rules.specs.EditRules.{Lists, Keeps}
use Rattle.topology_rules.proofs.Tests.{split, compare}
use Rattle.topology_rules.proofs.Fields.{byte, two_same, six_same}

-- exactly the same numbers, both times in ascending order
module _ (k : ℕ) (P : ℕ → Type 0) where
  ordered : (l : List ℕ) → Lists k P l → (i j : ℕ) → i ≤ j → j < length l → get_or l i 0 ≤ get_or l j 0
  ordered l x i j h g = elim (split i j) [ inl s ↦ omega (arith, x.ascending i j s g) | inr s ↦ let e : i ≡ j = omega arith in omega (arith, byte l e) ]

  -- a number stands in one place
  place_once : (l : List ℕ) → Lists k P l → (i j : ℕ) → i < length l → j < length l → get_or l i 0 ≡ get_or l j 0 → i ≡ j
  place_once l x i j h g e = elim (compare i j) [
    | inl s ↦ s
    | inr (inl s) ↦ absurd (omega (arith, x.ascending i j s g))
    | inr (inr s) ↦ absurd (omega (arith, x.ascending j i s h))
  ]

  -- at each place of l there is a number of m, and no higher one
  no_higher : (l m : List ℕ) → Lists k P l → Lists k P m → (j : ℕ) → j < length l → (j < length m) × (get_or m j 0 ≤ get_or l j 0)
  no_higher l m x y zero h = let (i, g, e) = y.all (get_or l 0 0) (x.each 0 h).0 (x.each 0 h).1 in (omega arith, omega (arith, ordered m y 0 i (omega arith) g))
  no_higher l m x y (suc j) h = go (y.all v (x.each (suc j) h).0 (x.each (suc j) h).1) (no_higher l m x y j (omega arith))
    where
      v : ℕ
      v = get_or l (suc j) 0

      go : (i : ℕ) × (i < length m) × (get_or m i 0 ≡ v) → (j < length m) × (get_or m j 0 ≤ get_or l j 0) → (suc j < length m) × (get_or m (suc j) 0 ≤ v)
      go (i, g, e) (b, low) = elim (split j i) [
        | inl s ↦ (omega arith, omega (arith, ordered m y (suc j) i s g))
        | inr s ↦ absurd (omega (arith, ordered m y i j s b, x.ascending j (suc j) (omega arith) h))
      ]

  no_longer : (l m : List ℕ) → Lists k P l → Lists k P m → length l ≤ length m
  no_longer l m x y = elim (split (length m) (length l)) [ inl h ↦ absurd (omega (arith, (no_higher l m x y (length m) h).0)) | inr h ↦ h ]

  pub lists_once : (l m : List ℕ) → Lists k P l → Lists k P m → l ≡ m
  lists_once l m x y = ext_get_or 0 l m (omega (arith, no_longer l m x y, no_longer m l y x)) (λ j h.
      let (g, low) = no_higher l m x y j h in
      omega (arith, (no_higher m l y x j g).1))

module _ (d a b : List ℕ) (Switch Cable : ℕ → Type 0) (p : Bytes a) (q : Bytes b) (x : Keeps d a Switch Cable) (y : Keeps d b Switch Cable) where
  same_switches : x.switches ≡ y.switches
  same_switches = lists_once (switch_count d) Switch x.switches y.switches x.kept_switches y.kept_switches

  same_cables : x.cables ≡ y.cables
  same_cables = lists_once (cable_count d) Cable x.cables y.cables x.kept_cables y.kept_cables

  abbrev Same : ℕ → Type 0
  Same i = get_or a i 0 ≡ get_or b i 0

  counts : (switch_count a ≡ switch_count b) × (cable_count a ≡ cable_count b)
  counts = (x.switch_total ∙ ap length same_switches ∙ sym y.switch_total, x.cable_total ∙ ap length same_cables ∙ sym y.cable_total)

  header_same : Marked a → Marked b → version_of a ≡ 1 → version_of b ≡ 1 → (i : ℕ) → i < 9 → Same i
  header_same m n v w = each (two_same a b p q 0 0 3 (v ∙ sym w)) (two_same a b p q 0 0 5 counts.0) (two_same a b p q 0 0 7 counts.1)
    where
      each : Same 3 × Same 4 → Same 5 × Same 6 → Same 7 × Same 8 → (i : ℕ) → i < 9 → Same i
      each v s l zero h = m.letter_u ∙ sym n.letter_u
      each v s l (suc zero) h = m.letter_d ∙ sym n.letter_d
      each v s l (suc (suc zero)) h = m.letter_r ∙ sym n.letter_r
      each v s l (suc (suc (suc zero))) h = v.0
      each v s l (suc (suc (suc (suc zero)))) h = v.1
      each v s l (suc (suc (suc (suc (suc zero))))) h = s.0
      each v s l (suc (suc (suc (suc (suc (suc zero)))))) h = s.1
      each v s l (suc (suc (suc (suc (suc (suc (suc zero))))))) h = l.0
      each v s l (suc (suc (suc (suc (suc (suc (suc (suc zero)))))))) h = l.1
      each v s l (suc (suc (suc (suc (suc (suc (suc (suc (suc i))))))))) h = absurd (omega arith)

  switch_same : (j k : ℕ) → j < length x.switches → k < 8 → Same (9 + 8 * j + k)
  switch_same j k h l = elim (split k 6) [
    | inl s ↦ (six_same a b p q at at).0 (x.uids j h ∙ ap (λ l. uid_at d (get_or l j 0)) same_switches ∙ sym (y.uids j g)) k s
    | inr s ↦ hosts s (two_same a b p q at at 6 (rw at_hosts at (x.hosts j h ∙ ap (λ l. hosts_at d (get_or l j 0)) same_switches ∙ sym (y.hosts j g))))
  ]
    where
      at : ℕ
      at = 9 + 8 * j

      at_hosts : 15 + 8 * j ≡ at + 6
      at_hosts = omega arith

      g : j < length y.switches
      g = rw same_switches at h

      hosts : 6 ≤ k → Same (at + 6) × Same (at + 7) → Same (at + k)
      hosts s w = elim (split k 7) [ inl t ↦ let e : k ≡ 6 = omega arith in rw e w.0 | inr t ↦ let e : k ≡ 7 = omega arith in rw e w.1 ]

  end_same : (c e : ℕ) → c < length x.cables → e < 2 → (end_switch a (2 * c + e) ≡ end_switch b (2 * c + e)) × (end_port a (2 * c + e) ≡ end_port b (2 * c + e))
  end_same c e h l = (
    place_once (switch_count d) Switch x.switches x.kept_switches (end_switch a (2 * c + e)) (end_switch b (2 * c + e)) (x.end_there c e h l)
        (rw same_switches (y.end_there c e g l))
        (x.end_switch_kept c e h l ∙ ap (λ l. end_switch d (2 * get_or l c 0 + e)) same_cables ∙ sym (y.end_switch_kept c e g l) ∙ ap (λ l. get_or l (end_switch b (2 * c + e)) 0) (sym same_switches)),
    x.end_port_kept c e h l ∙ ap (λ l. end_port d (2 * get_or l c 0 + e)) same_cables ∙ sym (y.end_port_kept c e g l),
  )
    where
      g : c < length y.cables
      g = rw same_cables at h

  cable_same : (r : ℕ) → r < 4 * length x.cables → Same (cables_at a + r)
  cable_same r h = elim (split (r % 2) 1) [
    | inl s ↦ byte a (omega arith) ∙ ends.0 ∙ byte b (omega (arith, counts.0))
    | inr s ↦ byte a (omega arith) ∙ ends.1 ∙ byte b (omega (arith, counts.0))
  ]
    where
      e : ℕ
      e = 2 * (r / 4) + r % 4 / 2

      ends : (end_switch a e ≡ end_switch b e) × (end_port a e ≡ end_port b e)
      ends = end_same (r / 4) (r % 4 / 2) (omega arith) (omega arith)

  -- the mark and the version are all that is wanted beside
  pub kept_once : Marked a → Marked b → version_of a ≡ 1 → version_of b ≡ 1 → a ≡ b
  kept_once m n v w = ext_get_or 0 a b (omega (arith, x.size, y.size, ap length same_switches, ap length same_cables)) (λ i h. elim (split i 9) [
    | inl s ↦ header_same m n v w i s
    | inr s ↦ elim (split i (cables_at a)) [
      | inl t ↦
          let e : i ≡ 9 + 8 * ((i - 9) / 8) + (i - 9) % 8 = omega arith in
          rw e (switch_same ((i - 9) / 8) ((i - 9) % 8) (omega (arith, x.switch_total)) (omega arith))
      | inr t ↦ let e : i ≡ cables_at a + (i - cables_at a) = omega arith in rw e (cable_same (i - cables_at a) (omega (arith, x.size, x.switch_total)))
    ]
  ])

pub keeps_once : (d a b : List ℕ) (Switch Cable : ℕ → Type 0) → Accepted a → Accepted b → Bytes a → Bytes b → Keeps d a Switch Cable → Keeps d b Switch Cable → a ≡ b
keeps_once d a b Switch Cable s t p q x y = kept_once d a b Switch Cable p q x y s.marked t.marked s.version t.version
