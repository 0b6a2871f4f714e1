-- The laws of descriptions on one page. Packing.antt has those of answers as one number, Cases.antt the examples.
use mathlib.Core.Path.{◌≡◌, refl, ap, ◌∙◌}
use mathlib.Core.Logic.{◌⊎◌, inl, inr, ◌↔◌, ◌≢◌}
use mathlib.Core.Bool.{not}
use mathlib.Core.List.{List}
use Prim.Native.Nat.{ℕ, suc, ◌+◌, ◌*◌, ◌^◌, ◌≤◌, ◌<◌}
use native.Mathlib.Omega.{arith}
use lib.ListN.{get_or, length, take, drop}
use lib.Dec.{T}
use Rattle.topology_rules.specs.Count.{bit, those}
use Rattle.topology_rules.specs.Format.{Bytes, version_of, switch_count, cable_count, size_for, uid_at, hosts_at, end_switch, end_port}
use Rattle.topology_rules.specs.Check.{Verdict, accepted, verdict}
use Rattle.topology_rules.specs.Accepted.{Accepted}
use Rattle.topology_rules.specs.Net.{WellFormed, net_of, number_at, target, in_port, host}
use Rattle.topology_rules.specs.Refusals.{Earlier, Returned, Wrong}
use Rattle.topology_rules.specs.Answers.{done, refused, Outcome, outcome}
use Rattle.topology_rules.specs.Edit.{find, cable_of, fall, clear, clear_cables, retired, pulled, retire_verdict, pull_verdict, retire, pull}
use Rattle.topology_rules.specs.EditRules.{Keeps, Named, CableAt, RetireWrong, PullWrong}
use Rattle.topology_rules.proofs.Tests.{split}
use Rattle.topology_rules.proofs.Channels.{back_first, back_second}
use Rattle.topology_rules.proofs.Firsts.{earlier_irreflexive, earlier_transitive, earlier_total, returned_once}
use Rattle.topology_rules.proofs.Returns.{verdict_returned}
use Rattle.topology_rules.proofs.Small.{verdict_small}
use Rattle.topology_rules.proofs.Prefix.{prefix_enough}
use Rattle.topology_rules.proofs.Verdicts.{wrong_number, verdict_zero, verdict_rule}
use Rattle.topology_rules.proofs.Soundness.{well_formed, numbers_grow, numbers_differ}
use Rattle.topology_rules.proofs.Numbers.{number_rule}
use Rattle.topology_rules.proofs.Fields.{six_bytes, six_same, host_bytes, end_bytes}
use Rattle.topology_rules.proofs.Finding.{find_rule, found_narrow, found_once, cable_found, cable_once, cable_port}
use Rattle.topology_rules.proofs.EditReturns.{retire_returned, retire_allowed, pull_returned, pull_allowed}
use Rattle.topology_rules.proofs.Bytes.{retired_bytes, pulled_bytes}
use Rattle.topology_rules.proofs.Outcomes.{outcome_refused, outcome_done, outcome_told, onto_new, onto_rest, onto_length}
use Rattle.topology_rules.proofs.KeepsOnce.{keeps_once}
use Rattle.topology_rules.proofs.Kept.{retired_ok, retired_keeps, retired_counts, retired_length, retired_switch, retired_cable, pulled_ok, pulled_keeps, pulled_counts, pulled_length, pulled_switch, pulled_cable}

-- checking returns 0 exactly where no refusal applies
pub accepted_exactly : (d : List ℕ) → ((verdict d).number ≡ 0) ↔ Accepted d
accepted_exactly = verdict_rule

-- an accepted description's net is well formed
pub accepted_well_formed : (d : List ℕ) → (verdict d).number ≡ 0 → WellFormed (net_of d)
accepted_well_formed d e = well_formed d ((verdict_rule d).0 e)

-- Of any two refusals that differ in number or position one comes first, so what is returned is settled.
pub record OrderLaws : Type 1 where
  pub irreflexive : (k i : ℕ) → Earlier k i k i → ⊥
  pub transitive : (k i m j n l : ℕ) → Earlier k i m j → Earlier m j n l → Earlier k i n l
  pub total : (k i m j : ℕ) → ((k ≡ m) × (i ≡ j)) ⊎ (Earlier k i m j ⊎ Earlier m j k i)
  pub once : (P : ℕ → ℕ → Type 0) {v w : Verdict} → Returned P v → Returned P w → v ≡ w

pub order_laws : OrderLaws
order_laws = record {
  irreflexive = earlier_irreflexive;
  transitive = earlier_transitive;
  total = earlier_total;
  once = returned_once;
}

-- What checking, retiring and pulling return, whatever the bytes.
pub record RefusalLaws (d : List ℕ) : Type 0 where
  -- the first of 1 to 12 that applies, or 0 at position 0
  pub check : Returned (Wrong d) (verdict d)
  pub check_numbers : {k i : ℕ} → Wrong d k i → (0 < k) × (k ≤ 12)
  pub check_accepts : (verdict d).number ≡ 0 → verdict d ≡ accepted
  pub check_short : (verdict d).number ≡ 0 → length d ≤ 2057
  pub check_small : ((verdict d).number ≤ 12) × ((verdict d).position < 384)
  -- to keep 2,058 bytes of a longer input is enough
  pub check_prefix : verdict (take 2058 d) ≡ verdict d
  -- the first of the job's refusals that applies, and what 0 says
  pub retire_returns : (u room : ℕ) → Returned (RetireWrong d u room) (retire_verdict d u room)
  pub retire_accepts : (u room : ℕ) → (retire_verdict d u room).number ≡ 0
      → Accepted d × Named d u (find d u) × (1 < switch_count d) × (length (retired d (find d u)) ≤ room)
  pub pull_returns : (u p room : ℕ) → Returned (PullWrong d u p room) (pull_verdict d u p room)
  pub pull_accepts : (u p room : ℕ) → (pull_verdict d u p room).number ≡ 0
      → let c = cable_of d (find d u) p in
      Accepted d × Named d u (find d u) × CableAt d (find d u) p c × (length (pulled d c) ≤ room)

pub refusal_laws : (d : List ℕ) → RefusalLaws d
refusal_laws d = record {
  check = verdict_returned d;
  check_numbers = wrong_number d;
  check_accepts = λ e. (verdict_zero d e).0;
  check_short = λ e. let a = (verdict_rule d).0 e in omega (arith, a.size, a.few_switches, a.few_cables);
  check_small = verdict_small d;
  check_prefix = prefix_enough d;
  retire_returns = retire_returned d;
  retire_accepts = retire_allowed d;
  pull_returns = pull_returned d;
  pull_accepts = pull_allowed d;
}

-- The fields by their bytes, and the net's fields by the description's.
pub record FieldLaws (d : List ℕ) : Type 0 where
  pub version : version_of d ≡ 2 ^ 8 * get_or d 3 0 + get_or d 4 0
  pub switch_total : switch_count d ≡ 2 ^ 8 * get_or d 5 0 + get_or d 6 0
  pub cable_total : cable_count d ≡ 2 ^ 8 * get_or d 7 0 + get_or d 8 0
  -- switch record i
  pub uid : (i : ℕ) → let at = 9 + 8 * i in
      uid_at d i ≡ 2 ^ 40 * get_or d (at + 0) 0 + 2 ^ 32 * get_or d (at + 1) 0 + 2 ^ 24 * get_or d (at + 2) 0 + 2 ^ 16 * get_or d (at + 3) 0 + 2 ^ 8 * get_or d (at + 4) 0 + get_or d (at + 5) 0
  pub hosts : (i : ℕ) → let at = 9 + 8 * i in hosts_at d i ≡ 2 ^ 8 * get_or d (at + 6) 0 + get_or d (at + 7) 0
  -- two UIDs are equal exactly if all six bytes are
  pub same_uid : Bytes d → (i j : ℕ) → (uid_at d i ≡ uid_at d j) ↔ ((k : ℕ) → k < 6 → get_or d (9 + 8 * i + k) 0 ≡ get_or d (9 + 8 * j + k) 0)
  -- cable record c
  pub ends : (c : ℕ) → let at = 9 + 8 * switch_count d + 4 * c in
      (end_switch d (2 * c) ≡ get_or d at 0) × (end_port d (2 * c) ≡ get_or d (at + 1) 0) × (end_switch d (2 * c + 1) ≡ get_or d (at + 2) 0) × (end_port d (2 * c + 1) ≡ get_or d (at + 3) 0)
  -- the net
  pub net_counts : ((net_of d).switches ≡ switch_count d) × ((net_of d).channels ≡ 2 * cable_count d)
  pub net_switch : (i : ℕ) → ((net_of d).uid i ≡ uid_at d i) × ((net_of d).number i ≡ number_at d i) × ((net_of d).hosts i ≡ hosts_at d i)
  pub net_host : (i p : ℕ) → host (net_of d) i p ≡ bit (hosts_at d i) p
  -- channel 2 c leaves the first end of cable c and comes in at the second, 2 c + 1 the other way
  pub net_source : (ch : ℕ) → ((net_of d).source ch ≡ end_switch d ch) × ((net_of d).out_port ch ≡ end_port d ch)
  pub net_there : (c : ℕ) → (target (net_of d) (2 * c) ≡ end_switch d (2 * c + 1)) × (in_port (net_of d) (2 * c) ≡ end_port d (2 * c + 1))
  pub net_back : (c : ℕ) → (target (net_of d) (2 * c + 1) ≡ end_switch d (2 * c)) × (in_port (net_of d) (2 * c + 1) ≡ end_port d (2 * c))

pub field_laws : (d : List ℕ) → FieldLaws d
unfolding net_of
field_laws d = record {
  version = refl;
  switch_total = refl;
  cable_total = refl;
  uid = λ i. six_bytes d (9 + 8 * i);
  hosts = host_bytes d;
  same_uid = λ b i j. six_same d d b b (9 + 8 * i) (9 + 8 * j);
  ends = end_bytes d;
  net_counts = (refl, refl);
  net_switch = λ i. (refl, refl, refl);
  net_host = λ i p. refl;
  net_source = λ ch. (refl, refl);
  net_there = λ c. (ap (end_switch d) (back_first c), ap (end_port d) (back_first c));
  net_back = λ c. (ap (end_switch d) (back_second c), ap (end_port d) (back_second c));
}

-- A job's outcome under its verdict: refused, it tells the verdict and the output stays; done, it returns the value, and the output starts with what is new and goes on as before.
pub record OutcomeLaws (v : Verdict) (value : ℕ) (new out : List ℕ) (o : Outcome) : Type 0 where
  pub refuses : 0 < v.number → (o.reply ≡ refused v) × (o.out ≡ out)
  pub returns : v.number ≡ 0 → o.reply ≡ done value
  pub writes : v.number ≡ 0 → (take (length new) o.out ≡ new) × (drop (length new) o.out ≡ drop (length new) out)
  pub keeps_length : length o.out ≡ length out
  pub tells : (w : Verdict) → o.reply ≡ refused w → (w ≡ v) × (0 < w.number)

-- so for every job that accepts only where there is room
pub outcome_laws : (v : Verdict) (value : ℕ) (new out : List ℕ) → (v.number ≡ 0 → length new ≤ length out) → OutcomeLaws v value new out (outcome v value new out)
outcome_laws v value new out room = record {
  refuses = λ h. (ap (λ o. o.reply) (outcome_refused v value new out h), ap (λ o. o.out) (outcome_refused v value new out h));
  returns = λ e. ap (λ o. o.reply) (outcome_done v value new out e);
  writes = λ e. let o = ap (λ o. o.out) (outcome_done v value new out e) in (ap (take (length new)) o ∙ onto_new new out, ap (drop (length new)) o ∙ onto_rest new out);
  keeps_length = elim (split 0 v.number) [
    | inl h ↦ ap (λ o. length o.out) (outcome_refused v value new out h)
    | inr h ↦ let e : v.number ≡ 0 = omega arith in ap (λ o. length o.out) (outcome_done v value new out e) ∙ onto_length new out (room e)
  ];
  tells = outcome_told v value new out;
}

pub retire_outcome : (d : List ℕ) (u : ℕ) (out : List ℕ) → let new = retired d (find d u) in OutcomeLaws (retire_verdict d u (length out)) (length new) new out (retire d u out)
unfolding retire
retire_outcome d u out = outcome_laws (retire_verdict d u (length out)) _ (retired d (find d u)) out (λ e. (retire_allowed d u (length out) e).3)

pub pull_outcome : (d : List ℕ) (u p : ℕ) (out : List ℕ)
    → let new = pulled d (cable_of d (find d u) p) in
    OutcomeLaws (pull_verdict d u p (length out)) (length new) new out (pull d u p out)
unfolding pull
pull_outcome d u p out = outcome_laws (pull_verdict d u p (length out)) _ (pulled d (cable_of d (find d u) p)) out (λ e. (pull_allowed d u p (length out) e).3)

-- Of an accepted description: numbers go by UID, and a number is some switch's exactly if it is 1 to S.
pub record NumberLaws (d : List ℕ) : Type 0 where
  pub ascend : (s t : ℕ) → s < switch_count d → uid_at d s < uid_at d t → number_at d s < number_at d t
  pub differ : (s t : ℕ) → s < switch_count d → t < switch_count d → number_at d s ≡ number_at d t → s ≡ t
  pub held : (k : ℕ) → ((0 < k) × (k ≤ switch_count d)) ↔ ((i : ℕ) × (i < switch_count d) × (number_at d i ≡ k))

-- Found by all 48 bits, in one record at most; the cable at a port, one at most, and none at port 0, at a host port or above 12.
pub record FindingLaws (d : List ℕ) : Type 0 where
  pub found : (u : ℕ) → (find d u < switch_count d) ↔ ((i : ℕ) × (i < switch_count d) × (uid_at d i ≡ u))
  pub found_once : (u i : ℕ) → Named d u i → find d u ≡ i
  pub found_narrow : Bytes d → (u : ℕ) → find d u < switch_count d → u < 2 ^ 48
  pub cabled : (i p : ℕ) → (cable_of d i p < cable_count d) ↔ ((c : ℕ) × CableAt d i p c)
  pub cabled_once : (i p c : ℕ) → CableAt d i p c → cable_of d i p ≡ c
  pub cabled_port : (i p c : ℕ) → CableAt d i p c → (0 < p) × (p ≤ 12) × T (not (bit (hosts_at d i) p))

-- Without switch i: accepted, every other switch fallen to its place, exactly the cables clear of it, all in order.
pub record RetiringLaws (d : List ℕ) : Type 0 where
  pub accepts : (i : ℕ) → i < switch_count d → 1 < switch_count d → (verdict (retired d i)).number ≡ 0
  pub bytes : Bytes d → (i : ℕ) → Bytes (retired d i)
  pub keeps : (i : ℕ) → Keeps d (retired d i) (λ j. j ≢ i) (λ c. (end_switch d (2 * c) ≢ i) × (end_switch d (2 * c + 1) ≢ i))
  pub size : (i : ℕ) → i < switch_count d → 8 + length (retired d i) ≡ size_for (switch_count d) (length (clear_cables d i))
  pub counts : (i : ℕ) → i < switch_count d → (suc (switch_count (retired d i)) ≡ switch_count d) × (cable_count (retired d i) ≡ length (clear_cables d i))
  pub switch : (i x : ℕ) → x < switch_count d → x ≢ i → (uid_at (retired d i) (fall i x) ≡ uid_at d x) × (hosts_at (retired d i) (fall i x) ≡ hosts_at d x)
  pub cable : (i c b : ℕ) → c < cable_count d → T (clear d i c) → b < 2
      → let e = 2 * length (those c 0 (clear d i)) + b in
      (end_switch (retired d i) e ≡ fall i (end_switch d (2 * c + b))) × (end_port (retired d i) e ≡ end_port d (2 * c + b))

-- Without cable c: accepted, every switch as it was, exactly the other cables in order.
pub record PullingLaws (d : List ℕ) : Type 0 where
  pub accepts : (c : ℕ) → (verdict (pulled d c)).number ≡ 0
  pub bytes : Bytes d → (c : ℕ) → Bytes (pulled d c)
  pub keeps : (c : ℕ) → Keeps d (pulled d c) (λ j. Unit {0}) (λ x. x ≢ c)
  pub size : (c : ℕ) → c < cable_count d → 4 + length (pulled d c) ≡ length d
  pub counts : (c : ℕ) → c < cable_count d → (switch_count (pulled d c) ≡ switch_count d) × (suc (cable_count (pulled d c)) ≡ cable_count d)
  pub switch : (c x : ℕ) → x < switch_count d → (uid_at (pulled d c) x ≡ uid_at d x) × (hosts_at (pulled d c) x ≡ hosts_at d x)
  pub cable : (c x b : ℕ) → x < cable_count d → x ≢ c → b < 2
      → (end_switch (pulled d c) (2 * fall c x + b) ≡ end_switch d (2 * x + b)) × (end_port (pulled d c) (2 * fall c x + b) ≡ end_port d (2 * x + b))

-- what is kept settles every byte: two accepted descriptions that keep the same of d are one
pub edits_once : (d a b : List ℕ) (Switch Cable : ℕ → Type 0) → Accepted a → Accepted b → Bytes a → Bytes b → Keeps d a Switch Cable → Keeps d b Switch Cable → a ≡ b
edits_once = keeps_once

pub record DescriptionLaws (d : List ℕ) : Type 0 where
  pub numbers : NumberLaws d
  pub finding : FindingLaws d
  pub retiring : RetiringLaws d
  pub pulling : PullingLaws d

-- every accepted description has them
pub description_laws : (d : List ℕ) → (verdict d).number ≡ 0 → DescriptionLaws d
description_laws d ok = record {
  numbers = record { ascend = numbers_grow d a; differ = numbers_differ d a; held = number_rule d a };
  finding = record {
    found = find_rule d;
    found_once = λ u. found_once d u a;
    found_narrow = λ b u. found_narrow d u b;
    cabled = cable_found d;
    cabled_once = cable_once d a;
    cabled_port = cable_port d a;
  };
  retiring = record {
    accepts = λ i h l. (verdict_rule (retired d i)).1 (retired_ok d a i h l);
    bytes = retired_bytes d;
    keeps = retired_keeps d a;
    size = retired_length d;
    counts = retired_counts d;
    switch = retired_switch d;
    cable = retired_cable d;
  };
  pulling = record {
    accepts = λ c. (verdict_rule (pulled d c)).1 (pulled_ok d a c);
    bytes = pulled_bytes d;
    keeps = pulled_keeps d a;
    size = λ c h. omega (arith, pulled_length d c h, a.size);
    counts = pulled_counts d;
    switch = pulled_switch d;
    cable = pulled_cable d;
  };
}
  where
    a : Accepted d
    a = (verdict_rule d).0 ok
