-- Each promise leaves one outcome: answers with the same numbers and values are the same.
use Prim.Native.Nat.{ℕ, ◌-◌, ◌<◌}
use mathlib.Core.List.{List, [], ◌∷◌}
use mathlib.Core.Path.{◌≡◌, refl, sym, ap, ap₂, ◌∙◌}
use native.Mathlib.Omega.{arith}
use lib.ListN.{get_or}
use lib.Dec.{lit<}
use Rattle.topology_rules.specs.Check.{verdict}
use Rattle.topology_rules.specs.Answers.{Outcome}
use Rattle.topology_rules.specs.Edit.{find_reply, retire, pull}
use Rattle.topology.specs.Reasons.{number_of, refusal_of, verdict_of, reply_of}
use Rattle.topology.specs.declared.refusal.Reason.{Reason}
use Rattle.topology.specs.declared.refusal.Reason.TheVariants.{Short, Mark, Version, SwitchCount, CableCount, Length, Uid, Hosts, EndSwitch, EndPort, OneSwitch, PortTaken, NoSuchUid, OnlySwitch, NoCable, LittleRoom, Unsound, NoSuchPlace, BadAddress, ChannelEmpty, PortForbidden, ChannelTaken}
use Rattle.topology.specs.declared.refusal.Refusal.{Refusal}
use Rattle.std.specs.Prelude.{Option, Some, None, SomeIff, Result, Ok, Err, IfOk, IfErr, OkIff}

-- the reasons in the order of their numbers
all : List Reason
all = Short ∷ Mark ∷ Version ∷ SwitchCount ∷ CableCount ∷ Length ∷ Uid ∷ Hosts ∷ EndSwitch ∷ EndPort ∷ OneSwitch ∷ PortTaken
    ∷ NoSuchUid ∷ OnlySwitch ∷ NoCable ∷ LittleRoom ∷ Unsound ∷ NoSuchPlace ∷ BadAddress ∷ ChannelEmpty ∷ PortForbidden ∷ ChannelTaken ∷ []

reason_of : ℕ → Reason
unfolding all
reason_of k = get_or all (k - 1) Short

named : (r : Reason) → (reason_of (number_of r) ≡ r) × (0 < number_of r)
unfolding reason_of all
named Short = (refl, lit< tt)
named Mark = (refl, lit< tt)
named Version = (refl, lit< tt)
named SwitchCount = (refl, lit< tt)
named CableCount = (refl, lit< tt)
named Length = (refl, lit< tt)
named Uid = (refl, lit< tt)
named Hosts = (refl, lit< tt)
named EndSwitch = (refl, lit< tt)
named EndPort = (refl, lit< tt)
named OneSwitch = (refl, lit< tt)
named PortTaken = (refl, lit< tt)
named NoSuchUid = (refl, lit< tt)
named OnlySwitch = (refl, lit< tt)
named NoCable = (refl, lit< tt)
named LittleRoom = (refl, lit< tt)
named Unsound = (refl, lit< tt)
named NoSuchPlace = (refl, lit< tt)
named BadAddress = (refl, lit< tt)
named ChannelEmpty = (refl, lit< tt)
named PortForbidden = (refl, lit< tt)
named ChannelTaken = (refl, lit< tt)

-- two reasons differ in their numbers, which are above 0
pub one_number : (r q : Reason) → number_of r ≡ number_of q → r ≡ q
one_number r q e = sym (named r).0 ∙ ap reason_of e ∙ (named q).0

pub some_number : (r : Reason) → 0 < number_of r
some_number r = (named r).1

-- refusals with the same number and position are the same
pub refusal_once : (r q : Refusal) → refusal_of r ≡ refusal_of q → r ≡ q
refusal_once r q e = ap₂ (λ (k : Reason) (i : ℕ). record { reason = k; position = i }) (one_number r.reason q.reason (ap (λ v. v.number) e)) (ap (λ v. v.position) e)

-- Two answers that say the same are the same.
pub reply_once : (r q : Result ℕ Refusal) → reply_of r ≡ reply_of q → r ≡ q
reply_once (Ok i) (Ok j) e = cc
reply_once (Ok i) (Err q) e = absurd cc
reply_once (Err r) (Ok j) e = absurd cc
reply_once (Err r) (Err q) e = ap Err (refusal_once r q cc)

-- Two answers with one verdict are one where what they hold is.
verdict_once : {A : Type 0} (r q : Result A Refusal) → ((x y : A) → r ≡ Ok x → q ≡ Ok y → x ≡ y) → verdict_of r ≡ verdict_of q → r ≡ q
verdict_once (Ok n) (Ok m) same e = ap Ok (same n m refl refl)
verdict_once (Ok n) (Err q) same e = absurd (omega (arith, some_number q.reason, ap (λ v. v.number) e))
verdict_once (Err r) (Ok m) same e = absurd (omega (arith, some_number r.reason, ap (λ v. v.number) e))
verdict_once (Err r) (Err q) same e = ap Err (refusal_once r q e)

-- those of checking hold nothing
pub checked_once : (r q : Result (Unit {0}) Refusal) → verdict_of r ≡ verdict_of q → r ≡ q
checked_once r q e = verdict_once r q (λ x y p s. refl) e

-- So each public operation's promise allows one outcome.
pub check_once : (d : List ℕ) (r q : Result (Unit {0}) Refusal) → verdict_of r ≡ verdict d → verdict_of q ≡ verdict d → r ≡ q
check_once d r q e f = checked_once r q (e ∙ sym f)

-- what reading a net promises: the verdict, and the net that is the description
abbrev Reads : List ℕ → Result (List ℕ) Refusal → Type 0
Reads d r = (verdict_of r ≡ verdict d) × IfOk r (λ n. n ≡ d)

pub net_once : (d : List ℕ) (r q : Result (List ℕ) Refusal) → Reads d r → Reads d q → r ≡ q
net_once d r q (e, f) (g, h) = verdict_once r q (λ x y p s. let k = rw p at f in let l = rw s at h in k ∙ sym l) (e ∙ sym g)

-- What a net answers of a switch or a channel: what the rules say, where there is such a one.
pub there_once : (P : Type 0) (v : ℕ) (r q : Option ℕ) → SomeIff r P v → SomeIff q P v → r ≡ q
there_once P v (Some i) (Some j) a b = ap Some (a.1 ∙ sym b.1)
there_once P v (Some i) None a b = absurd (b a.0)
there_once P v None (Some j) a b = absurd (a b.0)
there_once P v None None a b = refl

-- What a search promises: the number, or its one error.
pub search_once : (P : Type 0) (v : ℕ) (k : Reason) (r q : Result ℕ Reason) → OkIff r P v → IfErr r (λ j. j ≡ k) → OkIff q P v → IfErr q (λ j. j ≡ k) → r ≡ q
search_once P v k (Ok i) (Ok j) a e b f = ap Ok (a.1 ∙ sym b.1)
search_once P v k (Ok i) (Err j) a e b f = absurd (b a.0)
search_once P v k (Err i) (Ok j) a e b f = absurd (a b.0)
search_once P v k (Err i) (Err j) a e b f = ap Err (e ∙ sym f)

pub find_once : (d : List ℕ) (u : ℕ) (r q : Result ℕ Refusal) → reply_of r ≡ find_reply d u → reply_of q ≡ find_reply d u → r ≡ q
find_once d u r q e f = reply_once r q (e ∙ sym f)

-- what an edit's promise says of its answer and of the output afterwards
abbrev Edits : Outcome → Result ℕ Refusal → List ℕ → Type 0
Edits o r out = (reply_of r ≡ o.reply) × (out ≡ o.out)

pub edit_once : (o : Outcome) (r q : Result ℕ Refusal) (x y : List ℕ) → Edits o r x → Edits o q y → (r ≡ q) × (x ≡ y)
edit_once o r q x y (e, f) (g, h) = (reply_once r q (e ∙ sym g), f ∙ sym h)

pub retire_once : (d : List ℕ) (u : ℕ) (out : List ℕ) (r q : Result ℕ Refusal) (x y : List ℕ) → Edits (retire d u out) r x → Edits (retire d u out) q y → (r ≡ q) × (x ≡ y)
retire_once d u out = edit_once (retire d u out)

pub pull_once : (d : List ℕ) (u p : ℕ) (out : List ℕ) (r q : Result ℕ Refusal) (x y : List ℕ) → Edits (pull d u p out) r x → Edits (pull d u p out) q y → (r ≡ q) × (x ≡ y)
pull_once d u p out = edit_once (pull d u p out)
