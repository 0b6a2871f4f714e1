-- The numbers of the reasons, and what the answers say.
use Rattle.std.specs.Prelude.{ℕ, Result, Ok, Err}
use Rattle.topology_rules.specs.Check.{Verdict, refuse, accepted}
use Rattle.topology_rules.specs.Answers.{Reply, done, refused}
use Rattle.topology.specs.declared.refusal.Refusal.{Refusal}
use Rattle.topology.specs.declared.refusal.Reason.{Reason}
use Rattle.topology.specs.declared.refusal.Reason.TheVariants.{Short, Mark, Version, SwitchCount, CableCount, Length, Uid, Hosts, EndSwitch, EndPort, OneSwitch, PortTaken, NoSuchUid, OnlySwitch, NoCable, LittleRoom, Unsound, NoSuchPlace, BadAddress, ChannelEmpty, PortForbidden, ChannelTaken}

abbrev pub number_of : Reason → ℕ
number_of Short = 1
number_of Mark = 2
number_of Version = 3
number_of SwitchCount = 4
number_of CableCount = 5
number_of Length = 6
number_of Uid = 7
number_of Hosts = 8
number_of EndSwitch = 9
number_of EndPort = 10
number_of OneSwitch = 11
number_of PortTaken = 12
number_of NoSuchUid = 13
number_of OnlySwitch = 14
number_of NoCable = 15
number_of LittleRoom = 16
number_of Unsound = 17
number_of NoSuchPlace = 18
number_of BadAddress = 19
number_of ChannelEmpty = 20
number_of PortForbidden = 21
number_of ChannelTaken = 22

-- number and position of a refusal
abbrev pub refusal_of : Refusal → Verdict
refusal_of r = refuse (number_of r.reason) r.position

-- a refusal, or what comes after
abbrev pub onward : {A : Type 0} → Result A Refusal → Verdict → Verdict
onward (Ok _) rest = rest
onward (Err r) rest = refusal_of r

-- what checking answers
abbrev pub verdict_of : {A : Type 0} → Result A Refusal → Verdict
verdict_of r = onward r accepted

-- what finding, retiring and pulling answer
abbrev pub reply_of : Result ℕ Refusal → Reply
reply_of (Ok n) = done n
reply_of (Err r) = refused (refusal_of r)
