-- What is wrong, in words.
use Rattle.std.specs.Prelude.{ℕ, List, codes}
use Rattle.topology.specs.declared.refusal.Reason.{Reason}
use Rattle.topology.specs.declared.refusal.Reason.TheVariants.{Short, Mark, Version, SwitchCount, CableCount, Length, Uid, Hosts, EndSwitch, EndPort, OneSwitch, PortTaken, NoSuchUid, OnlySwitch, NoCable, LittleRoom, Unsound, NoSuchPlace, BadAddress, ChannelEmpty, PortForbidden, ChannelTaken}

abbrev pub words : Reason → List ℕ
words Short = codes "fewer than 9 bytes"
words Mark = codes "it does not open with UDR"
words Version = codes "the version is not 1"
words SwitchCount = codes "no switch, or more than 64"
words CableCount = codes "more than 384 cables"
words Length = codes "the length is not 9 + 8 S + 4 L"
words Uid = codes "a UID of 0, or one that an earlier record has"
words Hosts = codes "a host at port 0 or above port 12"
words EndSwitch = codes "a cable end at a switch that is not there"
words EndPort = codes "a cable end at port 0 or above port 12"
words OneSwitch = codes "a cable with both ends on one switch"
words PortTaken = codes "a cable end at a host's port, or at one that an earlier cable uses"
words NoSuchUid = codes "no switch has that UID"
words OnlySwitch = codes "it is the only switch"
words NoCable = codes "no cable at that port"
words LittleRoom = codes "the lent output is too short"
words Unsound = codes "the rehearsal's record is not sound"
words NoSuchPlace = codes "no such switch number or channel"
words BadAddress = codes "no good address"
words ChannelEmpty = codes "the channel is empty"
words PortForbidden = codes "the entry does not allow that port, or it has no cable"
words ChannelTaken = codes "the next channel is taken"
