-- The causes: those of a station among them, their numbers and their names.
use Rattle.std.specs.Prelude.{ℕ, List, codes}
use Rattle.station_core.specs.declared.refused.Refused.{Refused}
use Rattle.station_core.specs.declared.refused.Refused.TheVariants as station
use Rattle.segment_law.specs.declared.refusal.Refusal.{Refusal}
use Rattle.segment_law.specs.declared.refusal.Refusal.TheVariants.{IdTooLarge, DataTooLong, BadPgn, WrongPacket, ClockEnd, TxFull, BusFull, TableFull, LaneFull, PgnTaken, PortsFull, NoSuchPort, BadAddresses, NoSuchStation, TooShort, TooLong, SameStation, NothingToTake, NothingToRepeat, NothingDue, NothingToSend, NotYet, StationAddress, RingFull, TraceFull, ClientsFull, PortPaused, PortNotPaused, PiecesDontJoin, NotThisSegment}

-- a station's cause, as one of the segment
abbrev pub cause_of : Refused → Refusal
cause_of station.NoSuchStation = NoSuchStation
cause_of station.SameStation = SameStation
cause_of station.TooShort = TooShort
cause_of station.TooLong = TooLong
cause_of station.LaneFull = LaneFull
cause_of station.PortsFull = PortsFull
cause_of station.NoSuchPort = NoSuchPort
cause_of station.PortPaused = PortPaused
cause_of station.PortNotPaused = PortNotPaused
cause_of station.NothingToSend = NothingToSend
cause_of station.NotYet = NotYet
cause_of station.NothingDue = NothingDue
cause_of station.TxFull = TxFull

abbrev pub refusal_number : Refusal → ℕ
refusal_number IdTooLarge = 1
refusal_number DataTooLong = 2
refusal_number BadPgn = 3
refusal_number WrongPacket = 4
refusal_number ClockEnd = 5
refusal_number TxFull = 6
refusal_number BusFull = 7
refusal_number TableFull = 8
refusal_number LaneFull = 9
refusal_number PgnTaken = 10
refusal_number PortsFull = 11
refusal_number NoSuchPort = 12
refusal_number BadAddresses = 13
refusal_number NoSuchStation = 14
refusal_number TooShort = 15
refusal_number TooLong = 16
refusal_number SameStation = 17
refusal_number NothingToTake = 18
refusal_number NothingToRepeat = 19
refusal_number NothingDue = 20
refusal_number NothingToSend = 21
refusal_number NotYet = 22
refusal_number StationAddress = 23
refusal_number RingFull = 24
refusal_number TraceFull = 25
refusal_number ClientsFull = 26
refusal_number PortPaused = 27
refusal_number PortNotPaused = 28
refusal_number PiecesDontJoin = 29
refusal_number NotThisSegment = 30

abbrev pub refusal_name : Refusal → List ℕ
refusal_name IdTooLarge = codes "IdTooLarge"
refusal_name DataTooLong = codes "DataTooLong"
refusal_name BadPgn = codes "BadPgn"
refusal_name WrongPacket = codes "WrongPacket"
refusal_name ClockEnd = codes "ClockEnd"
refusal_name TxFull = codes "TxFull"
refusal_name BusFull = codes "BusFull"
refusal_name TableFull = codes "TableFull"
refusal_name LaneFull = codes "LaneFull"
refusal_name PgnTaken = codes "PgnTaken"
refusal_name PortsFull = codes "PortsFull"
refusal_name NoSuchPort = codes "NoSuchPort"
refusal_name BadAddresses = codes "BadAddresses"
refusal_name NoSuchStation = codes "NoSuchStation"
refusal_name TooShort = codes "TooShort"
refusal_name TooLong = codes "TooLong"
refusal_name SameStation = codes "SameStation"
refusal_name NothingToTake = codes "NothingToTake"
refusal_name NothingToRepeat = codes "NothingToRepeat"
refusal_name NothingDue = codes "NothingDue"
refusal_name NothingToSend = codes "NothingToSend"
refusal_name NotYet = codes "NotYet"
refusal_name StationAddress = codes "StationAddress"
refusal_name RingFull = codes "RingFull"
refusal_name TraceFull = codes "TraceFull"
refusal_name ClientsFull = codes "ClientsFull"
refusal_name PortPaused = codes "PortPaused"
refusal_name PortNotPaused = codes "PortNotPaused"
refusal_name PiecesDontJoin = codes "PiecesDontJoin"
refusal_name NotThisSegment = codes "NotThisSegment"
