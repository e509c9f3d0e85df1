-- The numbers of the refusals, by document 01's table and those of the requests.
use Rattle.std.specs.Prelude.{ℕ, Result, Ok, Err}
use Rattle.event.specs.declared.refusal.Refusal.{Refusal}
use Rattle.event.specs.declared.refusal.Refusal.TheVariants.{FileTooLong, FileCutShort, BadHeader, VariableTooLong, EventCutShort, TimeTooGreat, BadStatus, BadChannelData, BadMetaLength, BadMetaValue, BytesAfterEndTrack, BytesAfterLastTrack, RoomTooSmall, TextTooLong, BadField, UnknownRecord, WrongFieldCount, FieldOutOfRange, RecordOutOfOrder, StepTooGreat, TextCutShort, WrittenTooLong, BadManner, TooManyTracks, Format2, PrefixOrPort, TooFewRows, TableTooLong}

-- the number of each
abbrev pub number_of : Refusal → ℕ
number_of FileTooLong = 1
number_of FileCutShort = 2
number_of BadHeader = 3
number_of VariableTooLong = 5
number_of EventCutShort = 6
number_of TimeTooGreat = 7
number_of BadStatus = 8
number_of BadChannelData = 9
number_of BadMetaLength = 10
number_of BadMetaValue = 11
number_of BytesAfterEndTrack = 12
number_of BytesAfterLastTrack = 13
number_of RoomTooSmall = 14
number_of TextTooLong = 21
number_of BadField = 22
number_of UnknownRecord = 23
number_of WrongFieldCount = 24
number_of FieldOutOfRange = 25
number_of RecordOutOfOrder = 26
number_of StepTooGreat = 27
number_of TextCutShort = 28
number_of WrittenTooLong = 29
number_of BadManner = 30
number_of TooManyTracks = 31
number_of Format2 = 32
number_of PrefixOrPort = 33
number_of TooFewRows = 37
number_of TableTooLong = 38

module _ {A : Type 0} where
  -- an answer with the refusal by its number
  abbrev pub numbered : Result A Refusal → Result A ℕ
  numbered (Ok a) = Ok a
  numbered (Err r) = Err (number_of r)
