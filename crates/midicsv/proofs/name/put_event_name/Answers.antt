use Rattle.event.specs.Step.{kind_from}
use Rattle.midicsv.specs.Table.{event_spelled}
use Rattle.midicsv.specs.Record.{name_of}
use Rattle.midicsv.proofs.name.put_event_name.Goals as goal

pub returns-in-NoteOff : goal.returns-in-NoteOff
unfolding event_spelled name_of kind_from
returns-in-NoteOff c = rw c.in-NoteOff.is c.put_bytes.ensures

pub returns-in-NoteOn : goal.returns-in-NoteOn
unfolding event_spelled name_of kind_from
returns-in-NoteOn c = rw c.in-NoteOn.is c.put_bytes-in-NoteOn.ensures

pub returns-in-PolyAftertouch : goal.returns-in-PolyAftertouch
unfolding event_spelled name_of kind_from
returns-in-PolyAftertouch c = rw c.in-PolyAftertouch.is c.put_bytes-in-PolyAftertouch.ensures

pub returns-in-Control : goal.returns-in-Control
unfolding event_spelled name_of kind_from
returns-in-Control c = rw c.in-Control.is c.put_bytes-in-Control.ensures

pub returns-in-Program : goal.returns-in-Program
unfolding event_spelled name_of kind_from
returns-in-Program c = rw c.in-Program.is c.put_bytes-in-Program.ensures

pub returns-in-ChannelAftertouch : goal.returns-in-ChannelAftertouch
unfolding event_spelled name_of kind_from
returns-in-ChannelAftertouch c = rw c.in-ChannelAftertouch.is c.put_bytes-in-ChannelAftertouch.ensures

pub returns-in-PitchBend : goal.returns-in-PitchBend
unfolding event_spelled name_of kind_from
returns-in-PitchBend c = rw c.in-PitchBend.is c.put_bytes-in-PitchBend.ensures

pub returns-in-SystemExclusive : goal.returns-in-SystemExclusive
unfolding event_spelled name_of kind_from
returns-in-SystemExclusive c = rw c.in-SystemExclusive.is c.put_bytes-in-SystemExclusive.ensures

pub returns-in-SystemExclusivePacket : goal.returns-in-SystemExclusivePacket
unfolding event_spelled name_of kind_from
returns-in-SystemExclusivePacket c = rw c.in-SystemExclusivePacket.is c.put_bytes-in-SystemExclusivePacket.ensures

pub returns-in-SequenceNumber : goal.returns-in-SequenceNumber
unfolding event_spelled name_of kind_from
returns-in-SequenceNumber c = rw c.in-SequenceNumber.is c.put_bytes-in-SequenceNumber.ensures

pub returns-in-Text : goal.returns-in-Text
unfolding event_spelled name_of kind_from
returns-in-Text c = rw c.in-Text.is c.put_text_name.ensures

pub returns-in-ChannelPrefix : goal.returns-in-ChannelPrefix
unfolding event_spelled name_of kind_from
returns-in-ChannelPrefix c = rw c.in-ChannelPrefix.is c.put_bytes-in-ChannelPrefix.ensures

pub returns-in-MidiPort : goal.returns-in-MidiPort
unfolding event_spelled name_of kind_from
returns-in-MidiPort c = rw c.in-MidiPort.is c.put_bytes-in-MidiPort.ensures

pub returns-in-EndTrack : goal.returns-in-EndTrack
unfolding event_spelled name_of kind_from
returns-in-EndTrack c = rw c.in-EndTrack.is c.put_bytes-in-EndTrack.ensures

pub returns-in-Tempo : goal.returns-in-Tempo
unfolding event_spelled name_of kind_from
returns-in-Tempo c = rw c.in-Tempo.is c.put_bytes-in-Tempo.ensures

pub returns-in-SmpteOffset : goal.returns-in-SmpteOffset
unfolding event_spelled name_of kind_from
returns-in-SmpteOffset c = rw c.in-SmpteOffset.is c.put_bytes-in-SmpteOffset.ensures

pub returns-in-TimeSignature : goal.returns-in-TimeSignature
unfolding event_spelled name_of kind_from
returns-in-TimeSignature c = rw c.in-TimeSignature.is c.put_bytes-in-TimeSignature.ensures

pub returns-in-KeySignature : goal.returns-in-KeySignature
unfolding event_spelled name_of kind_from
returns-in-KeySignature c = rw c.in-KeySignature.is c.put_bytes-in-KeySignature.ensures

pub returns-in-SequencerSpecific : goal.returns-in-SequencerSpecific
unfolding event_spelled name_of kind_from
returns-in-SequencerSpecific c = rw c.in-SequencerSpecific.is c.put_bytes-in-SequencerSpecific.ensures

pub returns-in-UnknownMeta : goal.returns-in-UnknownMeta
unfolding event_spelled name_of kind_from
returns-in-UnknownMeta c = rw c.in-UnknownMeta.is c.put_bytes-in-UnknownMeta.ensures
