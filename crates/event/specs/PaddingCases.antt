-- Document 02's request 8 on examples: numbers and events with the bytes that they take above the fewest.
use Rattle.std.specs.Prelude.{◌≡◌, ℕ, List, [], ◌∷◌}
use Rattle.event.specs.Padding.{vlq_padding, event_padding}

-- bytes, and the padding of the number, or of the event, that they begin with
pub data PaddingCase : Type 0 where
  of_number of_event : List ℕ → ℕ → PaddingCase

unfoldable pub Pads : PaddingCase → Type 0
Pads (of_number l n) = vlq_padding l ≡ n
Pads (of_event l n) = event_padding l ≡ n

unfoldable pub AllPad : List PaddingCase → Type 0
AllPad [] = Unit {0}
AllPad (x ∷ xs) = Pads x × AllPad xs

-- "Some sequencers write 80 00 for zero"; the standard's 81 00 is 128 in the fewest bytes
abbrev pub padded_numbers : List PaddingCase
padded_numbers =
    of_number (0x00 ∷ []) 0
    ∷ of_number (0x80 ∷ 0x00 ∷ []) 1
    ∷ of_number (0x80 ∷ 0x80 ∷ 0x80 ∷ 0x00 ∷ []) 3
    ∷ of_number (0x80 ∷ 0x7f ∷ []) 1
    ∷ of_number (0x81 ∷ 0x00 ∷ []) 0
    ∷ of_number (0x80 ∷ 0x81 ∷ 0x00 ∷ []) 1
    ∷ of_number (0x81 ∷ 0x80 ∷ 0x00 ∷ []) 0
    ∷ of_number (0xff ∷ 0xff ∷ 0xff ∷ 0x7f ∷ []) 0
    ∷ of_number (0x80 ∷ 0x80 ∷ 0x80 ∷ 0x80 ∷ 0x00 ∷ []) 0
    ∷ []

-- a note with its status and without, two system exclusive events, a text, a Tempo and an End_track
abbrev pub padded_events : List PaddingCase
padded_events =
    of_event (0x80 ∷ 0x00 ∷ 0x90 ∷ 0x3c ∷ 0x40 ∷ []) 1
    ∷ of_event (0x80 ∷ 0x80 ∷ 0x60 ∷ 0x3c ∷ 0x00 ∷ []) 2
    ∷ of_event (0x00 ∷ 0xf0 ∷ 0x80 ∷ 0x80 ∷ 0x01 ∷ 0xf7 ∷ []) 2
    ∷ of_event (0x81 ∷ 0x00 ∷ 0xf7 ∷ 0x00 ∷ []) 0
    ∷ of_event (0x80 ∷ 0x00 ∷ 0xff ∷ 0x01 ∷ 0x80 ∷ 0x80 ∷ 0x80 ∷ 0x01 ∷ 0x41 ∷ []) 4
    ∷ of_event (0x00 ∷ 0xff ∷ 0x51 ∷ 0x80 ∷ 0x03 ∷ 0x0b ∷ 0x71 ∷ 0xb0 ∷ []) 1
    ∷ of_event (0x80 ∷ 0x80 ∷ 0x80 ∷ 0x00 ∷ 0xff ∷ 0x2f ∷ 0x80 ∷ 0x80 ∷ 0x80 ∷ 0x00 ∷ []) 6
    ∷ []
