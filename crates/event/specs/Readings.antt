-- The starred readings of document 01, section "Readings", that are of a number or of an event.
use Rattle.std.specs.Prelude.{◌≡◌, ℕ, List, [], ◌∷◌}
use Rattle.event.specs.Outcome.{Outcome, ok, refused, and_then}
use Rattle.event.specs.Event.{Kind, pitch_bend, key_signature, flats, tempo}
use Rattle.event.specs.Frame.{no_status}
use Rattle.event.specs.Reader.{read_vlq, read_frame, kind_in}

-- bytes, and what reading them as a variable-length number, or as an event after its delta, answers
pub data Reading : Type 0 where
  of_number : List ℕ → Outcome ℕ → Reading
  of_event : List ℕ → Outcome Kind → Reading

-- reading those bytes gives that answer
unfoldable pub Holds : Reading → Type 0
Holds (of_number l a) = read_vlq l ≡ a
Holds (of_event l a) = and_then (read_frame no_status l) (λ x r. ok (kind_in x) r) ≡ a

-- "The starred cases form a single table under a single statement"
unfoldable pub AllHold : List Reading → Type 0
AllHold [] = Unit {0}
AllHold (x ∷ xs) = Holds x × AllHold xs

-- minor is 1; −3 is three flats
abbrev pub starred : List Reading
starred =
    of_number (0x00 ∷ []) (ok 0 [])
    ∷ of_number (0x7f ∷ []) (ok 127 [])
    ∷ of_number (0x81 ∷ 0x00 ∷ []) (ok 128 [])
    ∷ of_number (0xff ∷ 0x7f ∷ []) (ok 16383 [])
    ∷ of_number (0x81 ∷ 0x80 ∷ 0x00 ∷ []) (ok 16384 [])
    ∷ of_number (0xff ∷ 0xff ∷ 0xff ∷ 0x7f ∷ []) (ok 268435455 [])
    ∷ of_number (0x80 ∷ 0x00 ∷ []) (ok 0 [])
    ∷ of_number (0x80 ∷ 0x80 ∷ 0x80 ∷ 0x80 ∷ 0x00 ∷ []) (refused 5 0)
    ∷ of_event (0xe0 ∷ 0x00 ∷ 0x40 ∷ []) (ok (pitch_bend 0 8192) [])
    ∷ of_event (0xff ∷ 0x59 ∷ 0x02 ∷ 0xfd ∷ 0x01 ∷ []) (ok (key_signature (flats 3) 1) [])
    ∷ of_event (0xff ∷ 0x51 ∷ 0x03 ∷ 0x0b ∷ 0x71 ∷ 0xb0 ∷ []) (ok (tempo 750000) [])
    ∷ of_event (0xff ∷ 0x51 ∷ 0x03 ∷ 0x00 ∷ 0x00 ∷ 0x00 ∷ []) (refused 11 0)
    ∷ []
