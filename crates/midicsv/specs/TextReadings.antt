-- Texts and what reading them answers: document 01's worked example, and each refusal of a text with what comes before it.
use Rattle.std.specs.Prelude.{◌≡◌, ℕ, List, [], ◌∷◌, ◌++◌}
use Rattle.event.specs.Event.{key_signature, flats, unknown_meta, text, end_track}
use Rattle.event.specs.Outcome.{Outcome, ok, refused}
use Rattle.smf.specs.Division.{pulses, frames}
use Rattle.smf.specs.DivisionCases.{film_piece}
use Rattle.smf.specs.Piece.{Piece}
use Rattle.smf.specs.Example.{example_piece}
use Rattle.midicsv.specs.Field.{bytes}
use Rattle.midicsv.specs.Example.{example_text}
use Rattle.midicsv.specs.PieceOfText.{piece_of_text}

-- a text, and what reading it answers
pub record TextReading : Type 0 where
  pub source : List ℕ
  pub answer : Outcome Piece

-- every text of the list has its answer
unfoldable pub AllAnswered : List TextReading → Type 0
AllAnswered [] = Unit {0}
AllAnswered (x ∷ xs) = (piece_of_text x.source ≡ x.answer) × AllAnswered xs

-- its piece
abbrev reads : List ℕ → Piece → TextReading
reads s p = record { source = s; answer = ok p [] }

-- the number and the line
abbrev refuses : List ℕ → ℕ → ℕ → TextReading
refuses s n line = record { source = s; answer = refused n line }

-- names in any case, blanks, −0, "minor", octal, comments, CR before LF, no LF at the end
abbrev other_text : List ℕ
other_text =
    bytes "; by hand\n0,0,header,1,1,0000000096\r\n\t1 , -0,START_TRACK\n1,0,Key_signature, -3, \"minor\"\n\n1,0,text_T,\"\\101\\\\\"\"\"\n1,268435455,Unknown_meta_event,96,1,255\n1,268435455,End_track\n0,0,End_of_file"

-- and its piece
abbrev other_piece : Piece
other_piece =
    record {
      format = 1;
      division = pulses 96;
      tracks =
          (record { time = 0; kind = key_signature (flats 3) 1 }
          ∷ record { time = 0; kind = text 1 (65 ∷ 92 ∷ 34 ∷ []) }
          ∷ record { time = 268435455; kind = unknown_meta 96 (255 ∷ []) }
          ∷ record { time = 268435455; kind = end_track }
          ∷ []) ∷ [];
    }

-- the text of a piece of one track with End_track alone, with this field for its division
abbrev pub film_text : List ℕ → List ℕ
film_text field = bytes "0, 0, Header, 0, 1, " ++ (field ++ bytes "\n1, 0, Start_track\n1, 0, End_track\n0, 0, End_of_file\n")

-- the table
abbrev pub text_readings : List TextReading
text_readings =
    reads example_text example_piece
    ∷ reads other_text other_piece
    -- "E7 28 is −6360"; the least and the greatest field of each kind
    ∷ reads (film_text (bytes "-6360")) (film_piece (frames 25 40))
    ∷ reads (film_text (bytes "-7679")) (film_piece (frames 30 1))
    ∷ reads (film_text (bytes "-7169")) (film_piece (frames 29 255))
    ∷ reads (film_text (bytes "-5889")) (film_piece (frames 24 255))
    ∷ reads (film_text (bytes "1")) (film_piece (pulses 1))
    ∷ reads (film_text (bytes "32767")) (film_piece (pulses 32767))
    -- of neither kind: the bits themselves, one that only wraps to 96, −0, no ticks, a rate of 26, beyond each end
    ∷ refuses (film_text (bytes "59176")) 25 1
    ∷ refuses (film_text (bytes "-65440")) 25 1
    ∷ refuses (film_text (bytes "-0")) 25 1
    ∷ refuses (film_text (bytes "0")) 25 1
    ∷ refuses (film_text (bytes "-6400")) 25 1
    ∷ refuses (film_text (bytes "-6616")) 25 1
    ∷ refuses (film_text (bytes "-5888")) 25 1
    ∷ refuses (film_text (bytes "-7680")) 25 1
    ∷ refuses (film_text (bytes "32768")) 25 1
    ∷ refuses (film_text (bytes "-32768")) 25 1
    ∷ refuses (film_text (bytes "-32769")) 25 1
    -- "Empty text: 28 at 1"; lines that are passed over are counted, CR alone is a blank line
    ∷ refuses [] 28 1
    ∷ refuses (bytes "\n# a comment\n \t\n") 28 4
    ∷ refuses (bytes "\r") 28 2
    ∷ refuses (bytes "0, 0, Header, 0, 1, 96") 28 2
    ∷ refuses (bytes "-0, 0, Header, 0, 1, 96\n") 28 2
    -- 22, over all fields and before 23 and 24
    ∷ refuses (bytes "\r\r") 22 1
    ∷ refuses (bytes "0, 0, Header, \"x") 22 1
    ∷ refuses (bytes "0, 0, Headers, , ") 22 1
    ∷ refuses (bytes "0, 0, Header, 0, 1, 96,") 22 1
    ∷ refuses (bytes "0, 0, Header, 0, 1, 4294967296") 22 1
    ∷ refuses (bytes "0, 0, Header, 0, 1, 00000000096") 22 1
    ∷ refuses (bytes "+1") 22 1
    ∷ refuses (bytes "1, 0, Text_t, \"a\" b") 22 1
    ∷ refuses (bytes "1, 0, Text_t, \"\\400\"") 22 1
    ∷ refuses (bytes "1, 0, Text_t, \"a\rb\"") 22 1
    -- 24 if under three, 23, 24
    ∷ refuses (bytes "0, 0") 24 1
    ∷ refuses (bytes "0, 0, Headers") 23 1
    ∷ refuses (bytes "0, 0, 1") 23 1
    ∷ refuses (bytes "0, 0, \"Header\"") 23 1
    ∷ refuses (bytes "0, 0, Header, 0, 1") 24 1
    -- 24 and 25 of a Length
    ∷ refuses (bytes "1, 0, System_exclusive") 24 1
    ∷ refuses (bytes "1, 0, System_exclusive, -1") 25 1
    ∷ refuses (bytes "1, 0, System_exclusive, 2, 300") 24 1
    ∷ refuses (bytes "99999, 0, Sequencer_specific, 0, 1") 24 1
    ∷ refuses (bytes "1, 0, System_exclusive, 1, 300") 25 1
    -- 25
    ∷ refuses (bytes "-1, 0, Header, 0, 1, 96") 25 1
    ∷ refuses (bytes "65536, 0, Start_track") 25 1
    ∷ refuses (bytes "0, 0, Header, 0, 2, 96") 25 1
    ∷ refuses (bytes "1, 0, Key_signature, 0, \"Major\"") 25 1
    ∷ refuses (bytes "1, 0, Key_signature, -8, \"major\"") 25 1
    ∷ refuses (bytes "1, 0, Unknown_meta_event, 47, 0") 25 1
    ∷ refuses (bytes "1, 0, Unknown_meta_event, 128, 0") 25 1
    -- 26, then 27
    ∷ refuses (bytes "0, 1, Header, 0, 1, 96") 26 1
    ∷ refuses (bytes "1, 0, Unknown_meta_event, 96, 0") 26 1
    ∷ refuses (example_text ++ bytes "0, 0, End_of_file") 26 8
    ∷ refuses (bytes "0, 0, Header, 1, 1, 96\n0, 0, End_of_file") 26 2
    ∷ refuses (bytes "0, 0, Header, 1, 1, 96\n1, 0, Start_track\n1, 5, Tempo, 1\n1, 4, End_track") 26 4
    ∷ refuses (bytes "0, 0, HEADER, 1, 1, 96\r\n 1 ,0, start_Track\n1, 268435456, End_track") 27 3
    ∷ []
