-- Document 02's request 6 on examples: divisions of both kinds with their 16 bits, at the ends of their ranges, bits that are of neither
-- kind, and files with them.
use Rattle.std.specs.Prelude.{◌≡◌, ℕ, true, false, List, [], ◌∷◌}
use Rattle.event.specs.Event.{end_track}
use Rattle.smf.specs.Division.{Division, pulses, frames, bits, division_of, division_ok}
use Rattle.smf.specs.Piece.{Piece}
use Rattle.smf.specs.Slips.{RefusedFile}

-- 16 bits, and the division that they are
pub record DivisionCase : Type 0 where
  pub sixteen : ℕ
  pub division : Division

-- each division has its bits, and is read from them
unfoldable pub AllDivisions : List DivisionCase → Type 0
AllDivisions [] = Unit {0}
AllDivisions (x ∷ xs) =
    (bits x.division ≡ x.sixteen) × (division_ok x.sixteen ≡ true) × (division_of x.sixteen ≡ x.division) × AllDivisions xs

-- each is refused
unfoldable pub NoDivisions : List ℕ → Type 0
NoDivisions [] = Unit {0}
NoDivisions (n ∷ ns) = (division_ok n ≡ false) × NoDivisions ns

-- "E7 28 is −6360": 25 frames of 40 ticks; 29 is E3h, and 1Dh a number of pulses
abbrev pub divisions : List DivisionCase
divisions =
    record { sixteen = 0x0001; division = pulses 1 }
    ∷ record { sixteen = 0x1D28; division = pulses 7464 }
    ∷ record { sixteen = 0x7FFF; division = pulses 32767 }
    ∷ record { sixteen = 0xE201; division = frames 30 1 }
    ∷ record { sixteen = 0xE3FF; division = frames 29 255 }
    ∷ record { sixteen = 0xE728; division = frames 25 40 }
    ∷ record { sixteen = 0xE8FF; division = frames 24 255 }
    ∷ []

-- no pulses, no ticks, the rates 128, 31, 26, 23 and 1, and more than 16 bits
abbrev pub neither : List ℕ
neither = 0x0000 ∷ 0xE700 ∷ 0x8028 ∷ 0xE128 ∷ 0xE628 ∷ 0xE928 ∷ 0xFF28 ∷ 0x10000 ∷ 0x10060 ∷ []

-- ---- files

-- a piece of one track with End_track alone, and its file, with the two bytes of its division
abbrev pub film_piece : Division → Piece
film_piece d = record { format = 0; division = d; tracks = (record { time = 0; kind = end_track } ∷ []) ∷ [] }

abbrev pub film_file : ℕ → ℕ → List ℕ
film_file high low =
    0x4D ∷ 0x54 ∷ 0x68 ∷ 0x64 ∷ 0x00 ∷ 0x00 ∷ 0x00 ∷ 0x06 ∷ 0x00 ∷ 0x00 ∷ 0x00 ∷ 0x01 ∷ high ∷ low
    ∷ 0x4D ∷ 0x54 ∷ 0x72 ∷ 0x6B ∷ 0x00 ∷ 0x00 ∷ 0x00 ∷ 0x04 ∷ 0x00 ∷ 0xFF ∷ 0x2F ∷ 0x00 ∷ []

-- "3 at 12": no pulses, no ticks, 26 frames
abbrev pub division_refusals : List RefusedFile
division_refusals =
    record { file = film_file 0x00 0x00; number = 3; place = 12 }
    ∷ record { file = film_file 0xE7 0x00; number = 3; place = 12 }
    ∷ record { file = film_file 0xE6 0x28; number = 3; place = 12 }
    ∷ []
