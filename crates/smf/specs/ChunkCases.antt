-- Document 02's request 3 on examples: a piece laid out with a longer header and with chunks of other tags before, between and after
-- its tracks, and files that are refused.
use Rattle.std.specs.Prelude.{ℕ, List, [], ◌∷◌, ◌++◌}
use Rattle.event.specs.Event.{Event, end_track}
use Rattle.event.specs.Number.{w1}
use Rattle.event.specs.Spelling.{Spelling, length_in}
use Rattle.smf.specs.Division.{pulses}
use Rattle.smf.specs.Piece.{Piece}
use Rattle.smf.specs.Chunk.{header_tag, Chunk}
use Rattle.smf.specs.Spelling.{PieceSpelling}
use Rattle.smf.specs.Slips.{RefusedFile}

-- ---- a piece with chunks everywhere

-- End_track at once, and its spelling
abbrev silent : List Event
silent = record { time = 0; kind = end_track } ∷ []

abbrev plain : List Spelling
plain = record { delta = w1; rest = length_in w1 } ∷ []

-- two tracks of it
abbrev pub chunk_piece : Piece
chunk_piece = record { format = 1; division = pulses 96; tracks = silent ∷ silent ∷ [] }

-- a chunk XFIH of one byte, and "a second MThd" of none
abbrev own_chunk : Chunk
own_chunk = record { tag = 0x58464948; holds = 0xFF ∷ [] }

abbrev second_header : Chunk
second_header = record { tag = header_tag; holds = [] }

-- two extra bytes in the header, both chunks before track 1, one between the tracks, one after the last
abbrev pub chunk_spelling : PieceSpelling
chunk_spelling =
    record {
      extra = 0x12 ∷ 0x34 ∷ [];
      tracks = record { before = own_chunk ∷ second_header ∷ []; events = plain } ∷ record { before = second_header ∷ []; events = plain } ∷ [];
      behind = own_chunk ∷ [];
    }

-- its bytes, by hand
abbrev header : ℕ → ℕ → List ℕ
header size count = 0x4D ∷ 0x54 ∷ 0x68 ∷ 0x64 ∷ 0x00 ∷ 0x00 ∷ 0x00 ∷ size ∷ 0x00 ∷ 0x01 ∷ 0x00 ∷ count ∷ 0x00 ∷ 0x60 ∷ []

abbrev track : List ℕ
track = 0x4D ∷ 0x54 ∷ 0x72 ∷ 0x6B ∷ 0x00 ∷ 0x00 ∷ 0x00 ∷ 0x04 ∷ 0x00 ∷ 0xFF ∷ 0x2F ∷ 0x00 ∷ []

abbrev own : ℕ → List ℕ
own size = 0x58 ∷ 0x46 ∷ 0x49 ∷ 0x48 ∷ 0x00 ∷ 0x00 ∷ 0x00 ∷ size ∷ []

abbrev second : List ℕ
second = 0x4D ∷ 0x54 ∷ 0x68 ∷ 0x64 ∷ 0x00 ∷ 0x00 ∷ 0x00 ∷ 0x00 ∷ []

abbrev pub chunk_file : List ℕ
chunk_file =
    header 8 2 ++ (0x12 ∷ 0x34 ∷ (own 1 ++ (0xFF ∷ (second ++ (track ++ (second ++ (track ++ (own 1 ++ (0xFF ∷ [])))))))))

-- ---- refusals

-- a good file of one track, and the beginning of a track that has one byte more than there are
abbrev good : List ℕ
good = header 6 1 ++ track

abbrev overlong : List ℕ
overlong = 0x4D ∷ 0x54 ∷ 0x72 ∷ 0x6B ∷ 0x00 ∷ 0x00 ∷ 0x00 ∷ 0x01 ∷ []

-- the table: the header, then where a track must begin, then after the last track
abbrev pub chunk_refusals : List RefusedFile
chunk_refusals =
    -- "3 at 4 only for a length under 6"; "next, before the format, 2 at 0 for a header past the end"; then the format
    record { file = header 5 1 ++ track; number = 3; place = 4 }
    ∷ record { file = 0x4D ∷ 0x54 ∷ 0x68 ∷ 0x64 ∷ 0x00 ∷ 0x00 ∷ 0x00 ∷ 0x07 ∷ 0x00 ∷ 0x09 ∷ 0x00 ∷ 0x01 ∷ 0x00 ∷ 0x60 ∷ []; number = 2; place = 0 }
    ∷ record { file = 0x4D ∷ 0x54 ∷ 0x68 ∷ 0x64 ∷ 0x00 ∷ 0x00 ∷ 0x00 ∷ 0x07 ∷ 0x00 ∷ 0x09 ∷ 0x00 ∷ 0x01 ∷ 0x00 ∷ 0x60 ∷ 0x00 ∷ []; number = 3; place = 8 }
    -- nothing left after a chunk, under 8 left, a chunk and a track past the end
    ∷ record { file = header 6 1 ++ (own 1 ++ (0xFF ∷ [])); number = 2; place = 23 }
    ∷ record { file = header 6 1 ++ (own 0 ++ (0x4D ∷ 0x54 ∷ 0x72 ∷ 0x6B ∷ 0x00 ∷ 0x00 ∷ 0x00 ∷ [])); number = 2; place = 22 }
    ∷ record { file = header 6 1 ++ own 1; number = 2; place = 14 }
    ∷ record { file = header 6 1 ++ (own 0 ++ overlong); number = 2; place = 22 }
    -- a track inside a chunk is none
    ∷ record { file = header 6 1 ++ (own 12 ++ track); number = 2; place = 34 }
    -- "1 to 7 left bytes, whatever they are, are 2"
    ∷ record { file = good ++ (0xFF ∷ []); number = 2; place = 26 }
    ∷ record { file = good ++ (0x4D ∷ 0x54 ∷ 0x72 ∷ 0x6B ∷ 0x00 ∷ 0x00 ∷ 0x00 ∷ []); number = 2; place = 26 }
    -- "a further MTrk is 13, fitting or not", behind a chunk too
    ∷ record { file = good ++ track; number = 13; place = 26 }
    ∷ record { file = good ++ overlong; number = 13; place = 26 }
    ∷ record { file = good ++ (own 0 ++ overlong); number = 13; place = 34 }
    -- "another chunk that doesn't fit is 2"
    ∷ record { file = good ++ (second ++ own 1); number = 2; place = 34 }
    ∷ []
