-- Document 02, wish 4: "the bytes written for the least and the greatest number of each size", and for one number between, as in
-- "the standard's table, whose twelve rows show four sizes".
use Rattle.std.specs.Prelude.{◌≡◌, ℕ, List, [], ◌∷◌}
use Rattle.event_write.specs.Head.{fewest}

-- a number, and the bytes written for it
pub data Row : Type 0 where
  row : ℕ → List ℕ → Row

-- `fewest` is what the contract of `put_number` says is written
unfoldable pub AllWritten : List Row → Type 0
AllWritten [] = Unit {0}
AllWritten (row number bytes ∷ rows) = (fewest number ≡ bytes) × AllWritten rows

-- three rows for each size: its least number, one between, its greatest
abbrev pub sizes : List Row
sizes =
    row 0 (0x00 ∷ [])
    ∷ row 64 (0x40 ∷ [])
    ∷ row 127 (0x7f ∷ [])
    ∷ row 128 (0x81 ∷ 0x00 ∷ [])
    ∷ row 8192 (0xc0 ∷ 0x00 ∷ [])
    ∷ row 16383 (0xff ∷ 0x7f ∷ [])
    ∷ row 16384 (0x81 ∷ 0x80 ∷ 0x00 ∷ [])
    ∷ row 1048576 (0xc0 ∷ 0x80 ∷ 0x00 ∷ [])
    ∷ row 2097151 (0xff ∷ 0xff ∷ 0x7f ∷ [])
    ∷ row 2097152 (0x81 ∷ 0x80 ∷ 0x80 ∷ 0x00 ∷ [])
    ∷ row 134217728 (0xc0 ∷ 0x80 ∷ 0x80 ∷ 0x00 ∷ [])
    ∷ row 268435455 (0xff ∷ 0xff ∷ 0xff ∷ 0x7f ∷ [])
    ∷ []
