-- A file is made of chunks: a tag of four bytes, a 32-bit length, and so many bytes.
use Rattle.std.specs.Prelude.{◌≡◌, ℕ, ◌≤◌, List, [], ◌∷◌, length}
use Rattle.event.specs.Bytes.{Bytes}

-- "`MThd`", its four bytes as a number
abbrev pub header_tag : ℕ
header_tag = 0x4D546864

-- "`MTrk`"
abbrev pub track_tag : ℕ
track_tag = 0x4D54726B

-- a chunk that is no track: its tag as a number, and what it holds
pub record Chunk : Type 0 where
  pub tag : ℕ
  pub holds : List ℕ

-- "a chunk with any other tag (a second MThd too)": four bytes other than MTrk, and bytes whose number fits 32 bits
pub record Passed (c : Chunk) : Type 0 where
  pub other : c.tag ≡ track_tag → ⊥
  pub tag : c.tag ≤ 4294967295
  pub short : length c.holds ≤ 4294967295
  pub inside : Bytes c.holds

-- each of them
unfoldable pub AllPassed : List Chunk → Type 0
AllPassed [] = Unit {0}
AllPassed (c ∷ cs) = Passed c × AllPassed cs
