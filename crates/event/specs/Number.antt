-- "A variable-length number has 1 to 4 bytes, seven bits each, high part first, top bit set on all but the last".
use Rattle.std.specs.Prelude.{ℕ, ◌+◌, ◌/◌, ◌%◌, List, [], ◌∷◌, leb}
use Rattle.event.specs.Choice.{pick}

-- how many bytes it takes
pub data Width : Type 0 where
  w1 w2 w3 w4 : Width

-- these, counted
abbrev pub bytes_in : Width → ℕ
bytes_in w1 = 1
bytes_in w2 = 2
bytes_in w3 = 3
bytes_in w4 = 4

-- the numbers that fit these bytes are those below this; "range 0..268,435,455"
abbrev pub limit : Width → ℕ
limit w1 = 128
limit w2 = 16384
limit w3 = 2097152
limit w4 = 268435456

-- its bytes; with more of them than it needs, leading ones are 80h: "Leading 80h bytes are permitted spelling"
unfoldable pub vlq : Width → ℕ → List ℕ
vlq w1 v = v ∷ []
vlq w2 v = (128 + v / 128) ∷ v % 128 ∷ []
vlq w3 v = (128 + v / 16384) ∷ (128 + v / 128 % 128) ∷ v % 128 ∷ []
vlq w4 v = (128 + v / 2097152) ∷ (128 + v / 16384 % 128) ∷ (128 + v / 128 % 128) ∷ v % 128 ∷ []

-- "Writers use the fewest bytes": four sizes, with "the bounds 127, 16,383 and 2,097,151"
unfoldable pub least : ℕ → Width
least v =
    pick (leb v 127) w1
    (pick (leb v 16383) w2
    (pick (leb v 2097151) w3
    w4))
