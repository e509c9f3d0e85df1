-- Fields: numbers, names and quoted texts; decimals and escapes.
use Rattle.std.specs.Prelude.{ℕ, zero, suc, ◌+◌, ◌/◌, ◌%◌, Bool, ◌&&◌, ◌||◌, List, [], ◌∷◌, ◌++◌, leb, ltb, eqb}
use Prim.Native.Char.{code}
use Prim.Native.String.{String, [] as []ˢ, ◌∷◌ as ◌∷ˢ◌}
use Rattle.event.specs.Choice.{pick}

-- the bytes of a text of ASCII
abbrev pub bytes : String → List ℕ
bytes []ˢ = []
bytes (c ∷ˢ s) = code c ∷ bytes s

-- "decimals without leading zeros": at most suc k digits, the last one n % 10
unfoldable pub digits_of : ℕ → ℕ → List ℕ
digits_of zero n = (48 + n) ∷ []
digits_of (suc k) n = pick (ltb n 10) ((48 + n) ∷ []) (digits_of k (n / 10) ++ ((48 + n % 10) ∷ []))

-- the numbers of a text have at most 10 digits
unfoldable pub decimal : ℕ → List ℕ
decimal n = digits_of 9 n

-- "bytes 0..31 and 127..160"
unfoldable pub in_octal : ℕ → Bool
in_octal c = ltb c 32 || (leb 127 c && leb c 160)

-- "a quote is doubled, a backslash doubled, bytes 0..31 and 127..160 become a backslash and three octal digits, others stand"
unfoldable pub escape : ℕ → List ℕ
escape c =
    pick (eqb c 34) (34 ∷ 34 ∷ [])
    (pick (eqb c 92) (92 ∷ 92 ∷ [])
    (pick (in_octal c) (92 ∷ (48 + c / 64) ∷ (48 + c / 8 % 8) ∷ (48 + c % 8) ∷ []) (c ∷ [])))

-- the same of each byte of a text
unfoldable pub escape_all : List ℕ → List ℕ
escape_all [] = []
escape_all (c ∷ d) = escape c ++ escape_all d

-- "A field is a number (optional minus ..), a name .. or a quoted text"
pub data Field : Type 0 where
  num minus : ℕ → Field
  name quoted : List ℕ → Field
