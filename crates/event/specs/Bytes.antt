-- Bytes, and numbers of a fixed count of bytes, "high byte first".
use Rattle.std.specs.Prelude.{ℕ, zero, suc, ◌+◌, ◌*◌, ◌/◌, ◌%◌, ◌<◌, List, [], ◌∷◌}

-- every element is a byte, 0..255
abbrev pub Bytes : List ℕ → Type 0
Bytes [] = Unit {0}
Bytes (b ∷ l) = (b < 256) × Bytes l

-- k bytes hold the numbers below this
abbrev pub below : ℕ → ℕ
below zero = 1
below (suc k) = 256 * below k

-- the k lowest bytes of n, high byte first, and the bytes l after them
unfoldable pub bytes_onto : ℕ → ℕ → List ℕ → List ℕ
bytes_onto zero n l = l
bytes_onto (suc k) n l = bytes_onto k (n / 256) (n % 256 ∷ l)

-- n as k bytes, "high byte first"
unfoldable pub big_endian : ℕ → ℕ → List ℕ
big_endian k n = bytes_onto k n []

-- the number whose bytes these are, after bytes that gave acc
unfoldable pub horner : ℕ → List ℕ → ℕ
horner acc [] = acc
horner acc (b ∷ l) = horner (acc * 256 + b) l

-- the number whose bytes these are, "high byte first"
unfoldable pub number : List ℕ → ℕ
number l = horner 0 l
