-- "Division becomes one of two": its range, its 16 bits and its reading from bits, for a file's header and for a text's Header alike.
use Rattle.std.specs.Prelude.{◌≡◌, ℕ, ◌+◌, ◌-◌, ◌*◌, ◌/◌, ◌%◌, Bool, true, ◌&&◌, ◌||◌, leb, eqb}
use Rattle.event.specs.Choice.{pick}

-- "pulses per quarter note, or frames", so many a second, "with 1..255 ticks a frame"
pub data Division : Type 0 where
  pulses : ℕ → Division
  frames : ℕ → ℕ → Division

-- "frames (24, 25, 29, 30, ..)"
unfoldable pub rate_ok : ℕ → Bool
rate_ok rate = eqb rate 24 || (eqb rate 25 || (eqb rate 29 || eqb rate 30))

-- the range: "division 1..32767"; frames "with 1..255 ticks a frame"
unfoldable pub in_range : Division → Bool
in_range (pulses n) = leb 1 n && leb n 32767
in_range (frames rate ticks) = rate_ok rate && (leb 1 ticks && leb ticks 255)

unfoldable pub LawfulDivision : Division → Type 0
LawfulDivision d = in_range d ≡ true

-- the 16 bits: frames are "stored as a negative high byte", the ticks as the low one
unfoldable pub bits : Division → ℕ
bits (pulses n) = n
bits (frames rate ticks) = (256 - rate) * 256 + ticks

-- the division that has these bits: of frames where "the 16 bits read as signed" are below 0
unfoldable pub division_of : ℕ → Division
division_of n = pick (leb n 32767) (pulses n) (frames (256 - n / 256) (n % 256))

-- "3 at 12, and 25 for the division field, now only where it is of neither kind"
unfoldable pub division_ok : ℕ → Bool
division_ok n = in_range (division_of n)
