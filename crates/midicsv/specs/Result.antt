-- What reading a line answers, and its tests put in sequence: "The earliest fault in reading order decides."
use Rattle.std.specs.Prelude.{ℕ, Bool, true, false}

-- a value, or the number of the refusal; its place is the line
pub data Result (A : Type 0) : Type 0 where
  good : A → Result A
  bad : ℕ → Result A

module _ {A B : Type 0} where
  -- the first, and with its value the second
  unfoldable pub next : Result A → (A → Result B) → Result B
  next (good a) f = f a
  next (bad n) f = bad n

module _ {A : Type 0} where
  -- m where the test holds, and else the refusal n
  unfoldable pub test : Bool → ℕ → Result A → Result A
  test true n m = m
  test false n m = bad n
