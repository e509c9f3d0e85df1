-- What a reader of a list of bytes answers, and how readers are put in sequence.
use Rattle.std.specs.Prelude.{ℕ, Bool, true, false, List}

-- the value read and the bytes after it, or the number and the place of the refusal
pub data Outcome (A : Type 0) : Type 0 where
  ok : A → List ℕ → Outcome A
  refused : ℕ → ℕ → Outcome A

module _ {A B : Type 0} where
  -- the first reader, and on what it leaves the second: "The earliest fault in reading order decides"
  unfoldable pub and_then : Outcome A → (A → List ℕ → Outcome B) → Outcome B
  and_then (ok a l) f = f a l
  and_then (refused n p) f = refused n p

module _ {A : Type 0} where
  -- the outcome m where the test holds, and else the refusal n at p
  unfoldable pub check : Bool → ℕ → ℕ → Outcome A → Outcome A
  check true n p m = m
  check false n p m = refused n p

  -- a refusal is moved to the place p
  unfoldable pub placed : ℕ → Outcome A → Outcome A
  placed p (ok a l) = ok a l
  placed p (refused n q) = refused n p

  -- it is no refusal
  unfoldable pub Readable : Outcome A → Type 0
  Readable (ok a l) = Unit {0}
  Readable (refused n p) = ⊥

  -- the value read, or z of a refusal
  unfoldable pub value_or : A → Outcome A → A
  value_or z (ok a l) = a
  value_or z (refused n p) = z
