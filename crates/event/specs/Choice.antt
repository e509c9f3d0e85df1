-- The choice between two values by a test.
use Rattle.std.specs.Prelude.{Bool, true, false}

module _ {A : Type 0} where
  -- the first where the test holds, and else the second
  unfoldable pub pick : Bool → A → A → A
  pick true x y = x
  pick false x y = y
