-- The bytes of a part of a line: as they stand, or, in a quoted cell, two quotes as one.
use Rattle.std.specs.Prelude.{◌≡◌, ℕ, ◌-◌, ◌<◌, ◌≤◌, Bool, List, [], ◌∷◌, ◌++◌, length, get_or, take, drop, eqb}
use Rattle.event.specs.Choice.{pick}
use Rattle.sheet_table.specs.Cut.{skip_beside}

-- the byte after a quote is passed over: of bytes that stand in quotes, where quotes come in pairs
unfoldable pub singled : List ℕ → List ℕ
singled [] = []
singled (c ∷ []) = c ∷ []
singled (c ∷ d ∷ l) = pick (eqb c 34) (c ∷ singled l) (c ∷ singled (d ∷ l))

-- what is read of a part: as it stands, or with two quotes as one
unfoldable pub seen : Bool → List ℕ → List ℕ
seen twice l = pick twice (singled l) l

-- from the place a to the place b
abbrev pub slice : ℕ → ℕ → List ℕ → List ℕ
slice a b l = take (b - a) (drop a l)

-- next is the place after the byte at a place
pub record Passed (twice : Bool) (l : List ℕ) (at next : ℕ) : Type 0 where
  pub rest : seen twice (drop at l) ≡ get_or l at 0 ∷ seen twice (drop next l)
  pub later : at < next
  pub inside : next ≤ length l
  -- before the part's end the bytes passed are that one, whatever follows
  pub whole : next < length l → (m : List ℕ) → seen twice (slice at next l ++ m) ≡ get_or l at 0 ∷ seen twice m

-- b is a place that is reached byte by byte from a
pub record Reached (twice : Bool) (l : List ℕ) (a b : ℕ) : Type 0 where
  pub rest : seen twice (drop a l) ≡ seen twice (slice a b l) ++ seen twice (drop b l)
  pub later : a ≤ b
  pub inside : b ≤ length l
  pub whole : b < length l → (m : List ℕ) → seen twice (slice a b l ++ m) ≡ seen twice (slice a b l) ++ seen twice m

-- p is the place of the first byte from a place on that is no blank beside the separator, whichever way the part is read
pub record SkippedTo (sep : ℕ) (l : List ℕ) (at p : ℕ) : Type 0 where
  pub rest : (twice : Bool) → skip_beside sep (seen twice (drop at l)) ≡ seen twice (drop p l)
  pub later : at ≤ p
  pub inside : p ≤ length l
