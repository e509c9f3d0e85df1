-- The first line of what is left of a text.
use Rattle.std.specs.Prelude.{◌≡◌, ℕ, ◌-◌, ◌<◌, ◌≤◌, List, ◌∷◌, length, take, drop}
use Rattle.midicsv.specs.Lines.{lines_of}

-- from the place i on the first line goes to end, and the lines after it begin at next
pub record CutAt (s : List ℕ) (i end next : ℕ) : Type 0 where
  pub lines : lines_of (drop i s) ≡ take (end - i) (drop i s) ∷ lines_of (drop next s)
  pub low : i ≤ end
  pub high : end ≤ length s
  pub past : end ≤ next
  pub more : i < next
  pub most : next ≤ length s
