-- Bytes written into a lent buffer at a place.
use Rattle.std.specs.Prelude.{◌≡◌, ℕ, ◌+◌, List, length}
use Rattle.std.proofs.lemmas.List.Edits.{sets}

-- old with the bytes from the place at on, one after the other; what would stand past the end is dropped
abbrev pub overwrite : List ℕ → ℕ → List ℕ → List ℕ
overwrite old at bytes = sets old at bytes

-- new is old with the bytes at the place at, and next is the place after them
pub record Written (old : List ℕ) (at : ℕ) (bytes new : List ℕ) (next : ℕ) : Type 0 where
  pub contents : new ≡ overwrite old at bytes
  pub place : next ≡ at + length bytes
