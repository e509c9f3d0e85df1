-- "Its answer there is one 64-bit number: number·2^56 + place·2^28 + length."
use Rattle.std.specs.Prelude.{◌≡◌, ℕ, ◌+◌, ◌*◌, ◌/◌, ◌%◌, ◌^◌}
use Rattle.smf.specs.declared.Answer.{Answer}

-- the 64-bit number of an answer
abbrev pub packed : Answer → ℕ
packed a = a.number * 2 ^ 56 + a.place * 2 ^ 28 + a.length

-- the parts of an exported number, as the header's NOFERKASH_NUMBER, NOFERKASH_PLACE and NOFERKASH_LENGTH take them
abbrev pub number_of : ℕ → ℕ
number_of r = r / 2 ^ 56

-- bits 28 to 55
abbrev pub place_of : ℕ → ℕ
place_of r = r / 2 ^ 28 % 2 ^ 28

-- bits 0 to 27
abbrev pub length_of : ℕ → ℕ
length_of r = r % 2 ^ 28

-- the exported number r says the answer a
pub record Says (r : ℕ) (a : Answer) : Type 0 where
  pub number : number_of r ≡ a.number
  pub place : place_of r ≡ a.place
  pub length : length_of r ≡ a.length
