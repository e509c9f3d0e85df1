-- What a spreadsheet needs of a cell so that it stays the text that it is (docs/SPREADSHEET.md, "The sheet: what is written").
use Rattle.std.specs.Prelude.{◌≡◌, ℕ, ◌<◌, ◌≤◌, Bool, true, false, ◌||◌, List, [], ◌∷◌, length, eqb}
use Rattle.midicsv.specs.ReadField.{is_digit, is_letter, is_octal}
use Rattle.midicsv.specs.Spell.{is_solid, stands_inside, is_truth}

-- "a letter or a backslash comes first, so nothing looks like a formula, a sign or a remark"
unfoldable pub BeginsWell : List ℕ → Type 0
BeginsWell [] = Unit {0}
BeginsWell (c ∷ l) = (is_letter c || eqb c 92) ≡ true

-- after the byte before: the last byte is no comma, and if it is a blank, a letter, a mark or a digit (of an octal group) is before it
unfoldable pub EndsWell : ℕ → List ℕ → Type 0
EndsWell before [] = Unit {0}
EndsWell before (c ∷ []) = (c ≡ 44 → ⊥) × (c ≡ 32 → (is_solid before || is_digit before) ≡ true)
EndsWell before (c ∷ d ∷ l) = EndsWell c (d ∷ l)

-- "each byte either as it is or in octal": every byte is one that stands, or it is in a group of a backslash and three octal digits
pub data Grouped (stands : ℕ → Bool) : List ℕ → Type 0 where
  none : Grouped stands []
  one : {c : ℕ} {l : List ℕ} → stands c ≡ true → Grouped stands l → Grouped stands (c ∷ l)
  group : {x y z : ℕ} {l : List ℕ} → is_octal x ≡ true → is_octal y ≡ true → is_octal z ≡ true → Grouped stands l → Grouped stands (92 ∷ x ∷ y ∷ z ∷ l)

-- the cell of the text d
pub record Safe (d cell : List ℕ) : Type 0 where
  -- "a letter or a backslash comes first"
  pub begins : BeginsWell cell
  -- "A blank and a comma stand, but not as the first byte and not as the last"; nothing, 0, is before the first byte
  pub ends : EndsWell 0 cell
  -- "No digit stands, so nothing looks like a number, a date, a time, a percentage or a fraction"
  pub groups : Grouped stands_inside cell
  -- rule 3: it is none of the words that some program takes for a boolean, whatever the case of its letters and with or without a blank at its end
  pub no_word : is_truth cell ≡ false
  -- "a shorter text needs at most 32,764"
  pub short_enough : length d ≤ 8191 → length cell ≤ 32764
  -- rule 4: "A text over 8,191 bytes has every byte in octal", so that it is refused where it is cut off inside a group
  pub all_octal : 8191 < length d → Grouped (λ c. false) cell
