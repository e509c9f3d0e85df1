-- Texts and their cells: the table of docs/SPREADSHEET.md, "The sheet: what is written".
use Rattle.std.specs.Prelude.{◌≡◌, ℕ, List, [], ◌∷◌}
use Rattle.midicsv.specs.Field.{bytes}
use Rattle.midicsv.specs.Spell.{spell_text}

-- a text, and what stands in its cell
pub record Spelling : Type 0 where
  pub source : List ℕ
  pub cell : List ℕ

-- every text of the list has its cell
unfoldable pub AllSpelled : List Spelling → Type 0
AllSpelled [] = Unit {0}
AllSpelled (x ∷ xs) = (spell_text x.source ≡ x.cell) × AllSpelled xs

-- a text and its cell
abbrev spells : List ℕ → List ℕ → Spelling
spells d s = record { source = d; cell = s }

-- a text that stands as it is
abbrev stays : List ℕ → Spelling
stays d = spells d d

-- the table
abbrev pub spell_readings : List Spelling
spell_readings =
    stays (bytes "Hal-")
    ∷ stays (bytes "le")
    ∷ stays (bytes "lu-")
    ∷ stays (bytes "jah")
    ∷ stays (bytes "Amen")
    ∷ stays (bytes "jah, amen")
    ∷ stays (bytes "Ich ")
    ∷ spells (bytes "la, ") (bytes "la,\\040")
    ∷ spells (bytes "jah,") (bytes "jah\\054")
    ∷ spells (bytes "true") (bytes "tru\\145")
    ∷ spells (bytes "WAHR") (bytes "WAH\\122")
    ∷ spells (110 ∷ 195 ∷ 169 ∷ []) (bytes "n\\303\\251")
    ∷ spells (bytes "Mar 1") (bytes "Mar \\061")
    ∷ spells (bytes "=1+1") (bytes "\\075\\061+\\061")
    ∷ spells (bytes "'tis") (bytes "\\047tis")
    ∷ spells (bytes "a  ") (bytes "a \\040")
    ∷ spells (bytes "a\"b\\") (bytes "a\\042b\\134")
    ∷ spells (bytes "true ") (bytes "true\\040")
    ∷ stays []
    ∷ []
