-- The fields of a record as they are written: in the text of document 01, and in the sheet form of docs/SPREADSHEET.md.
use Rattle.std.specs.Prelude.{ℕ, List, [], ◌∷◌, ◌++◌}
use Rattle.midicsv.specs.Field.{decimal, escape_all, Field, num, minus, name, quoted}
use Rattle.midicsv.specs.Spell.{spell_text}

-- the two forms in which a piece is written
pub data Form : Type 0 where
  as_text as_sheet : Form

-- "fields joined by comma and one space"; in a sheet by "a comma without a blank" (docs/SPREADSHEET.md, rule 1)
unfoldable pub gap : Form → List ℕ
gap as_text = 44 ∷ 32 ∷ []
gap as_sheet = 44 ∷ []

-- what stands between the quotes of a text
unfoldable pub spell_in : Form → List ℕ → List ℕ
spell_in as_text d = escape_all d
spell_in as_sheet d = spell_text d

-- "Texts stand in double quotes"
unfoldable pub quote : Form → List ℕ → List ℕ
quote w d = 34 ∷ (spell_in w d ++ (34 ∷ []))

-- a field as it is written
unfoldable pub show : Form → Field → List ℕ
show w (num n) = decimal n
show w (minus n) = 45 ∷ decimal n
show w (name s) = s
show w (quoted d) = quote w d

-- a field after another
abbrev pub joined : Form → Field → List ℕ
joined w f = gap w ++ show w f

-- fields that follow another
unfoldable pub further : Form → List Field → List ℕ
further w [] = []
further w (f ∷ fs) = joined w f ++ further w fs

-- a record without its LF
unfoldable pub line_of : Form → List Field → List ℕ
line_of w [] = []
line_of w (f ∷ fs) = show w f ++ further w fs
