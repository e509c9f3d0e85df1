-- How a text is spelled in a cell of the sheet form (docs/SPREADSHEET.md, "The sheet: what is written", rules 2 to 4), so that no spreadsheet changes it.
use Rattle.std.specs.Prelude.{ℕ, ◌+◌, ◌/◌, ◌%◌, Bool, false, ◌&&◌, ◌||◌, not, List, [], ◌∷◌, ◌++◌, length, leb, eqb}
use Rattle.event.specs.Choice.{pick}
use Rattle.midicsv.specs.ReadField.{is_letter}
use Rattle.midicsv.specs.Names.{same_name}
use Rattle.midicsv.specs.TruthWords.{truth_words}

-- a byte "in octal": "a backslash and three octal digits"
unfoldable pub octal : ℕ → List ℕ
octal c = 92 ∷ (48 + c / 64) ∷ (48 + c / 8 % 8) ∷ (48 + c % 8) ∷ []

-- the byte where it stands, else its octal digits
unfoldable pub or_octal : Bool → ℕ → List ℕ
or_octal stands c = pick stands (c ∷ []) (octal c)

-- rule 2: "The marks `! ' ( ) * + - . : ?`"
unfoldable pub is_mark : ℕ → Bool
is_mark c = eqb c 33 || (eqb c 58 || (eqb c 63 || ((leb 39 c && leb c 43) || (leb 45 c && leb c 46))))

-- a letter or a mark
unfoldable pub is_solid : ℕ → Bool
is_solid c = is_letter c || is_mark c

-- inside a text also "A blank and a comma stand"
unfoldable pub stands_inside : ℕ → Bool
stands_inside c = is_solid c || (eqb c 32 || eqb c 44)

-- "A blank stands as the last byte if a letter or a mark is the byte before it"
unfoldable pub stands_last : ℕ → ℕ → Bool
stands_last before c = is_solid c || (eqb c 32 && is_solid before)

-- without a blank at its end
unfoldable pub unblanked : List ℕ → List ℕ
unblanked [] = []
unblanked (c ∷ []) = pick (eqb c 32) [] (c ∷ [])
unblanked (c ∷ d ∷ l) = c ∷ unblanked (d ∷ l)

-- one of the words, "whatever the case of its letters"
unfoldable pub listed : List ℕ → List (List ℕ) → Bool
listed d [] = false
listed d (w ∷ ws) = same_name d w || listed d ws

-- rule 3: one of the words, "with or without a blank at its end"
unfoldable pub is_truth : List ℕ → Bool
is_truth d = listed (unblanked d) truth_words

-- the bytes after the byte before; the last of them stands only where the text is none of the words
unfoldable pub spell_rest : Bool → ℕ → List ℕ → List ℕ
spell_rest free before [] = []
spell_rest free before (c ∷ []) = or_octal (free && stands_last before c) c
spell_rest free before (c ∷ d ∷ l) = or_octal (stands_inside c) c ++ spell_rest free c (d ∷ l)

-- rules 2 and 3: only a letter stands as the first byte
unfoldable pub spell_short : List ℕ → List ℕ
spell_short [] = []
spell_short (c ∷ l) = or_octal (is_letter c) c ++ spell_rest (not (is_truth (c ∷ l))) c l

-- every byte in octal
unfoldable pub octal_all : List ℕ → List ℕ
octal_all [] = []
octal_all (c ∷ d) = octal c ++ octal_all d

-- rule 4: "8,191 bytes"
abbrev pub longest : ℕ
longest = 8191

-- rule 4: "A text over 8,191 bytes has every byte in octal"
unfoldable pub spell_text : List ℕ → List ℕ
spell_text d = pick (leb (length d) longest) (spell_short d) (octal_all d)
