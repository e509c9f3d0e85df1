-- Fields of other kinds than the one that is wanted.
use mathlib.Core.Path.{◌≡◌, refl}
use mathlib.Core.List.{List}
use mathlib.Core.Logic.{◌⊎◌, inl, inr}
use native.Mathlib.Omega.{arith}
use Prim.Native.Nat.{ℕ}
use denote.Enum.Declared.{tag_of}
use Rattle.event.specs.Outcome.{value_or}
use Rattle.midicsv.specs.Table.{mode}
use Rattle.midicsv.specs.Result.{bad}
use Rattle.midicsv.specs.Names.{name_from}
use Rattle.midicsv.specs.ReadRecord.{size_of, read_signed, read_column, read_text}
use Rattle.midicsv_scan.specs.FieldAt.{field_as}
use Rattle.midicsv_scan.specs.declared.FieldAt.{FieldAt}
use Rattle.midicsv_scan.specs.declared.FieldAt.TheVariants.{Number, Minus, Name, Quoted}
use Rattle.midicsv_scan.specs.contracts.FieldAt.{the_type}
use Rattle.midicsv_record.specs.Column.{field_in}

-- what the code knows of a field that is none of a kind
abbrev pub NotNumber : FieldAt → Type 0
NotNumber f = (v q : ℕ) → f ≡ Number v q → ⊥

abbrev pub NotName : FieldAt → Type 0
NotName f = (s e q : ℕ) → f ≡ Name s e q → ⊥

abbrev pub NotQuoted : FieldAt → Type 0
NotQuoted f = (s q : ℕ) → f ≡ Quoted s q → ⊥

pub no_number : (l : List ℕ) (f : FieldAt) → NotNumber f → bad 25 ≡ size_of (field_in l f)
unfolding size_of value_or field_as
no_number l (Number v q) h = absurd (h v q refl)
no_number l (Minus v q) h = refl
no_number l (Name s e q) h = refl
no_number l (Quoted s q) h = refl

-- by its tag: 2 is a name, 3 a text
pub no_signed : (most least all : ℕ) (l : List ℕ) (f : FieldAt) → (tag_of the_type f ≡ 2) ⊎ (tag_of the_type f ≡ 3) → bad 25 ≡ read_signed most least all (field_in l f)
unfolding read_signed value_or field_as
no_signed most least all l (Number v q) h = elim h [ inl e ↦ absurd (omega (arith, e)) | inr e ↦ absurd (omega (arith, e)) ]
no_signed most least all l (Minus v q) h = elim h [ inl e ↦ absurd (omega (arith, e)) | inr e ↦ absurd (omega (arith, e)) ]
no_signed most least all l (Name s e q) h = refl
no_signed most least all l (Quoted s q) h = refl

pub no_mode : (l : List ℕ) (f : FieldAt) → NotQuoted f → bad 25 ≡ read_column mode (field_in l f)
unfolding read_column value_or field_as
no_mode l (Number v q) h = refl
no_mode l (Minus v q) h = refl
no_mode l (Name s e q) h = refl
no_mode l (Quoted s q) h = absurd (h s q refl)

pub no_text : (l : List ℕ) (f : FieldAt) → NotQuoted f → bad 25 ≡ read_text (field_in l f)
unfolding read_text value_or field_as
no_text l (Number v q) h = refl
no_text l (Minus v q) h = refl
no_text l (Name s e q) h = refl
no_text l (Quoted s q) h = absurd (h s q refl)

pub no_name : (l : List ℕ) (f : FieldAt) → NotName f → bad 23 ≡ name_from (field_in l f)
unfolding name_from value_or field_as
no_name l (Number v q) h = refl
no_name l (Minus v q) h = refl
no_name l (Name s e q) h = absurd (h s e q refl)
no_name l (Quoted s q) h = refl
