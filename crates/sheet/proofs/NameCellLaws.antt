-- The text's place by the field that the third cell holds.
use mathlib.Core.Path.{◌≡◌, refl, ap, ◌∙◌}
use Prim.Native.Nat.{ℕ, ◌-◌, ◌<◌, ◌≤◌}
use mathlib.Core.Bool.{Bool}
use mathlib.Core.List.{List, [], ◌∷◌}
use lib.ListN.{length, drop, take, drop_of_length-le}
use lib.Seq.{drop-cons}
use Rattle.std.proofs.Common.{Option, Some, None}
use Rattle.event.specs.Outcome.{ok}
use Rattle.midicsv.specs.Field.{Field}
use Rattle.midicsv.specs.ReadField.{read_field}
use Rattle.midicsv.specs.Names.{all_names, find, name_from}
use Rattle.midicsv.specs.Result.{bad}
use Rattle.midicsv_scan.specs.FieldAt.{field_as, Within}
use Rattle.midicsv_scan.specs.declared.FieldAt.{FieldAt}
use Rattle.midicsv_scan.specs.declared.FieldAt.TheVariants.{Number, Minus, Name, Quoted}
use Rattle.sheet_table.specs.Table.{TextPlace, nowhere, name_in, text_of_name}
use Rattle.sheet.specs.Code.Seen.{seen}
use Rattle.sheet.specs.Code.Cell.{content_of}
use Rattle.sheet.proofs.QuoteLaws.{content_place}

no_name_place : (f : Field) (q : List ℕ) → name_from f ≡ bad 23 → nowhere ≡ text_of_name (name_in (ok f q))
unfolding name_in text_of_name
no_name_place f [] e = rw e
no_name_place f (c ∷ q) e = refl

pub name_within : (l : List ℕ) (a b q : ℕ) → Within l 0 (Some (Name a b q)) → (a ≤ b) × (b ≤ length l)
unfolding Within
name_within l a b q w = (w.0, w.1)

-- a field that is no name is no name's cell
other_place : (l : List ℕ) (f : FieldAt) → ((s e n : ℕ) → f ≡ Name s e n → ⊥) → nowhere ≡ text_of_name (name_in (field_as l (Some f)))
unfolding field_as name_from
other_place l (Number v q) h = no_name_place _ (drop q l) refl
other_place l (Minus v q) h = no_name_place _ (drop q l) refl
other_place l (Name s e q) h = absurd (h s e q refl)
other_place l (Quoted a q) h = no_name_place _ (drop q l) refl

module _ (twice in_quotes : Bool) (l : List ℕ) where
  -- the place that a field has in the cell as it is read
  abbrev Here : TextPlace → Type 0
  Here t = t ≡ text_of_name (name_in (read_field (content_of in_quotes (seen twice l))))

  here : (r : Option FieldAt) {t : TextPlace} → field_as l r ≡ read_field l → t ≡ text_of_name (name_in (field_as l r)) → Here t
  here r e h = h ∙ ap (λ m. text_of_name (name_in m)) e ∙ content_place twice in_quotes l

  pub none_here : field_as l None ≡ read_field l → Here nowhere
  unfolding field_as name_in text_of_name
  none_here e = here None e refl

  pub other_here : (f : FieldAt) → ((s e n : ℕ) → f ≡ Name s e n → ⊥) → field_as l (Some f) ≡ read_field l → Here nowhere
  other_here f h e = here (Some f) e (other_place l f h)

  module _ (a b q : ℕ) (e : field_as l (Some (Name a b q)) ≡ read_field l) where
    pub short_here : q < length l → Here nowhere
    unfolding field_as name_in text_of_name
    short_here h = here (Some (Name a b q)) e (rw (drop-cons l q 0 h))

    pub name_here : length l ≤ q → Here (text_of_name (find (take (b - a) (drop a l)) all_names))
    unfolding field_as name_in name_from
    name_here h = here (Some (Name a b q)) e (rw (drop_of_length-le l h))
