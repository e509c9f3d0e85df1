-- A field that is read is the first cell that is cut at commas, and that cell put back is read as the field.
use mathlib.Core.Path.{◌≡◌, refl, sym, ap, ◌∙◌}
use Prim.Native.Nat.{ℕ, zero, suc, ◌≤◌}
use mathlib.Core.Bool.{Bool, true, false, false≢true}
use mathlib.Core.List.{List, [], ◌∷◌, ◌++◌, append_assoc}
use native.Mathlib.Omega.{arith}
use lib.ListN.{length, length-append}
use lib.Dec.{eqb}
use borrow.Author.Tests.{eqb-true}
use Rattle.event.specs.Choice.{pick}
use Rattle.event.specs.Outcome.{ok}
use Rattle.event.proofs.ChoiceLaws.{pick_true, pick_false, pick_cases}
use Rattle.event.proofs.OutcomeLaws.{not_ok, ok_same, and_then_ok, and_then_eq, check_ok}
use Rattle.midicsv.specs.Field.{Field, num, minus, name, quoted}
use Rattle.midicsv.specs.ReadField.{is_blank, is_digit, is_letter, skip, read_number, negative, plain, read_quoted, read_name, at_comma, finish, field_of, read_field}
use Rattle.midicsv.proofs.AllLaws.{All, all_append}
use Rattle.midicsv.proofs.FieldReadLaws.{Ends, letter_range, not_blank, finish_ends, quoted_field_lem}
use Rattle.midicsv.proofs.FieldPartLaws.{push_ok}
use Rattle.midicsv.proofs.QuotedReadLaws.{push_eq}
use Rattle.sheet_table.specs.Cut.{has, begins, bare, lead, opening, cut_from, cut, is_none}
use Rattle.sheet_table.specs.Table.{is_empty, doubled, requote}
use Rattle.sheet_table.specs.Code.Cells.{cells_after, cons_cell}
use Rattle.sheet_table.proofs.CutLaws.{parts_comma, Follows, bare_cut, lead_cell}
use Rattle.sheet_table.proofs.BareFieldLaws.{Inside, inside_high, digit_least, inside_has, NoReturn, inside_return, Blanks, skip_same, blanks_beside, blanks_inside, skip_blanks_lem, skipped, Stops, ends_stop, number_taken, letters}
use Rattle.sheet_table.proofs.TableLinesLaws.{doubled_in}
use Rattle.sheet_table.proofs.QuotedFieldLaws.{quoted_part}

-- x is read as f, whatever may follow a field after it
abbrev pub Reads : List ℕ → Field → Type 0
Reads x f = (t : List ℕ) → Ends t → read_field (x ++ t) ≡ ok f t

unfoldable pub is_text_lem : Field → Bool
is_text_lem (num n) = false
is_text_lem (minus n) = false
is_text_lem (name s) = false
is_text_lem (quoted d) = true

-- the letters of a name
unfoldable pub name_size : Field → ℕ
name_size (num n) = 0
name_size (minus n) = 0
name_size (name s) = length s
name_size (quoted d) = 0

-- a cell that holds a number or a name, with its blanks
pub record Bare (c : List ℕ) (f : Field) : Type 0 where
  pub no_text : is_text_lem f ≡ false
  pub comma : has 44 c ≡ false
  pub quote : has 34 c ≡ false
  pub some : is_empty c ≡ false
  pub size : name_size f ≤ length c
  pub reads : Reads c f

-- the cell c holds the field f: bare, or in quotes
pub data Holds (c : List ℕ) (f : Field) : Type 0 where
  barely : Bare c f → Holds c f
  in_quotes : is_text_lem f ≡ true → Reads (requote c) f → Holds c f

-- the field f at the head of l, and its cell
pub record FieldCell (l : List ℕ) (f : Field) (r : List ℕ) : Type 0 where
  pub cell : List ℕ
  pub holds : Holds cell f
  pub cuts : cut 44 l ≡ cons_cell cell (cells_after 44 r)
  pub part : List ℕ
  pub whole : l ≡ part ++ r
  pub ends : Ends r
  pub no_return : NoReturn part
  pub same : is_text_lem f ≡ false → cell ≡ part

-- ---- after the field: blanks, then a comma or the end

record Finished (f g : Field) (q r : List ℕ) : Type 0 where
  blanks : List ℕ
  whole : q ≡ blanks ++ r
  blank : Blanks blanks
  ends : Ends r
  same : f ≡ g

comma_ends : (f g : Field) (l r : List ℕ) → at_comma f l ≡ ok g r → (f ≡ g) × (l ≡ r) × Ends r
unfolding at_comma
comma_ends f g [] r e = ok_same f g [] r e (λ a b. (a, b, rw (← b) tt))
comma_ends f g (c ∷ l) r e =
    let (t, y) = check_ok _ 22 0 _ g r e in
    ok_same f g (c ∷ l) r y (λ a b. (a, b, rw (← b) (eqb-true c 44 t)))

finished : (f g : Field) (q r : List ℕ) → finish f q ≡ ok g r → Finished f g q r
unfolding finish
finished f g q r e =
    let s = skipped q in
    let (a, b, h) = comma_ends f g (skip q) r e in
    record { blanks = s.before; whole = s.whole ∙ ap (λ z. s.before ++ z) b; blank = s.blank; ends = h; same = a }

finish_blanks : (f : Field) (e t : List ℕ) → Blanks e → Ends t → finish f (e ++ t) ≡ ok f t
unfolding finish
finish_blanks f e t a h = ap (at_comma f) (skip_blanks_lem e t a) ∙ finish_ends f t h

ends_follow : (t : List ℕ) → Ends t → Follows 44 t
unfolding Follows
ends_follow [] h = tt
ends_follow (c ∷ t) h = h

-- ---- a number or a name: blanks, its bytes, blanks

skip_to : (b : List ℕ) (c : ℕ) (l : List ℕ) → Blanks b → is_blank c ≡ false → skip (b ++ (c ∷ l)) ≡ c ∷ l
unfolding skip
skip_to b c l a n = skip_blanks_lem b (c ∷ l) a ∙ pick_false _ _ n

some_none : (c : ℕ) (l : List ℕ) → is_none (c ∷ l) ≡ false
unfolding is_none
some_none c l = refl

opens_bare : (b : List ℕ) (c : ℕ) (l : List ℕ) → Blanks b → is_blank c ≡ false → eqb c 34 ≡ false → opening 44 (b ++ (c ∷ l)) ≡ bare
unfolding opening begins
opens_bare b c l a n q = ap (λ z. pick (begins 34 z) lead bare) (skip_same (b ++ (c ∷ l)) ∙ skip_to b c l a n) ∙ pick_false _ _ q

bare_opened : (l c t : List ℕ) → opening 44 l ≡ bare → l ≡ c ++ t → has 44 c ≡ false → Follows 44 t → cut 44 l ≡ cons_cell c (cells_after 44 t)
unfolding cut
bare_opened l c t o e n h = ap (cut_from 44 l) o ∙ ap (λ z. cut_from 44 z bare) e ∙ bare_cut 44 c t n h

module _ (b x e : List ℕ) (c : ℕ) (f : Field) (before : Blanks b) (after : Blanks e) (inside : All Inside (c ∷ x)) (first : is_blank c ≡ false)
    (no_text : is_text_lem f ≡ false) (size : name_size f ≤ suc (length x)) (again : (t : List ℕ) → Stops t → field_of (c ∷ (x ++ t)) ≡ finish f t) where
  raw : List ℕ
  raw = b ++ (c ∷ (x ++ e))

  raw_whole : (t : List ℕ) → raw ++ t ≡ b ++ (c ∷ (x ++ (e ++ t)))
  unfolding raw
  raw_whole t = append_assoc b (c ∷ (x ++ e)) t ∙ ap (λ z. b ++ (c ∷ z)) (append_assoc x e t)

  raw_inside : All Inside raw
  unfolding raw
  raw_inside = all_append Inside b (c ∷ (x ++ e)) (blanks_inside b before) (inside.0, all_append Inside x e inside.1 (blanks_inside e after))

  raw_reads : Reads raw f
  unfolding read_field
  raw_reads t h =
      ap read_field (raw_whole t) ∙ ap field_of (skip_to b c (x ++ (e ++ t)) before first) ∙ again (e ++ t) (ends_stop e t after h) ∙ finish_blanks f e t after h

  raw_some : is_empty raw ≡ false
  unfolding is_empty raw
  raw_some = ap is_none (skip_to b c (x ++ e) before first) ∙ some_none c (x ++ e)

  raw_size : name_size f ≤ length raw
  unfolding raw
  raw_size = omega (arith, size, length-append b (c ∷ (x ++ e)), length-append x e)

  raw_bare : Bare raw f
  raw_bare = let h = inside_has raw raw_inside in record { no_text = no_text; comma = h.0; quote = h.1; some = raw_some; size = raw_size; reads = raw_reads }

  raw_cell : (r : List ℕ) → Ends r → FieldCell (b ++ (c ∷ (x ++ (e ++ r)))) f r
  raw_cell r h =
      record {
        cell = raw;
        holds = barely raw_bare;
        cuts = bare_opened _ raw r (opens_bare b c (x ++ (e ++ r)) before first inside.0.1) (sym (raw_whole r)) raw_bare.comma (ends_follow r h);
        part = raw;
        whole = sym (raw_whole r);
        ends = h;
        no_return = inside_return raw raw_inside;
        same = λ q. refl;
      }

cell_same : (l m : List ℕ) (f g : Field) (r : List ℕ) → l ≡ m → g ≡ f → FieldCell m g r → FieldCell l f r
cell_same l m f g r e p w = rw (e, ← p) w

-- ---- by the first byte

num_text : (n : ℕ) → (is_text_lem (num n) ≡ false) × (name_size (num n) ≡ 0)
unfolding is_text_lem name_size
num_text n = (refl, refl)

negative_text : (n : ℕ) → (is_text_lem (negative n) ≡ false) × (name_size (negative n) ≡ 0)
unfolding is_text_lem name_size negative
negative_text zero = (refl, refl)
negative_text (suc n) = (refl, refl)

name_text : (s : List ℕ) → (is_text_lem (name s) ≡ false) × (name_size (name s) ≡ length s)
unfolding is_text_lem name_size
name_text s = (refl, refl)

quoted_text : (d : List ℕ) → is_text_lem (quoted d) ≡ true
unfolding is_text_lem
quoted_text d = refl

module _ (b : List ℕ) (before : Blanks b) (f : Field) (r : List ℕ) where
  number_cell : (c : ℕ) (m : List ℕ) (n : ℕ) (q : List ℕ) → eqb c 34 ≡ false → eqb c 45 ≡ false → read_number (c ∷ m) ≡ ok n q → finish (num n) q ≡ ok f r
      → FieldCell (b ++ (c ∷ m)) f r
  unfolding field_of
  number_cell c m n q n1 n2 e k =
      let (t, w) = number_taken c m n q e in
      let z = finished (num n) f q r k in
      let h = digit_least c t in
      cell_same _ _ f (num n) r (ap (λ y. b ++ (c ∷ y)) (w.whole ∙ ap (λ y. w.part ++ y) z.whole)) z.same
      (raw_cell b w.part z.blanks c (num n) before z.blank (inside_high c (omega arith), w.inside) (not_blank c (omega arith))
      (num_text n).0 (omega (arith, (num_text n).1))
      (λ y v. pick_false _ _ n1 ∙ pick_false _ _ n2 ∙ pick_true _ _ t ∙ and_then_eq _ (w.again y v)) r z.ends)

  minus_cell : (m : List ℕ) (n : ℕ) (q : List ℕ) → read_number m ≡ ok n q → finish (negative n) q ≡ ok f r → FieldCell (b ++ (45 ∷ m)) f r
  unfolding field_of read_number
  minus_cell [] n q e k = not_ok e
  minus_cell (d ∷ m) n q e k =
      let (t, w) = number_taken d m n q e in
      let z = finished (negative n) f q r k in
      let h = digit_least d t in
      cell_same _ _ f (negative n) r (ap (λ y. b ++ (45 ∷ d ∷ y)) (w.whole ∙ ap (λ y. w.part ++ y) z.whole)) z.same
      (raw_cell b (d ∷ w.part) z.blanks 45 (negative n) before z.blank (inside_high 45 (omega arith), (inside_high d (omega arith), w.inside)) (not_blank 45 (omega arith))
      (negative_text n).0 (omega (arith, (negative_text n).1))
      (λ y v. pick_false _ _ refl ∙ pick_true _ _ refl ∙ and_then_eq _ (w.again y v)) r z.ends)

  name_cell : (c : ℕ) (m s q : List ℕ) → eqb c 34 ≡ false → eqb c 45 ≡ false → is_digit c ≡ false → is_letter c ≡ true → read_name (c ∷ m) ≡ ok s q → finish (name s) q ≡ ok f r
      → FieldCell (b ++ (c ∷ m)) f r
  unfolding field_of read_name
  name_cell c m s q n1 n2 n3 t e k =
      push_ok c (read_name m) s q (sym (pick_true _ _ t) ∙ e) (λ x y v.
      let w = letters m x q y in
      let z = finished (name s) f q r k in
      let h = letter_range c t in
      cell_same _ _ f (name (c ∷ x)) r (ap (λ u. b ++ (c ∷ u)) (w.whole ∙ ap (λ u. x ++ u) z.whole)) (ap name v ∙ z.same)
      (raw_cell b x z.blanks c (name (c ∷ x)) before z.blank (inside_high c (omega arith), w.inside) (not_blank c (omega arith))
      (name_text (c ∷ x)).0 (omega (arith, (name_text (c ∷ x)).1))
      (λ u i. pick_false _ _ n1 ∙ pick_false _ _ n2 ∙ pick_false _ _ n3 ∙ pick_true _ _ t ∙ and_then_eq _ (pick_true _ _ t ∙ push_eq c (w.again u i))) r z.ends))

  quoted_reads : (c d : List ℕ) → ((t : List ℕ) → Stops t → read_quoted (doubled c ++ (34 ∷ t)) plain ≡ ok d t) → Reads (requote c) (quoted d)
  unfolding requote
  quoted_reads c d a t h =
      quoted_field_lem d ((doubled c ++ (34 ∷ [])) ++ t) t (ap (λ z. read_quoted z plain) (append_assoc (doubled c) (34 ∷ []) t) ∙ a t (ends_stop [] t tt h)) h

  text_part : (c e : List ℕ) → b ++ (34 ∷ (doubled c ++ (34 ∷ (e ++ r)))) ≡ (b ++ (34 ∷ (doubled c ++ (34 ∷ e)))) ++ r
  text_part c e = ap (λ z. b ++ (34 ∷ z)) (sym (append_assoc (doubled c) (34 ∷ e) r)) ∙ sym (append_assoc b (34 ∷ (doubled c ++ (34 ∷ e))) r)

  text_return : (c e : List ℕ) → NoReturn c → Blanks e → NoReturn (b ++ (34 ∷ (doubled c ++ (34 ∷ e))))
  text_return c e n a =
      let P : ℕ → Type 0 = λ x. eqb x 13 ≡ false in
      let i = inside_return e (blanks_inside e a) in
      all_append P b (34 ∷ (doubled c ++ (34 ∷ e))) (inside_return b (blanks_inside b before))
      (refl, all_append P (doubled c) (34 ∷ e) (doubled_in P refl c n) (refl, i))

  text_cell : (m d q : List ℕ) → read_quoted m plain ≡ ok d q → finish (quoted d) q ≡ ok f r → FieldCell (b ++ (34 ∷ m)) f r
  text_cell m d q e k =
      let w = quoted_part m plain d q refl e in
      let z = finished (quoted d) f q r k in
      cell_same _ _ f (quoted d) r (ap (λ y. b ++ (34 ∷ y)) (w.whole ∙ ap (λ y. doubled w.cell ++ (34 ∷ y)) z.whole)) z.same
      (record {
        cell = w.cell;
        holds = in_quotes (quoted_text d) (quoted_reads w.cell d w.again);
        cuts = lead_cell 44 b w.cell z.blanks r parts_comma (blanks_beside b before) (blanks_beside z.blanks z.blank) (ends_follow r z.ends);
        part = b ++ (34 ∷ (doubled w.cell ++ (34 ∷ z.blanks)));
        whole = text_part w.cell z.blanks;
        ends = z.ends;
        no_return = text_return w.cell z.blanks w.no_return z.blank;
        same = λ y. absurd (false≢true (sym y ∙ quoted_text d));
      })

  kind_cell : (l : List ℕ) → field_of l ≡ ok f r → FieldCell (b ++ l) f r
  unfolding field_of
  kind_cell [] e = not_ok e
  kind_cell (c ∷ l) e =
      pick_cases (eqb c 34) _ _ _ e
      (λ t y. and_then_ok (read_quoted l plain) _ f r y (λ d q u k. rw (eqb-true c 34 t) (text_cell l d q u k))) (λ n1 e1.
      pick_cases (eqb c 45) _ _ _ e1
      (λ t y. and_then_ok (read_number l) _ f r y (λ n q u k. rw (eqb-true c 45 t) (minus_cell l n q u k))) (λ n2 e2.
      pick_cases (is_digit c) _ _ _ e2
      (λ t y. and_then_ok (read_number (c ∷ l)) _ f r y (λ n q u k. number_cell c l n q n1 n2 u k)) (λ n3 e3.
      pick_cases (is_letter c) _ _ _ e3
      (λ t y. and_then_ok (read_name (c ∷ l)) _ f r y (λ n q u k. name_cell c l n q n1 n2 n3 t u k)) (λ n4 y. not_ok y))))

-- a field that is read, its cell, and what follows both
pub field_cell : (l : List ℕ) (f : Field) (r : List ℕ) → read_field l ≡ ok f r → FieldCell l f r
unfolding read_field
field_cell l f r e = let s = skipped l in rw s.whole (kind_cell s.before s.blank f r (skip l) e)
