-- Any text that has a piece may go through table_text: it has the same piece afterwards.
use mathlib.Core.Path.{◌≡◌, refl, sym, ap, ap₂, ◌∙◌}
use Prim.Native.Nat.{ℕ, suc}
use mathlib.Core.Bool.{Bool, true, false, ◌&&◌, ◌||◌}
use mathlib.Core.List.{List, [], ◌∷◌, ◌++◌, append-nil}
use lib.ListN.{length}
use lib.Dec.{eqb}
use borrow.Author.Tests.{eqb-true}
use Rattle.event.specs.Choice.{pick}
use Rattle.event.specs.Outcome.{Outcome, ok, refused, and_then}
use Rattle.event.proofs.ChoiceLaws.{by_test, pick_true, pick_false, and_both}
use Rattle.event.proofs.OutcomeLaws.{not_ok, and_then_ok}
use Rattle.smf.specs.Piece.{Piece}
use Rattle.midicsv.specs.Field.{Field}
use Rattle.midicsv.specs.Record.{Record}
use Rattle.midicsv.specs.Result.{Result, good, bad}
use Rattle.midicsv.specs.ReadField.{is_blank, is_digit, is_letter, skip, field_of, read_field, onward, read_fields, all_fields}
use Rattle.midicsv.specs.ReadRecord.{of_fields, read_line}
use Rattle.midicsv.specs.Lines.{onto, lines_of, trimmed, is_comment, passed_over}
use Rattle.midicsv.specs.Order.{State, first, step}
use Rattle.midicsv.specs.PieceOfText.{skipped as passed, told, framed, tell_line, step_told, advance, run_lines, piece_told, piece_of_text}
use Rattle.midicsv.proofs.ResultLaws.{not_good, next_good}
use Rattle.sheet_table.specs.Cut.{has, begins, bare, lead, opening, cut_from, cut, is_none}
use Rattle.sheet_table.specs.Table.{is_empty, all_empty, keep_before, drop_empty, plain_cells, text_at, row_fields, joined, row_line, of_cut, is_remark, line_by, cells_line, table_line, sep_in, sep_of, unmarked, table_text}
use Rattle.sheet_table.specs.Code.Cells.{cells_after, cons_cell}
use Rattle.sheet_table.proofs.CutLaws.{Follows, bare_cut}
use Rattle.sheet_table.proofs.TableLinesLaws.{line_all, each_row, table_lines_lem}
use Rattle.sheet_table.proofs.BareFieldLaws.{inside_has, and_true, NoReturn, skip_same, blanks_inside, skipped}
use Rattle.sheet_table.proofs.RecordKeptLaws.{line_kept}

-- ---- a line that is read is not passed over

hash_refused : (k : List ℕ) → field_of (35 ∷ k) ≡ refused 22 0
unfolding field_of is_digit is_letter pick
hash_refused k = refl

semicolon_refused : (k : List ℕ) → field_of (59 ∷ k) ≡ refused 22 0
unfolding field_of is_digit is_letter pick
semicolon_refused k = refl

field_comment : (k : List ℕ) (f : Field) (m : List ℕ) → field_of k ≡ ok f m → is_comment k ≡ false
unfolding is_comment field_of
field_comment [] f m e = not_ok e
field_comment (c ∷ k) f m e =
    by_test (eqb c 35) (λ t. not_ok (sym (hash_refused k) ∙ (rw (eqb-true c 35 t) at e))) (λ n.
    by_test (eqb c 59) (λ t. not_ok (sym (semicolon_refused k) ∙ (rw (eqb-true c 59 t) at e))) (λ o. ap₂ ◌||◌ n o))

fields_kept : (n : ℕ) (l : List ℕ) (fs : List Field) (q : List ℕ) → read_fields (suc n) l ≡ ok fs q → passed_over l ≡ false
unfolding read_fields read_field passed_over
fields_kept n l fs q e = and_then_ok (read_field l) _ fs q e (λ f m u k. field_comment (skip l) f m u)

of_kept : (l : List ℕ) (m : Outcome (List Field)) (r : Record) → all_fields l ≡ m → of_fields m ≡ good r → passed_over l ≡ false
unfolding all_fields of_fields
of_kept l (ok fs q) r e z = fields_kept (length l) l fs q e
of_kept l (refused n p) r e z = not_good z

read_kept : (l : List ℕ) (r : Record) → read_line l ≡ good r → passed_over l ≡ false
unfolding read_line
read_kept l r e = of_kept l (all_fields l) r refl e

-- ---- remarks

-- what rule 3 asks, of a line from its first byte that is no blank
abbrev remark_in : List ℕ → Bool
remark_in k = begins 35 k || (begins 59 k && true)

remark_skip : (l : List ℕ) → is_remark 44 l ≡ remark_in (skip l)
unfolding is_remark
remark_skip l = ap remark_in (skip_same l)

remark_comment : (c : ℕ) (k : List ℕ) → remark_in (c ∷ k) ≡ is_comment (c ∷ k)
unfolding begins is_comment
remark_comment c k = ap (λ z. eqb c 35 || z) (and_true (eqb c 59))

none_remark : remark_in [] ≡ false
unfolding begins
none_remark = refl

-- a line that is passed over is blank, or stands
passed_cases : {X : Type 0} (k : List ℕ) → is_comment k ≡ true → (k ≡ [] → X) → (remark_in k ≡ true → X) → X
passed_cases [] e f g = f refl
passed_cases (c ∷ k) e f g = g (remark_comment c k ∙ e)

kept_remark : (k : List ℕ) → is_comment k ≡ false → remark_in k ≡ false
kept_remark [] e = none_remark
kept_remark (c ∷ k) e = remark_comment c k ∙ e

remark_stands : (l : List ℕ) → is_remark 44 l ≡ true → table_line 44 l ≡ l
unfolding table_line line_by
remark_stands l e = pick_true _ _ e

-- one CR less does not make a record of it
trimmed_passed : (l : List ℕ) → passed_over l ≡ true → passed_over (trimmed l) ≡ true
unfolding passed_over trimmed skip pick is_comment
trimmed_passed [] e = refl
trimmed_passed (c ∷ []) e = by_test (eqb c 13) (λ t. rw t refl) (λ t. rw t e)
trimmed_passed (c ∷ d ∷ l) e =
    by_test (is_blank c) (λ t. let z : passed_over (d ∷ l) ≡ true = rw t at e in rw t (trimmed_passed (d ∷ l) z)) (λ t. let z : is_comment (c ∷ d ∷ l) ≡ true = rw t at e in rw t z)

-- ---- a blank line becomes an empty one

blank_cut : (l : List ℕ) → skip l ≡ [] → has 44 l ≡ false → cut 44 l ≡ good (l ∷ [])
unfolding cut opening begins Follows cells_after cons_cell
blank_cut l e n =
    ap (λ z. cut_from 44 l (pick (begins 34 z) lead bare)) (skip_same l ∙ e)
    ∙ ap (cut_from 44 l) (pick_false _ _ refl)
    ∙ ap (λ z. cut_from 44 z bare) (sym (append-nil l))
    ∙ bare_cut 44 l [] n tt

blank_free : (l : List ℕ) → skip l ≡ [] → has 44 l ≡ false
blank_free l e =
    let s = skipped l in
    let same : l ≡ s.before = s.whole ∙ ap (λ z. s.before ++ z) e ∙ append-nil s.before in
    ap (has 44) same ∙ (inside_has s.before (blanks_inside s.before s.blank)).0

blank_empty : (l : List ℕ) → skip l ≡ [] → is_empty l ≡ true
unfolding is_empty is_none
blank_empty l e = ap is_none e

one_empty : (l : List ℕ) → is_empty l ≡ true → row_line (l ∷ []) ≡ []
unfolding row_line text_at row_fields drop_empty keep_before plain_cells joined
one_empty l e = ap (λ z. joined (plain_cells z)) (pick_true _ _ e)

blank_line : (f : List (List ℕ) → List ℕ) (l : List ℕ) → skip l ≡ [] → line_by f 44 l ≡ f (l ∷ [])
unfolding line_by of_cut
blank_line f l e = pick_false _ _ (remark_skip l ∙ ap remark_in e ∙ none_remark) ∙ ap (of_cut f) (blank_cut l e (blank_free l e))

pub one_alone : (l : List ℕ) → cells_line (l ∷ []) ≡ line_by row_line 44 l
unfolding cells_line all_empty
one_alone l = pick_true _ _ refl

blank_gone : (l : List ℕ) → skip l ≡ [] → table_line 44 l ≡ []
unfolding table_line
blank_gone l e = blank_line cells_line l e ∙ one_alone l ∙ blank_line row_line l e ∙ one_empty l (blank_empty l e)

-- ---- a line of the text and the line that the table makes of it

pub trimmed_none : (l : List ℕ) → NoReturn l → trimmed l ≡ l
unfolding trimmed
trimmed_none [] a = refl
trimmed_none (c ∷ []) a = pick_false _ _ a.0
trimmed_none (c ∷ d ∷ l) a = ap (λ z. c ∷ z) (trimmed_none (d ∷ l) a.1)

pub empty_passed : passed_over (trimmed []) ≡ true
unfolding passed_over trimmed skip is_comment
empty_passed = refl

-- a line that is passed over
passed_line : (l : List ℕ) → passed_over l ≡ true → passed_over (trimmed (table_line 44 l)) ≡ true
unfolding passed_over
passed_line l e =
    passed_cases (skip l) e
    (λ q. ap (λ z. passed_over (trimmed z)) (blank_gone l q) ∙ empty_passed)
    (λ q. ap (λ z. passed_over (trimmed z)) (remark_stands l (remark_skip l ∙ q)) ∙ trimmed_passed l e)

-- of a line that is read its cells are taken
pub line_cells : (f : List (List ℕ) → List ℕ) (l : List ℕ) (r : Record) (e : read_line l ≡ good r) → line_by f 44 l ≡ f (line_kept l r e).cells
unfolding line_by of_cut passed_over
line_cells f l r e = pick_false _ _ (remark_skip l ∙ kept_remark (skip l) (read_kept l r e)) ∙ ap (of_cut f) (line_kept l r e).cuts

-- a line that is read
pub read_line_lem : (l : List ℕ) (r : Record) → read_line l ≡ good r → read_line (table_line 44 l) ≡ good r
unfolding table_line
read_line_lem l r e = let w = line_kept l r e in ap read_line (line_cells cells_line l r e ∙ w.alone) ∙ w.back

pub tell_passed : (l : List ℕ) → passed_over (trimmed l) ≡ true → tell_line l ≡ passed
unfolding tell_line framed
tell_passed l e = pick_true _ _ e

tell_kept : (l : List ℕ) → passed_over (trimmed l) ≡ false → tell_line l ≡ told (read_line (trimmed l))
unfolding tell_line framed
tell_kept l e = pick_false _ _ e

-- a row without CR, of which the table makes a line that is read
pub row_told : (sep : ℕ) (l : List ℕ) (r : Record) → NoReturn l → read_line (table_line sep l) ≡ good r → tell_line (table_line sep l) ≡ told (good r)
row_told sep l r n e =
    let m = table_line sep l in
    let t = trimmed_none m (line_all (λ c. eqb c 13 ≡ false) refl refl sep l n) in
    tell_kept m (ap passed_over t ∙ read_kept m r e) ∙ ap (λ z. told (read_line z)) t ∙ ap told e

tell_read : (l : List ℕ) (r : Record) → read_line (trimmed l) ≡ good r → tell_line (table_line 44 (trimmed l)) ≡ told (good r)
tell_read l r e = row_told 44 (trimmed l) r (line_kept (trimmed l) r e).no_return (read_line_lem (trimmed l) r e)

told_good : {X : Type 0} (s : State) (m : Result Record) (t : State) → step_told s (told m) ≡ good t → ((r : Record) → m ≡ good r → X) → X
unfolding step_told
told_good s m t e k = next_good m (step s) t e (λ r q z. k r q)

line_same : (s : State) (l : List ℕ) (t : State) → step_told s (tell_line l) ≡ good t → tell_line (table_line 44 (trimmed l)) ≡ tell_line l
line_same s l t e =
    by_test (passed_over (trimmed l))
    (λ q. tell_passed (table_line 44 (trimmed l)) (passed_line (trimmed l) q) ∙ sym (tell_passed l q))
    (λ q. told_good s (read_line (trimmed l)) t (ap (step_told s) (sym (tell_kept l q)) ∙ e) (λ r z. tell_read l r z ∙ ap told (sym z) ∙ sym (tell_kept l q)))

-- ---- all lines

pub advance_ok : {X : Type 0} (m : Result State) (n : ℕ) (k : State → Outcome Piece) (p : Piece) (r : List ℕ) → advance m n k ≡ ok p r → ((t : State) → m ≡ good t → k t ≡ ok p r → X) → X
unfolding advance
advance_ok (good t) n k p r e f = f t refl e
advance_ok (bad j) n k p r e f = not_ok e

pub advance_on : (m : Result State) (n : ℕ) (k : State → Outcome Piece) (t : State) → m ≡ good t → advance m n k ≡ k t
unfolding advance
advance_on m n k t e = ap (λ z. advance z n k) e

lines_same : (ls : List (List ℕ)) (s : State) (n : ℕ) (p : Piece) (r : List ℕ) → run_lines tell_line ls s n ≡ ok p r → run_lines tell_line (each_row 44 ls) s n ≡ ok p r
unfolding run_lines each_row
lines_same [] s n p r e = e
lines_same (l ∷ ls) s n p r e =
    advance_ok (step_told s (tell_line l)) n _ p r e (λ t q z.
    advance_on _ n _ t (ap (step_told s) (line_same s l t q) ∙ q) ∙ lines_same ls t (suc n) p r z)

-- the first record has a comma
pub comma_sep : (l : List ℕ) → has 44 l ≡ true → sep_in l ≡ 44
unfolding sep_in
comma_sep l e = pick_true _ _ e

lines_sep : (ls : List (List ℕ)) (s : State) (n : ℕ) (p : Piece) (r : List ℕ) → run_lines tell_line ls s n ≡ ok p r → sep_of ls ≡ 44
unfolding run_lines sep_of
lines_sep [] s n p r e = refl
lines_sep (l ∷ ls) s n p r e =
    advance_ok (step_told s (tell_line l)) n _ p r e (λ t q z.
    by_test (passed_over (trimmed l))
    (λ y. pick_true _ _ y ∙ lines_sep ls t (suc n) p r z)
    (λ y.
    pick_false _ _ y
    ∙ told_good s (read_line (trimmed l)) t (ap (step_told s) (sym (tell_kept l y)) ∙ q) (λ x w. comma_sep (trimmed l) (line_kept (trimmed l) x w).comma)))

-- ---- a text with a mark has no piece

mark_field : (x : List ℕ) → read_field (239 ∷ x) ≡ refused 22 0
unfolding read_field field_of skip is_blank is_digit is_letter pick
mark_field x = refl

mark_line : (x : List ℕ) → read_line (239 ∷ x) ≡ bad 22
unfolding read_line all_fields read_fields of_fields and_then
mark_line x = ap (λ m. of_fields (and_then m (λ f r. onward f r (read_fields (length (239 ∷ x)))))) (mark_field x)

mark_kept : (x : List ℕ) → passed_over (239 ∷ x) ≡ false
unfolding passed_over skip is_blank is_comment pick
mark_kept x = refl

mark_trimmed : (x : List ℕ) → trimmed (239 ∷ 187 ∷ x) ≡ 239 ∷ trimmed (187 ∷ x)
unfolding trimmed
mark_trimmed x = refl

mark_told : (x : List ℕ) → tell_line (239 ∷ 187 ∷ x) ≡ told (bad 22)
mark_told x =
    let t = mark_trimmed x in
    tell_kept (239 ∷ 187 ∷ x) (ap passed_over t ∙ mark_kept (trimmed (187 ∷ x))) ∙ ap (λ z. told (read_line z)) t ∙ ap told (mark_line (trimmed (187 ∷ x)))

mark_run : {X : Type 0} (x : List ℕ) (ls : List (List ℕ)) (s : State) (n : ℕ) (p : Piece) (r : List ℕ) → run_lines tell_line ((239 ∷ 187 ∷ x) ∷ ls) s n ≡ ok p r → X
unfolding run_lines
mark_run x ls s n p r e =
    advance_ok (step_told s (tell_line (239 ∷ 187 ∷ x))) n _ p r e (λ t q z.
    told_good s (bad 22) t (ap (step_told s) (sym (mark_told x)) ∙ q) (λ y w. not_good w))

mark_lines : {X : Type 0} (ls : List (List ℕ)) (s : State) (n : ℕ) (p : Piece) (r : List ℕ) → run_lines tell_line (onto 239 (onto 187 ls)) s n ≡ ok p r → X
unfolding onto
mark_lines [] s n p r e = mark_run [] [] s n p r e
mark_lines (l ∷ ls) s n p r e = mark_run l ls s n p r e

marked_lines : (s : List ℕ) → lines_of (239 ∷ 187 ∷ s) ≡ onto 239 (onto 187 (lines_of s))
unfolding lines_of pick
marked_lines s = refl

no_mark : (s : List ℕ) (p : Piece) (r : List ℕ) → piece_of_text s ≡ ok p r → unmarked s ≡ s
unfolding unmarked piece_of_text piece_told
no_mark [] p r e = refl
no_mark (a ∷ []) p r e = refl
no_mark (a ∷ b ∷ []) p r e = refl
no_mark (a ∷ b ∷ c ∷ s) p r e =
    by_test (eqb a 239 && (eqb b 187 && eqb c 191))
    (λ t.
    let (x, y) = and_both (eqb a 239) (eqb b 187 && eqb c 191) t in
    let u = eqb-true a 239 x in
    let v = eqb-true b 187 (and_both (eqb b 187) (eqb c 191) y).0 in
    let z : run_lines tell_line (lines_of (239 ∷ 187 ∷ c ∷ s)) first 1 ≡ ok p r = rw (u, v) at e in
    mark_lines (lines_of (c ∷ s)) first 1 p r (ap (λ w. run_lines tell_line w first 1) (sym (marked_lines (c ∷ s))) ∙ z))
    (λ t. pick_false _ _ t)

-- ---- for every text

pub any_kept : (s : List ℕ) (p : Piece) → piece_of_text s ≡ ok p [] → piece_of_text (table_text s) ≡ ok p []
unfolding piece_of_text piece_told
any_kept s p e =
    let u = no_mark s p [] e in
    ap (λ z. run_lines tell_line z first 1)
    (table_lines_lem s ∙ ap (λ z. each_row (sep_of (lines_of z)) (lines_of z)) u ∙ ap (λ z. each_row z (lines_of s)) (lines_sep (lines_of s) first 1 p [] e))
    ∙ lines_same (lines_of s) first 1 p [] e
