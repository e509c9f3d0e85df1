-- A record taken by its name, and a line: passed over, refused, or the row that was read from it.
use mathlib.Core.Path.{◌≡◌, sym, ap, subst, ◌∙◌}
use Prim.Native.Nat.{ℕ, ◌≤◌}
use mathlib.Core.Bool.{true, false}
use mathlib.Core.List.{List, [], ◌∷◌}
use Rattle.std.proofs.lemmas.List.{get_or-take}
use Rattle.midicsv.proofs.KindAcceptedLaws.{nth_in}
use native.Mathlib.Omega.{arith}
use lib.ListN.{length, get_or}
use Rattle.event.specs.Bytes.{Bytes}
use Rattle.event.specs.Manner.{Manner}
use Rattle.event.proofs.ChoiceLaws.{pick_true, pick_false}
use Rattle.smf.specs.Division.{division_ok}
use Rattle.midicsv.specs.Table.{range, division, shape}
use Rattle.midicsv.specs.Record.{Record}
use Rattle.midicsv.specs.Result.{Result, good, bad, next}
use Rattle.midicsv.specs.ReadRecord.{read_line}
use Rattle.midicsv.specs.Lines.{trimmed, passed_over}
use Rattle.midicsv.specs.Order.{State, step}
use Rattle.midicsv.specs.PieceOfText.{skipped, told, framed, tell_line, step_told, text_limit}
use Rattle.midicsv.proofs.RowLaws.{InColumn, InColumns}
use Rattle.midicsv.proofs.RecordAcceptedLaws.{line_given}
use Rattle.midicsv_record.specs.Name.{name_at}
use Rattle.midicsv_record.specs.declared.Name.{Name}
use Rattle.midicsv_record.specs.Row.{body_in, columns_in, record_in, line_as, Placed}
use Rattle.midicsv_read.specs.Progress.{Answers, Follows, Near, header_step, start_step, end_step, row_step, line_step, RowOf}
use Rattle.midicsv_record.specs.declared.Row.{Row}
use Rattle.midicsv_read.specs.declared.Progress.{Progress}
use Rattle.std.specs.Prelude.{Ok, Err, Result as CodeResult}
use Rattle.event.specs.Refusal.{number_of}
use Rattle.event.specs.declared.refusal.Refusal.{Refusal}

pub near_wider : (n m : ℕ) (r : CodeResult Progress Refusal) → n ≤ m → Near n r → Near m r
near_wider n m (Ok st) h k = omega arith
near_wider n m (Err j) h k = tt

-- steps that are the same in every state
follows_same : (m : Manner) (st : Progress) (out : List ℕ) (f g : State → Result State) (r : CodeResult Progress Refusal) (new : List ℕ) → ((s : State) → g s ≡ f s) → Follows m st out f r new → Follows m st out g r new
follows_same m st out f g r new e h s old a = subst (λ x. Answers m x old r new) (sym (e s)) (h s old a)

-- ---- by its name

module _ (m : Manner) (st : Progress) (out : List ℕ) (l : List ℕ) (row : Row) (r : CodeResult Progress Refusal) (new : List ℕ) where
  header_named : (s : State) → row.name ≡ Name.Header → row_step l row s ≡ header_step row s
  unfolding step shape body_in
  header_named s e = rw e

  start_named : (s : State) → row.name ≡ Name.StartTrack → row_step l row s ≡ start_step row s
  unfolding step shape body_in
  start_named s e = rw e

  end_named : (s : State) → row.name ≡ Name.EndOfFile → row_step l row s ≡ end_step row s
  unfolding step shape body_in
  end_named s e = rw e

  pub row_header : row.name ≡ Name.Header → Follows m st out (header_step row) r new → Follows m st out (row_step l row) r new
  row_header e f = follows_same m st out (header_step row) (row_step l row) r new (λ s. header_named s e) f

  pub row_start : row.name ≡ Name.StartTrack → Follows m st out (start_step row) r new → Follows m st out (row_step l row) r new
  row_start e f = follows_same m st out (start_step row) (row_step l row) r new (λ s. start_named s e) f

  pub row_end_lem : row.name ≡ Name.EndOfFile → Follows m st out (end_step row) r new → Follows m st out (row_step l row) r new
  row_end_lem e f = follows_same m st out (end_step row) (row_step l row) r new (λ s. end_named s e) f

-- the number of tracks is in its range, and the division's bits are those of a division
pub header_numbers : (l : List ℕ) (row : Row) → Bytes l → RowOf l row → row.name ≡ Name.Header → (get_or row.columns 1 0 ≤ 65535) × (division_ok (get_or row.columns 2 0) ≡ true)
unfolding shape InColumns InColumn
header_numbers l row b k e =
    let c : InColumns (shape (name_at row.name)).columns (columns_in row) = (line_given l (record_in l row) b k.reads).columns in
    let d = rw e at c in
    let count = rw (get_or-take 3 row.columns 1 0 (omega arith)) at (nth_in (range 0 2 ∷ range 1 65535 ∷ division ∷ []) _ 1 d (omega arith)) in
    let bits = rw (get_or-take 3 row.columns 2 0 (omega arith)) at (nth_in (range 0 2 ∷ range 1 65535 ∷ division ∷ []) _ 2 d (omega arith)) in
    (omega (arith, count), bits)

-- ---- a line and its row

pub row_of_lem : (l : List ℕ) (row : Row) → line_as l (Ok row) ≡ read_line l → Placed l (Ok row) → length l ≤ text_limit → RowOf l row
unfolding line_as Placed
row_of_lem l row e p h = record { reads = sym e; start = p.0; len = p.1; short = h }

pub wrong_of : (l : List ℕ) (r : Refusal) → line_as l (Err r) ≡ read_line l → read_line l ≡ bad (number_of r)
unfolding line_as
wrong_of l r e = sym e

-- b is the line l without its CR
module _ (m : Manner) (st : Progress) (out l b : List ℕ) (cut : b ≡ trimmed l) where
  over : passed_over b ≡ true → tell_line l ≡ skipped
  unfolding tell_line framed
  over h = rw (← cut) (pick_true skipped (told (read_line b)) h)

  tells : passed_over b ≡ false → tell_line l ≡ told (read_line b)
  unfolding tell_line framed
  tells h = rw (← cut) (pick_false skipped (told (read_line b)) h)

  pub line_over : passed_over b ≡ true → Follows m st out (line_step l) (Ok st) out
  unfolding step_told
  line_over h s old a = (s, ap (step_told s) (over h), a)

  pub line_wrong : (new : List ℕ) (n : Refusal) → passed_over b ≡ false → read_line b ≡ bad (number_of n) → Follows m st out (line_step l) (Err n) new
  unfolding step_told next
  line_wrong new n h e s old a = ap (step_told s) (tells h ∙ ap told e)

  pub line_taken : (new : List ℕ) (r : Record) (x : CodeResult Progress Refusal) → passed_over b ≡ false → read_line b ≡ good r → Follows m st out (λ s. step s r) x new → Follows m st out (line_step l) x new
  unfolding step_told next
  line_taken new r x h e f = follows_same m st out (λ s. step s r) (line_step l) x new (λ s. ap (step_told s) (tells h ∙ ap told e)) f
