-- The way through a spreadsheet, for calls.
use mathlib.Core.Path.{◌≡◌, ap, ◌∙◌}
use Prim.Native.Nat.{ℕ, ◌≤◌}
use mathlib.Core.List.{List, []}
use native.Mathlib.Omega.{arith}
use lib.ListN.{length, take}
use lib.Dec.{leb}
use borrow.Author.Tests.{leb-true, leb-false, le-leb, lt-leb}
use Rattle.event.specs.Choice.{pick}
use Rattle.event.specs.Outcome.{ok}
use Rattle.event.proofs.ChoiceLaws.{by_test}
use Rattle.smf.specs.Piece.{Piece}
use Rattle.smf.specs.Answer.{refusal}
use Rattle.smf.proofs.DemandLaws.{laid_read}
use Rattle.midicsv.specs.Show.{as_sheet}
use Rattle.midicsv.specs.PieceOfText.{piece_of_text, text_limit}
use Rattle.midicsv.proofs.TextReadLaws.{written_small}
use Rattle.sheet_table.specs.Table.{table_text}
use Rattle.sheet_table.specs.TableAnswer.{table_limit, table_answer, table_leaves}
use Rattle.sheet_table.specs.Ways.{saved}
use Rattle.sheet_table.proofs.AnyKeptLaws.{any_kept}
use Rattle.sheet_table.proofs.SavedReadLaws.{saved_read}
use Rattle.noferkash.specs.Packed.{number_of, length_of}
use Rattle.noferkash.specs.Calls.{TableCall}
use Rattle.noferkash.specs.SheetCalls.{WritesTable, GivesFile, SheetCalls}
use Rattle.noferkash.proofs.PackedLaws.{taken_apart}
use Rattle.noferkash.proofs.Demand2.{room_writes, piece_writes, taken_writes, whole_written, from_file}

table_writes : (s old : List ℕ) (r : ℕ) (new : List ℕ) → TableCall s old r new → WritesTable s old r new
unfolding table_answer table_leaves pick
table_writes s old r new c =
    record {
      long = λ h. let t = lt-leb (length s) table_limit h in (taken_apart r (refusal 38 0) (rw t at c.0) (record { place = omega arith; length = omega arith }), rw t at c.1);
      long_text = λ g h.
          let t = le-leb (length s) table_limit g in
          let u = lt-leb (length (table_text s)) text_limit h in
          (taken_apart r (refusal 21 0) (rw (t, u) at c.0) (record { place = omega arith; length = omega arith }), rw (t, u) at c.1);
      short = λ g h.
          let t = le-leb (length s) table_limit g in
          let u = le-leb (length (table_text s)) text_limit h in
          room_writes (table_text s) old r new h (rw (t, u) at c.0) (rw (t, u) at c.1);
    }

-- a call that succeeded wrote the text of the table
table_written : (s old : List ℕ) (r : ℕ) (new : List ℕ) → TableCall s old r new → number_of r ≡ 0 → (take (length_of r) new ≡ table_text s) × (length (table_text s) ≤ text_limit)
table_written s old r new c z =
    let w = table_writes s old r new c in
    by_test (leb (length s) table_limit)
    (λ t.
    let g = leb-true (length s) table_limit t in
    by_test (leb (length (table_text s)) text_limit)
    (λ u. let h = leb-true (length (table_text s)) text_limit u in (whole_written (table_text s) old r new (w.short g h) z, h))
    (λ u. let (a, e) = w.long_text g (leb-false (length (table_text s)) text_limit u) in absurd (omega (arith, z, a.number))))
    (λ t. let (a, e) = w.long (leb-false (length s) table_limit t) in absurd (omega (arith, z, a.number)))

gives_file : (s : List ℕ) (p : Piece) (old : List ℕ) (r : ℕ) (new : List ℕ) → piece_of_text (table_text s) ≡ ok p [] → TableCall s old r new → GivesFile p r new
gives_file s p old r new piece c = λ manner other r' new' z h c'.
    let (e, k) = table_written s old r new c z in
    taken_writes (take (length_of r) new) p manner other r' new' (record { piece = ap piece_of_text e ∙ piece; short = omega (arith, ap length e, k) }) h c'

pub sheet_calls : SheetCalls
sheet_calls =
    record {
      sheet = λ f p old r new l k c. piece_writes as_sheet p f old r new (laid_read f p l k) (written_small as_sheet f p l k) c.0 c.1;
      from_file = λ f old r new bs c z. from_file as_sheet f old r bs c.0 z;
      table = table_writes;
      kept = λ f p w old r new l c. gives_file (saved w p) p old r new (saved_read f p w l) c;
      any = λ s p old r new t c. gives_file s p old r new (any_kept s p t.piece) c;
    }
