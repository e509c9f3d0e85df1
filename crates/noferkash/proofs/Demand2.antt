-- Demand 2 for calls: file to text to file, and text to file to text.
use mathlib.Core.Path.{◌≡◌, refl, ap, ap₂, ◌∙◌}
use Prim.Native.Nat.{ℕ, ◌+◌, ◌≤◌}
use mathlib.Core.List.{List, [], ◌++◌}
use native.Mathlib.Omega.{arith}
use lib.ListN.{length, take, drop}
use lib.Seq.{take-append_seam}
use lib.Dec.{leb}
use borrow.Author.Tests.{leb-true, leb-false, le-leb, lt-leb}
use Rattle.event.specs.Bytes.{Bytes}
use Rattle.event.specs.Choice.{pick}
use Rattle.event.specs.Outcome.{Outcome, ok, refused}
use Rattle.event.proofs.ChoiceLaws.{by_test}
use Rattle.event.proofs.RefusalLaws.{Fair}
use Rattle.smf.specs.Piece.{Piece}
use Rattle.smf.specs.Layout.{LaidOut}
use Rattle.smf.specs.Manner.{file_of}
use Rattle.smf.specs.Reader.{file_limit, read_file}
use Rattle.smf.specs.Writing.{write_answer, write_leaves}
use Rattle.smf.specs.Answer.{success, refusal, room_needed, verdict}
use Rattle.smf.proofs.DemandLaws.{laid_read}
use Rattle.smf.proofs.MannerLaws.{manner_laid}
use Rattle.smf.proofs.FileLaws.{file_sound}
use Rattle.smf.proofs.RefusalLaws.{file_fair}
use Rattle.midicsv.specs.Show.{Form, as_text}
use Rattle.midicsv.specs.Text.{written_as, text_of}
use Rattle.midicsv.specs.PieceOfText.{piece_of_text, text_limit}
use Rattle.midicsv.proofs.TextReadLaws.{written_read, written_small}
use Rattle.midicsv.proofs.AcceptedLaws.{accepted_laid}
use Rattle.midicsv.proofs.RefusedLaws.{TextFair, text_fair}
use Rattle.midicsv_write.specs.ToText.{written_answer, written_leaves}
use Rattle.midicsv_read.specs.ToFile.{manner_numbered, piece_answer, piece_leaves, file_answer, file_leaves}
use Rattle.noferkash.specs.Packed.{packed, number_of, length_of}
use Rattle.noferkash.specs.Calls.{TextCall, FileCall}
use Rattle.noferkash.specs.Demand2.{Writes, WritesFile, FileKept, TextKept, Taken, Demand2}
use Rattle.noferkash.proofs.PackedLaws.{taken_apart, not_zero}

-- ---- what one call writes

-- a call that writes whole into a room, and does nothing else
pub room_writes : (whole old : List ℕ) (r : ℕ) (new : List ℕ) → length whole ≤ text_limit
    → r ≡ packed (pick (leb (length whole) (length old)) (success (length whole)) (room_needed (length whole)))
    → new ≡ pick (leb (length whole) (length old)) (whole ++ drop (length whole) old) old → Writes whole old r new
unfolding pick
room_writes whole old r new k answer leaves =
    record {
      fits = λ h. let t = le-leb (length whole) (length old) h in (taken_apart r (success (length whole)) (rw t at answer) (record { place = omega arith; length = omega (arith, k) }), rw t at leaves);
      room = λ h. let t = lt-leb (length whole) (length old) h in (taken_apart r (room_needed (length whole)) (rw t at answer) (record { place = omega arith; length = omega (arith, k) }), rw t at leaves);
    }

-- file_to_text and file_to_sheet on a file that is read
pub piece_writes : (w : Form) (p : Piece) (f old : List ℕ) (r : ℕ) (new : List ℕ) → read_file f ≡ ok p [] → length (written_as w p) ≤ text_limit
    → r ≡ packed (written_answer w (length old) (read_file f)) → new ≡ written_leaves w (read_file f) old → Writes (written_as w p) old r new
unfolding written_answer written_leaves
piece_writes w p f old r new e k answer leaves =
    room_writes (written_as w p) old r new k (answer ∙ ap (λ x. packed (written_answer w (length old) x)) e) (leaves ∙ ap (λ x. written_leaves w x old) e)

pub file_writes : (w old : List ℕ) (r : ℕ) (new : List ℕ) → r ≡ packed (write_answer (length old) (length w)) → new ≡ write_leaves w old → WritesFile w old r new
unfolding write_answer write_leaves pick
file_writes w old r new answer leaves =
    record {
      long = λ h. let t = lt-leb (length w) file_limit h in (taken_apart r (refusal 29 0) (rw t at answer) (record { place = omega arith; length = omega arith }), rw t at leaves);
      short = λ k. let u = le-leb (length w) file_limit k in
          record {
            fits = λ h. let t = le-leb (length w) (length old) h in (taken_apart r (success (length w)) (rw (u, t) at answer) (record { place = omega arith; length = omega (arith, k) }), rw (u, t) at leaves);
            room = λ h. let t = lt-leb (length w) (length old) h in (taken_apart r (room_needed (length w)) (rw (u, t) at answer) (record { place = omega arith; length = omega (arith, k) }), rw (u, t) at leaves);
          };
    }

-- text_to_file on a text that has a piece: its file, refused only for length (29) or room (14)
pub taken_writes : (s : List ℕ) (p : Piece) (manner : ℕ) (old : List ℕ) (r : ℕ) (new : List ℕ) → Taken s p → manner ≤ 1 → FileCall s manner old r new
    → WritesFile (file_of (manner_numbered manner) p) old r new
unfolding file_answer file_leaves piece_answer piece_leaves pick
taken_writes s p manner old r new t h c =
    let m = le-leb manner 1 h in
    let k = le-leb (length s) text_limit t.short in
    file_writes (file_of (manner_numbered manner) p) old r new (rw (m, k, t.piece) at c.0) (rw (m, k, t.piece) at c.1)

-- a call that succeeded wrote all of it
pub whole_written : (whole old : List ℕ) (r : ℕ) (new : List ℕ) → Writes whole old r new → number_of r ≡ 0 → take (length_of r) new ≡ whole
whole_written whole old r new w z =
    by_test (leb (length whole) (length old))
    (λ t. let (a, e) = w.fits (leb-true (length whole) (length old) t) in ap₂ take a.length e ∙ take-append_seam whole (drop (length whole) old))
    (λ t. let (a, e) = w.room (leb-false (length whole) (length old) t) in absurd (omega (arith, z, a.number)))

pub whole_file : (whole old : List ℕ) (r : ℕ) (new : List ℕ) → WritesFile whole old r new → number_of r ≡ 0 → (take (length_of r) new ≡ whole) × (length whole ≤ file_limit)
whole_file whole old r new w z =
    by_test (leb (length whole) file_limit)
    (λ t. let k = leb-true (length whole) file_limit t in (whole_written whole old r new (w.short k) z, k))
    (λ t. let (a, e) = w.long (leb-false (length whole) file_limit t) in absurd (omega (arith, z, a.number)))

-- ---- file to text to file

file_kept : (f : List ℕ) (p : Piece) (old : List ℕ) (r : ℕ) (new : List ℕ) → LaidOut f p → length f ≤ file_limit → TextCall f old r new → FileKept p old r new
file_kept f p old r new l k c =
    let small = written_small as_text f p l k in
    let text = piece_writes as_text p f old r new (laid_read f p l k) small c.0 c.1 in
    record {
      text = text;
      back = λ manner other r' new' z h c'.
          let s = take (length_of r) new in
          let e : s ≡ text_of p = whole_written (text_of p) old r new text z in
          taken_writes s p manner other r' new' (record { piece = ap piece_of_text e ∙ written_read as_text f p l; short = omega (arith, ap length e, small) }) h c';
      same = λ manner g. laid_read (file_of (manner_numbered manner) p) p (manner_laid (manner_numbered manner) f p l k) g;
    }

from_file_with : (w : Form) (f old : List ℕ) (r : ℕ) (x : Outcome Piece) → Bytes f → read_file f ≡ x → Fair 13 (length f) x → r ≡ packed (written_answer w (length old) x) → number_of r ≡ 0
    → (p : Piece) × LaidOut f p × (length f ≤ file_limit)
unfolding written_answer
from_file_with w f old r (ok p q) bs e fair c z = let (laid, short) = file_sound f p q bs e in (p, laid.laid, short)
from_file_with w f old r (refused n l) bs e fair c z = absurd (not_zero r (refusal n l) c fair.0.0 z)

pub from_file : (w : Form) (f old : List ℕ) (r : ℕ) → Bytes f → r ≡ packed (written_answer w (length old) (read_file f)) → number_of r ≡ 0 → (p : Piece) × LaidOut f p × (length f ≤ file_limit)
from_file w f old r bs c z = from_file_with w f old r (read_file f) bs refl (file_fair f bs) c z

-- ---- text to file to text

text_kept : (s : List ℕ) (p : Piece) (manner : ℕ) (old : List ℕ) (r : ℕ) (new : List ℕ) → Bytes s → Taken s p → manner ≤ 1 → FileCall s manner old r new → TextKept p manner old r new
unfolding verdict
text_kept s p manner old r new bs t h c =
    let w = file_of (manner_numbered manner) p in
    let laid : LaidOut w p = accepted_laid s p [] bs t.short t.piece (manner_numbered manner) in
    let file = taken_writes s p manner old r new t h c in
    let piece : number_of r ≡ 0 → read_file (take (length_of r) new) ≡ ok p [] = λ z. let (e, k) = whole_file w old r new file z in ap read_file e ∙ laid_read w p laid k in
    record {
      file = file;
      accepted = λ r' z c'. c' ∙ ap (λ x. packed (verdict x)) (piece z);
      piece = piece;
      text = λ other r' new' z c'. let (e, k) = whole_file w old r new file z in piece_writes as_text p (take (length_of r) new) other r' new' (piece z) (written_small as_text w p laid k) c'.0 c'.1;
      again = written_read as_text w p laid;
    }

from_text_with : (s : List ℕ) (manner room r : ℕ) (x : Outcome Piece) → TextFair (length s + 1) x → length s ≤ text_limit → piece_of_text s ≡ x
    → r ≡ packed (piece_answer (manner_numbered manner) room x) → number_of r ≡ 0 → (p : Piece) × Taken s p
unfolding piece_answer
from_text_with s manner room r (ok p q) fair k e c z = (p, record { piece = e ∙ ap (ok p) fair; short = k })
from_text_with s manner room r (refused n l) fair k e c z = absurd (not_zero r (refusal n l) c fair.0 z)

from_text : (s : List ℕ) (manner : ℕ) (old : List ℕ) (r : ℕ) (new : List ℕ) → FileCall s manner old r new → number_of r ≡ 0 → (manner ≤ 1) × ((p : Piece) × Taken s p)
unfolding file_answer pick
from_text s manner old r new c z =
    by_test (leb manner 1)
    (λ t.
    by_test (leb (length s) text_limit)
    (λ u. (leb-true manner 1 t, from_text_with s manner (length old) r (piece_of_text s) (text_fair s) (leb-true (length s) text_limit u) refl (rw (t, u) at c.0) z))
    (λ u. absurd (not_zero r (refusal 21 0) (rw (t, u) at c.0) (omega arith) z)))
    (λ t. absurd (not_zero r (refusal 30 0) (rw t at c.0) (omega arith) z))

pub demand_2 : Demand2
demand_2 =
    record {
      file = file_kept;
      text = text_kept;
      from_file = λ f old r new bs c z. from_file as_text f old r bs c.0 z;
      from_text = from_text;
    }
