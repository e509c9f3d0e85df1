-- Demand 3 of the definitions: accepted exactly where laid out, with that piece; and one layout has one piece.
use mathlib.Core.Path.{◌≡◌, refl, sym, ap, subst, ◌∙◌}
use Prim.Native.Nat.{ℕ, ◌≤◌}
use mathlib.Core.List.{List, []}
use mathlib.Core.Logic.{◌↔◌}
use lib.ListN.{length}
use borrow.Author.Tests.{le-leb}
use Rattle.event.specs.Bytes.{Bytes}
use Rattle.event.specs.Outcome.{ok}
use Rattle.event.proofs.OutcomeLaws.{check_ok, check_eq, readable_ok}
use Rattle.smf.specs.Piece.{Piece}
use Rattle.smf.specs.Layout.{LaidOut}
use Rattle.smf.specs.Reader.{read_piece, file_limit, read_file}
use Rattle.smf.specs.Answer.{verdict}
use Rattle.smf.specs.Demand3.{Demand3}
use Rattle.smf.specs.declared.Answer.{Answer}
use Rattle.smf.proofs.FileLaws.{piece_read_lem, file_sound}
use Rattle.smf.proofs.RefusalLaws.{judged_readable}
use Rattle.smf.proofs.PieceReadLaws.{piece_is}

-- a layout that is not too long is read as its piece
pub laid_read : (f : List ℕ) (p : Piece) → LaidOut f p → length f ≤ file_limit → read_file f ≡ ok p []
unfolding read_file
laid_read f p l k = check_eq 1 0 _ (le-leb (length f) file_limit k) ∙ ap read_piece (sym l.bytes) ∙ piece_read_lem p l.spelling l.has

-- a file is accepted with the piece p exactly where it is the layout of p with some permitted spelling, and not too long
pub demand_3 : (f : List ℕ) → Bytes f → (p : Piece) → (read_file f ≡ ok p []) ↔ (LaidOut f p × (length f ≤ file_limit))
demand_3 f bs p = (λ e. let (l, k) = file_sound f p [] bs e in (l.laid, k), λ (l, k). laid_read f p l k)

-- "no file of any length is the layout of two pieces"
pub one_piece : (f : List ℕ) (p q : Piece) → LaidOut f p → LaidOut f q → p ≡ q
one_piece f p q l m =
    let same : ok p [] ≡ ok q [] =
    sym (piece_read_lem p l.spelling l.has) ∙ ap read_piece (l.bytes ∙ sym m.bytes) ∙ piece_read_lem q m.spelling m.has
    in
    cc

-- ---- the verdict

zero_laid : (f : List ℕ) → Bytes f → (verdict (read_file f)).number ≡ 0 → (p : Piece) × LaidOut f p × (length f ≤ file_limit)
zero_laid f bs z =
    let (p, r, e) = readable_ok (read_file f) (judged_readable f _ bs refl z) in
    let (l, k) = file_sound f p r bs e in
    (p, l.laid, k)

-- "Accepted: checking the file answers number 0"
pub demand : (f : List ℕ) → Bytes f → Demand3 f (verdict (read_file f)).number
unfolding verdict read_file
demand f bs =
    record {
      accepted = (λ z. zero_laid f bs z, λ (p, l, k). ap (λ m. (verdict m).number) ((demand_3 f bs p).1 (l, k)));
      piece = λ p l k. piece_is f p [] bs (check_ok _ 1 0 _ p [] ((demand_3 f bs p).1 (l, k))).1;
      single = one_piece f;
    }

-- both parts of what check promises
pub judged : (f : List ℕ) (v : Answer) → Bytes f → v ≡ verdict (read_file f) → (v ≡ verdict (read_file f)) × Demand3 f v.number
judged f v bs e = (e, subst (λ (w : Answer). Demand3 f w.number) (sym e) (demand f bs))
