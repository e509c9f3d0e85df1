-- What tidying wrote is the manner 1 file of the piece, and is read as the file was; so it is tidied to itself.
use mathlib.Core.Path.{◌≡◌, refl, sym, ap, ◌∙◌}
use Prim.Native.Nat.{ℕ, ◌≤◌}
use mathlib.Core.List.{List}
use native.Mathlib.Omega.{arith}
use lib.ListN.{length, drop}
use lib.Seq.{take-append_seam}
use lib.Dec.{leb}
use borrow.Author.Tests.{le-leb}
use Rattle.event.specs.Bytes.{Bytes}
use Rattle.event.specs.Choice.{pick}
use Rattle.event.specs.Manner.{short}
use Rattle.event.specs.Outcome.{Outcome, ok, refused}
use Rattle.event.proofs.ChoiceLaws.{by_test}
use Rattle.event.proofs.RefusalLaws.{Fair}
use Rattle.smf.specs.Piece.{Piece}
use Rattle.smf.specs.Layout.{LaidOut}
use Rattle.smf.specs.Manner.{file_of}
use Rattle.smf.specs.Reader.{file_limit, read_file}
use Rattle.smf.specs.Writing.{write_answer, write_leaves, short_answer, short_leaves}
use Rattle.smf.proofs.DemandLaws.{laid_read}
use Rattle.smf.proofs.FileLaws.{file_sound}
use Rattle.smf.proofs.MannerLaws.{short_laid}
use Rattle.smf.proofs.RefusalLaws.{file_fair}
use Rattle.smf.proofs.SmallestLaws.{nothing_smaller}
use Rattle.smf_write.specs.Twice.{tidied, TidyTwice}

-- the file f was tidied into the room old
pub record Tidied (f old : List ℕ) : Type 0 where
  pub piece : Piece
  pub laid : LaidOut f piece
  pub small : length f ≤ file_limit
  pub size : (short_answer (length old) (read_file f)).length ≡ length (file_of short piece)
  pub written : tidied f old ≡ file_of short piece
  pub again : read_file (tidied f old) ≡ read_file f

tidied_with : (f old : List ℕ) (x : Outcome Piece) → Bytes f → read_file f ≡ x → Fair 13 (length f) x → (short_answer (length old) x).number ≡ 0 → Tidied f old
unfolding short_answer short_leaves write_answer write_leaves pick
tidied_with f old (refused n q) bs e fair z = absurd (omega (arith, fair.0.0, z))
tidied_with f old (ok p r) bs e fair z =
    let (there, k) = file_sound f p r bs e in
    let w : List ℕ = file_of short p in
    let small : length w ≤ file_limit = omega (arith, nothing_smaller.never_longer f p there.laid, k) in
    let u = le-leb (length w) file_limit small in
    by_test (leb (length w) (length old))
    (λ t.
    let written : tidied f old ≡ w = rw (e, u, t) (take-append_seam w (drop (length w) old)) in
    record {
      piece = p;
      laid = there.laid;
      small = k;
      size = rw (e, u, t) refl;
      written = written;
      again = ap read_file written ∙ laid_read w p (short_laid f p there.laid) small ∙ sym (laid_read f p there.laid k);
    })
    (λ t. absurd (omega (arith, rw (u, t) at z)))

-- a call that answers 0 wrote it
pub tidied_file : (f old : List ℕ) → Bytes f → (short_answer (length old) (read_file f)).number ≡ 0 → Tidied f old
tidied_file f old bs z = tidied_with f old (read_file f) bs refl (file_fair f bs) z

pub tidy_twice : TidyTwice
tidy_twice =
    record {
      answer = λ f old other bs z. ap (short_answer (length other)) (tidied_file f old bs z).again;
      leaves = λ f old other bs z. ap (λ x. short_leaves x other) (tidied_file f old bs z).again;
    }
