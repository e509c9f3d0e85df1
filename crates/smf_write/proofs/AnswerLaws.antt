-- Tidying's answers: they fit the exported number, and give no length above the file's.
use mathlib.Core.Path.{◌≡◌, refl}
use Prim.Native.Nat.{ℕ, ◌≤◌}
use mathlib.Core.List.{List, ◌++◌}
use native.Mathlib.Omega.{arith}
use lib.ListN.{length, drop}
use lib.Dec.{leb}
use borrow.Author.Tests.{leb-false, le-leb}
use Rattle.event.specs.Bytes.{Bytes}
use Rattle.event.specs.Choice.{pick}
use Rattle.event.specs.Manner.{short}
use Rattle.event.specs.Outcome.{Outcome, ok, refused}
use Rattle.event.proofs.ChoiceLaws.{by_test}
use Rattle.event.proofs.RefusalLaws.{Fair}
use Rattle.smf.specs.Piece.{Piece}
use Rattle.smf.specs.Layout.{LaidOut}
use Rattle.smf.specs.Manner.{file_of}
use Rattle.smf.specs.Reader.{file_limit, read_file}
use Rattle.smf.specs.Answer.{success, verdict}
use Rattle.smf.specs.Writing.{write_answer, write_leaves, short_answer, short_leaves}
use Rattle.smf.proofs.DemandLaws.{laid_read}
use Rattle.smf.proofs.FileLaws.{file_sound}
use Rattle.smf.proofs.MannerLaws.{short_laid}
use Rattle.smf.proofs.RefusalLaws.{file_fair, place_small}
use Rattle.smf.proofs.SmallestLaws.{nothing_smaller}
use Rattle.smf.proofs.WritingLaws.{Fits28, write_fits}

fits_with : (room : ℕ) (x : Outcome Piece) → (verdict x).place ≤ file_limit → Fits28 (short_answer room x)
unfolding short_answer verdict
fits_with room (ok p r) h = write_fits room (length (file_of short p))
fits_with room (refused n q) h = record { place = omega (arith, h); length = omega arith }

pub answer_fits : (room : ℕ) (f : List ℕ) → Bytes f → Fits28 (short_answer room (read_file f))
answer_fits room f bs = fits_with room (read_file f) (place_small f bs)

-- ---- never longer

-- the length, written or needed, is at most the file's; so a room as long as the file is enough
abbrev pub NoLonger : ℕ → List ℕ → Outcome Piece → Type 0
NoLonger room f x = ((short_answer room x).length ≤ length f) × (length f ≤ room → (short_answer room x).number ≡ 14 → ⊥)

longer_with : (room : ℕ) (f : List ℕ) (x : Outcome Piece) → Bytes f → read_file f ≡ x → Fair 13 (length f) x → NoLonger room f x
unfolding short_answer write_answer pick
longer_with room f (refused n q) bs e fair = (omega arith, λ h z. omega (arith, fair.0, z))
longer_with room f (ok p r) bs e fair =
    let (there, k) = file_sound f p r bs e in
    let fewer = nothing_smaller.never_longer f p there.laid in
    let small : length (file_of short p) ≤ file_limit = omega (arith, fewer, k) in
    let u = le-leb (length (file_of short p)) file_limit small in
    by_test (leb (length (file_of short p)) room)
    (λ t. rw (u, t) (omega (arith, fewer), λ h z. omega (arith, z)))
    (λ t. let past = leb-false (length (file_of short p)) room t in rw (u, t) (omega (arith, fewer), λ h z. omega (arith, h, past, fewer)))

pub no_longer : (room : ℕ) (f : List ℕ) → Bytes f → NoLonger room f (read_file f)
no_longer room f bs = longer_with room f (read_file f) bs refl (file_fair f bs)

-- ---- tidying the manner 1 file of a piece gives it back

pub record TidiedToItself (p : Piece) (old : List ℕ) : Type 0 where
  pub answer : short_answer (length old) (read_file (file_of short p)) ≡ success (length (file_of short p))
  pub contents : short_leaves (read_file (file_of short p)) old ≡ file_of short p ++ drop (length (file_of short p)) old

pub tidy_again : (f : List ℕ) (p : Piece) → LaidOut f p → (old : List ℕ) → length (file_of short p) ≤ file_limit → length (file_of short p) ≤ length old → TidiedToItself p old
unfolding short_answer short_leaves write_answer write_leaves pick
tidy_again f p l old h g =
    let e = laid_read (file_of short p) p (short_laid f p l) h in
    let x = le-leb (length (file_of short p)) file_limit h in
    let y = le-leb (length (file_of short p)) (length old) g in
    record { answer = rw (e, x, y) refl; contents = rw (e, x, y) refl }
