-- The answers of text to file: one law for each exit.
use mathlib.Core.Path.{◌≡◌, refl, sym, ap₂, ◌∙◌}
use Prim.Native.Nat.{ℕ, ◌<◌, ◌≤◌}
use mathlib.Core.List.{List, [], ◌∷◌}
use native.Mathlib.Omega.{arith}
use lib.ListN.{length}
use lib.Seq.{sets}
use borrow.Author.Tests.{le-leb, lt-leb}
use Rattle.event.specs.Choice.{pick}
use Rattle.event.specs.Manner.{Manner}
use Rattle.event.specs.Outcome.{Outcome, ok, refused}
use Rattle.event_write.proofs.WriteLaws.{put_whole}
use Rattle.smf.specs.Piece.{Piece}
use Rattle.smf.specs.Reader.{file_limit}
use Rattle.smf.specs.Manner.{file_of}
use Rattle.smf.specs.Answer.{success, refusal, room_needed}
use Rattle.smf.specs.Writing.{write_answer, write_leaves}
use Rattle.smf.specs.declared.Answer.{Answer}
use Rattle.midicsv.specs.PieceOfText.{piece_of_text, text_limit}
use Rattle.midicsv_read.specs.ToFile.{manner_numbered, piece_answer, piece_leaves, file_answer, file_leaves}
use Rattle.midicsv_read.specs.Progress.{length_of, Leaves}

-- the answer and what the room holds afterwards
abbrev Right : List ℕ → ℕ → List ℕ → Answer → List ℕ → Type 0
Right text manner old a new = (a ≡ file_answer text manner (length old)) × (new ≡ file_leaves text manner old)

pub wrong_manner : (text : List ℕ) (manner : ℕ) (old : List ℕ) → 1 < manner → Right text manner old (refusal 30 0) old
unfolding file_answer file_leaves pick
wrong_manner text manner old h = rw (lt-leb manner 1 h) (refl, refl)

pub long_text_lem : (text : List ℕ) (manner : ℕ) (old : List ℕ) → manner ≤ 1 → text_limit < length text → Right text manner old (refusal 21 0) old
unfolding file_answer file_leaves pick
long_text_lem text manner old h k = rw (le-leb manner 1 h, lt-leb (length text) text_limit k) (refl, refl)

-- ---- what a pass has found

stopped_is : (m : Manner) (x : Outcome Piece) (k n : ℕ) → refused k n ≡ length_of m x → x ≡ refused k n
unfolding length_of
stopped_is m (ok p r) k n e = let z : ◌≡◌ {A = ℕ} 0 1 = cc in absurd (omega arith)
stopped_is m (refused j q) k n e = let a : k ≡ j = cc in let b : n ≡ q = cc in ap₂ refused (sym a) (sym b)

whole_is : {X : Type 0} (m : Manner) (x : Outcome Piece) (n : ℕ) → ok n [] ≡ length_of m x → ((p : Piece) (r : List ℕ) → x ≡ ok p r → n ≡ length (file_of m p) → X) → X
unfolding length_of
whole_is m (ok p r) n e f = f p r refl cc
whole_is m (refused j q) n e f = let z : ◌≡◌ {A = ℕ} 0 1 = cc in absurd (omega arith)

module _ (text : List ℕ) (manner : ℕ) (old : List ℕ) (h : manner ≤ 1) (k : length text ≤ text_limit) where
  abbrev M : Manner
  M = manner_numbered manner

  -- the piece of the text decides
  decides : (a : Answer) (new : List ℕ) → a ≡ piece_answer M (length old) (piece_of_text text) → new ≡ piece_leaves M (piece_of_text text) old → Right text manner old a new
  unfolding file_answer file_leaves pick
  decides a new e f = rw (le-leb manner 1 h, le-leb (length text) text_limit k) (e, f)

  pub refused_text : (n line : ℕ) → refused n line ≡ length_of M (piece_of_text text) → Right text manner old (refusal n line) old
  unfolding piece_answer piece_leaves
  refused_text n line e =
      let x : piece_of_text text ≡ refused n line = stopped_is M (piece_of_text text) n line e in
      decides (refusal n line) old (rw x refl) (rw x refl)

  module _ (n : ℕ) (e : ok n [] ≡ length_of M (piece_of_text text)) where
    pub long_file : file_limit < n → Right text manner old (refusal 29 0) old
    unfolding piece_answer piece_leaves write_answer write_leaves pick
    long_file b =
        whole_is M (piece_of_text text) n e (λ p r x size.
        let t = lt-leb n file_limit b in
        decides (refusal 29 0) old (rw (x, ← size, t) refl) (rw (x, ← size, t) refl))

    pub small_room : n ≤ file_limit → length old < n → Right text manner old (room_needed n) old
    unfolding piece_answer piece_leaves write_answer write_leaves pick
    small_room b g =
        whole_is M (piece_of_text text) n e (λ p r x size.
        let t = le-leb n file_limit b in
        let u = lt-leb n (length old) g in
        decides (room_needed n) old (rw (x, ← size, t, u) refl) (rw (x, ← size, t, u) refl))

    pub written_file : (new : List ℕ) → n ≤ file_limit → n ≤ length old → Leaves M (piece_of_text text) old new → Right text manner old (success n) new
    unfolding piece_answer piece_leaves write_answer write_leaves pick Leaves
    written_file new b g w =
        whole_is M (piece_of_text text) n e (λ p r x size.
        let t = le-leb n file_limit b in
        let u = le-leb n (length old) g in
        let v : new ≡ sets old 0 (file_of M p) = rw x at w in
        decides (success n) new (rw (x, ← size, t, u) refl) (rw (x, ← size, t, u) (v ∙ put_whole (file_of M p) old n size g)))

-- a room of no bytes
pub no_room : (l : List ℕ) → length l ≡ 0 → l ≡ []
no_room [] h = refl
no_room (b ∷ l) h = absurd (omega arith)
