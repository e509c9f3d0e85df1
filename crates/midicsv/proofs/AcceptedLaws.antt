-- An accepted text has a lawful piece, which has a layout in either manner, of few bytes more than the text.
use mathlib.Core.Path.{◌≡◌, refl, subst}
use Prim.Native.Nat.{ℕ, suc, ◌+◌, ◌*◌, ◌≤◌}
use mathlib.Core.Bool.{Bool, true, false}
use mathlib.Core.List.{List, [], ◌∷◌}
use native.Mathlib.Omega.{arith}
use lib.ListN.{length}
use lib.Dec.{eqb}
use Rattle.event.specs.Choice.{pick}
use Rattle.event.specs.Bytes.{Bytes}
use Rattle.event.specs.Outcome.{Outcome, ok}
use Rattle.event.specs.Manner.{Manner}
use Rattle.event.proofs.ChoiceLaws.{by_test}
use Rattle.event.proofs.OutcomeLaws.{not_ok, ok_same}
use Rattle.smf.specs.Piece.{Piece, LawfulPiece}
use Rattle.smf.specs.Chunk.{AllPassed}
use Rattle.smf.specs.Layout.{LaidOut}
use Rattle.smf.specs.Manner.{spell_tracks, spelling, file_of}
use Rattle.midicsv.specs.Result.{Result, good, bad}
use Rattle.midicsv.specs.ReadRecord.{read_line}
use Rattle.midicsv.specs.Lines.{onto, lines_of, trimmed, passed_over}
use Rattle.midicsv.specs.Order.{State, first, between, inside, finished, step}
use Rattle.midicsv.specs.PieceOfText.{skipped, told, framed, tell_line, step_told, advance, ended, run_lines, piece_told, piece_of_text, text_limit}
use Rattle.midicsv.proofs.ResultLaws.{good_same, next_good}
use Rattle.midicsv.proofs.LayableLaws.{tracks_permitted, tracks_short}
use Rattle.midicsv.proofs.RecordAcceptedLaws.{line_given}
use Rattle.midicsv.proofs.StateLaws.{PieceOk, StateOk, state_more, step_ok}

-- ---- the lines of a text

-- bytes, at most n
abbrev Short : ℕ → List ℕ → Type 0
Short n l = Bytes l × (length l ≤ n)

abbrev AllShort : ℕ → List (List ℕ) → Type 0
AllShort n [] = Unit {0}
AllShort n (l ∷ ls) = Short n l × AllShort n ls

short_more : (n m : ℕ) (ls : List (List ℕ)) → n ≤ m → AllShort n ls → AllShort m ls
short_more n m [] h a = tt
short_more n m (l ∷ ls) h a = ((a.0.0, omega arith), short_more n m ls h a.1)

onto_short : (n c : ℕ) (ls : List (List ℕ)) → Bytes (c ∷ []) → AllShort n ls → AllShort (suc n) (onto c ls)
unfolding onto
onto_short n c [] h a = ((h, omega arith), tt)
onto_short n c (l ∷ ls) h a = (((h.0, a.0.0), omega arith), short_more n (suc n) ls (omega arith) a.1)

lines_short : (s : List ℕ) → Bytes s → AllShort (length s) (lines_of s)
unfolding lines_of pick
lines_short [] b = tt
lines_short (c ∷ s) b =
    let q = lines_short s b.1 in
    by_test (eqb c 10)
    (λ t. rw t ((tt, omega arith), short_more (length s) (suc (length s)) (lines_of s) (omega arith) q))
    (λ t. rw t (onto_short (length s) c (lines_of s) (b.0, tt) q))

trimmed_short : (l : List ℕ) → Bytes l → Short (length l) (trimmed l)
unfolding trimmed pick
trimmed_short [] b = (tt, omega arith)
trimmed_short (c ∷ []) b = by_test (eqb c 13) (λ t. rw t (tt, omega arith)) (λ t. rw t (b, omega arith))
trimmed_short (c ∷ d ∷ l) b = let q = trimmed_short (d ∷ l) b.1 in ((b.0, q.0), omega arith)

-- ---- a line of k bytes accounts for 15 + k bytes of the file, and so a text for 16 times its length

unfoldable weight : List (List ℕ) → ℕ
weight [] = 0
weight (l ∷ ls) = 15 + length l + weight ls

onto_weight : (c : ℕ) (ls : List (List ℕ)) → weight (onto c ls) ≤ 16 + weight ls
unfolding onto weight
onto_weight c [] = omega arith
onto_weight c (l ∷ ls) = omega arith

lines_weight : (s : List ℕ) → weight (lines_of s) ≤ 16 * length s
unfolding lines_of pick weight
lines_weight [] = omega arith
lines_weight (c ∷ s) = let h = lines_weight s in by_test (eqb c 10) (λ t. rw t (omega arith)) (λ t. rw t (omega (arith, onto_weight c (lines_of s))))

-- ---- the lines, one after the other

told_ok : (n : ℕ) (b : Bool) (s : State) (l : List ℕ) (k : ℕ) (t : State) → Short k l → k ≤ text_limit → StateOk n s
    → step_told s (pick b skipped (told (read_line l))) ≡ good t → StateOk (n + (15 + k)) t
unfolding step_told pick
told_ok n true s l k t a h o e = rw (← (good_same e)) (state_more n (n + (15 + k)) s (omega arith) o)
told_ok n false s l k t a h o e =
    next_good (read_line l) (step s) t e (λ r qr qs. step_ok n (n + (15 + k)) (length l) (omega arith) (omega arith) s r t o (line_given l r a.0 qr) qs)

line_ok : (n : ℕ) (s : State) (l : List ℕ) (t : State) → Short text_limit l → StateOk n s → step_told s (tell_line l) ≡ good t → StateOk (n + (15 + length l)) t
unfolding tell_line framed
line_ok n s l t a o e = told_ok n (passed_over (trimmed l)) s (trimmed l) (length l) t (trimmed_short l a.0) a.1 o e

advance_ok : {X : Type 0} (m : Result State) (n : ℕ) (k : State → Outcome Piece) (p : Piece) (r : List ℕ) → advance m n k ≡ ok p r → ((t : State) → m ≡ good t → k t ≡ ok p r → X) → X
unfolding advance
advance_ok (good t) n k p r e f = f t refl e
advance_ok (bad j) n k p r e f = not_ok e

ended_ok : (n : ℕ) (s : State) (i : ℕ) (p : Piece) (r : List ℕ) → StateOk n s → ended s i ≡ ok p r → PieceOk n p
unfolding ended StateOk
ended_ok n first i p r k e = not_ok e
ended_ok n (between h ts) i p r k e = not_ok e
ended_ok n (inside h ts es t) i p r k e = not_ok e
ended_ok n (finished q) i p r k e = ok_same q p [] r e (λ x y. rw (← x) k)

lines_ok : (ls : List (List ℕ)) (n : ℕ) (s : State) (i : ℕ) (p : Piece) (r : List ℕ) → AllShort text_limit ls → StateOk n s → run_lines tell_line ls s i ≡ ok p r → PieceOk (n + weight ls) p
unfolding run_lines weight
lines_ok [] n s i p r a k e = ended_ok (n + 0) s i p r (state_more n (n + 0) s (omega arith) k) e
lines_ok (l ∷ ls) n s i p r a k e =
    advance_ok (step_told s (tell_line l)) i _ p r e (λ t q z.
    let w = lines_ok ls (n + (15 + length l)) t (suc i) p r a.1 (line_ok n s l t a.0 k q) z in
    let same : n + (15 + length l) + weight ls ≡ n + (15 + length l + weight ls) = omega arith in
    subst (λ m. PieceOk m p) same w)

-- ---- an accepted text

module _ (s : List ℕ) (p : Piece) (r : List ℕ) (b : Bytes s) (h : length s ≤ text_limit) (e : piece_of_text s ≡ ok p r) where
  accepted : PieceOk (0 + weight (lines_of s)) p
  unfolding piece_of_text piece_told StateOk
  accepted = lines_ok (lines_of s) 0 first 1 p r (short_more (length s) text_limit (lines_of s) h (lines_short s b)) tt e

  pub accepted_lawful : LawfulPiece p
  accepted_lawful = accepted.lawful

  pub accepted_laid : (m : Manner) → LaidOut (file_of m p) p
  unfolding file_of spelling AllPassed
  accepted_laid m =
      record {
        spelling = spelling m p;
        has =
            record {
              lawful = accepted.lawful;
              permitted = record { tracks = tracks_permitted m p.tracks accepted.tracks; extra = tt; header = omega arith; behind = tt };
              short = tracks_short p.tracks (spell_tracks m p.tracks) (omega (arith, accepted.size, lines_weight s));
            };
        bytes = refl;
      }
