-- What is known of a fold's outcome: its refusals, their places, and where it is the folded piece.
use Rattle.std.specs.Prelude.{Result, Ok, Err}
use Rattle.smf.specs.declared.HeaderRead.{HeaderRead}
use mathlib.Core.Path.{◌≡◌, refl, sym, ap, ap₂, ◌∙◌, subst}
use Prim.Native.Nat.{ℕ, ◌≤◌}
use mathlib.Core.Bool.{false≢true}
use mathlib.Core.List.{List, []}
use mathlib.Core.Logic.{◌⊎◌, inl, inr, ⊎_elim}
use native.Mathlib.Omega.{arith}
use lib.Dec.{leb}
use lib.ListN.{length}
use borrow.Author.Tests.{le-leb, leb-true}
use Rattle.event.specs.Bytes.{Bytes}
use Rattle.event.specs.Choice.{pick}
use Rattle.event.specs.Manner.{short}
use Rattle.event.specs.Outcome.{Outcome, ok, refused, and_then, check, Readable}
use Rattle.event.proofs.ChoiceLaws.{by_test}
use Rattle.event.proofs.OutcomeLaws.{not_ok, ok_same, and_then_ok, and_then_refused, check_ok, check_refused}
use Rattle.event.proofs.RefusalLaws.{Given, Fair}
use Rattle.smf.specs.Piece.{Piece, LawfulPiece}
use Rattle.smf.specs.Answer.{verdict}
use Rattle.smf.specs.Manner.{file_of}
use Rattle.smf.specs.Reader.{file_limit, read_header, read_file}
use Rattle.smf.specs.Step.{header_step}
use Rattle.smf.specs.Writing.{write_answer, short_answer}
use Rattle.smf.specs.Walk.{Placed, tracks_of}
use Rattle.smf.specs.PlacedFile.{placed_file}
use Rattle.smf.proofs.AcceptedLaws.{header_there}
use Rattle.smf.proofs.FileLaws.{file_sound}
use Rattle.smf.proofs.ListLaws.{accepted_piece, accepted_readable}
use Rattle.smf.proofs.PlacedLaws.{file_placed}
use Rattle.smf.proofs.RefusalLaws.{file_fair, place_small}
use Rattle.smf.proofs.WritingLaws.{Fits28, write_fits}
use Rattle.fold_piece.specs.Fold.{folded_piece}
use Rattle.fold_piece.specs.FoldAnswer.{several_free, most_tracks, fold_tested, fold_outcome, fold_answer, rows_leave}
use Rattle.fold_piece.specs.FoldClaims.{FreeTracks, Foldable, Shows, RowsFolded}
use Rattle.fold_piece.proofs.FoldLaws.{fold_zero}
use Rattle.fold_piece.proofs.FreeLaws.{Free, stopped, through, free_several, AllWithin, several_place, placed_within, several_pass, several_free_lem}

pub outcome_refused : (rows : ℕ) (f : List ℕ) (k q : ℕ) → read_file f ≡ refused k q → fold_outcome rows f ≡ refused k q
unfolding fold_outcome and_then
outcome_refused rows f k q e = rw e refl

pub outcome_read : (rows : ℕ) (f : List ℕ) (p : Piece) (r : List ℕ) → read_file f ≡ ok p r → fold_outcome rows f ≡ fold_tested rows (placed_file f) p r
unfolding fold_outcome and_then
outcome_read rows f p r e = rw e refl

-- with the numbers of the file's header
pub tested_with : (rows : ℕ) (ts : List (List Placed)) (p : Piece) (r : List ℕ) (a b : ℕ) → p.format ≡ a → length p.tracks ≡ b
    → fold_tested rows ts p r ≡ check (leb a 1) 32 8 (check (leb b most_tracks) 31 10 (check (leb b rows) 37 10 (several_free b ts (ok (folded_piece p) r))))
unfolding fold_tested
tested_with rows ts p r a b x y = ap₂ (λ i k. check (leb i 1) 32 8 (check (leb k most_tracks) 31 10 (check (leb k rows) 37 10 (several_free k ts (ok (folded_piece p) r))))) x y

-- "A format 0 piece comes back the same": with a row lent, folding such a file is tidying it
pub zero_tidies : (rows : ℕ) (f : List ℕ) (p : Piece) (r : List ℕ) → read_file f ≡ ok p r → LawfulPiece p → p.format ≡ 0 → 1 ≤ rows → fold_outcome rows f ≡ read_file f
unfolding check several_free pick
zero_tidies rows f p r e l z h =
    outcome_read rows f p r e ∙ tested_with rows (placed_file f) p r 0 1 z (l.single z) ∙ rw (le-leb 1 rows h) (ap (λ q. ok q r) (fold_zero p l z)) ∙ sym e

-- ---- the refusals

-- 33 is the last of them
several_33 : (n : ℕ) (ts : List (List Placed)) (p : Piece) (r : List ℕ) (k q : ℕ) → several_free n ts (ok p r) ≡ refused k q → k ≡ 33
several_33 n ts p r k q e = cases (free_several n ts)
  where
    cases : Free (λ A. several_free {A = A} n ts) → k ≡ 33
    cases (stopped z h) = let s = sym (h Piece (ok p r)) ∙ e in cc
    cases (through h) = not_ok (sym e ∙ h Piece (ok p r))

-- the numbers: those of reading, or those of folding
outcome_number : (rows : ℕ) (f : List ℕ) (k q : ℕ) → Bytes f → fold_outcome rows f ≡ refused k q → Given 13 k ⊎ ((31 ≤ k) × (k ≤ 37))
unfolding fold_outcome fold_tested
outcome_number rows f k q bs e =
    and_then_refused (read_file f) (fold_tested rows (placed_file f)) k q e (λ h. let fair = subst (Fair 13 (length f)) h (file_fair f bs) in inl fair.0)
    (λ p r h g.
    inr
    (check_refused _ 32 8 k q _ g (λ t a b. omega (arith, a))
    (λ t1 g1.
    check_refused _ 31 10 k q _ g1 (λ t a b. omega (arith, a))
    (λ t2 g2.
    check_refused _ 37 10 k q _ g2 (λ t a b. omega (arith, a))
    (λ t3 g3. let z = several_33 _ (placed_file f) (folded_piece p) r k q g3 in omega (arith, z))))))

-- with a row for each of the most tracks there is no 37
outcome_37 : (f : List ℕ) (q : ℕ) → Bytes f → fold_outcome most_tracks f ≡ refused 37 q → ⊥
unfolding fold_outcome fold_tested
outcome_37 f q bs e =
    and_then_refused (read_file f) (fold_tested most_tracks (placed_file f)) 37 q e
    (λ h. let fair = subst (Fair 13 (length f)) h (file_fair f bs) in omega (arith, fair.0))
    (λ p r h g.
    check_refused _ 32 8 37 q _ g (λ t a b. omega (arith, a))
    (λ t1 g1.
    check_refused _ 31 10 37 q _ g1 (λ t a b. omega (arith, a))
    (λ t2 g2.
    check_refused _ 37 10 37 q _ g2 (λ t a b. false≢true (sym t ∙ t2))
    (λ t3 g3. let z = several_33 _ (placed_file f) (folded_piece p) r 37 q g3 in omega (arith, z)))))

-- ---- the answers: of a piece that is written 0, 14 or 29, else the refusal

written_number : (room n : ℕ) → Shows (write_answer room n).number
unfolding write_answer pick
written_number room n =
    by_test (leb n file_limit) (λ a. by_test (leb n room) (λ b. rw (a, b) (inl refl)) (λ b. rw (a, b) (inr (inl refl)))) (λ a. rw a (inr (inr refl)))

not_shown : (k : ℕ) → Given 13 k ⊎ ((31 ≤ k) × (k ≤ 37)) → Shows k → ⊥
not_shown k h s = ⊎_elim (λ a. omega (arith, a, outside h)) (λ b. ⊎_elim (λ a. omega (arith, a, outside h)) (λ a. omega (arith, a, outside h)) b) s
  where
    outside : Given 13 k ⊎ ((31 ≤ k) × (k ≤ 37)) → (1 ≤ k) × (k ≡ 14 → ⊥) × (k ≡ 29 → ⊥)
    outside x = ⊎_elim (λ a. (a.0, λ z. omega (arith, a, z), λ z. omega (arith, a, z))) (λ a. (omega (arith, a), λ z. omega (arith, a, z), λ z. omega (arith, a, z))) x

answer_cases {ℓ} : {X : Type ℓ} (room rows : ℕ) (f : List ℕ) → (Shows (fold_answer room rows f).number → (p : Piece) (r : List ℕ) → fold_outcome rows f ≡ ok p r → X)
    → ((q : ℕ) → fold_outcome rows f ≡ refused (fold_answer room rows f).number q → X) → X
unfolding short_answer
answer_cases {X} room rows f a b = cases (fold_outcome rows f) refl
  where
    cases : (x : Outcome Piece) → fold_outcome rows f ≡ x → X
    cases (ok p r) e = a (subst (λ y. Shows (short_answer room y).number) (sym e) (written_number room (length (file_of short p)))) p r e
    cases (refused k q) e = b q (e ∙ ap (λ y. refused y q) (ap (λ y. (short_answer room y).number) (sym e)))

pub rows_folded : (room rows : ℕ) (f : List ℕ) (g : Placed → ℕ) (old : List ℕ) → Bytes f → RowsFolded room rows f g old
unfolding rows_leave pick
rows_folded room rows f g old bs =
    answer_cases room rows f (λ s p r e. record { shown = λ _. rw e refl; stay = λ n. absurd (n s) })
    (λ q e. record { shown = λ s. absurd (not_shown (fold_answer room rows f).number (outcome_number rows f _ q bs e) s); stay = λ _. rw e refl })

-- "4 falls away", and "27 has no place here"
pub number_none : (room rows : ℕ) (f : List ℕ) → Bytes f → ((fold_answer room rows f).number ≡ 4 → ⊥) × ((fold_answer room rows f).number ≡ 27 → ⊥)
number_none room rows f bs =
    answer_cases room rows f (λ s p r e. ⊎_elim (λ a. omega (arith, a)) (λ b. ⊎_elim (λ a. omega (arith, a)) (λ a. omega (arith, a)) b) s)
    (λ q e. ⊎_elim (λ a. omega (arith, a)) (λ a. omega (arith, a)) (outcome_number rows f _ q bs e))

pub number_37 : (room : ℕ) (f : List ℕ) → Bytes f → (fold_answer room most_tracks f).number ≡ 37 → ⊥
number_37 room f bs n =
    answer_cases room most_tracks f (λ s p r e. ⊎_elim (λ a. omega (arith, a, n)) (λ b. ⊎_elim (λ a. omega (arith, a, n)) (λ a. omega (arith, a, n)) b) s)
    (λ q e. outcome_37 f q bs (e ∙ ap (λ y. refused y q) n))

-- where there is no refusal it is the folded piece
pub outcome_good {ℓ} : {X : Type ℓ} (rows : ℕ) (f : List ℕ) (z : Piece) (t : List ℕ) → fold_outcome rows f ≡ ok z t → ((p : Piece) → read_file f ≡ ok p t → z ≡ folded_piece p → X) → X
unfolding fold_outcome fold_tested
outcome_good rows f z t e k =
    and_then_ok (read_file f) (fold_tested rows (placed_file f)) z t e (λ p r h g.
    let g1 = (check_ok _ 32 8 _ z t g).1 in
    let g2 = (check_ok _ 31 10 _ z t g1).1 in
    let g3 = (check_ok _ 37 10 _ z t g2).1 in
    let (y, same) = several_ok (length p.tracks) (placed_file f) (folded_piece p) r z t g3 in
    k p (h ∙ ap (ok p) same) y)
  where
    several_ok : (n : ℕ) (ts : List (List Placed)) (p : Piece) (r : List ℕ) (z : Piece) (t : List ℕ) → several_free n ts (ok p r) ≡ ok z t → (z ≡ p) × (r ≡ t)
    several_ok n ts p r z t e = cases (free_several n ts)
      where
        cases : Free (λ A. several_free {A = A} n ts) → (z ≡ p) × (r ≡ t)
        cases (stopped q h) = not_ok (sym (h Piece (ok p r)) ∙ e)
        cases (through h) = ok_same p z r t (sym (h Piece (ok p r)) ∙ e) (λ a b. (sym a, b))

-- ---- every place lies in the file, so that the answer fits the exported number

within_with : (f : List ℕ) (p : Piece) (r : List ℕ) (x : Result HeaderRead (ℕ × ℕ)) → Bytes f → read_file f ≡ ok p r → header_step (length f) (read_header f) ≡ x → AllWithin (length f) (placed_file f)
unfolding Readable
within_with f p r (Ok q) bs e h =
    let there = accepted_piece f q.format q.count q.division q.next p r bs h e in
    subst (AllWithin (length f)) (sym (file_placed f q.format q.count q.division q.next bs h)) (placed_within f q.count q.next bs (accepted_readable f q.count q.next there))
within_with f p r (Err (k, z)) bs e h = absurd (header_there f k z h (subst Readable (sym e) tt))

-- its number is not 0 either
pub outcome_fair : (rows : ℕ) (f : List ℕ) (k q : ℕ) → Bytes f → fold_outcome rows f ≡ refused k q → (1 ≤ k) × (q ≤ file_limit)
unfolding fold_outcome fold_tested verdict
outcome_fair rows f k q bs e =
    and_then_refused (read_file f) (fold_tested rows (placed_file f)) k q e
    (λ h. let fair = subst (Fair 13 (length f)) h (file_fair f bs) in let small = place_small f bs in (fair.0.0, rw h at small))
    (λ p r h g.
    check_refused _ 32 8 k q _ g (λ t a b. omega (arith, a, b))
    (λ t1 g1.
    check_refused _ 31 10 k q _ g1 (λ t a b. omega (arith, a, b))
    (λ t2 g2.
    check_refused _ 37 10 k q _ g2 (λ t a b. omega (arith, a, b))
    (λ t3 g3.
    let number = several_33 (length p.tracks) (placed_file f) (folded_piece p) r k q g3 in
    ⊎_elim (λ z. let short = (file_sound f p r bs h).1 in omega (arith, number, z)) (λ z. not_ok (sym z))
    (several_place (length f) k q (length p.tracks) (placed_file f) (ok (folded_piece p) r) (within_with f p r _ bs h refl) g3)))))

fits_with : (room : ℕ) (x : Outcome Piece) → ((k q : ℕ) → x ≡ refused k q → q ≤ file_limit) → Fits28 (short_answer room x)
unfolding short_answer
fits_with room (ok p r) h = write_fits room (length (file_of short p))
fits_with room (refused k q) h = let z = h k q refl in record { place = omega arith; length = omega arith }

pub answer_fits : (room rows : ℕ) (f : List ℕ) → Bytes f → Fits28 (fold_answer room rows f)
answer_fits room rows f bs = fits_with room (fold_outcome rows f) (λ k q e. (outcome_fair rows f k q bs e).1)

-- ---- when a file is folded

module _ (f : List ℕ) (p : Piece) (bs : Bytes f) (e : read_file f ≡ ok p []) (same : tracks_of (placed_file f) ≡ p.tracks) where
  pub outcome_folds : (rows : ℕ) → Foldable rows p → fold_outcome rows f ≡ ok (folded_piece p) []
  unfolding fold_tested check
  outcome_folds rows h =
      outcome_read rows f p [] e
      ∙ rw (le-leb p.format 1 h.format, le-leb (length p.tracks) most_tracks h.few, le-leb (length p.tracks) rows h.lent)
      (several_pass (length p.tracks) (placed_file f) (ok (folded_piece p) []) (λ k. subst FreeTracks (sym same) (h.free k)))

  pub outcome_only : (rows : ℕ) (z : Piece) (r : List ℕ) → fold_outcome rows f ≡ ok z r → Foldable rows p
  unfolding fold_tested
  outcome_only rows z r g =
      let (t1, g1) = check_ok _ 32 8 _ z r (sym (outcome_read rows f p [] e) ∙ g) in
      let (t2, g2) = check_ok _ 31 10 _ z r g1 in
      let (t3, g3) = check_ok _ 37 10 _ z r g2 in
      record {
        format = leb-true p.format 1 t1;
        few = leb-true (length p.tracks) most_tracks t2;
        lent = leb-true (length p.tracks) rows t3;
        free = λ k. subst FreeTracks same (several_free_lem (length p.tracks) (placed_file f) (ok (folded_piece p) []) z r g3 k);
      }
