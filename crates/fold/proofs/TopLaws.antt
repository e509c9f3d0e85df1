-- The answers of a fold.
use Rattle.std.specs.Prelude.{Result, Ok}
use Rattle.smf.specs.declared.HeaderRead.{HeaderRead}
use mathlib.Core.Path.{◌≡◌, refl, sym, ap, ap₂, ◌∙◌}
use Prim.Native.Nat.{ℕ, ◌≤◌, ◌<◌}
use mathlib.Core.List.{List, [], ◌++◌, append-nil}
use native.Mathlib.Omega.{arith}
use lib.Dec.{leb}
use lib.ListN.{length, drop, length-append, length-drop, length-map}
use lib.Seq.{drop_at}
use borrow.Author.Tests.{le-leb, lt-leb}
use Rattle.event.specs.Bytes.{Bytes}
use Rattle.event.specs.Manner.{short}
use Rattle.event.specs.Outcome.{Outcome, ok, refused, check, Readable, value_or}
use Rattle.smf.specs.Division.{LawfulDivision, bits, division_of}
use Rattle.smf.specs.Piece.{Piece}
use Rattle.smf.specs.Layout.{lay_header, lay_chunks, lay_tracks, lay_piece}
use Rattle.smf.specs.Manner.{spell_tracks, spelling, file_of}
use Rattle.smf.specs.Reader.{read_header, read_file}
use Rattle.smf.specs.Step.{division_from, header_step}
use Rattle.smf.specs.declared.Answer.{Answer}
use Rattle.smf.specs.declared.Division.{Division}
use Rattle.smf.proofs.DivisionLaws.{division_back, division_fits}
use Rattle.smf.proofs.AcceptedLaws.{AcceptedFile, headed, file_accepted, file_readable, accepted_file}
use Rattle.smf.proofs.ListLaws.{R, Accepted}
use Rattle.smf.proofs.RefusalLaws.{judged_refused}
use Rattle.smf_write.specs.Tidy.{track_in}
use Rattle.fold_piece.specs.Fold.{folded_track, folded_piece}
use Rattle.smf.specs.Walk.{Placed, events_of, tracks_of}
use Rattle.smf.specs.PlacedFile.{placed_file}
use Rattle.fold_piece.specs.FoldAnswer.{ends_shown, rows_leave, most_tracks, fold_tested, fold_outcome, several_free, place_shown, rows_lent, status_shown, time_shown}
use Rattle.fold.specs.Code.Row.{file_in}
use Rattle.smf.proofs.PlacedLaws.{tracks_placed, file_placed}
use Rattle.fold_piece.proofs.AnswerLaws.{outcome_refused, outcome_read, tested_with}
use Rattle.fold_piece.proofs.FreeLaws.{Free, stopped, through, free_several}
use Rattle.smf.specs.Answer.{refusal, verdict}
use Rattle.smf.specs.Writing.{write_answer, write_leaves, short_answer, short_leaves}
use Rattle.fold.specs.Code.Look.{fine, look_answer}
use Rattle.smf.specs.Code.Chain.{placed_from}

-- ---- rows shown twice

pub twice : (xs l m k : List ℕ) (n : ℕ) → m ≡ xs ++ drop n l → length m ≡ length l → n ≤ length l → k ≡ xs ++ drop n m → k ≡ xs ++ drop n l
twice xs l m k n e h g q =
    let size : length xs ≡ n = omega (arith, ap length e, length-append xs (drop n l), length-drop n l) in
    q ∙ ap (λ z. xs ++ z) (ap (drop n) e ∙ drop_at xs (drop n l) n size)

-- ---- what a refusal leaves, and what the rows show otherwise

-- the five promises of a fold with the outcome x of the file f
abbrev pub Promised : Outcome Piece → List ℕ → List ℕ → List ℕ → List ℕ → List ℕ → Answer → List ℕ → List ℕ → List ℕ → List ℕ → Type 0
Promised x f old ps ts ss r new ps' ts' ss' =
    (r ≡ short_answer (length old) x)
    × ((new ≡ short_leaves x old)
    × ((ps' ≡ rows_leave place_shown x (placed_file f) ps) × ((ts' ≡ rows_leave time_shown x (placed_file f) ts) × (ss' ≡ rows_leave status_shown x (placed_file f) ss))))

pub promise_refused : (x : Outcome Piece) (f old ps ts ss : List ℕ) (k q : ℕ) (r : Answer) → x ≡ refused k q → r ≡ refusal k q → Promised x f old ps ts ss r old ps ts ss
unfolding short_answer short_leaves rows_leave
promise_refused x f old ps ts ss k q r e h = rw e (h, (refl, (refl, (refl, refl))))

pub check_refused : (rows : ℕ) (f old ps ts ss : List ℕ) (v : Answer) → v ≡ verdict (read_file f) → (v.number ≡ 0 → ⊥) → Promised (fold_outcome rows f) f old ps ts ss v old ps ts ss
check_refused rows f old ps ts ss v e h =
    judged_refused (read_file f) v e h (λ k q p w. promise_refused (fold_outcome rows f) f old ps ts ss k q v (outcome_refused rows f k q p) w)

-- a file that was checked and found good, with its header's numbers
module _ (f : List ℕ) (bs : Bytes f) {v : Answer} (judged : v ≡ verdict (read_file f)) (good : v.number ≡ 0) {x : Result HeaderRead (ℕ × ℕ)} (answer : x ≡ header_step (length f) (read_header f))
    {a b : ℕ} {d : Division} {n : ℕ} (given : x ≡ Ok (record { format = a; count = b; division = d; next = n })) where
  head : header_step (length f) (read_header f) ≡ Ok (record { format = a; count = b; division = d; next = n })
  head = sym answer ∙ given

  file : AcceptedFile f
  file = accepted_file f v bs judged good

  there : Accepted f b n
  there = file_accepted f a b d n bs head (file_readable f file)

  pub short_enough : length f ≤ 1048576
  short_enough = file.short

  pub lawful_division : LawfulDivision (division_from d)
  lawful_division = (headed f a b d n bs head there).lawful

  pub small_bits : (m : ℕ) → m ≡ bits (division_from d) → m ≤ 65535
  small_bits m e = omega (arith, e, division_fits (division_from d) lawful_division)

  pub tracks_readable : Readable (R f b n)
  unfolding Readable
  tracks_readable = rw there.tracks tt

  abbrev P : Piece
  P = there.piece

  abbrev Z : Outcome Piece
  Z = ok (folded_piece P) there.rest

  placed_are : placed_file f ≡ placed_from f b n
  placed_are = file_placed f a b d n bs head

  outcome_is : (rows : ℕ) → fold_outcome rows f ≡ check (leb a 1) 32 8 (check (leb b most_tracks) 31 10 (check (leb b rows) 37 10 (several_free b (placed_from f b n) Z)))
  outcome_is rows =
      outcome_read rows f P there.rest there.read ∙ ap (λ z. fold_tested rows z P there.rest) placed_are
      ∙ tested_with rows (placed_from f b n) P there.rest a b (headed f a b d n bs head there).format there.count

  module _ (old ps ts ss : List ℕ) (r : Answer) where
    abbrev X : Outcome Piece
    X = fold_outcome (rows_lent ps ts ss) f

    pub format_two_lem : 1 < a → r ≡ refusal 32 8 → Promised X f old ps ts ss r old ps ts ss
    unfolding check
    format_two_lem h e = promise_refused X f old ps ts ss 32 8 r (outcome_is (rows_lent ps ts ss) ∙ rw (lt-leb a 1 h) refl) e

    module _ (one : a ≤ 1) where
      pub many_tracks : 64 < b → r ≡ refusal 31 10 → Promised X f old ps ts ss r old ps ts ss
      unfolding check
      many_tracks h e = promise_refused X f old ps ts ss 31 10 r (outcome_is (rows_lent ps ts ss) ∙ rw (le-leb a 1 one, lt-leb b 64 h) refl) e

      module _ (few : b ≤ 64) where
        pub few_rows : rows_lent ps ts ss < b → r ≡ refusal 37 10 → Promised X f old ps ts ss r old ps ts ss
        unfolding check
        few_rows h e =
            promise_refused X f old ps ts ss 37 10 r (outcome_is (rows_lent ps ts ss) ∙ rw (le-leb a 1 one, le-leb b 64 few, lt-leb b (rows_lent ps ts ss) h) refl) e

        module _ (rows : b ≤ rows_lent ps ts ss) where
          looked : X ≡ several_free b (placed_from f b n) Z
          unfolding check
          looked = outcome_is (rows_lent ps ts ss) ∙ rw (le-leb a 1 one, le-leb b 64 few, le-leb b (rows_lent ps ts ss) rows) refl

          pub prefix_found : r ≡ look_answer (several_free b (placed_from f b n) fine) → (r.number ≡ 0 → ⊥) → Promised X f old ps ts ss r old ps ts ss
          unfolding look_answer
          prefix_found e h = found (free_several b (placed_from f b n))
            where
              found : Free (λ A. several_free {A = A} b (placed_from f b n)) → Promised X f old ps ts ss r old ps ts ss
              found (stopped p g) = promise_refused X f old ps ts ss 33 p r (looked ∙ g Piece Z) (e ∙ ap look_answer (g ℕ fine))
              found (through g) = absurd (h (ap (λ (z : Answer). z.number) (e ∙ ap look_answer (g ℕ fine))))

          none_found : (w : Answer) → w ≡ look_answer (several_free b (placed_from f b n) fine) → w.number ≡ 0 → X ≡ Z
          unfolding look_answer
          none_found w e h = found (free_several b (placed_from f b n))
            where
              found : Free (λ A. several_free {A = A} b (placed_from f b n)) → X ≡ Z
              found (stopped p g) = let z = ap (λ (y : Answer). y.number) (sym (e ∙ ap look_answer (g ℕ fine))) ∙ h in absurd (omega (arith, z))
              found (through g) = looked ∙ g Piece Z

          file_is : (m : ℕ) → m ≡ bits (division_from d) → file_in m (folded_track (value_or [] (R f b n))) ≡ file_of short (folded_piece P)
          unfolding file_of lay_piece spelling folded_piece lay_tracks lay_chunks spell_tracks value_or
          file_is m e =
              let same = headed f a b d n bs head there in
              let division : division_of m ≡ P.division = ap division_of e ∙ division_back (division_from d) lawful_division ∙ sym same.division in
              let tracks : value_or [] (R f b n) ≡ P.tracks = ap (value_or []) there.tracks in
              let track = track_in short (folded_track P.tracks) in
              ap₂ (λ x y. lay_header 0 1 x [] (track_in short (folded_track y))) division tracks
              ∙ ap (lay_header 0 1 P.division []) (sym (append-nil (track ++ []) ∙ append-nil track))

          pub promise_kept : (w : Answer) → w ≡ look_answer (several_free b (placed_from f b n) fine) → w.number ≡ 0 → (m : ℕ) → m ≡ bits (division_from d) → (new ps' ts' ss' : List ℕ)
              → r ≡ write_answer (length old) (length (file_in m (folded_track (value_or [] (R f b n)))))
              → new ≡ write_leaves (file_in m (folded_track (value_or [] (R f b n)))) old
              → ps' ≡ ends_shown place_shown (placed_from f b n) ++ drop b ps → ts' ≡ ends_shown time_shown (placed_from f b n) ++ drop b ts → ss' ≡ ends_shown status_shown (placed_from f b n) ++ drop b ss
              → Promised X f old ps ts ss r new ps' ts' ss'
          unfolding short_answer short_leaves rows_leave value_or Readable
          promise_kept w e h m q new ps' ts' ss' r1 r2 r3 r4 r5 =
              let same : tracks_of (placed_from f b n) ≡ value_or [] (R f b n) = tracks_placed f b n bs tracks_readable in
              let size : length (placed_from f b n) ≡ b = sym (length-map (placed_from f b n) events_of) ∙ ap length same ∙ ap (λ z. length (value_or [] z)) there.tracks ∙ there.count in
              let rows_are : (g : Placed → ℕ) (l : List ℕ) → ends_shown g (placed_from f b n) ++ drop b l ≡ ends_shown g (placed_file f) ++ drop (length (placed_file f)) l =
              λ g l. ap (λ z. ends_shown g (placed_from f b n) ++ drop z l) (sym size) ∙ ap (λ z. ends_shown g z ++ drop (length z) l) (sym placed_are)
              in
              rw (none_found w e h) (
                r1 ∙ ap (λ z. write_answer (length old) (length z)) (file_is m q),
                (r2 ∙ ap (λ z. write_leaves z old) (file_is m q), (r3 ∙ rows_are place_shown ps, (r4 ∙ rows_are time_shown ts, r5 ∙ rows_are status_shown ss))),
              )
