-- The rows of an accepted file: each shows its track's End_track, at its place.
use Rattle.std.specs.Prelude.{Result, Ok, Err}
use Rattle.smf.specs.declared.Chunk.{Chunk}
use Rattle.smf.specs.declared.HeaderRead.{HeaderRead}
use mathlib.Core.Path.{◌≡◌, refl, sym, ap, ap₂, ◌∙◌, subst}
use Prim.Native.Nat.{ℕ, zero, suc, ◌≤◌}
use mathlib.Core.List.{List, [], ◌∷◌}
use native.Mathlib.Omega.{arith}
use lib.ListN.{length, drop}
use Rattle.event.specs.Bytes.{Bytes}
use Rattle.event.specs.Event.{is_end}
use Rattle.event.specs.Frame.{frame, after}
use Rattle.event.specs.Outcome.{ok, Readable, value_or}
use Rattle.event.specs.Reader.{read_event}
use Rattle.event.proofs.ChoiceLaws.{by_test}
use Rattle.event.proofs.OutcomeLaws.{ok_same}
use Rattle.smf.specs.Piece.{Piece}
use Rattle.smf.specs.Layout.{LaidOut}
use Rattle.smf.specs.Listing.{end_times}
use Rattle.smf.specs.Reader.{file_limit, read_chunk, read_header, read_file}
use Rattle.smf.specs.Step.{chunk_step, header_step, last_time}
use Rattle.smf.specs.Walk.{Placed, events_of, tracks_of}
use Rattle.smf.specs.PlacedFile.{placed_tracks}
use Rattle.smf.specs.Code.Chain.{Tail, Chain, placed_from}
use Rattle.smf.proofs.AcceptedLaws.{header_there}
use Rattle.smf.proofs.DemandLaws.{laid_read}
use Rattle.smf.proofs.ListLaws.{R, accepted_piece, accepted_readable}
use Rattle.smf.proofs.PlacedLaws.{track_placed, tracks_placed, file_placed}
use Rattle.smf.proofs.TurnLaws.{tracks_stop}
use Rattle.fold_piece.specs.FoldAnswer.{last_placed, ends_shown, time_shown}
use Rattle.fold_piece.specs.FoldClaims.{EndAt, EndsAt, RowsOf}

-- ---- the last of a chain of events

chain_last : (f : List ℕ) (at prev force : ℕ) (e : Placed) (es : List Placed) → Chain f at prev force (e ∷ es) → EndAt f (last_placed e es)
unfolding Chain Tail last_placed
chain_last f at prev force e [] c =
    by_test (is_end e.event.kind)
    (λ b. record { last = b; prev = prev; force = force; come = ap (λ z. read_event prev force (drop z f)) c.0.place ∙ c.0.come })
    (λ b. absurd (rw b at c.1))
chain_last f at prev force e (x ∷ xs) c =
    by_test (is_end e.event.kind) (λ b. let none : x ∷ xs ≡ [] = rw b at c.1 in let z : ◌≡◌ {A = ℕ} 0 1 = cc in absurd (omega arith))
    (λ b. chain_last f e.next e.event.time (after (frame e.event.kind)) x xs (rw b at c.1))

-- what one more track shows
track_ends : (f : List ℕ) (at prev force : ℕ) (es : List Placed) (ts : List (List Placed)) → Chain f at prev force es → EndsAt f (ends_shown (λ e. e) ts) → EndsAt f (ends_shown (λ e. e) (es ∷ ts))
unfolding Chain EndsAt ends_shown
track_ends f at prev force [] ts c h = absurd c
track_ends f at prev force (e ∷ es) ts c h = (chain_last f at prev force e es c, h)

last_time_lem : (e : Placed) (es : List Placed) (prev : ℕ) → time_shown (last_placed e es) ≡ last_time prev (events_of (e ∷ es))
unfolding last_placed last_time
last_time_lem e [] prev = refl
last_time_lem e (x ∷ xs) prev = last_time_lem x xs e.event.time

track_times : (f : List ℕ) (at prev force : ℕ) (es : List Placed) (ts : List (List Placed)) → Chain f at prev force es → ends_shown time_shown ts ≡ end_times (tracks_of ts)
    → ends_shown time_shown (es ∷ ts) ≡ end_times (tracks_of (es ∷ ts))
unfolding Chain ends_shown end_times
track_times f at prev force [] ts c h = absurd c
track_times f at prev force (e ∷ es) ts c h = ap₂ (λ a b. a ∷ b) (last_time_lem e es 0) h

-- ---- so many tracks from a place of the file on

record Ends (f : List ℕ) (ts : List (List Placed)) : Type 0 where
  pub ends : EndsAt f (ends_shown (λ e. e) ts)
  pub times : ends_shown time_shown ts ≡ end_times (tracks_of ts)

ends_with : (f : List ℕ) (n at : ℕ) (x : Result Chunk (ℕ × ℕ)) → Bytes f → x ≡ chunk_step (length f) (read_chunk at (drop at f)) → Readable (R f (suc n) at)
    → ((b : ℕ) → Readable (R f n b) → Ends f (placed_from f n b)) → Ends f (placed_from f (suc n) at)
ends_with f n at (Ok c) bs e good rest =
    let m = track_placed f (suc n) n at c.start c.end refl bs (sym e) good in
    let more = rest c.end m.turn.rest in
    subst (Ends f) (sym m.all) (record { ends = track_ends f c.start 0 0 _ _ m.chain more.ends; times = track_times f c.start 0 0 _ _ m.chain more.times })
ends_with f n at (Err (k, p)) bs e good rest = absurd (tracks_stop f (suc n) at k p (omega arith) (sym e) good)

ends_of : (f : List ℕ) (n at : ℕ) → Bytes f → Readable (R f n at) → Ends f (placed_from f n at)
unfolding placed_tracks EndsAt ends_shown end_times
ends_of f zero at bs good = record { ends = tt; times = refl }
ends_of f (suc n) at bs good = ends_with f n at _ bs refl good (λ b g. ends_of f n b bs g)

-- ---- a file

rows_with : (f : List ℕ) (p : Piece) (x : Result HeaderRead (ℕ × ℕ)) → Bytes f → read_file f ≡ ok p [] → header_step (length f) (read_header f) ≡ x → RowsOf f p
unfolding Readable value_or
rows_with f p (Ok q) bs e h =
    let there = accepted_piece f q.format q.count q.division q.next p [] bs h e in
    let good = accepted_readable f q.count q.next there in
    let shown = ends_of f q.count q.next bs good in
    let piece : there.piece ≡ p = ok_same there.piece p there.rest [] (sym there.read ∙ e) (λ s r. s) in
    let same : tracks_of (placed_from f q.count q.next) ≡ p.tracks = tracks_placed f q.count q.next bs good ∙ ap (value_or []) there.tracks ∙ ap (λ (z : Piece). z.tracks) piece in
    let placed = file_placed f q.format q.count q.division q.next bs h in
    record {
      events = ap tracks_of placed ∙ same;
      ends = subst (λ z. EndsAt f (ends_shown (λ e. e) z)) (sym placed) shown.ends;
      times = ap (ends_shown time_shown) placed ∙ shown.times ∙ ap end_times same;
    }
rows_with f p (Err (k, z)) bs e h = absurd (header_there f k z h (subst Readable (sym e) tt))

pub rows_of : (f : List ℕ) (p : Piece) → Bytes f → LaidOut f p → length f ≤ file_limit → RowsOf f p
rows_of f p bs laid h = rows_with f p _ bs (laid_read f p laid h) refl
