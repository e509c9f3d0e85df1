-- Listing the tracks: the turns of its loop, and one law for each of its answers.
use Rattle.std.specs.Prelude.{Ok, Err}
use mathlib.Core.Path.{◌≡◌, refl, sym, ap, ap₂, ◌∙◌}
use Prim.Native.Nat.{ℕ, zero, suc, ◌+◌, ◌-◌, ◌<◌, ◌≤◌}
use mathlib.Core.Bool.{true, false}
use mathlib.Core.List.{List, [], ◌∷◌}
use native.Mathlib.Omega.{arith}
use lib.ListN.{length, drop, set, length-drop}
use native.Mathlib.Numerals.{add-one}
use lib.Seq.{sets, sets-eq}
use borrow.Author.Tests.{le-leb, lt-leb}
use Rattle.event.specs.Bytes.{Bytes}
use Rattle.event.specs.Choice.{pick}
use Rattle.event.specs.Event.{Event}
use Rattle.event.specs.Outcome.{Outcome, ok, and_then, Readable, value_or}
use Rattle.event.specs.declared.Time.{Time}
use Rattle.event.proofs.OutcomeLaws.{ok_same, and_then_ok, check_ok, cons_readable, cons_value}
use Rattle.smf.specs.Piece.{Piece}
use Rattle.smf.specs.Reader.{read_track, read_tracks, read_header, read_behind, read_piece, read_file}
use Rattle.smf.specs.Answer.{success, room_needed, verdict}
use Rattle.smf.specs.Step.{header_step, last_time, track_step}
use Rattle.smf.specs.Listing.{end_times, event_counts, has_room, list_answer, list_leaves, paddings_in}
use Rattle.smf.specs.declared.Answer.{Answer}
use Rattle.smf.specs.declared.Division.{Division}
use Rattle.event.proofs.BytesLaws.{bytes_drop}
use Rattle.event.proofs.PlaceLaws.{place_back}
use Rattle.smf.proofs.FileLaws.{tracks_sound}
use Rattle.smf.proofs.RefusalLaws.{judged_refused}
use Rattle.smf.proofs.ChunkLaws.{track_bad, track_found, track_padding_lem}
use Rattle.smf.specs.Padding.{track_padding, tracks_padding, paddings}
use Rattle.smf.proofs.PaddingLaws.{padding_list}
use Rattle.smf.proofs.VerdictLaws.{head_at}

-- ---- a turn of the loop, with so many tracks left from the place at on

abbrev pub R : List ℕ → ℕ → ℕ → Outcome (List (List Event))
R s left at = read_tracks left at (drop at s)

pub list_bad : (s : List ℕ) (left at k p : ℕ) → 0 < left → track_step (length s) (track_padding at (drop at s)) (read_track at (drop at s)) ≡ Err (k, p) → Readable (R s left at) → ⊥
unfolding read_tracks and_then Readable
list_bad s zero at k p z e h = omega arith
list_bad s (suc n) at k p z e h = rw (track_bad (length s) _ k p (read_track at (drop at s)) e) at h

-- one track is listed, n others are left
pub record Listed (s : List ℕ) (left n at : ℕ) (t : Time) (c q y : ℕ) : Type 0 where
  pub inside : q ≤ length s
  pub readable : Readable (R s n q)
  pub times : end_times (value_or [] (R s left at)) ≡ t.0 ∷ end_times (value_or [] (R s n q))
  pub counts : event_counts (value_or [] (R s left at)) ≡ c ∷ event_counts (value_or [] (R s n q))
  pub paddings : tracks_padding left at (drop at s) ≡ y ∷ tracks_padding n q (drop q s)

list_one : {y : ℕ} (s : List ℕ) (n at : ℕ) (t : Time) (c q : ℕ) → Bytes s → at ≤ length s → track_step (length s) (track_padding at (drop at s)) (read_track at (drop at s)) ≡ Ok (record { time = t; events = c; next = q; padding = y })
    → Readable (R s (suc n) at) → Listed s (suc n) n at t c q y
unfolding read_tracks and_then end_times event_counts
list_one s n at t c q bs h e w =
    track_found s at t c q bs h e (λ es come lo hi pt pc.
    let next : at + (length (drop at s) - length (drop q s)) ≡ q = simp length-drop (omega arith) in
    let step : read_tracks (suc n) at (drop at s) ≡ and_then (R s n q) (λ ts r. ok (es ∷ ts) r) = rw (come, next) refl in
    let good : Readable (R s n q) = cons_readable es (R s n q) (rw step at w) in
    let all : value_or [] (R s (suc n) at) ≡ es ∷ value_or [] (R s n q) = ap (value_or []) step ∙ cons_value es (R s n q) good in
    let time : last_time 0 es ≡ t.0 = ap (λ (x : Time). x.0) pt in
    record {
      inside = hi;
      readable = good;
      times = ap end_times all ∙ ap (λ x. x ∷ end_times (value_or [] (R s n q))) time;
      counts = ap event_counts all ∙ ap (λ x. x ∷ event_counts (value_or [] (R s n q))) pc;
      paddings = padding_list n at (drop at s) es (drop q s) come ∙ ap₂ (λ x k. x ∷ tracks_padding n k (drop q s)) (track_padding_lem s at e) next;
    })

pub list_next : {y : ℕ} (s : List ℕ) (left n at : ℕ) (t : Time) (c q : ℕ) → left ≡ suc n → Bytes s → at ≤ length s → track_step (length s) (track_padding at (drop at s)) (read_track at (drop at s)) ≡ Ok (record { time = t; events = c; next = q; padding = y })
    → Readable (R s left at) → Listed s left n at t c q y
list_next s left n at t c q e bs h g w = rw e (list_one s n at t c q bs h g (rw e at w))

pub none_left : (s : List ℕ) (left at : ℕ) → left ≤ 0 → value_or [] (R s left at) ≡ []
unfolding read_tracks value_or
none_left s zero at h = refl
none_left s (suc n) at h = absurd (omega arith)

-- no track, no sum
none_told : (at : ℕ) (l : List ℕ) → tracks_padding 0 at l ≡ []
unfolding tracks_padding
none_told at l = refl

pub no_paddings : (s : List ℕ) (left at : ℕ) (now : List ℕ) (i : ℕ) → left ≤ 0 → sets now i (tracks_padding left at (drop at s)) ≡ now
no_paddings s zero at now i h = rw (none_told at (drop at s)) refl
no_paddings s (suc n) at now i h = absurd (omega arith)

pub list_none : (f : List (List Event) → List ℕ) (s : List ℕ) (left at : ℕ) (now : List ℕ) (i : ℕ) → f [] ≡ [] → left ≤ 0 → sets now i (f (value_or [] (R s left at))) ≡ now
list_none f s left at now i e h = rw (none_left s left at h, e) refl

-- ---- the answers

pub list_refused : (n m o : ℕ) (x : Outcome Piece) (v : Answer) → v ≡ verdict x → (v.number ≡ 0 → ⊥) → v ≡ list_answer n m o x
unfolding list_answer
list_refused n m o x v e h = judged_refused x v e h (λ k p q w. rw q w)

pub refused_leaves : (f : List (List Event) → List ℕ) (n m o : ℕ) (x : Outcome Piece) (v : Answer) (old : List ℕ) → v ≡ verdict x → (v.number ≡ 0 → ⊥) → old ≡ list_leaves f n m o x old
unfolding list_leaves
refused_leaves f n m o x v old e h = judged_refused x v e h (λ k p q w. rw q refl)

-- ---- where the file is accepted

-- its piece, and its tracks as the header counts them
pub record Accepted (s : List ℕ) (b n : ℕ) : Type 0 where
  pub piece : Piece
  pub rest : List ℕ
  pub left : List ℕ
  pub read : read_file s ≡ ok piece rest
  pub tracks : R s b n ≡ ok piece.tracks left
  pub count : length piece.tracks ≡ b

pub accepted_piece : (s : List ℕ) (a b : ℕ) (d : Division) (n : ℕ) (p : Piece) (r : List ℕ) → Bytes s → header_step (length s) (read_header s) ≡ Ok (record { format = a; count = b; division = d; next = n }) → read_file s ≡ ok p r → Accepted s b n
unfolding read_file read_piece
accepted_piece s a b d n p r bs e q =
    let there = head_at s a b d n bs e in
    let (c0, q0) = check_ok _ 1 0 _ p r q in
    and_then_ok (read_header s) _ p r q0 (λ h l qh q1.
    and_then_ok _ _ p r q1 (λ ts m qt q2.
    ok_same there.header h _ l (sym there.read ∙ qh) (λ sameHead rest.
    and_then_ok (read_behind (length s - length m) m) _ p r q2 (λ cs q7 qb q8.
    ok_same _ p q7 r q8 (λ same rn.
    let count : h.count ≡ b = ap (λ z. z.count) (sym sameHead) ∙ there.same_count in
    let at : length s - length l ≡ n = ap (λ z. length s - length z) (sym rest) ∙ place_back s n there.inside in
    let tracks : R s b n ≡ ok ts m = ap₂ (λ x y. read_tracks x y (drop n s)) (sym count) (sym at) ∙ ap (read_tracks h.count (length s - length l)) rest ∙ qt in
    let laid = tracks_sound b n (drop n s) ts m (bytes_drop s n bs) tracks in
    let inPiece : p.tracks ≡ ts = ap (λ z. z.tracks) (sym same) in
    record { piece = p; rest = r; left = m; read = q; tracks = tracks ∙ ap (λ z. ok z m) (sym inPiece); count = ap length inPiece ∙ laid.count })))))

-- the sums of the padding from where the header ends
paddings_there : (s : List ℕ) (a b : ℕ) (d : Division) (n : ℕ) → Bytes s → header_step (length s) (read_header s) ≡ Ok (record { format = a; count = b; division = d; next = n }) → paddings s ≡ tracks_padding b n (drop n s)
unfolding paddings value_or and_then
paddings_there s a b d n bs e =
    let there = head_at s a b d n bs e in
    rw there.read (ap₂ (λ x y. tracks_padding x y (drop n s)) there.same_count (place_back s n there.inside))

-- one for each track that is read
paddings_count : (n at : ℕ) (l : List ℕ) (ts : List (List Event)) (r : List ℕ) → read_tracks n at l ≡ ok ts r → length (tracks_padding n at l) ≡ n
unfolding read_tracks
paddings_count zero at l ts r e = ap length (none_told at l)
paddings_count (suc n) at l ts r e =
    and_then_ok (read_track at l) _ ts r e (λ t m qt e1.
    and_then_ok (read_tracks n _ m) _ ts r e1 (λ us q qu e2.
    ap length (padding_list n at l t m qt) ∙ ap suc (paddings_count n _ m us q qu)))

module _ (s : List ℕ) (b n : ℕ) (there : Accepted s b n) where
  pub accepted_readable : Readable (R s b n)
  unfolding Readable
  accepted_readable = rw there.tracks tt

  -- a list is too short
  module _ (x y z : ℕ) (short : has_room x y z b ≡ false) where
    pub short_answer_lem : room_needed b ≡ list_answer x y z (read_file s)
    unfolding list_answer pick
    short_answer_lem = rw (there.read, there.count, short) refl

    pub short_leaves_lem : (f : List (List Event) → List ℕ) (old : List ℕ) → old ≡ list_leaves f x y z (read_file s) old
    unfolding list_leaves pick
    short_leaves_lem f old = rw (there.read, there.count, short) refl

  -- all are long enough
  module _ (x y z : ℕ) (fits : has_room x y z b ≡ true) where
    pub fine_answer : success b ≡ list_answer x y z (read_file s)
    unfolding list_answer pick
    fine_answer = rw (there.read, there.count, fits) refl

    -- a list that is stored from the first place on, and is the one of its tracks
    stored : (f : List (List Event) → List ℕ) (old xs : List ℕ) → f there.piece.tracks ≡ xs → length xs ≡ b → b ≤ length old
        → sets old 0 xs ≡ list_leaves f x y z (read_file s) old
    unfolding list_leaves pick
    stored f old xs same size room =
        let past : 0 + length xs ≡ b = omega arith in
        sets-eq xs old 0 (omega arith) ∙ rw (there.read, there.count, fits, past, same) refl

    pub fine_leaves : (f : List (List Event) → List ℕ) (old : List ℕ) → ((ts : List (List Event)) → length (f ts) ≡ length ts) → b ≤ length old
        → sets old 0 (f (value_or [] (R s b n))) ≡ list_leaves f x y z (read_file s) old
    unfolding value_or
    fine_leaves f old same room =
        let got : f (value_or [] (R s b n)) ≡ f there.piece.tracks = ap (λ v. f (value_or [] v)) there.tracks in
        stored f old (f (value_or [] (R s b n))) (sym got) (ap length got ∙ same there.piece.tracks ∙ there.count) room

    -- the third list
    pub fine_paddings : (a : ℕ) (d : Division) (old : List ℕ) → Bytes s → header_step (length s) (read_header s) ≡ Ok (record { format = a; count = b; division = d; next = n }) → b ≤ length old
        → sets old 0 (tracks_padding b n (drop n s)) ≡ list_leaves (paddings_in s) x y z (read_file s) old
    fine_paddings a d old bs e room =
        stored (paddings_in s) old (tracks_padding b n (drop n s)) (paddings_there s a b d n bs e) (paddings_count b n (drop n s) _ _ there.tracks) room

pub length_times : (ts : List (List Event)) → length (end_times ts) ≡ length ts
unfolding end_times
length_times [] = refl
length_times (t ∷ ts) = ap suc (length_times ts)

pub length_counts : (ts : List (List Event)) → length (event_counts ts) ≡ length ts
unfolding event_counts
length_counts [] = refl
length_counts (t ∷ ts) = ap suc (length_counts ts)

pub room_yes : (n m o k : ℕ) → k ≤ n → k ≤ m → k ≤ o → has_room n m o k ≡ true
unfolding has_room
room_yes n m o k h g i = rw (le-leb k n h, le-leb k m g, le-leb k o i)

pub room_first : (n m o k : ℕ) → n < k → has_room n m o k ≡ false
unfolding has_room
room_first n m o k h = rw (lt-leb k n h)

pub room_second : (n m o k : ℕ) → k ≤ n → m < k → has_room n m o k ≡ false
unfolding has_room
room_second n m o k h g = rw (le-leb k n h, lt-leb k m g)

pub room_third : (n m o k : ℕ) → k ≤ n → k ≤ m → o < k → has_room n m o k ≡ false
unfolding has_room
room_third n m o k h g i = rw (le-leb k n h, le-leb k m g, lt-leb k o i)

-- a store, and then the others
pub sets_step : (l : List ℕ) (i x : ℕ) (xs : List ℕ) → sets (set l i x) (i + 1) xs ≡ sets l i (x ∷ xs)
sets_step l i x xs = rw (add-one i) refl
