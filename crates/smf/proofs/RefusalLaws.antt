-- Every refusal of a file has a number from 1 to 13 other than 4, and its place lies in the file.
use mathlib.Core.Path.{◌≡◌, refl, sym, ap, ◌∙◌}
use Prim.Native.Nat.{ℕ, zero, suc, ◌+◌, ◌-◌, ◌≤◌}
use mathlib.Core.Bool.{Bool, true, false}
use mathlib.Core.List.{List, [], ◌∷◌, ◌++◌}
use native.Mathlib.Omega.{arith}
use lib.ListN.{length, drop, length-append, length-drop}
use lib.Dec.{leb, eqb}
use borrow.Author.Tests.{leb-true}
use Rattle.event.specs.Bytes.{Bytes}
use Rattle.event.specs.Event.{Event, is_end}
use Rattle.event.specs.Frame.{frame, after, no_status}
use Rattle.event.specs.Outcome.{Outcome, ok, refused, check, Readable}
use Rattle.event.specs.Reader.{read_event}
use Rattle.event.proofs.ChoiceLaws.{by_test}
use Rattle.event.proofs.OutcomeLaws.{placed_ok}
use Rattle.event.proofs.BytesLaws.{bytes_drop, length_big_endian}
use Rattle.event.proofs.EventLaws.{event_shorter}
use Rattle.event.proofs.RefusalLaws.{Fair, then_fair, check_fair, pick_fair, placed_fair, number_fair, event_fair}
use Rattle.smf.specs.Piece.{Piece}
use Rattle.smf.specs.Chunk.{track_tag}
use Rattle.smf.specs.Layout.{lay_chunk, lay_chunks, lay_track, lay_tracks}
use Rattle.smf.specs.Reader.{ended, go_on, read_events, read_all, Head, read_head, find_track, read_chunk, read_track, read_tracks, read_header, pass_over, read_behind, read_piece, file_limit, read_file}
use Rattle.smf.specs.Answer.{refusal, verdict}
use Rattle.smf.specs.declared.Answer.{Answer}
use Rattle.smf.proofs.PassedLaws.{HeadLaid, head_sound, chunk_length, ChunkLaid, chunk_sound, pass_step, pass_none}
use Rattle.smf.proofs.FileLaws.{TrackLaid, track_sound, tracks_sound, header_sound, header_size}

go_fair : (m : ℕ) (b : Bool) (at : ℕ) (e : Event) (r : List ℕ) (k : Outcome (List Event)) → at ≤ m → Fair 13 m k → Fair 13 m (go_on b at e r k)
unfolding go_on ended
go_fair m true at e [] k h g = tt
go_fair m true at e (b ∷ r) k h g = (omega arith, h)
go_fair m false at e r k h g = then_fair 13 m k _ g (λ es q c. tt)

events_fair : (m n at prev f : ℕ) (l : List ℕ) → Bytes l → at + length l ≤ m → Fair 13 m (read_events n at prev f l)
unfolding read_events
events_fair m zero at prev f l bs h = omega arith
events_fair m (suc n) at prev f l bs h =
    then_fair 13 m _ _ (placed_fair 13 m 0 at (read_event prev f l) (omega arith) (event_fair 0 prev f l)) (λ e r c.
    let (shorter, br) = event_shorter prev f l e r bs (placed_ok at _ e r c) in
    go_fair m (is_end e.kind) (at + (length l - length r)) e r _ (omega arith)
    (events_fair m n (at + (length l - length r)) e.time (after (frame e.kind)) r br (omega arith)))

head_fair : (m at : ℕ) (l : List ℕ) → at ≤ m → Fair 13 m (read_head at l)
unfolding read_head
head_fair m at l h =
    check_fair 13 m _ 2 at _ (omega arith) (λ c0. then_fair 13 m _ _ (number_fair m 4 l) (λ tag l1 q1. then_fair 13 m _ _ (number_fair m 4 l1) (λ n l2 q2. tt)))

-- a head and its bytes are eight and as many more
pub head_size : (l : List ℕ) (h : Head) (r : List ℕ) → HeadLaid l h r → length l ≡ 8 + length r
head_size l h r laid = ap length laid.bytes ∙ simp (length-append, length_big_endian) (omega arith)

find_fair : (m n at : ℕ) (l : List ℕ) → Bytes l → at + length l ≤ m → Fair 13 m (find_track n at l)
unfolding find_track
find_fair m zero at l bs h = omega arith
find_fair m (suc n) at l bs h =
    then_fair 13 m _ _ (head_fair m at l (omega arith)) (λ x r q.
    let laid = head_sound at l x r bs q in
    let size = head_size l x r laid in
    check_fair 13 m _ 2 at _ (omega arith) (λ c.
    let fit = leb-true x.size (length r) c in
    pick_fair 13 m (eqb x.tag track_tag) _ _ tt
    (find_fair m n (at + 8 + x.size) (drop x.size r) (bytes_drop r x.size laid.after) (simp length-drop (omega arith)))))

stuck_fair : (m at : ℕ) (l : List ℕ) → at ≤ m → Fair 13 m (pass_over zero at l)
unfolding pass_over
stuck_fair m at l h = (omega arith, h)

pass_fair : (m n at : ℕ) (l : List ℕ) → Bytes l → at + length l ≤ m → Fair 13 m (pass_over n at l)
pass_fair m zero at l bs h = stuck_fair m at l (omega arith)
pass_fair m (suc n) at [] bs h = rw (pass_none n at) tt
pass_fair m (suc n) at (b ∷ l) bs h =
    rw (pass_step n at (b ∷ l) (omega arith))
    (then_fair 13 m _ _ (head_fair m at (b ∷ l) (omega arith)) (λ x r q.
    let laid = head_sound at (b ∷ l) x r bs q in
    let size = head_size (b ∷ l) x r laid in
    check_fair 13 m _ 13 at _ (omega arith) (λ c0.
    check_fair 13 m _ 2 at _ (omega arith) (λ c.
    let fit = leb-true x.size (length r) c in
    then_fair 13 m _ _ (pass_fair m n (at + 8 + x.size) (drop x.size r) (bytes_drop r x.size laid.after) (simp length-drop (omega arith))) (λ cs q e. tt)))))

-- a chunk's bytes are those of the chunks before it, eight, its body and the rest
pub chunk_size : (l body r : List ℕ) (laid : ChunkLaid l body r) → length l ≡ length (lay_chunks laid.before) + (8 + length body + length r)
chunk_size l body r laid =
    ap length laid.bytes ∙ length-append (lay_chunks laid.before) (lay_chunk track_tag body ++ r)
    ∙ ap (λ z. length (lay_chunks laid.before) + z) (length-append (lay_chunk track_tag body) r ∙ ap (λ z. z + length r) (chunk_length track_tag body))

track_fair : (m at : ℕ) (l : List ℕ) → Bytes l → at + length l ≤ m → Fair 13 m (read_track at l)
unfolding read_track read_chunk read_all
track_fair m at l bs h =
    then_fair 13 m _ _ (find_fair m (suc (length l)) at l bs h) (λ body r q.
    let laid = chunk_sound at l body r bs q in
    let size = chunk_size l body r laid in
    then_fair 13 m _ _ (events_fair m (suc (length body)) (at + (length l - length r - length body)) 0 no_status body laid.inside (omega arith)) (λ es z e. tt))

-- a track's bytes, those of the chunks before it, and the rest
pub track_size : (l : List ℕ) (es : List Event) (r : List ℕ) (laid : TrackLaid l es r)
    → length l ≡ length (lay_chunks laid.spelling.before) + (length (lay_track es laid.spelling.events) + length r)
track_size l es r laid =
    ap length laid.bytes ∙ length-append (lay_chunks laid.spelling.before) (lay_track es laid.spelling.events ++ r)
    ∙ ap (λ z. length (lay_chunks laid.spelling.before) + z) (length-append (lay_track es laid.spelling.events) r)

tracks_fair : (m n at : ℕ) (l : List ℕ) → Bytes l → at + length l ≤ m → Fair 13 m (read_tracks n at l)
unfolding read_tracks
tracks_fair m zero at l bs h = tt
tracks_fair m (suc n) at l bs h =
    then_fair 13 m _ _ (track_fair m at l bs h) (λ t r q.
    let laid = track_sound at l t r bs q in
    let size = track_size l t r laid in
    then_fair 13 m _ _ (tracks_fair m n (at + (length l - length r)) r laid.after (omega arith)) (λ ts s e. tt))

header_fair : (f : List ℕ) → Fair 13 (length f) (read_header f)
unfolding read_header
header_fair f =
    let m : ℕ = length f in
    check_fair 13 m _ 2 0 _ (omega arith) (λ c.
    let big : 14 ≤ length f = leb-true 14 (length f) c in
    then_fair 13 m _ _ (number_fair m 4 f) (λ a l1 q1. check_fair 13 m _ 3 0 _ (omega arith) (λ c1.
    then_fair 13 m _ _ (number_fair m 4 l1) (λ b l2 q2. check_fair 13 m _ 3 4 _ (omega arith) (λ c2. check_fair 13 m _ 2 0 _ (omega arith) (λ c6.
    then_fair 13 m _ _ (number_fair m 2 l2) (λ d l3 q3. check_fair 13 m _ 3 8 _ (omega arith) (λ c3.
    then_fair 13 m _ _ (number_fair m 2 l3) (λ e l4 q4. check_fair 13 m _ 3 10 _ (omega arith) (λ c4.
    then_fair 13 m _ _ (number_fair m 2 l4) (λ g l5 q5. check_fair 13 m _ 3 12 _ (omega arith) (λ c5. tt))))))))))))

pub file_fair : (f : List ℕ) → Bytes f → Fair 13 (length f) (read_file f)
unfolding read_file read_piece read_behind
file_fair f bs =
    check_fair 13 (length f) _ 1 0 _ (omega arith) (λ c.
    then_fair 13 (length f) _ _ (header_fair f) (λ h l q.
    let laid = header_sound f h l bs q in
    let size = ap length laid.bytes ∙ header_size h.format h.count h.division laid.extra l in
    then_fair 13 (length f) _ _ (tracks_fair (length f) h.count (length f - length l) l laid.after (omega arith)) (λ ts r e.
    let tracks = tracks_sound h.count _ l ts r laid.after e in
    let some = ap length tracks.bytes ∙ length-append (lay_tracks ts tracks.spelling) r in
    then_fair 13 (length f) _ _ (pass_fair (length f) (suc (length r)) (length f - length r) r tracks.after (omega arith)) (λ cs q e. tt))))

-- ---- what a verdict says

zero_readable : (m : ℕ) (x : Outcome Piece) → Fair 13 m x → (verdict x).number ≡ 0 → Readable x
unfolding verdict Readable
zero_readable m (ok p r) h z = tt
zero_readable m (refused n q) h z = absurd (omega arith)

-- with the number 0 the file is read
pub judged_readable : (f : List ℕ) (v : Answer) → Bytes f → v ≡ verdict (read_file f) → v.number ≡ 0 → Readable (read_file f)
judged_readable f v bs e z = zero_readable (length f) (read_file f) (file_fair f bs) (ap (λ (w : Answer). w.number) (sym e) ∙ z)

-- with any other it is refused
pub judged_refused : {X : Type 0} (x : Outcome Piece) (v : Answer) → v ≡ verdict x → (v.number ≡ 0 → ⊥) → ((k p : ℕ) → x ≡ refused k p → v ≡ refusal k p → X) → X
unfolding verdict
judged_refused (ok p r) v e h f = absurd (h (ap (λ (w : Answer). w.number) e))
judged_refused (refused k q) v e h f = f k q refl e

-- ---- what packing a verdict needs

place_fair : (m : ℕ) (x : Outcome Piece) → Fair 13 m x → (verdict x).place ≤ m
unfolding verdict
place_fair m (ok p r) h = omega arith
place_fair m (refused n q) h = h.1

long_place : (f : List ℕ) → leb (length f) file_limit ≡ false → (verdict (read_file f)).place ≤ file_limit
unfolding read_file check verdict
long_place f e = rw e (omega arith)

pub place_small : (f : List ℕ) → Bytes f → (verdict (read_file f)).place ≤ file_limit
place_small f bs =
    by_test (leb (length f) file_limit)
    (λ e. let h = leb-true (length f) file_limit e in omega (arith, place_fair (length f) (read_file f) (file_fair f bs)))
    (λ e. long_place f e)

none_written : (x : Outcome Piece) → (verdict x).length ≡ 0
unfolding verdict
none_written (ok p r) = refl
none_written (refused n q) = refl

pub length_none : (f : List ℕ) → (verdict (read_file f)).length ≡ 0
length_none f = none_written (read_file f)
