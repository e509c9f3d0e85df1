-- The piece read, by the answers of the header, the chunks and the events, is the piece that the reader gives.
use Rattle.std.specs.Prelude.{Result, Ok, Err}
use Rattle.smf.specs.declared.Chunk.{Chunk}
use mathlib.Core.Path.{◌≡◌, refl, sym, ap, ap₂, ◌∙◌}
use Prim.Native.Nat.{ℕ, zero, suc, ◌+◌, ◌-◌, ◌<◌, ◌≤◌}
use mathlib.Core.Bool.{Bool, true, false}
use mathlib.Core.List.{List, [], ◌∷◌}
use native.Mathlib.Omega.{arith}
use lib.ListN.{length, drop, length-drop}
use Rattle.event.specs.Bytes.{Bytes}
use Rattle.event.specs.Event.{Event, is_end}
use Rattle.event.specs.Frame.{frame, after, no_status}
use Rattle.event.specs.Layout.{lay_event}
use Rattle.event.specs.Outcome.{ok}
use Rattle.event.specs.Reader.{read_event}
use Rattle.event.specs.Padding.{event_padding}
use Rattle.event.specs.Step.{kind_at, kind_from, event_step}
use Rattle.event.proofs.OutcomeLaws.{not_ok, ok_same, and_then_ok, placed_ok}
use Rattle.event.proofs.BytesLaws.{bytes_drop}
use Rattle.event.proofs.EventLaws.{event_sound, event_shorter}
use Rattle.event.proofs.PlaceLaws.{place}
use Rattle.event.proofs.DataLaws.{kind_there}
use Rattle.event.proofs.StepLaws.{end_of_lem}
use Rattle.smf.specs.Piece.{Piece}
use Rattle.smf.specs.Reader.{read_events, read_all, read_chunk, read_track, read_tracks, read_header, read_behind, read_piece}
use Rattle.smf.specs.Step.{division_step, header_step, chunk_step}
use Rattle.smf.specs.PieceRead.{until_end, events_read, track_read, tracks_read, piece_from, piece_read}
use Rattle.smf.proofs.DivisionLaws.{division_same}
use Rattle.smf.proofs.TrackLaws.{go_sound}
use Rattle.smf.proofs.PassedLaws.{chunk_sound}
use Rattle.smf.proofs.RefusalLaws.{chunk_size}
use Rattle.smf.proofs.ChunkLaws.{BodyAt, chunk_body}
use Rattle.smf.proofs.VerdictLaws.{head_at}

-- ---- the events of a track

-- the first event of the rest of a body, and the rest after it
events_turn : (n : ℕ) (body : List ℕ) (at prev force : ℕ) (e : Event) (r : List ℕ) → Bytes body → at ≤ length body → read_event prev force (drop at body) ≡ ok e r
    → events_read (suc n) body (event_step (length body) (event_padding (drop at body)) (read_event prev force (drop at body)))
    ≡ e ∷ until_end (is_end e.kind) (events_read n body (event_step (length body) (event_padding r) (read_event e.time (after (frame e.kind)) r)))
unfolding events_read event_step
events_turn n body at prev force e r bs h come =
    let laid = event_sound prev force (drop at body) e r (bytes_drop body at bs) come in
    let next : ℕ = length body - length r in
    let rest : drop next body ≡ r = place body (lay_event prev e laid.spelling) r at laid.bytes in
    let kind : kind_from body (kind_at next e.kind) ≡ e.kind = kind_there prev force e laid.spelling body r at laid.lawful laid.permitted laid.bytes h in
    rw (come, end_of_lem next e.kind, rest, kind) refl

until_true : (b : Bool) (l : List Event) → b ≡ true → until_end b l ≡ []
unfolding until_end
until_true b l e = ap (λ z. until_end z l) e

until_false : (b : Bool) (l : List Event) → b ≡ false → until_end b l ≡ l
unfolding until_end
until_false b l e = ap (λ z. until_end z l) e

events_are : (m n base : ℕ) (body : List ℕ) (at prev force : ℕ) (es : List Event) (q : List ℕ) → Bytes body → at ≤ length body → length body - at < n
    → read_events m base prev force (drop at body) ≡ ok es q → events_read n body (event_step (length body) (event_padding (drop at body)) (read_event prev force (drop at body))) ≡ es
unfolding read_events
events_are zero n base body at prev force es q bs h few e = not_ok e
events_are (suc m) zero base body at prev force es q bs h few e = absurd (omega arith)
events_are (suc m) (suc n) base body at prev force es q bs h few e =
    and_then_ok _ _ es q e (λ v r qv e1.
    let come : read_event prev force (drop at body) ≡ ok v r = placed_ok base _ v r qv in
    let laid = event_sound prev force (drop at body) v r (bytes_drop body at bs) come in
    let (shorter, br) = event_shorter prev force (drop at body) v r (bytes_drop body at bs) come in
    let rest : drop (length body - length r) body ≡ r = place body (lay_event prev v laid.spelling) r at laid.bytes in
    let size = length-drop at body in
    events_turn n body at prev force v r bs h come
    ∙ go_sound (is_end v.kind) _ v r _ es q e1
    (λ b rn p qn. ap (λ z. v ∷ z) (until_true (is_end v.kind) _ b) ∙ p)
    (λ b fs qk p.
    let then : ℕ = base + (length (drop at body) - length r) in
    let more : read_events m then v.time (after (frame v.kind)) (drop (length body - length r) body) ≡ ok fs q = ap (read_events m then v.time (after (frame v.kind))) rest ∙ qk in
    let again = events_are m n then body (length body - length r) v.time (after (frame v.kind)) fs q bs (omega arith) (omega arith) more in
    ap (λ z. v ∷ z) (until_false (is_end v.kind) _ b ∙ rw rest at again) ∙ p))

track_is : (base : ℕ) (body : List ℕ) (es : List Event) (q : List ℕ) → Bytes body → read_all base 0 no_status body ≡ ok es q → track_read body ≡ es
unfolding read_all track_read
track_is base body es q bs e = events_are (suc (length body)) (suc (length body)) base body 0 0 no_status es q bs (omega arith) (omega arith) e

-- ---- the tracks

none_read : (f : List ℕ) (c : Result Chunk (ℕ × ℕ)) → tracks_read zero f c ≡ []
unfolding tracks_read
none_read f (Ok c) = refl
none_read f (Err e) = refl

-- a chunk that was read, by its places
chunk_at : (f : List ℕ) (at : ℕ) (body l : List ℕ) → Bytes f → at ≤ length f → read_chunk at (drop at f) ≡ ok body l
    → BodyAt f at (length f - length l - length body) (length f - length l)
unfolding chunk_step
chunk_at f at body l bs h e = chunk_body f at (length f - length l - length body) (length f - length l) bs (ap (chunk_step (length f)) e)

tracks_turn : (n : ℕ) (f : List ℕ) (at : ℕ) (body l : List ℕ) → Bytes f → at ≤ length f → read_chunk at (drop at f) ≡ ok body l
    → tracks_read (suc n) f (chunk_step (length f) (read_chunk at (drop at f)))
    ≡ track_read body ∷ tracks_read n f (chunk_step (length f) (read_chunk (length f - length l) (drop (length f - length l) f)))
unfolding tracks_read chunk_step
tracks_turn n f at body l bs h e =
    let there = chunk_at f at body l bs h e in
    let tail : List (List Event) = tracks_read n f (chunk_step (length f) (read_chunk (length f - length l) (drop (length f - length l) f))) in
    ok_same body _ l _ (sym e ∙ there.read) (λ pb pl. rw e (ap (λ z. track_read z ∷ tail) (sym pb)))

tracks_are : (n at : ℕ) (f : List ℕ) (ts : List (List Event)) (r : List ℕ) → Bytes f → at ≤ length f → read_tracks n at (drop at f) ≡ ok ts r
    → tracks_read n f (chunk_step (length f) (read_chunk at (drop at f))) ≡ ts
unfolding read_tracks read_track
tracks_are zero at f ts r bs h e = none_read f (chunk_step (length f) (read_chunk at (drop at f))) ∙ ok_same [] ts _ r e (λ p q. p)
tracks_are (suc n) at f ts r bs h e =
    and_then_ok _ _ ts r e (λ t m qt e1.
    and_then_ok _ _ ts r e1 (λ us q qu e2.
    and_then_ok (read_chunk at (drop at f)) _ t m qt (λ body l qc e3.
    and_then_ok (read_all (at + (length (drop at f) - length l - length body)) 0 no_status body) _ t m e3 (λ es z qa e4.
    ok_same es t l m e4 (λ pt lm.
    ok_same (t ∷ us) ts q r e2 (λ pts qr.
    let there = chunk_at f at body l bs h qc in
    let laid = chunk_sound at (drop at f) body l (bytes_drop f at bs) qc in
    let size = chunk_size (drop at f) body l laid in
    let whole = length-drop at f in
    let b : ℕ = length f - length l in
    let next : at + (length (drop at f) - length m) ≡ b = ap (λ z. at + (length (drop at f) - length z)) (sym lm) ∙ omega (arith, size, whole, h) in
    let rest : drop b f ≡ m = ok_same body _ l _ (sym qc ∙ there.read) (λ pb pl. sym pl ∙ lm) in
    let inner : track_read body ≡ t = track_is _ body es z laid.inside qa ∙ pt in
    let more : read_tracks n b (drop b f) ≡ ok us q = ap₂ (read_tracks n) (sym next) rest ∙ qu in
    let again = tracks_are n b f us q bs there.inside more in
    tracks_turn n f at body l bs h qc ∙ ap₂ (λ x y. x ∷ y) inner again ∙ pts))))))

-- ---- the whole file

pub piece_is : (f : List ℕ) (p : Piece) (r : List ℕ) → Bytes f → read_piece f ≡ ok p r → piece_read f ≡ p
unfolding read_piece piece_read piece_from header_step
piece_is f p r bs e =
    and_then_ok (read_header f) _ p r e (λ h l qh e1.
    and_then_ok _ _ p r e1 (λ ts m qt e2.
    let there = head_at f h.format h.count (division_step h.division) (length f - length l) bs (ap (header_step (length f)) qh) in
    let rest : drop (length f - length l) f ≡ l = ok_same there.header h _ l (sym there.read ∙ qh) (λ a b. b) in
    let tracks = tracks_are h.count (length f - length l) f ts m bs there.inside (ap (read_tracks h.count (length f - length l)) rest ∙ qt) in
    and_then_ok (read_behind (length f - length m) m) _ p r e2 (λ cs q q7 e7.
    ok_same _ p q r e7 (λ same qr.
    rw qh (ap₂ (λ d z. record { format = h.format; division = d; tracks = z }) (division_same h.division) tracks) ∙ same))))
