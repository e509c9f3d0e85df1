-- Writing a file's own tracks and the whole file again, and the answers of tidying.
use Rattle.std.specs.Prelude.{Ok}
use mathlib.Core.Path.{◌≡◌, refl, sym, ap, ap₂, subst, ◌∙◌}
use Prim.Native.Nat.{ℕ, ◌-◌, ◌*◌, ◌<◌, ◌≤◌}
use mathlib.Core.List.{List, [], ◌++◌, append-nil}
use native.Mathlib.Omega.{arith}
use lib.ListN.{length, take, drop, length-append}
use lib.Seq.{sets}
use borrow.Author.Tests.{le-leb, lt-leb}
use Rattle.event.specs.Choice.{pick}
use Rattle.event.specs.Bytes.{Bytes, big_endian}
use Rattle.event.specs.Manner.{Manner, short}
use Rattle.event.specs.Outcome.{Outcome, Readable, value_or}
use Rattle.event_write.specs.Written.{Written}
use Rattle.event_write.proofs.WriteLaws.{put_whole, then}
use Rattle.event_write.proofs.PatchLaws.{patch}
use Rattle.event.proofs.BytesLaws.{length_big_endian}
use Rattle.smf.specs.Piece.{Piece}
use Rattle.smf.specs.Chunk.{track_tag}
use Rattle.smf.specs.Layout.{lay_header, lay_chunks, lay_tracks, lay_piece}
use Rattle.smf.specs.Manner.{spell_tracks, spelling, file_of}
use Rattle.smf.specs.Reader.{read_all, read_header, file_limit, read_file}
use Rattle.smf.specs.Answer.{success, refusal, room_needed, verdict}
use Rattle.smf.specs.PieceRead.{piece_read}
use Rattle.smf.specs.Step.{division_from, header_step}
use Rattle.smf.specs.declared.Answer.{Answer}
use Rattle.smf.specs.declared.Division.{Division}
use Rattle.smf.proofs.RefusalLaws.{judged_refused}
use Rattle.smf.proofs.MannerLaws.{tracks_double}
use Rattle.smf.proofs.ListLaws.{R, none_left, Accepted}
use Rattle.smf.proofs.TurnLaws.{TrackTurn, tracks_laid}
use Rattle.smf.proofs.AcceptedLaws.{headed, AcceptedFile}
use Rattle.smf.specs.Writing.{write_answer, write_leaves, short_answer, short_leaves}
use Rattle.smf_write.specs.Tidy.{track_in, tracks_in}

-- ---- the loop over the tracks: so many from the place at on

abbrev pub TracksLeft : Manner → List ℕ → ℕ → ℕ → List ℕ
TracksLeft m s left at = tracks_in m (value_or [] (R s left at))

pub track_left : (m : Manner) (s : List ℕ) (left n at a b : ℕ) → TrackTurn s left n at a b
    → TracksLeft m s left at ≡ track_in m (value_or [] (read_all 0 0 0 (take (b - a) (drop a s)))) ++ TracksLeft m s n b
unfolding lay_tracks spell_tracks lay_chunks
track_left m s left n at a b turn = ap (tracks_in m) turn.all

pub no_tracks_left : (m : Manner) (s : List ℕ) (left at : ℕ) → left ≤ 0 → TracksLeft m s left at ≡ []
unfolding lay_tracks
no_tracks_left m s left at h = ap (tracks_in m) (none_left s left at h)

pub tracks_small : (m : Manner) (s : List ℕ) (left at : ℕ) → Bytes s → Readable (R s left at) → length (TracksLeft m s left at) ≤ 2 * length (drop at s)
tracks_small m s left at bs h =
    let (r, laid) = tracks_laid s left at bs h in
    omega (arith, ap length laid.bytes, length-append (lay_tracks (value_or [] (R s left at)) laid.spelling) r, tracks_double m (value_or [] (R s left at)) laid.spelling laid.permitted)

-- ---- the whole file

-- the bytes of the file, as the code writes them
pub file_bytes : (m : Manner) (s : List ℕ) (a b : ℕ) (d : Division) (n : ℕ) → Bytes s → header_step (length s) (read_header s) ≡ Ok (record { format = a; count = b; division = d; next = n }) → Accepted s b n
    → file_of m (piece_read s) ≡ lay_header a b (division_from d) [] (TracksLeft m s b n)
unfolding file_of lay_piece spelling value_or lay_chunks
file_bytes m s a b d n bs e there =
    let p = there.piece in
    let head = headed s a b d n bs e there in
    let tracks : tracks_in m p.tracks ++ [] ≡ TracksLeft m s b n = append-nil (tracks_in m p.tracks) ∙ ap (λ z. tracks_in m (value_or [] z)) (sym there.tracks) in
    ap (λ z. lay_header z.format (length z.tracks) z.division [] (tracks_in m z.tracks ++ [])) head.same
    ∙ ap₂ (λ x y. lay_header x y p.division [] (tracks_in m p.tracks ++ [])) head.format there.count
    ∙ ap₂ (λ x y. lay_header a b x [] y) head.division tracks

-- ---- the answers of what writes these bytes, measured to be n

module _ (bytes old : List ℕ) (n : ℕ) (size : n ≡ length bytes) where
  pub write_long : file_limit < n → (refusal 29 0 ≡ write_answer (length old) (length bytes)) × (old ≡ write_leaves bytes old)
  unfolding write_answer write_leaves pick
  write_long h = (rw (← size, lt-leb n file_limit h) refl, rw (← size, lt-leb n file_limit h) refl)

  pub write_room : n ≤ file_limit → length old < n → (room_needed n ≡ write_answer (length old) (length bytes)) × (old ≡ write_leaves bytes old)
  unfolding write_answer write_leaves pick
  write_room h g = (rw (← size, le-leb n file_limit h, lt-leb n (length old) g) refl, rw (← size, le-leb n file_limit h, lt-leb n (length old) g) refl)

  pub write_fine : n ≤ file_limit → n ≤ length old → (success n ≡ write_answer (length old) (length bytes)) × (sets old 0 bytes ≡ write_leaves bytes old)
  unfolding write_answer write_leaves pick
  write_fine h g = (
    rw (← size, le-leb n file_limit h, le-leb n (length old) g) refl,
    put_whole bytes old n size g ∙ rw (← size, le-leb n file_limit h, le-leb n (length old) g) refl,
  )

-- ---- the answers of tidying

pub tidy_refused : (x : Outcome Piece) (v : Answer) (old : List ℕ) → v ≡ verdict x → (v.number ≡ 0 → ⊥) → (v ≡ short_answer (length old) x) × (old ≡ short_leaves x old)
unfolding short_answer short_leaves
tidy_refused x v old e h = judged_refused x v e h (λ k p q w. (rw q w, rw q refl))

module _ (s : List ℕ) (there : AcceptedFile s) where
  abbrev Out : List ℕ
  Out = file_of short (piece_read s)

  pub tidied : (old : List ℕ) {v : Answer} {new : List ℕ} → (v ≡ write_answer (length old) (length Out)) × (new ≡ write_leaves Out old)
      → (v ≡ short_answer (length old) (read_file s)) × (new ≡ short_leaves (read_file s) old)
  unfolding short_answer short_leaves
  tidied old (e, g) = rw there.read (e ∙ ap (λ p. write_answer (length old) (length (file_of short p))) there.same, g ∙ ap (λ p. write_leaves (file_of short p) old) there.same)

-- ---- what is written in a row

pub track_written : {out one two mid new : List ℕ} {at p q end last : ℕ} (body : List ℕ) → Written out at (big_endian 4 track_tag) one p → Written one p (big_endian 4 0) two q
    → Written two q body mid end → Written mid p (big_endian 4 (end - q)) new last → Written out at (big_endian 4 track_tag ++ (big_endian 4 (length body) ++ body)) new end
track_written {out} {one} {two} {mid} {new} {at} {p} {q} {end} {last} body a b c d =
    let n : end - q ≡ length body = omega (arith, c.place) in
    patch (big_endian 4 track_tag) (big_endian 4 0) (big_endian 4 (length body)) body (then a (then b c))
    (subst (λ z. Written mid p (big_endian 4 z) new last) n d) a.place (length_big_endian 4 0 ∙ sym (length_big_endian 4 (length body)))
