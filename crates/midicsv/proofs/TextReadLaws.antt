-- Demand 2, the text side: the text of a piece that has a layout, and its sheet form, are read to that piece, and are never too long.
use mathlib.Core.Path.{◌≡◌, refl, ap, ◌∙◌}
use Prim.Native.Nat.{ℕ, suc, ◌+◌, ◌≤◌}
use mathlib.Core.Bool.{Bool, true, false}
use mathlib.Core.List.{List, [], ◌∷◌, ◌++◌}
use native.Mathlib.Omega.{arith}
use lib.ListN.{length}
use Rattle.event.specs.Outcome.{Outcome, ok}
use Rattle.event.specs.Event.{Event, is_end}
use Rattle.event.proofs.ChoiceLaws.{pick_false}
use Rattle.smf.specs.Piece.{Piece, Ends, LawfulPiece}
use Rattle.smf.specs.Layout.{LaidOut}
use Rattle.smf.specs.Reader.{file_limit}
use Rattle.smf.proofs.FileLaws.{fit_yes}
use Rattle.midicsv.specs.Field.{decimal}
use Rattle.midicsv.specs.Show.{Form, as_text, as_sheet, line_of, show}
use Rattle.midicsv.specs.Table.{start_track, end_of_file, shape}
use Rattle.midicsv.specs.Record.{Record, record_line}
use Rattle.midicsv.specs.Text.{mark, event_record, event_records, track_records, header_record, piece_records, records_text, written_as, most}
use Rattle.midicsv.specs.Result.{Result, good, bad, next}
use Rattle.midicsv.specs.ReadRecord.{together}
use Rattle.midicsv.specs.Lines.{lines_of, passed_over}
use Rattle.midicsv.specs.Order.{State, first, step}
use Rattle.midicsv.specs.PieceOfText.{told, framed, tell_line, step_told, advance, ended, run_lines, piece_told, piece_of_text, text_limit}
use Rattle.midicsv.proofs.AllLaws.{All, Printable}
use Rattle.midicsv.proofs.RowLaws.{InColumns, InTail, rowed, header_rowed}
use Rattle.midicsv.proofs.BoundLaws.{written_bound}
use Rattle.midicsv.proofs.DecimalReadLaws.{decimal_digits}
use Rattle.midicsv.proofs.KnownLaws.{frames_known, kind_known}
use Rattle.midicsv.proofs.RecordReadLaws.{Sound, line_back, record_printable}
use Rattle.midicsv.proofs.LineLaws.{lines_feed, printable_feed, trimmed_same, not_passed}
use Rattle.midicsv.proofs.LayableLaws.{Layable, LayableEvents, LayableTracks, tracks_layable}
use Rattle.midicsv.proofs.KindNamedLaws.{body_size}
use Rattle.midicsv.proofs.OrderLaws.{run_records, piece_run}

-- ---- the lines of records that are read back

unfoldable pub AllSound : List Record → Type 0
AllSound [] = Unit {0}
AllSound (r ∷ rs) = Sound r × AllSound rs

pub kept : (w : Form) (r : Record) → r.track ≤ 65535 → passed_over (record_line w r) ≡ false
unfolding record_line line_of show
kept w r h = not_passed (decimal r.track) _ (decimal_digits r.track (omega arith))

pub line_told : (w : Form) (r : Record) → Sound r → All Printable (record_line w r) → tell_line (record_line w r) ≡ told (good r)
unfolding tell_line framed
line_told w r a pr = rw (trimmed_same (record_line w r) pr) (pick_false _ _ (kept w r a.track) ∙ ap told (line_back w r a))

pub line_step_lem : (w : Form) (s : State) (r : Record) → tell_line (record_line w r) ≡ told (good r) → step_told s (tell_line (record_line w r)) ≡ step s r
unfolding step_told next
line_step_lem w s r e = ap (step_told s) e

pub advance_same : (m : Result State) (n : ℕ) (f g : State → Outcome Piece) → ((s : State) → f s ≡ g s) → advance m n f ≡ advance m n g
unfolding advance
advance_same (good s) n f g h = h s
advance_same (bad k) n f g h = refl

pub no_lines : (s : State) (n : ℕ) → run_lines tell_line (lines_of []) s n ≡ ended s n
unfolding run_lines lines_of
no_lines s n = refl

pub one_line : (w : Form) (ls : List (List ℕ)) (r : Record) (s : State) (n : ℕ) → tell_line (record_line w r) ≡ told (good r)
    → run_lines tell_line (record_line w r ∷ ls) s n ≡ advance (step s r) n (λ t. run_lines tell_line ls t (suc n))
unfolding run_lines
one_line w ls r s n e = ap (λ m. advance m n (λ t. run_lines tell_line ls t (suc n))) (line_step_lem w s r e)

pub lines_run : (w : Form) (rs : List Record) (s : State) (n : ℕ) → AllSound rs → run_lines tell_line (lines_of (records_text w rs)) s n ≡ run_records rs s n
unfolding AllSound records_text run_records
lines_run w [] s n a = no_lines s n
lines_run w (r ∷ rs) s n a =
    let pr : All Printable (record_line w r) = record_printable w r a.0 in
    ap (λ z. run_lines tell_line z s n) (lines_feed (record_line w r) (records_text w rs) (printable_feed (record_line w r) pr))
    ∙ one_line w (lines_of (records_text w rs)) r s n (line_told w r a.0 pr)
    ∙ advance_same (step s r) n _ _ (λ t. lines_run w rs t (suc n) a.1)

-- ---- the records of a piece are read back

pub sound_append : (rs qs : List Record) → AllSound rs → AllSound qs → AllSound (rs ++ qs)
unfolding AllSound
sound_append [] qs a b = b
sound_append (r ∷ rs) qs a b = (a.0, sound_append rs qs a.1 b)

pub event_sound : (track prev : ℕ) (e : Event) → track ≤ 65535 → Layable prev e → Sound (event_record track e)
unfolding event_record together shape
event_sound track prev e h l =
    let r = rowed e.kind l.lawful.fits in
    record {
      track = h;
      time = l.lawful.bounded;
      known = kind_known e.kind l.lawful.fits;
      columns = r.columns;
      tail = r.tail;
      small = omega (arith, body_size e.kind, l.size);
      together = refl;
    }

pub rest_sound : (b : Bool) (track : ℕ) (es : List Event) (P : Type 0) → Ends b es P → (P → AllSound (event_records track es)) → AllSound (event_records track es)
unfolding Ends event_records AllSound
rest_sound true track es P a f = rw a tt
rest_sound false track es P a f = f a

pub events_sound : (track prev : ℕ) (es : List Event) → track ≤ 65535 → LayableEvents prev es → AllSound (event_records track es)
unfolding LayableEvents event_records AllSound
events_sound track prev [] h l = tt
events_sound track prev (e ∷ es) h l =
    (event_sound track prev e h l.0, rest_sound (is_end e.kind) track es _ l.1 (λ q. events_sound track e.time es h q))

pub start_sound : (n : ℕ) → n ≤ 65535 → Sound (mark start_track n)
unfolding shape together InColumns InTail
start_sound n h =
    record { track = h; time = omega arith; known = frames_known.start; columns = tt; tail = refl; small = omega arith; together = refl }

pub end_sound : Sound (mark end_of_file 0)
unfolding shape together InColumns InTail
end_sound =
    record { track = omega arith; time = omega arith; known = frames_known.last; columns = tt; tail = refl; small = omega arith; together = refl }

pub tracks_sound : (n : ℕ) (ts : List (List Event)) → n + length ts ≤ 65536 → LayableTracks ts → AllSound (track_records n ts)
unfolding LayableTracks track_records AllSound
tracks_sound n [] h l = tt
tracks_sound n (t ∷ ts) h l =
    (start_sound n (omega arith), sound_append (event_records n t) (track_records (suc n) ts) (events_sound n 0 t (omega arith) l.0) (tracks_sound (suc n) ts (omega arith) l.1))

pub header_sound : (p : Piece) → LawfulPiece p → Sound (header_record p)
unfolding header_record shape together InTail
header_sound p l =
    record {
      track = omega arith;
      time = omega arith;
      known = frames_known.first;
      columns = header_rowed p l;
      tail = refl;
      small = omega arith;
      together = fit_yes p.format (length p.tracks) l.single;
    }

pub piece_sound : (p : Piece) → LawfulPiece p → LayableTracks p.tracks → AllSound (piece_records p)
unfolding piece_records AllSound
piece_sound p l ls =
    (header_sound p l, sound_append (track_records 1 p.tracks) _ (tracks_sound 1 p.tracks (omega (arith, l.few)) ls) (end_sound, tt))

-- ---- the text of a piece that has a layout

pub written_read : (w : Form) (f : List ℕ) (p : Piece) → LaidOut f p → piece_of_text (written_as w p) ≡ ok p []
unfolding piece_of_text piece_told written_as
written_read w f p l =
    let ls = tracks_layable p.tracks l.spelling.tracks l.has.lawful.tracks l.has.permitted.tracks in
    lines_run w (piece_records p) first 1 (piece_sound p l.has.lawful ls) ∙ piece_run p 1 l.has.lawful.division ls

-- "so 21 never meets our own text", nor our own sheet
pub written_small : (w : Form) (f : List ℕ) (p : Piece) → LaidOut f p → length f ≤ file_limit → length (written_as w p) ≤ text_limit
unfolding most
written_small as_text f p l h = omega (arith, written_bound as_text f p l)
written_small as_sheet f p l h = omega (arith, written_bound as_sheet f p l)
