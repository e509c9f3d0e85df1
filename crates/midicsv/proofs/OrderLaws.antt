-- The records of a piece, in their order, are read to that piece.
use mathlib.Core.Path.{◌≡◌, refl, ap, ap₂, subst, ◌∙◌}
use Prim.Native.Nat.{ℕ, suc, ◌+◌, ◌-◌, ◌<◌, ◌≤◌}
use mathlib.Core.Bool.{Bool, true, false, ◌&&◌}
use mathlib.Core.List.{List, [], ◌∷◌, ◌++◌, append_assoc, append-nil}
use native.Mathlib.Omega.{arith}
use lib.ListN.{length, length-append}
use borrow.Author.Tests.{le-leb, lt-ltb, eq-eqb}
use Rattle.event.specs.Outcome.{Outcome, ok}
use Rattle.event.specs.Event.{Event, is_end}
use Rattle.smf.specs.Division.{LawfulDivision}
use Rattle.smf.specs.Piece.{Piece, Header, Ends}
use Rattle.smf.proofs.DivisionLaws.{division_back}
use Rattle.midicsv.specs.Table.{start_track, end_of_file}
use Rattle.midicsv.specs.Record.{Record}
use Rattle.midicsv.specs.Text.{mark, event_record, event_records, track_records, header_record, piece_records}
use Rattle.midicsv.specs.Result.{Result, good, test}
use Rattle.midicsv.specs.Order.{State, first, between, inside, finished, take_header, take_start, take_end, after_event, take_event, step_on, step}
use Rattle.midicsv.specs.PieceOfText.{advance, ended}
use Rattle.midicsv.proofs.ResultLaws.{test_eq}
use Rattle.midicsv.proofs.LayableLaws.{Layable, LayableEvents, LayableTracks}
use Rattle.midicsv.proofs.KindNamedLaws.{kind_named_lem}

-- the records from line n on
unfoldable pub run_records : List Record → State → ℕ → Outcome Piece
run_records [] s n = ended s n
run_records (r ∷ rs) s n = advance (step s r) n (λ t. run_records rs t (suc n))

pub advance_eq : {m : Result State} {s : State} (n : ℕ) (k : State → Outcome Piece) → m ≡ good s → advance m n k ≡ k s
unfolding advance
advance_eq n k e = ap (λ x. advance x n k) e

-- ---- the events of a track

pub event_step_lem : (h : Header) (ts : List (List Event)) (es : List Event) (prev : ℕ) (e : Event) → Layable prev e
    → step (inside h ts es prev) (event_record (suc (length ts)) e) ≡ good (after_event (is_end e.kind) h ts es e)
unfolding step step_on event_record take_event
event_step_lem h ts es prev e l =
    test_eq 26 _ (ap₂ ◌&&◌ (eq-eqb (suc (length ts)) _ refl) (le-leb prev e.time l.lawful.later))
    ∙ test_eq 27 _ (le-leb (e.time - prev) 268435455 l.step)
    ∙ ap (λ x. good (after_event (is_end x) h ts es (record { time = e.time; kind = x }))) (kind_named_lem e.kind l.lawful.fits)

module _ (h : Header) (ts : List (List Event)) (rest : List Record) (x : Outcome Piece) where
  -- after the event e: the rest of its track, and then what follows the track
  go_on_lem : (b : Bool) (es : List Event) (e : Event) (fs : List Event) (n : ℕ) → Ends b fs (LayableEvents e.time fs)
      → ((n : ℕ) → run_records rest (between h (ts ++ ((es ++ (e ∷ fs)) ∷ []))) n ≡ x)
      → ((n : ℕ) → LayableEvents e.time fs → run_records (event_records (suc (length ts)) fs ++ rest) (inside h ts (es ++ (e ∷ [])) e.time) n ≡ x)
      → run_records (event_records (suc (length ts)) fs ++ rest) (after_event b h ts es e) n ≡ x
  unfolding Ends after_event event_records
  go_on_lem true es e fs n a k f = rw a (subst (λ z. run_records rest (between h (ts ++ ((es ++ (e ∷ z)) ∷ []))) n ≡ x) a (k n))
  go_on_lem false es e fs n a k f = f n a

  events_run : (es fs : List Event) (prev n : ℕ) → LayableEvents prev fs
      → ((n : ℕ) → run_records rest (between h (ts ++ ((es ++ fs) ∷ []))) n ≡ x)
      → run_records (event_records (suc (length ts)) fs ++ rest) (inside h ts es prev) n ≡ x
  unfolding LayableEvents run_records event_records
  events_run es [] prev n l k = absurd l
  events_run es (e ∷ fs) prev n l k =
      advance_eq n _ (event_step_lem h ts es prev e l.0)
      ∙ go_on_lem (is_end e.kind) es e fs (suc n) l.1 k
      (λ m a. events_run (es ++ (e ∷ [])) fs e.time m a (λ m. rw (append_assoc es (e ∷ []) fs) (k m)))

-- ---- the tracks

pub start_step_lem : (h : Header) (ts : List (List Event)) → length ts < h.count → step (between h ts) (mark start_track (suc (length ts))) ≡ good (inside h ts [] 0)
unfolding step step_on take_start
start_step_lem h ts l = test_eq 26 _ (ap₂ ◌&&◌ (lt-ltb (length ts) h.count l) (ap₂ ◌&&◌ (eq-eqb (suc (length ts)) _ refl) refl))

pub tracks_run : (h : Header) (ts us : List (List Event)) (rest : List Record) (x : Outcome Piece) (n : ℕ) → LayableTracks us → length ts + length us ≤ h.count
    → ((n : ℕ) → run_records rest (between h (ts ++ us)) n ≡ x)
    → run_records (track_records (suc (length ts)) us ++ rest) (between h ts) n ≡ x
unfolding LayableTracks track_records run_records
tracks_run h ts [] rest x n l c k = rw (append-nil ts) at (k n)
tracks_run h ts (t ∷ us) rest x n l c k =
    advance_eq n _ (start_step_lem h ts (omega arith))
    ∙ rw (append_assoc (event_records (suc (length ts)) t) (track_records (suc (suc (length ts))) us) rest)
    (events_run h ts (track_records (suc (suc (length ts))) us ++ rest) x [] t 0 (suc n) l.0
    (λ m.
    let len : suc (suc (length ts)) ≡ suc (length (ts ++ (t ∷ []))) = omega (arith, length-append ts (t ∷ [])) in
    rw len
    (tracks_run h (ts ++ (t ∷ [])) us rest x m l.1 (omega (arith, length-append ts (t ∷ []))) (λ m. rw (append_assoc ts (t ∷ []) us) (k m)))))

-- ---- the piece

abbrev pub head_of : Piece → Header
head_of p = record { format = p.format; count = length p.tracks; division = p.division }

pub header_step_lem : (p : Piece) → LawfulDivision p.division → step first (header_record p) ≡ good (between (head_of p) [])
unfolding step step_on take_header header_record test
header_step_lem p h = ap (λ d. good (between (record { format = p.format; count = length p.tracks; division = d }) [])) (division_back p.division h)

pub end_step_lem : (p : Piece) → step (between (head_of p) p.tracks) (mark end_of_file 0) ≡ good (finished p)
unfolding step step_on take_end
end_step_lem p = test_eq 26 _ (ap₂ ◌&&◌ (eq-eqb (length p.tracks) _ refl) refl)

pub end_run : (p : Piece) (n : ℕ) → run_records (mark end_of_file 0 ∷ []) (between (head_of p) p.tracks) n ≡ ok p []
unfolding run_records ended
end_run p n = advance_eq n _ (end_step_lem p)

pub piece_run : (p : Piece) (n : ℕ) → LawfulDivision p.division → LayableTracks p.tracks → run_records (piece_records p) first n ≡ ok p []
unfolding piece_records run_records
piece_run p n d l =
    advance_eq n _ (header_step_lem p d) ∙ tracks_run (head_of p) [] p.tracks _ (ok p []) (suc n) l (omega arith) (λ m. end_run p m)
