-- The records of an accepted text: the piece so far stays lawful and layable, and takes few bytes more than the text.
use mathlib.Core.Path.{◌≡◌, refl}
use Prim.Native.Nat.{ℕ, ◌+◌, ◌-◌, ◌<◌, ◌≤◌}
use mathlib.Core.Bool.{Bool, true, false}
use mathlib.Core.List.{List, [], ◌∷◌, ◌++◌, append_assoc}
use native.Mathlib.Omega.{arith}
use lib.ListN.{length, get_or, length-append}
use lib.Dec.{ltb, eqb}
use borrow.Author.Tests.{leb-true, ltb-true, eqb-true}
use Rattle.event.specs.Event.{Event, is_end, Fits}
use Rattle.event.specs.Frame.{frame}
use Rattle.event.proofs.ChoiceLaws.{and_both}
use Rattle.smf.specs.Piece.{Piece, Header, Ends, LawfulPiece}
use Rattle.smf.proofs.DivisionLaws.{division_is}
use Rattle.smf.proofs.FileLaws.{LawfulHeader, fit_is, piece_lawful}
use Rattle.midicsv.specs.Table.{RecordName, header, start_track, end_of_file, event, spelled, shape}
use Rattle.midicsv.specs.Record.{Values, Record}
use Rattle.midicsv.specs.Result.{good}
use Rattle.midicsv.specs.ReadRecord.{together}
use Rattle.midicsv.specs.KindOf.{kind_named}
use Rattle.midicsv.specs.Order.{State, first, between, inside, finished, take_header, take_start, take_end, after_event, take_event, step_on, step}
use Rattle.midicsv.specs.PieceOfText.{text_limit}
use Rattle.midicsv.proofs.ResultLaws.{not_good, good_same, test_good}
use Rattle.midicsv.proofs.RowLaws.{InColumn, InColumns, InTail}
use Rattle.midicsv.proofs.LayableLaws.{data_size, Layable, LayableEvents, LayableTracks, tracks_lawful, most, most_all}
use Rattle.midicsv.proofs.KindAcceptedLaws.{nth_in, kind_fits}
use Rattle.midicsv.proofs.RecordAcceptedLaws.{Given}

-- ---- what holds after each record; n is the most that the lines so far account for

pub record BetweenOk (n : ℕ) (h : Header) (ts : List (List Event)) : Type 0 where
  pub head : LawfulHeader h
  pub tracks : LayableTracks ts
  pub few : length ts ≤ h.count
  pub size : 14 + most_all ts ≤ n

-- events that may be followed by any that are layable after the Time prev
abbrev pub Open : List Event → ℕ → Type 0
Open es prev = (fs : List Event) → LayableEvents prev fs → LayableEvents 0 (es ++ fs)

pub record InsideOk (n : ℕ) (h : Header) (ts : List (List Event)) (es : List Event) (prev : ℕ) : Type 0 where
  pub head : LawfulHeader h
  pub tracks : LayableTracks ts
  pub few : length ts < h.count
  pub events : Open es prev
  pub size : 22 + most_all ts + most es ≤ n

pub record PieceOk (n : ℕ) (p : Piece) : Type 0 where
  pub lawful : LawfulPiece p
  pub tracks : LayableTracks p.tracks
  pub size : 14 + most_all p.tracks ≤ n

unfoldable pub StateOk : ℕ → State → Type 0
StateOk n first = Unit {0}
StateOk n (between h ts) = BetweenOk n h ts
StateOk n (inside h ts es prev) = InsideOk n h ts es prev
StateOk n (finished p) = PieceOk n p

pub state_more : (n m : ℕ) (s : State) → n ≤ m → StateOk n s → StateOk m s
unfolding StateOk
state_more n m first h k = tt
state_more n m (between x ts) h k = record { head = k.head; tracks = k.tracks; few = k.few; size = omega (arith, k.size) }
state_more n m (inside x ts es prev) h k = record { head = k.head; tracks = k.tracks; few = k.few; events = k.events; size = omega (arith, k.size) }
state_more n m (finished p) h k = record { lawful = k.lawful; tracks = k.tracks; size = omega (arith, k.size) }

-- ---- Header, Start_track, End_of_file

header_ok : (n track time : ℕ) (ns : List ℕ) (s : State) → 14 ≤ n → InColumns (shape header).columns ns → together header ns ≡ true → take_header track time ns ≡ good s → StateOk n s
unfolding take_header StateOk shape InColumn together LayableTracks most_all
header_ok n track time ns s l h g q =
    let (t, z) = test_good _ 26 _ s q in
    let a = nth_in _ ns 0 h (omega arith) in
    let b = nth_in _ ns 1 h (omega arith) in
    let d = nth_in _ ns 2 h (omega arith) in
    rw (← (good_same z))
    (record {
      head =
          record {
            format = omega arith;
            some = omega arith;
            few = omega arith;
            single = fit_is (get_or ns 0 0) (get_or ns 1 0) g;
            division = division_is (get_or ns 2 0) d;
          };
      tracks = tt;
      few = omega arith;
      size = omega arith;
    })

start_ok : (n m : ℕ) (h : Header) (ts : List (List Event)) (track time : ℕ) (s : State) → n + 8 ≤ m → BetweenOk n h ts → take_start h ts track time ≡ good s → StateOk m s
unfolding take_start StateOk most
start_ok n m h ts track time s l k q =
    let (t, z) = test_good _ 26 _ s q in
    rw (← (good_same z))
    (record {
      head = k.head;
      tracks = k.tracks;
      few = ltb-true (length ts) h.count (and_both (ltb (length ts) h.count) _ t).0;
      events = λ fs a. a;
      size = omega (arith, k.size);
    })

end_ok : (n m : ℕ) (h : Header) (ts : List (List Event)) (track time : ℕ) (s : State) → n ≤ m → BetweenOk n h ts → take_end h ts track time ≡ good s → StateOk m s
unfolding take_end StateOk
end_ok n m h ts track time s l k q =
    let (t, z) = test_good _ 26 _ s q in
    let c : length ts ≡ h.count = eqb-true (length ts) h.count (and_both (eqb (length ts) h.count) _ t).0 in
    rw (← (good_same z)) (record { lawful = piece_lawful h ts k.head c (tracks_lawful ts k.tracks); tracks = k.tracks; size = omega (arith, k.size) })

-- ---- events

tracks_snoc : (ts : List (List Event)) (t : List Event) → LayableTracks ts → LayableEvents 0 t → LayableTracks (ts ++ (t ∷ []))
unfolding LayableTracks
tracks_snoc [] t a b = (b, tt)
tracks_snoc (x ∷ ts) t a b = (a.0, tracks_snoc ts t a.1 b)

most_snoc : (es : List Event) (e : Event) → most (es ++ (e ∷ [])) ≡ most es + (10 + data_size (frame e.kind))
unfolding most
most_snoc [] e = omega arith
most_snoc (x ∷ es) e = let h = most_snoc es e in omega arith

most_all_snoc : (ts : List (List Event)) (t : List Event) → most_all (ts ++ (t ∷ [])) ≡ most_all ts + (8 + most t)
unfolding most_all
most_all_snoc [] t = omega arith
most_all_snoc (x ∷ ts) t = let h = most_all_snoc ts t in omega arith

followed : (b : Bool) (e : Event) (fs : List Event) (prev : ℕ) → Layable prev e → is_end e.kind ≡ b → Ends b fs (LayableEvents e.time fs) → LayableEvents prev (e ∷ fs)
unfolding LayableEvents
followed b e fs prev l q a = (l, rw q a)

after_ok : (n m : ℕ) (b : Bool) (h : Header) (ts : List (List Event)) (es : List Event) (prev : ℕ) (e : Event) → n + (10 + data_size (frame e.kind)) ≤ m → is_end e.kind ≡ b → Layable prev e
    → InsideOk n h ts es prev → StateOk m (after_event b h ts es e)
unfolding after_event StateOk Ends
after_ok n m true h ts es prev e w q l k =
    record {
      head = k.head;
      tracks = tracks_snoc ts (es ++ (e ∷ [])) k.tracks (k.events (e ∷ []) (followed true e [] prev l q refl));
      few = omega (arith, k.few, length-append ts ((es ++ (e ∷ [])) ∷ []));
      size = omega (arith, k.size, most_all_snoc ts (es ++ (e ∷ [])), most_snoc es e);
    }
after_ok n m false h ts es prev e w q l k =
    record {
      head = k.head;
      tracks = k.tracks;
      few = k.few;
      events = λ fs a. rw (append_assoc es (e ∷ []) fs) (k.events (e ∷ fs) (followed false e fs prev l q a));
      size = omega (arith, k.size, most_snoc es e);
    }

event_ok : (n m : ℕ) (h : Header) (ts : List (List Event)) (es : List Event) (prev track : ℕ) (e : Event) (s : State)
    → n + (10 + data_size (frame e.kind)) ≤ m → data_size (frame e.kind) ≤ 268435455 → e.time ≤ 4294967295 → Fits e.kind
    → InsideOk n h ts es prev → take_event h ts es prev track e ≡ good s → StateOk m s
unfolding take_event
event_ok n m h ts es prev track e s w d ht f k q =
    let (t1, q1) = test_good _ 26 _ s q in
    let (t2, q2) = test_good _ 27 _ s q1 in
    let later = leb-true prev e.time (and_both (eqb track _) _ t1).1 in
    rw (← (good_same q2))
    (after_ok n m (is_end e.kind) h ts es prev e w refl
    (record { lawful = record { later = later; bounded = ht; fits = f }; step = leb-true (e.time - prev) 268435455 t2; size = d }) k)

-- ---- any record

between_ok : (n : ℕ) (h : Header) (ts : List (List Event)) → StateOk n (between h ts) → BetweenOk n h ts
unfolding StateOk
between_ok n h ts k = k

inside_ok : (n : ℕ) (h : Header) (ts : List (List Event)) (es : List Event) (p : ℕ) → StateOk n (inside h ts es p) → InsideOk n h ts es p
unfolding StateOk
inside_ok n h ts es p k = k

-- a line of k bytes accounts for at most 15 + k
module _ (n m k : ℕ) (room : n + (15 + k) ≤ m) (short : k ≤ text_limit) where
  step_on_lem : (s : State) (x : RecordName) (track time : ℕ) (v : Values) (t : State) → StateOk n s → time ≤ 4294967295 → 1 ≤ length (spelled x) → InColumns (shape x).columns v.columns
      → InTail (shape x).tail v.body → length v.body ≤ k → together x v.columns ≡ true → step_on s x track time v ≡ good t → StateOk m t
  unfolding step_on
  step_on_lem first header track time v t o ht f c a b g q = header_ok m track time v.columns t (omega arith) c g q
  step_on_lem first start_track track time v t o ht f c a b g q = not_good q
  step_on_lem first end_of_file track time v t o ht f c a b g q = not_good q
  step_on_lem first (event x) track time v t o ht f c a b g q = not_good q
  step_on_lem (between h ts) header track time v t o ht f c a b g q = not_good q
  step_on_lem (between h ts) start_track track time v t o ht f c a b g q = start_ok n m h ts track time t (omega arith) (between_ok n h ts o) q
  step_on_lem (between h ts) end_of_file track time v t o ht f c a b g q = end_ok n m h ts track time t (omega arith) (between_ok n h ts o) q
  step_on_lem (between h ts) (event x) track time v t o ht f c a b g q = not_good q
  step_on_lem (inside h ts es p) header track time v t o ht f c a b g q = not_good q
  step_on_lem (inside h ts es p) start_track track time v t o ht f c a b g q = not_good q
  step_on_lem (inside h ts es p) end_of_file track time v t o ht f c a b g q = not_good q
  step_on_lem (inside h ts es p) (event x) track time v t o ht f c a b g q =
      let (y, z) = kind_fits x v f c a in
      event_ok n m h ts es p track (record { time = time; kind = kind_named x v }) t (omega arith) (omega arith) ht y (inside_ok n h ts es p o) q
  step_on_lem (finished p) header track time v t o ht f c a b g q = not_good q
  step_on_lem (finished p) start_track track time v t o ht f c a b g q = not_good q
  step_on_lem (finished p) end_of_file track time v t o ht f c a b g q = not_good q
  step_on_lem (finished p) (event x) track time v t o ht f c a b g q = not_good q

  pub step_ok : (s : State) (r : Record) (t : State) → StateOk n s → Given k r → step s r ≡ good t → StateOk m t
  unfolding step
  step_ok s r t o g q = step_on_lem s r.name r.track r.time r.values t o g.time g.spelled g.columns g.tail g.small g.together q
