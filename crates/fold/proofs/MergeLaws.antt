-- The loop of a merge: what is left of the tracks, of the bytes to write, and what the rows say of it.
use Rattle.std.specs.Prelude.{Result, Ok, Err}
use Rattle.event.specs.declared.EventRead.{EventRead}
use mathlib.Core.Path.{◌≡◌, refl, sym, ap, ap₂, ◌∙◌, subst}
use Prim.Native.Nat.{ℕ, zero, suc, ◌+◌, ◌-◌, ◌*◌, ◌≤◌, ◌<◌}
use mathlib.Core.Bool.{true, false}
use mathlib.Core.Logic.{◌⊎◌, inl, inr, ⊎_elim}
use mathlib.Core.List.{List, [], ◌∷◌, ◌++◌, map}
use native.Mathlib.Omega.{arith}
use lib.ListN.{length, drop, get_or, set, length-set, length-append, get_or-map, length-map}
use Rattle.event.specs.Bytes.{Bytes}
use Rattle.event.specs.Choice.{pick}
use Rattle.event.specs.Event.{Event, is_end}
use Rattle.event.specs.Frame.{frame, after, no_status}
use Rattle.event.specs.Layout.{lay_event}
use Rattle.event.specs.Manner.{short, spell_event}
use Rattle.event.specs.Outcome.{Readable, value_or}
use Rattle.event.specs.Reader.{read_event}
use Rattle.event.specs.Padding.{event_padding}
use Rattle.event.specs.Step.{event_step, kind_at, kind_from}
use Rattle.event.specs.declared.Time.{Time}
use Rattle.event.specs.declared.EventKind.{EventKind}
use Rattle.event.proofs.ChoiceLaws.{by_test}
use Rattle.event.proofs.EventLaws.{event_size}
use Rattle.event_write.specs.Written.{Written}
use Rattle.event_write.specs.Head.{head_bytes, data_of}
use Rattle.event_write.proofs.HeadLaws.{event_bytes}
use Rattle.event_write.proofs.WriteLaws.{Remains, all_remains, go_on_lem}
use Rattle.smf.specs.Piece.{LawfulEvents}
use Rattle.smf.specs.Spelling.{PermittedEvents}
use Rattle.smf.specs.Layout.{lay_events, lay_tracks}
use Rattle.smf.specs.Manner.{spell_events}
use Rattle.smf.proofs.CameLaws.{event_came}
use Rattle.smf.proofs.ListLaws.{R}
use Rattle.smf.proofs.MannerLaws.{events_double}
use Rattle.smf.proofs.TurnLaws.{tracks_laid}
use Rattle.smf_write.specs.Tidy.{events_in}
use Rattle.fold_piece.specs.Fold.{others, folded_track}
use Rattle.smf.specs.Walk.{Placed, events_of, tracks_of}
use Rattle.fold_piece.specs.FoldAnswer.{last_placed, ends_shown}
use Rattle.fold.specs.Code.Row.{row_of}
use Rattle.fold.specs.Code.Stand.{first_time, first_status, Stand, Standing, Rows}
use Rattle.fold.specs.declared.Row.{Row}
use Rattle.fold_piece.proofs.OrderLaws.{All, After, NotBefore}
use Rattle.fold_piece.proofs.TrackLaws.{fold_lawful}
use Rattle.fold_piece.proofs.WideLaws.{wide, lay_total}
use Rattle.fold_piece.proofs.FoldLaws.{fold_permitted, fold_total}
use Rattle.fold_piece.proofs.StepLaws.{front_after, front_later, fold_step}
use Rattle.smf.proofs.PlacedLaws.{chain_lawful, tracks_placed}
use Rattle.fold.proofs.RowLaws.{Least}
use Rattle.fold.proofs.StandLaws.{never_one, row_stands, Opened, stand_open, Taken, taken, no_stop, rows_set}
use Rattle.smf.specs.Code.Chain.{Chain, placed_from}

-- ---- the rows beside the one that is taken

closed_end_lem : (f : List ℕ) (p u s : ℕ) (m : Placed) (ms : List Placed) → Stand f p u s (m ∷ ms) → s ≡ 1 → is_end m.event.kind ≡ true
unfolding first_status pick
closed_end_lem f p u s m ms d h =
    by_test (is_end m.event.kind) (λ b. b) (λ b. let e : s ≡ d.force = rw b at d.status_is in absurd (d.plain (sym e ∙ h)))

stand_after : (f : List ℕ) (t p u s : ℕ) (ms : List Placed) → Bytes f → Stand f p u s ms → (s ≡ 1) ⊎ (t < u) → All (After t) (others (events_of ms))
unfolding Chain first_time
stand_after f t p u s [] bs d h = absurd d.chain
stand_after f t p u s (m ∷ ms) bs d h =
    front_after t d.prev m.event (events_of ms) (chain_lawful f p d.prev d.force (m ∷ ms) bs d.chain)
    (⊎_elim (λ x. inl (closed_end_lem f p u s m ms d x)) (λ x. inr (omega (arith, x, d.time_is))) h)

stand_later : (f : List ℕ) (t p u s : ℕ) (ms : List Placed) → Bytes f → Stand f p u s ms → (s ≡ 1) ⊎ (t ≤ u) → All (NotBefore t) (others (events_of ms))
unfolding Chain first_time
stand_later f t p u s [] bs d h = absurd d.chain
stand_later f t p u s (m ∷ ms) bs d h =
    front_later t d.prev m.event (events_of ms) (chain_lawful f p d.prev d.force (m ∷ ms) bs d.chain)
    (⊎_elim (λ x. inl (closed_end_lem f p u s m ms d x)) (λ x. inr (omega (arith, x, d.time_is))) h)

map_set : (l : List (List Placed)) (i : ℕ) (x : List Placed) → tracks_of (set l i x) ≡ set (tracks_of l) i (events_of x)
map_set [] i x = refl
map_set (y ∷ ys) zero x = refl
map_set (y ∷ ys) (suc i) x = ap (λ z. events_of y ∷ z) (map_set ys i x)

nth : (left : List (List Placed)) (j : ℕ) → get_or (tracks_of left) j [] ≡ events_of (get_or left j [])
nth left j = get_or-map events_of left j []

-- the event that is taken is the first of all
module _ (f : List ℕ) (bs : Bytes f) (n : ℕ) (left : List (List Placed)) (ps ts ss : List ℕ) (size : length left ≡ n) (stand : Standing f n ps ts ss left) (i : ℕ) (inside : i < n) (l : Least n ts ss n i) (o : Opened f (get_or ps i 0) (get_or ts i 0) (get_or ss i 0) (get_or left i [])) where
  pub fold_next : folded_track (tracks_of left) ≡ o.first.event ∷ folded_track (tracks_of (set left i o.rest))
  fold_next =
      let e : Event = o.first.event in
      let t : get_or ts i 0 ≡ e.time = o.time_is in
      let many : length (tracks_of left) ≡ length left = length-map left events_of in
      let here : get_or (tracks_of left) i [] ≡ e ∷ events_of o.rest = nth left i ∙ ap events_of o.same in
      let before : (j : ℕ) → j < i → All (After e.time) (others (get_or (tracks_of left) j [])) =
      λ j g.
      rw (nth left j)
      (stand_after f e.time (get_or ps j 0) (get_or ts j 0) (get_or ss j 0) (get_or left j []) bs (stand j (omega (arith, g)))
      (⊎_elim (λ x. inl x) (λ x. inr (omega (arith, x, t))) (l.first inside j g)))
      in
      let later : (j : ℕ) → j < length (tracks_of left) → All (NotBefore e.time) (others (get_or (tracks_of left) j [])) =
      λ j g.
      let k : j < n = omega (arith, g, many) in
      rw (nth left j)
      (stand_later f e.time (get_or ps j 0) (get_or ts j 0) (get_or ss j 0) (get_or left j []) bs (stand j k)
      (⊎_elim (λ x. inl x) (λ x. inr (omega (arith, x, t))) (l.least inside j k)))
      in
      fold_step (tracks_of left) i (omega (arith, many)) e (events_of o.rest) here o.inner
      (chain_lawful f o.first.next e.time (after (frame e.kind)) o.rest bs o.chain) before later
      ∙ ap (λ z. e ∷ folded_track z) (sym (map_set left i o.rest))

-- ---- the last events of the tracks stay

last_same : (m : Placed) (rest : List Placed) (f : List ℕ) (q prev force : ℕ) → Chain f q prev force rest → (g : Placed → ℕ) (ts : List (List Placed)) → ends_shown g (rest ∷ ts) ≡ ends_shown g ((m ∷ rest) ∷ ts)
unfolding Chain ends_shown last_placed
last_same m [] f q prev force c g ts = absurd c
last_same m (x ∷ xs) f q prev force c g ts = refl

shown_tail : (g : Placed → ℕ) (t : List Placed) (xs ys : List (List Placed)) → ends_shown g xs ≡ ends_shown g ys → ends_shown g (t ∷ xs) ≡ ends_shown g (t ∷ ys)
unfolding ends_shown
shown_tail g [] xs ys e = e
shown_tail g (m ∷ ms) xs ys e = ap (λ z. g (last_placed m ms) ∷ z) e

shown_set : (g : Placed → ℕ) (left : List (List Placed)) (i : ℕ) (m : Placed) (rest : List Placed) (f : List ℕ) (q prev force : ℕ) → Chain f q prev force rest → get_or left i [] ≡ m ∷ rest
    → ends_shown g (set left i rest) ≡ ends_shown g left
shown_set g [] i m rest f q prev force c e = refl
shown_set g (t ∷ ts) zero m rest f q prev force c e = last_same m rest f q prev force c g ts ∙ ap (λ z. ends_shown g (z ∷ ts)) (sym e)
shown_set g (t ∷ ts) (suc i) m rest f q prev force c e = shown_tail g t (set ts i rest) ts (shown_set g ts i m rest f q prev force c e)

-- ---- the state of the loop

pub record Going (f : List ℕ) (n : ℕ) (all : List (List Placed)) (old : List ℕ) (from : ℕ) (whole out : List ℕ) (next last force : ℕ) (ps ts ss ps₀ ts₀ ss₀ : List ℕ) : Type 0 where
  pub left : List (List Placed)
  pub size : length left ≡ n
  pub ends : (g : Placed → ℕ) → ends_shown g left ≡ ends_shown g all
  pub rows : Rows f n left ps ts ss ps₀ ts₀ ss₀
  pub remains : Remains old from whole out next (events_in short last force (folded_track (tracks_of left)))
  pub lawful : LawfulEvents last (folded_track (tracks_of left))
  pub permitted : PermittedEvents last force (folded_track (tracks_of left)) (map wide (folded_track (tracks_of left)))

-- an event before others: what it is written as, and what is left
module _ (f : List ℕ) (last force : ℕ) (e : Event) (es : List Event) (k : EventKind) (q : ℕ) (law : LawfulEvents last (e ∷ es)) (may : PermittedEvents last force (e ∷ es) (map wide (e ∷ es))) (shape : kind_at q e.kind ≡ k) (there : kind_from f k ≡ e.kind) where
  item_is : lay_event last e (spell_event short last force e) ≡ head_bytes short force (e.time - last) k ++ data_of (kind_from f k)
  unfolding LawfulEvents PermittedEvents
  item_is =
      event_bytes short last force q e law.0 (wide e) may.0
      ∙ ap₂ (λ x y. head_bytes short force (e.time - last) x ++ data_of y) shape (sym there)

  pub events_item : events_in short last force (e ∷ es) ≡ head_bytes short force (e.time - last) k ++ data_of (kind_from f k) ++ events_in short e.time (after (frame e.kind)) es
  unfolding lay_events spell_events
  events_item = ap (λ z. z ++ events_in short e.time (after (frame e.kind)) es) item_is

  pub item_size : 1 ≤ length (head_bytes short force (e.time - last) k ++ data_of (kind_from f k))
  item_size = rw item_is at (event_size last e (spell_event short last force e))

  pub rest_lawful : is_end e.kind ≡ false → LawfulEvents e.time es
  unfolding LawfulEvents Rattle.smf.specs.Piece.Ends
  rest_lawful b = rw b at law.1

  pub rest_permitted : PermittedEvents e.time (after (frame e.kind)) es (map wide es)
  unfolding PermittedEvents
  rest_permitted = may.1

-- ---- it begins

abbrev pub Whole : List ℕ → ℕ → ℕ → List ℕ
Whole f n first = events_in short 0 0 (folded_track (value_or [] (R f n first)))

pub whole_small : (f : List ℕ) (n first : ℕ) → Bytes f → Readable (R f n first) → length (Whole f n first) ≤ 6 * length (drop first f) + 20
whole_small f n first bs good =
    let (r, laid) = tracks_laid f n first bs good in
    let ts : List (List Event) = value_or [] (R f n first) in
    let permitted = fold_permitted ts laid.spelling laid.lawful laid.permitted in
    omega
    (arith, events_double short 0 no_status (folded_track ts) (map wide (folded_track ts)) permitted, lay_total 0 (folded_track ts), fold_total ts laid.spelling laid.lawful laid.permitted, ap length laid.bytes, length-append (lay_tracks ts laid.spelling) r)

pub going_first : (f : List ℕ) (n first : ℕ) (old : List ℕ) (from : ℕ) (ps ts ss ps₀ ts₀ ss₀ : List ℕ) → Bytes f → Readable (R f n first) → Rows f n (placed_from f n first) ps ts ss ps₀ ts₀ ss₀
    → Going f n (placed_from f n first) old from (Whole f n first) old from 0 0 ps ts ss ps₀ ts₀ ss₀
going_first f n first old from ps ts ss ps₀ ts₀ ss₀ bs good rows =
    let (r, laid) = tracks_laid f n first bs good in
    let same : tracks_of (placed_from f n first) ≡ value_or [] (R f n first) = tracks_placed f n first bs good in
    let many : length (tracks_of (placed_from f n first)) ≡ length (placed_from f n first) = length-map (placed_from f n first) events_of in
    let count : length (tracks_of (placed_from f n first)) ≡ n = ap length same ∙ laid.count in
    record {
      left = placed_from f n first;
      size = sym many ∙ count;
      ends = λ g. refl;
      rows = rows;
      remains = subst (λ z. Remains old from (Whole f n first) old from (events_in short 0 0 (folded_track z))) (sym same) (all_remains old from (Whole f n first));
      lawful = subst (λ z. LawfulEvents 0 (folded_track z)) (sym same) (fold_lawful (value_or [] (R f n first)) laid.lawful);
      permitted =
          subst (λ z. PermittedEvents 0 0 (folded_track z) (map wide (folded_track z))) (sym same)
          (fold_permitted (value_or [] (R f n first)) laid.spelling laid.lawful laid.permitted);
    }

-- ---- it goes on

module _ {f : List ℕ} {n : ℕ} {all : List (List Placed)} {old : List ℕ} {from : ℕ} {whole out : List ℕ} {next last force : ℕ} {ps ts ss ps₀ ts₀ ss₀ : List ℕ} (bs : Bytes f) (g : Going f n all old from whole out next last force ps ts ss ps₀ ts₀ ss₀) where
  pub opened : (i : ℕ) → i < n → Least n ts ss n i → Opened f (get_or ps i 0) (get_or ts i 0) (get_or ss i 0) (get_or g.left i [])
  opened i h l = stand_open f (get_or ps i 0) (get_or ts i 0) (get_or ss i 0) (get_or g.left i []) (g.rows.standing i h) (l.left h).1

  -- the event is read again at its place, after the Time 0
  module _ (i : ℕ) (h : i < n) (l : Least n ts ss n i) {x : Result EventRead ℕ} (e : x ≡ event_step (length f) (event_padding (drop (get_or ps i 0) f)) (read_event 0 (get_or ss i 0) (drop (get_or ps i 0) f))) where
    pub not_stopped : {k : ℕ} → x ≡ Err k → ⊥
    not_stopped {k} given = let o = opened i h l in no_stop f (get_or ps i 0) o.prev (get_or ss i 0) o.first k x bs o.link e given

    pub taken_here : {u : Time} {k : EventKind} {q st y : ℕ} → x ≡ Ok (record { kind = k; next = record { place = q; time = u; status = st }; padding = y }) → Taken f k q st (opened i h l).first
    taken_here {u} {k} {q} {st} {y} given =
        let o = opened i h l in
        taken f (get_or ps i 0) o.prev (get_or ss i 0) o.first u k q st bs o.link
        (event_came f (get_or ps i 0) 0 (get_or ss i 0) bs (omega (arith, o.link.later, o.link.inside)) e given)

  module _ (i : ℕ) (h : i < n) (l : Least n ts ss n i) (k : EventKind) (q st : ℕ) (w : Taken f k q st (opened i h l).first) where
    abbrev E : Event
    E = (opened i h l).first.event

    abbrev Left : List (List Placed)
    Left = set g.left i (opened i h l).rest

    split : folded_track (tracks_of g.left) ≡ E ∷ folded_track (tracks_of Left)
    split = fold_next f bs n g.left ps ts ss g.size g.rows.standing i h l (opened i h l)

    law : LawfulEvents last (E ∷ folded_track (tracks_of Left))
    law = subst (LawfulEvents last) split g.lawful

    may : PermittedEvents last force (E ∷ folded_track (tracks_of Left)) (map wide (E ∷ folded_track (tracks_of Left)))
    may = subst (λ z. PermittedEvents last force z (map wide z)) split g.permitted

    abbrev Item : List ℕ
    Item = head_bytes short force (get_or ts i 0 - last) k ++ data_of (kind_from f k)

    left_is : events_in short last force (folded_track (tracks_of g.left)) ≡ Item ++ events_in short (get_or ts i 0) st (folded_track (tracks_of Left))
    left_is =
        ap (events_in short last force) split
        ∙ events_item f last force E (folded_track (tracks_of Left)) k q law may w.shape w.kind
        ∙ ap₂ (λ x y. head_bytes short force (x - last) k ++ data_of (kind_from f k) ++ events_in short x y (folded_track (tracks_of Left))) (sym (opened i h l).time_is) w.status

    -- the delta as the code has it
    item_written : (z : ℕ) (new : List ℕ) (next' : ℕ) → z ≡ get_or ts i 0 - last → Written out next (head_bytes short force z k ++ data_of (kind_from f k)) new next' → Written out next Item new next'
    item_written z new next' e wr = subst (λ d. Written out next (head_bytes short force d k ++ data_of (kind_from f k)) new next') e wr

    pub going_more : (z : ℕ) (new : List ℕ) (next' : ℕ) → z ≡ get_or ts i 0 - last → Written out next (head_bytes short force z k ++ data_of (kind_from f k)) new next' → (next < next') × (next' ≤ from + length whole)
    going_more z new next' e written =
        let wr = item_written z new next' e written in
        let size = item_size f last force E (folded_track (tracks_of Left)) k q law may w.shape w.kind in
        let t : E.time ≡ get_or ts i 0 = sym (opened i h l).time_is in
        let one : 1 ≤ length Item = subst (λ z. 1 ≤ length (head_bytes short force (z - last) k ++ data_of (kind_from f k))) t size in (
          omega (arith, one, wr.place),
          omega (arith, g.remains.place, ap length left_is, length-append Item (events_in short (get_or ts i 0) st (folded_track (tracks_of Left))), wr.place),
        )

    pub going_on : (row : Row) → n ≤ length ps → n ≤ length ts → n ≤ length ss → row ≡ row_of q (get_or ts i 0) st (event_step (length f) (event_padding (drop q f)) (read_event (get_or ts i 0) st (drop q f)))
        → (z : ℕ) (new : List ℕ) (next' : ℕ) → z ≡ get_or ts i 0 - last → Written out next (head_bytes short force z k ++ data_of (kind_from f k)) new next'
        → Going f n all old from whole new next' (get_or ts i 0) st (set ps i row.place) (set ts i row.time) (set ss i row.status) ps₀ ts₀ ss₀
    going_on row a b c e z new next' d written =
        let wr = item_written z new next' d written in
        let o = opened i h l in
        let t : E.time ≡ get_or ts i 0 = sym o.time_is in
        let chain : Chain f q (get_or ts i 0) st o.rest =
        subst (λ z. Chain f q (get_or ts i 0) z o.rest) w.status
        (subst (λ z. Chain f q z (after (frame E.kind)) o.rest) t (subst (λ z. Chain f z E.time (after (frame E.kind)) o.rest) (sym w.next) o.chain))
        in
        let plain : st ≡ 1 → ⊥ = λ z. never_one E.kind (w.status ∙ z) in
        let stand = row_stands f q (get_or ts i 0) st o.rest row plain chain e in
        record {
          left = Left;
          size = length-set g.left i o.rest ∙ g.size;
          ends = λ z. shown_set z g.left i o.first o.rest f o.first.next E.time (after (frame E.kind)) o.chain o.same ∙ g.ends z;
          rows = rows_set f n g.left ps ts ss ps₀ ts₀ ss₀ i row.place row.time row.status o.rest h a b c (omega (arith, g.size)) g.rows stand;
          remains = go_on_lem _ Item (events_in short (get_or ts i 0) st (folded_track (tracks_of Left))) g.remains left_is wr;
          lawful = subst (λ z. LawfulEvents z (folded_track (tracks_of Left))) t (rest_lawful f last force E (folded_track (tracks_of Left)) k q law may w.shape w.kind o.inner);
          permitted =
              subst (λ z. PermittedEvents (get_or ts i 0) z (folded_track (tracks_of Left)) (map wide (folded_track (tracks_of Left)))) w.status
              (subst (λ z. PermittedEvents z (after (frame E.kind)) (folded_track (tracks_of Left)) (map wide (folded_track (tracks_of Left)))) t
              (rest_permitted f last force E (folded_track (tracks_of Left)) k q law may w.shape w.kind));
        }
