-- Channel_prefix and MIDI_port: a track refuses by 33, whatever comes after it, or lets through what comes; and 33 lies in the file.
use Rattle.std.specs.Prelude.{Result, Ok, Err}
use Rattle.smf.specs.declared.Chunk.{Chunk}
use mathlib.Core.Path.{◌≡◌, refl, sym, ◌∙◌, subst}
use Prim.Native.Nat.{ℕ, zero, suc, ◌≤◌}
use mathlib.Core.Bool.{Bool, true, false, not, false≢true}
use mathlib.Core.List.{List, [], ◌∷◌}
use mathlib.Core.Logic.{◌⊎◌, inl, inr, ⊎_elim}
use native.Mathlib.Omega.{arith}
use lib.Dec.{leb}
use borrow.Author.Tests.{le-leb, leb-true}
use lib.ListN.{length, drop}
use Rattle.event.specs.Bytes.{Bytes}
use Rattle.event.specs.Choice.{pick}
use Rattle.event.specs.Event.{is_end}
use Rattle.event.specs.Frame.{frame, after}
use Rattle.event.specs.Outcome.{Outcome, ok, refused, check, Readable}
use Rattle.event.proofs.ChoiceLaws.{by_test}
use Rattle.event.proofs.OutcomeLaws.{check_ok, check_refused}
use Rattle.smf.specs.Reader.{read_chunk}
use Rattle.smf.specs.Step.{chunk_step}
use Rattle.smf.specs.Walk.{Placed, events_of, tracks_of}
use Rattle.smf.specs.PlacedFile.{placed_tracks}
use Rattle.smf.specs.Code.Chain.{Tail, Chain, placed_from}
use Rattle.smf.proofs.ListLaws.{R}
use Rattle.smf.proofs.TurnLaws.{tracks_stop}
use Rattle.smf.proofs.PlacedLaws.{track_placed}
use Rattle.fold_piece.specs.FoldClaims.{FreeEvents, FreeTracks}
use Rattle.fold_piece.specs.FoldAnswer.{is_prefix_or_port, track_free, tracks_free, several_free}

-- what refuses by 33, whatever it is given, or lets through what it is given
pub data Free (f : (A : Type 0) → Outcome A → Outcome A) : Type 1 where
  stopped : (p : ℕ) → ((A : Type 0) (y : Outcome A) → f A y ≡ refused 33 p) → Free f
  through : ((A : Type 0) (y : Outcome A) → f A y ≡ y) → Free f

free_test : (b : Bool) (p : ℕ) (f : (A : Type 0) → Outcome A → Outcome A) → Free f → Free (λ A y. check (not b) 33 p (f A y))
unfolding check
free_test true p f s = stopped p (λ A y. refl)
free_test false p f s = s

free_then : (f g : (A : Type 0) → Outcome A → Outcome A) → Free f → Free g → Free (λ A y. f A (g A y))
free_then f g (stopped p h) s = stopped p (λ A y. h A (g A y))
free_then f g (through h) (stopped p k) = stopped p (λ A y. h A (g A y) ∙ k A y)
free_then f g (through h) (through k) = through (λ A y. h A (g A y) ∙ k A y)

pub free_track : (es : List Placed) → Free (λ A. track_free {A = A} es)
unfolding track_free
free_track [] = through (λ A y. refl)
free_track (e ∷ es) = free_test (is_prefix_or_port e.event.kind) e.start (λ A. track_free {A = A} es) (free_track es)

free_tracks : (ts : List (List Placed)) → Free (λ A. tracks_free {A = A} ts)
unfolding tracks_free
free_tracks [] = through (λ A y. refl)
free_tracks (t ∷ ts) = free_then (λ A. track_free {A = A} t) (λ A. tracks_free {A = A} ts) (free_track t) (free_tracks ts)

free_pick : (b : Bool) (f : (A : Type 0) → Outcome A → Outcome A) → Free f → Free (λ A y. pick b (f A y) y)
unfolding pick
free_pick true f s = s
free_pick false f s = through (λ A y. refl)

pub free_several : (n : ℕ) (ts : List (List Placed)) → Free (λ A. several_free {A = A} n ts)
unfolding several_free
free_several n ts = free_pick (leb 2 n) (λ A. tracks_free {A = A} ts) (free_tracks ts)

-- ---- the place of 33 lies in the file

unfoldable pub Within : ℕ → List Placed → Type 0
Within n [] = Unit {0}
Within n (e ∷ es) = (e.start ≤ n) × Within n es

unfoldable pub AllWithin : ℕ → List (List Placed) → Type 0
AllWithin n [] = Unit {0}
AllWithin n (t ∷ ts) = Within n t × AllWithin n ts

module _ {A : Type 0} (n k q : ℕ) where
  test_place : (b : Bool) (p : ℕ) (x : Outcome A) → p ≤ n → check (not b) 33 p x ≡ refused k q → (q ≤ n) ⊎ (x ≡ refused k q)
  test_place b p x h e = check_refused (not b) 33 p k q x e (λ t a c. inl (omega (arith, h, c))) (λ t g. inr g)

  track_place : (es : List Placed) (x : Outcome A) → Within n es → track_free es x ≡ refused k q → (q ≤ n) ⊎ (x ≡ refused k q)
  unfolding track_free Within
  track_place [] x w e = inr e
  track_place (y ∷ ys) x w e = ⊎_elim (λ a. inl a) (track_place ys x w.1) (test_place (is_prefix_or_port y.event.kind) y.start (track_free ys x) w.0 e)

  tracks_place : (ts : List (List Placed)) (x : Outcome A) → AllWithin n ts → tracks_free ts x ≡ refused k q → (q ≤ n) ⊎ (x ≡ refused k q)
  unfolding tracks_free AllWithin
  tracks_place [] x w e = inr e
  tracks_place (t ∷ ts) x w e = ⊎_elim (λ a. inl a) (tracks_place ts x w.1) (track_place t (tracks_free ts x) w.0 e)

  pub several_place : (m : ℕ) (ts : List (List Placed)) (x : Outcome A) → AllWithin n ts → several_free m ts x ≡ refused k q → (q ≤ n) ⊎ (x ≡ refused k q)
  unfolding several_free pick
  several_place m ts x w e = by_test (leb 2 m) (λ t. tracks_place ts x w (rw t at e)) (λ t. inr (rw t at e))

-- events that stand in a file, one after the other
tail_within : (n : ℕ) (b : Bool) (es : List Placed) (P : Type 0) → (P → Within n es) → Tail b es P → Within n es
unfolding Tail Within
tail_within n true es P g h = subst (Within n) (sym h) tt
tail_within n false es P g h = g h

chain_within : (f : List ℕ) (at prev force : ℕ) (es : List Placed) → Chain f at prev force es → Within (length f) es
unfolding Chain Within
chain_within f at prev force [] c = absurd c
chain_within f at prev force (e ∷ es) c = (
  omega (arith, c.0.place, c.0.later, c.0.inside),
  tail_within (length f) (is_end e.event.kind) es _ (chain_within f e.next e.event.time (after (frame e.event.kind)) es) c.1,
)

within_with : (f : List ℕ) (n at : ℕ) (x : Result Chunk (ℕ × ℕ)) → Bytes f → x ≡ chunk_step (length f) (read_chunk at (drop at f)) → Readable (R f (suc n) at)
    → ((b : ℕ) → Readable (R f n b) → AllWithin (length f) (placed_from f n b)) → AllWithin (length f) (placed_from f (suc n) at)
unfolding AllWithin
within_with f n at (Ok c) bs e good rest =
    let m = track_placed f (suc n) n at c.start c.end refl bs (sym e) good in
    subst (AllWithin (length f)) (sym m.all) (chain_within f c.start 0 0 _ m.chain, rest c.end m.turn.rest)
within_with f n at (Err (k, p)) bs e good rest = absurd (tracks_stop f (suc n) at k p (omega arith) (sym e) good)

pub placed_within : (f : List ℕ) (n at : ℕ) → Bytes f → Readable (R f n at) → AllWithin (length f) (placed_from f n at)
unfolding placed_tracks AllWithin
placed_within f zero at bs good = tt
placed_within f (suc n) at bs good = within_with f n at _ bs refl good (λ b g. placed_within f n b bs g)

-- ---- a piece that has neither passes, and what passes has neither

not_true : (b : Bool) → not b ≡ true → b ≡ false
not_true true e = absurd (false≢true e)
not_true false e = refl

module _ {A : Type 0} where
  track_passes : (es : List Placed) (x : Outcome A) → FreeEvents (events_of es) → track_free es x ≡ x
  unfolding track_free FreeEvents check
  track_passes [] x h = refl
  track_passes (e ∷ es) x h = rw h.0 (track_passes es x h.1)

  tracks_pass : (ts : List (List Placed)) (x : Outcome A) → FreeTracks (tracks_of ts) → tracks_free ts x ≡ x
  unfolding tracks_free FreeTracks
  tracks_pass [] x h = refl
  tracks_pass (t ∷ ts) x h = track_passes t (tracks_free ts x) h.0 ∙ tracks_pass ts x h.1

  pub several_pass : (n : ℕ) (ts : List (List Placed)) (x : Outcome A) → (2 ≤ n → FreeTracks (tracks_of ts)) → several_free n ts x ≡ x
  unfolding several_free pick
  several_pass n ts x h = by_test (leb 2 n) (λ t. rw t (tracks_pass ts x (h (leb-true 2 n t)))) (λ t. rw t refl)

  track_free_lem : (es : List Placed) (x : Outcome A) (a : A) (r : List ℕ) → track_free es x ≡ ok a r → FreeEvents (events_of es) × (x ≡ ok a r)
  unfolding track_free FreeEvents
  track_free_lem [] x a r e = (tt, e)
  track_free_lem (y ∷ ys) x a r e =
      let (one, more) = check_ok (not (is_prefix_or_port y.event.kind)) 33 y.start (track_free ys x) a r e in
      let (rest, last) = track_free_lem ys x a r more in
      ((not_true (is_prefix_or_port y.event.kind) one, rest), last)

  tracks_free_lem : (ts : List (List Placed)) (x : Outcome A) (a : A) (r : List ℕ) → tracks_free ts x ≡ ok a r → FreeTracks (tracks_of ts)
  unfolding tracks_free FreeTracks
  tracks_free_lem [] x a r e = tt
  tracks_free_lem (t ∷ ts) x a r e = let (one, more) = track_free_lem t (tracks_free ts x) a r e in (one, tracks_free_lem ts x a r more)

  pub several_free_lem : (n : ℕ) (ts : List (List Placed)) (x : Outcome A) (a : A) (r : List ℕ) → several_free n ts x ≡ ok a r → 2 ≤ n → FreeTracks (tracks_of ts)
  unfolding several_free pick
  several_free_lem n ts x a r e h = tracks_free_lem ts x a r (rw (le-leb 2 n h) at e)
