-- Rows at the beginning: one more track.
use Rattle.std.specs.Prelude.{Ok}
use mathlib.Core.Path.{◌≡◌, refl, sym, ap, ◌∙◌, subst}
use Prim.Native.Nat.{ℕ, suc, ◌+◌, ◌-◌, ◌≤◌, ◌<◌}
use mathlib.Core.List.{List, [], ◌∷◌}
use native.Mathlib.Omega.{arith}
use lib.Dec.{ltb}
use lib.ListN.{length, drop, get_or, set}
use lib.Seq.{get_or-set_same, get_or-set_other, drop-set-lt, get_or-drop, drop-drop}
use borrow.Author.Tests.{ltb-true, ltb-false}
use Rattle.event.specs.Bytes.{Bytes}
use Rattle.event.specs.Outcome.{Readable}
use Rattle.event.specs.Reader.{read_event}
use Rattle.event.specs.Padding.{event_padding}
use Rattle.event.specs.Step.{event_step}
use Rattle.event.proofs.ChoiceLaws.{by_test}
use Rattle.smf.specs.Reader.{read_chunk}
use Rattle.smf.specs.Step.{chunk_step}
use Rattle.smf.proofs.ListLaws.{R}
use Rattle.smf.specs.Walk.{Placed}
use Rattle.fold.specs.Code.Row.{row_of}
use Rattle.fold.specs.Code.Stand.{Stand, Standing, Rows}
use Rattle.fold.specs.declared.Row.{Row}
use Rattle.smf.proofs.PlacedLaws.{track_placed}
use Rattle.fold.proofs.StandLaws.{row_stands}
use Rattle.smf.specs.Code.Chain.{placed_from}

pub record Starting (f : List ℕ) (n first at i : ℕ) (ps ts ss ps₀ ts₀ ss₀ : List ℕ) : Type 0 where
  pub readable : Readable (R f (n - i) at)
  pub left : drop i (placed_from f n first) ≡ placed_from f (n - i) at
  pub standing : Standing f i ps ts ss (placed_from f n first)
  pub places : drop n ps ≡ drop n ps₀
  pub times : drop n ts ≡ drop n ts₀
  pub statuses : drop n ss ≡ drop n ss₀

pub starting : (f : List ℕ) (n first : ℕ) (ps ts ss : List ℕ) → Readable (R f n first) → Starting f n first first 0 ps ts ss ps ts ss
starting f n first ps ts ss good =
    let e : n ≡ n - 0 = omega arith in
    record {
      readable = subst (λ z. Readable (R f z first)) e good;
      left = ap (λ z. placed_from f z first) e;
      standing = λ j h. absurd (omega (arith, h));
      places = refl;
      times = refl;
      statuses = refl;
    }

first_of : (l : List (List Placed)) (i : ℕ) (x : List Placed) (xs : List (List Placed)) → drop i l ≡ x ∷ xs → (get_or l i [] ≡ x) × (drop (i + 1) l ≡ xs)
first_of l i x xs e =
    let z : i + 0 ≡ i = omega arith in
    (ap (λ k. get_or l k []) (sym z) ∙ sym (get_or-drop i l 0 []) ∙ ap (λ k. get_or k 0 []) e, sym (drop-drop 1 i l) ∙ ap (drop 1) e)

pub start_more : (f : List ℕ) (n first at i a b : ℕ) (ps ts ss ps₀ ts₀ ss₀ : List ℕ) (row : Row) → Bytes f → i < n → n ≤ length ps → n ≤ length ts → n ≤ length ss
    → chunk_step (length f) (read_chunk at (drop at f)) ≡ Ok (record { start = a; end = b }) → row ≡ row_of a 0 0 (event_step (length f) (event_padding (drop a f)) (read_event 0 0 (drop a f)))
    → Starting f n first at i ps ts ss ps₀ ts₀ ss₀ → Starting f n first b (i + 1) (set ps i row.place) (set ts i row.time) (set ss i row.status) ps₀ ts₀ ss₀
start_more f n first at i a b ps ts ss ps₀ ts₀ ss₀ row bs h u v w e r s =
    let down : n - i ≡ suc (n - (i + 1)) = omega arith in
    let m = track_placed f (n - i) (n - (i + 1)) at a b down bs e s.readable in
    let x = first_of (placed_from f n first) i _ _ (s.left ∙ m.all) in
    let stand : Stand f row.place row.time row.status (get_or (placed_from f n first) i []) = subst (Stand f row.place row.time row.status) (sym x.0) (row_stands f a 0 0 _ row (λ z. omega (arith, z)) m.chain r) in
    record {
      readable = m.turn.rest;
      left = x.1;
      standing =
          λ j g.
          by_test (ltb j i)
          (λ y.
          let k = ltb-true j i y in
          let d : j ≡ i → ⊥ = λ z. omega (arith, z, k) in
          rw (get_or-set_other ps i j row.place 0 d, get_or-set_other ts i j row.time 0 d, get_or-set_other ss i j row.status 0 d) (s.standing j k))
          (λ y.
          let k : i ≡ j = omega (arith, ltb-false j i y, g) in
          subst (λ z. Stand f (get_or (set ps i row.place) z 0) (get_or (set ts i row.time) z 0) (get_or (set ss i row.status) z 0) (get_or (placed_from f n first) z [])) k
          (rw (get_or-set_same ps i row.place 0 (omega arith), get_or-set_same ts i row.time 0 (omega arith), get_or-set_same ss i row.status 0 (omega arith)) stand));
      places = drop-set-lt n ps i row.place h ∙ s.places;
      times = drop-set-lt n ts i row.time h ∙ s.times;
      statuses = drop-set-lt n ss i row.status h ∙ s.statuses;
    }

pub started : (f : List ℕ) (n first at i : ℕ) (ps ts ss ps₀ ts₀ ss₀ : List ℕ) → n ≤ i → Starting f n first at i ps ts ss ps₀ ts₀ ss₀ → Rows f n (placed_from f n first) ps ts ss ps₀ ts₀ ss₀
started f n first at i ps ts ss ps₀ ts₀ ss₀ h s =
    record { standing = λ j g. s.standing j (omega (arith, g)); places = s.places; times = s.times; statuses = s.statuses }
