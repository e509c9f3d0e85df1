-- The bytes of Data, field after field.
use mathlib.Core.Path.{◌≡◌, refl, sym, ap, ◌∙◌}
use Prim.Native.Nat.{ℕ, zero, suc, ◌+◌, ◌≤◌, ◌%◌}
use mathlib.Core.List.{List, [], ◌∷◌, ◌++◌}
use native.Mathlib.Omega.{arith}
use lib.ListN.{length, drop}
use lib.Seq.{drop-length}
use Rattle.event.specs.Outcome.{ok, refused}
use Rattle.event_write.specs.Written.{Written}
use Rattle.event_write.proofs.WriteLaws.{Remains, go_on_lem, done}
use Rattle.midicsv.specs.Field.{Field}
use Rattle.midicsv.specs.ReadField.{read_field}
use Rattle.midicsv_record.specs.Row.{byte_in, after_field, data_from}
use Rattle.midicsv_record.proofs.BodyLaws.{after_place}
use Rattle.midicsv_read.specs.Data.{DataIs}
use Rattle.std.specs.Prelude.{Some}
use Rattle.midicsv_scan.specs.FieldAt.{field_as, next_of}
use Rattle.midicsv_scan.specs.declared.FieldAt.{FieldAt}
use Rattle.midicsv_scan.specs.declared.FieldAt.TheVariants.{Number, Minus, Name, Quoted}
use Rattle.midicsv_read.specs.declared.DataStep.{DataStep}

-- ---- one field

-- a field that ends at p
pub data_found : (l : List ℕ) (at p : ℕ) (f : Field) (r : DataStep) → ok f (drop p l) ≡ read_field (drop at l) → r.byte ≡ byte_in (ok f (drop p l))
    → drop r.next l ≡ drop (p + 1) l → r.next ≤ length l → DataIs l at r
data_found l at p f r e b n h = record { byte = b ∙ ap byte_in e; rest = n ∙ sym (after_place l f p) ∙ ap after_field e; inside = h }

-- a number
pub number_found : (l : List ℕ) (at : ℕ) (f : FieldAt) (r : DataStep) (v q : ℕ) → f ≡ Number v q → field_as l (Some f) ≡ read_field (drop at l) → r.byte ≡ v % 256
    → drop r.next l ≡ drop (next_of f + 1) l → r.next ≤ length l → DataIs l at r
unfolding field_as byte_in
number_found l at (Number w p) r v q k e b n h = let same : w ≡ v = cc in data_found l at p _ r e (rw same b) n h
number_found l at (Minus w p) r v q k e b n h = absurd (cc)
number_found l at (Name s d p) r v q k e b n h = absurd (cc)
number_found l at (Quoted s p) r v q k e b n h = absurd (cc)

-- one that is no number
pub other_found : (l : List ℕ) (at : ℕ) (f : FieldAt) (r : DataStep) → ((v q : ℕ) → f ≡ Number v q → ⊥) → field_as l (Some f) ≡ read_field (drop at l) → r.byte ≡ 0
    → drop r.next l ≡ drop (next_of f + 1) l → r.next ≤ length l → DataIs l at r
unfolding field_as byte_in
other_found l at (Number v q) r k e b n h = absurd (k v q refl)
other_found l at (Minus v q) r k e b n h = data_found l at q _ r e b n h
other_found l at (Name s d q) r k e b n h = data_found l at q _ r e b n h
other_found l at (Quoted s q) r k e b n h = data_found l at q _ r e b n h

-- none
pub data_bad : (l : List ℕ) (at : ℕ) → refused 22 0 ≡ read_field (drop at l) → DataIs l at (record { byte = 0; next = length l })
unfolding byte_in after_field
data_bad l at e = record { byte = ap byte_in e; rest = drop-length l ∙ ap after_field e; inside = omega arith }

-- ---- one field more

pub data_count : (n : ℕ) (l : List ℕ) → length (data_from n l) ≡ n
unfolding data_from
data_count zero l = refl
data_count (suc n) l = ap suc (data_count n (after_field (read_field l)))

data_none : (l : List ℕ) → data_from 0 l ≡ []
unfolding data_from
data_none l = refl

data_cons : (n : ℕ) (l : List ℕ) → data_from (suc n) l ≡ (byte_in (read_field l) ∷ []) ++ data_from n (after_field (read_field l))
unfolding data_from
data_cons n l = refl

-- ---- the loop: left fields from the place on are still to be written

pub record DataLeft (l old : List ℕ) (at : ℕ) (whole new : List ℕ) (next place left : ℕ) : Type 0 where
  pub inside : place ≤ length l
  pub remains : Remains old at whole new next (data_from left (drop place l))

pub data_on : {old whole mid new : List ℕ} {at m next : ℕ} (l : List ℕ) (place left : ℕ) (s : DataStep) → DataLeft l old at whole mid m place (suc left)
    → DataIs l place s → Written mid m (s.byte ∷ []) new next → DataLeft l old at whole new next s.next left
data_on l place left s d i w = record {
  inside = i.inside;
  remains = go_on_lem (data_from (suc left) (drop place l)) (s.byte ∷ []) _ d.remains (rw (i.byte, i.rest) (data_cons left (drop place l))) w;
}

pub data_end : {old whole new : List ℕ} {at next : ℕ} (l : List ℕ) (place : ℕ) → DataLeft l old at whole new next place 0 → Written old at whole new next
data_end l place d = done (data_from 0 (drop place l)) d.remains (data_none (drop place l))
