-- A line whose fields are read in turn gives the record of the line, or both have a fault.
use mathlib.Core.Path.{◌≡◌, refl, sym, ap, ◌∙◌}
use Rattle.std.specs.Prelude.{Option}
use Prim.Native.Nat.{ℕ, zero, suc, ◌+◌}
use mathlib.Core.List.{List, [], ◌∷◌, ◌++◌}
use native.Mathlib.Omega.{arith}
use lib.ListN.{length}
use lib.Dec.{leb-suc-suc, eqb-suc-suc}
use borrow.Author.Tests.{eqb-true, eq-eqb, lt-ltb}
use Rattle.event.specs.Bytes.{Bytes}
use Rattle.event.specs.Outcome.{Outcome, ok, refused, and_then}
use Rattle.event.proofs.OutcomeLaws.{not_ok, ok_same, and_then_ok, and_then_eq, and_then_same}
use Rattle.midicsv.specs.Field.{Field}
use Rattle.midicsv.specs.Table.{RecordName, Column, range, Tail, none, one_text, sized, shape}
use Rattle.midicsv.specs.Record.{Record, Values}
use Rattle.midicsv.specs.Result.{Result, good, bad, test}
use Rattle.midicsv.specs.Names.{name_from}
use Rattle.midicsv.specs.ReadField.{read_field, onward, all_fields}
use Rattle.midicsv.specs.ReadRecord.{size_of, counted, read_column, read_bytes, read_text, read_tail, read_columns, record_of, of_fields, read_line}
use Rattle.midicsv.proofs.FieldPartLaws.{field_part}
use Rattle.midicsv.proofs.FieldsLaws.{fields_step}
use Rattle.midicsv.proofs.ResultLaws.{not_good, good_same, next_good, next_eq, test_good, test_eq}
use Rattle.midicsv.proofs.RowAcceptedLaws.{counted_good}
use Rattle.midicsv_record.specs.InTurn.{field_after, fitting, column_after, columns_after, data_after, tail_after, at_end, last_after, values_after, named_after, record_after, record_in_turn, Refused, Agrees, row_as}
use Rattle.midicsv_record.specs.declared.Row.{Row}

-- ---- fields in turn

-- the fields fs one after the other, from the comma before the first to what follows the last
abbrev Reading : List Field → List ℕ → List ℕ → Type 0
Reading [] r q = r ≡ q
Reading (f ∷ fs) r q = (s : List ℕ) × (field_after r ≡ ok f s) × Reading fs s q

reading_on : (gs hs : List Field) (r s q : List ℕ) → Reading gs r s → Reading hs s q → Reading (gs ++ hs) r q
reading_on [] hs r s q e h = rw e h
reading_on (g ∷ gs) hs r s q (m, e, w) h = (m, e, reading_on gs hs m s q w h)

-- all fields from a comma on; none at the line's end
unfoldable fields_after : List ℕ → Outcome (List Field)
fields_after [] = ok [] []
fields_after (c ∷ l) = all_fields l

onward_after : (f : Field) (q : List ℕ) → onward f q all_fields ≡ and_then (fields_after q) (λ fs e. ok (f ∷ fs) e)
unfolding onward fields_after and_then
onward_after f [] = refl
onward_after f (c ∷ l) = refl

module _ (c : ℕ) (l : List ℕ) (b : Bytes l) where
  fields_after_lem : fields_after (c ∷ l) ≡ and_then (read_field l) (λ f q. and_then (fields_after q) (λ fs e. ok (f ∷ fs) e))
  unfolding fields_after
  fields_after_lem = fields_step l b ∙ and_then_same (read_field l) _ _ (λ f q h. onward_after f q)

  bytes_after : (f : Field) (q : List ℕ) → read_field l ≡ ok f q → Bytes q
  bytes_after f q e = (field_part (length l) l f q b (omega arith) e).1.0

-- fields in turn up to the line's end are all fields
reading_fields : (fs : List Field) (r : List ℕ) → Bytes r → Reading fs r [] → fields_after r ≡ ok fs []
unfolding fields_after field_after
reading_fields [] r b e = rw e refl
reading_fields (f ∷ fs) [] b (q, e, w) = not_ok e
reading_fields (f ∷ fs) (c ∷ l) b (q, e, w) =
    fields_after_lem c l b.1 ∙ and_then_eq _ e ∙ and_then_eq _ (reading_fields fs q (bytes_after c l b.1 f q e) w)

-- and all fields are fields in turn
fields_reading : (fs : List Field) (r e : List ℕ) → Bytes r → fields_after r ≡ ok fs e → Reading fs r []
unfolding fields_after field_after
fields_reading [] [] e b h = refl
fields_reading (f ∷ fs) [] e b h = let z : ◌≡◌ {A = ℕ} 0 1 = cc in absurd (omega arith)
fields_reading [] (c ∷ l) e b h =
    and_then_ok (read_field l) _ [] e (rw (fields_after_lem c l b.1) at h) (λ g q qg w.
    and_then_ok (fields_after q) _ [] e w (λ gs d qd y.
    let z : ◌≡◌ {A = ℕ} 0 1 = cc in absurd (omega arith)))
fields_reading (f ∷ fs) (c ∷ l) e b h =
    and_then_ok (read_field l) _ (f ∷ fs) e (rw (fields_after_lem c l b.1) at h) (λ g q qg w.
    and_then_ok (fields_after q) _ (f ∷ fs) e w (λ gs d qd y.
    (q, (cc), fields_reading fs q e (bytes_after c l b.1 g q qg) (cc))))

-- ---- one field that fits

fitting_ok : {A : Type 0} (m : Result A) (r : List ℕ) (a : A) (q : List ℕ) → fitting m r ≡ ok a q → (m ≡ good a) × (r ≡ q)
unfolding fitting
fitting_ok (good b) r a q e = (cc, cc)
fitting_ok (bad n) r a q e = not_ok e

-- what g reads of the field after a comma: `took` from what was read to the field, `back` from the field to what is read
module _ {A : Type 0} (g : Field → Result A) (r : List ℕ) where
  field_took : (a : A) (q : List ℕ) → and_then (field_after r) (λ f s. fitting (g f) s) ≡ ok a q → (f : Field) × (field_after r ≡ ok f q) × (g f ≡ good a)
  field_took a q e = and_then_ok (field_after r) _ a q e (λ f s z w. let (x, y) = fitting_ok (g f) s a q w in (f, rw y at z, x))

  field_back : (a : A) (q : List ℕ) (f : Field) → field_after r ≡ ok f q → g f ≡ good a → and_then (field_after r) (λ f s. fitting (g f) s) ≡ ok a q
  unfolding fitting
  field_back a q f e z = and_then_eq _ e ∙ ap (λ m. fitting m q) z

  -- and then k with the value
  module _ {B : Type 0} (k : A → List ℕ → Outcome B) where
    then_took : {X : Type 0} (b : B) (p : List ℕ) → and_then (field_after r) (λ f s. and_then (fitting (g f) s) k) ≡ ok b p
        → ((f : Field) (a : A) (q : List ℕ) → field_after r ≡ ok f q → g f ≡ good a → k a q ≡ ok b p → X) → X
    then_took b p e h =
        and_then_ok (field_after r) _ b p e (λ f s z w.
        and_then_ok (fitting (g f) s) k b p w (λ a q y v.
        let (x, u) = fitting_ok (g f) s a q y in
        h f a q (rw u at z) x v))

    then_back : (a : A) (q : List ℕ) (f : Field) → field_after r ≡ ok f q → g f ≡ good a → and_then (field_after r) (λ f s. and_then (fitting (g f) s) k) ≡ k a q
    unfolding fitting
    then_back a q f e z = and_then_eq _ e ∙ and_then_eq k (ap (λ m. fitting m q) z)

-- ---- the columns

-- the fields of the columns, and how they are read with any tail after them
columns_took : (cs : List Column) (r ns q : List ℕ) → columns_after cs r ≡ ok ns q
    → (gs : List Field) × Reading gs r q × (length gs ≡ length cs)
    × ((t : Tail) (hs : List Field) (d : List ℕ) → read_tail t hs ≡ good d → read_columns cs t (gs ++ hs) ≡ good (record { columns = ns; body = d }))
unfolding columns_after column_after read_columns
columns_took [] r ns q e = ok_same [] ns r q e (λ x y. ([], y, refl, λ t hs d h. rw (← x) (next_eq _ h)))
columns_took (c ∷ cs) r ns q e =
    and_then_ok (column_after c r) _ ns q e (λ n s z w.
    and_then_ok (columns_after cs s) _ ns q w (λ ms p y v.
    ok_same (n ∷ ms) ns p q v (λ x u.
    let (f, ef, en) = field_took (read_column c) r n s z in
    let (gs, rs, len, cols) = columns_took cs s ms q (cc) in
    (f ∷ gs, (s, ef, rs), ap suc len, λ t hs d h. rw (← x) (next_eq _ en ∙ next_eq _ (cols t hs d h))))))

-- the fields of a row are those of its columns and those of its tail
columns_back : (cs : List Column) (t : Tail) (fs : List Field) (v : Values) (r : List ℕ) → Reading fs r [] → read_columns cs t fs ≡ good v
    → (gs hs : List Field) × (q : List ℕ) × (fs ≡ gs ++ hs) × (length gs ≡ length cs) × (columns_after cs r ≡ ok v.columns q) × Reading hs q [] × (read_tail t hs ≡ good v.body)
unfolding columns_after column_after read_columns
columns_back [] t fs v r w e = next_good (read_tail t fs) _ v e (λ d z y. let x = good_same y in ([], fs, r, refl, refl, rw (← x) refl, w, rw (← x) z))
columns_back (c ∷ cs) t [] v r w e = not_good e
columns_back (c ∷ cs) t (f ∷ fs) v r (s, ef, w) e =
    next_good (read_column c f) _ v e (λ n en y.
    next_good (read_columns cs t fs) _ v y (λ u eu z.
    let x = good_same z in
    let (gs, hs, q, split, len, cols, rest, tail) = columns_back cs t fs u s w eu in (
      f ∷ gs,
      hs,
      q,
      ap (λ l. f ∷ l) split,
      ap suc len,
      rw (← x) (and_then_eq _ (field_back (read_column c) r n s f ef en) ∙ and_then_eq _ cols),
      rest,
      rw (← x) tail,
    )))

-- ---- the tail

data_took : (n : ℕ) (r d q : List ℕ) → data_after n r ≡ ok d q → (gs : List Field) × Reading gs r q × (length gs ≡ n) × (read_bytes gs ≡ good d)
unfolding data_after column_after read_bytes
data_took zero r d q e = ok_same [] d r q e (λ x y. ([], y, refl, ap good x))
data_took (suc n) r d q e =
    and_then_ok (column_after (range 0 255) r) _ d q e (λ b s z w.
    and_then_ok (data_after n s) _ d q w (λ c p y v.
    ok_same (b ∷ c) d p q v (λ x u.
    let (f, ef, en) = field_took (read_column (range 0 255)) r b s z in
    let (gs, rs, len, bytes) = data_took n s c q (cc) in
    (f ∷ gs, (s, ef, rs), ap suc len, next_eq _ en ∙ next_eq _ bytes ∙ ap good x))))

data_back : (gs : List Field) (r d q : List ℕ) → Reading gs r q → read_bytes gs ≡ good d → data_after (length gs) r ≡ ok d q
unfolding data_after column_after read_bytes
data_back [] r d q w e = rw (w, good_same e) refl
data_back (f ∷ gs) r d q (s, ef, w) e =
    next_good (read_column (range 0 255) f) _ d e (λ b eb y.
    next_good (read_bytes gs) _ d y (λ c ec z.
    and_then_eq _ (field_back (read_column (range 0 255)) r b s f ef eb) ∙ and_then_eq _ (data_back gs s c q w ec) ∙ ap (λ x. ok x q) (good_same z)))

past : (k n : ℕ) → suc k + 1 + n ≡ suc (k + 1 + n)
past k n = omega arith

-- one column and its field less
counted_step : {A : Type 0} (k : ℕ) (g : Field) (fs : List Field) (t : Tail) (m : Result A) → counted (suc k) t (g ∷ fs) m ≡ counted k t fs m
unfolding counted
counted_step k g fs none m = rw (eqb-suc-suc _ _) refl
counted_step k g fs one_text m = let e : suc k + 1 ≡ suc (k + 1) = omega arith in rw (e, eqb-suc-suc _ _) refl
counted_step k g fs sized m = simp (leb-suc-suc, past, eqb-suc-suc)

-- the tail is counted without the columns before it
counted_past : {A : Type 0} (gs hs : List Field) (t : Tail) (m : Result A) → counted (length gs) t (gs ++ hs) m ≡ counted 0 t hs m
counted_past [] hs t m = refl
counted_past (g ∷ gs) hs t m = counted_step (length gs) g (gs ++ hs) t m ∙ counted_past gs hs t m

-- the line ends here
end_took : {A : Type 0} (a : A) (r : List ℕ) (b : A) (q : List ℕ) → at_end a r ≡ ok b q → (a ≡ b) × (r ≡ [])
unfolding at_end
end_took a [] b q e = (cc, refl)
end_took a (c ∷ r) b q e = not_ok e

-- a tail that ends the line, of the right number of fields
last_took : (t : Tail) (r d q : List ℕ) → last_after t r ≡ ok d q
    → (hs : List Field) × Reading hs r [] × (read_tail t hs ≡ good d) × ((m : Result Record) → counted 0 t hs m ≡ m)
unfolding last_after tail_after and_then read_tail counted test
last_took none r d q e = let (x, y) = end_took [] r d q e in ([], y, ap good x, λ m. refl)
last_took one_text r d q e =
    and_then_ok _ _ d q e (λ s p z w.
    let (f, ef, es) = field_took read_text r s p z in
    let (x, y) = end_took s p d q w in
    (f ∷ [], (p, ef, y), es ∙ ap good x, λ m. refl))
last_took sized r d q e =
    and_then_ok _ _ d q e (λ s p z w.
    let (x, y) = end_took s p d q w in
    then_took size_of r data_after s p z (λ f n v ef en ed.
    let (gs, rs, len, bytes) = data_took n v s [] (cc) in (
      f ∷ gs,
      (v, ef, rs),
      bytes ∙ ap good x,
      λ m. test_eq 24 _ (lt-ltb 0 (suc (length gs)) (omega arith)) ∙ next_eq _ en ∙ test_eq 24 m (eq-eqb (suc (length gs)) (1 + n) (omega arith)),
    )))

-- fields counted and read as a tail
last_back : (t : Tail) (hs : List Field) (r d : List ℕ) (m : Result Record) (x : Record) → Reading hs r [] → read_tail t hs ≡ good d → counted 0 t hs m ≡ good x → last_after t r ≡ ok d []
unfolding last_after tail_after and_then at_end read_tail counted
last_back none [] r d m x w e h = rw w (ap (λ z. ok z []) (good_same e))
last_back none (f ∷ hs) r d m x w e h = let q = eqb-true (suc (length hs)) 0 (test_good _ 24 m x h).0 in absurd (omega arith)
last_back one_text [] r d m x w e h = not_good e
last_back one_text (f ∷ []) r d m x (q, ef, w) e h = and_then_eq _ (field_back read_text r d q f ef e) ∙ rw w refl
last_back one_text (f ∷ g ∷ hs) r d m x w e h = let q = eqb-true (suc (suc (length hs))) 1 (test_good _ 24 m x h).0 in absurd (omega arith)
last_back sized [] r d m x w e h = not_good e
last_back sized (f ∷ gs) r d m x (q, ef, w) e h =
    next_good (size_of f) _ x (test_good _ 24 _ x h).1 (λ n en z.
    let k = eqb-true (suc (length gs)) (1 + n) (test_good _ 24 m x z).0 in
    let len : length gs ≡ n = omega arith in
    and_then_eq _ (then_back size_of r data_after n q f ef en ∙ (rw len at (data_back gs q d [] w e))))

-- ---- the values, and the record

module _ (n : RecordName) (r : List ℕ) (v : Values) where
  values_took : (q : List ℕ) → values_after n r ≡ ok v q
      → (fs : List Field) × Reading fs r [] × (read_columns (shape n).columns (shape n).tail fs ≡ good v)
      × ((m : Result Record) → counted (length (shape n).columns) (shape n).tail fs m ≡ m)
  unfolding values_after
  values_took q e =
      and_then_ok (columns_after (shape n).columns r) _ v q e (λ ns s z w.
      and_then_ok (last_after (shape n).tail s) _ v q w (λ d p y u.
      let (gs, rs, len, cols) = columns_took (shape n).columns r ns s z in
      let (hs, rest, tail, count) = last_took (shape n).tail s d p y in
      ok_same _ v p q u (λ x t. (
        gs ++ hs,
        reading_on gs hs r s [] rs rest,
        cols (shape n).tail hs d tail ∙ ap good x,
        λ m. rw (← len) (counted_past gs hs (shape n).tail m ∙ count m),
      ))))

  values_back : (fs : List Field) (m : Result Record) (x : Record) → Reading fs r [] → read_columns (shape n).columns (shape n).tail fs ≡ good v
      → counted (length (shape n).columns) (shape n).tail fs m ≡ good x → values_after n r ≡ ok v []
  unfolding values_after
  values_back fs m x w e h =
      let (gs, hs, q, split, len, cols, rest, tail) = columns_back (shape n).columns (shape n).tail fs v r w e in
      let count : counted (length gs) (shape n).tail (gs ++ hs) m ≡ good x = rw (← split, len) h in
      and_then_eq _ cols ∙ and_then_eq _ (last_back (shape n).tail hs q v.body m x rest tail (sym (counted_past gs hs (shape n).tail m) ∙ count))

record_took : (l : List ℕ) (x : Record) (q : List ℕ) → record_in_turn l ≡ ok x q → (fs : List Field) × Reading fs (44 ∷ l) [] × (record_of fs ≡ good x)
unfolding record_in_turn column_after record_after named_after record_of
record_took l x q e =
    and_then_ok (column_after (range 0 65535) (44 ∷ l)) _ x q e (λ track s z w.
    and_then_ok (column_after (range 0 4294967295) s) _ x q w (λ time p y u.
    then_took name_from p (named_after track time) x q u (λ c n i ec en v.
    and_then_ok (values_after n i) _ x q v (λ vs j ev k.
    let (a, ea, ra) = field_took (read_column (range 0 65535)) (44 ∷ l) track s z in
    let (b, eb, rb) = field_took (read_column (range 0 4294967295)) s time p y in
    let (fs, rs, cols, count) = values_took n i vs j ev in
    (a ∷ b ∷ c ∷ fs, (s, ea, (p, eb, (i, ec, rs))), next_eq _ en ∙ count _ ∙ next_eq _ ra ∙ next_eq _ rb ∙ next_eq _ cols ∙ (fitting_ok _ j x q k).0)))))

record_back : (fs : List Field) (l : List ℕ) (x : Record) → Reading fs (44 ∷ l) [] → record_of fs ≡ good x → record_in_turn l ≡ ok x []
unfolding record_in_turn column_after record_after named_after record_of fitting
record_back [] l x w e = not_good e
record_back (a ∷ []) l x w e = not_good e
record_back (a ∷ b ∷ []) l x w e = not_good e
record_back (a ∷ b ∷ c ∷ fs) l x (s, ea, (p, eb, (i, ec, w))) e =
    next_good (name_from c) _ x e (λ n en h.
    next_good (read_column (range 0 65535) a) _ x (counted_good _ _ fs _ x h) (λ track ra y.
    next_good (read_column (range 0 4294967295) b) _ x y (λ time rb z.
    next_good (read_columns (shape n).columns (shape n).tail fs) _ x z (λ v cols k.
    and_then_eq _ (field_back (read_column (range 0 65535)) (44 ∷ l) track s a ea ra)
    ∙ and_then_eq _ (field_back (read_column (range 0 4294967295)) s time p b eb rb)
    ∙ then_back name_from p (named_after track time) n i c ec en
    ∙ and_then_eq _ (values_back n i v fs _ x w cols h)
    ∙ ap (λ m. fitting m []) k))))

-- ---- a line

-- an accepted line has fields
of_fields_lem : {X : Type 0} (m : Outcome (List Field)) (x : Record) → of_fields m ≡ good x → ((fs : List Field) (q : List ℕ) → m ≡ ok fs q → record_of fs ≡ good x → X) → X
unfolding of_fields
of_fields_lem (ok fs q) x e k = k fs q refl e
of_fields_lem (refused n p) x e k = not_good e

-- two readers that accept the same
agree : (m : Outcome Record) (y : Result Record) → ((x : Record) (q : List ℕ) → m ≡ ok x q → y ≡ good x) → ((x : Record) → y ≡ good x → m ≡ ok x []) → Agrees m y
unfolding Agrees Refused
agree (ok x q) y f g = f x q refl
agree (refused n p) (good x) f g = not_ok (g x refl)
agree (refused n p) (bad k) f g = tt

pub agrees : (l : List ℕ) → Bytes l → Agrees (record_in_turn l) (read_line l)
unfolding read_line of_fields fields_after
agrees l b =
    let c : Bytes (44 ∷ l) = (omega arith, b) in
    agree (record_in_turn l) (read_line l)
    (λ x q e. let (fs, rs, k) = record_took l x q e in ap of_fields (reading_fields fs (44 ∷ l) c rs) ∙ k)
    (λ x e. of_fields_lem (all_fields l) x e (λ fs q z y. record_back fs l x (fields_reading fs (44 ∷ l) q c z) y))

-- the same of the row that the code found
pub row_agrees : (l : List ℕ) (r s : Option Row) → Bytes l → r ≡ s → row_as l r ≡ record_in_turn l → Agrees (row_as l s) (read_line l)
row_agrees l r s b t e = rw (← t, e) (agrees l b)
