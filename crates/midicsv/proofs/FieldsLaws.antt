-- All fields of a line: what is accepted, and the equation without the count that a loop over the fields follows.
use mathlib.Core.Path.{◌≡◌, refl, ap}
use Prim.Native.Nat.{ℕ, zero, suc, ◌<◌, ◌≤◌}
use mathlib.Core.List.{List, [], ◌∷◌}
use native.Mathlib.Omega.{arith}
use lib.ListN.{length}
use Rattle.event.specs.Outcome.{Outcome, ok, and_then}
use Rattle.event.specs.Bytes.{Bytes}
use Rattle.event.proofs.OutcomeLaws.{not_ok, ok_same, and_then_ok, and_then_same}
use Rattle.midicsv.specs.Field.{Field}
use Rattle.midicsv.specs.ReadField.{read_field, onward, read_fields, all_fields}
use Rattle.midicsv.proofs.FieldPartLaws.{Fine, field_part}

-- ---- what is accepted

abbrev pub AllFine : ℕ → List Field → Type 0
AllFine n [] = Unit {0}
AllFine n (f ∷ fs) = Fine n f × AllFine n fs

onward_fine : (n : ℕ) (f : Field) (m : List ℕ) (k : List ℕ → Outcome (List Field)) (i : ℕ) (fs : List Field) (r : List ℕ) → Bytes m → Fine n f
    → ((l : List ℕ) (gs : List Field) (q : List ℕ) → Bytes l → length l < length m → k l ≡ ok gs q → AllFine n gs × (length gs ≤ i))
    → onward f m k ≡ ok fs r → AllFine n fs × (length fs ≤ suc i)
unfolding onward
onward_fine n f [] k i fs r b g h e = ok_same (f ∷ []) fs [] r e (λ p q. rw (← p) ((g, tt), omega arith))
onward_fine n f (c ∷ l) k i fs r b g h e =
    and_then_ok (k l) _ fs r e (λ gs q qg z.
    let w = h l gs q b.1 (omega arith) qg in
    ok_same (f ∷ gs) fs q r z (λ p y. rw (← p) ((g, w.0), omega arith)))

some_fine : (n i : ℕ) (l : List ℕ) (fs : List Field) (r : List ℕ) → Bytes l → length l ≤ n → read_fields i l ≡ ok fs r → AllFine n fs × (length fs ≤ i)
unfolding read_fields
some_fine n zero l fs r b s e = not_ok e
some_fine n (suc i) l fs r b s e =
    and_then_ok (read_field l) _ fs r e (λ f m qf k.
    let z = field_part n l f m b s qf in
    onward_fine n f m (read_fields i) i fs r z.1.0 z.0 (λ x gs q bx hx qx. some_fine n i x gs q bx (omega arith) qx) k)

pub fields_fine : (l : List ℕ) (fs : List Field) (r : List ℕ) → Bytes l → all_fields l ≡ ok fs r → AllFine (length l) fs × (length fs ≤ suc (length l))
unfolding all_fields
fields_fine l fs r b e = some_fine (length l) (suc (length l)) l fs r b (omega arith) e

-- ---- any count that is large enough gives the same

onward_same : (f : Field) (m : List ℕ) (j k : List ℕ → Outcome (List Field)) → ((l : List ℕ) → Bytes l → length l < length m → j l ≡ k l) → Bytes m
    → onward f m j ≡ onward f m k
unfolding onward
onward_same f [] j k h b = refl
onward_same f (c ∷ l) j k h b = ap (λ x. and_then x (λ fs q. ok (f ∷ fs) q)) (h l b.1 (omega arith))

count_same : (n m : ℕ) (l : List ℕ) → Bytes l → length l < n → length l < m → read_fields n l ≡ read_fields m l
unfolding read_fields
count_same zero m l b hn hm = absurd (omega arith)
count_same (suc n) zero l b hn hm = absurd (omega arith)
count_same (suc n) (suc m) l b hn hm =
    and_then_same (read_field l) _ _ (λ f r q.
    let z = field_part (length l) l f r b (omega arith) q in
    onward_same f r (read_fields n) (read_fields m) (λ x bx hx. count_same n m x bx (omega arith) (omega arith)) z.1.0)

pub fields_step : (l : List ℕ) → Bytes l → all_fields l ≡ and_then (read_field l) (λ f r. onward f r all_fields)
unfolding all_fields read_fields
fields_step l b =
    and_then_same (read_field l) _ _ (λ f r q.
    let z = field_part (length l) l f r b (omega arith) q in
    onward_same f r (read_fields (length l)) (λ x. read_fields (suc (length x)) x) (λ x bx hx. count_same (length l) (suc (length x)) x bx (omega arith) (omega arith)) z.1.0)
