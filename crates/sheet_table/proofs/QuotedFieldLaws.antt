-- A quoted text that is read: its content as the cutter finds it, with each quote once.
use mathlib.Core.Path.{◌≡◌, refl, sym, ap, ◌∙◌}
use Prim.Native.Nat.{ℕ, ◌+◌, ◌-◌, ◌*◌}
use mathlib.Core.Bool.{Bool, true, false, false≢true}
use mathlib.Core.List.{List, [], ◌∷◌, ◌++◌}
use native.Mathlib.Omega.{arith}
use lib.Dec.{leb, eqb}
use borrow.Author.Tests.{leb-true, eqb-true, ne_eqb}
use Rattle.event.specs.Choice.{pick}
use Rattle.event.specs.Outcome.{Outcome, ok}
use Rattle.event.proofs.ChoiceLaws.{by_test, pick_true, pick_false, pick_cases, and_both}
use Rattle.event.proofs.OutcomeLaws.{not_ok, ok_same, check_ok, check_eq}
use Rattle.midicsv.specs.ReadField.{push, Seen, plain, a_quote, a_slash, octal1, octal2, is_octal, read_quoted}
use Rattle.midicsv.proofs.FieldPartLaws.{push_ok}
use Rattle.sheet_table.specs.Table.{doubled}
use Rattle.sheet_table.proofs.BareFieldLaws.{NoReturn, Stops, stops_quote}

-- ---- a quoted text: its content as the cutter finds it

pub record QuotedPart (st : Seen) (l d q : List ℕ) : Type 0 where
  pub cell : List ℕ
  pub whole : l ≡ doubled cell ++ (34 ∷ q)
  pub no_return : NoReturn cell
  pub again : (t : List ℕ) → Stops t → read_quoted (doubled cell ++ (34 ∷ t)) st ≡ ok d t

doubled_other : (x : ℕ) (c : List ℕ) → eqb x 34 ≡ false → doubled (x ∷ c) ≡ x ∷ doubled c
unfolding doubled
doubled_other x c e = pick_false _ _ e

doubled_quote : (c : List ℕ) → doubled (34 ∷ c) ≡ 34 ∷ 34 ∷ doubled c
unfolding doubled
doubled_quote c = pick_true _ _ refl

-- a byte that is no quote, after which the reader goes on in the state u
quoted_more : (x : ℕ) (st u : Seen) (g : Outcome (List ℕ) → Outcome (List ℕ)) (l d y q : List ℕ) → eqb x 34 ≡ false → eqb x 13 ≡ false
    → ((m : List ℕ) → read_quoted (x ∷ m) st ≡ g (read_quoted m u)) → ((t : List ℕ) → g (ok y t) ≡ ok d t) → QuotedPart u l y q → QuotedPart st (x ∷ l) d q
quoted_more x st u g l d y q n k step fin w =
    let e = doubled_other x w.cell n in
    record {
      cell = x ∷ w.cell;
      whole = ap (λ z. x ∷ z) w.whole ∙ ap (λ z. z ++ (34 ∷ q)) (sym e);
      no_return = (k, w.no_return);
      again = λ t h. ap (λ z. read_quoted (z ++ (34 ∷ t)) st) e ∙ step (doubled w.cell ++ (34 ∷ t)) ∙ ap g (w.again t h) ∙ fin t;
    }

push_back : (c : ℕ) (d x t : List ℕ) → c ∷ x ≡ d → push c (ok x t) ≡ ok d t
unfolding push
push_back c d x t e = ap (λ z. ok z t) e

quote_again : (l : List ℕ) → read_quoted (34 ∷ 34 ∷ l) plain ≡ push 34 (read_quoted l plain)
unfolding read_quoted pick
quote_again l = refl

-- two quotes
quoted_quote : (l d y q : List ℕ) → 34 ∷ y ≡ d → QuotedPart plain l y q → QuotedPart plain (34 ∷ 34 ∷ l) d q
quoted_quote l d y q z w =
    let e = doubled_quote w.cell in
    record {
      cell = 34 ∷ w.cell;
      whole = ap (λ v. 34 ∷ 34 ∷ v) w.whole ∙ ap (λ v. v ++ (34 ∷ q)) (sym e);
      no_return = (refl, w.no_return);
      again = λ t h. ap (λ v. read_quoted (v ++ (34 ∷ t)) plain) e ∙ quote_again (doubled w.cell ++ (34 ∷ t)) ∙ ap (push 34) (w.again t h) ∙ push_back 34 d y t z;
    }

quote_stops : (t : List ℕ) → Stops t → read_quoted (34 ∷ t) plain ≡ ok [] t
unfolding read_quoted
quote_stops [] h = pick_true _ _ refl
quote_stops (c ∷ t) h = pick_true _ _ refl ∙ pick_false _ _ (stops_quote c h)

-- the closing quote
quoted_end : (l d q : List ℕ) → ok [] l ≡ ok d q → QuotedPart plain (34 ∷ l) d q
unfolding doubled
quoted_end l d q e = ok_same [] d l q e (λ p z. rw (← p) (record { cell = []; whole = ap (λ v. 34 ∷ v) z; no_return = tt; again = λ t h. quote_stops t h }))

-- the byte after a quote
after_quote : (c : ℕ) (l d q : List ℕ) → read_quoted (c ∷ l) a_quote ≡ ok d q → ((y : List ℕ) → read_quoted l plain ≡ ok y q → QuotedPart plain l y q)
    → QuotedPart plain (34 ∷ c ∷ l) d q
unfolding read_quoted
after_quote c l d q e k =
    pick_cases (eqb c 34) _ _ _ e
    (λ t z. push_ok 34 (read_quoted l plain) d q z (λ y w v. rw (eqb-true c 34 t) (quoted_quote l d y q v (k y w))))
    (λ t z. quoted_end (c ∷ l) d q z)

plain_slash : (l : List ℕ) → read_quoted (92 ∷ l) plain ≡ read_quoted l a_slash
unfolding read_quoted pick
plain_slash l = refl

plain_other : (c : ℕ) (l : List ℕ) → eqb c 34 ≡ false → eqb c 92 ≡ false → eqb c 13 ≡ false → read_quoted (c ∷ l) plain ≡ push c (read_quoted l plain)
unfolding read_quoted
plain_other c l a b e = pick_false _ _ a ∙ pick_false _ _ b ∙ pick_false _ _ e

-- a byte that is no quote, in quotes
after_plain_lem : (c : ℕ) (l d q : List ℕ) → eqb c 34 ≡ false → read_quoted (c ∷ l) plain ≡ ok d q
    → ((y : List ℕ) → read_quoted l plain ≡ ok y q → QuotedPart plain l y q) → ((y : List ℕ) → read_quoted l a_slash ≡ ok y q → QuotedPart a_slash l y q)
    → QuotedPart plain (c ∷ l) d q
unfolding read_quoted
after_plain_lem c l d q n1 e k s =
    pick_cases (eqb c 34) _ _ _ e (λ t z. absurd (false≢true (sym n1 ∙ t))) (λ t1 e1.
    pick_cases (eqb c 92) _ _ _ e1
    (λ t z.
    rw (eqb-true c 92 t)
    (quoted_more 92 plain a_slash (λ m. m) l d d q refl refl plain_slash (λ y. refl) (s d z)))
    (λ n2 e2.
    pick_cases (eqb c 13) _ _ _ e2 (λ t z. not_ok z) (λ n3 e3.
    push_ok c (read_quoted l plain) d q e3 (λ x y z.
    quoted_more c plain plain (push c) l d x q n1 n3 (λ m. plain_other c m n1 n2 n3) (λ t. push_back c d x t z) (k x y)))))

octal_inside : (c : ℕ) → is_octal c ≡ true → (eqb c 34 ≡ false) × (eqb c 13 ≡ false)
unfolding is_octal
octal_inside c t =
    let h = leb-true 48 c (and_both (leb 48 c) (leb c 55) t).0 in
    (ne_eqb c 34 (λ e. omega arith), ne_eqb c 13 (λ e. omega arith))

slash_slash : (l : List ℕ) → read_quoted (92 ∷ l) a_slash ≡ push 92 (read_quoted l plain)
unfolding read_quoted pick
slash_slash l = refl

-- just after a quote
abbrev is_after : Seen → Bool
is_after plain = false
is_after a_quote = true
is_after a_slash = false
is_after (octal1 n) = false
is_after (octal2 n) = false

pub quoted_part : (l : List ℕ) (st : Seen) (d q : List ℕ) → is_after st ≡ false → read_quoted l st ≡ ok d q → QuotedPart st l d q
unfolding read_quoted pick
quoted_part [] plain d q n e = not_ok e
quoted_part [] a_quote d q n e = absurd (false≢true (sym n))
quoted_part [] a_slash d q n e = not_ok e
quoted_part [] (octal1 m) d q n e = not_ok e
quoted_part [] (octal2 m) d q n e = not_ok e
quoted_part (c ∷ []) plain d q n e =
    by_test (eqb c 34)
    (λ t. rw (eqb-true c 34 t) (quoted_end [] d q (rw (eqb-true c 34 t) at e)))
    (λ t. after_plain_lem c [] d q t e (λ y z. quoted_part [] plain y q refl z) (λ y z. quoted_part [] a_slash y q refl z))
quoted_part (c ∷ x ∷ l) plain d q n e =
    by_test (eqb c 34)
    (λ t. rw (eqb-true c 34 t) (after_quote x l d q (rw (eqb-true c 34 t) at e) (λ y z. quoted_part l plain y q refl z)))
    (λ t. after_plain_lem c (x ∷ l) d q t e (λ y z. quoted_part (x ∷ l) plain y q refl z) (λ y z. quoted_part (x ∷ l) a_slash y q refl z))
quoted_part (c ∷ l) a_quote d q n e = absurd (false≢true (sym n))
quoted_part (c ∷ l) a_slash d q n e =
    pick_cases (eqb c 92) _ _ _ e
    (λ t z. push_ok 92 (read_quoted l plain) d q z (λ x y w.
    rw (eqb-true c 92 t) (quoted_more 92 a_slash plain (push 92) l d x q refl refl slash_slash (λ v. push_back 92 d x v w) (quoted_part l plain x q refl y))))
    (λ t z.
    let (u, y) = check_ok _ 22 0 _ d q z in
    let i = octal_inside c (and_both (is_octal c) (leb c 51) u).0 in
    quoted_more c a_slash (octal1 (c - 48)) (λ m. m) l d d q i.0 i.1 (λ m. pick_false _ _ t ∙ check_eq 22 0 _ u) (λ v. refl) (quoted_part l (octal1 (c - 48)) d q refl y))
quoted_part (c ∷ l) (octal1 m) d q n e =
    let (u, y) = check_ok _ 22 0 _ d q e in
    let i = octal_inside c u in
    quoted_more c (octal1 m) (octal2 (m * 8 + (c - 48))) (λ z. z) l d d q i.0 i.1 (λ z. check_eq 22 0 _ u) (λ v. refl) (quoted_part l (octal2 (m * 8 + (c - 48))) d q refl y)
quoted_part (c ∷ l) (octal2 m) d q n e =
    let (u, y) = check_ok _ 22 0 _ d q e in
    let i = octal_inside c u in
    push_ok _ (read_quoted l plain) d q y (λ x z w.
    quoted_more c (octal2 m) plain (push (m * 8 + (c - 48))) l d x q i.0 i.1 (λ v. check_eq 22 0 _ u) (λ v. push_back _ d x v w) (quoted_part l plain x q refl z))
