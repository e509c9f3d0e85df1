-- A quoted text that is read has these bytes.
use mathlib.Core.Path.{◌≡◌, ap, ◌∙◌}
use Prim.Native.Nat.{ℕ, ◌+◌, ◌-◌, ◌*◌, ◌%◌, ◌<◌}
use mathlib.Core.Bool.{true}
use mathlib.Core.List.{List, [], ◌∷◌}
use native.Mathlib.Omega.{arith}
use lib.Dec.{leb, eqb}
use borrow.Author.Tests.{leb-true}
use Rattle.event.specs.Outcome.{ok}
use Rattle.event.proofs.ChoiceLaws.{pick_true, pick_false, pick_cases, and_both}
use Rattle.event.proofs.OutcomeLaws.{not_ok, ok_same, check_ok}
use Rattle.midicsv.specs.ReadField.{Seen, plain, a_quote, a_slash, octal1, octal2, is_octal, read_quoted}
use Rattle.midicsv.proofs.FieldPartLaws.{FineSeen, push_ok, octal_value}
use Rattle.midicsv_scan.specs.Unquoted.{unquoted}

-- three octal digits up to 377 make a byte
byte_value : (n c : ℕ) → n < 32 → is_octal c ≡ true → (n * 8 + (c - 48)) % 256 ≡ n * 8 + (c - 48)
byte_value n c h e = let g = octal_value c e in omega arith

pub unquoted_is : (l : List ℕ) (s : Seen) (d r : List ℕ) → FineSeen s → read_quoted l s ≡ ok d r → unquoted l s ≡ d
unfolding unquoted read_quoted FineSeen
unquoted_is [] plain d r f e = not_ok e
unquoted_is [] a_quote d r f e = ok_same [] d [] r e (λ p q. p)
unquoted_is [] a_slash d r f e = not_ok e
unquoted_is [] (octal1 n) d r f e = not_ok e
unquoted_is [] (octal2 n) d r f e = not_ok e
unquoted_is (c ∷ l) plain d r f e =
    pick_cases (eqb c 34) _ _ _ e (λ t q. pick_true _ _ t ∙ unquoted_is l a_quote d r tt q) (λ n1 e1.
    pick_cases (eqb c 92) _ _ _ e1 (λ t q. pick_false _ _ n1 ∙ pick_true _ _ t ∙ unquoted_is l a_slash d r tt q) (λ n2 e2.
    pick_cases (eqb c 13) _ _ _ e2 (λ t q. not_ok q) (λ n3 e3.
    push_ok c (read_quoted l plain) d r e3 (λ x y z. pick_false _ _ n1 ∙ pick_false _ _ n2 ∙ ap (λ m. c ∷ m) (unquoted_is l plain x r tt y) ∙ z))))
unquoted_is (c ∷ l) a_quote d r f e =
    pick_cases (eqb c 34) _ _ _ e
    (λ t q. push_ok 34 (read_quoted l plain) d r q (λ x y z. pick_true _ _ t ∙ ap (λ m. 34 ∷ m) (unquoted_is l plain x r tt y) ∙ z))
    (λ t q. pick_false _ _ t ∙ ok_same [] d (c ∷ l) r q (λ p z. p))
unquoted_is (c ∷ l) a_slash d r f e =
    pick_cases (eqb c 92) _ _ _ e
    (λ t q. push_ok 92 (read_quoted l plain) d r q (λ x y z. pick_true _ _ t ∙ ap (λ m. 92 ∷ m) (unquoted_is l plain x r tt y) ∙ z))
    (λ t q.
    let (a, y) = check_ok _ 22 0 _ d r q in
    let h = leb-true c 51 (and_both (is_octal c) (leb c 51) a).1 in
    pick_false _ _ t ∙ unquoted_is l (octal1 (c - 48)) d r (omega arith) y)
unquoted_is (c ∷ l) (octal1 n) d r f e =
    let (a, y) = check_ok _ 22 0 _ d r e in
    let h = octal_value c a in
    unquoted_is l (octal2 (n * 8 + (c - 48))) d r (omega arith) y
unquoted_is (c ∷ l) (octal2 n) d r f e =
    let (a, y) = check_ok _ 22 0 _ d r e in
    push_ok (n * 8 + (c - 48)) (read_quoted l plain) d r y (λ x q z.
    ap (λ m. m ∷ unquoted l plain) (byte_value n c f a) ∙ ap (λ m. (n * 8 + (c - 48)) ∷ m) (unquoted_is l plain x r tt q) ∙ z)
