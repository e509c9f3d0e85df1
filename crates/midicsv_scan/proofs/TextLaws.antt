-- The loop over a quoted text: what each byte does, and where the text ends.
use mathlib.Core.Path.{◌≡◌, refl, sym, ap, ◌∙◌}
use Prim.Native.Nat.{ℕ, suc, ◌+◌, ◌-◌, ◌<◌, ◌≤◌}
use mathlib.Core.Bool.{true, false}
use Rattle.std.proofs.Common.{Option, Some, None}
use mathlib.Core.List.{List, [], ◌∷◌}
use native.Mathlib.Omega.{arith}
use native.Mathlib.Numerals.{add-one}
use lib.ListN.{length, drop, get_or, drop_of_length-le}
use lib.Seq.{drop-cons}
use borrow.Author.Tests.{le-leb, lt-leb, eq-eqb, ne_eqb}
use denote.Enum.Bare.{sameb}
use Rattle.event.specs.Choice.{pick}
use Rattle.event.specs.Outcome.{Outcome, ok, refused, check}
use Rattle.event.proofs.ChoiceLaws.{by_test}
use Rattle.event.proofs.OutcomeLaws.{not_ok}
use Rattle.midicsv.specs.ReadField.{push, plain, octal1, octal2, is_octal, read_quoted}
use Rattle.midicsv.proofs.FieldPartLaws.{FineSeen}
use Rattle.midicsv_scan.specs.Part.{EndWithin, ending, seen_of, turn_as, Turned, text_as}
use Rattle.midicsv_scan.specs.declared.Look.{Look}
use Rattle.midicsv_scan.specs.declared.Look.TheVariants.{Plain, Quote, Slash, One, Two}
use Rattle.midicsv_scan.specs.contracts.Look.{the_type}
use Rattle.midicsv_scan.specs.declared.Turn.{Turn}
use Rattle.midicsv_scan.specs.declared.Turn.TheVariants.{On, Ended, Broken}
use Rattle.midicsv_scan.proofs.UnquotedLaws.{unquoted_is}

-- ---- where a text ends

-- its bytes do not matter
pub ending_push : (c : ℕ) (m : Outcome (List ℕ)) → ending (push c m) ≡ ending m
unfolding ending push
ending_push c (ok d r) = refl
ending_push c (refused n p) = refl

pub ending_ok : (m : Outcome (List ℕ)) (r : List ℕ) → ending m ≡ ok 0 r → (d : List ℕ) × (m ≡ ok d r)
unfolding ending
ending_ok (ok d q) r e = let z : q ≡ r = cc in (d, ap (ok d) z)
ending_ok (refused n p) r e = not_ok e

ending_refused : (m : Outcome (List ℕ)) → ending m ≡ refused 22 0 → m ≡ refused 22 0
unfolding ending
ending_refused (ok d q) e = not_ok (sym e)
ending_refused (refused n p) e = let (a, b) : (n ≡ 22) × (p ≡ 0) = (cc, cc) in rw (a, b)

-- nor the number that octal digits make
ending_two : (l : List ℕ) (n : ℕ) → ending (read_quoted l (octal2 0)) ≡ ending (read_quoted l (octal2 n))
unfolding read_quoted check
ending_two [] n = refl
ending_two (c ∷ l) n = by_test (is_octal c) (λ t. rw t (ending_push _ (read_quoted l plain) ∙ sym (ending_push _ (read_quoted l plain)))) (λ t. rw t)

ending_one : (l : List ℕ) (n : ℕ) → ending (read_quoted l (octal1 0)) ≡ ending (read_quoted l (octal1 n))
unfolding read_quoted check
ending_one [] n = refl
ending_one (c ∷ l) n = by_test (is_octal c) (λ t. rw t (sym (ending_two l _) ∙ ending_two l _)) (λ t. rw t)

-- ---- what a byte does

module _ (c : ℕ) where
  pub plain_quote : c ≡ 34 → Turned Plain c (On Quote)
  unfolding turn_as seen_of read_quoted pick
  plain_quote e l = rw (eq-eqb c 34 e)

  pub plain_slash : (c ≡ 34 → ⊥) → c ≡ 92 → Turned Plain c (On Slash)
  unfolding turn_as seen_of read_quoted pick
  plain_slash n e l = rw (ne_eqb c 34 n, eq-eqb c 92 e)

  pub plain_return : (c ≡ 34 → ⊥) → (c ≡ 92 → ⊥) → c ≡ 13 → Turned Plain c Broken
  unfolding turn_as seen_of read_quoted pick ending
  plain_return n m e l = rw (ne_eqb c 34 n, ne_eqb c 92 m, eq-eqb c 13 e)

  pub plain_other : (c ≡ 34 → ⊥) → (c ≡ 92 → ⊥) → (c ≡ 13 → ⊥) → Turned Plain c (On Plain)
  unfolding turn_as seen_of read_quoted pick
  plain_other n m k l = rw (ne_eqb c 34 n, ne_eqb c 92 m, ne_eqb c 13 k) (sym (ending_push c (read_quoted l plain)))

  pub quote_quote : c ≡ 34 → Turned Quote c (On Plain)
  unfolding turn_as seen_of read_quoted pick
  quote_quote e l = rw (eq-eqb c 34 e) (sym (ending_push 34 (read_quoted l plain)))

  pub quote_other : (c ≡ 34 → ⊥) → Turned Quote c Ended
  unfolding turn_as seen_of read_quoted pick ending
  quote_other n l = rw (ne_eqb c 34 n)

  pub slash_slash : c ≡ 92 → Turned Slash c (On Plain)
  unfolding turn_as seen_of read_quoted pick
  slash_slash e l = rw (eq-eqb c 92 e) (sym (ending_push 92 (read_quoted l plain)))

  pub slash_low : (c ≡ 92 → ⊥) → c < 48 → Turned Slash c Broken
  unfolding turn_as seen_of read_quoted is_octal pick check ending
  slash_low n h l = rw (ne_eqb c 92 n, lt-leb 48 c h)

  pub slash_high : (c ≡ 92 → ⊥) → 51 < c → Turned Slash c Broken
  unfolding turn_as seen_of read_quoted pick check ending
  slash_high n h l = by_test (is_octal c) (λ t. rw (ne_eqb c 92 n, t, lt-leb c 51 h)) (λ t. rw (ne_eqb c 92 n, t))

  pub slash_octal : (c ≡ 92 → ⊥) → 48 ≤ c → c ≤ 51 → Turned Slash c (On One)
  unfolding turn_as seen_of read_quoted is_octal pick check
  slash_octal n d h l =
      let m : c ≤ 55 = omega arith in
      rw (ne_eqb c 92 n, le-leb 48 c d, le-leb c 55 m, le-leb c 51 h) (ending_one l (c - 48))

  pub one_octal : is_octal c ≡ true → Turned One c (On Two)
  unfolding turn_as seen_of read_quoted check
  one_octal t l = rw t (ending_two l _)

  pub one_other : is_octal c ≡ false → Turned One c Broken
  unfolding turn_as seen_of read_quoted check ending
  one_other t l = rw t

  pub two_octal : is_octal c ≡ true → Turned Two c (On Plain)
  unfolding turn_as seen_of read_quoted check
  two_octal t l = rw t (sym (ending_push _ (read_quoted l plain)))

  pub two_other : is_octal c ≡ false → Turned Two c Broken
  unfolding turn_as seen_of read_quoted check ending
  two_other t l = rw t

-- ---- the loop: the text from at on ends where it ends from p on, after this look

pub record Reading (l : List ℕ) (at : ℕ) (look : Look) (p : ℕ) : Type 0 where
  pub low : at ≤ p
  pub high : p ≤ length l
  pub same : ending (read_quoted (drop at l) plain) ≡ ending (read_quoted (drop p l) (seen_of look))

pub reading_first : (l : List ℕ) (at : ℕ) → at ≤ length l → Reading l at Plain at
unfolding seen_of
reading_first l at h = record { low = omega arith; high = h; same = refl }

module _ (l : List ℕ) (at p : ℕ) where
  ended_text : ending (read_quoted (drop at l) plain) ≡ ok 0 (drop p l) → text_as l at (Some p) ≡ read_quoted (drop at l) plain
  unfolding text_as FineSeen
  ended_text e =
      let (d, q) = ending_ok (read_quoted (drop at l) plain) (drop p l) e in
      ap (λ x. ok x (drop p l)) (unquoted_is (drop at l) plain d (drop p l) tt q) ∙ sym q

  broken_text : ending (read_quoted (drop at l) plain) ≡ refused 22 0 → text_as l at None ≡ read_quoted (drop at l) plain
  unfolding text_as
  broken_text e = sym (ending_refused (read_quoted (drop at l) plain) e)

-- the end of the line ends a text after a quote only
last_quote : (look : Look) → true ≡ sameb the_type look Quote → ending (read_quoted [] (seen_of look)) ≡ ok 0 []
unfolding seen_of read_quoted ending
last_quote Plain h = cc
last_quote Quote h = refl
last_quote Slash h = cc
last_quote One h = cc
last_quote Two h = cc

last_other : (look : Look) → false ≡ sameb the_type look Quote → ending (read_quoted [] (seen_of look)) ≡ refused 22 0
unfolding seen_of read_quoted ending
last_other Plain h = refl
last_other Quote h = cc
last_other Slash h = refl
last_other One h = refl
last_other Two h = refl

-- what is answered of a text's end
abbrev pub TextAt : List ℕ → ℕ → Option ℕ → Type 0
TextAt l at r = record { fact_1 : text_as l at r ≡ read_quoted (drop at l) plain; fact_2 : EndWithin l at r }

module _ {l : List ℕ} {at p : ℕ} {look : Look} (g : Reading l at look p) where
  module _ (h : p < length l) (r : Turn) (t : Turned look (get_or l p 0) r) where
    turned : ending (read_quoted (drop at l) plain) ≡ turn_as (get_or l p 0) (drop (suc p) l) r
    turned = g.same ∙ ap (λ x. ending (read_quoted x (seen_of look))) (drop-cons l p 0 h) ∙ sym (t (drop (suc p) l))

    pub reading_on : {to : Look} → r ≡ On to → Reading l at to (p + 1)
    unfolding turn_as
    reading_on {to} e =
        let low = g.low in
        record { low = omega arith; high = omega arith; same = turned ∙ ap (turn_as (get_or l p 0) (drop (suc p) l)) e ∙ ap (λ i. ending (read_quoted (drop i l) (seen_of to))) (sym (add-one p)) }

    pub reading_ended : r ≡ Ended → TextAt l at (Some p)
    unfolding turn_as
    reading_ended e =
        record {
          fact_1 = ended_text l at p (turned ∙ ap (turn_as (get_or l p 0) (drop (suc p) l)) e ∙ ap (ok 0) (sym (drop-cons l p 0 h)));
          fact_2 = (g.low, g.high);
        }

    pub reading_broken : r ≡ Broken → TextAt l at None
    unfolding turn_as
    reading_broken e = record { fact_1 = broken_text l at p (turned ∙ ap (turn_as (get_or l p 0) (drop (suc p) l)) e); fact_2 = tt }

  module _ (h : length l ≤ p) where
    none_left : ending (read_quoted (drop at l) plain) ≡ ending (read_quoted [] (seen_of look))
    none_left = g.same ∙ ap (λ x. ending (read_quoted x (seen_of look))) (drop_of_length-le l h)

    pub reading_last : true ≡ sameb the_type look Quote → TextAt l at (Some (length l))
    reading_last e =
        let low = g.low in
        record {
          fact_1 = ended_text l at (length l) (none_left ∙ last_quote look e ∙ ap (ok 0) (sym (drop_of_length-le l (omega arith))));
          fact_2 = (omega arith, omega arith);
        }

    pub reading_cut : false ≡ sameb the_type look Quote → TextAt l at None
    reading_cut e = record { fact_1 = broken_text l at p (none_left ∙ last_other look e); fact_2 = tt }
