-- What a `?` passes on, and what two answers that are the same have in common.
use mathlib.Core.Path.{◌≡◌, refl}
use Rattle.std.specs.Prelude.{Result, Ok, Err}
use Rattle.std.specs.Result.{IsErrAnd}
use Rattle.std.proofs.lemmas.Result.{err_from_is_err_and}
use Rattle.event.specs.declared.refusal.Refusal.{Refusal}
use Rattle.event.specs.Refusal.{number_of, numbered}

pub passed : {A : Type 0} (r : Result A Refusal) (e : Refusal) → IsErrAnd r (λ y. y ≡ e) → numbered r ≡ Err (number_of e)
passed r e h = let p = err_from_is_err_and r h in rw (p.1, p.2) refl

module _ {A E : Type 0} where
  pub ok_is : {a b : A} → ◌≡◌ {A = Result A E} (Ok a) (Ok b) → a ≡ b
  ok_is e = cc

  pub err_is : {a b : E} → ◌≡◌ {A = Result A E} (Err a) (Err b) → a ≡ b
  err_is e = cc
