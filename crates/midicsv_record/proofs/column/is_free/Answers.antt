use mathlib.Core.Bool.{Bool, true, false, ◌&&◌}
use Prim.Native.Nat.{ℕ, ◌<◌}
use lib.Dec.{leb, eqb}
use borrow.Author.Tests.{eqb-true, eqb-false}
use Rattle.event.specs.Meta.{kind_of}
use Rattle.event.specs.Choice.{pick}
use Rattle.event.proofs.ChoiceLaws.{by_test}
use Rattle.midicsv.specs.ReadRecord.{is_free}
use Rattle.midicsv_record.proofs.TableLaws.{each, all_each}
use native.Mathlib.Omega.{arith}
use borrow.Author.Tests.{lt-leb}
use mathlib.Core.Path.{◌≡◌, refl, sym}
use Rattle.midicsv_record.proofs.column.is_free.Goals as goal

-- a type up to 127 without a name
unfoldable free : ℕ → Bool
free t = leb t 127 && is_free (kind_of t)

pub returns-in-47 : goal.returns-in-47
unfolding is_free kind_of pick free
returns-in-47 c = rw c.in-47.is refl

pub returns-in-81 : goal.returns-in-81
unfolding is_free kind_of pick free
returns-in-81 c = rw c.in-81.is refl

pub returns-in-84 : goal.returns-in-84
unfolding is_free kind_of pick free
returns-in-84 c = rw c.in-84.is refl

pub returns-in-0-to-7 : goal.returns-in-0-to-7
unfolding is_free kind_of pick free
returns-in-0-to-7 c = sym (each (λ t. free t ≡ false) 0 8 c.args.t (omega arith) (omega arith) (refl, (refl, (refl, (refl, (refl, (refl, (refl, (refl, tt)))))))))

pub returns-in-8-to-31 : goal.returns-in-8-to-31
unfolding is_free kind_of pick free
returns-in-8-to-31 c = sym (each (λ t. free t ≡ true) 8 24 c.args.t (omega arith) (omega arith) (all_each free 8 24 refl))

pub returns-in-32-to-33 : goal.returns-in-32-to-33
unfolding is_free kind_of pick free
returns-in-32-to-33 c = sym (each (λ t. free t ≡ false) 32 2 c.args.t (omega arith) (omega arith) (refl, (refl, tt)))

pub returns-in-34-to-46 : goal.returns-in-34-to-46
unfolding is_free kind_of pick free
returns-in-34-to-46 c = sym (each (λ t. free t ≡ true) 34 13 c.args.t (omega arith) (omega arith) (all_each free 34 13 refl))

pub returns-in-48-to-80 : goal.returns-in-48-to-80
unfolding is_free kind_of pick free
returns-in-48-to-80 c = sym (each (λ t. free t ≡ true) 48 33 c.args.t (omega arith) (omega arith) (all_each free 48 33 refl))

pub returns-in-82-to-83 : goal.returns-in-82-to-83
unfolding is_free kind_of pick free
returns-in-82-to-83 c = sym (each (λ t. free t ≡ true) 82 2 c.args.t (omega arith) (omega arith) (all_each free 82 2 refl))

pub returns-in-85-to-87 : goal.returns-in-85-to-87
unfolding is_free kind_of pick free
returns-in-85-to-87 c = sym (each (λ t. free t ≡ true) 85 3 c.args.t (omega arith) (omega arith) (all_each free 85 3 refl))

pub returns-in-88-to-89 : goal.returns-in-88-to-89
unfolding is_free kind_of pick free
returns-in-88-to-89 c = sym (each (λ t. free t ≡ false) 88 2 c.args.t (omega arith) (omega arith) (refl, (refl, tt)))

pub returns-in-90-to-126 : goal.returns-in-90-to-126
unfolding is_free kind_of pick free
returns-in-90-to-126 c = sym (each (λ t. free t ≡ true) 90 37 c.args.t (omega arith) (omega arith) (all_each free 90 37 refl))

pub returns-in-127-to-4294967295 : goal.returns-in-127-to-4294967295
unfolding is_free kind_of pick free
returns-in-127-to-4294967295 c =
    let t = c.args.t in
    by_test (eqb t 127) (λ e. rw (eqb-true t 127 e) refl) (λ e. let z = eqb-false t 127 e in let h : 127 < t = omega arith in rw (lt-leb t 127 h) refl)
