use Rattle.midicsv_scan.proofs.NumberLaws.{number_none, number_other, number_many, number_large, number_is}
use mathlib.Core.Path.{◌≡◌, sym}
use Prim.Native.Nat.{◌≤◌, ◌<◌}
use native.Mathlib.Omega.{arith}
use Rattle.midicsv_scan.proofs.number.number_at.Goals as goal
use Rattle.midicsv_scan.proofs.number.number_at.Goals.{then-line-at-via-then-line-at, then-line-at-via-else-line-at+then-not-is_digit}

pub returns-then-line-at : goal.returns-then-line-at
returns-then-line-at c =
    elim c.then-line-at.branch [
      | then-line-at-via-then-line-at w ↦ record { fact_1 = number_none _ _ w.if-line-at.true; fact_2 = tt }
      | then-line-at-via-else-line-at+then-not-is_digit w ↦ record { fact_1 = number_other _ _ w.if-line-at.false (sym w.if-not-is_digit.ensures); fact_2 = tt }
    ]

pub returns-in_err-value : goal.returns-in_err-value
returns-in_err-value c = rw c.from_residual.ensures (record { fact_1 = number_many _ _ c.if-line-at.false (sym c.if-not-is_digit.ensures) c.in_err-value.ensures.fact_1; fact_2 = tt })

pub returns-in_err-ok : goal.returns-in_err-ok
returns-in_err-ok c =
    let m : 4294967295 < c.in_ok-value.value = grind arith in
    let n = number_large _ _ c.if-line-at.false (sym c.if-not-is_digit.ensures) _ _ c.in_ok-value.ensures.fact_1 m in
    rw c.from_residual-in_err-ok.ensures (record { fact_1 = n; fact_2 = tt })

pub returns : goal.returns
returns c =
    let m : c.in_ok-value.value ≤ 4294967295 = grind arith in
    let e : c.in_ok-ok.field-0 ≡ c.in_ok-value.value = grind arith in
    let n = number_is _ _ c.if-line-at.false (sym c.if-not-is_digit.ensures) _ _ c.in_ok-value.ensures.fact_1 m in
    record { fact_1 = rw e n; fact_2 = c.in_ok-value.ensures.fact_2 }
