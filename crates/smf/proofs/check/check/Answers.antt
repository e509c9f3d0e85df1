use Rattle.event.proofs.BytesLaws.{bytes_of}
use Rattle.smf.proofs.DemandLaws.{judged}
use native.Mathlib.Omega.{arith}
use mathlib.Core.Path.{◌∙◌}
use Rattle.smf.proofs.check.check.Goals as goal

pub returns-in-Ok : goal.returns-in-Ok
returns-in-Ok c =
    let s = c.args.file.now in
    let h = judged s _ (bytes_of s (λ i. omega (arith, c.type_inv.file i))) (c.success.ensures ∙ c.in-Ok.ensures.verdict) in
    record { fact_1 = h.0; fact_2 = h.1 }

pub returns-in-Err : goal.returns-in-Err
returns-in-Err c =
    let s = c.args.file.now in
    let h = judged s _ (bytes_of s (λ i. omega (arith, c.type_inv.file i))) (c.answer.ensures ∙ c.in-Err.ensures.verdict) in
    record { fact_1 = h.0; fact_2 = h.1 }
