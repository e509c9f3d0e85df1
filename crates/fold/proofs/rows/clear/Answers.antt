use lib.ListN.{drop, replicate}
use lib.Seq.{length-take-le}
use mathlib.Core.List.{◌++◌}
use mathlib.Core.Path.{◌∙◌, ap}
use Rattle.fold.proofs.rows.clear.Goals as goal

pub returns : goal.returns
returns c =
    let a = c.args in
    ap (λ z. z ++ drop a.n a.statuses.now) (c.fill.ensures.after (λ y h. h) ∙ ap (λ k. replicate k 0) (length-take-le a.n a.statuses.now c.requires))
