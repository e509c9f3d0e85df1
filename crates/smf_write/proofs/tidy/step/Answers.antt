use mathlib.Core.Path.{◌∙◌, ap}
use Rattle.std.specs.Prelude.{unwrap_or}
use Rattle.smf_write.proofs.TidyLaws.{step_is}
use Rattle.smf_write.proofs.tidy.step.Goals as goal

pub returns : goal.returns
returns c = c.unwrap_or.ensures ∙ ap (λ o. unwrap_or o (record { 0 = 0 })) c.since.ensures ∙ step_is c.args.time.0 c.args.earlier.0
