use mathlib.Core.Path.{ap, sym, ◌∙◌}
use Rattle.event.specs.Step.{frame_step}
use Rattle.event.proofs.SortLaws.{channel_one, channel_two, channel_none}
use Rattle.event.proofs.channel.channel_event.Goals as goal

pub returns-in-5 : goal.returns-in-5
returns-in-5 c =
    c.one_byte.ensures ∙ ap (frame_step _) (sym (channel_one c.args.status _ (sym c.requires ∙ c.in-5.is)))

pub returns-in-6 : goal.returns-in-6
returns-in-6 c =
    c.two_bytes.ensures ∙ ap (frame_step _) (sym (channel_two c.args.status _ (sym c.requires ∙ c.in-6.is)))

pub returns-in_default : goal.returns-in_default
unfolding frame_step
returns-in_default c =
    ap (frame_step _) (sym (channel_none c.args.status _ (λ e. c.in_default.in_default-own.rest.0.1 (c.requires ∙ e)) (λ e. c.in_default.in_default-own.rest.1 (c.requires ∙ e))))
