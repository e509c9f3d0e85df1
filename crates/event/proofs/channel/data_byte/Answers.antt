use Rattle.event.proofs.PlaceLaws.{byte_none, byte_low, byte_high}
use mathlib.Core.Path.{sym}
use Rattle.event.proofs.channel.data_byte.Goals as goal

pub returns-then-body-at : goal.returns-then-body-at
returns-then-body-at c = sym (byte_none c.args.body.now c.args.at c.if-body-at.true)

pub returns-then-value-lt128 : goal.returns-then-value-lt128
returns-then-value-lt128 c = sym (byte_low c.args.body.now c.args.at c.if-body-at.false c.if-value-lt128.true)

pub returns : goal.returns
returns c = sym (byte_high c.args.body.now c.args.at c.if-body-at.false c.if-value-lt128.false)
