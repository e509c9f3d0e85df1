use Rattle.std.proofs.Common.{refl, Ok}
use Rattle.program_io.proofs.ShownLaws.{listed_take, shows_more}
use Rattle.program_io.proofs.ListedDisplay.fmt.Goals as goal

pub loop-number-preserved : goal.loop-number-preserved
loop-number-preserved g c =
    let l = c.loop-number in
    λ plain.
    rw (listed_take g.N.Display.output c.args.self.now.0.now l.number-index c.number-item.result c.loop-number-test.true c.number-item.is)
    (shows_more g.W.Write.write_str_gives c.args.f.now l.f c.write.new.self (Ok c.in_ok-write.field-0) _ _ (l.invariant plain) c.in_ok-write.ensures.writes refl)
