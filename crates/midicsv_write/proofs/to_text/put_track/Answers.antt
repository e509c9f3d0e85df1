use Rattle.midicsv.specs.Code.Form.{form_of}
use Rattle.event_write.proofs.WriteLaws.{then}
use Rattle.midicsv_write.proofs.LineLaws.{start_line_length}
use Rattle.midicsv_write.proofs.TextLaws.{track_lines}
use native.Mathlib.Omega.{arith}
use Rattle.midicsv_write.proofs.to_text.put_track.Goals as goal

pub put_events-requires : goal.put_events-requires
put_events-requires c = record { fact_1 = omega (arith, c.put_start_line-p.ensures.place, start_line_length (form_of c.args.sheet) c.args.track, c.requires.fact_1); fact_2 = c.requires.fact_2; fact_3 = c.requires.fact_3; fact_4 = c.requires.fact_4 }

pub returns : goal.returns
returns c = rw (track_lines (form_of c.args.sheet) c.args.track _) (then c.put_start_line-p.ensures c.put_events.ensures)
