use Rattle.std.proofs.Common.{arith}
use Rattle.event_write.proofs.WriteLaws.{then}
use Rattle.midicsv.specs.Code.Form.{form_of}
use Rattle.midicsv_write.proofs.LineLaws.{end_line, start_length}
use Rattle.midicsv_write.proofs.record.put_end_line.Goals as goal

pub put_bytes-requires-clause-fact_1 : goal.put_bytes-requires-clause-fact_1
put_bytes-requires-clause-fact_1 c = omega (arith, c.put_line_start-p.ensures.place, start_length (form_of c.args.sheet) 0 0)

pub returns : goal.returns
returns c = rw (end_line (form_of c.args.sheet)) at (then c.put_line_start-p.ensures c.put_bytes.ensures)
