use Rattle.std.proofs.Common.{rules, ◌-◌, length}
use Rattle.program_io.proofs.ReadLaws.{read_more}
use Rattle.program_io.proofs.read_full.Goals as goal

pub loop-preserved : goal.loop-preserved
loop-preserved g c =
    let l = c.loop in record {
      within = search rules;
      bytes = rw c.unwrap_or-got.ensures (read_more _ _ _ l.filled (length l.buffer - l.filled) l.buffer c.read.new.buf c.read.result l.invariant.within l.invariant.bytes c.read.ensures.bound c.read.ensures.bytes);
    }
