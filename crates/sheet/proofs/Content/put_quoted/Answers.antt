use Rattle.sheet.proofs.FieldLaws.{written_quoted, left_length}
use mathlib.Core.Bool.{not}
use native.Mathlib.Omega.{arith}
use Rattle.sheet.proofs.Content.put_quoted.Goals as goal

pub put_byte-requires : goal.put_byte-requires
put_byte-requires c = let a = c.args in
    omega (arith, c.put_byte-a.ensures.place, c.put_seen-b.ensures.place, left_length a.self.twice (not a.self.quoted) a.self.bytes.now, c.requires.fact_1, c.args.self.short)

pub returns : goal.returns
returns c = let a = c.args in
    written_quoted a.self.twice a.self.quoted a.self.bytes.now c.requires.fact_2 c.put_byte-a.ensures c.put_seen-b.ensures c.put_byte.ensures
