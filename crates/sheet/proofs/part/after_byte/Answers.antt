use Rattle.sheet.proofs.SeenLaws.{passed_one, passed_other, passed_last, passed_two}
use Rattle.sheet.proofs.part.after_byte.Goals.{else-twice-via-then-twice+then-bytes-at-eq34+else-at-bytes, else-twice-via-then-twice+else-bytes-at-eq34, else-twice-via-else-twice}
use Rattle.sheet.proofs.part.after_byte.Goals as goal

pub returns-then-at-bytes : goal.returns-then-at-bytes
returns-then-at-bytes c = rw c.if-twice.true (passed_two _ _ c.if-bytes-at-eq34.true c.if-at-bytes.true)

pub returns : goal.returns
returns c =
    elim c.else-twice.branch [
      | else-twice-via-then-twice+then-bytes-at-eq34+else-at-bytes w ↦ rw w.if-twice.true (passed_last _ _ c.requires w.if-at-bytes.false)
      | else-twice-via-then-twice+else-bytes-at-eq34 w ↦ passed_other _ _ _ c.requires w.if-bytes-at-eq34.false
      | else-twice-via-else-twice w ↦ rw w.if-twice.false (passed_one _ _ c.requires)
    ]
