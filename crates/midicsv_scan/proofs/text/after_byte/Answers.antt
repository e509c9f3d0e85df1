use Rattle.midicsv_scan.proofs.TextLaws.{quote_quote, quote_other, one_octal, one_other, two_octal, two_other}
use mathlib.Core.Path.{sym}
use Rattle.midicsv_scan.proofs.text.after_byte.Goals as goal

pub returns-in-Quote : goal.returns-in-Quote
returns-in-Quote c = rw c.in-Quote.is (quote_quote _ c.if-c-eq34.true)

pub returns-in-Quote-2 : goal.returns-in-Quote-2
returns-in-Quote-2 c = rw c.in-Quote.is (quote_other _ c.if-c-eq34.false)

pub returns-in-One : goal.returns-in-One
returns-in-One c = rw c.in-One.is (one_octal _ (sym c.if-is_octal.ensures))

pub returns-in-Two : goal.returns-in-Two
returns-in-Two c = rw c.in-Two.is (two_octal _ (sym c.if-is_octal-2.ensures))

pub returns-in-One-2 : goal.returns-in-One-2
returns-in-One-2 c = rw c.in-One.is (one_other _ (sym c.if-is_octal.ensures))

pub returns-in-One-2-2 : goal.returns-in-One-2-2
returns-in-One-2-2 c = rw c.in-Two.is (two_other _ (sym c.if-is_octal-2.ensures))
