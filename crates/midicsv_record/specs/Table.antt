-- The table of records as the code has it, by the name.
use Rattle.std.specs.Prelude.{List}
use Rattle.midicsv.specs.Table.{Column, range, key, mode, free_type, division, Tail, none, one_text, sized, shape}
use Rattle.midicsv_record.specs.Name.{name_at}
use Rattle.midicsv_record.specs.declared.Name.{Name}
use Rattle.midicsv_record.specs.declared.ColumnKind.{ColumnKind}
use Rattle.midicsv_record.specs.declared.ColumnKind.TheVariants.{Range, Key, Mode, FreeType, Division}
use Rattle.midicsv_record.specs.declared.TailKind.{TailKind}
use Rattle.midicsv_record.specs.declared.TailKind.TheVariants.{NoTail, OneText, Sized}

-- the columns of the name n
abbrev pub columns_at : Name → List Column
columns_at n = (shape (name_at n)).columns

-- what follows the columns of the name n
abbrev pub tail_at : Name → Tail
tail_at n = (shape (name_at n)).tail

-- the column
unfoldable pub column_as : ColumnKind → Column
column_as (Range lo hi) = range lo hi
column_as Key = key
column_as Mode = mode
column_as FreeType = free_type
column_as Division = division

-- nothing, a Text, or "Length, Data.."
unfoldable pub tail_as : TailKind → Tail
tail_as NoTail = none
tail_as OneText = one_text
tail_as Sized = sized
