-- The rows of document 01's table that begin with FF, by the type byte after it.
use Rattle.std.specs.Prelude.{ℕ, ◌&&◌, leb, eqb}
use Rattle.event.specs.Choice.{pick}

-- the rows "FF 00 02" to "FF other type", one for the seven texts
pub data MetaKind : Type 0 where
  sequence_kind text_kind prefix_kind port_kind end_kind tempo_kind offset_kind time_kind key_kind specific_kind unknown_kind : MetaKind

-- the row of each type: unknown_kind is "FF other type"
unfoldable pub kind_of : ℕ → MetaKind
unfolding pick
kind_of t =
    pick (eqb t 0x00) sequence_kind
    (pick (leb 0x01 t && leb t 0x07) text_kind
    (pick (eqb t 0x20) prefix_kind
    (pick (eqb t 0x21) port_kind
    (pick (eqb t 0x2f) end_kind
    (pick (eqb t 0x51) tempo_kind
    (pick (eqb t 0x54) offset_kind
    (pick (eqb t 0x58) time_kind
    (pick (eqb t 0x59) key_kind
    (pick (eqb t 0x7f) specific_kind unknown_kind)))))))))
