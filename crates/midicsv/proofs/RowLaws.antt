-- The values of a lawful event, and of a lawful piece's Header, are in the ranges of their records' rows.
use mathlib.Core.Path.{◌≡◌, refl}
use Prim.Native.Nat.{ℕ, ◌<◌, ◌≤◌}
use mathlib.Core.Bool.{true}
use mathlib.Core.List.{List, [], ◌∷◌}
use mathlib.Core.Logic.{◌⊎◌, inl, inr}
use native.Mathlib.Omega.{arith}
use lib.ListN.{length}
use Rattle.event.specs.Bytes.{Bytes}
use Rattle.event.specs.Meta.{kind_of, unknown_kind}
use Rattle.event.specs.Event.{Key, sharps, flats, KeyFits, Kind, note_off, note_on, poly_aftertouch, control, program, channel_aftertouch, pitch_bend, system_exclusive, system_exclusive_packet, sequence_number, text, channel_prefix, midi_port, end_track, tempo, smpte_offset, time_signature, key_signature, sequencer_specific, unknown_meta, Fits}
use Rattle.event.specs.Frame.{key_byte}
use Rattle.smf.specs.Division.{bits, division_ok}
use Rattle.smf.specs.Piece.{Piece, LawfulPiece}
use Rattle.smf.proofs.DivisionLaws.{division_yes}
use Rattle.midicsv.specs.Table.{header, Column, range, key, mode, free_type, division, Tail, none, one_text, sized, event_shape, shape}
use Rattle.midicsv.specs.Record.{name_of, values_of}

unfoldable pub InColumn : Column → ℕ → Type 0
InColumn (range lo hi) n = (lo ≤ n) × (n ≤ hi) × (n ≤ 4294967295)
InColumn key b = (b < 8) ⊎ ((249 ≤ b) × (b < 256))
InColumn mode m = m ≤ 1
InColumn free_type t = (t ≤ 127) × (kind_of t ≡ unknown_kind)
InColumn division n = division_ok n ≡ true

unfoldable pub InColumns : List Column → List ℕ → Type 0
InColumns [] [] = Unit {0}
InColumns [] (n ∷ ns) = ⊥
InColumns (c ∷ cs) [] = ⊥
InColumns (c ∷ cs) (n ∷ ns) = InColumn c n × InColumns cs ns

unfoldable pub InTail : Tail → List ℕ → Type 0
InTail none d = d ≡ []
InTail one_text d = Bytes d
InTail sized d = Bytes d

pub record Rowed (k : Kind) : Type 0 where
  pub columns : InColumns (event_shape (name_of k)).columns (values_of k).columns
  pub tail : InTail (event_shape (name_of k)).tail (values_of k).body

pub key_in : (k : Key) → KeyFits k → (key_byte k < 8) ⊎ ((249 ≤ key_byte k) × (key_byte k < 256))
unfolding KeyFits key_byte
key_in (sharps n) h = inl (omega arith)
key_in (flats n) h = inr (omega arith)

pub rowed : (k : Kind) → Fits k → Rowed k
unfolding name_of values_of event_shape InColumns InColumn InTail Fits
rowed (note_off c k v) h = record { columns = omega arith; tail = refl }
rowed (note_on c k v) h = record { columns = omega arith; tail = refl }
rowed (poly_aftertouch c k v) h = record { columns = omega arith; tail = refl }
rowed (control c k v) h = record { columns = omega arith; tail = refl }
rowed (program c p) h = record { columns = omega arith; tail = refl }
rowed (channel_aftertouch c v) h = record { columns = omega arith; tail = refl }
rowed (pitch_bend c v) h = record { columns = omega arith; tail = refl }
rowed (system_exclusive d) h = record { columns = tt; tail = h }
rowed (system_exclusive_packet d) h = record { columns = tt; tail = h }
rowed (sequence_number n) h = record { columns = omega arith; tail = refl }
rowed (text t d) h = record { columns = tt; tail = h.2 }
rowed (channel_prefix n) h = record { columns = omega arith; tail = refl }
rowed (midi_port n) h = record { columns = omega arith; tail = refl }
rowed end_track h = record { columns = tt; tail = refl }
rowed (tempo n) h = record { columns = omega arith; tail = refl }
rowed (smpte_offset a m s f u) h = record { columns = omega arith; tail = refl }
rowed (time_signature n d c b) h = record { columns = omega arith; tail = refl }
rowed (key_signature k m) h = record { columns = (key_in k h.0, (h.1, tt)); tail = refl }
rowed (sequencer_specific d) h = record { columns = tt; tail = h }
rowed (unknown_meta t d) h = record { columns = ((h.0, h.1), tt); tail = h.2 }

pub header_rowed : (p : Piece) → LawfulPiece p → InColumns (shape header).columns (p.format ∷ length p.tracks ∷ bits p.division ∷ [])
unfolding shape InColumns InColumn
header_rowed p l = (omega (arith, l.format), (omega (arith, l.some, l.few), (division_yes p.division l.division, tt)))
