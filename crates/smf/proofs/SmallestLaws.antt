-- The manner 1 file of a piece is the smallest of its layouts, and the only one so small.
use mathlib.Core.Path.{sym, ap, ap₂, ◌∙◌}
use Prim.Native.Nat.{ℕ}
use mathlib.Core.List.{List, [], ◌++◌}
use native.Mathlib.Omega.{arith}
use lib.ListN.{length}
use Rattle.event.specs.Manner.{short}
use Rattle.event.proofs.BesideLaws.{Fewest, fewest_beside}
use Rattle.smf.specs.Piece.{Piece}
use Rattle.smf.specs.Layout.{lay_chunks, lay_tracks, lay_header, lay_piece, LaidOut}
use Rattle.smf.specs.Manner.{spell_tracks, spelling, file_of}
use Rattle.smf.specs.Smallest.{NothingSmaller}
use Rattle.smf.proofs.FileLaws.{header_size}
use Rattle.smf.proofs.MannerLaws.{tracks_fewest}

-- extra bytes in the header and chunks after the last track only make a file longer, and one as long has none
file_fewest : (f : List ℕ) (p : Piece) → LaidOut f p → Fewest (file_of short p) f
unfolding file_of lay_piece spelling lay_chunks
file_fewest f p l =
    let n : ℕ = length p.tracks in
    let s = l.spelling in
    let ours : List ℕ = lay_tracks p.tracks (spell_tracks short p.tracks) ++ [] in
    let theirs : List ℕ = lay_tracks p.tracks s.tracks ++ lay_chunks s.behind in
    let tracks : Fewest ours theirs = fewest_beside.both _ _ _ _ (tracks_fewest p.tracks s.tracks l.has.permitted.tracks) (fewest_beside.none (lay_chunks s.behind)) in
    let a = header_size p.format n p.division [] ours in
    let b = header_size p.format n p.division s.extra theirs in
    let c = ap length l.bytes in
    let g = tracks.no_more in
    record {
      no_more = omega (arith, a, b, c, g);
      only = λ h. ap₂ (lay_header p.format n p.division) ((fewest_beside.none s.extra).only (omega (arith, a, b, c, g, h))) (tracks.only (omega (arith, a, b, c, g, h))) ∙ l.bytes;
    }

pub nothing_smaller : NothingSmaller
nothing_smaller =
    record {
      never_longer = λ f p l. (file_fewest f p l).no_more;
      very_bytes = λ f p l e. sym ((file_fewest f p l).only (omega (arith, e)));
    }
