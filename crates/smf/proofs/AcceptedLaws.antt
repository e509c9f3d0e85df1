-- A file that is accepted: its piece, and its header and tracks as the program reads them.
use Rattle.std.specs.Prelude.{Ok, Err}
use mathlib.Core.Path.{◌≡◌, sym, ap, subst, ◌∙◌}
use Prim.Native.Nat.{ℕ, ◌≤◌}
use mathlib.Core.Bool.{Bool, true, false}
use mathlib.Core.List.{List}
use lib.ListN.{length}
use Rattle.event.specs.Bytes.{Bytes}
use Rattle.event.specs.Outcome.{Outcome, ok, and_then, check, Readable}
use Rattle.event.proofs.OutcomeLaws.{check_ok, readable_ok}
use Rattle.smf.specs.Division.{LawfulDivision}
use Rattle.smf.specs.Piece.{Piece}
use Rattle.smf.specs.Reader.{read_header, read_piece, file_limit, read_file}
use Rattle.smf.specs.Answer.{verdict}
use Rattle.smf.specs.PieceRead.{piece_from, piece_read}
use Rattle.smf.specs.Step.{division_from, header_step}
use Rattle.smf.specs.declared.Answer.{Answer}
use Rattle.smf.specs.declared.Division.{Division}
use Rattle.smf.proofs.RefusalLaws.{judged_readable}
use Rattle.smf.proofs.FileLaws.{file_sound}
use Rattle.smf.proofs.VerdictLaws.{head_bad}
use Rattle.smf.proofs.ListLaws.{Accepted, accepted_piece}
use Rattle.smf.proofs.PieceReadLaws.{piece_is}

readable_check : (t : Bool) (n p : ℕ) (x : Outcome Piece) → Readable (check t n p x) → Readable x
unfolding check Readable
readable_check true n p x h = h
readable_check false n p x h = absurd h

pub header_there : (s : List ℕ) (k p : ℕ) → header_step (length s) (read_header s) ≡ Err (k, p) → Readable (read_file s) → ⊥
unfolding read_file read_piece and_then Readable
header_there s k p e h = rw (head_bad (length s) k p (read_header s) e) at (readable_check _ 1 0 _ h)

pub file_accepted : (s : List ℕ) (a b : ℕ) (d : Division) (n : ℕ) → Bytes s → header_step (length s) (read_header s) ≡ Ok (record { format = a; count = b; division = d; next = n }) → Readable (read_file s) → Accepted s b n
file_accepted s a b d n bs e h = let (p, r, q) = readable_ok (read_file s) h in accepted_piece s a b d n p r bs e q

read_piece_lem : (s : List ℕ) (p : Piece) (r : List ℕ) → Bytes s → read_file s ≡ ok p r → piece_read s ≡ p
unfolding read_file
read_piece_lem s p r bs e = piece_is s p r bs (check_ok _ 1 0 _ p r e).1

-- its piece has the format and the division that its header answers
pub record Headed (s : List ℕ) (a : ℕ) (d : Division) (p : Piece) : Type 0 where
  pub same : piece_read s ≡ p
  pub format : p.format ≡ a
  pub division : p.division ≡ division_from d
  pub lawful : LawfulDivision (division_from d)

pub headed : (s : List ℕ) (a b : ℕ) (d : Division) (n : ℕ) → Bytes s → header_step (length s) (read_header s) ≡ Ok (record { format = a; count = b; division = d; next = n }) → (there : Accepted s b n) → Headed s a d there.piece
unfolding piece_read piece_from
headed s a b d n bs e there =
    let p = there.piece in
    let same : piece_from s (header_step (length s) (read_header s)) ≡ p = read_piece_lem s p there.rest bs there.read in
    let head : piece_from s (Ok (record { format = a; count = b; division = d; next = n })) ≡ p = ap (piece_from s) (sym e) ∙ same in
    let division : p.division ≡ division_from d = ap (λ z. z.division) (sym head) in
    record {
      same = same;
      format = ap (λ z. z.format) (sym head);
      division = division;
      lawful = subst LawfulDivision division (file_sound s p there.rest bs there.read).0.laid.has.lawful.division;
    }

-- ---- what the answer 0 of checking says

pub record AcceptedFile (s : List ℕ) : Type 0 where
  pub piece : Piece
  pub rest : List ℕ
  pub read : read_file s ≡ ok piece rest
  pub same : piece_read s ≡ piece
  pub short : length s ≤ file_limit

pub accepted_file : (s : List ℕ) (v : Answer) → Bytes s → v ≡ verdict (read_file s) → v.number ≡ 0 → AcceptedFile s
accepted_file s v bs e z =
    let (p, r, q) = readable_ok (read_file s) (judged_readable s v bs e z) in
    record { piece = p; rest = r; read = q; same = read_piece_lem s p r bs q; short = (file_sound s p r bs q).1 }

pub file_readable : (s : List ℕ) → AcceptedFile s → Readable (read_file s)
unfolding Readable
file_readable s there = rw there.read tt
