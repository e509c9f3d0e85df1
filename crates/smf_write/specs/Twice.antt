-- Document 02, request 10: "Tidying twice then equals tidying once", for calls of tidy. By its contract it answers short_answer of the
-- file as it is read, and leaves short_leaves of it in the room.
use Rattle.std.specs.Prelude.{◌≡◌, ℕ, List, length, take}
use Rattle.event.specs.Bytes.{Bytes}
use Rattle.smf.specs.Reader.{read_file}
use Rattle.smf.specs.Writing.{short_answer, short_leaves}

-- the tidied file: of the room, which held old, the bytes that the answer's length counts
abbrev pub tidied : List ℕ → List ℕ → List ℕ
tidied f old = take (short_answer (length old) (read_file f)).length (short_leaves (read_file f) old)

-- the file f was tidied into the room old. Tidied once more, into any room, it gives the answer and leaves the bytes that tidying f itself
-- into that room does, be it large enough or not
pub record TidyTwice : Type 0 where
  pub answer : (f old other : List ℕ) → Bytes f → (short_answer (length old) (read_file f)).number ≡ 0
      → short_answer (length other) (read_file (tidied f old)) ≡ short_answer (length other) (read_file f)
  pub leaves : (f old other : List ℕ) → Bytes f → (short_answer (length old) (read_file f)).number ≡ 0
      → short_leaves (read_file (tidied f old)) other ≡ short_leaves (read_file f) other
