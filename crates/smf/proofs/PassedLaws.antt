-- Chunks, the next track's and those that are passed over: what is laid out is read back, and what is read was laid out.
use mathlib.Core.Path.{◌≡◌, refl, sym, ap, ◌∙◌}
use Prim.Native.Nat.{ℕ, zero, suc, ◌+◌, ◌<◌, ◌≤◌}
use mathlib.Core.Bool.{true, not}
use mathlib.Core.List.{List, [], ◌∷◌, ◌++◌, append_assoc}
use native.Mathlib.Omega.{arith}
use lib.ListN.{length, take, drop, length-append, take-append-drop}
use lib.Seq.{take-append_seam, drop-append_seam, length-take-le}
use lib.Dec.{leb, eqb}
use borrow.Author.Tests.{leb-true, le-leb, eqb-true, eqb-false, ne_eqb, not-true}
use Rattle.event.specs.Bytes.{Bytes, big_endian}
use Rattle.event.specs.Choice.{pick}
use Rattle.event.specs.Outcome.{ok, and_then, check}
use Rattle.event.specs.Reader.{read_number}
use Rattle.event.proofs.ChoiceLaws.{pick_cases}
use Rattle.event.proofs.OutcomeLaws.{not_ok, ok_same, and_then_ok, and_then_eq, check_ok, check_eq}
use Rattle.event.proofs.BytesLaws.{bytes_left, bytes_right, length_big_endian, number_read, number_sound}
use Rattle.smf.specs.Chunk.{track_tag, Chunk, Passed, AllPassed}
use Rattle.smf.specs.Layout.{lay_chunk, lay_chunks}
use Rattle.smf.specs.Reader.{Head, read_head, find_track, read_chunk, pass_over, read_behind}

-- ---- what a chunk begins with

-- two numbers of four bytes and what follows have eight bytes at least
eight : (a b : ℕ) (l : List ℕ) → 8 ≤ length (big_endian 4 a ++ (big_endian 4 b ++ l))
eight a b l = simp (length-append, length_big_endian) (omega arith)

pub head_read : (at tag n : ℕ) (r : List ℕ) → tag ≤ 4294967295 → n ≤ 4294967295
    → read_head at (big_endian 4 tag ++ (big_endian 4 n ++ r)) ≡ ok (record { tag = tag; size = n }) r
unfolding read_head
head_read at tag n r ht hn =
    check_eq 2 at _ (le-leb 8 _ (eight tag n r))
    ∙ and_then_eq _ (number_read 4 tag (big_endian 4 n ++ r) (omega arith))
    ∙ and_then_eq _ (number_read 4 n r (omega arith))

pub record HeadLaid (l : List ℕ) (h : Head) (r : List ℕ) : Type 0 where
  pub tag : h.tag ≤ 4294967295
  pub size : h.size ≤ 4294967295
  pub bytes : l ≡ big_endian 4 h.tag ++ (big_endian 4 h.size ++ r)
  pub after : Bytes r

pub head_sound : (at : ℕ) (l : List ℕ) (h : Head) (r : List ℕ) → Bytes l → read_head at l ≡ ok h r → HeadLaid l h r
unfolding read_head
head_sound at l h r bs e =
    let (c0, e0) = check_ok _ 2 at _ h r e in
    and_then_ok (read_number 4 l) _ h r e0 (λ tag l1 qt e1.
    let ht = number_sound 4 l tag l1 bs qt in
    and_then_ok (read_number 4 l1) _ h r e1 (λ n l2 qn e2.
    let hn = number_sound 4 l1 n l2 ht.after qn in
    let small : n < 4294967296 = hn.fits in
    let little : tag < 4294967296 = ht.fits in
    ok_same _ h l2 r e2 (λ p q.
    rw (← p, ← q)
    (record { tag = omega arith; size = omega arith; bytes = ht.bytes ∙ ap (λ z. big_endian 4 tag ++ z) hn.bytes; after = hn.after }))))

-- ---- a chunk, and the bytes after it

pub chunk_length : (tag : ℕ) (l : List ℕ) → length (lay_chunk tag l) ≡ 8 + length l
unfolding lay_chunk
chunk_length tag l = simp (length-append, length_big_endian) (omega arith)

chunk_head : (at tag : ℕ) (l r : List ℕ) → tag ≤ 4294967295 → length l ≤ 4294967295
    → read_head at (lay_chunk tag l ++ r) ≡ ok (record { tag = tag; size = length l }) (l ++ r)
unfolding lay_chunk
chunk_head at tag l r ht hn =
    let split : big_endian 4 tag ++ (big_endian 4 (length l) ++ l) ++ r ≡ big_endian 4 tag ++ (big_endian 4 (length l) ++ (l ++ r)) = simp append_assoc in
    rw split (head_read at tag (length l) (l ++ r) ht hn)

fits_before : (l r : List ℕ) → leb (length l) (length (l ++ r)) ≡ true
fits_before l r = le-leb (length l) (length (l ++ r)) (omega (arith, length-append l r))

-- what was read as a head and its bytes is a chunk
chunk_bytes : (l r : List ℕ) (h : Head) → HeadLaid l h r → h.size ≤ length r → l ≡ lay_chunk h.tag (take h.size r) ++ drop h.size r
unfolding lay_chunk
chunk_bytes l r h laid fit =
    let n : ℕ = h.size in
    let t : ℕ = h.tag in
    let size : length (take n r) ≡ n = length-take-le n r fit in
    let s : take n r ++ drop n r ≡ r = take-append-drop n r in
    let a : big_endian 4 t ++ (big_endian 4 n ++ take n r) ++ drop n r ≡ big_endian 4 t ++ (big_endian 4 n ++ (take n r ++ drop n r)) = simp append_assoc in
    rw size (laid.bytes ∙ ap (λ z. big_endian 4 t ++ (big_endian 4 n ++ z)) (sym s) ∙ sym a)

module _ (l r : List ℕ) (h : Head) (laid : HeadLaid l h r) (fit : h.size ≤ length r) where
  both : Bytes (take h.size r ++ drop h.size r)
  both = rw (take-append-drop h.size r) laid.after

  inside : Bytes (take h.size r)
  inside = bytes_left (take h.size r) (drop h.size r) both

  beyond : Bytes (drop h.size r)
  beyond = bytes_right (take h.size r) (drop h.size r) both

  held : length (take h.size r) ≤ 4294967295
  held = let a = length-take-le h.size r fit in let b = laid.size in omega arith

  passed : (h.tag ≡ track_tag → ⊥) → Passed (record { tag = h.tag; holds = take h.size r })
  passed n = record { other = n; tag = laid.tag; short = held; inside = inside }

-- ---- the next track's chunk, past chunks with other tags

find_read : (n at : ℕ) (cs : List Chunk) (body r : List ℕ) → AllPassed cs → length body ≤ 4294967295 → length cs < n
    → find_track n at (lay_chunks cs ++ (lay_chunk track_tag body ++ r)) ≡ ok body r
unfolding find_track lay_chunks AllPassed pick
find_read zero at cs body r p short h = absurd (omega arith)
find_read (suc n) at [] body r p short h =
    and_then_eq _ (chunk_head at track_tag body r (omega arith) short)
    ∙ check_eq 2 at _ (fits_before body r)
    ∙ simp (take-append_seam, drop-append_seam)
find_read (suc n) at (c ∷ cs) body r p short h =
    let rest : List ℕ = lay_chunks cs ++ (lay_chunk track_tag body ++ r) in
    let split : lay_chunk c.tag c.holds ++ lay_chunks cs ++ (lay_chunk track_tag body ++ r) ≡ lay_chunk c.tag c.holds ++ rest = append_assoc (lay_chunk c.tag c.holds) (lay_chunks cs) _ in
    rw split
    (and_then_eq _ (chunk_head at c.tag c.holds rest p.0.tag p.0.short)
    ∙ check_eq 2 at _ (fits_before c.holds rest)
    ∙ rw (ne_eqb c.tag track_tag p.0.other, drop-append_seam c.holds rest) (find_read n _ cs body r p.1 short (omega arith)))

-- each chunk takes a byte
chunks_count : (cs : List Chunk) → length cs ≤ length (lay_chunks cs)
unfolding lay_chunks
chunks_count [] = omega arith
chunks_count (c ∷ cs) = let h = chunks_count cs in omega (arith, length-append (lay_chunk c.tag c.holds) (lay_chunks cs), chunk_length c.tag c.holds)

pub chunk_read : (at : ℕ) (cs : List Chunk) (body r : List ℕ) → AllPassed cs → length body ≤ 4294967295
    → read_chunk at (lay_chunks cs ++ (lay_chunk track_tag body ++ r)) ≡ ok body r
unfolding read_chunk
chunk_read at cs body r p short =
    find_read (suc (length (lay_chunks cs ++ (lay_chunk track_tag body ++ r)))) at cs body r p short
    (omega (arith, chunks_count cs, length-append (lay_chunks cs) (lay_chunk track_tag body ++ r)))

pub record ChunkLaid (l body r : List ℕ) : Type 0 where
  pub before : List Chunk
  pub passed : AllPassed before
  pub short : length body ≤ 4294967295
  pub bytes : l ≡ lay_chunks before ++ (lay_chunk track_tag body ++ r)
  pub inside : Bytes body
  pub after : Bytes r

find_sound : (n at : ℕ) (l body r : List ℕ) → Bytes l → find_track n at l ≡ ok body r → ChunkLaid l body r
unfolding find_track lay_chunks AllPassed
find_sound zero at l body r bs e = not_ok e
find_sound (suc n) at l body r bs e =
    and_then_ok (read_head at l) _ body r e (λ h m qh e1.
    let (c1, e2) = check_ok _ 2 at _ body r e1 in
    let laid = head_sound at l h m bs qh in
    let fit = leb-true h.size (length m) c1 in
    let bytes = chunk_bytes l m h laid fit in
    pick_cases (eqb h.tag track_tag) _ _ _ e2
    (λ t q.
    ok_same (take h.size m) body (drop h.size m) r q (λ pb pr.
    rw (← pb, ← pr)
    (record {
      before = [];
      passed = tt;
      short = held l m h laid fit;
      bytes = bytes ∙ ap (λ z. lay_chunk z (take h.size m) ++ drop h.size m) (eqb-true h.tag track_tag t);
      inside = inside l m h laid fit;
      after = beyond l m h laid fit;
    })))
    (λ t q.
    let rest = find_sound n _ (drop h.size m) body r (beyond l m h laid fit) q in
    let c : Chunk = record { tag = h.tag; holds = take h.size m } in
    record {
      before = c ∷ rest.before;
      passed = (passed l m h laid fit (eqb-false h.tag track_tag t), rest.passed);
      short = rest.short;
      bytes = bytes ∙ ap (λ z. lay_chunk h.tag (take h.size m) ++ z) rest.bytes ∙ sym (append_assoc (lay_chunk h.tag (take h.size m)) (lay_chunks rest.before) (lay_chunk track_tag body ++ r));
      inside = rest.inside;
      after = rest.after;
    }))

pub chunk_sound : (at : ℕ) (l body r : List ℕ) → Bytes l → read_chunk at l ≡ ok body r → ChunkLaid l body r
unfolding read_chunk
chunk_sound at l body r bs e = find_sound (suc (length l)) at l body r bs e

-- ---- after the last track

-- a turn, where bytes are left
pub pass_step : (n at : ℕ) (l : List ℕ) → 0 < length l
    → pass_over (suc n) at l
    ≡ and_then (read_head at l) (λ h r.
    check (not (eqb h.tag track_tag)) 13 at
    (check (leb h.size (length r)) 2 at
    (and_then (pass_over n (at + 8 + h.size) (drop h.size r)) (λ cs q. ok (record { tag = h.tag; holds = take h.size r } ∷ cs) q))))
unfolding pass_over
pass_step n at [] h = absurd (omega arith)
pass_step n at (b ∷ l) h = refl

pub pass_none : (n at : ℕ) → pass_over (suc n) at [] ≡ ok [] []
unfolding pass_over
pass_none n at = refl

pass_read : (n at : ℕ) (cs : List Chunk) → AllPassed cs → length cs < n → pass_over n at (lay_chunks cs) ≡ ok cs []
unfolding lay_chunks AllPassed
pass_read zero at cs p h = absurd (omega arith)
pass_read (suc n) at [] p h = pass_none n at
pass_read (suc n) at (c ∷ cs) p h =
    let rest : List ℕ = lay_chunks cs in
    let some : 0 < length (lay_chunk c.tag c.holds ++ rest) = omega (arith, length-append (lay_chunk c.tag c.holds) rest, chunk_length c.tag c.holds) in
    pass_step n at (lay_chunk c.tag c.holds ++ rest) some
    ∙ and_then_eq _ (chunk_head at c.tag c.holds rest p.0.tag p.0.short)
    ∙ check_eq 13 at _ (ap not (ne_eqb c.tag track_tag p.0.other))
    ∙ check_eq 2 at _ (fits_before c.holds rest)
    ∙ rw (drop-append_seam c.holds rest, take-append_seam c.holds rest) (and_then_eq _ (pass_read n _ cs p.1 (omega arith)))

pub behind_read : (at : ℕ) (cs : List Chunk) → AllPassed cs → read_behind at (lay_chunks cs) ≡ ok cs []
unfolding read_behind
behind_read at cs p = pass_read (suc (length (lay_chunks cs))) at cs p (omega (arith, chunks_count cs))

-- chunks that these bytes are
pub record BehindLaid (l : List ℕ) (cs : List Chunk) (r : List ℕ) : Type 0 where
  pub passed : AllPassed cs
  pub bytes : l ≡ lay_chunks cs
  pub all : [] ≡ r

stuck : {X : Type 0} (at : ℕ) (l : List ℕ) {cs : List Chunk} {r : List ℕ} → pass_over zero at l ≡ ok cs r → X
unfolding pass_over
stuck at l e = not_ok e

pass_sound : (n at : ℕ) (l : List ℕ) (cs : List Chunk) (r : List ℕ) → Bytes l → pass_over n at l ≡ ok cs r → BehindLaid l cs r
unfolding lay_chunks AllPassed
pass_sound zero at l cs r bs e = stuck at l e
pass_sound (suc n) at [] cs r bs e = ok_same [] cs [] r (sym (pass_none n at) ∙ e) (λ p q. rw (← p) (record { passed = tt; bytes = refl; all = q }))
pass_sound (suc n) at (b ∷ l) cs r bs e =
    and_then_ok (read_head at (b ∷ l)) _ cs r (sym (pass_step n at (b ∷ l) (omega arith)) ∙ e) (λ h m qh e1.
    let (c1, e2) = check_ok _ 13 at _ cs r e1 in
    let (c2, e3) = check_ok _ 2 at _ cs r e2 in
    let laid = head_sound at (b ∷ l) h m bs qh in
    let fit = leb-true h.size (length m) c2 in
    and_then_ok (pass_over n _ (drop h.size m)) _ cs r e3 (λ ds q qd e4.
    let rest = pass_sound n _ (drop h.size m) ds q (beyond (b ∷ l) m h laid fit) qd in
    ok_same _ cs q r e4 (λ p qr.
    rw (← p, ← qr)
    (record {
      passed = (passed (b ∷ l) m h laid fit (eqb-false h.tag track_tag (not-true _ c1)), rest.passed);
      bytes = chunk_bytes (b ∷ l) m h laid fit ∙ ap (λ z. lay_chunk h.tag (take h.size m) ++ z) rest.bytes;
      all = rest.all;
    }))))

pub behind_sound : (at : ℕ) (l : List ℕ) (cs : List Chunk) (r : List ℕ) → Bytes l → read_behind at l ≡ ok cs r → BehindLaid l cs r
unfolding read_behind
behind_sound at l cs r bs e = pass_sound (suc (length l)) at l cs r bs e
