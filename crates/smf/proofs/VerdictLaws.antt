-- The verdict on a file: one law for each answer of check.
use Rattle.event.proofs.PassedLaws.{ok_is}
use Rattle.smf.proofs.ToldLaws.{same_refusal}
use Rattle.smf.specs.declared.HeaderRead.{HeaderRead}
use Rattle.std.specs.Prelude.{Ok, Err}
use mathlib.Core.Path.{◌≡◌, refl, sym, ap, ◌∙◌}
use Prim.Native.Nat.{ℕ, zero, suc, ◌+◌, ◌-◌, ◌<◌, ◌≤◌}
use mathlib.Core.Bool.{not}
use mathlib.Core.List.{List, [], ◌∷◌}
use native.Mathlib.Omega.{arith}
use lib.ListN.{length, take, drop, length-drop, drop_of_length-le}
use lib.Seq.{drop-drop}
use lib.Dec.{leb, eqb}
use borrow.Author.Tests.{le-leb, lt-leb, eq-eqb, ne_eqb}
use Rattle.event.specs.Bytes.{Bytes}
use Rattle.event.specs.Event.{Event}
use Rattle.event.specs.Outcome.{Outcome, ok, refused, and_then, check}
use Rattle.event.proofs.OutcomeLaws.{and_then_same, check_eq}
use Rattle.event.proofs.BytesLaws.{bytes_drop}
use Rattle.event.proofs.PlaceLaws.{place, place_back}
use Rattle.smf.specs.Piece.{Piece, Header}
use Rattle.smf.specs.Chunk.{track_tag, Chunk}
use Rattle.smf.specs.Layout.{lay_tracks}
use Rattle.smf.specs.Reader.{read_head, read_header, read_tracks, pass_over, read_behind, read_piece, file_limit, read_file}
use Rattle.smf.specs.Answer.{refusal, success, verdict}
use Rattle.smf.specs.declared.Answer.{Answer}
use Rattle.smf.specs.Step.{header_step, tracks_step}
use Rattle.smf.specs.declared.Division.{Division}
use Rattle.smf.proofs.PassedLaws.{head_sound, pass_step, pass_none}
use Rattle.smf.proofs.FileLaws.{header_sound, header_size, header_rest, tracks_sound}
use Rattle.smf.proofs.RefusalLaws.{head_size}
use Rattle.smf.proofs.HeaderLaws.{N}
use Rattle.smf.proofs.ChunkLaws.{head_there}

-- ---- what the code was given, as the readers' outcomes

pub head_bad : (n k p : ℕ) (m : Outcome Header) → header_step n m ≡ Err (k, p) → m ≡ refused k p
unfolding header_step
head_bad n k p (ok h r) e = let w : ◌≡◌ {A = ℕ} 0 1 = cc in absurd (omega arith)
head_bad n k p (refused j z) e = same_refusal j z k p e

-- the header that was read, and the place after it
pub record HeadAt (s : List ℕ) (count next : ℕ) : Type 0 where
  pub header : Header
  pub read : read_header s ≡ ok header (drop next s)
  pub same_count : header.count ≡ count
  pub inside : next ≤ length s

head_came : (s : List ℕ) (a b : ℕ) (d : Division) (n : ℕ) (m : Outcome Header) → Bytes s → read_header s ≡ m → header_step (length s) m ≡ Ok (record { format = a; count = b; division = d; next = n }) → HeadAt s b n
unfolding header_step
head_came s a b d n (ok h r) bs come e =
    let laid = header_sound s h r bs come in
    let x = laid.extra in
    let size : length s ≡ 14 + length x + length r = ap length laid.bytes ∙ header_size h.format h.count h.division x r in
    let count : length s - length r ≡ 14 + length x = omega arith in
    let back : drop (length s - length r) s ≡ r = ap (λ k. drop k s) count ∙ ap (drop (14 + length x)) laid.bytes ∙ header_rest h.format h.count h.division x r in
    let same = ok_is e in
    let pn : length s - length r ≡ n = ap (λ (z : HeaderRead). z.next) same in
    let rest : r ≡ drop n s = cc in
    record {
      header = h;
      read = come ∙ ap (ok h) rest;
      same_count = ap (λ (z : HeaderRead). z.count) same;
      inside = omega arith;
    }
head_came s a b d n (refused k z) bs come e = let w : ◌≡◌ {A = ℕ} 0 1 = cc in absurd (omega arith)

pub head_at : (s : List ℕ) (a b : ℕ) (d : Division) (n : ℕ) → Bytes s → header_step (length s) (read_header s) ≡ Ok (record { format = a; count = b; division = d; next = n }) → HeadAt s b n
head_at s a b d n bs e = head_came s a b d n _ bs refl e

tracks_bad : (n k p : ℕ) (m : Outcome (List (List Event))) → tracks_step n m ≡ Err (k, p) → m ≡ refused k p
unfolding tracks_step
tracks_bad n k p (ok ts r) e = let w : ◌≡◌ {A = ℕ} 0 1 = cc in absurd (omega arith)
tracks_bad n k p (refused j z) e = same_refusal j z k p e

tracks_came : {X : Type 0} (s : List ℕ) (n at q : ℕ) (m : Outcome (List (List Event))) → Bytes s → read_tracks n at (drop at s) ≡ m → tracks_step (length s) m ≡ Ok q
    → ((ts : List (List Event)) → read_tracks n at (drop at s) ≡ ok ts (drop q s) → length s - length (drop q s) ≡ q → X) → X
unfolding tracks_step
tracks_came s n at q (ok ts r) bs come e k =
    let laid = tracks_sound n at (drop at s) ts r (bytes_drop s at bs) come in
    let back : drop (length s - length r) s ≡ r = place s (lay_tracks ts laid.spelling) r at laid.bytes in
    let pq : length s - length r ≡ q = cc in
    let rest : r ≡ drop q s = cc in
    k ts (come ∙ ap (ok ts) rest) (ap (λ z. length s - length z) (sym rest) ∙ pq)
tracks_came s n at q (refused k z) bs come e f = let w : ◌≡◌ {A = ℕ} 0 1 = cc in absurd (omega arith)

-- ---- the answers of check

pub file_long : (s : List ℕ) → file_limit < length s → refusal 1 0 ≡ verdict (read_file s)
unfolding read_file check verdict
file_long s h = rw (lt-leb (length s) file_limit h)

-- the verdict on a file goes by what stands after its last track
behind_is : (p : Piece) (m : Outcome (List Chunk)) → verdict (and_then m (λ cs q. ok p q)) ≡ verdict m
unfolding verdict and_then
behind_is p (ok cs q) = refl
behind_is p (refused k z) = refl

module _ (s : List ℕ) (h : length s ≤ file_limit) where
  short : read_file s ≡ read_piece s
  unfolding read_file
  short = check_eq 1 0 _ (le-leb (length s) file_limit h)

  pub file_head : (k p : ℕ) → header_step (length s) (read_header s) ≡ Err (k, p) → refusal k p ≡ verdict (read_file s)
  unfolding read_piece and_then verdict
  file_head k p e = rw (short, head_bad (length s) k p _ e)

  module _ (bs : Bytes s) (a b : ℕ) (d : Division) (n : ℕ) (e : header_step (length s) (read_header s) ≡ Ok (record { format = a; count = b; division = d; next = n })) where
    -- the file from its tracks on
    onward : {X : Type 0}
        → ((f : List (List Event) → Piece) → read_file s ≡ and_then (read_tracks b n (drop n s)) (λ ts r. and_then (read_behind (length s - length r) r) (λ cs q. ok (f ts) q)) → X) → X
    unfolding read_piece and_then
    onward k =
        let there = head_at s a b d n bs e in
        let head = there.header in
        k (λ ts. record { format = head.format; division = head.division; tracks = ts })
        (rw (short, there.read, there.same_count, place_back s n there.inside))

    pub file_tracks : (k p : ℕ) → tracks_step (length s) (read_tracks b n (drop n s)) ≡ Err (k, p) → refusal k p ≡ verdict (read_file s)
    unfolding and_then verdict
    file_tracks k p t = onward (λ f whole. rw (whole, tracks_bad (length s) k p _ t))

    pub file_behind : (q : ℕ) → tracks_step (length s) (read_tracks b n (drop n s)) ≡ Ok q → verdict (read_behind q (drop q s)) ≡ verdict (read_file s)
    unfolding and_then
    file_behind q t = onward (λ f whole. tracks_came s b n q _ bs refl t (λ ts here at. rw (whole, here, at) (sym (behind_is (f ts) (read_behind q (drop q s))))))

-- ---- the loop over what stands after the last track

abbrev pub Behind : List ℕ → ℕ → Answer
Behind s at = verdict (read_behind at (drop at s))

pub pass_fuel : (n m at : ℕ) (l : List ℕ) → Bytes l → length l < n → length l < m → pass_over n at l ≡ pass_over m at l
pass_fuel zero m at l bs hn hm = absurd (omega arith)
pass_fuel (suc n) zero at l bs hn hm = absurd (omega arith)
pass_fuel (suc n) (suc m) at [] bs hn hm = pass_none n at ∙ sym (pass_none m at)
pass_fuel (suc n) (suc m) at (b ∷ l) bs hn hm =
    pass_step n at (b ∷ l) (omega arith)
    ∙ and_then_same (read_head at (b ∷ l)) _ _ (λ h r q.
    let laid = head_sound at (b ∷ l) h r bs q in
    let size = head_size (b ∷ l) h r laid in
    let fewer : length (drop h.size r) < length (b ∷ l) = simp length-drop (omega arith) in
    let rest = pass_fuel n m (at + 8 + h.size) (drop h.size r) (bytes_drop r h.size laid.after) (omega arith) (omega arith) in
    ap (λ z. check (not (eqb h.tag track_tag)) 13 at (check (leb h.size (length r)) 2 at (and_then z (λ cs q. ok (record { tag = h.tag; holds = take h.size r } ∷ cs) q)))) rest)
    ∙ sym (pass_step m at (b ∷ l) (omega arith))

pub behind_end : (s : List ℕ) (at : ℕ) → length s ≤ at → success 0 ≡ Behind s at
unfolding read_behind verdict
behind_end s at h = rw (drop_of_length-le s h, pass_none 0 at) refl

behind_cons : (c : Chunk) (m : Outcome (List Chunk)) → verdict (and_then m (λ cs q. ok (c ∷ cs) q)) ≡ verdict m
unfolding verdict and_then
behind_cons c (ok cs q) = refl
behind_cons c (refused k z) = refl

module _ (s : List ℕ) (at : ℕ) (more : at < length s) where
  behind_turn : read_behind at (drop at s)
      ≡ and_then (read_head at (drop at s)) (λ h r.
      check (not (eqb h.tag track_tag)) 13 at
      (check (leb h.size (length r)) 2 at
      (and_then (pass_over (length (drop at s)) (at + 8 + h.size) (drop h.size r)) (λ cs q. ok (record { tag = h.tag; holds = take h.size r } ∷ cs) q))))
  unfolding read_behind
  behind_turn = let some : 0 < length (drop at s) = simp length-drop (omega arith) in pass_step (length (drop at s)) at (drop at s) some

  pub behind_few : length s < at + 8 → refusal 2 at ≡ Behind s at
  unfolding read_head check and_then verdict
  behind_few h =
      let few : length (drop at s) < 8 = simp length-drop (omega arith) in
      rw behind_turn (rw (lt-leb 8 (length (drop at s)) few))

  module _ (h : at + 8 ≤ length s) (tag : ℕ) (et : tag ≡ N s 4 at) where
    behind_head : Behind s at
        ≡ verdict (check (not (eqb tag track_tag)) 13 at
        (check (leb (N s 4 (at + 4)) (length (drop (at + 8) s))) 2 at
        (and_then (pass_over (length (drop at s)) (at + 8 + N s 4 (at + 4)) (drop (N s 4 (at + 4)) (drop (at + 8) s))) (λ cs q. ok (record { tag = tag; holds = take (N s 4 (at + 4)) (drop (at + 8) s) } ∷ cs) q))))
    unfolding and_then
    behind_head = ap verdict behind_turn ∙ rw et (simp (head_there s at h))

    pub behind_track : tag ≡ track_tag → refusal 13 at ≡ Behind s at
    unfolding check verdict
    behind_track e = sym (behind_head ∙ rw (eq-eqb tag track_tag e) refl)

    module _ (other : tag ≡ track_tag → ⊥) (n : ℕ) (en : n ≡ N s 4 (at + 4)) where
      pub behind_long : length s - (at + 8) < n → refusal 2 at ≡ Behind s at
      unfolding check verdict
      behind_long o =
          let few : length (drop (at + 8) s) < n = simp length-drop o in
          sym (behind_head ∙ rw (ne_eqb tag track_tag other, ← en, lt-leb n (length (drop (at + 8) s)) few) refl)

      pub behind_pass : Bytes s → at + 8 + n ≤ length s → Behind s at ≡ Behind s (at + 8 + n)
      unfolding check read_behind
      behind_pass bs o =
          let fit : n ≤ length (drop (at + 8) s) = simp length-drop (omega arith) in
          let few : length (drop (at + 8 + n) s) < length (drop at s) = simp length-drop (omega arith) in
          let same = pass_fuel (length (drop at s)) (suc (length (drop (at + 8 + n) s))) (at + 8 + n) (drop (at + 8 + n) s) (bytes_drop s (at + 8 + n) bs) few (omega arith) in
          behind_head ∙ rw (ne_eqb tag track_tag other, ← en, le-leb n (length (drop (at + 8) s)) fit, drop-drop n (at + 8) s) (behind_cons _ _ ∙ ap verdict same)
