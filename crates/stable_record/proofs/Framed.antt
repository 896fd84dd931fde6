-- Frames one after the other: what stands at the front of bytes is known, and so what bytes hold.
-- Needed by 7 functions of this crate; Floors and Written; crate node_core.
use Rattle.std.proofs.Common.{◌≡◌, ℕ, zero, suc, ◌+◌, ◌-◌, ◌<◌, ◌≤◌, Bool, true, false, cond, ltb, List, [], ◌∷◌, ◌++◌, length, take, drop}
use Rattle.std.proofs.Common.{Option, Some, None, ◌⊎◌, inl, inr, refl, sym, subst, ap, ◌∙◌, append_assoc, arith}
use Rattle.std.proofs.lemmas.Bool.Decides.{nat_tests}
use Rattle.std.proofs.lemmas.List.{append-nil, take_at, drop_at, length-append, length-take, length-drop, take-append-drop}
use Rattle.byteorder.specs.Endian.{big_number}
use Rattle.xid.specs.Names.{IsBytes}
use Rattle.wire.specs.Versions.{Version, version_of}
use Rattle.wire.specs.declared.grammar.VersionNumber.{VersionNumber}
use Rattle.wire.specs.Grammar.{number_spelling}
use Rattle.wire.specs.Reading.{number_at}
use Rattle.wire.proofs.Fields.{number_again}
use Rattle.wire.proofs.Places.{bytes_front}
use Rattle.wire.proofs.Spelled.{some_same, unless, number_spelled}
use Rattle.stable_record.specs.declared.entry.EntryKind.{EntryKind as Entry}
use Rattle.stable_record.specs.Entries.{IsEntryIn}
use Rattle.stable_record.specs.Grammar.{most_body, body_spelling, frame, IsTail, IsFramed, IsStored, IsDamaged, HasNoFrame}
use Rattle.stable_record.specs.Reading.{body_at}
use Rattle.stable_record.proofs.Again.{body_again}
use Rattle.stable_record.proofs.SpelledEntries.{body_spelled}
use Rattle.stable_record.proofs.Lengths.{body_few, frame_has}

-- a number of four bytes is the same in a beginning that has them
big_front : (n : ℕ) (xs : List ℕ) → 4 ≤ n → big_number 4 (take n xs) ≡ big_number 4 xs
big_front (suc (suc (suc (suc n)))) [] le = refl
big_front (suc (suc (suc (suc n)))) (a ∷ []) le = refl
big_front (suc (suc (suc (suc n)))) (a ∷ b ∷ []) le = refl
big_front (suc (suc (suc (suc n)))) (a ∷ b ∷ c ∷ []) le = refl
big_front (suc (suc (suc (suc n)))) (a ∷ b ∷ c ∷ d ∷ xs) le = refl
big_front zero xs le = absurd (omega arith)
big_front (suc zero) xs le = absurd (omega arith)
big_front (suc (suc zero)) xs le = absurd (omega arith)
big_front (suc (suc (suc zero))) xs le = absurd (omega arith)

-- the length and the body at the front of a frame
pub frame_head : (v : VersionNumber) (e : Entry) (rest : List ℕ) → IsEntryIn (version_of v) e
    → number_at (frame (version_of v) e ++ rest) ≡ Some (length (body_spelling (version_of v) e), body_spelling (version_of v) e ++ rest)
frame_head v e rest is =
    let V = version_of v in
    let n : ℕ = length (body_spelling V e) in
    ap number_at (append_assoc (number_spelling n) (body_spelling V e) rest)
    ∙ number_again n (body_spelling V e ++ rest) (omega (arith, body_few v e is))

-- where a length is taken, it is the one in front, and what follows are the bytes behind it
record Head (bytes : List ℕ) (n : ℕ) (rest : List ℕ) : Type 0 where
  pub long : 4 ≤ length bytes
  pub number : big_number 4 bytes ≡ n
  pub after : rest ≡ drop 4 bytes

head_of : (bytes : List ℕ) (n : ℕ) (rest : List ℕ) → number_at bytes ≡ Some (n, rest) → Head bytes n rest
head_of bytes n rest e =
    let t = unless (ltb (length bytes) 4) (Some (big_number 4 bytes, drop 4 bytes)) (n, rest) e in
    let same = some_same (big_number 4 bytes, drop 4 bytes) (n, rest) t.1 in
    record {
      long = grind (arith, nat_tests, t.0);
      number = ap (λ (x : ℕ × List ℕ). x.0) same;
      after = sym
          (ap (λ (x : ℕ × List ℕ). x.1) same);
    }

lengths : (bytes : List ℕ) (n : ℕ) (rest : List ℕ) → number_at bytes ≡ Some (n, rest) → length bytes ≡ 4 + length rest
lengths bytes n rest e =
    let h = head_of bytes n rest e in
    let len : length rest ≡ length (drop 4 bytes) = ap length h.after in
    omega (arith, len, length-drop 4 bytes, h.long)

-- what is taken of bytes that begin with a frame
record Framed_head (e : Entry) (rest : List ℕ) (n : ℕ) (left : List ℕ) : Type 0 where
  pub version : VersionNumber
  pub valid : IsEntryIn (version_of version) e
  pub sized : n ≡ length (body_spelling (version_of version) e)
  pub after : left ≡ body_spelling (version_of version) e ++ rest

framed_head : (e : Entry) (bytes rest : List ℕ) (n : ℕ) (after : List ℕ) → IsFramed e bytes rest → number_at bytes ≡ Some (n, after)
    → Framed_head e rest n after
framed_head e bytes rest n after is h =
    let V = version_of is.version in
    let body = body_spelling V e in
    let same = some_same (n, after) (length body, body ++ rest) (sym h ∙ ap number_at is.same ∙ frame_head is.version e rest is.valid) in
    record { version = is.version; valid = is.valid; sized = ap (λ (x : ℕ × List ℕ). x.0) same; after = ap (λ (x : ℕ × List ℕ). x.1) same }

-- a framed entry's body, as it is cut out
body_cut : (e : Entry) (bytes rest : List ℕ) (n : ℕ) (after : List ℕ) → IsFramed e bytes rest → number_at bytes ≡ Some (n, after)
    → (body_at (take n after) ≡ Some e) × (drop n after ≡ rest) × (n ≤ length after)
body_cut e bytes rest n after is h =
    let f = framed_head e bytes rest n after is h in
    let body = body_spelling (version_of f.version) e in
    let cut : take n after ≡ body = ap (take n) f.after ∙ take_at body rest n (sym f.sized) in
    let left : drop n after ≡ rest = ap (drop n) f.after ∙ drop_at body rest n (sym f.sized) in
    let len : length after ≡ length (body ++ rest) = ap length f.after in
    (ap body_at cut ∙ body_again f.version e f.valid, left, omega (arith, f.sized, len, length-append body rest))

-- a frame's length is taken
head_there : (e : Entry) (bytes rest : List ℕ) → IsFramed e bytes rest → (n : ℕ) × (after : List ℕ) × (number_at bytes ≡ Some (n, after))
head_there e bytes rest is = (_, _, ap number_at is.same ∙ frame_head is.version e rest is.valid)

-- the entry at the front and what follows it are known
pub framed_same : (e f : Entry) (bytes xs ys : List ℕ) → IsFramed e bytes xs → IsFramed f bytes ys → (e ≡ f) × (xs ≡ ys)
framed_same e f bytes xs ys p q =
    let h = head_there e bytes xs p in
    let a = body_cut e bytes xs h.0 h.1 p h.2 in
    let b = body_cut f bytes ys h.0 h.1 q h.2 in
    (some_same e f (sym a.0 ∙ b.0), sym a.1 ∙ b.1)

-- a frame makes bytes longer
pub framed_longer : (e : Entry) (bytes rest : List ℕ) → IsFramed e bytes rest → length rest < length bytes
framed_longer e bytes rest is =
    let V = version_of is.version in
    let len : length bytes ≡ length (frame V e ++ rest) = ap length is.same in
    omega (arith, len, length-append (frame V e) rest, frame_has V e)

-- a tail begins with no frame
pub tail_unframed : (e : Entry) (bytes rest : List ℕ) → IsTail bytes → IsFramed e bytes rest → ⊥
tail_unframed e bytes rest tail is =
    let h = head_there e bytes rest is in
    let cut = body_cut e bytes rest h.0 h.1 is h.2 in
    let head = head_of bytes h.0 h.1 h.2 in
    by tail (lengths bytes h.0 h.1 h.2) head.number cut.2
  where
    by : {n m : ℕ} → IsTail bytes → length bytes ≡ 4 + m → big_number 4 bytes ≡ n → n ≤ m → ⊥
    by (inl short) len number le = absurd (omega (arith, short, len))
    by (inr t) len number le = absurd (omega (arith, t.cut, len, number, le))

-- the ways a length may be wrong, or right
pub short_tail : (bytes : List ℕ) → number_at bytes ≡ None → IsTail bytes
short_tail bytes e = inl (by (ltb (length bytes) 4) refl e)
  where
    given : Option (ℕ × List ℕ)
    given = Some (big_number 4 bytes, drop 4 bytes)

    by : (t : Bool) → ltb (length bytes) 4 ≡ t → cond t None given ≡ None → length bytes < 4
    by true t e = grind (arith, nat_tests, t)
    by false t e = absurd (cc)

module _ (bytes : List ℕ) (n : ℕ) (rest : List ℕ) (e : number_at bytes ≡ Some (n, rest)) where
  -- a length that no body has
  wrong_length : (n ≡ 0) ⊎ (most_body < n) → HasNoFrame bytes
  wrong_length wrong =
      let head = head_of bytes n rest e in
      record {
        tail = λ t. in-tail t head.long head.number wrong;
        framed = λ f after is.
            let g = framed_head f bytes after n rest is e in
            in-frame (version_of g.version) f wrong g.sized (body_few g.version f g.valid);
      }
    where
      in-tail : IsTail bytes → 4 ≤ length bytes → big_number 4 bytes ≡ n → (n ≡ 0) ⊎ (most_body < n) → ⊥
      in-tail (inl short) long number wrong = absurd (omega (arith, short, long))
      in-tail (inr t) long number (inl z) = absurd (omega (arith, t.some, number, z))
      in-tail (inr t) long number (inr big) = absurd (omega (arith, t.few, number, big))

      in-frame : (v : Version) (f : Entry) → (n ≡ 0) ⊎ (most_body < n) → n ≡ length (body_spelling v f)
          → length (body_spelling v f) ≤ most_body → ⊥
      in-frame v f (inl z) sized few = absurd (omega (arith, z, sized))
      in-frame v f (inr big) sized few = absurd (omega (arith, big, sized, few))

  -- a frame has a length above 0
  pub no_length : n ≡ 0 → HasNoFrame bytes
  no_length z = wrong_length (inl z)

  -- and none that is longer than a body may be
  pub too_long : most_body < n → HasNoFrame bytes
  too_long big = wrong_length (inr big)

  -- bytes whose body is no entry's have no frame in front
  pub bad_body : n ≤ length rest → body_at (take n rest) ≡ None → HasNoFrame bytes
  bad_body whole none =
      let head = head_of bytes n rest e in
      let len = lengths bytes n rest e in
      record {
        tail = λ t. in-tail t len head.number;
        framed = λ f after is. let cut = body_cut f bytes after n rest is e in absurd (cc (none, cut.0));
      }
    where
      in-tail : IsTail bytes → length bytes ≡ 4 + length rest → big_number 4 bytes ≡ n → ⊥
      in-tail (inl short) len number = absurd (omega (arith, short, len))
      in-tail (inr t) len number = absurd (omega (arith, t.cut, len, number, whole))

  pub taken_frame : (entry : Entry) → IsBytes bytes → n ≤ length rest → body_at (take n rest) ≡ Some entry
      → IsFramed entry bytes (drop n rest)
  taken_frame entry is whole taken =
      let front = number_spelled bytes (n, rest) is e in
      let is-body = bytes_front (take n rest) (drop n rest) (subst IsBytes (sym (take-append-drop n rest)) front.after) in
      let body = body_spelled (take n rest) entry is-body taken in
      let V = version_of body.version in
      let len : length (take n rest) ≡ n = omega (arith, length-take n rest, whole) in
      let sized : n ≡ length (body_spelling V entry) = sym len ∙ ap length body.spelled in
      let cut : rest ≡ body_spelling V entry ++ drop n rest =
      sym (take-append-drop n rest) ∙ ap (λ (xs : List ℕ). xs ++ drop n rest) body.spelled in
      let m : ℕ = length (body_spelling V entry) in
      record {
        version = body.version;
        valid = body.valid;
        same = front.same ∙ (λ i. number_spelling (sized i) ++ cut i)
            ∙ sym (append_assoc (number_spelling m) (body_spelling V entry) (drop n rest));
      }

-- what bytes hold is known
pub stored_same : (entries others : List Entry) (bytes tail end : List ℕ) → IsStored bytes entries tail → IsStored bytes others end
    → (entries ≡ others) × (tail ≡ end)
stored_same [] [] bytes tail end p q = (refl, sym p.0 ∙ q.0)
stored_same [] (f ∷ fs) bytes tail end p q = absurd (tail_unframed f bytes q.0 (subst IsTail (sym p.0) p.1) q.1)
stored_same (e ∷ es) [] bytes tail end p q = absurd (tail_unframed e bytes p.0 (subst IsTail (sym q.0) q.1) p.1)
stored_same (e ∷ es) (f ∷ fs) bytes tail end p q =
    let first = framed_same e f bytes p.0 q.0 p.1 q.1 in
    let later = stored_same es fs q.0 tail end (subst (λ (xs : List ℕ). IsStored xs es tail) first.1 p.2) q.2 in
    ((λ i. first.0 i ∷ later.0 i), later.1)

-- whole frames, and what stands after them
pub stored_joined : (entries others : List Entry) (bytes more tail : List ℕ) → IsStored bytes entries [] → IsStored more others tail
    → IsStored (bytes ++ more) (entries ++ others) tail
stored_joined [] others bytes more tail p q = subst (λ (xs : List ℕ). IsStored (xs ++ more) others tail) (sym p.0) q
stored_joined (e ∷ es) others bytes more tail p q =
    let is = p.1 in
    let V = version_of is.version in
    let framed : IsFramed e (bytes ++ more) (p.0 ++ more) = record {
      version = is.version;
      valid = is.valid;
      same = ap (λ (xs : List ℕ). xs ++ more) is.same ∙ append_assoc (frame V e) p.0 more;
    } in
    (p.0 ++ more, framed, stored_joined es others p.0 more tail p.2 q)

-- nothing is a tail
pub empty_tail : IsTail []
empty_tail = inl (omega arith)

-- one frame
pub one_stored : (v : VersionNumber) (e : Entry) → IsEntryIn (version_of v) e → IsStored (frame (version_of v) e) (e ∷ []) []
one_stored v e is =
    let framed : IsFramed e (frame (version_of v) e) [] =
    record { version = v; valid = is; same = sym (append-nil (frame (version_of v) e)) } in
    ([], framed, (refl, empty_tail))

-- a tail stays a tail where it is one
pub tail_stored : (bytes : List ℕ) → IsTail bytes → IsStored bytes [] bytes
tail_stored bytes tail = (refl, tail)

-- the beginning of a frame is a tail
pub torn_tail : (v : VersionNumber) (e : Entry) (n : ℕ) → IsEntryIn (version_of v) e → n < length (frame (version_of v) e)
    → IsTail (take n (frame (version_of v) e))
torn_tail v e n is lt = by (ltb n 4) refl
  where
    V : Version
    V = version_of v

    text : List ℕ
    text = frame V e

    len : length (take n text) ≡ n
    len = omega (arith, length-take n text, lt)

    -- the first four bytes are those of the whole
    head : 4 ≤ n → big_number 4 (take n text) ≡ length (body_spelling V e)
    head le =
        let all : number_at (text ++ []) ≡ Some (length (body_spelling V e), body_spelling V e ++ []) = frame_head v e [] is in
        let number = (head_of (text ++ []) _ _ all).number in
        big_front n text le ∙ ap (λ (xs : List ℕ). big_number 4 xs) (sym (append-nil text)) ∙ number

    by : (t : Bool) → ltb n 4 ≡ t → IsTail (take n text)
    by true t = let short : n < 4 = grind (arith, nat_tests, t) in inl (omega (arith, len, short))
    by false t =
        let le : 4 ≤ n = grind (arith, nat_tests, t) in
        let number = head le in
        inr (record {
          head = omega (arith, len, le);
          some = omega (arith, number);
          few = omega (arith, number, body_few v e is);
          cut = omega (arith, number, len, lt, frame_has V e);
        })

-- the bytes without their tail
pub cut_stored : (entries : List Entry) (bytes tail : List ℕ) → IsStored bytes entries tail
    → (front : List ℕ) × (bytes ≡ front ++ tail) × IsStored front entries []
cut_stored [] bytes tail is = ([], is.0, (refl, empty_tail))
cut_stored (e ∷ es) bytes tail is =
    let later = cut_stored es is.0 tail is.2 in
    let V = version_of is.1.version in
    let framed : IsFramed e (frame V e ++ later.0) later.0 = record { version = is.1.version; valid = is.1.valid; same = refl } in (
      frame V e ++ later.0,
      is.1.same ∙ ap (λ (xs : List ℕ). frame V e ++ xs) later.1 ∙ sym (append_assoc (frame V e) later.0 tail),
      (later.0, framed, later.2),
    )

-- bytes without their tail hold the same entries
pub taken_stored : (entries : List Entry) (bytes tail : List ℕ) → IsStored bytes entries tail
    → IsStored (take (length bytes - length tail) bytes) entries []
taken_stored entries bytes tail is =
    let cut = cut_stored entries bytes tail is in
    let len : length bytes ≡ length (cut.0 ++ tail) = ap length cut.1 in
    let n : length bytes - length tail ≡ length cut.0 = omega (arith, len, length-append cut.0 tail) in
    let same : take (length bytes - length tail) bytes ≡ cut.0 =
    ap (take (length bytes - length tail)) cut.1 ∙ take_at cut.0 tail _ (sym n) in
    subst (λ (xs : List ℕ). IsStored xs entries []) (sym same) cut.2

-- one entry more, after those that were read before
pub goes_on : (bytes rest after : List ℕ) (before : List Entry) (e : Entry) → IsFramed e rest after
    → ((more : List Entry) (tail : List ℕ) → IsStored rest more tail → IsStored bytes (before ++ more) tail)
    → (more : List Entry) (tail : List ℕ) → IsStored after more tail → IsStored bytes ((before ++ e ∷ []) ++ more) tail
goes_on bytes rest after before e is goes more tail stored =
    subst (λ (es : List Entry). IsStored bytes es tail) (sym (append_assoc before (e ∷ []) more)) (goes (e ∷ more) tail (after, is, stored))

-- what follows a frame is stored, where all is
pub came_on : (rest after : List ℕ) (e : Entry) → IsFramed e rest after → (all : List Entry) (tail : List ℕ) → IsStored rest all tail
    → (more : List Entry) × IsStored after more tail
came_on rest after e is [] tail stored = absurd (tail_unframed e rest after (subst IsTail (sym stored.0) stored.1) is)
came_on rest after e is (f ∷ fs) tail stored =
    let same = framed_same f e rest stored.0 after stored.1 is in
    (fs, subst (λ (xs : List ℕ). IsStored xs fs tail) same.1 stored.2)

-- where no frame stands, nothing is stored
pub nothing_stored : (bytes : List ℕ) → HasNoFrame bytes → IsDamaged bytes
nothing_stored bytes not [] tail stored = not.tail (subst IsTail (sym stored.0) stored.1)
nothing_stored bytes not (e ∷ es) tail stored = not.framed e stored.0 stored.1

-- what follows a frame is the end of the bytes
pub place_on : (bytes rest after : List ℕ) (e : Entry) → IsFramed e rest after → (before : List ℕ) × (bytes ≡ before ++ rest)
    → (before : List ℕ) × (bytes ≡ before ++ after)
place_on bytes rest after e is place =
    let V = version_of is.version in (
      place.0 ++ frame V e,
      place.1 ∙ ap (λ (xs : List ℕ). place.0 ++ xs) is.same ∙ sym (append_assoc place.0 (frame V e) after),
    )

-- what was read of all bytes, where a tail is left
pub all_read : (bytes rest : List ℕ) (all : List Entry) → (before : List ℕ) × (bytes ≡ before ++ rest) → IsTail rest
    → ((more : List Entry) (tail : List ℕ) → IsStored rest more tail → IsStored bytes (all ++ more) tail)
    → (length bytes - length rest ≤ length bytes) × IsStored bytes all (drop (length bytes - length rest) bytes)
all_read bytes rest all place tail goes =
    let len : length bytes ≡ length (place.0 ++ rest) = ap length place.1 in
    let n : length bytes - length rest ≡ length place.0 = omega (arith, len, length-append place.0 rest) in
    let left : drop (length bytes - length rest) bytes ≡ rest =
    ap (drop (length bytes - length rest)) place.1 ∙ drop_at place.0 rest _ (sym n) in
    let stored : IsStored bytes (all ++ []) rest = goes [] rest (refl, tail) in (
      omega arith,
      subst (λ (xs : List ℕ). IsStored bytes all xs) (sym left)
          (subst (λ (es : List Entry). IsStored bytes es rest) (append-nil all) stored),
    )

-- a torn frame after the entries that stood
pub torn_stored : (v : VersionNumber) (bytes : List ℕ) (entries : List Entry) (e : Entry) (n : ℕ) → IsStored bytes entries []
    → IsEntryIn (version_of v) e → n < length (frame (version_of v) e)
    → IsStored (bytes ++ take n (frame (version_of v) e)) entries (take n (frame (version_of v) e))
torn_stored v bytes entries e n stored is lt =
    let text : List ℕ = take n (frame (version_of v) e) in
    subst (λ (es : List Entry). IsStored (bytes ++ text) es text) (append-nil entries)
    (stored_joined entries [] bytes text text stored (tail_stored text (torn_tail v e n is lt)))

-- a frame that was kept whole
pub whole_stored : (v : VersionNumber) (bytes : List ℕ) (entries : List Entry) (e : Entry) (n : ℕ) → IsStored bytes entries []
    → IsEntryIn (version_of v) e → length (frame (version_of v) e) ≤ n
    → IsStored (bytes ++ take n (frame (version_of v) e)) (entries ++ e ∷ []) []
whole_stored v bytes entries e n stored is le =
    let text : List ℕ = frame (version_of v) e in
    let all : take n text ≡ text = ap (take n) (sym (append-nil text)) ∙ taken_past text n le in
    subst (λ (xs : List ℕ). IsStored (bytes ++ xs) (entries ++ e ∷ []) []) (sym all)
    (stored_joined entries (e ∷ []) bytes text [] stored (one_stored v e is))
  where
    taken_past : (xs : List ℕ) (k : ℕ) → length xs ≤ k → take k (xs ++ []) ≡ xs
    taken_past [] zero le = refl
    taken_past [] (suc k) le = refl
    taken_past (x ∷ xs) zero le = absurd (omega arith)
    taken_past (x ∷ xs) (suc k) le = ap (λ (ys : List ℕ). x ∷ ys) (taken_past xs k (omega arith))

-- a refusal says more
pub with_no_frame : {A B C D : Type 0} → (B → C) → (A × B) ⊎ D → (A × C) ⊎ D
with_no_frame f (inl h) = inl (h.0, f h.1)
with_no_frame f (inr h) = inr h

-- the same of a body and what follows it that were split off
pub split_frame : (bytes : List ℕ) (n : ℕ) (rest body left : List ℕ) (entry : Entry) → Some (n, rest) ≡ number_at bytes → IsBytes bytes
    → n ≤ length rest → body ≡ take n rest → left ≡ drop n rest → body_at body ≡ Some entry → IsFramed entry bytes left
split_frame bytes n rest body left entry e is whole cut after taken =
    subst (λ (xs : List ℕ). IsFramed entry bytes xs) (sym after)
    (taken_frame bytes n rest (sym e) entry is whole (ap body_at (sym cut) ∙ taken))

-- the same by the length and the body that were read
pub split_bad : (bytes : List ℕ) (n : ℕ) (rest body : List ℕ) → Some (n, rest) ≡ number_at bytes → n ≤ length rest → body ≡ take n rest
    → body_at body ≡ None → HasNoFrame bytes
split_bad bytes n rest body e whole cut none = bad_body bytes n rest (sym e) whole (ap body_at (sym cut) ∙ none)
