-- Frames of both versions, and those that are written today.
-- Needed by `entry_frames`, `is_current` and `migrate`.
use Rattle.std.proofs.Common.{◌≡◌, ◌≢◌, ◌∙◌, ℕ, ◌+◌, ◌<◌, ◌≤◌, true, false, ◌==◌, List, [], ◌∷◌, ◌++◌, length, drop, take, get_or, refl}
use Rattle.std.proofs.Common.{sym, ap, subst, append_assoc, append-nil, length-append, arith, Some, None}
use Rattle.xid.specs.declared.refusals.Refusal.{Refusal}
use Rattle.std.specs.Prelude.{Result, Ok}
use Rattle.std.proofs.lemmas.Bool.Decides.{nat_tests}
use Rattle.std.proofs.lemmas.Grind.{flat_map-append}
use Rattle.std.proofs.lemmas.List.{drop_at, take_more}
use Rattle.wire.specs.Reading.{number_at}
use Rattle.wire.specs.Versions.{version_2, version_of}
use Rattle.wire.specs.declared.grammar.VersionNumber.{VersionNumber}
use Rattle.wire.specs.declared.grammar.VersionNumber.TheVariants.{First, Second}
use Rattle.wire.proofs.Spelled.{some_same}
use Rattle.stable_record.specs.declared.entry.EntryKind.{EntryKind as Entry}
use Rattle.stable_record.specs.Entries.{IsEntry, IsEntryIn}
use Rattle.stable_record.specs.Grammar.{IsStored, IsTail, frame, body_spelling}
use Rattle.stable_record.specs.Held.{Held, HasPut}
use Rattle.stable_record.specs.Written.{AreWritten}
use Rattle.stable_record.proofs.Framed.{short_tail, tail_unframed, stored_same, frame_head}
use Rattle.stable_record.proofs.Lengths.{entry_in_version_2}
use Rattle.stable_record.proofs.Written.{adds_one}
use Rattle.node_core.specs.Opening.{frames_of, IsReplaced, Rewrites}

-- bytes hold the frames of version 2 of some entries, and then the rest, which hold the others
pub record IsCurrentUpTo (bytes rest : List ℕ) (all : List Entry) : Type 0 where
  pub done : List Entry
  pub left : List Entry
  pub all_is : all ≡ done ++ left
  pub bytes_are : bytes ≡ frames_of done ++ rest
  pub stored : IsStored rest left []

-- the frame in front of the rest
pub record IsFront (rest : List ℕ) (left : List Entry) (n : ℕ) (body : List ℕ) : Type 0 where
  pub entry : Entry
  pub later : List Entry
  pub left_is : left ≡ entry ∷ later
  pub version : VersionNumber
  pub valid : IsEntryIn (version_of version) entry
  pub after : List ℕ
  pub sized : n ≡ length (body_spelling (version_of version) entry)
  pub body_is : body ≡ body_spelling (version_of version) entry ++ after
  pub rest_is : rest ≡ frame (version_of version) entry ++ after
  pub stored : IsStored after later []

pub front_of : (rest : List ℕ) (left : List Entry) (n : ℕ) (body : List ℕ) → Some (n, body) ≡ number_at rest → IsStored rest left []
    → IsFront rest left n body
front_of rest [] n body is stored =
    let none : Some (n, body) ≡ None = is ∙ ap number_at stored.0 in
    absurd (cc (none))
front_of rest (e ∷ later) n body is stored =
    let framed = stored.1 in
    let V = version_of framed.version in
    let same = some_same (n, body) (length (body_spelling V e), body_spelling V e ++ stored.0)
    (is ∙ ap number_at framed.same ∙ frame_head framed.version e stored.0 framed.valid) in
    record {
      entry = e;
      later = later;
      left_is = refl;
      version = framed.version;
      valid = framed.valid;
      after = stored.0;
      sized = ap (λ (x : ℕ × List ℕ). x.0) same;
      body_is = ap (λ (x : ℕ × List ℕ). x.1) same;
      rest_is = framed.same;
      stored = stored.2;
    }

module _ (bytes rest : List ℕ) (all : List Entry) (u : IsCurrentUpTo bytes rest all) where
  -- where nothing follows
  done_all : u.left ≡ [] → rest ≡ [] → bytes ≡ frames_of all
  done_all none empty =
      u.bytes_are ∙ ap (λ (xs : List ℕ). frames_of u.done ++ xs) empty ∙ append-nil (frames_of u.done)
      ∙ ap frames_of (sym (append-nil u.done) ∙ ap (λ es. u.done ++ es) (sym none) ∙ sym u.all_is)

  end_by : (left : List Entry) → u.left ≡ left → IsStored rest left [] → IsTail rest → bytes ≡ frames_of all
  end_by [] is stored tail = done_all is stored.0
  end_by (e ∷ later) is stored tail = absurd (tail_unframed e rest stored.0 tail stored.1)

  -- where the bytes behind the frames have no number, all bytes are frames of today's version
  pub current_end : None ≡ number_at rest → bytes ≡ frames_of all
  current_end none = end_by u.left refl u.stored (short_tail rest (sym none))

  module _ (n : ℕ) (body : List ℕ) (is : Some (n, body) ≡ number_at rest) where
    abbrev f : IsFront rest u.left n body
    f = front_of rest u.left n body is u.stored

    -- a frame is not empty, and whole
    pub not_empty : 0 < n
    not_empty = omega (arith, f.sized)

    -- the frames that were read are no longer than the bytes
    pub all_there : n ≤ length body
    all_there =
        let len : length body ≡ length (body_spelling (version_of f.version) f.entry ++ f.after) = ap length f.body_is in
        omega (arith, f.sized, len, length-append (body_spelling (version_of f.version) f.entry) f.after)

    -- the version in front of its body
    pub version_is : (d : ℕ) → get_or body 0 d ≡ (version_of f.version).byte
    version_is d = ap (λ (xs : List ℕ). get_or xs 0 d) f.body_is

    second_by : (v : VersionNumber) → 2 ≡ (version_of v).byte → v ≡ Second
    second_by First is = absurd (cc (is))
    second_by Second is = refl

    -- a frame of version 2
    pub current_on : (after : List ℕ) → after ≡ drop n body → true ≡ (get_or body 0 0 == 2) → IsCurrentUpTo bytes after all
    current_on next next_is two =
        let is_two : get_or body 0 0 ≡ 2 = grind (arith, nat_tests, two) in
        let v : f.version ≡ Second = second_by f.version (sym is_two ∙ version_is 0) in
        let after : next ≡ f.after =
        next_is ∙ ap (drop n) f.body_is ∙ drop_at (body_spelling (version_of f.version) f.entry) f.after n (sym f.sized) in
        let one : frames_of (f.entry ∷ []) ≡ frame version_2 f.entry = append-nil (frame version_2 f.entry) in
        let rest_is : rest ≡ frame version_2 f.entry ++ f.after =
        f.rest_is ∙ ap (λ w. frame (version_of w) f.entry ++ f.after) v in
        let more : frames_of (u.done ++ f.entry ∷ []) ≡ frames_of u.done ++ frame version_2 f.entry =
        flat_map-append (frame version_2) u.done (f.entry ∷ []) ∙ ap (λ (xs : List ℕ). frames_of u.done ++ xs) one in
        record {
          done = u.done ++ f.entry ∷ [];
          left = f.later;
          all_is = u.all_is ∙ ap (λ es. u.done ++ es) f.left_is ∙ sym (append_assoc u.done (f.entry ∷ []) f.later);
          bytes_are = u.bytes_are ∙ ap (λ (xs : List ℕ). frames_of u.done ++ xs) rest_is
              ∙ sym (append_assoc (frames_of u.done) (frame version_2 f.entry) f.after)
              ∙ ap (λ (xs : List ℕ). xs ++ f.after) (sym more) ∙ ap (λ (xs : List ℕ). frames_of (u.done ++ f.entry ∷ []) ++ xs) (sym after);
          stored = subst (λ (xs : List ℕ). IsStored xs f.later []) (sym after) f.stored;
        }

    -- a frame of version 1
    pub current_not : false ≡ (get_or body 0 0 == 2) → bytes ≢ frames_of all
    current_not not is_all =
        let front = frames_of u.done in
        let whole : front ++ rest ≡ front ++ frames_of u.left =
        sym u.bytes_are ∙ is_all ∙ ap frames_of u.all_is ∙ flat_map-append (frame version_2) u.done u.left in
        let same : rest ≡ frames_of u.left =
        sym (drop_at front rest (length front) refl) ∙ ap (drop (length front)) whole
        ∙ drop_at front (frames_of u.left) (length front) refl in
        let first : rest ≡ frame version_2 f.entry ++ frames_of f.later = same ∙ ap frames_of f.left_is in
        let body_2 = body_spelling version_2 f.entry ++ frames_of f.later in
        let both = some_same (n, body) (length (body_spelling version_2 f.entry), body_2)
        (is ∙ ap number_at first ∙ frame_head Second f.entry (frames_of f.later) (entry_in_version_2 f.entry f.valid.valid)) in
        let two : get_or body 0 0 ≡ 2 = ap (λ (x : ℕ × List ℕ). get_or x.1 0 0) both in
        let yes : (get_or body 0 0 == 2) ≡ true = ap (λ k. k == 2) two in
        absurd (cc (not, yes))

-- ---- frames that are written

-- the frame of one entry more, put behind those of the entries in front of it
pub frames_next : (all : List Entry) (i : ℕ) (entry : Entry) (bytes now : List ℕ) → i < length all → entry ≡ get_or all i entry
    → IsEntry entry → now ≡ bytes ++ frame version_2 entry → AreWritten bytes (take i all) → AreWritten now (take (i + 1) all)
frames_next all i entry bytes now lt is valid now_is h =
    let more : take (i + 1) all ≡ take i all ++ entry ∷ [] =
    take_more all i entry lt ∙ ap (λ e. take i all ++ e ∷ []) (sym is) in
    subst (λ es. AreWritten now es) (sym more) (adds_one bytes now entry valid now_is (take i all) h)

-- ---- the record is replaced

-- a replacement, as a refusal tells it
pub replaced : (next : List ℕ) (old new : Held) → HasPut next old new (Ok tt) → IsReplaced next old new (Ok tt)
replaced next old new h = h

module _ (old new : Held) (bytes : List ℕ) (is : old.bytes ≡ bytes) where
  rewritten_so : (read : List Entry) (tail frames : List ℕ) (r : Result (Unit {0}) Refusal) → IsStored bytes read tail
      → AreWritten frames read → IsReplaced frames old new r → Rewrites old new r
  rewritten_so read tail frames r there h put all stored =
      let same : read ≡ all =
      (stored_same read all bytes tail [] there (subst (λ (xs : List ℕ). IsStored xs all []) is stored)).0 in
      subst (λ (xs : List ℕ). IsReplaced xs old new r) (h.bytes_are ∙ ap frames_of same) put

  -- a record whose frames were replaced by those that were written is a rewritten record
  pub rewritten_by : (read given : List Entry) (tail frames text : List ℕ) (r : Result (Unit {0}) Refusal) → IsStored bytes read tail
      → given ≡ read → AreWritten frames given → text ≡ frames → IsReplaced text old new r → Rewrites old new r
  rewritten_by read given tail frames text r there given_is h text_is put =
      rewritten_so read tail frames r there (subst (AreWritten frames) given_is h)
      (subst (λ (xs : List ℕ). IsReplaced xs old new r) text_is put)
