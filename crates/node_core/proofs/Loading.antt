-- What reading a record leaves.
-- Needed by `load`; Looking, Restarting and Steps; crates groups and floored_groups.
use Rattle.std.proofs.Common.{◌≡◌, ◌∙◌, ℕ, ◌-◌, List, [], ◌∷◌, ◌++◌, length, drop, take, refl, sym, ap, subst, inl, inr, arith}
use Rattle.std.specs.Prelude.{◌⊎◌, IsTrue, true, map, Option, Some, None, Ok, Err}
use Rattle.std.specs.List.{list_all, flat_map}
use Rattle.std.proofs.lemmas.List.{length-drop, take-append-drop}
use Rattle.xid.specs.declared.refusals.Refusal.{Refusal}
use Rattle.wire.specs.Versions.{version_2}
use Rattle.wire.specs.declared.grammar.VersionNumber.TheVariants.{Second}
use Rattle.stable_record.specs.declared.entry.EntryKind.{EntryKind as Entry}
use Rattle.stable_record.specs.declared.entry.EntryKind.TheVariants as entries
use Rattle.stable_record.specs.declared.fact.FactKind.{FactKind as Fact}
use Rattle.stable_record.specs.declared.record.RecordError.{RecordError}
use Rattle.stable_record.specs.declared.record.RecordError.TheVariants.{Fault, Memory}
use Rattle.stable_record.specs.Grammar.{IsStored, frame}
use Rattle.stable_record.specs.Held.{Held, HasPut, IsCounted, refusal_of, with_bytes}
use Rattle.stable_record.proofs.Framed.{taken_stored, stored_same, one_stored, stored_joined, empty_tail}
use Rattle.stable_record.proofs.Lengths.{entry_in_version_2}
use Rattle.protocol.specs.declared.nodes.NodeId.{NodeId}
use Rattle.protocol.specs.declared.nodes.NodeId.TheVariants.{A, L, R}
use Rattle.protocol.specs.declared.rows.Row.{Row}
use Rattle.protocol.specs.Effects.{Config}
use Rattle.resource_manager.specs.Compacted.{IsCompacted, row_entry, is_about_tx, facts_of}
use Rattle.node_core.specs.declared.role.Role.{Role}
use Rattle.node_core.specs.Nodes.{Kept, MeansFrom, Holds}
use Rattle.node_core.specs.Opening.{IsBad, IsRecordRead, Reads, HasStayed, Loads, frames_of, IsReplaced, Rewrites}
use Rattle.node_core.specs.Opening.{IsUntailed, IsTrimmed, IsLeftOver}
use Rattle.node_core.proofs.Rows.{same_row}
use Rattle.node_core.proofs.Starting.{of_facts}

-- ---- what entries mean is known

same_facts : (xs ys : List Fact) → of_facts xs ≡ of_facts ys → xs ≡ ys
same_facts [] [] is = refl
same_facts [] (y ∷ ys) is = absurd (cc (is))
same_facts (x ∷ xs) [] is = absurd (cc (is))
same_facts (x ∷ xs) (y ∷ ys) is =
    let whole : entries.Fact x ∷ of_facts xs ≡ entries.Fact y ∷ of_facts ys = is in
    let head : x ≡ y = cc (whole) in
    let rest : of_facts xs ≡ of_facts ys = cc (whole) in
    λ i. head i ∷ same_facts xs ys rest i

-- rows and what is about transactions are known by their entries
same_parts : (rows others : List Row) (later more : List Entry) → map row_entry rows ++ later ≡ map row_entry others ++ more
    → list_all is_about_tx later ≡ true → list_all is_about_tx more ≡ true → (rows ≡ others) × (later ≡ more)
same_parts [] [] later more is a b = (refl, is)
same_parts [] (o ∷ others) later more is a b =
    let c = subst (λ es. list_all is_about_tx es ≡ true) is a in
    absurd (cc (c))
same_parts (r ∷ rows) [] later more is a b =
    let c = subst (λ es. list_all is_about_tx es ≡ true) (sym is) b in
    absurd (cc (c))
same_parts (r ∷ rows) (o ∷ others) later more is a b =
    let whole : row_entry r ∷ (map row_entry rows ++ later) ≡ row_entry o ∷ (map row_entry others ++ more) = is in
    let head : row_entry r ≡ row_entry o = cc (whole) in
    let rest : map row_entry rows ++ later ≡ map row_entry others ++ more = cc (whole) in
    let s = same_parts rows others later more rest a b in
    ((λ i. same_row r o head i ∷ s.0 i), s.1)

plain_compacted : (facts : List Fact) (all : List Entry) (rows : List Row) (others : List Fact) → all ≡ of_facts facts
    → IsCompacted all rows others → ⊥
plain_compacted [] all rows others is c =
    let e : [] ≡ entries.Snapshot ∷ (map row_entry rows ++ c.later) = sym is ∙ c.all_is in
    absurd (cc (e))
plain_compacted (fact ∷ facts) all rows others is c =
    let e : entries.Fact fact ∷ of_facts facts ≡ entries.Snapshot ∷ (map row_entry rows ++ c.later) = sym is ∙ c.all_is in
    absurd (cc (e))

-- what a record keeps: the rows of its snapshot, where it has one, and facts
abbrev pub both_parts : Option (List Row) → List Fact → Kept
both_parts rows facts = record { rows = rows; facts = facts }

same_meaning : (who : NodeId) (all : List Entry) (rows others : Option (List Row)) (facts more : List Fact) → MeansFrom who all rows facts
    → MeansFrom who all others more → both_parts rows facts ≡ both_parts others more
same_meaning who all None None facts more p q = ap (both_parts None) (same_facts facts more (sym p ∙ q))
same_meaning (R rm) all (Some rows) None facts more p q = absurd (plain_compacted more all rows facts q p)
same_meaning (R rm) all None (Some others) facts more p q = absurd (plain_compacted facts all others more p q)
same_meaning (R rm) all (Some rows) (Some others) facts more p q =
    let whole : entries.Snapshot ∷ (map row_entry rows ++ p.later) ≡ entries.Snapshot ∷ (map row_entry others ++ q.later) =
    sym p.all_is ∙ q.all_is in
    let is : map row_entry rows ++ p.later ≡ map row_entry others ++ q.later = cc (whole) in
    let s = same_parts rows others p.later q.later is p.about q.about in
    let f : facts ≡ more = p.facts_are ∙ ap (flat_map facts_of) s.1 ∙ sym q.facts_are in
    λ i. both_parts (Some (s.0 i)) (f i)
same_meaning (A a) all (Some rows) others facts more p q = absurd p
same_meaning (A a) all None (Some others) facts more p q = absurd q
same_meaning (L l) all (Some rows) others facts more p q = absurd p
same_meaning (L l) all None (Some others) facts more p q = absurd q

-- ---- what a record holds is known

-- two readings of the same bytes find the same kept
pub same_holds : (config other : Config) (who : NodeId) (bytes : List ℕ) (kept others : Kept) (tail end : List ℕ)
    → Holds config who bytes kept tail → Holds other who bytes others end → kept ≡ others
same_holds config other who bytes kept others tail end h k =
    let same = (stored_same h.all k.all bytes tail end h.stored k.stored).0 in
    same_meaning who k.all kept.rows others.rows kept.facts others.facts
    (subst (λ es. MeansFrom who es kept.rows kept.facts) same h.means) k.means

-- other bytes with the same entries hold the same
pub holds_again : (config : Config) (who : NodeId) (bytes now : List ℕ) (kept : Kept) (tail end : List ℕ)
    → (h : Holds config who bytes kept tail) → IsStored now h.all end → Holds config who now kept end
holds_again config who bytes now kept tail end h stored = record { all = h.all; stored = stored; means = h.means; fits = h.fits }

-- the frames of entries, as they are written today, hold them
pub frames_stored : (all : List Entry) (bytes tail : List ℕ) → IsStored bytes all tail → IsStored (frames_of all) all []
frames_stored [] bytes tail stored = (refl, empty_tail)
frames_stored (entry ∷ all) bytes tail stored =
    stored_joined (entry ∷ []) all (frame version_2 entry) (frames_of all) []
    (one_stored Second entry (entry_in_version_2 entry stored.1.valid.valid)) (frames_stored all stored.0 tail stored.2)

-- either way, two lists are the same
pub either_same : (xs ys : List ℕ) → (xs ≡ ys) ⊎ (xs ≡ ys) → xs ≡ ys
either_same xs ys (inl e) = e
either_same xs ys (inr e) = e

-- where no call of a record failed and its bytes are as they were
pub stayed_same : (old new : Held) → new ≡ old → HasStayed old new
stayed_same old new is = record {
  armed = ap (λ (r : Held). r.armed) is;
  faults = ap (λ (r : Held). r.faults) is;
  nature = ap (λ (r : Held). r.nature) is;
  holds = λ c w kept tail h. (tail, subst (λ (r : Held). Holds c w r.bytes kept tail) (sym is) h);
}

module _ (config : Config) (who : NodeId) (own : List Row) (old : Held) where
  -- a record that is as it was
  pub stayed_whole : (new : Held) → new ≡ old → HasStayed old new × IsTrimmed config who old.bytes new.bytes
  stayed_whole new is = (stayed_same old new is, inl (ap (λ (r : Held). r.bytes) is))

  -- a record that holds nothing that plays
  pub replay_refused : (new : Held) (bytes : List ℕ) (e : Refusal) → bytes ≡ old.bytes → new ≡ old → Reads config who own bytes (Err e)
      → Loads config who own old new (Err e)
  replay_refused new bytes Refusal.Damaged is same h = (same, subst (IsBad config who) is h)
  replay_refused new bytes Refusal.NoMemory is same h = stayed_whole new same
  replay_refused new bytes other is same h = absurd h

  -- the tail is cut, or the record fails
  module _ (role : Role) (len : ℕ) (h : IsRecordRead config who own old.bytes role len) where
    abbrev cut : List ℕ
    cut = take len old.bytes

    -- whatever entries stood in all bytes, they stand in those that are left
    pub cut_stored : (all : List Entry) (tail : List ℕ) → IsStored old.bytes all tail → IsStored cut all []
    cut_stored all tail stored =
        let same = (stored_same all h.holds.all old.bytes tail (drop len old.bytes) stored h.holds.stored).1 in
        let n : length old.bytes - length (drop len old.bytes) ≡ len = omega (arith, length-drop len old.bytes, h.within) in
        let left : length old.bytes - length tail ≡ len = ap (λ (t : List ℕ). length old.bytes - length t) same ∙ n in
        subst (λ k. IsStored (take k old.bytes) all []) left (taken_stored all old.bytes tail stored)

    cut_holds : (c : Config) (w : NodeId) (kept : Kept) (tail : List ℕ) → Holds c w old.bytes kept tail → Holds c w cut kept []
    cut_holds c w kept tail k = holds_again c w old.bytes cut kept tail [] k (cut_stored k.all tail k.stored)

    -- its frames as they are written today
    abbrev frames : List ℕ
    frames = frames_of h.holds.all

    frames_hold : (c : Config) (w : NodeId) (kept : Kept) (tail : List ℕ) → Holds c w old.bytes kept tail → Holds c w frames kept []
    frames_hold c w kept tail k =
        let same = (stored_same k.all h.holds.all old.bytes tail (drop len old.bytes) k.stored h.holds.stored).0 in
        holds_again c w old.bytes frames kept tail [] k
        (subst (λ es. IsStored frames es []) (sym same) (frames_stored h.holds.all old.bytes (drop len old.bytes) h.holds.stored))

    cut_either : (new : Held) (c : Config) (w : NodeId) (kept : Kept) (tail : List ℕ)
        → (new.bytes ≡ old.bytes) ⊎ (new.bytes ≡ cut) → Holds c w old.bytes kept tail → (end : List ℕ) × Holds c w new.bytes kept end
    cut_either new c w kept tail (inl e) k = (tail, subst (λ bytes. Holds c w bytes kept tail) (sym e) k)
    cut_either new c w kept tail (inr e) k = ([], subst (λ bytes. Holds c w bytes kept []) (sym e) (cut_holds c w kept tail k))

    -- they are those before without their tail
    untailed : (bytes : List ℕ) → bytes ≡ cut → IsUntailed config who old.bytes bytes
    untailed bytes is = record {
      kept = h.kept;
      tail = drop len old.bytes;
      held = h.holds;
      bytes_are = sym (take-append-drop len old.bytes) ∙ ap (λ (xs : List ℕ). xs ++ drop len old.bytes) (sym is);
    }

    cut_left : (bytes : List ℕ) → (bytes ≡ old.bytes) ⊎ (bytes ≡ cut) → IsTrimmed config who old.bytes bytes
    cut_left bytes (inl e) = inl e
    cut_left bytes (inr e) = inr (untailed bytes e)

    pub cut_refused : (new : Held) (e : RecordError) → HasPut cut old new (Err e) → Loads config who own old new (Err (refusal_of e))
    cut_refused new Fault put = (
      record {
        may = put.may;
        counted = put.counted;
        armed = put.armed;
        nature = put.nature;
        holds = λ c w kept tail k. cut_either new c w kept tail put.bytes k;
      },
      inl (cut_left new.bytes put.bytes),
    )
    cut_refused new Memory put = stayed_whole new put

    -- then the frames are written anew, or the record fails
    module _ (mid new : Held) (cut_is : mid ≡ with_bytes cut old) where
      frames_either : (c : Config) (w : NodeId) (kept : Kept) (tail : List ℕ)
          → (new.bytes ≡ mid.bytes) ⊎ (new.bytes ≡ frames) → Holds c w old.bytes kept tail → (end : List ℕ) × Holds c w new.bytes kept end
      frames_either c w kept tail (inl e) k =
          ([], subst (λ bytes. Holds c w bytes kept []) (sym (e ∙ ap (λ (r : Held). r.bytes) cut_is)) (cut_holds c w kept tail k))
      frames_either c w kept tail (inr e) k = ([], subst (λ bytes. Holds c w bytes kept []) (sym e) (frames_hold c w kept tail k))

      mid_bytes : mid.bytes ≡ cut
      mid_bytes = ap (λ (r : Held). r.bytes) cut_is

      frames_left : (bytes : List ℕ) → (bytes ≡ mid.bytes) ⊎ (bytes ≡ frames) → IsLeftOver config who old.bytes bytes
      frames_left bytes (inl e) = inl (inr (untailed bytes (e ∙ mid_bytes)))
      frames_left bytes (inr e) = inr (record { kept = h.kept; tail = drop len old.bytes; held = h.holds; bytes_are = e })

      mid_stored : IsStored mid.bytes h.holds.all []
      mid_stored =
          subst (λ (r : Held). IsStored r.bytes h.holds.all []) (sym cut_is) (cut_stored h.holds.all (drop len old.bytes) h.holds.stored)

      pub migrate_refused : (e : Refusal) → Rewrites mid new (Err e) → Loads config who own old new (Err e)
      migrate_refused e rewrites = by e (rewrites h.holds.all mid_stored)
        where
          by : (e : Refusal) → IsReplaced frames mid new (Err e) → Loads config who own old new (Err e)
          by Refusal.RecordFault put = (
            record {
              may = subst (λ (r : Held). IsTrue r.nature.may_fail) cut_is put.may;
              counted = subst (λ (r : Held). IsCounted r.faults new.faults) cut_is put.counted;
              armed = put.armed ∙ ap (λ (r : Held). r.armed) cut_is;
              nature = put.nature ∙ ap (λ (r : Held). r.nature) cut_is;
              holds = λ c w kept tail k. frames_either c w kept tail put.bytes k;
            },
            frames_left new.bytes put.bytes,
          )
          by Refusal.NoMemory put = (
            record {
              armed = ap (λ (r : Held). r.armed) put ∙ ap (λ (r : Held). r.armed) cut_is;
              faults = ap (λ (r : Held). r.faults) put ∙ ap (λ (r : Held). r.faults) cut_is;
              nature = ap (λ (r : Held). r.nature) put ∙ ap (λ (r : Held). r.nature) cut_is;
              holds = λ c w kept tail k. frames_either c w kept tail (inl (ap (λ (r : Held). r.bytes) put)) k;
            },
            inr (untailed new.bytes (ap (λ (r : Held). r.bytes) put ∙ mid_bytes)),
          )
          by other put = absurd put

      pub migrated : Rewrites mid new (Ok tt) → Loads config who own old new (Ok role)
      migrated rewrites =
          let put = rewrites h.holds.all mid_stored in
          let bytes : new.bytes ≡ frames = ap (λ (r : Held). r.bytes) put in
          record {
            kept = h.kept;
            tail = drop len old.bytes;
            held = h.holds;
            written = bytes;
            stayed = record {
              armed = ap (λ (r : Held). r.armed) put ∙ ap (λ (r : Held). r.armed) cut_is;
              faults = ap (λ (r : Held). r.faults) put ∙ ap (λ (r : Held). r.faults) cut_is;
              nature = ap (λ (r : Held). r.nature) put ∙ ap (λ (r : Held). r.nature) cut_is;
              holds = λ c w kept tail k. frames_either c w kept tail (inr bytes) k;
            };
            stands = h.stands;
          }

module _ (config : Config) (who : NodeId) (own : List Row) (old : Held) (role : Role) (len : ℕ) (mid : Held) (bytes : List ℕ)
    (bytes_are : bytes ≡ old.bytes) (mid_is : mid ≡ old) (h : IsRecordRead config who own bytes role len) where
  read_old : IsRecordRead config who own old.bytes role len
  read_old = subst (λ bs. IsRecordRead config who own bs role len) bytes_are h

  -- a load whose cut of the tail failed
  pub load_cut : (new : Held) (e : RecordError) (refusal : Refusal) → refusal ≡ refusal_of e → HasPut (take len mid.bytes) mid new (Err e)
      → Loads config who own old new (Err refusal)
  load_cut new e refusal is put =
      subst (λ r. Loads config who own old new (Err r)) (sym is)
      (cut_refused config who own old role len read_old new e
      (subst (λ (r : Held). HasPut (take len r.bytes) r new (Err e)) mid_is put))

  module _ (now new : Held) (put : HasPut (take len mid.bytes) mid now (Ok tt)) where
    now_is : now ≡ with_bytes (take len old.bytes) old
    now_is = subst (λ (r : Held). HasPut (take len r.bytes) r now (Ok tt)) mid_is put

    -- what is written anew are the bytes that are left
    pub left_is : now.bytes ≡ take len bytes
    left_is = ap (λ (r : Held). r.bytes) now_is ∙ ap (take len) (sym bytes_are)

    -- a load whose record was rewritten
    pub load_done : Rewrites now new (Ok tt) → Loads config who own old new (Ok role)
    load_done rewrites = migrated config who own old role len read_old now new now_is rewrites

    -- a load whose rewriting failed
    pub load_stopped : (e : Refusal) → Rewrites now new (Err e) → Loads config who own old new (Err e)
    load_stopped e rewrites = migrate_refused config who own old role len read_old now new now_is e rewrites
