-- What is written at the end, one part after the other, is a frame; and frames one after the other.
-- Needed by `write_past` and `write_row`; crates acceptor, leader, resource_manager and node_core.
use Rattle.std.proofs.Common.{◌≡◌, ◌∙◌, inl, ℕ, ◌+◌, List, [], ◌∷◌, ◌++◌, length, refl, sym, ap, subst, append_assoc, append-nil, arith}
use Rattle.std.specs.Prelude.{map}
use Rattle.std.specs.List.{flat_map}
use Rattle.std.proofs.lemmas.Grind.{flat_map-append}
use Rattle.std.proofs.lemmas.List.{length-append, map-append}
use Rattle.wire.specs.Grammar.{number_spelling, component_spelling}
use Rattle.wire.specs.Versions.{version_2}
use Rattle.wire.specs.declared.grammar.VersionNumber.TheVariants.{Second}
use Rattle.stable_record.specs.declared.entry.EntryKind.{EntryKind as Entry}
use Rattle.stable_record.specs.declared.fact.FactKind.{FactKind as Fact}
use Rattle.stable_record.specs.Entries.{IsEntry}
use Rattle.stable_record.specs.Facts.{IsFact}
use Rattle.stable_record.specs.Grammar.{IsStored, frame, value_spelling}
use Rattle.stable_record.specs.Written.{AreWritten, AddsEntries, AddsFacts}
use Rattle.stable_record.proofs.Framed.{one_stored, stored_joined}
use Rattle.stable_record.proofs.Lengths.{entry_in_version_2}

-- a body is its version, the number of its kind, and what follows them
abbrev body : (code : ℕ) → List ℕ → List ℕ
body code fields = version_2.byte ∷ code ∷ fields

-- a length, version and kind, and what follows them
framed_so : (old a b c : List ℕ) (n code : ℕ) (fields : List ℕ) → n ≡ 2 + length fields → a ≡ old ++ number_spelling n
    → b ≡ a ++ version_2.byte ∷ code ∷ [] → c ≡ b ++ fields → c ≡ old ++ (number_spelling (length (body code fields)) ++ body code fields)
framed_so old a b c n code fields len ea eb ec =
    let all : n ≡ length (body code fields) = omega (arith, len) in
    ec ∙ ap (λ (xs : List ℕ). xs ++ fields) (eb ∙ ap (λ (xs : List ℕ). xs ++ version_2.byte ∷ code ∷ []) ea)
    ∙ append_assoc (old ++ number_spelling n) (version_2.byte ∷ code ∷ []) fields
    ∙ append_assoc old (number_spelling n) (body code fields)
    ∙ ap (λ (k : ℕ). old ++ (number_spelling k ++ body code fields)) all

-- the frame of an entry that is a transaction alone
pub past_framed : (old a b c : List ℕ) (n code : ℕ) (given spelled : List ℕ) → given ≡ spelled → n ≡ 2 + length given
    → a ≡ old ++ number_spelling n → b ≡ a ++ version_2.byte ∷ code ∷ [] → c ≡ b ++ given
    → c ≡ old ++ (number_spelling (length (body code spelled)) ++ body code spelled)
past_framed old a b c n code given spelled is len ea eb ec =
    framed_so old a b c n code given len ea eb ec
    ∙ ap (λ (xs : List ℕ). old ++ (number_spelling (length (body code xs)) ++ body code xs)) is

-- the frame of a row
pub row_framed : (old a b c d : List ℕ) (n : ℕ) (key value : List ℕ) → n ≡ 5 + length key + length value → a ≡ old ++ number_spelling n
    → b ≡ a ++ version_2.byte ∷ 10 ∷ [] → c ≡ b ++ component_spelling key → d ≡ c ++ value_spelling value
    → d ≡ old ++ frame version_2 (Entry.Row key value)
row_framed old a b c d n key value len ea eb ec ed =
    let fields = component_spelling key ++ value_spelling value in
    let all : n ≡ 2 + length fields = omega (arith, len, length-append (component_spelling key) (value_spelling value)) in
    framed_so old a b d n 10 fields all ea eb
    (ed ∙ ap (λ (xs : List ℕ). xs ++ value_spelling value) ec ∙ append_assoc b (component_spelling key) (value_spelling value))

-- ---- frames behind frames

-- nothing is written yet
pub none_written : AreWritten [] []
none_written = record { bytes_are = refl; stored = (refl, inl (omega arith)) }

-- the frame of one entry more
pub adds_one : (old new : List ℕ) (entry : Entry) → IsEntry entry → new ≡ old ++ frame version_2 entry → AddsEntries old new (entry ∷ [])
adds_one old new entry valid is all h = record {
  bytes_are = is ∙ ap (λ (xs : List ℕ). xs ++ frame version_2 entry) h.bytes_are
      ∙ ap (λ (xs : List ℕ). flat_map (frame version_2) all ++ xs) (sym (append-nil (frame version_2 entry)))
      ∙ sym (flat_map-append (frame version_2) all (entry ∷ []));
  stored = subst (λ (xs : List ℕ). IsStored xs (all ++ entry ∷ []) []) (sym is)
      (stored_joined all (entry ∷ []) old (frame version_2 entry) [] h.stored
      (one_stored Second entry (entry_in_version_2 entry valid)));
}

-- ---- the same of facts

pub facts_then : (a b c : List ℕ) (first second : List Fact) → AddsFacts a b first → AddsFacts b c second
    → AddsFacts a c (first ++ second)
facts_then a b c first second one two all h =
    subst (λ (fs : List Fact). AreWritten c (map Entry.Fact fs)) (append_assoc all first second) (two (all ++ first) (one all h))

-- the frame of one fact more
pub facts_one : (old new : List ℕ) (fact : Fact) → IsFact fact → new ≡ old ++ frame version_2 (Entry.Fact fact)
    → AddsFacts old new (fact ∷ [])
facts_one old new fact valid is all h =
    subst (AreWritten new) (sym (map-append Entry.Fact all (fact ∷ [])))
    (adds_one old new (Entry.Fact fact) valid is (map Entry.Fact all) h)

-- ---- facts one after the other

-- the frames of facts were written, and with the rest they come to the whole
pub record HasAdded (old new : List ℕ) (rest whole : List Fact) : Type 0 where
  pub put : List Fact
  pub adds : AddsFacts old new put
  pub left : put ++ rest ≡ whole

-- so many frames, and those of some facts more
pub more_added : (old now new : List ℕ) (put one rest whole : List Fact) → AddsFacts old now put → AddsFacts now new one
    → (put ++ one) ++ rest ≡ whole → HasAdded old new rest whole
more_added old now new put one rest whole before adds left = record {
  put = put ++ one;
  adds = facts_then old now new put one before adds;
  left = left;
}
