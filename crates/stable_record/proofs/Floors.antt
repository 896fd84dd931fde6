-- A floor's frame is taken again, what is taken was spelled, and no entry's frame is one.
-- Needed by 7 functions of this crate; Known; crates floored, cluster and floored_groups.
use Rattle.std.proofs.Common.{◌≡◌, ◌∙◌, ℕ, zero, suc, ◌+◌, ◌<◌, ◌==◌, true, eqb-true, List, [], ◌∷◌, ◌++◌, length, take, Option, Some, None}
use Rattle.std.proofs.Common.{inl, refl, sym, ap, subst, append_assoc, arith}
use Rattle.std.specs.List.{slice_index_or}
use Rattle.std.specs.Option.{option_map}
use Rattle.std.proofs.lemmas.List.{length-append, take_at}
use Rattle.xid.specs.Names.{IsBytes}
use Rattle.xid.specs.Transactions.{TxParts}
use Rattle.wire.specs.Grammar.{number_spelling, component_spelling}
use Rattle.wire.specs.Reading.{byte_at, number_at}
use Rattle.wire.specs.Versions.{version_2}
use Rattle.wire.specs.Decoding.{tx_in}
use Rattle.wire.proofs.Fields.{number_again}
use Rattle.wire.proofs.Places.{name_again, name_spelled}
use Rattle.wire.proofs.Spelled.{Front, some_same, step, number_spelled, byte_spelled}
use Rattle.wire.proofs.Notices.{passes}
use Rattle.stable_record.specs.declared.entry.EntryKind.{EntryKind as Entry}
use Rattle.stable_record.specs.Grammar.{HasNoFrame, IsStored, IsTail}
use Rattle.stable_record.specs.Reading.{entry_at, about_at, fact_at, body_at as entry_body_at}
use Rattle.stable_record.proofs.Framed.{bad_body}
use Rattle.xid.specs.Places.{Place, IsPlace}
use Rattle.wire.specs.Names.{place_spelling, name_at}
use Rattle.stable_record.specs.Floors.{IsFloored, body_at, floor_at, floor_body, floor_byte, floor_frame, floor_of, front_of}
use Rattle.stable_record.specs.Behind.{BeginsWith, IsFloor}
use Rattle.stable_record.proofs.Lengths.{number_has_4}

-- ---- how long

pub body_has : (place : Place) → length (floor_body place) ≡ 7 + length place.gtrid
body_has place =
    let e = length-append (number_spelling place.format) (component_spelling place.gtrid) in
    omega (arith, e, number_has_4 place.format)

-- how long a floor's frame is
pub frame_has : (place : Place) → length (floor_frame place) ≡ 11 + length place.gtrid
unfolding floor_frame
frame_has place =
    let n : ℕ = length (floor_body place) in
    omega (arith, length-append (number_spelling n) (floor_body place), number_has_4 n, body_has place)

-- ---- what is put

-- the elements of a list are bytes, where those inside it are
pub all_fit : (xs : List ℕ) → ((i d : ℕ) → i < length xs → slice_index_or xs i d < 256) → IsBytes xs
all_fit [] h i = omega arith
all_fit (x ∷ xs) h zero = h 0 0 (omega arith)
all_fit (x ∷ xs) h (suc i) = all_fit xs (λ k d inside. h (suc k) d (omega (arith, inside))) i

-- what was put, one part after the other, is a place
pub place_put : (a b c d : List ℕ) (place : Place) → b ≡ a ++ number_spelling place.format → c ≡ b ++ length place.gtrid ∷ []
    → d ≡ c ++ place.gtrid → d ≡ a ++ place_spelling place
place_put a b c d place put_b put_c put_d =
    let number : List ℕ = number_spelling place.format in
    let two : c ≡ a ++ (number ++ length place.gtrid ∷ []) =
    put_c ∙ ap (λ (xs : List ℕ). xs ++ length place.gtrid ∷ []) put_b ∙ append_assoc a number (length place.gtrid ∷ []) in
    put_d ∙ ap (λ (xs : List ℕ). xs ++ place.gtrid) two ∙ append_assoc a (number ++ length place.gtrid ∷ []) place.gtrid
    ∙ ap (λ (xs : List ℕ). a ++ xs) (append_assoc number (length place.gtrid ∷ []) place.gtrid)

-- and a floor's frame
pub frame_put : (a b c d e : List ℕ) (place : Place) → b ≡ a ++ number_spelling (7 + length place.gtrid) → c ≡ b ++ 2 ∷ []
    → d ≡ c ++ 13 ∷ [] → e ≡ d ++ place_spelling place → e ≡ a ++ floor_frame place
unfolding floor_frame
frame_put a b c d e place put_b put_c put_d put_e =
    let number : List ℕ = number_spelling (length (floor_body place)) in
    let one : b ≡ a ++ number = put_b ∙ ap (λ (n : ℕ). a ++ number_spelling n) (sym (body_has place)) in
    let two : c ≡ a ++ (number ++ 2 ∷ []) =
    put_c ∙ ap (λ (xs : List ℕ). xs ++ 2 ∷ []) one ∙ append_assoc a number (2 ∷ []) in
    let three : d ≡ a ++ (number ++ 2 ∷ 13 ∷ []) =
    put_d ∙ ap (λ (xs : List ℕ). xs ++ 13 ∷ []) two ∙ append_assoc a (number ++ 2 ∷ []) (13 ∷ [])
    ∙ ap (λ (xs : List ℕ). a ++ xs) (append_assoc number (2 ∷ []) (13 ∷ [])) in
    put_e ∙ ap (λ (xs : List ℕ). xs ++ place_spelling place) three
    ∙ append_assoc a (number ++ 2 ∷ 13 ∷ []) (place_spelling place)
    ∙ ap (λ (xs : List ℕ). a ++ xs) (append_assoc number (2 ∷ 13 ∷ []) (place_spelling place))

-- ---- what is spelled is taken again

same_eq : (n m : ℕ) → n ≡ m → (n == m) ≡ true
same_eq n m e = grind (arith, e)

body_again : (place : Place) (rest : List ℕ) → IsPlace place
    → body_at (length (floor_body place)) version_2.byte floor_byte (place_spelling place ++ rest) ≡ Some (place, rest)
unfolding body_at
body_again place rest is =
    let name = name_again place rest is in
    let sized = same_eq (length (floor_body place)) (7 + length place.gtrid) (body_has place) in
    rw (name, sized) refl

-- the length and the body at the front of a floor's frame
pub head_again : (place : Place) (rest : List ℕ) → IsPlace place
    → number_at (floor_frame place ++ rest) ≡ Some (length (floor_body place), floor_body place ++ rest)
unfolding floor_frame
head_again place rest is =
    let n : ℕ = length (floor_body place) in
    ap number_at (append_assoc (number_spelling n) (floor_body place) rest)
    ∙ number_again n (floor_body place ++ rest) (omega (arith, body_has place, is.few))

-- a floor is taken again from the front of its frame
pub floor_again : (place : Place) (rest : List ℕ) → IsPlace place → floor_at (floor_frame place ++ rest) ≡ Some (place, rest)
unfolding floor_at
floor_again place rest is = rw (head_again place rest is, body_again place rest is) refl

-- bytes that begin with a floor's frame have this floor
pub found : (place : Place) (bytes rest : List ℕ) → IsFloored place bytes rest → floor_at bytes ≡ Some (place, rest)
found place bytes rest is = ap floor_at is.same ∙ floor_again place rest is.valid

-- ---- what is taken was spelled

-- a body that was spelled, behind its length, with what follows it
record Bodied (len : ℕ) (bytes : List ℕ) (x : Place × List ℕ) : Type 0 where
  pub front : Front bytes (place_spelling x.0) x.1
  pub valid : IsPlace x.0
  pub sized : len ≡ 7 + length x.0.gtrid

body_spelled : (len version kind : ℕ) (bytes : List ℕ) (x : Place × List ℕ) → IsBytes bytes → body_at len version kind bytes ≡ Some x
    → (version ≡ 2) × (kind ≡ 13) × Bodied len bytes x
unfolding body_at
body_spelled len version kind bytes x is e =
    let one = passes (version == 2) _ x e in
    let two = passes (kind == 13) _ x one.1 in (
      eqb-true version 2 one.0,
      eqb-true kind 13 two.0,
      step (name_at bytes) _ two.1 (λ name en e.
          let last = passes (len == 7 + length name.0.gtrid) (Some name) x e in
          let named = name_spelled bytes name is en in
          subst (Bodied len bytes) (some_same name x last.1)
          (record { front = named.front; valid = named.valid; sized = eqb-true len (7 + length name.0.gtrid) last.0 })),
    )

-- a floor that is taken stands in its frame
pub framed : (place : Place) (bytes rest : List ℕ) → IsBytes bytes → floor_at bytes ≡ Some (place, rest) → IsFloored place bytes rest
unfolding floor_at floor_frame
framed place bytes rest is e =
    step (number_at bytes) _ e (λ len el e. step (byte_at len.1) _ e (λ version ev e. step (byte_at version.1) _ e (λ kind ek e.
    let one = number_spelled bytes len is el in
    let two = byte_spelled len.1 version one.after ev in
    let three = byte_spelled version.1 kind two.after ek in
    let body = body_spelled len.0 version.0 kind.0 kind.1 (place, rest) three.after e in
    let sized : len.0 ≡ length (floor_body place) = body.2.sized ∙ sym (body_has place) in
    let heads : len.1 ≡ version.0 ∷ kind.0 ∷ kind.1 = two.same ∙ ap (λ (xs : List ℕ). version.0 ∷ xs) three.same in
    let whole : len.1 ≡ floor_body place ++ rest = heads ∙ λ i. body.0 i ∷ body.1 i ∷ body.2.front.same i in
    let n : ℕ = length (floor_body place) in
    record {
      valid = body.2.valid;
      same = one.same ∙ (λ i. number_spelling (sized i) ++ whole i) ∙ sym (append_assoc (number_spelling n) (floor_body place) rest);
    })))

-- ---- what a record begins with

-- where no floor is found, the front is empty, and where one is, it stands there
pub begins_with : (bytes : List ℕ) → IsBytes bytes → BeginsWith (front_of (floor_of bytes)) bytes
begins_with bytes is = by (floor_at bytes) refl
  where
    by : (o : Option (Place × List ℕ)) → floor_at bytes ≡ o → BeginsWith (front_of (option_map (λ x. x.0) o)) bytes
    by None e = record { rest = bytes; same = refl }
    by (Some x) e = record { rest = x.1; same = (framed x.0 bytes x.1 is e).same }

-- what is found is a floor's place
pub found_valid : (bytes : List ℕ) → IsBytes bytes → IsFloor (floor_of bytes)
found_valid bytes is = by (floor_at bytes) refl
  where
    by : (o : Option (Place × List ℕ)) → floor_at bytes ≡ o → IsFloor (option_map (λ x. x.0) o)
    by None e = tt
    by (Some x) e = (framed x.0 bytes x.1 is e).valid

-- ---- no entry's frame

no_entry : (fields : List ℕ) → entry_body_at (version_2.byte ∷ floor_byte ∷ fields) ≡ None
unfolding entry_body_at entry_at about_at fact_at
no_entry fields = by (tx_in version_2 fields) refl
  where
    by : (o : Option (TxParts × List ℕ)) → tx_in version_2 fields ≡ o → entry_body_at (version_2.byte ∷ floor_byte ∷ fields) ≡ None
    by None e = rw e refl
    by (Some x) e = rw e refl

-- a floor's frame is no entry's
pub no_frame : (place : Place) (rest : List ℕ) → IsPlace place → HasNoFrame (floor_frame place ++ rest)
no_frame place rest is =
    let bytes : List ℕ = floor_frame place ++ rest in
    let n : ℕ = length (floor_body place) in
    let cut : take n (floor_body place ++ rest) ≡ floor_body place = take_at (floor_body place) rest n refl in
    bad_body bytes n (floor_body place ++ rest) (head_again place rest is) (omega (arith, length-append (floor_body place) rest))
    (ap entry_body_at cut ∙ no_entry (place_spelling place))

-- ---- entries behind a floor

-- no floor stands at the front of entries
none_stored : (place : Place) (bytes rest : List ℕ) (all : List Entry) (tail : List ℕ) → IsFloored place bytes rest
    → IsStored bytes all tail → ⊥
none_stored place bytes rest all tail is stored = by all stored
  where
    none : HasNoFrame bytes
    none = subst HasNoFrame (sym is.same) (no_frame place rest is.valid)

    by : (all : List Entry) → IsStored bytes all tail → ⊥
    by [] stored = none.tail (subst IsTail (sym stored.0) stored.1)
    by (entry ∷ entries) stored = none.framed entry stored.0 stored.1

-- the floor in front of entries is the one that is found
pub floor_stays : (floor : Option Place) (bytes : List ℕ) (all : List Entry) (tail : List ℕ) → IsFloor floor
    → IsBytes (front_of floor ++ bytes) → IsStored bytes all tail → floor_of (front_of floor ++ bytes) ≡ floor
floor_stays (Some place) bytes all tail valid are_bytes stored = ap (option_map (λ x. x.0)) (floor_again place bytes valid)
floor_stays None bytes all tail valid are_bytes stored = by (floor_at bytes) refl
  where
    by : (o : Option (Place × List ℕ)) → floor_at bytes ≡ o → option_map (λ x. x.0) o ≡ None
    by None e = refl
    by (Some x) e = absurd (none_stored x.0 bytes x.1 all tail (framed x.0 bytes x.1 are_bytes e) stored)

-- no bytes hold no entries
pub empty_stored : IsStored [] [] []
empty_stored = (refl, inl (omega arith))

-- and they have no floor
pub no_floor : (bytes : List ℕ) → bytes ≡ [] → floor_of bytes ≡ None
no_floor bytes empty = ap floor_of empty ∙ floor_stays None [] [] [] tt (λ i. omega arith) empty_stored
