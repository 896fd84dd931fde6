-- What is taken was spelled: facts, the other entries, and the body of a frame.
-- Needed by `view_about`; Framed.
use Rattle.std.proofs.Common.{◌≡◌, ℕ, ◌^◌, ◌<◌, ◌==◌, Bool, true, false, cond, List, [], ◌∷◌, ◌++◌}
use Rattle.std.proofs.Common.{Option, Some, None, refl, sym, subst, ap, ◌∙◌, append_assoc, arith, eqb-true}
use Rattle.std.proofs.lemmas.List.{append-nil}
use Rattle.xid.specs.Names.{IsBytes}
use Rattle.xid.specs.Transactions.{TxParts, IsTx}
use Rattle.wire.specs.Versions.{Version, version_of, IsTxIn}
use Rattle.wire.specs.declared.grammar.VersionNumber.{VersionNumber}
use Rattle.wire.specs.declared.grammar.VersionNumber.TheVariants.{First, Second}
use Rattle.wire.specs.Grammar.{number_spelling, rm_spelling, component_spelling, tx_spelling, vote_byte}
use Rattle.wire.specs.Reading.{byte_at, instance_at, vote_at, end_at}
use Rattle.wire.specs.Decoding.{tx_in}
use Rattle.wire.proofs.Spelled.{Front, front_of, joined, some_same, step, byte_spelled, vote_spelled}
use Rattle.wire.proofs.TakenTx.{in_spelled}
use Rattle.wire.proofs.Notices.{none_left}
use Rattle.stable_record.specs.declared.fact.FactKind.{FactKind as Fact}
use Rattle.stable_record.specs.declared.fact.FactKind.TheVariants.{Promise, Accept, Ballot, VotePrepared, VoteAborted}
use Rattle.stable_record.specs.declared.fact.FactKind.TheVariants.{Committed, Aborted, PromiseAll}
use Rattle.stable_record.specs.declared.entry.EntryKind.{EntryKind as Entry}
use Rattle.stable_record.specs.declared.entry.EntryKind.TheVariants.{Snapshot, Row, PastCommitted, PastAborted}
use Rattle.stable_record.specs.Facts.{IsFact, FitsWidth, fact_tx}
use Rattle.stable_record.specs.Entries.{IsEntryIn, IsInstanceIn}
use Rattle.stable_record.specs.Grammar.{value_spelling, fact_byte, rest_spelling, entry_byte, fields_spelling, body_spelling}
use Rattle.stable_record.specs.Reading.{keys_at, leader_ballot_at, promise_at, accept_at, ballot_at, promise_all_at, vote_prepared_at}
use Rattle.stable_record.specs.Reading.{fact_at, row_at, about_at, entry_at, key_at, value_at, version_at, body_at}
use Rattle.stable_record.proofs.Spelled.{key_spelled, value_spelled, keys_spelled, leader_ballot_spelled, instance_spelled}

-- a fact that was taken after its transaction
pub record Fact_front (v : Version) (code : ℕ) (tx : TxParts) (bytes : List ℕ) (x : Fact × List ℕ) : Type 0 where
  pub front : Front bytes (rest_spelling v x.0) x.1
  pub numbered : code ≡ fact_byte x.0
  pub about : fact_tx x.0 ≡ tx
  pub valid : IsFact x.0
  pub instance : IsInstanceIn v x.0

-- numbers of both versions fit the width of the second
wide : (v : VersionNumber) (n : ℕ) → n < 256 ^ (version_of v).rm_width → FitsWidth n
wide First n lt = omega (arith, lt)
wide Second n lt = lt

-- one of two readings, by a test
choose : {X P : Type 0} {y : X} (t : Bool) (first second : Option X) → cond t first second ≡ Some y → (t ≡ true → first ≡ Some y → P)
    → (second ≡ Some y → P) → P
choose true first second e hit miss = hit refl e
choose false first second e hit miss = miss e

module _ (v : VersionNumber) (tx : TxParts) (valid : IsTx tx) (bytes : List ℕ) (x : Fact × List ℕ) (is : IsBytes bytes) where
  promise_spelled : promise_at (version_of v) tx bytes ≡ Some x → Fact_front (version_of v) 1 tx bytes x
  unfolding promise_at
  promise_spelled e =
      step (instance_at (version_of v) bytes) _ e (λ i ei e.
      let one = instance_spelled v bytes i is ei in
      subst (Fact_front (version_of v) 1 tx bytes) (some_same (Promise tx i.0 i.1, i.2) x e) (record {
        front = one.front;
        numbered = refl;
        about = refl;
        valid = (valid, wide v i.0 one.instance, one.ballot);
        instance = one.instance;
      }))

  accept_spelled : accept_at (version_of v) tx bytes ≡ Some x → Fact_front (version_of v) 2 tx bytes x
  unfolding accept_at
  accept_spelled e =
      step (instance_at (version_of v) bytes) _ e (λ i ei e. step (vote_at i.2) _ e (λ vote ev e.
      let one = instance_spelled v bytes i is ei in
      let two = vote_spelled i.2 vote one.front.after ev in
      let front = joined bytes (rm_spelling (version_of v) i.0 ++ number_spelling i.1) i.2 (vote_byte vote.0 ∷ []) vote.1 one.front two in
      let regrouped = append_assoc (rm_spelling (version_of v) i.0) (number_spelling i.1) (vote_byte vote.0 ∷ []) in
      subst (Fact_front (version_of v) 2 tx bytes) (some_same (Accept tx i.0 i.1 vote.0, vote.1) x e) (record {
        front = subst (λ (xs : List ℕ). Front bytes xs vote.1) regrouped front;
        numbered = refl;
        about = refl;
        valid = (valid, wide v i.0 one.instance, one.ballot);
        instance = one.instance;
      })))

  ballot_spelled : ballot_at tx bytes ≡ Some x → Fact_front (version_of v) 3 tx bytes x
  unfolding ballot_at
  ballot_spelled e =
      step (leader_ballot_at bytes) _ e (λ ballot eb e.
      let one = leader_ballot_spelled bytes ballot is eb in
      subst (Fact_front (version_of v) 3 tx bytes) (some_same (Ballot tx ballot.0, ballot.1) x e)
      (record { front = one.1; numbered = refl; about = refl; valid = (valid, one.0); instance = tt }))

  promise_all_spelled : promise_all_at tx bytes ≡ Some x → Fact_front (version_of v) 8 tx bytes x
  unfolding promise_all_at
  promise_all_spelled e =
      step (leader_ballot_at bytes) _ e (λ ballot eb e.
      let one = leader_ballot_spelled bytes ballot is eb in
      subst (Fact_front (version_of v) 8 tx bytes) (some_same (PromiseAll tx ballot.0, ballot.1) x e)
      (record { front = one.1; numbered = refl; about = refl; valid = (valid, one.0); instance = tt }))

  vote_prepared_spelled : vote_prepared_at tx bytes ≡ Some x → Fact_front (version_of v) 4 tx bytes x
  unfolding vote_prepared_at
  vote_prepared_spelled e =
      step (keys_at bytes) _ e (λ keys ek e.
      let one = keys_spelled bytes keys is ek in
      subst (Fact_front (version_of v) 4 tx bytes) (some_same (VotePrepared tx keys.0, keys.1) x e)
      (record { front = one.1; numbered = refl; about = refl; valid = (valid, one.0); instance = tt }))

  bare_spelled : (f : Fact) → rest_spelling (version_of v) f ≡ [] → fact_tx f ≡ tx → IsFact f → IsInstanceIn (version_of v) f
      → Some (f, bytes) ≡ Some x → Fact_front (version_of v) (fact_byte f) tx bytes x
  bare_spelled f none about is-fact in-it e =
      subst (Fact_front (version_of v) (fact_byte f) tx bytes) (some_same (f, bytes) x e) (record {
        front = front_of bytes (rest_spelling (version_of v) f) bytes is (ap (λ (xs : List ℕ). xs ++ bytes) (sym none));
        numbered = refl;
        about = about;
        valid = is-fact;
        instance = in-it;
      })

  -- the kind's number as it was read
  as_read : (code n : ℕ) → code ≡ n → Fact_front (version_of v) n tx bytes x → Fact_front (version_of v) code tx bytes x
  as_read code n e front = subst (λ (k : ℕ). Fact_front (version_of v) k tx bytes x) (sym e) front

  -- a fact that is taken was spelled there, by the number of its kind
  pub rest_cases : (code : ℕ) → fact_at (version_of v) code tx bytes ≡ Some x → Fact_front (version_of v) code tx bytes x
  unfolding fact_at
  rest_cases code e =
      choose (code == 1) _ _ e (λ t e. as_read code 1 (eqb-true code 1 t) (promise_spelled e)) (λ e.
      choose (code == 2) _ _ e (λ t e. as_read code 2 (eqb-true code 2 t) (accept_spelled e)) (λ e.
      choose (code == 3) _ _ e (λ t e. as_read code 3 (eqb-true code 3 t) (ballot_spelled e)) (λ e.
      choose (code == 4) _ _ e (λ t e. as_read code 4 (eqb-true code 4 t) (vote_prepared_spelled e)) (λ e.
      choose (code == 5) _ _ e (λ t e. as_read code 5 (eqb-true code 5 t) (bare_spelled (VoteAborted tx) refl refl valid tt e)) (λ e.
      choose (code == 6) _ _ e (λ t e. as_read code 6 (eqb-true code 6 t) (bare_spelled (Committed tx) refl refl valid tt e)) (λ e.
      choose (code == 7) _ _ e (λ t e. as_read code 7 (eqb-true code 7 t) (bare_spelled (Aborted tx) refl refl valid tt e)) (λ e.
      choose (code == 8) _ _ e (λ t e. as_read code 8 (eqb-true code 8 t) (promise_all_spelled e)) (λ e. absurd (cc)))))))))

-- an entry that was taken after version and kind
record Entry_front (v : Version) (code : ℕ) (bytes : List ℕ) (x : Entry × List ℕ) : Type 0 where
  pub front : Front bytes (fields_spelling v x.0) x.1
  pub numbered : code ≡ entry_byte x.0
  pub valid : IsEntryIn v x.0

row_spelled : (v : Version) (bytes : List ℕ) (x : Entry × List ℕ) → IsBytes bytes → row_at bytes ≡ Some x → Entry_front v 10 bytes x
unfolding row_at
row_spelled v bytes x is e =
    step (key_at bytes) _ e (λ key ek e. step (value_at key.1) _ e (λ value ev e.
    let one = key_spelled bytes key is ek in
    let two = value_spelled key.1 value one.1.after ev in
    subst (Entry_front v 10 bytes) (some_same (Row key.0 value.0, value.1) x e) (record {
      front = joined bytes (component_spelling key.0) key.1 (value_spelling value.0) value.1 one.1 two.1;
      numbered = refl;
      valid = record { valid = (one.0, two.0); named = tt };
    })))

-- an entry of a transaction, whose number stands for it
about_spelled : (v : VersionNumber) (code : ℕ) (bytes : List ℕ) (tx : TxParts × List ℕ) (x : Entry × List ℕ)
    → IsTxIn (version_of v) tx.0 → Front bytes (tx_spelling (version_of v) tx.0) tx.1 → about_at (version_of v) code tx.0 tx.1 ≡ Some x
    → Entry_front (version_of v) code bytes x
unfolding about_at
about_spelled v code bytes tx x in-it front e =
    choose (code == 11) _ _ e (λ t e. past 11 (PastCommitted tx.0) (eqb-true code 11 t) front refl
    (record { valid = in-it.valid; named = in-it }) e) (λ e.
    choose (code == 12) _ _ e (λ t e. past 12 (PastAborted tx.0) (eqb-true code 12 t) front refl
    (record { valid = in-it.valid; named = in-it }) e) (λ e.
    step (fact_at (version_of v) code tx.0 tx.1) _ e (λ fact ef e.
    let read = rest_cases v tx.0 in-it.valid tx.1 fact front.after code ef in
    let V = version_of v in
    let named : Front bytes (tx_spelling V (fact_tx fact.0)) tx.1 =
    subst (λ (t : TxParts). Front bytes (tx_spelling V t) tx.1) (sym read.about) front in
    subst (Entry_front V code bytes) (some_same (Entry.Fact fact.0, fact.1) x e) (record {
      front = joined bytes (tx_spelling V (fact_tx fact.0)) tx.1 (rest_spelling V fact.0) fact.1 named read.front;
      numbered = read.numbered;
      valid = record { valid = read.valid; named = (subst (IsTxIn V) (sym read.about) in-it, read.instance) };
    }))))
  where
    past : (n : ℕ) (entry : Entry) → code ≡ n → Front bytes (fields_spelling (version_of v) entry) tx.1 → n ≡ entry_byte entry
        → IsEntryIn (version_of v) entry → Some (entry, tx.1) ≡ Some x → Entry_front (version_of v) code bytes x
    past n entry same front numbered valid e =
        subst (Entry_front (version_of v) code bytes) (some_same (entry, tx.1) x e)
        (record { front = front; numbered = same ∙ numbered; valid = valid })

entry_spelled : (v : VersionNumber) (code : ℕ) (bytes : List ℕ) (x : Entry × List ℕ) → IsBytes bytes
    → entry_at (version_of v) code bytes ≡ Some x
    → Entry_front (version_of v) code bytes x
unfolding entry_at
entry_spelled v code bytes x is e =
    choose (code == 9) _ _ e (λ t e.
    subst (Entry_front (version_of v) code bytes) (some_same (Snapshot, bytes) x e) (record {
      front = front_of bytes [] bytes is refl;
      numbered = eqb-true code 9 t;
      valid = record { valid = tt; named = tt };
    })) (λ e.
    choose (code == 10) _ _ e (λ t e.
    subst (λ (k : ℕ). Entry_front (version_of v) k bytes x) (sym (eqb-true code 10 t)) (row_spelled (version_of v) bytes x is e)) (λ e.
    step (tx_in (version_of v) bytes) _ e (λ tx et e.
    let one = in_spelled v bytes tx is et in
    about_spelled v code bytes tx x one.0 one.1 e)))

-- the version of a number that was read
number_is : (n : ℕ) (v : VersionNumber) → version_at n ≡ Some v → n ≡ (version_of v).byte
number_is n v e =
    choose (n == 1) (Some First) (cond (n == 2) (Some Second) None) e
    (λ t e. eqb-true n 1 t ∙ ap (λ (v : VersionNumber). (version_of v).byte) (some_same First v e)) (λ e.
    choose (n == 2) (Some Second) None e
    (λ t e. eqb-true n 2 t ∙ ap (λ (v : VersionNumber). (version_of v).byte) (some_same Second v e)) (λ e. absurd (cc)))

-- a body was spelled in a version
pub record Body (bytes : List ℕ) (e : Entry) : Type 0 where
  pub version : VersionNumber
  pub valid : IsEntryIn (version_of version) e
  pub spelled : bytes ≡ body_spelling (version_of version) e

-- an entry that is taken from a body was
pub body_spelled : (bytes : List ℕ) (e : Entry) → IsBytes bytes → body_at bytes ≡ Some e → Body bytes e
unfolding body_at
body_spelled bytes entry is e =
    step (byte_at bytes) _ e (λ number en e. step (version_at number.0) _ e (λ v ev e. step (byte_at number.1) _ e (λ code ec e.
    step (entry_at (version_of v) code.0 code.1) _ e (λ read er e. step (end_at read.1) _ e (λ u eu e.
    let one = byte_spelled bytes number is en in
    let two = byte_spelled number.1 code one.after ec in
    let three = entry_spelled v code.0 code.1 read two.after er in
    let fields : code.1 ≡ fields_spelling (version_of v) read.0 =
    three.front.same ∙ ap (λ (xs : List ℕ). fields_spelling (version_of v) read.0 ++ xs) (none_left read.1 u eu)
    ∙ append-nil (fields_spelling (version_of v) read.0) in
    let heads : bytes ≡ number.0 ∷ code.0 ∷ code.1 = one.same ∙ ap (λ (xs : List ℕ). number.0 ∷ xs) two.same in
    subst (Body bytes) (some_same read.0 entry e) (record {
      version = v;
      valid = three.valid;
      spelled = heads ∙ λ i. number_is number.0 v ev i ∷ three.numbered i ∷ fields i;
    }))))))
