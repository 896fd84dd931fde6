-- A notice is taken again, what is taken was spelled, and no message is one.
-- Needed by `notice_at_is_exact` and `notices_are_no_messages`; TakenTx; crate stable_record.
use Rattle.std.proofs.Common.{◌≡◌, ◌∙◌, ℕ, suc, ◌==◌, Bool, true, false, cond, eqb-true, List, [], ◌∷◌, ◌++◌, Option, Some, None}
use Rattle.std.proofs.Common.{refl, sym, ap, subst}
use Rattle.std.proofs.lemmas.List.{append-nil}
use Rattle.xid.specs.Names.{IsBytes}
use Rattle.xid.specs.Transactions.{TxParts}
use Rattle.wire.specs.declared.notice.Notice.{Notice}
use Rattle.wire.specs.declared.grammar.VersionNumber.TheVariants.{Second}
use Rattle.wire.specs.Versions.{version_2}
use Rattle.wire.specs.Grammar.{rm_spelling}
use Rattle.wire.specs.Reading.{rm_at, end_at, tx_at, kind_at}
use Rattle.wire.specs.Decoding.{message_at}
use Rattle.wire.specs.Names.{place_spelling, name_at}
use Rattle.wire.specs.Notices.{IsNotice, SpellsNotice, fields_at, notice_at, notice_byte, notice_spelling}
use Rattle.wire.proofs.Fields.{big_again}
use Rattle.wire.proofs.Places.{big_below, name_again, name_spelled}
use Rattle.wire.proofs.Spelled.{joined, some_same, step, rm_spelled}

-- ---- what is spelled is taken again

fields_again : (notice : Notice) → IsNotice notice
    → fields_at (rm_spelling version_2 notice.manager ++ place_spelling notice.floor) ≡ Some notice
unfolding fields_at
fields_again notice is =
    let first = big_again 2 notice.manager (place_spelling notice.floor) is.manager in
    let second : name_at (place_spelling notice.floor) ≡ Some (notice.floor, []) =
    ap name_at (sym (append-nil (place_spelling notice.floor))) ∙ name_again notice.floor [] is.floor in
    rw (first, second) refl

notice_again : (notice : Notice) → IsNotice notice → notice_at (notice_spelling notice) ≡ Some notice
unfolding notice_at
notice_again notice is = fields_again notice is

-- a notice that was spelled is found
pub found : (notice : Notice) (bytes : List ℕ) → SpellsNotice notice bytes → notice_at bytes ≡ Some notice
found notice bytes is = ap notice_at is.spelled ∙ notice_again notice is.valid

-- ---- what is taken was spelled

-- a test that has to be true for a reading to go on
pub passes : {X : Type 0} (t : Bool) (read : Option X) (x : X) → cond t read None ≡ Some x → (t ≡ true) × (read ≡ Some x)
passes true read x e = (refl, e)
passes false read x e = absurd (cc)

-- version and kind of a notice, and the fields behind them
record Headed (notice : Notice) (bytes fields : List ℕ) : Type 0 where
  pub head : bytes ≡ version_2.byte ∷ notice_byte ∷ fields
  pub taken : fields_at fields ≡ Some notice

headed : (notice : Notice) (bytes : List ℕ) (P : Type 0) → notice_at bytes ≡ Some notice
    → ((fields : List ℕ) → Headed notice bytes fields → P) → P
unfolding notice_at
headed notice [] P e go = absurd (cc)
headed notice (version ∷ []) P e go = absurd (cc)
headed notice (version ∷ kind ∷ fields) P e go =
    let one = passes (version == version_2.byte) _ notice e in
    let two = passes (kind == notice_byte) _ notice one.1 in
    go fields (record {
      head = λ i. eqb-true version version_2.byte one.0 i ∷ eqb-true kind notice_byte two.0 i ∷ fields;
      taken = two.1;
    })

-- where bytes end there are none
pub none_left : (bytes : List ℕ) (end : Unit {0}) → end_at bytes ≡ Some end → bytes ≡ []
none_left [] end e = refl
none_left (x ∷ bytes) end e = absurd (cc)

fields_spelled : (notice : Notice) (fields : List ℕ) → IsBytes fields → fields_at fields ≡ Some notice
    → IsNotice notice × (fields ≡ rm_spelling version_2 notice.manager ++ place_spelling notice.floor)
unfolding fields_at
fields_spelled notice fields is e =
    step (rm_at version_2 fields) _ e (λ manager em e. step (name_at manager.1) _ e (λ floor ef e. step (end_at floor.1) _ e (λ end ee e.
    let one = rm_spelled Second fields manager is em in
    let two = name_spelled manager.1 floor one.after ef in
    let all = joined fields (rm_spelling version_2 manager.0) manager.1 (place_spelling floor.0) floor.1 one two.front in
    let spelling : List ℕ = rm_spelling version_2 manager.0 ++ place_spelling floor.0 in
    let read : Notice = record { manager = manager.0; floor = floor.0 } in
    let same : fields ≡ spelling =
    all.same ∙ ap (λ (xs : List ℕ). spelling ++ xs) (none_left floor.1 end ee) ∙ append-nil spelling in
    subst
    (λ (notice : Notice). IsNotice notice × (fields ≡ rm_spelling version_2 notice.manager ++ place_spelling notice.floor))
    (some_same read notice e)
    (record { manager = big_below 2 fields manager is em; floor = two.valid }, same))))

-- one that is found was spelled
pub spelled : (notice : Notice) (bytes : List ℕ) → IsBytes bytes → notice_at bytes ≡ Some notice → SpellsNotice notice bytes
spelled notice bytes is e =
    headed notice bytes _ e (λ fields h.
    let whole : IsBytes (version_2.byte ∷ notice_byte ∷ fields) = subst IsBytes h.head is in
    let read = fields_spelled notice fields (λ i. whole (suc (suc i))) h.taken in
    record { valid = read.0; spelled = h.head ∙ λ i. version_2.byte ∷ notice_byte ∷ read.1 i })

-- ---- no message

no_kind : (fields : List ℕ) → message_at (version_2.byte ∷ notice_byte ∷ fields) ≡ None
unfolding kind_at
no_kind fields = by (tx_at version_2 fields) refl
  where
    by : (o : Option (TxParts × List ℕ)) → tx_at version_2 fields ≡ o → message_at (version_2.byte ∷ notice_byte ∷ fields) ≡ None
    by None e = rw e refl
    by (Some x) e = rw e refl

-- bytes of a notice are no message's
pub no_message : (notice : Notice) (bytes : List ℕ) → notice_at bytes ≡ Some notice → message_at bytes ≡ None
no_message notice bytes e = headed notice bytes _ e (λ fields h. ap message_at h.head ∙ no_kind fields)
