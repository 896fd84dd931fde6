use Rattle.std.proofs.Common.{◌≡◌, ℕ, suc, List, [], ◌∷◌, ◌++◌, Option, None, Some, ◌∙◌, refl, sym, subst, ap}
use Rattle.std.specs.Prelude.{Ok, Err}
use Rattle.std.proofs.Math.Facts.{Fits-lt-pow}
use Rattle.xid.specs.Names.{IsBytes}
use Rattle.xid.specs.Transactions.{TxParts, IsTx}
use Rattle.xid.specs.declared.refusals.Refusal.TheVariants.{BadMessage}
use Rattle.wire.specs.Messages.{message_tx, IsMessage}
use Rattle.wire.specs.Versions.{version_2}
use Rattle.wire.specs.Grammar.{Spells, tx_spelling, kind_byte, rest_spelling, spelling}
use Rattle.wire.specs.Reading.{kind_at}
use Rattle.wire.specs.Decoding.{tx_in}
use Rattle.wire.specs.declared.message.Kind.{Kind}
use Rattle.wire.proofs.Fields.{tx_valid, in_version_2, kind_whole}
use Rattle.wire.proofs.OneSpelling.{codes}
use Rattle.wire.proofs.Spelled.{some_same}
use Rattle.wire.specs.declared.grammar.VersionNumber.TheVariants.{Second}
use Rattle.wire.proofs.SpelledKinds.{kind_spelled}
use Rattle.wire.proofs.Decoded.{if_ok, if_err}
use Rattle.wire.proofs.TakenTx.{in_spelled, in_again}
use Rattle.wire.specs.Said.{said}
use Rattle.wire.proofs.view.view_of.Goals as goal

-- the kind's number, and what follows it, in the spelling of a message
heads : (k : Kind) (bytes after : List ℕ) (code : ℕ) → bytes ≡ version_2.byte ∷ code ∷ after → bytes ≡ spelling k
    → (code ≡ kind_byte k) × (after ≡ tx_spelling version_2 (message_tx k) ++ rest_spelling version_2 k)
heads k bytes after code read e =
    codes version_2.byte code version_2.byte (kind_byte k) after (tx_spelling version_2 (message_tx k) ++ rest_spelling version_2 k)
    (sym read ∙ e)

-- a transaction that stands at the front is taken
front_taken : (bytes : List ℕ) (tx : TxParts) (rest : List ℕ) → IsTx tx → bytes ≡ tx_spelling version_2 tx ++ rest
    → tx_in version_2 bytes ≡ Some (tx, rest)
front_taken bytes tx rest is e = ap (tx_in version_2) e ∙ in_again Second tx rest (in_version_2 is)

pub returns-in_default-take-clause-err : goal.returns-in_default-take-clause-err
returns-in_default-take-clause-err c = (
  refl,
  λ k is e.
      let head = heads k c.args.bytes.now c.in-Some.after.now c.in-Some.code c.in-Some.ensures e in
      let t = front_taken c.in-Some.after.now (message_tx k) (rest_spelling version_2 k) (tx_valid k is) head.1 in
      let none : ◌≡◌ {A = Option (TxParts × List ℕ)} None (Some (message_tx k, rest_spelling version_2 k)) = c.in_default-take.ensures ∙
      t in
      absurd (cc (none)),
)

pub returns-in_default-rest_of-clause-err : goal.returns-in_default-rest_of-clause-err
returns-in_default-rest_of-clause-err c =
    if_err (Err BadMessage) (kind_at c.in-Some.code c.in-Some-take.tx c.in-Some-take.last.now)
    (λ (k : Kind). c.args.bytes.now ≡ spelling k) c.in_default-rest_of.ensures (λ k is e.
    let head = heads k c.args.bytes.now c.in-Some.after.now c.in-Some.code c.in-Some.ensures e in
    let t = front_taken c.in-Some.after.now (message_tx k) (rest_spelling version_2 k) (tx_valid k is) head.1 in
    let same = some_same (c.in-Some-take.tx, c.in-Some-take.last.now) (message_tx k, rest_spelling version_2 k)
    (c.in-Some-take.ensures ∙ t) in
    let about : c.in-Some-take.tx ≡ message_tx k = ap (λ (x : TxParts × List ℕ). x.0) same in
    let after : c.in-Some-take.last.now ≡ rest_spelling version_2 k = ap (λ (x : TxParts × List ℕ). x.1) same in
    let taken : kind_at c.in-Some.code c.in-Some-take.tx c.in-Some-take.last.now ≡ Some (k, []) =
    rw (head.0, about, after) (kind_whole k is) in
    taken)

pub invariant_of-result : goal.invariant_of-result
invariant_of-result c =
    if_ok (Ok (said c.in-Some-take.tx c.in-Some-rest_of.rest)) (kind_at c.in-Some.code c.in-Some-take.tx c.in-Some-take.last.now)
    IsMessage c.in-Some-rest_of.ensures (λ k taken is. is)

pub returns-clause-ok : goal.returns-clause-ok
returns-clause-ok c =
    let each : IsBytes c.args.bytes.now = λ i. Fits-lt-pow (c.type_inv.bytes i) in
    let is : IsBytes c.in-Some.after.now = λ i. subst IsBytes c.in-Some.ensures each (suc (suc i)) in
    let front = in_spelled Second c.in-Some.after.now (c.in-Some-take.tx, c.in-Some-take.last.now) is (sym c.in-Some-take.ensures) in
    if_ok (Ok (said c.in-Some-take.tx c.in-Some-rest_of.rest)) (kind_at c.in-Some.code c.in-Some-take.tx c.in-Some-take.last.now)
    (λ (k : Kind). Spells k c.args.bytes.now) c.in-Some-rest_of.ensures (λ kind taken message.
    let last = kind_spelled c.in-Some.code c.in-Some-take.tx c.in-Some-take.last.now kind front.1.after taken in
    let tail : c.in-Some.after.now ≡ tx_spelling version_2 (message_tx kind) ++ rest_spelling version_2 kind =
    front.1.same ∙ λ i. tx_spelling version_2 (sym last.about i) ++ last.spelled i in
    let spells : Spells kind c.args.bytes.now = record {
      message = message;
      spelled = c.in-Some.ensures ∙ λ i. version_2.byte ∷ last.numbered i ∷ tail i;
    } in
    spells)
