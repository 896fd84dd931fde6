use Rattle.std.proofs.Common.{◌≡◌, ℕ, List, [], ◌∷◌, Option, Some, refl, sym, ap, ◌∙◌}
use Rattle.std.proofs.Math.Facts.{Fits-lt-pow}
use Rattle.xid.specs.Transactions.{TxParts}
use Rattle.wire.specs.declared.message.Kind.{Kind}
use Rattle.wire.specs.Reading.{kind_at, end_at}
use Rattle.wire.specs.Decoding.{decoded}
use Rattle.wire.specs.Said.{said}
use Rattle.wire.proofs.SpelledKinds.{kind_spelled}
use Rattle.wire.proofs.Decoded.{accepted, refused}
use Rattle.wire.proofs.view_reading.plain_of.Goals as goal

-- a kind and the bytes after it
abbrev taken : Kind → List ℕ → Option (Kind × List ℕ)
taken k after = Some (k, after)

none_left : (bytes : List ℕ) → Some tt ≡ end_at bytes → bytes ≡ []
none_left [] e = refl
none_left (x ∷ xs) e = absurd (cc (e))

-- what was taken, where nothing follows it
to_end : (code : ℕ) (tx : TxParts) (bytes after : List ℕ) (k : Kind) → taken k after ≡ kind_at code tx bytes → Some tt ≡ end_at after
    → kind_at code tx bytes ≡ taken k []
to_end code tx bytes after k e end = sym e ∙ ap (taken k) (none_left after end)

pub is_said-requires-clause-no_reports : goal.is_said-requires-clause-no_reports
is_said-requires-clause-no_reports c =
    let tx = c.args.tx.now in
    let read = to_end c.args.code tx c.args.bytes.now _ (said tx c.in_ok-rest.rest) (c.in_ok-rest.ensures tx) c.in_ok-take_end.ensures in
    let rest = kind_spelled c.args.code tx c.args.bytes.now _ (λ i. Fits-lt-pow (c.type_inv.bytes i)) read in
    λ e. c.requires.no_reports (rest.numbered ∙ e)

pub is_said-requires-clause-no_accepts : goal.is_said-requires-clause-no_accepts
is_said-requires-clause-no_accepts c =
    let tx = c.args.tx.now in
    let read = to_end c.args.code tx c.args.bytes.now _ (said tx c.in_ok-rest.rest) (c.in_ok-rest.ensures tx) c.in_ok-take_end.ensures in
    let rest = kind_spelled c.args.code tx c.args.bytes.now _ (λ i. Fits-lt-pow (c.type_inv.bytes i)) read in
    λ e. c.requires.no_accepts (rest.numbered ∙ e)

pub returns-then-not-is_said : goal.returns-then-not-is_said
returns-then-not-is_said c =
    let tx = c.args.tx.now in
    let read = to_end c.args.code tx c.args.bytes.now _ (said tx c.in_ok-rest.rest) (c.in_ok-rest.ensures tx) c.in_ok-take_end.ensures in
    refused c.is_said.result _ c.is_said.ensures c.if-not-is_said.true ∙ sym (ap decoded read)

pub returns : goal.returns
returns c =
    let tx = c.args.tx.now in
    let read = to_end c.args.code tx c.args.bytes.now _ (said tx c.in_ok-rest.rest) (c.in_ok-rest.ensures tx) c.in_ok-take_end.ensures in
    accepted c.is_said.result _ c.is_said.ensures c.if-not-is_said.false ∙ sym (ap decoded read)
