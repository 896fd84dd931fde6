use Rattle.std.proofs.Common.{sym, subst, ap, ◌∙◌}
use Rattle.xid.specs.Transactions.{TxParts, IsTx}
use Rattle.wire.specs.Versions.{version_of}
use Rattle.wire.specs.Decoding.{are_managers}
use Rattle.wire.proofs.TakenTx.{no_parts, no_tx, too_great, found}
use Rattle.wire.proofs.reading.take_tx.Goals as goal

pub returns-in_err-format : goal.returns-in_err-format
returns-in_err-format c =
    rw c.from_residual.ensures (sym (no_parts (version_of c.args.version) c.args.bytes.now (sym c.in_err-format.ensures)))

pub returns-then-not-are_parts : goal.returns-then-not-are_parts
returns-then-not-are_parts c =
    sym (no_tx (version_of c.args.version) c.args.bytes.now _ c.in_ok-format.rest.now (sym c.in_ok-format.ensures)
    (λ is. absurd (cc (c.are_parts.ensures.1 is, c.if-not-are_parts.true))))

pub returns-then-not-are_managers : goal.returns-then-not-are_managers
returns-then-not-are_managers c =
    sym (too_great (version_of c.args.version) c.args.bytes.now _ c.in_ok-format.rest.now (sym c.in_ok-format.ensures)
    (c.are_parts.ensures.0 c.if-not-are_parts.false)
    (ap (λ (t : TxParts). are_managers (version_of c.args.version) t.branches) (sym c.of_parts-tx.ensures) ∙ sym c.are_managers.ensures
    ∙ c.if-not-are_managers.true))

pub returns : goal.returns
returns c =
    sym (found (version_of c.args.version) c.args.bytes.now _ c.in_ok-format.rest.now
    (sym c.in_ok-format.ensures ∙ cc (c.of_parts-tx.ensures))
    (subst IsTx (sym c.of_parts-tx.ensures) (c.are_parts.ensures.0 c.if-not-are_parts.false))
    (cc (c.are_managers.ensures, c.if-not-are_managers.false)))
