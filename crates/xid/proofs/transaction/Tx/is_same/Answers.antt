use Rattle.std.proofs.Common.{◌∙◌, sym}
use Rattle.xid.proofs.Deciding.{tx_decides}
use Rattle.xid.proofs.transaction.Tx.is_same.Goals as goal

pub returns : goal.returns
returns c =
    let same = tx_decides c.args.self.now c.args.other.now in
    (λ t. same.0 (sym c.eq.ensures ∙ t), λ e. c.eq.ensures ∙ same.1 e)
