use Rattle.std.proofs.Common.{◌∙◌, ap, subst}
use Rattle.std.specs.Prelude.{IfOk}
use Rattle.xid.specs.Transactions.{xid_at}
use Rattle.wire.specs.Messages.{message_tx}
use Rattle.wire.specs.declared.message.Kind.TheVariants as kinds
use Rattle.protocol.specs.Managers.{on_manager_message}
use Rattle.protocol.specs.Decisions.{shown}
use Rattle.resource_manager.specs.Managers.{Decides}
use Rattle.resource_manager.proofs.Deciding.{IsOther, other_rest, other_message, nothing_shown}
use Rattle.resource_manager.proofs.manager.ResourceManager.on_message.Goals as goal

pub returns-in-Prepare-clause-ok : goal.returns-in-Prepare-clause-ok
returns-in-Prepare-clause-ok c =
    subst
    (λ k. IfOk c.on_prepare.result (λ decision. Decides c.args.self.now (shown decision)
    (λ config number stored branches. on_manager_message number stored branches (xid_at (message_tx k) number) k)))
    (ap kinds.Prepare c.tx-tx.ensures.value ∙ c.in-Prepare.ensures.value) c.on_prepare.ensures.ok

pub returns-in-Commit-clause-ok : goal.returns-in-Commit-clause-ok
returns-in-Commit-clause-ok c =
    subst
    (λ k. Decides c.args.self.now (shown c.on_commit.result)
    (λ config number stored branches. on_manager_message number stored branches (xid_at (message_tx k) number) k))
    (ap kinds.Commit c.tx-tx.ensures.value ∙ c.in-Commit.ensures.value) c.on_commit.ensures

pub returns-in-Abort-clause-ok : goal.returns-in-Abort-clause-ok
returns-in-Abort-clause-ok c =
    subst
    (λ k. Decides c.args.self.now (shown c.on_abort.result)
    (λ config number stored branches. on_manager_message number stored branches (xid_at (message_tx k) number) k))
    (ap kinds.Abort c.tx-tx.ensures.value ∙ c.in-Abort.ensures.value) c.on_abort.ensures

pub returns-in_default-clause-ok : goal.returns-in_default-clause-ok
returns-in_default-clause-ok c =
    other_message c.args.self.now (shown c.nothing.result) c.args.message.now
    (subst IsOther c.rest.ensures.value
    (other_rest (message_tx c.args.message.now) _ c.in_default.not-Prepare c.in_default.not-Commit c.in_default.not-Abort))
    (nothing_shown c.nothing.result c.nothing.ensures.fact c.nothing.ensures.reply)
