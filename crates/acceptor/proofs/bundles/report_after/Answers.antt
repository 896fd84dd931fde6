use Rattle.std.proofs.Common.{◌∙◌, Some, cond, sym, ap}
use Rattle.std.proofs.lemmas.Bool.{ne_eqb}
use Rattle.xid.specs.Transactions.{nth_branch}
use Rattle.acceptor.specs.Slots.{slot_at, slot_of}
use Rattle.acceptor.proofs.Instances.{place_of_nth}
use Rattle.acceptor.proofs.bundles.report_after.Goals as goal

pub returns-clause-value : goal.returns-clause-value
returns-clause-value c =
    let at = place_of_nth c.args.tx.now c.args.place c.rm.ensures.valid c.requires in
    ap (λ s. s.report) c.slot_at.ensures.value
    ∙ ap (λ n. (slot_at c.args.slots.now n).report) (sym at)
    ∙ ap (λ t. cond t (Some (c.args.accepted.ballot, c.args.accepted.vote)) (slot_of c.args.tx.now c.args.slots.now
    (nth_branch c.args.tx.now c.args.place).rm).report)
    (sym (ne_eqb (nth_branch c.args.tx.now c.args.place).rm c.args.accepted.instance (λ e. c.if-rm-accepted.false
    (c.rm.ensures.branch ∙ e))))
