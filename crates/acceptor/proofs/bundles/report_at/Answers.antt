use Rattle.std.proofs.Common.{◌∙◌, Some, cond, ltb, sym, ap, arith}
use Rattle.xid.specs.Transactions.{nth_branch}
use Rattle.acceptor.specs.Slots.{slot_at}
use Rattle.acceptor.proofs.Instances.{place_of_nth}
use Rattle.acceptor.proofs.Reports.{no_item, is_item, no_report}
use Rattle.acceptor.proofs.bundles.report_at.Goals as goal

pub returns-then-ballot-slot-clause-value : goal.returns-then-ballot-slot-clause-value
returns-then-ballot-slot-clause-value c =
    let at = place_of_nth c.args.tx.now c.args.place c.rm-instance.ensures.valid c.requires in
    let rm = (nth_branch c.args.tx.now c.args.place).rm in
    no_item c.slot_at-slot.result c.args.ballot rm (omega arith)
    ∙ ap (λ s. cond (ltb s.mbal c.args.ballot) (Some (record { instance = rm; report = s.report })) no_report)
    (c.slot_at-slot.ensures.value ∙ ap (slot_at c.args.slots.now) (sym at))

pub returns-clause-value : goal.returns-clause-value
returns-clause-value c =
    let at = place_of_nth c.args.tx.now c.args.place c.rm-instance.ensures.valid c.requires in
    let rm = (nth_branch c.args.tx.now c.args.place).rm in
    ap (λ n. Some (record { instance = n; report = c.slot_at-slot.result.report })) c.rm-instance.ensures.branch
    ∙ is_item c.slot_at-slot.result c.args.ballot rm (omega arith)
    ∙ ap (λ s. cond (ltb s.mbal c.args.ballot) (Some (record { instance = rm; report = s.report })) no_report)
    (c.slot_at-slot.ensures.value ∙ ap (slot_at c.args.slots.now) (sym at))
