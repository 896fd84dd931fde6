use Rattle.std.proofs.Common.{◌∙◌, sym, ap, subst}
use Rattle.protocol.specs.Leaders as rules
use Rattle.leader.specs.contracts.leader.Leader.{the_view}
use Rattle.leader.specs.Courses.{after_1b, proposals_after_1b, proposals_of, after_reports, counts_report}
use Rattle.leader.specs.Orders.{proposal_messages, AreOf}
use Rattle.leader.specs.Leaders.{course_of}
use Rattle.leader.proofs.Leading.{sending, follows, reports_agree}
use Rattle.leader.proofs.leader.Leader.on_1b.Goals as goal
use Rattle.leader.proofs.Proposing.{proposals_named}
use Rattle.std.specs.Prelude.{List, [], if◌then◌else◌, true, false}
use Rattle.leader.specs.declared.proposals.Proposal.{Proposal}

pub propose-requires-clause-named : goal.propose-requires-clause-named
propose-requires-clause-named c =
    let d : _ = course_of (the_view c.self.inside) c.args.tx.now in
    let P : List Proposal → Type 0 = AreOf c.args.tx.now in
    subst P (sym c.hear_1b-proposals.ensures.result)
    (elim (counts_report c.args.ballot d)
    as (λ t. P (if t then proposals_of c.self.inside.acceptors
    (after_reports c.args.acceptor c.args.reports.now d).instances c.args.reports.now
    else [])) [
      | true ↦ proposals_named c.args.tx.now c.self.inside.acceptors
          (after_reports c.args.acceptor c.args.reports.now d).instances c.args.reports.now
          c.requires.message.0.named
      | false ↦ tt
    ])

pub returns : goal.returns
returns c = λ config number.
    follows config number (the_view c.self.inside) c.args.self.now c.hear_1b-proposals.new.self c.args.tx.now
    (after_1b c.self.inside.acceptors c.args.ballot c.args.acceptor c.args.reports.now (course_of (the_view c.self.inside) c.args.tx.now))
    (sending (proposal_messages c.args.tx.now c.args.ballot
    (proposals_after_1b c.self.inside.acceptors c.args.ballot c.args.acceptor c.args.reports.now
    (course_of (the_view c.self.inside) c.args.tx.now))))
    c.propose.new.self (λ stored memory. rules.on_1b config stored memory c.args.tx.now c.args.ballot c.args.acceptor c.args.reports.now)
    c.self.view_is
    (c.propose.ensures ∙ ap (λ proposals. sending (proposal_messages c.args.tx.now c.args.ballot proposals))
    c.hear_1b-proposals.ensures.result)
    c.hear_1b-proposals.ensures.now
    (reports_agree config number (the_view c.self.inside) c.args.tx.now c.args.ballot c.args.acceptor c.args.reports.now
    c.requires.message.2 c.requires.message.0.named)
