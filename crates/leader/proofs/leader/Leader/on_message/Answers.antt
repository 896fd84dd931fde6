use Rattle.std.proofs.Common.{◌≡◌, ◌∙◌, ◌<◌, sym, ap, subst, arith}
use Rattle.std.specs.Prelude.{List}
use Rattle.wire.specs.declared.message.Kind.{Kind}
use Rattle.wire.specs.declared.message.Kind.TheVariants.{P1b, P2b, Ask, B1b, B2b}
use Rattle.wire.specs.declared.items.InstanceReport.{InstanceReport}
use Rattle.wire.specs.declared.items.InstanceAccept.{InstanceAccept}
use Rattle.wire.specs.Messages.{IsMessage}
use Rattle.wire.specs.SpelledItems.{reports_spelled, accepts_spelled}
use Rattle.wire.proofs.Instances.{instance_below}
use Rattle.xid.specs.Limits.{most_managers}
use Rattle.protocol.specs.Leaders as rules
use Rattle.leader.specs.Leaders.{Follows, FollowsOrRefuses, decided}
use Rattle.leader.proofs.Bundled.{one_report, some_accepts, some_reports}
use Rattle.leader.proofs.leader.Leader.on_message.Goals as goal

pub on_ask-requires : goal.on_ask-requires
on_ask-requires c =
    let whole : Ask c.tx-tx.result.now c.in-Ask.rm ≡ c.args.message.now =
    ap (λ tx. Ask tx c.in-Ask.rm) c.tx-tx.ensures.value ∙ c.in-Ask.ensures.value in
    let asked : IsMessage (Ask c.tx-tx.result.now c.in-Ask.rm) = subst IsMessage (sym whole) c.tx-tx.ensures.valid in
    let below : c.in-Ask.rm < most_managers = instance_below asked in
    omega arith

pub on_1b-requires-clause-message : goal.on_1b-requires-clause-message
on_1b-requires-clause-message c =
    let whole : P1b c.tx-tx.result.now c.in-P1b.instance c.in-P1b.ballot c.in-P1b.report c.in-P1b.acceptor ≡ c.args.message.now =
    ap (λ tx. P1b tx c.in-P1b.instance c.in-P1b.ballot c.in-P1b.report c.in-P1b.acceptor) c.tx-tx.ensures.value ∙ c.in-P1b.ensures.value in
    let is : IsMessage (P1b c.tx-tx.result.now c.in-P1b.instance c.in-P1b.ballot c.in-P1b.report c.in-P1b.acceptor) =
    subst IsMessage (sym whole) c.tx-tx.ensures.valid in
    one_report c.tx-tx.result.now c.in-P1b.instance c.in-P1b.ballot c.in-P1b.report c.in-P1b.acceptor is

pub reports_of-reports-requires : goal.reports_of-reports-requires
reports_of-reports-requires c =
    let whole : B1b c.tx-tx.result.now c.in-B1b.ballot c.in-B1b.acceptor (reports_spelled c.in-B1b.reports.now) ≡ c.args.message.now =
    ap (λ tx. B1b tx c.in-B1b.ballot c.in-B1b.acceptor (reports_spelled c.in-B1b.reports.now)) c.tx-tx.ensures.value
    ∙ c.in-B1b.ensures.value in
    let is : IsMessage (B1b c.tx-tx.result.now c.in-B1b.ballot c.in-B1b.acceptor (reports_spelled c.in-B1b.reports.now)) =
    subst IsMessage (sym whole) c.tx-tx.ensures.valid in
    some_reports c.tx-tx.result.now c.in-B1b.ballot c.in-B1b.acceptor (reports_spelled c.in-B1b.reports.now) is

pub on_1b-requires-in-B1b-clause-message : goal.on_1b-requires-in-B1b-clause-message
on_1b-requires-in-B1b-clause-message c =
    let whole : B1b c.tx-tx.result.now c.in-B1b.ballot c.in-B1b.acceptor (reports_spelled c.in-B1b.reports.now) ≡ c.args.message.now =
    ap (λ tx. B1b tx c.in-B1b.ballot c.in-B1b.acceptor (reports_spelled c.in-B1b.reports.now)) c.tx-tx.ensures.value
    ∙ c.in-B1b.ensures.value in
    let is : IsMessage (B1b c.tx-tx.result.now c.in-B1b.ballot c.in-B1b.acceptor (reports_spelled c.in-B1b.reports.now)) =
    subst IsMessage (sym whole) c.tx-tx.ensures.valid in
    subst (λ items. IsMessage (B1b c.tx-tx.result.now c.in-B1b.ballot c.in-B1b.acceptor items))
    (sym (c.as_slice.ensures.items ∙ c.reports_of-reports.ensures)) is

pub on_2b-requires : goal.on_2b-requires
on_2b-requires c =
    let whole : P2b c.tx-tx.result.now c.in-P2b.instance c.in-P2b.ballot c.in-P2b.vote c.in-P2b.acceptor ≡ c.args.message.now =
    ap (λ tx. P2b tx c.in-P2b.instance c.in-P2b.ballot c.in-P2b.vote c.in-P2b.acceptor) c.tx-tx.ensures.value ∙ c.in-P2b.ensures.value in
    let is : IsMessage (P2b c.tx-tx.result.now c.in-P2b.instance c.in-P2b.ballot c.in-P2b.vote c.in-P2b.acceptor) =
    subst IsMessage (sym whole) c.tx-tx.ensures.valid in
    is.2

pub accepts_of-accepts-requires : goal.accepts_of-accepts-requires
accepts_of-accepts-requires c =
    let whole : B2b c.tx-tx.result.now c.in-B2b.acceptor (accepts_spelled c.in-B2b.accepts.now) ≡ c.args.message.now =
    ap (λ tx. B2b tx c.in-B2b.acceptor (accepts_spelled c.in-B2b.accepts.now)) c.tx-tx.ensures.value ∙ c.in-B2b.ensures.value in
    let is : IsMessage (B2b c.tx-tx.result.now c.in-B2b.acceptor (accepts_spelled c.in-B2b.accepts.now)) =
    subst IsMessage (sym whole) c.tx-tx.ensures.valid in
    some_accepts c.tx-tx.result.now c.in-B2b.acceptor (accepts_spelled c.in-B2b.accepts.now) is

pub on_2b-requires-in-B2b : goal.on_2b-requires-in-B2b
on_2b-requires-in-B2b c =
    let whole : B2b c.tx-tx.result.now c.in-B2b.acceptor (accepts_spelled c.in-B2b.accepts.now) ≡ c.args.message.now =
    ap (λ tx. B2b tx c.in-B2b.acceptor (accepts_spelled c.in-B2b.accepts.now)) c.tx-tx.ensures.value ∙ c.in-B2b.ensures.value in
    let is : IsMessage (B2b c.tx-tx.result.now c.in-B2b.acceptor (accepts_spelled c.in-B2b.accepts.now)) =
    subst IsMessage (sym whole) c.tx-tx.ensures.valid in
    is.1

pub returns-in-P1b : goal.returns-in-P1b
returns-in-P1b c = λ config number.
    let P : Kind → Type 0 = λ k. Follows config number c.args.self.now c.on_1b.new.self c.on_1b.new.decision
    (λ stored memory. rules.on_leader_message config stored memory k) in
    let whole : P1b c.tx-tx.result.now c.in-P1b.instance c.in-P1b.ballot c.in-P1b.report c.in-P1b.acceptor ≡ c.args.message.now =
    ap (λ tx. P1b tx c.in-P1b.instance c.in-P1b.ballot c.in-P1b.report c.in-P1b.acceptor) c.tx-tx.ensures.value
    ∙ c.in-P1b.ensures.value in
    subst P whole (c.on_1b.ensures config number)

pub returns-in-B1b : goal.returns-in-B1b
returns-in-B1b c = λ config number.
    let P : Kind → Type 0 = λ k. Follows config number c.args.self.now c.on_1b-in-B1b.new.self c.on_1b-in-B1b.new.decision
    (λ stored memory. rules.on_leader_message config stored memory k) in
    let I : List InstanceReport → Type 0 = λ items. Follows config number c.args.self.now c.on_1b-in-B1b.new.self
    c.on_1b-in-B1b.new.decision
    (λ stored memory. rules.on_1b config stored memory c.tx-tx.result.now c.in-B1b.ballot c.in-B1b.acceptor items) in
    let whole : B1b c.tx-tx.result.now c.in-B1b.ballot c.in-B1b.acceptor (reports_spelled c.in-B1b.reports.now) ≡ c.args.message.now =
    ap (λ tx. B1b tx c.in-B1b.ballot c.in-B1b.acceptor (reports_spelled c.in-B1b.reports.now)) c.tx-tx.ensures.value
    ∙ c.in-B1b.ensures.value in
    subst P whole (subst I (c.as_slice.ensures.items ∙ c.reports_of-reports.ensures) (c.on_1b-in-B1b.ensures config number))

pub returns-in-P2b : goal.returns-in-P2b
returns-in-P2b c = λ config number.
    let P : Kind → Type 0 = λ k. FollowsOrRefuses config number c.args.self.now c.on_2b.new.self
    (decided c.on_2b.new.decision c.on_2b.result)
    (λ stored memory. rules.on_leader_message config stored memory k) in
    let whole : P2b c.tx-tx.result.now c.in-P2b.instance c.in-P2b.ballot c.in-P2b.vote c.in-P2b.acceptor ≡ c.args.message.now =
    ap (λ tx. P2b tx c.in-P2b.instance c.in-P2b.ballot c.in-P2b.vote c.in-P2b.acceptor) c.tx-tx.ensures.value
    ∙ c.in-P2b.ensures.value in
    subst P whole (c.on_2b.ensures config number)

pub returns-in-B2b : goal.returns-in-B2b
returns-in-B2b c = λ config number.
    let P : Kind → Type 0 = λ k. FollowsOrRefuses config number c.args.self.now c.on_2b-in-B2b.new.self
    (decided c.on_2b-in-B2b.new.decision c.on_2b-in-B2b.result)
    (λ stored memory. rules.on_leader_message config stored memory k) in
    let I : List InstanceAccept → Type 0 = λ items. FollowsOrRefuses config number c.args.self.now c.on_2b-in-B2b.new.self
    (decided c.on_2b-in-B2b.new.decision c.on_2b-in-B2b.result)
    (λ stored memory. rules.on_2b config stored memory c.tx-tx.result.now c.in-B2b.acceptor items) in
    let whole : B2b c.tx-tx.result.now c.in-B2b.acceptor (accepts_spelled c.in-B2b.accepts.now) ≡ c.args.message.now =
    ap (λ tx. B2b tx c.in-B2b.acceptor (accepts_spelled c.in-B2b.accepts.now)) c.tx-tx.ensures.value ∙ c.in-B2b.ensures.value in
    subst P whole
    (subst I (c.as_slice-in-B2b.ensures.items ∙ c.accepts_of-accepts.ensures) (c.on_2b-in-B2b.ensures config number))

pub returns-in-Ask : goal.returns-in-Ask
returns-in-Ask c = λ config number.
    let P : Kind → Type 0 = λ k. FollowsOrRefuses config number c.args.self.now c.on_ask.new.self
    (decided c.on_ask.new.decision c.on_ask.result)
    (λ stored memory. rules.on_leader_message config stored memory k) in
    let whole : Ask c.tx-tx.result.now c.in-Ask.rm ≡ c.args.message.now =
    ap (λ tx. Ask tx c.in-Ask.rm) c.tx-tx.ensures.value ∙ c.in-Ask.ensures.value in
    subst P whole (c.on_ask.ensures config number)
