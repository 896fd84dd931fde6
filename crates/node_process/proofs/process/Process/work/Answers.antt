use Rattle.std.proofs.Common.{◌≡◌, ◌∙◌, [], List, take, ap, sym, subst, inl, inr}
use Rattle.std.proofs.lemmas.Result.{on_err_weaker, on_ok_weaker}
use Rattle.letter_port.specs.LetterPorts.{LetterParts}
use Rattle.serving.specs.declared.group.Item.{Item}
use Rattle.node_process.specs.declared.desk.Desk.{Desk}
use Rattle.serving.proofs.TellLemmas.{on_err_all}
use Rattle.serving.proofs.UntoldLemmas.{untold_none}
use Rattle.node_process.specs.Gathering.{AreGathered}
use Rattle.node_process.specs.Handing.{Hands, IsUnhanded}
use Rattle.node_process.specs.Working.{Answers}
use Rattle.node_process.proofs.WorkLemmas.{ends_in, works_none, works_some}
use Rattle.node_process.proofs.process.Process.work.Goals as goal

pub returns-then-is_nothing-clause-works : goal.returns-then-is_nothing-clause-works
returns-then-is_nothing-clause-works g c =
    let old = c.args.self.now in
    let none : c.in_ok-items.items.items ≡ [] = sym c.deref.ensures.value ∙ c.is_nothing.ensures.none c.if-is_nothing.true in
    works_none g.P.Port.received g.P.Port.sent c.args.now old.desk c.gather.new.desk old.node c.gather.new.node old.port c.gather.new.port
    c.in_ok-items.items.items c.gather.ensures.asks c.in_ok-items.ensures.gathered none c.in_ok-items.ensures.branches
    c.in_ok-items.ensures.terms

pub returns-in_err-items-clause-ends : goal.returns-in_err-items-clause-ends
returns-in_err-items-clause-ends g c =
    on_err_all c.from_residual.result _ (inl (record {
      asks = c.gather.ensures.asks;
      receives = c.gather.ensures.receives;
      untold = c.gather.ensures.untold;
    }))

pub returns-in_err-count-clause-ends : goal.returns-in_err-count-clause-ends
returns-in_err-count-clause-ends g c =
    let old = c.args.self.now in
    let items = c.in_ok-items.items.items in
    on_err_all c.from_residual-in_err-count.result _ (inr (inl (record {
      asked = c.gather.new.node;
      asks = c.gather.ensures.asks;
      items = items;
      gathered = subst (λ (port : LetterParts _). AreGathered g.P.Port.received c.args.now old.desk c.gather.new.desk old.node
          c.gather.new.node old.port port items) (sym c.in_err-count.ensures.unhanded.1) c.in_ok-items.ensures.gathered;
      unhanded = subst (λ (all : List Item). IsUnhanded all c.gather.new.node c.hand.new.node) c.deref-2.ensures.value
          c.in_err-count.ensures.unhanded.0;
      untold = c.gather.ensures.untold;
    })))

pub returns-in_err-record_len-clause-ends : goal.returns-in_err-record_len-clause-ends
returns-in_err-record_len-clause-ends g c =
    let items = c.in_ok-items.items.items in
    on_err_all c.from_residual-in_err-record_len.result _ (inr (inr (record {
      asked = c.gather.new.node;
      asks = c.gather.ensures.asks;
      desk = c.gather.new.desk;
      got = c.gather.new.port;
      items = items;
      gathered = c.in_ok-items.ensures.gathered;
      handed = c.hand.new.node;
      sent = c.hand.new.port;
      outs = take c.in_ok-count.count c.hand.new.outs.items;
      hands = subst (λ (all : List Item). Hands g.P.Port.sent all c.gather.new.node c.hand.new.node c.gather.new.port c.hand.new.port
          (take c.in_ok-count.count c.hand.new.outs.items)) c.deref-2.ensures.value c.in_ok-count.ensures.hands;
      told = inl (untold_none c.gather.new.desk.clients.seats);
    })))

pub returns-clause-ends : goal.returns-clause-ends
returns-clause-ends g c =
    let old = c.args.self.now in
    let items = c.in_ok-items.items.items in
    let counted = c.count_group.new.self in
    let heard = c.gather.new.desk.clients.seats in
    let outs = take c.in_ok-count.count c.hand.new.outs.items in
    let terms_is : counted.terms ≡ old.desk.terms = ap (λ (d : Desk). d.terms) c.count_group.ensures ∙ c.in_ok-items.ensures.terms in
    let seats_is : counted.clients.seats ≡ heard = ap (λ (d : Desk). d.clients.seats) c.count_group.ensures in
    on_err_weaker c.answer_all.result (λ ends. inr (inr (record {
      asked = c.gather.new.node;
      asks = c.gather.ensures.asks;
      desk = c.gather.new.desk;
      got = c.gather.new.port;
      items = items;
      gathered = c.in_ok-items.ensures.gathered;
      handed = c.hand.new.node;
      sent = c.hand.new.port;
      outs = outs;
      hands = subst (λ (all : List Item). Hands g.P.Port.sent all c.gather.new.node c.hand.new.node c.gather.new.port c.hand.new.port outs)
          c.deref-2.ensures.value c.in_ok-count.ensures.hands;
      told = ends_in g.P.Port.sent c.deref-3.result.now items outs counted.terms old.desk.terms counted.clients.seats heard
          c.answer_all.new.self.desk.clients.seats c.hand.new.node c.answer_all.new.self.node c.hand.new.port c.answer_all.new.self.port
          c.deref-3.ensures.value terms_is seats_is ends;
    }))) c.answer_all.ensures.ends

pub returns-clause-works : goal.returns-clause-works
returns-clause-works g c =
    let old = c.args.self.now in
    let items = c.in_ok-items.items.items in
    let counted = c.count_group.new.self in
    let some : items ≡ [] → ⊥ =
    λ none. c.is_nothing.ensures.some c.if-is_nothing.false (c.deref.ensures.value ∙ none) in
    let outs = take c.in_ok-count.count c.hand.new.outs.items in
    let hands : Hands g.P.Port.sent items c.gather.new.node c.hand.new.node c.gather.new.port c.hand.new.port outs =
    subst (λ (all : List Item). Hands g.P.Port.sent all c.gather.new.node c.hand.new.node c.gather.new.port c.hand.new.port
    outs) c.deref-2.ensures.value c.in_ok-count.ensures.hands in
    on_ok_weaker c.answer_all.result (λ answers.
    works_some g.P.Port.received g.P.Port.sent c.args.now old.desk c.gather.new.desk counted c.answer_all.new.self.desk
    old.node c.gather.new.node c.hand.new.node c.answer_all.new.self.node old.port c.gather.new.port c.hand.new.port
    c.answer_all.new.self.port items outs c.gather.ensures.asks c.in_ok-items.ensures.gathered some hands
    (ap (λ (d : Desk). d.terms) c.count_group.ensures ∙ c.in_ok-items.ensures.terms)
    (ap (λ (d : Desk). d.clients.seats) c.count_group.ensures)
    (ap (λ (d : Desk). d.notes.branches) c.count_group.ensures ∙ c.in_ok-items.ensures.branches)
    (c.answer_all.ensures.pending ∙ ap (λ (d : Desk). d.pending) c.count_group.ensures)
    (subst (λ (all : List Item). Answers g.P.Port.sent c.args.now all outs counted c.answer_all.new.self.desk
    c.hand.new.node c.answer_all.new.self.node c.hand.new.port c.answer_all.new.self.port) c.deref-3.ensures.value answers))
    c.answer_all.ensures.answers
