use Rattle.std.proofs.Common.{[], ◌∷◌, List, drop, ap, ◌∙◌, subst, inl, inr, arith, length, length-append}
use Rattle.protocol.specs.declared.requests.Request.{Request}
use Rattle.node_process.specs.Gathering.{asked_item, TakesPending}
use Rattle.node_process.proofs.GatherLemmas.{pending_empty, pending_more, pending_none}
use Rattle.node_process.proofs.gathering.take_pending.Goals as goal

pub loop-init : goal.loop-init
loop-init c = record { takes = pending_none c.args.pending.now.items c.args.items.now.items; many = omega arith }

pub returns-in_default-clause-takes : goal.returns-in_default-clause-takes
returns-in_default-clause-takes c =
    subst (λ (left : List Request). TakesPending c.args.pending.now.items left c.args.items.now.items c.loop.items.items)
    c.in_default.ensures.items c.loop.invariant.takes

pub returns-in_default-clause-all : goal.returns-in_default-clause-all
returns-in_default-clause-all c =
    inl (pending_empty c.pop_front.new.self.items
    (c.in_default.ensures.rest ∙ ap (λ (left : List Request). drop 1 left) c.in_default.ensures.items))

pub returns-clause-all : goal.returns-clause-all
returns-clause-all c = inr (omega arith)

pub loop-preserved : goal.loop-preserved
loop-preserved c =
    let item = asked_item c.in-Some.request in
    record {
      takes = pending_more c.args.pending.now.items c.loop.pending.items c.pop_front.new.self.items c.in-Some.request
          c.args.items.now.items c.loop.items.items c.push_asked.new.items.items c.loop.invariant.takes c.in-Some.ensures.items
          c.in_ok-push_asked.ensures;
      many = omega (arith, ap length c.in_ok-push_asked.ensures ∙ length-append c.loop.items.items (item ∷ []));
    }
