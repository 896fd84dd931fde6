use Rattle.std.proofs.Common.{◌≡◌, ◌++◌, [], List, ℕ, Vec, ap, ◌∙◌, sym, subst, append_assoc, arith}
use Rattle.std.proofs.lemmas.List.{append-nil}
use Rattle.std.specs.declared.alloc.Global.{Global}
use Rattle.node_process.specs.Saying.{listed, SaysAll}
use Rattle.node_process.proofs.SayLemmas.{says_done, says_next}
use Rattle.node_process.proofs.saying.say_all.Goals as goal

pub returns : goal.returns
returns g c =
    subst (λ (said : List (Vec ℕ Global)). SaysAll g.P.Port.sent c.args.desk.now.terms c.args.items.now c.args.node.now c.loop-item.node
    c.args.port.now c.loop-item.port said) (append-nil c.loop-item.said.items)
    (c.loop-item.invariant c.loop-item.node c.loop-item.port []
    (says_done g.P.Port.sent c.args.desk.now.terms c.args.items.now c.loop-item.item-index c.loop-item.node c.loop-item.port (omega arith)))

pub loop-item-preserved : goal.loop-item-preserved
loop-item-preserved g c is after more rest =
    let text = c.in_ok-text.text in
    let said : c.push_text.new.said.items ++ more ≡ c.loop-item.said.items ++ (listed text ++ more) =
    ap (λ (all : List (Vec ℕ Global)). all ++ more) c.in_ok-push_text.ensures
    ∙ append_assoc c.loop-item.said.items (listed text) more in
    subst (λ (all : List (Vec ℕ Global)). SaysAll g.P.Port.sent c.args.desk.now.terms c.args.items.now c.args.node.now is c.args.port.now
    after all) (sym said)
    (c.loop-item.invariant is after (listed text ++ more)
    (says_next g.P.Port.sent c.args.desk.now.terms c.args.items.now c.loop-item.item-index c.item-item.result c.loop-item.node
    c.say_for.new.node is c.loop-item.port c.say_for.new.port after text more (omega arith) c.item-item.is c.in_ok-text.ensures rest))
