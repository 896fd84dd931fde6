use Rattle.std.proofs.Common.{◌≡◌, ◌++◌, ◌∙◌, List, length, map, take, drop, ap, sym, subst, inr, Ok, Err, arith}
use Rattle.node_core.specs.declared.output.Output.{Output}
use Rattle.port.specs.Members.{TakesAll, item_of}
use Rattle.port.specs.Members.{Item as MemberItem}
use Rattle.node_process.specs.Handing.{Hands, handed_of, handed_to}
use Rattle.serving.proofs.TellLemmas.{on_err_all}
use Rattle.node_process.proofs.HandLemmas.{front_all, handed_count, handed_inputs}
use Rattle.node_process.proofs.handing.hand.Goals as goal

pub returns-clause-hands : goal.returns-clause-hands
returns-clause-hands g c =
    let who = c.args.node.now.floored.node.who in
    let outs = c.call_all.new.outs in
    let places = c.make_places.new.outs in
    let rest = c.split_at_mut-places.result.1.now in
    let behind = drop (length (outs ++ rest)) places.items in
    let given = c.in_ok-inputs.inputs.items in
    let same : map (item_of who) c.deref.result.now ≡ handed_to who c.args.items.now =
    ap (map (item_of who)) c.deref.ensures.value ∙ handed_inputs who given c.args.items.now c.in_ok-inputs.ensures in
    let many : length given ≡ length (handed_of c.args.items.now) = handed_count given c.args.items.now c.in_ok-inputs.ensures in
    let all : length outs ≡ c.len-count.result = omega arith in
    let front : take c.len-count.result (take places.len ((outs ++ rest) ++ behind)) ≡ outs =
    front_all outs rest behind c.len-count.result places.len all (omega arith) in
    subst (λ (first : List Output). Hands g.P.Port.sent c.args.items.now c.args.node.now c.call_all.new.member c.args.port.now
    c.call_all.new.self first) (sym front)
    (record {
      room = c.split_at_mut-places.result.0.now;
      takes = subst (λ (items : List MemberItem). TakesAll items c.args.node.now c.call_all.new.member c.split_at_mut-places.result.0.now
          outs (Ok tt)) same c.in_ok-call_all.ensures.takes;
      count = omega arith;
      sends = c.in_ok-call_all.ensures.sends;
      left = c.in_ok-call_all.ensures.left;
    })

pub returns-in_err-call_all-clause-unhanded : goal.returns-in_err-call_all-clause-unhanded
returns-in_err-call_all-clause-unhanded g c =
    let who = c.args.node.now.floored.node.who in
    let same : map (item_of who) c.deref.result.now ≡ handed_to who c.args.items.now =
    ap (map (item_of who)) c.deref.ensures.value ∙ handed_inputs who c.in_ok-inputs.inputs.items c.args.items.now c.in_ok-inputs.ensures in
    on_err_all c.from_residual-in_err-call_all.result _ (
      inr (record {
        room = c.split_at_mut-places.result.0.now;
        outs = c.call_all.new.outs;
        error = c.in_err-call_all.field-0.0;
        takes = subst (λ (items : List MemberItem). TakesAll items c.args.node.now c.call_all.new.member
            c.split_at_mut-places.result.0.now c.call_all.new.outs (Err c.in_err-call_all.field-0.0)) same
            c.in_err-call_all.ensures.takes;
      }),
      c.in_err-call_all.ensures.quiet,
    )
