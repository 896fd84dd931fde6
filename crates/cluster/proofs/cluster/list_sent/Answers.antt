use Rattle.std.proofs.Common.{◌≡◌, ◌∙◌, ◌++◌, ◌∷◌, [], ◌+◌, ℕ, suc, List, Vec, Global, sym, ap, arith}
use Rattle.std.proofs.lemmas.List.{append-nil}
use Rattle.std.specs.Vec.{vec_len, vec_capacity}
use Rattle.protocol.specs.declared.events.Sent.{Sent}
use Rattle.network.specs.Networks.{shown}
use Rattle.cluster.proofs.Sent.{sent_up_to, up_to_more, listed_found, listed_missed}
use Rattle.cluster.proofs.cluster.list_sent.Goals.{in-Ok, in_default}
use Rattle.cluster.proofs.cluster.list_sent.Goals as goal

pub loop-place-preserved : goal.loop-place-preserved
loop-place-preserved c =
    let kept = shown c.at-kept.result in
    let place : ℕ = c.loop-place.place in
    let before : List Sent = sent_up_to c.args.before place c.args.network.now in
    let more =
    up_to_more c.args.network.now c.args.before place c.loop-place.auto.place
    (omega (arith, c.loop-place-test.true, c.len-place-end.ensures.count)) kept c.at-kept.ensures in
    let number : suc place ≡ place + 1 = omega arith in
    elim c.match-decode.branch [
      | in-Ok w ↦ record {
        listed =
            ap (λ (v : Vec Sent Global). v.items) w.sent-is
            ∙ w.push_reserved.ensures.items
            ∙ ap (λ (sent : List Sent). sent ++ record {
              number = place + 1;
              sender = kept.sender;
              receiver = kept.receiver;
              message = w.in-Ok.message;
            } ∷ []) c.loop-place.invariant.listed
            ∙ sym (more ∙ ap (λ (sent : List Sent). before ++ sent)
            (listed_found (suc place) (place + 1) kept w.in-Ok.message number w.in-Ok.ensures.ok));
        few =
            let len : vec_len c.match-decode.sent ≡ vec_len w.push_reserved.new.self = ap vec_len w.sent-is in
            omega (arith, len, w.push_reserved.ensures.len, c.loop-place.invariant.few, c.loop-place.auto.place);
        capacity = ap vec_capacity w.sent-is ∙ w.push_reserved.ensures.capacity ∙ c.loop-place.invariant.capacity;
      }
      | in_default w ↦ record {
        listed =
            ap (λ (v : Vec Sent Global). v.items) w.sent-is
            ∙ c.loop-place.invariant.listed
            ∙ sym (more ∙ ap (λ (sent : List Sent). before ++ sent) (listed_missed (suc place) kept w.in_default.ensures.err.1)
            ∙ append-nil before);
        few =
            let len : vec_len c.match-decode.sent ≡ vec_len c.loop-place.sent = ap vec_len w.sent-is in
            omega (arith, len, c.loop-place.invariant.few, c.loop-place.auto.place);
        capacity = ap vec_capacity w.sent-is ∙ c.loop-place.invariant.capacity;
      }
    ]
