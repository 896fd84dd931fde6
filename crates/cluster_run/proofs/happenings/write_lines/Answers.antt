use Rattle.std.proofs.Common.{◌≡◌, ◌∙◌, ◌≤◌, ◌<◌, ◌+◌, ◌++◌, ℕ, suc, List, length, sym, ap, append_assoc, arith}
use Rattle.protocol.specs.declared.events.Sent.{Sent}
use Rattle.network.specs.Networks.{NetworkParts, shown}
use Rattle.net_script.specs.Events.{event_words}
use Rattle.net_script.specs.Traces.{datagram_line, outcome_text}
use Rattle.cluster.proofs.Sent.{up_to_none, up_to_all}
use Rattle.cluster_run.proofs.Lines.{next_line}
use Rattle.cluster_run.proofs.happenings.write_lines.Goals as goal

pub loop-place-init : goal.loop-place-init
loop-place-init c =
    let same : c.args.before ≤ c.args.before = omega arith in
    c.in_ok-write_answered.ensures.ok
    ∙ ap (λ (sent : List Sent). c.args.piece.now.items ++ outcome_text (event_words c.args.event.now) c.args.answered.now.answer
    c.args.answered.now.now sent) (sym (up_to_none c.args.cluster.now.network c.args.before c.args.before same))

pub loop-place-preserved : goal.loop-place-preserved
loop-place-preserved c =
    let network : NetworkParts = c.args.cluster.now.network in
    let place : ℕ = c.loop-place.place in
    let kept = c.datagram-kept.result in
    let number : place + 1 ≡ suc place = omega arith in
    let lt : place < length network.datagrams = omega (arith, c.loop-place-test.true, c.datagram_count-place-end.ensures) in
    c.in_ok-write_datagram.ensures.ok
    ∙ ap (λ (l : List ℕ). l ++ datagram_line (place + 1) kept.sender kept.receiver kept.bytes.now) c.loop-place.invariant
    ∙ append_assoc c.args.piece.now.items _ _
    ∙ ap (λ (l : List ℕ). c.args.piece.now.items ++ l)
    (next_line (event_words c.args.event.now) c.args.answered.now.answer c.args.answered.now.now network c.args.before place (place + 1)
    c.loop-place.auto.place lt number (shown kept) c.datagram-kept.ensures)

pub returns : goal.returns
returns c =
    let all : length c.args.cluster.now.network.datagrams ≤ c.loop-place.place =
    omega (arith, c.loop-place-test.false, c.datagram_count-place-end.ensures) in
    c.loop-place.invariant
    ∙ ap (λ (sent : List Sent). c.args.piece.now.items ++ outcome_text (event_words c.args.event.now) c.args.answered.now.answer
    c.args.answered.now.now sent) (up_to_all c.args.cluster.now.network c.args.before c.loop-place.place all)
