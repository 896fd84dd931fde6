use Rattle.std.proofs.Common.{◌≡◌, ◌∙◌, List, length, ap, sym, subst, []}
use Rattle.std.specs.List.{flat_map}
use Rattle.wire.specs.declared.message.Kind.{Kind}
use Rattle.protocol.specs.Worlds.{Datagram, datagrams_of}
use Rattle.node_core.specs.Configs.{config_by}
use Rattle.cluster.specs.Sending.{HasRoom, HaveSent}
use Rattle.wire.proofs.OneSpelling.{means_one}
use Rattle.cluster.proofs.Sent.{only_sent, nothing_sent}
use Rattle.cluster.proofs.sending.send_all.Goals as goal

pub send-requires-clause-room : goal.send-requires-clause-room
send-requires-clause-room c = λ message spells.
    let reply = c.in-Some.ensures.spells in
    let f : Kind → List Datagram =
    λ m. datagrams_of (config_by c.args.sizes []) c.args.sender (record { to = c.in-Some.to; message = m }) in
    let all : flat_map (datagrams_of (config_by c.args.sizes []) c.args.sender) c.args.sends.now ≡ f message =
    only_sent (datagrams_of (config_by c.args.sizes []) c.args.sender) c.args.sends.now
    (record { to = c.in-Some.to; message = reply.0 }) reply.2
    ∙ ap f (means_one reply.0 message c.in-Some.bytes.now reply.1 spells) in
    subst (λ (ds : List Datagram). HasRoom (length ds) c.args.network.now) all c.requires

pub returns-in-Some : goal.returns-in-Some
returns-in-Some c =
    let reply = c.in-Some.ensures.spells in
    let all =
    only_sent (datagrams_of (config_by c.args.sizes []) c.args.sender) c.args.sends.now
    (record { to = c.in-Some.to; message = reply.0 }) reply.2 in
    subst (λ (ds : List Datagram). HaveSent c.args.network.now c.send.new.network ds) (sym all) (c.send.ensures.sent reply.0 reply.1)

pub returns-then-count-eq0 : goal.returns-then-count-eq0
returns-then-count-eq0 c =
    nothing_sent (datagrams_of (config_by c.args.sizes []) c.args.sender) c.args.sends.now c.args.network.now
    (sym c.count.ensures ∙ c.if-count-eq0.true)
