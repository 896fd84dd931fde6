use Rattle.std.proofs.Common.{◌∙◌, ap, sym, subst, List, []}
use Rattle.std.specs.List.{flat_map}
use Rattle.std.proofs.lemmas.List.{append-nil}
use Rattle.protocol.specs.Worlds.{Datagram, datagrams_of}
use Rattle.node_core.specs.Configs.{config_by}
use Rattle.port.specs.Calls.{SendsAll}
use Rattle.port.proofs.calling.send_all.Goals as goal

pub returns-in-Some : goal.returns-in-Some
returns-in-Some g c =
    λ sender.
    let sent = c.in-Some.ensures.spells in
    let all = datagrams_of (config_by c.args.sizes []) sender in
    subst (λ (ds : List Datagram). SendsAll g.P.Port.sent c.args.port.now c.send.new.port ds)
    (sym (append-nil (all (record { to = c.in-Some.to; message = sent.0 }))) ∙ ap (flat_map all) (sym sent.2))
    (c.send.ensures sender sent.0 sent.1)
