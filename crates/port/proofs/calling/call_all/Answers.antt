use Rattle.std.proofs.Common.{List, subst}
use Rattle.protocol.specs.Worlds.{Datagram}
use Rattle.port.specs.Calls.{SendsAll}
use Rattle.port.proofs.Members.{member_sizes}
use Rattle.port.proofs.Sending.{all_datagrams_as}
use Rattle.port.proofs.calling.call_all.Goals as goal

pub returns-clause-sends : goal.returns-clause-sends
returns-clause-sends g c =
    λ config m stands.
    let now = c.args.member.now in
    let sizes = c.sizes-sizes.result in
    subst (λ (ds : List Datagram). SendsAll g.P.Port.sent c.args.port.now c.send_each.new.port ds)
    (all_datagrams_as config sizes (member_sizes sizes now.floored now.told c.sizes-sizes.ensures config m stands) now.floored.node.who
    c.take_all.new.outs)
    (c.send_each.ensures now.floored.node.who)
