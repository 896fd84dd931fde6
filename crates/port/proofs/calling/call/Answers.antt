use Rattle.std.proofs.Common.{List, refl, subst}
use Rattle.protocol.specs.Worlds.{Datagram}
use Rattle.node_core.proofs.Addressed.{datagrams_as}
use Rattle.port.specs.Calls.{SendsAll}
use Rattle.port.proofs.Members.{member_sizes}
use Rattle.port.proofs.calling.call.Goals as goal

pub returns : goal.returns
returns g c =
    λ config m stands.
    let now = c.args.member.now in
    let sizes = c.sizes-sizes.result in
    record {
      out = c.take-reply.result;
      takes = c.take-reply.ensures config m stands;
      reply_is = refl;
      now_is = refl;
      sends =
          subst (λ (ds : List Datagram). SendsAll g.P.Port.sent c.args.port.now c.send_all.new.port ds)
          (datagrams_as config sizes (member_sizes sizes now.floored now.told c.sizes-sizes.ensures config m stands) now.floored.node.who
          c.take-reply.result.sends)
          (c.send_all.ensures now.floored.node.who);
    }
