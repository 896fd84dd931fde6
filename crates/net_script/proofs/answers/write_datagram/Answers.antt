use Rattle.std.proofs.Common.{◌≡◌, ◌≢◌, subst}
use Rattle.std.specs.Prelude.{IfOk, IfErr}
use Rattle.xid.specs.declared.refusals.Refusal.TheVariants.{BadMessage}
use Rattle.wire.specs.declared.message.Kind.{Kind}
use Rattle.wire.specs.Messages.{IsMessage}
use Rattle.wire.specs.Grammar.{Spells, spelling}
use Rattle.net_script.proofs.TraceLemmas.{datagram_seen, datagram_unseen, puts_as}
use Rattle.net_script.proofs.answers.write_datagram.Goals as goal

pub returns-in-Ok-clause-ok : goal.returns-in-Ok-clause-ok
returns-in-Ok-clause-ok c =
    puts_as c.put_seen.result c.args.out.now.items c.put_seen.new.out.items
    (datagram_seen c.args.number c.args.sender c.args.receiver c.args.bytes.now c.in-Ok.message
    (subst (λ r. IfOk r (λ m. Spells m c.args.bytes.now)) c.in-Ok.is c.view_of.ensures.ok)) c.put_seen.ensures.puts

pub returns-in-Err-clause-ok : goal.returns-in-Err-clause-ok
returns-in-Err-clause-ok c =
    let refused = subst (λ r. IfErr r (λ e. (e ≡ BadMessage) × ((k : Kind) → IsMessage k → c.args.bytes.now ≢ spelling k))) c.in-Err.is
    c.view_of.ensures.err in
    datagram_unseen c.args.number c.args.sender c.args.receiver c.args.bytes.now c.args.out.now.items refused.1
