use Rattle.std.proofs.Common.{take, sym}
use Rattle.net_script.proofs.TraceLemmas.{datagram_seen, puts_also}
use Rattle.net_script.proofs.answers.put_sent.Goals as goal

pub returns-clause-puts : goal.returns-clause-puts
returns-clause-puts c =
    puts_also c.write_datagram.result c.args.out.now.items c.write_datagram.new.out.items
    (sym (datagram_seen c.args.sent.now.number c.args.sent.now.sender c.args.sent.now.receiver
    (take c.encode-len.result c.encode-len.new.out)
    c.args.sent.now.message (record { message = c.kind.ensures.valid; spelled = c.encode-len.ensures.spells })))
    c.write_datagram.ensures.ok c.write_datagram.ensures.err
