use Rattle.std.proofs.Common.{refl}
use Rattle.acceptor.specs.Acceptors.{acceptor_part}
use Rattle.node_core.specs.declared.role.Role.{Role}
use Rattle.node_core.proofs.Deciding.{no_config}
use Rattle.node_core.proofs.Playing.{acceptor_readied, refuses_memory}
use Rattle.node_core.proofs.taking.AcceptorPlaying.make_ready.Goals as goal

pub returns-clause-ok : goal.returns-clause-ok
returns-clause-ok c =
    acceptor_readied (Role.Acceptor c.args.self.now) c.args.self.now c.ready.new.self c.args.fact.now c.ready.result refl
    (λ config number. c.ready.ensures config number c.args.fact.now c.tx.ensures.value)

pub returns-clause-err : goal.returns-clause-err
returns-clause-err c =
    refuses_memory (acceptor_part no_config 0) c.args.self.now c.ready.new.self c.args.fact.now c.ready.result
    (c.ready.ensures no_config 0 c.args.fact.now c.tx.ensures.value)
