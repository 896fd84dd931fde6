use Rattle.std.proofs.Common.{refl}
use Rattle.protocol.specs.LeaderMemory.{nothing_heard}
use Rattle.leader.specs.Leaders.{leader_part}
use Rattle.node_core.specs.declared.role.Role.{Role}
use Rattle.node_core.proofs.Deciding.{no_config}
use Rattle.node_core.proofs.Playing.{leader_readied, refuses_memory}
use Rattle.node_core.proofs.taking.LeaderPlaying.make_ready.Goals as goal

pub returns-clause-ok : goal.returns-clause-ok
returns-clause-ok c =
    leader_readied (Role.Leader c.args.self.now) c.args.self.now c.ready.new.self c.args.fact.now c.ready.result refl c.ready.ensures

pub returns-clause-err : goal.returns-clause-err
returns-clause-err c =
    refuses_memory (leader_part no_config 0 nothing_heard) c.args.self.now c.ready.new.self c.args.fact.now c.ready.result
    (c.ready.ensures no_config 0 nothing_heard)
