use Rattle.std.proofs.Common.{[], refl}
use Rattle.resource_manager.specs.Managers.{placed_part}
use Rattle.node_core.specs.declared.role.Role.{Role}
use Rattle.node_core.proofs.Deciding.{no_config}
use Rattle.node_core.proofs.Playing.{manager_readied, refuses_memory}
use Rattle.node_core.proofs.taking.ResourceManagerPlaying.make_ready.Goals as goal

pub returns-clause-ok : goal.returns-clause-ok
returns-clause-ok c =
    manager_readied (Role.Manager c.args.self.now) c.args.self.now c.ready.new.self c.args.fact.now c.ready.result refl c.ready.ensures

pub returns-clause-err : goal.returns-clause-err
returns-clause-err c =
    refuses_memory (placed_part no_config 0 []) c.args.self.now c.ready.new.self c.args.fact.now c.ready.result
    (c.ready.ensures no_config 0 [])
