use Rattle.std.proofs.Common.{[], sym, subst}
use Rattle.protocol.specs.Nodes.{empty_memory}
use Rattle.node_core.specs.declared.role.Role.{Role}
use Rattle.node_core.specs.Roles.{RoleStands}
use Rattle.node_core.proofs.opening.new_role.Goals as goal

pub returns-in-A-clause-ok : goal.returns-in-A-clause-ok
returns-in-A-clause-ok c = λ config sizes rows.
    subst (λ w. RoleStands config w (Role.Acceptor c.with_hash_key.result) [] empty_memory) (sym c.in-A.is)
    (c.with_hash_key.ensures config sizes.leaders_are sizes.bundled_is)

pub returns-in-L-clause-ok : goal.returns-in-L-clause-ok
returns-in-L-clause-ok c = λ config sizes rows.
    subst (λ w. RoleStands config w (Role.Leader c.with_hash_key-in-L.result) [] empty_memory) (sym c.in-L.is)
    (c.with_hash_key-in-L.ensures config sizes.acceptors_are sizes.leaders_are sizes.managers_are sizes.bundled_is)
