use Rattle.std.proofs.Common.{◌≡◌}
use Rattle.std.specs.List.{flat_map}
use Rattle.net_script.proofs.commands.Commands.into_vec.Given as goal

abbrev pub invariant-loop-batch : goal.invariant-loop-batch
invariant-loop-batch l = l.all.items ≡ flat_map (λ batch. batch) l.yielded
