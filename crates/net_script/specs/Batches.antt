-- Commands in batches.
use Rattle.std.specs.Prelude.{List, ◌++◌}
use Rattle.std.specs.List.{flat_map}
use Rattle.net_script.specs.declared.values.Command.{Command}

-- the commands of full batches, and those of the last
abbrev pub in_batches : List (List Command) → List Command → List Command
in_batches full last = flat_map (λ batch. batch) full ++ last
