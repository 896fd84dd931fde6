-- Which runs a trace can tell: those whose datagrams and notices all have a number.
use Rattle.std.specs.Prelude.{ℕ, ◌<◌, ◌^◌, List, length}
use Rattle.cluster_run.specs.Runs.{IsRun}
use Rattle.cluster_run.specs.Traces.{config_of, last_world}

-- fewer than 2^32 datagrams were sent in a run, and as few notices told. Words of a trace have numbers of 32 bits, and the machine counts
-- on; the cluster of a run stops at that number itself, for want of memory
pub record HasNumbers {bytes output : List ℕ} (run : IsRun bytes output) : Type 0 where
  pub few : length (last_world (config_of run.script) run.is.happened).machine.net < 2 ^ 32
  pub few_notices : length (last_world (config_of run.script) run.is.happened).notices < 2 ^ 32
