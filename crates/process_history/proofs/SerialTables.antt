-- A table that a process answers is the one of its node, which one order explains. The law of processes' tables needs it.
use Rattle.std.proofs.Common.{◌≡◌, ◌∙◌, ℕ, sym}
use Rattle.protocol.specs.declared.nodes.NodeId.TheVariants.{R}
use Rattle.protocol.specs.Effects.{Config}
use Rattle.protocol.specs.Nodes.{first_rows}
use Rattle.protocol.specs.Worlds.{table_at}
use Rattle.history.specs.SerialOrder.{committed_at, serial_table}
use Rattle.history.proofs.Laws.{table_looked_back, looked_table}
use Rattle.history.proofs.SerialTables.{serial_is}
use Rattle.floors.specs.Worlds.{FlooredWorld}
use Rattle.floors.specs.Runs.{IsFlooredReachable}
use Rattle.floored_history.specs.Histories.{floored_history}
use Rattle.floored_history.proofs.Steps.{floored_run}
use Rattle.port.specs.Members.{MemberParts}
use Rattle.floored_groups.specs.Clusters.{AllProcesses, IsRun}
use Rattle.floored_groups.specs.Processes.{StandsIn}
use Rattle.floored_groups.specs.Runs.{with_net}
use Rattle.floored_groups.proofs.Clusters.{stand_for}
use Rattle.floored_groups.proofs.Single.{one_by_one}
use Rattle.floored_groups.proofs.Views.{table_is}
use Rattle.process_history.specs.SerialTables.{AreSerial}

module _ (config : Config) (world : FlooredWorld) (reach : IsFlooredReachable config world) (rm : ℕ) (old : MemberParts)
    (s : StandsIn config world (R rm) old) where
  serial_at : table_at config world.machine rm
      ≡ serial_table (first_rows config rm) rm (floored_history config world reach) (committed_at rm (floored_history config world reach))
  serial_at =
      let history = floored_history config world reach in
      let run = floored_run config world reach in
      table_looked_back config world.machine history rm run s.state s.there
      ∙ sym (looked_table config world.machine history rm run (first_rows config rm))
      ∙ serial_is config world.machine history rm run (first_rows config rm)

-- the tables of all processes are serial
pub are_serial : (config : Config) (all : AllProcesses) → IsRun config all → AreSerial config all
are_serial config all run =
    let f = stand_for config all run in
    let one = one_by_one config f.world f.reached in
    record {
      world = with_net f.world one.net;
      reached = one.reached;
      stand = λ who among.
          let s = f.stand who among in record {
            state = s.state;
            there = s.there;
            is = s.is;
            who_is = s.who_is;
            floor_is = s.floor_is;
            told_count = s.told_count;
            told_are = s.told_are;
          };
      tables = λ rm among new rows answers.
          let s = f.stand (R rm) among in
          table_is config f.world rm (all.members (R rm)) new s rows answers
          ∙ serial_at config (with_net f.world one.net) one.reached rm (all.members (R rm)) (record {
            state = s.state;
            there = s.there;
            is = s.is;
            who_is = s.who_is;
            floor_is = s.floor_is;
            told_count = s.told_count;
            told_are = s.told_are;
          });
    }
