use Rattle.std.proofs.Common.{◌≡◌, ◌<◌, ℕ, true, List, Some}
use Rattle.safety.specs.Vocabulary.{L}
use Rattle.protocol.specs.Effects.{Config}
use Rattle.protocol.specs.Facts.{last_ballot}
use Rattle.protocol.specs.Nodes.{NodeState}
use Rattle.protocol.specs.Worlds.{Occurrence, opening, node_at, world_after}
use Rattle.history.specs.Lines.{history}
use Rattle.history.proofs.Runs.{run_is}
use Rattle.history.proofs.LeaderRuns.{IsLeaderBack, leader_back, status_looked}
use Rattle.history.proofs.StatusAnswers.{status_answered}
use Rattle.history.proofs.leaders.heard_is_what_came.Goals as goal

module _ (config : Config) (events : List Occurrence) (l : ℕ) (node : NodeState) (some : 0 < config.acceptors)
    (stands : node_at config (world_after config (opening config) events) (L l) ≡ Some node) (up : node.up ≡ true) where
  back : IsLeaderBack config l node.memory.leader (history config events)
  back = leader_back config (world_after config (opening config) events) (history config events) l some
      (run_is config events) node stands up

pub returns-clause-heard : goal.returns-clause-heard
returns-clause-heard c config events l node some stands up = (back config events l node some stands up).heard

pub returns-clause-begun : goal.returns-clause-begun
returns-clause-begun c config events l node some stands up = (back config events l node some stands up).current_is

pub returns-clause-met : goal.returns-clause-met
returns-clause-met c config events l node some stands up = (back config events l node some stands up).met

pub returns-clause-proposed : goal.returns-clause-proposed
returns-clause-proposed c config events l node some stands up = (back config events l node some stands up).proposed

pub returns-clause-status : goal.returns-clause-status
returns-clause-status c config events l node some stands up tx =
    status_looked config l node.memory.leader (history config events) (last_ballot node.facts) tx (back config events l node some stands up)

pub returns-clause-answer : goal.returns-clause-answer
returns-clause-answer c config events l node some stands up tx =
    status_answered config (world_after config (opening config) events) (history config events) l some (run_is config events) node stands up
    tx
