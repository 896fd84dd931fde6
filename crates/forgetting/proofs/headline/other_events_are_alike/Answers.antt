use Rattle.std.specs.Prelude.{◌≡◌, true, [], List}
use Rattle.std.proofs.Common.{sym, subst}
use Rattle.protocol.specs.Basics.{Fact}
use Rattle.protocol.specs.Nodes.{all_play, compact_outcome, restart_outcome}
use Rattle.safety.proofs.World.Changes.{compact_keeps, restart_keeps}
use Rattle.forgetting.proofs.Coming.{came, compacted, restarted, torn}
use Rattle.forgetting.proofs.headline.other_events_are_alike.Goals as goal

pub returns-clause-restart : goal.returns-clause-restart
returns-clause-restart c from config who floor few all stands fault =
    came from config who floor few all stands (restart_outcome from who few fault) (restart_outcome config who all fault)
    (restarted from config who floor few all stands fault)
    (subst (λ (fs : List Fact). all_play from who [] fs ≡ true) (sym (restart_keeps from who few fault)) stands.few_play)

pub returns-clause-compact : goal.returns-clause-compact
returns-clause-compact c from config who floor few all stands fault =
    came from config who floor few all stands (compact_outcome few fault) (compact_outcome all fault)
    (compacted from config who floor few all stands fault)
    (subst (λ (fs : List Fact). all_play from who [] fs ≡ true) (sym (compact_keeps few fault)) stands.few_play)

pub returns-clause-tear : goal.returns-clause-tear
returns-clause-tear c from config who floor few all stands n = torn from config who floor few all stands n
