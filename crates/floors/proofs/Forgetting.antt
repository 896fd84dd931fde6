-- A leader needs nothing in its memory of transactions below its floor.
use Rattle.std.proofs.Common.{◌≡◌, ℕ, Bool, true, false, if◌then◌else◌, List, Option, refl, ap}
use Rattle.xid.specs.Places.{Place}
use Rattle.protocol.specs.Basics.{Fact}
use Rattle.protocol.specs.declared.requests.Request.TheVariants as requests
use Rattle.safety.specs.Vocabulary.{L}
use Rattle.protocol.specs.Effects.{Config, no_effect}
use Rattle.protocol.specs.Facts.{last_ballot}
use Rattle.protocol.specs.Kept.{kept_leader, kept_memory}
use Rattle.protocol.specs.Leaders.{on_leader_message}
use Rattle.protocol.specs.Nodes.{Memory, Input, Asked, Received, ReceivedNoise, in_memory, of_leader, effect_of, is_message_inside}
use Rattle.protocol.proofs.Kept.Leaders.{kept_commit, kept_status, kept_timeout, message_forgets}
use Rattle.floors.specs.Nodes.{is_input_below}

-- whatever a leader is handed
pub leader_forgets : (config : Config) (l : ℕ) (floor : Option Place) (facts : List Fact) (memory : Memory) (input : Input)
    → is_input_below floor input ≡ false
    → effect_of config (L l) facts (kept_memory floor memory) input
    ≡ in_memory (kept_memory floor) (effect_of config (L l) facts memory input)
leader_forgets config l floor facts memory (Received m) above = by_test (is_message_inside config m)
  where
    by_test : (t : Bool)
        → (if t then of_leader (kept_memory floor memory) (on_leader_message config (last_ballot facts) (kept_leader floor memory.leader) m)
        else no_effect (kept_memory floor memory))
        ≡ in_memory (kept_memory floor)
        (if t then of_leader memory (on_leader_message config (last_ballot facts) memory.leader m) else no_effect memory)
    by_test true =
        ap (of_leader (kept_memory floor memory)) (message_forgets config floor (last_ballot facts) memory.leader m above)
    by_test false = refl
leader_forgets config l floor facts memory ReceivedNoise above = refl
leader_forgets config l floor facts memory (Asked (requests.Commit tx)) above =
    ap (of_leader (kept_memory floor memory)) (kept_commit floor tx above config (last_ballot facts) memory.leader)
leader_forgets config l floor facts memory (Asked (requests.Status tx)) above =
    ap (of_leader (kept_memory floor memory)) (kept_status floor tx above config (last_ballot facts) memory.leader)
leader_forgets config l floor facts memory (Asked (requests.Timeout tx)) above =
    ap (of_leader (kept_memory floor memory)) (kept_timeout floor tx above config (last_ballot facts) l memory.leader)
leader_forgets config l floor facts memory (Asked (requests.Call x action)) above = refl
leader_forgets config l floor facts memory (Asked requests.Recover) above = refl
leader_forgets config l floor facts memory (Asked (requests.View tx)) above = refl
