-- On an input that isn't below its floor a node does by the facts about names at or above it what it does by all of them.
use Rattle.std.proofs.Common.{◌≡◌, ◌∙◌, ℕ, false, if◌then◌else◌, List, [], Option, None, refl, sym, ap}
use Rattle.std.specs.Prelude.{find}
use Rattle.xid.specs.Names.{XidParts}
use Rattle.xid.specs.Places.{Place, is_below, is_xid_below}
use Rattle.xid.specs.Transactions.{TxParts, is_at, xid_at}
use Rattle.wire.specs.Messages.{message_tx}
use Rattle.wire.specs.declared.message.Kind.{Kind}
use Rattle.ballot.specs.declared.slot.Slot.{Slot}
use Rattle.protocol.specs.Basics.{Fact}
use Rattle.protocol.specs.declared.requests.Request.TheVariants as requests
use Rattle.protocol.specs.declared.states.View.TheVariants as views
use Rattle.safety.specs.Vocabulary.{NodeId, A, L, R, Action, Row}
use Rattle.protocol.specs.Acceptors.{on_acceptor_message}
use Rattle.protocol.specs.Effects.{Config, Effect, no_effect}
use Rattle.protocol.specs.Facts.{slot, last_ballot, view, bound_branches}
use Rattle.protocol.specs.Kept.{kept_facts}
use Rattle.protocol.specs.Leaders.{on_leader_message, on_commit_call, on_status_call, on_leader_timeout}
use Rattle.protocol.specs.Managers.{Branch, StoredVotes, stored_votes, on_manager_message, on_manager_timeout, on_view_call, on_call}
use Rattle.protocol.specs.Managers.{on_recover}
use Rattle.protocol.specs.Nodes.{Memory, Input, Asked, Received, ReceivedNoise, in_memory, of_leader, of_manager, on_message, effect_of}
use Rattle.protocol.specs.Nodes.{is_message_inside, first_rows}
use Rattle.protocol.specs.Tables.{table}
use Rattle.protocol.proofs.Kept.Facts.{bound_kept, ended_kept, last_ballot_kept, name_above, slot_kept, spent_kept, view_kept, vote_kept}
use Rattle.protocol.proofs.Local.{acceptor_local, leader_local, manager_local, votes_at, votes_on}
use Rattle.floors.specs.Nodes.{is_input_below}
use Rattle.floors.specs.Kept.{kept_effect}

-- ---- effects

module _ (config : Config) (floor : Option Place) (facts : List Fact) where
  abbrev few : List Fact
  few = kept_facts floor facts

  acceptor_kept : (a : ℕ) (memory : Memory) (m : Kind) → is_below floor (message_tx m) ≡ false
      → on_message config (A a) few memory m ≡ on_message config (A a) facts memory m
  acceptor_kept a memory m above =
      ap (in_memory (λ none. memory))
      (acceptor_local config a (slot few) m
      ∙ ap (λ (s : ℕ → Slot). on_acceptor_message config a (λ tx. s) m) (slot_kept floor (message_tx m) above facts)
      ∙ sym (acceptor_local config a (slot facts) m))

  leader_kept : (l : ℕ) (memory : Memory) (m : Kind) → is_below floor (message_tx m) ≡ false
      → on_message config (L l) few memory m ≡ on_message config (L l) facts memory m
  leader_kept l memory m above =
      ap (of_leader memory)
      (leader_local config (last_ballot few) memory.leader m
      ∙ ap (λ (b : ℕ). on_leader_message config (λ tx. b) memory.leader m) (last_ballot_kept floor (message_tx m) above facts)
      ∙ sym (leader_local config (last_ballot facts) memory.leader m))

  module _ (rm : ℕ) (prepared : (tx : TxParts) → view facts tx ≡ views.Prepared → is_below floor tx ≡ false) where
    abbrev less : StoredVotes
    less = stored_votes rm few

    abbrev full : StoredVotes
    full = stored_votes rm facts

    bound_same : bound_branches few ≡ bound_branches facts
    bound_same = bound_kept floor facts prepared

    module _ (tx : TxParts) (above : is_below floor tx ≡ false) where
      -- one transaction's votes, between the two
      votes_same : votes_at less tx (xid_at tx rm) ≡ votes_at full tx (xid_at tx rm)
      votes_same = λ k. votes_on (vote_kept floor tx above facts k) (ended_kept floor tx above facts k) (view_kept floor tx above facts k)
          (name_above floor facts tx rm above (find (is_at rm) tx.branches) k) (bound_same k)

    manager_kept : (memory : Memory) (m : Kind) → is_below floor (message_tx m) ≡ false
        → on_message config (R rm) few memory m ≡ on_message config (R rm) facts memory m
    manager_kept memory m above =
        ap (of_manager memory)
        (manager_local rm less memory.branches (xid_at (message_tx m) rm) m
        ∙ ap (λ (v : StoredVotes). on_manager_message rm v memory.branches (xid_at (message_tx m) rm) m) (votes_same (message_tx m) above)
        ∙ sym (manager_local rm full memory.branches (xid_at (message_tx m) rm) m))

    call_kept : (rows : List Row) (branches : List Branch) (x : XidParts) (action : Action) → is_xid_below floor x ≡ false
        → on_call rm less rows branches x action ≡ on_call rm full rows branches x action
    call_kept rows branches x action above = λ k.
        on_call rm (votes_on None false views.Working (spent_kept floor rm x above facts k) (bound_same k)) rows branches x action

    manager_input : (memory : Memory) (input : Input) → is_input_below floor input ≡ false
        → kept_effect config (R rm) floor facts memory input ≡ effect_of config (R rm) facts memory input
    manager_input memory (Asked (requests.Call x action)) above =
        ap (of_manager memory) (call_kept (table (first_rows config rm) facts) memory.branches x action above)
    manager_input memory (Asked requests.Recover) above = λ k.
        of_manager memory (on_recover rm (votes_on None false views.Working false (bound_same k)) memory.branches)
    manager_input memory (Asked (requests.View tx)) above = λ k.
        of_manager memory
        (on_view_call config rm (votes_on None false (view_kept floor tx above facts k) false []) memory.branches tx)
    manager_input memory (Asked (requests.Timeout tx)) above = λ k.
        of_manager memory (on_manager_timeout config rm
        (votes_on (vote_kept floor tx above facts k) false (view_kept floor tx above facts k) false []) memory.branches tx)
    manager_input memory (Asked (requests.Commit tx)) above = refl
    manager_input memory (Asked (requests.Status tx)) above = refl
    manager_input memory (Received m) above =
        ap (λ (e : Effect Memory). if is_message_inside config m then e else no_effect memory) (manager_kept memory m above)
    manager_input memory ReceivedNoise above = refl

  leader_input : (l : ℕ) (memory : Memory) (input : Input) → is_input_below floor input ≡ false
      → kept_effect config (L l) floor facts memory input ≡ effect_of config (L l) facts memory input
  leader_input l memory (Asked (requests.Commit tx)) above =
      ap (λ (b : ℕ). of_leader memory (on_commit_call config (λ t. b) memory.leader tx)) (last_ballot_kept floor tx above facts)
  leader_input l memory (Asked (requests.Status tx)) above =
      ap (λ (b : ℕ). of_leader memory (on_status_call config (λ t. b) memory.leader tx)) (last_ballot_kept floor tx above facts)
  leader_input l memory (Asked (requests.Timeout tx)) above =
      ap (λ (b : ℕ). of_leader memory (on_leader_timeout config l (λ t. b) memory.leader tx)) (last_ballot_kept floor tx above facts)
  leader_input l memory (Asked (requests.Call x action)) above = refl
  leader_input l memory (Asked requests.Recover) above = refl
  leader_input l memory (Asked (requests.View tx)) above = refl
  leader_input l memory (Received m) above =
      ap (λ (e : Effect Memory). if is_message_inside config m then e else no_effect memory) (leader_kept l memory m above)
  leader_input l memory ReceivedNoise above = refl

  acceptor_input : (a : ℕ) (memory : Memory) (input : Input) → is_input_below floor input ≡ false
      → kept_effect config (A a) floor facts memory input ≡ effect_of config (A a) facts memory input
  acceptor_input a memory (Received m) above =
      ap (λ (e : Effect Memory). if is_message_inside config m then e else no_effect memory) (acceptor_kept a memory m above)
  acceptor_input a memory (Asked request) above = refl
  acceptor_input a memory ReceivedNoise above = refl

-- whatever node it is; of a resource manager what is prepared is not below its floor
pub effect_kept : (config : Config) (who : NodeId) (floor : Option Place) (facts : List Fact) (memory : Memory) (input : Input)
    → is_input_below floor input ≡ false
    → ((rm : ℕ) → who ≡ R rm → (tx : TxParts) → view facts tx ≡ views.Prepared → is_below floor tx ≡ false)
    → kept_effect config who floor facts memory input ≡ effect_of config who facts memory input
effect_kept config (A a) floor facts memory input above prepared = acceptor_input config floor facts a memory input above
effect_kept config (L l) floor facts memory input above prepared = leader_input config floor facts l memory input above
effect_kept config (R rm) floor facts memory input above prepared =
    manager_input config floor facts rm (prepared rm refl) memory input above
