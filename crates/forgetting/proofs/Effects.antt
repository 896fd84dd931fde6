-- What a node does on an input that isn't below its floor, by few facts and by all.
use Rattle.std.proofs.Common.{◌≡◌, ◌∙◌, ℕ, Bool, true, false, if◌then◌else◌, ◌&&◌, List, [], Option, None, refl, sym, ap}
use Rattle.xid.specs.Names.{XidParts}
use Rattle.xid.specs.Transactions.{xid_at}
use Rattle.wire.specs.Messages.{message_tx}
use Rattle.wire.specs.declared.message.Kind.{Kind}
use Rattle.wire.specs.declared.message.Kind.TheVariants as kinds
use Rattle.ballot.specs.declared.slot.Slot.{Slot}
use Rattle.protocol.specs.Basics.{Fact}
use Rattle.protocol.specs.declared.requests.Request.TheVariants as requests
use Rattle.protocol.specs.declared.states.View.TheVariants as views
use Rattle.safety.specs.Vocabulary.{NodeId, A, L, R, Action}
use Rattle.protocol.specs.Acceptors.{on_acceptor_message}
use Rattle.protocol.specs.Effects.{Config, Effect, no_effect, is_inside}
use Rattle.protocol.specs.Facts.{slot, last_ballot}
use Rattle.protocol.specs.Leaders.{on_leader_message, on_commit_call, on_status_call, on_leader_timeout}
use Rattle.protocol.specs.Managers.{Branch, StoredVotes, stored_votes, on_manager_message, on_manager_timeout, on_view_call, on_call}
use Rattle.protocol.specs.Managers.{on_recover}
use Rattle.protocol.specs.Nodes.{Memory, Input, Asked, Received, ReceivedNoise, in_memory, of_leader, of_manager, on_message, effect_of}
use Rattle.protocol.specs.Nodes.{is_acceptor_inside, is_form_of, is_message_inside, first_rows}
use Rattle.protocol.specs.Tables.{table}
use Rattle.resource_manager.specs.Courses.{vote_among, view_among}
use Rattle.xid.specs.Places.{Place, is_below, is_xid_below}
use Rattle.protocol.proofs.Local.{acceptor_local, leader_local, manager_local, votes_on}
use Rattle.floors.specs.Nodes.{is_input_below}
use Rattle.protocol.specs.Kept.{kept_memory}
use Rattle.floors.proofs.Forgetting.{leader_forgets}
use Rattle.resource_manager.specs.Left.{rows_of, AreAlike}
use Rattle.forgetting.specs.Above.{ManagerSays, Says}
use Rattle.forgetting.proofs.Saying.{votes_same}

-- ---- by few facts and by all, with the same memory

module _ (floor : Option Place) (few all : List Fact) where
  -- an acceptor
  acceptor_same : (config : Config) (a : ℕ) → Says (A a) floor few all → (memory : Memory) (input : Input)
      → is_input_below floor input ≡ false → effect_of config (A a) few memory input ≡ effect_of config (A a) all memory input
  acceptor_same config a says memory (Received m) above =
      ap (λ (e : Effect Memory). if is_message_inside config m then e else no_effect memory)
      (ap (in_memory (λ none. memory))
      (acceptor_local config a (slot few) m
      ∙ ap (λ (s : ℕ → Slot). on_acceptor_message config a (λ tx. s) m) (says (message_tx m) above)
      ∙ sym (acceptor_local config a (slot all) m)))
  acceptor_same config a says memory (Asked request) above = refl
  acceptor_same config a says memory ReceivedNoise above = refl

  -- a leader
  leader_same : (config : Config) (l : ℕ) → Says (L l) floor few all → (memory : Memory) (input : Input)
      → is_input_below floor input ≡ false → effect_of config (L l) few memory input ≡ effect_of config (L l) all memory input
  leader_same config l says memory (Asked (requests.Commit tx)) above =
      ap (λ (b : ℕ). of_leader memory (on_commit_call config (λ t. b) memory.leader tx)) (says tx above)
  leader_same config l says memory (Asked (requests.Status tx)) above =
      ap (λ (b : ℕ). of_leader memory (on_status_call config (λ t. b) memory.leader tx)) (says tx above)
  leader_same config l says memory (Asked (requests.Timeout tx)) above =
      ap (λ (b : ℕ). of_leader memory (on_leader_timeout config l (λ t. b) memory.leader tx)) (says tx above)
  leader_same config l says memory (Asked (requests.Call x action)) above = refl
  leader_same config l says memory (Asked requests.Recover) above = refl
  leader_same config l says memory (Asked (requests.View tx)) above = refl
  leader_same config l says memory (Received m) above =
      ap (λ (e : Effect Memory). if is_message_inside config m then e else no_effect memory)
      (ap (of_leader memory)
      (leader_local config (last_ballot few) memory.leader m
      ∙ ap (λ (b : ℕ). on_leader_message config (λ tx. b) memory.leader m) (says (message_tx m) above)
      ∙ sym (leader_local config (last_ballot all) memory.leader m)))
  leader_same config l says memory ReceivedNoise above = refl

  -- a resource manager, also where its table began with other rows
  module _ (from config : Config) (rm : ℕ) (alike : from ≡ record config { tables = from.tables }) (says : ManagerSays rm floor few all)
      (rows : table (first_rows from rm) few ≡ table (first_rows config rm) all) where
    acceptor_inside : (m : Kind) → is_acceptor_inside (record config { tables = from.tables }) m ≡ is_acceptor_inside config m
    acceptor_inside (kinds.P1b tx i b report a) = refl
    acceptor_inside (kinds.P2b tx i b v a) = refl
    acceptor_inside (kinds.B1b tx b a reports) = refl
    acceptor_inside (kinds.B2b tx a accepts) = refl
    acceptor_inside m = refl

    inside : (m : Kind) → is_message_inside from m ≡ is_message_inside config m
    inside m =
        ap (λ (c : Config). is_message_inside c m) alike
        ∙ ap (λ (b : Bool). is_inside config (message_tx m) && b && is_form_of config.bundled m) (acceptor_inside m)

    message_same : (memory : Memory) (m : Kind) → is_below floor (message_tx m) ≡ false
        → on_message from (R rm) few memory m ≡ on_message config (R rm) all memory m
    message_same memory m above =
        ap (of_manager memory)
        (manager_local rm (stored_votes rm few) memory.branches (xid_at (message_tx m) rm) m
        ∙ ap (λ (v : StoredVotes). on_manager_message rm v memory.branches (xid_at (message_tx m) rm) m)
        (votes_same rm floor few all says (message_tx m) above)
        ∙ sym (manager_local rm (stored_votes rm all) memory.branches (xid_at (message_tx m) rm) m))

    call_same : (branches : List Branch) (x : XidParts) (action : Action) → is_xid_below floor x ≡ false
        → on_call rm (stored_votes rm few) (table (first_rows from rm) few) branches x action
        ≡ on_call rm (stored_votes rm all) (table (first_rows config rm) all) branches x action
    call_same branches x action above = λ k.
        on_call rm (votes_on None false views.Working (says.spent_are x above k) (says.bound_are k)) (rows k) branches x action

    pub manager_same : (memory : Memory) (input : Input) → is_input_below floor input ≡ false
        → effect_of from (R rm) few memory input ≡ effect_of config (R rm) all memory input
    manager_same memory (Asked (requests.Call x action)) above = ap (of_manager memory) (call_same memory.branches x action above)
    manager_same memory (Asked requests.Recover) above = λ k.
        of_manager memory (on_recover rm (votes_on None false views.Working false (says.bound_are k)) memory.branches)
    manager_same memory (Asked (requests.View tx)) above = λ k.
        of_manager memory
        (on_view_call (alike k) rm (votes_on None false (view_among (says.stored_are tx above k)) false []) memory.branches tx)
    manager_same memory (Asked (requests.Timeout tx)) above = λ k.
        of_manager memory (on_manager_timeout (alike k) rm
        (votes_on (vote_among (says.stored_are tx above k)) false (view_among (says.stored_are tx above k)) false []) memory.branches tx)
    manager_same memory (Asked (requests.Commit tx)) above = refl
    manager_same memory (Asked (requests.Status tx)) above = refl
    manager_same memory (Received m) above = λ k.
        if inside m k then message_same memory m above k else no_effect memory
    manager_same memory ReceivedNoise above = refl

-- ---- with what is kept of the memory

-- a resource manager's branches are kept, and an acceptor has nothing in memory
module _ (config : Config) (floor : Option Place) (all : List Fact) (memory : Memory) where
  abbrev K : Memory → Memory
  K = kept_memory floor

  acceptor_forgets : (a : ℕ) (input : Input)
      → effect_of config (A a) all (K memory) input ≡ in_memory K (effect_of config (A a) all memory input)
  acceptor_forgets a (Received m) = by_test (is_message_inside config m)
    where
      by_test : (t : Bool)
          → (if t then on_message config (A a) all (K memory) m else no_effect (K memory))
          ≡ in_memory K (if t then on_message config (A a) all memory m else no_effect memory)
      by_test true = refl
      by_test false = refl
  acceptor_forgets a (Asked request) = refl
  acceptor_forgets a ReceivedNoise = refl

  manager_forgets : (rm : ℕ) (input : Input)
      → effect_of config (R rm) all (K memory) input ≡ in_memory K (effect_of config (R rm) all memory input)
  manager_forgets rm (Received m) = by_test (is_message_inside config m)
    where
      by_test : (t : Bool)
          → (if t then on_message config (R rm) all (K memory) m else no_effect (K memory))
          ≡ in_memory K (if t then on_message config (R rm) all memory m else no_effect memory)
      by_test true = refl
      by_test false = refl
  manager_forgets rm (Asked (requests.Call x action)) = refl
  manager_forgets rm (Asked requests.Recover) = refl
  manager_forgets rm (Asked (requests.View tx)) = refl
  manager_forgets rm (Asked (requests.Commit tx)) = refl
  manager_forgets rm (Asked (requests.Status tx)) = refl
  manager_forgets rm (Asked (requests.Timeout tx)) = refl
  manager_forgets rm ReceivedNoise = refl

-- whatever node it is: the same, but that of the memory less is kept
pub effect_above : (from config : Config) (who : NodeId) (floor : Option Place) (few all : List Fact) (memory : Memory) (input : Input)
    → AreAlike who from config → Says who floor few all → rows_of from who few ≡ rows_of config who all
    → is_input_below floor input ≡ false
    → effect_of from who few (kept_memory floor memory) input ≡ in_memory (kept_memory floor) (effect_of config who all memory input)
effect_above from config (A a) floor few all memory input alike says rows above =
    ap (λ (c : Config). effect_of c (A a) few (kept_memory floor memory) input) alike
    ∙ acceptor_same floor few all config a says (kept_memory floor memory) input above ∙ acceptor_forgets config floor all memory a input
effect_above from config (L l) floor few all memory input alike says rows above =
    ap (λ (c : Config). effect_of c (L l) few (kept_memory floor memory) input) alike
    ∙ leader_same floor few all config l says (kept_memory floor memory) input above
    ∙ leader_forgets config l floor all memory input above
effect_above from config (R rm) floor few all memory input alike says rows above =
    manager_same floor few all from config rm alike says rows (kept_memory floor memory) input above
    ∙ manager_forgets config floor all memory rm input
