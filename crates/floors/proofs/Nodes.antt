-- A node with a floor does what a node does, or nothing.
use Rattle.std.proofs.Common.{◌≡◌, ◌⊎◌, inl, inr, ◌∙◌, Bool, true, false, not, ◌&&◌, if◌then◌else◌, List, [], ◌∷◌, ◌++◌, Option, Some}
use Rattle.std.proofs.Common.{None, ℕ, is_some, refl, sym, ap, subst}
use Rattle.std.specs.Prelude.{IfSome, map}
use Rattle.std.specs.Option.{option_to_list}
use Rattle.std.proofs.lemmas.Bool.{cond_both}
use Rattle.std.proofs.lemmas.List.{append-nil}
use Rattle.xid.specs.Names.{XidParts, xid_eq}
use Rattle.xid.specs.Transactions.{TxParts, tx_eq, xid_at}
use Rattle.xid.specs.declared.refusals.Refusal.TheVariants.{NoSuch}
use Rattle.xid.proofs.Deciding.{tx_decides}
use Rattle.wire.specs.Messages.{message_tx}
use Rattle.wire.specs.declared.message.Kind.{Kind}
use Rattle.wire.specs.declared.message.Kind.TheVariants as kinds
use Rattle.stable_record.specs.Facts.{fact_tx}
use Rattle.stable_record.specs.declared.fact.Touched.{Touched}
use Rattle.ballot.specs.Greatest.{IsIn}
use Rattle.protocol.specs.Basics.{Fact}
use Rattle.protocol.specs.declared.requests.Request.TheVariants as requests
use Rattle.protocol.specs.declared.states.View.TheVariants as views
use Rattle.protocol.specs.declared.states.BranchState.{BranchState}
use Rattle.safety.specs.Vocabulary.{NodeId, R, Action, Start, Put, Del, Get, End, EndFail, Rollback, Refused}
use Rattle.protocol.specs.Branches.{is_done}
use Rattle.protocol.specs.Effects.{Config, Effect, is_inside}
use Rattle.protocol.specs.Facts.{view, is_open_view, is_prepared_view}
use Rattle.protocol.specs.Tables.{table}
use Rattle.protocol.specs.Managers.{Branch, StoredVotes, stored_votes, branch_after, branches_without, after_call, first_vote, idle_keys}
use Rattle.protocol.specs.Managers.{on_manager_message, on_call}
use Rattle.protocol.specs.Nodes.{NodeState, Memory, empty_memory, Input, Asked, Received, ReceivedNoise, Fault, NoMemoryAt, RecordFails}
use Rattle.protocol.specs.Nodes.{Outcome, accepts_input, effect_of, first_rows, is_message_inside, node_step, answer_outcome, down_answer}
use Rattle.protocol.specs.Nodes.{effect_outcome, restart_outcome, compact_outcome, all_play}
use Rattle.protocol.proofs.Lists.{IsIn-mapped, IsIn-push, filter_kept}
use Rattle.protocol.proofs.Manager.Keys.{changed_name}
use Rattle.safety.proofs.World.Outcomes.{step_is}
use Rattle.xid.specs.Places.{Place, is_below, is_xid_below}
use Rattle.safety.proofs.World.Changes.{view_other}
use Rattle.floors.specs.Nodes.{floored_node_step, is_passed_over, is_input_below, forgotten_answer}
use Rattle.floors.proofs.About.{IsOn, effect_about, on_above}

-- ---- the two ways

module _ (config : Config) (who : NodeId) (floor : Option Place) (node : NodeState) (input : Input) (fault : Fault) where
  abbrev pub ended : Outcome
  ended = effect_outcome node (effect_of config who node.facts node.memory input)
      (effect_of config who node.facts node.memory input).fact node.tear fault

  by_tests : (takes up below : Bool)
      → (if not takes then answer_outcome node (Refused NoSuch)
      else if not up then answer_outcome node (down_answer input)
      else if below then answer_outcome node (forgotten_answer input)
      else ended)
      ≡ (if takes && up && below then answer_outcome node (forgotten_answer input)
      else if not takes then answer_outcome node (Refused NoSuch)
      else if not up then answer_outcome node (down_answer input)
      else ended)
  by_tests false up below = refl
  by_tests true false below = refl
  by_tests true true true = refl
  by_tests true true false = refl

  -- it passes over what is below its floor, or does what it does without one
  pub floored_is : floored_node_step config who floor node input fault
      ≡ (if is_passed_over who floor node input then answer_outcome node (forgotten_answer input)
      else node_step config who node input fault)
  floored_is = by_tests (accepts_input who input) node.up (is_input_below floor input)

  below_by : (takes up : Bool)
      → (if not takes then answer_outcome node (Refused NoSuch)
      else if not up then answer_outcome node (down_answer input)
      else answer_outcome node (forgotten_answer input)).node ≡ node
  below_by false up = refl
  below_by true false = refl
  below_by true true = refl

  -- below its floor a node stays as it is
  pub below_stays : is_input_below floor input ≡ true → (floored_node_step config who floor node input fault).node ≡ node
  below_stays e =
      ap (λ (b : Bool). (if not (accepts_input who input) then answer_outcome node (Refused NoSuch)
      else if not node.up then answer_outcome node (down_answer input)
      else if b then answer_outcome node (forgotten_answer input)
      else ended).node) e
      ∙ below_by (accepts_input who input) node.up

  -- and elsewhere it is as without one
  pub above_is : is_input_below floor input ≡ false
      → floored_node_step config who floor node input fault ≡ node_step config who node input fault
  above_is e =
      ap (λ (b : Bool). if not (accepts_input who input) then answer_outcome node (Refused NoSuch)
      else if not node.up then answer_outcome node (down_answer input)
      else if b then answer_outcome node (forgotten_answer input)
      else ended) e

-- ---- views

-- a view is moved by an input on its transaction alone
abbrev IsMovedBy : Input → TxParts → List Fact → List Fact → Type 0
IsMovedBy input tx before after = (view after tx ≡ view before tx) ⊎ IsOn input tx

fact_moves : (input : Input) (tx : TxParts) (facts : List Fact) (fact : Option Fact) → IfSome fact (λ f. IsOn input (fact_tx f))
    → IsMovedBy input tx facts (facts ++ option_to_list fact)
fact_moves input tx facts None on = inl (ap (λ (fs : List Fact). view fs tx) (append-nil facts))
fact_moves input tx facts (Some fact) on = by_test (tx_eq tx (fact_tx fact)) refl
  where
    by_test : (t : Bool) → tx_eq tx (fact_tx fact) ≡ t → IsMovedBy input tx facts (facts ++ fact ∷ [])
    by_test true e = inr (subst (IsOn input) (sym ((tx_decides tx (fact_tx fact)).0 e)) on)
    by_test false e = inl (view_other facts fact tx e)

input_moves : (config : Config) (who : NodeId) (node : NodeState) (input : Input) (fault : Fault) (tx : TxParts)
    → IsMovedBy input tx node.facts (node_step config who node input fault).node.facts
input_moves config who node input fault tx =
    let e = effect_of config who node.facts node.memory input in
    let by = λ (facts : List Fact) (same : facts ≡ node.facts ++ option_to_list e.fact).
    subst (IsMovedBy input tx node.facts) (sym same)
    (fact_moves input tx node.facts e.fact (effect_about config who node.facts node.memory input).stored) in
    elim (step_is config who node input fault) [
      | inl keeps ↦ inl (ap (λ (fs : List Fact). view fs tx) keeps.facts)
      | inr (inl stopped) ↦ by _ stopped.facts
      | inr (inr finished) ↦ by _ finished.facts
    ]

-- ---- branches

-- the names of branches pass
abbrev pub NamesPass : (XidParts → Type 0) → List Branch → Type 0
NamesPass P branches = (b : Branch) → IsIn branches b → P b.xid

module _ (P : XidParts → Type 0) where
  without_named : (branches : List Branch) (x : XidParts) → NamesPass P branches → NamesPass P (branches_without branches x)
  without_named branches x named b h = named b (filter_kept (λ (c : Branch). not (xid_eq c.xid x)) branches b h).0

  changed_named : (branches : List Branch) (x : XidParts) (action : Action) → NamesPass P branches
      → NamesPass P (map (λ branch. if xid_eq branch.xid x then branch_after action branch else branch) branches)
  changed_named branches x action named b h =
      let change = λ (branch : Branch). if xid_eq branch.xid x then branch_after action branch else branch in
      let from = IsIn-mapped change branches b h in
      let name : (change from.source).xid ≡ from.source.xid =
      cond_both (xid_eq from.source.xid x) (branch_after action from.source) from.source (λ (c : Branch). c.xid ≡ from.source.xid)
      (λ same. changed_name action from.source) (λ other. refl) in
      subst P (sym name ∙ ap (λ (c : Branch). c.xid) from.maps) (named from.source from.among)

  called_named : (branches : List Branch) (x : XidParts) (action : Action) → P x → NamesPass P branches
      → NamesPass P (after_call branches x action)
  called_named branches x Start p named b h =
      elim (IsIn-push branches (record { xid = x; state = BranchState.Active; keys = [] }) b h) [
        | inl old ↦ named b old
        | inr new ↦ subst P (ap (λ (c : Branch). c.xid) new) p
      ]
  called_named branches x Rollback p named b h = without_named branches x named b h
  called_named branches x (Put key value) p named b h = changed_named branches x (Put key value) named b h
  called_named branches x (Del key) p named b h = changed_named branches x (Del key) named b h
  called_named branches x (Get key) p named b h = changed_named branches x (Get key) named b h
  called_named branches x End p named b h = changed_named branches x End named b h
  called_named branches x EndFail p named b h = changed_named branches x EndFail named b h

  abbrev LeavesNamed : Effect (List Branch) → Type 0
  LeavesNamed e = NamesPass P e.memory

  module _ (rm : ℕ) (votes : StoredVotes) (branches : List Branch) (named : NamesPass P branches) where
    first_named : (tx : TxParts) (x : XidParts) (spent : Bool) (idle : Option (List Touched))
        → LeavesNamed (first_vote rm branches tx x spent idle)
    first_named tx x false (Some keys) = without_named branches x named
    first_named tx x spent idle = without_named branches x named

    message_named : (o : Option XidParts) (m : Kind) → LeavesNamed (on_manager_message rm votes branches o m)
    message_named (Some x) (kinds.Prepare tx) =
        cond_both (is_some (votes.vote tx)) _ _ LeavesNamed (λ some. named)
        (λ new. cond_both (votes.is_ended tx) _ _ LeavesNamed (λ ended. named)
        (λ unended. first_named tx x (votes.is_spent x) (idle_keys branches x)))
    message_named (Some x) (kinds.Commit tx) =
        cond_both (is_prepared_view (votes.view tx)) _ _ LeavesNamed (λ is. named) (λ other. named)
    message_named (Some x) (kinds.Abort tx) =
        cond_both (is_open_view (votes.view tx)) _ _ LeavesNamed (λ is. without_named branches x named) (λ other. named)
    message_named (Some x) m = named
    message_named None m = named

-- the name of the branch that is called passes
abbrev IsCalled : (XidParts → Type 0) → Input → Type 0
IsCalled P (Asked (requests.Call x action)) = P x
IsCalled P input = Unit {0}

effect_named : (P : XidParts → Type 0) (config : Config) (rm : ℕ) (facts : List Fact) (memory : Memory) (input : Input)
    → IsCalled P input → NamesPass P memory.branches → NamesPass P (effect_of config (R rm) facts memory input).memory.branches
effect_named P config rm facts memory (Received m) called named =
    cond_both (is_message_inside config m) _ _ (λ (e : Effect Memory). NamesPass P e.memory.branches)
    (λ inside. message_named P rm (stored_votes rm facts) memory.branches named (xid_at (message_tx m) rm) m) (λ outside. named)
effect_named P config rm facts memory ReceivedNoise called named = named
effect_named P config rm facts memory (Asked (requests.Call x action)) called named =
    cond_both (is_done action (on_call rm (stored_votes rm facts) (table (first_rows config rm) facts) memory.branches x action).answer)
    (after_call memory.branches x action) memory.branches (NamesPass P)
    (λ done. called_named P memory.branches x action called named) (λ other. named)
effect_named P config rm facts memory (Asked (requests.Timeout tx)) called named =
    cond_both (is_inside config tx) _ _ (λ (e : Effect (List Branch)). NamesPass P e.memory) (λ inside. named) (λ outside. named)
effect_named P config rm facts memory (Asked requests.Recover) called named = named
effect_named P config rm facts memory (Asked (requests.View tx)) called named = named
effect_named P config rm facts memory (Asked (requests.Commit tx)) called named = named
effect_named P config rm facts memory (Asked (requests.Status tx)) called named = named

-- ---- a resource manager's node

-- what it has prepared, and the branches that it keeps in memory, are not below a floor
pub record IsAboveFloor (floor : Option Place) (node : NodeState) : Type 0 where
  pub prepared : (tx : TxParts) → view node.facts tx ≡ views.Prepared → is_below floor tx ≡ false
  pub branches : NamesPass (λ x. is_xid_below floor x ≡ false) node.memory.branches

-- the facts stay, and the memory stays or is lost
pub kept_above : (floor : Option Place) (node left : NodeState) → left.facts ≡ node.facts
    → (left.memory ≡ node.memory) ⊎ (left.memory ≡ empty_memory) → IsAboveFloor floor node → IsAboveFloor floor left
kept_above floor node left facts memory above = record {
  prepared = λ tx is. above.prepared tx (ap (λ (fs : List Fact). view fs tx) (sym facts) ∙ is);
  branches = elim memory [
    | inl same ↦ subst (λ (m : Memory). NamesPass (λ x. is_xid_below floor x ≡ false) m.branches) (sym same) above.branches
    | inr lost ↦
        subst (λ (m : Memory). NamesPass (λ x. is_xid_below floor x ≡ false) m.branches) (sym lost) (λ b h. absurd h)
  ];
}

module _ (config : Config) (rm : ℕ) (floor : Option Place) (node : NodeState) (above : IsAboveFloor floor node) where
  called_above : (input : Input) → is_input_below floor input ≡ false → IsCalled (λ x. is_xid_below floor x ≡ false) input
  called_above (Asked (requests.Call x action)) e = e
  called_above (Asked requests.Recover) e = tt
  called_above (Asked (requests.View tx)) e = tt
  called_above (Asked (requests.Commit tx)) e = tt
  called_above (Asked (requests.Status tx)) e = tt
  called_above (Asked (requests.Timeout tx)) e = tt
  called_above (Received m) e = tt
  called_above ReceivedNoise e = tt

  pub step_above : (input : Input) (fault : Fault) → is_input_below floor input ≡ false
      → IsAboveFloor floor (node_step config (R rm) node input fault).node
  step_above input fault e = record {
    prepared = λ tx is. elim (input_moves config (R rm) node input fault tx) [
      | inl still ↦ above.prepared tx (sym still ∙ is)
      | inr on ↦ on_above floor input tx on e
    ];
    branches =
        let named = effect_named (λ x. is_xid_below floor x ≡ false) config rm node.facts node.memory input (called_above input e)
        above.branches in
        let by = λ (m : Memory) (b : NamesPass (λ x. is_xid_below floor x ≡ false) m.branches)
        (now : (node_step config (R rm) node input fault).node.memory ≡ m).
        subst (λ (k : Memory). NamesPass (λ x. is_xid_below floor x ≡ false) k.branches) (sym now) b in
        elim (step_is config (R rm) node input fault) [
          | inl keeps ↦ elim keeps.memory [
            | inl same ↦ by node.memory above.branches same
            | inr lost ↦ by empty_memory (λ b h. absurd h) lost
          ]
          | inr (inl stopped) ↦ by empty_memory (λ b h. absurd h) stopped.memory
          | inr (inr finished) ↦ by (effect_of config (R rm) node.facts node.memory input).memory named finished.memory
        ];
  }

  -- so it is after an input
  pub input_above : (input : Input) (fault : Fault) → IsAboveFloor floor (floored_node_step config (R rm) floor node input fault).node
  input_above input fault = by_test (is_input_below floor input) refl
    where
      by_test : (t : Bool) → is_input_below floor input ≡ t
          → IsAboveFloor floor (floored_node_step config (R rm) floor node input fault).node
      by_test true e = subst (IsAboveFloor floor) (sym (below_stays config (R rm) floor node input fault e)) above
      by_test false e =
          subst (λ (left : Outcome). IsAboveFloor floor left.node) (sym (above_is config (R rm) floor node input fault e))
          (step_above input fault e)

-- ---- other events keep facts

pub restart_forgets : (config : Config) (who : NodeId) (node : NodeState) (fault : Fault)
    → (restart_outcome config who node fault).node.memory ≡ empty_memory
restart_forgets config who node NoMemoryAt = refl
restart_forgets config who node (RecordFails whole) = refl
restart_forgets config who node fault =
    cond_both (all_play config who [] node.facts) _ _ (λ (left : Outcome). left.node.memory ≡ empty_memory) (λ plays. refl)
    (λ damaged. refl)

pub restart_silent : (config : Config) (who : NodeId) (node : NodeState) (fault : Fault)
    → (restart_outcome config who node fault).sends ≡ []
restart_silent config who node NoMemoryAt = refl
restart_silent config who node (RecordFails whole) = refl
restart_silent config who node fault =
    cond_both (all_play config who [] node.facts) _ _ (λ (left : Outcome). left.sends ≡ []) (λ plays. refl) (λ damaged. refl)

pub compact_memory : (node : NodeState) (fault : Fault)
    → ((compact_outcome node fault).node.memory ≡ node.memory) ⊎ ((compact_outcome node fault).node.memory ≡ empty_memory)
compact_memory node NoMemoryAt = inr refl
compact_memory node (RecordFails whole) = inr refl
compact_memory node fault = inl refl

pub compact_silent : (node : NodeState) (fault : Fault) → (compact_outcome node fault).sends ≡ []
compact_silent node NoMemoryAt = refl
compact_silent node (RecordFails whole) = refl
compact_silent node fault = refl
