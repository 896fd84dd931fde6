-- What a node answers below its floor.
use Rattle.std.proofs.Common.{◌≡◌, ◌≢◌, ◌∙◌, ℕ, Bool, true, false, not, ◌&&◌, if◌then◌else◌, [], Option, refl, ap}
use Rattle.std.proofs.lemmas.Bool.{cond-true, and_from}
use Rattle.xid.specs.Names.{XidParts}
use Rattle.xid.specs.declared.codes.XaCode.TheVariants.{DupId, Nota}
use Rattle.xid.specs.declared.refusals.Refusal.TheVariants.{NoSuch, Forgotten}
use Rattle.protocol.specs.declared.requests.Request.{Request}
use Rattle.protocol.specs.declared.requests.Request.TheVariants as requests
use Rattle.safety.specs.Vocabulary.{NodeId, R, Action, Start, Put, Del, Get, End, EndFail, Rollback, Code, Refused}
use Rattle.protocol.specs.Effects.{Config}
use Rattle.protocol.specs.Nodes.{NodeState, Input, Asked, Fault, Outcome, accepts_input, accepts_request, node_step, answer_outcome}
use Rattle.protocol.specs.Nodes.{down_answer}
use Rattle.xid.specs.Places.{Place, is_xid_below}
use Rattle.floors.specs.Nodes.{floored_node_step, forgotten_answer, is_passed_over, is_input_below, is_request_below}
use Rattle.floors.proofs.Nodes.{floored_is, ended}

module _ (config : Config) (who : NodeId) (floor : Option Place) (node : NodeState) (input : Input) (fault : Fault) where
  passed_is : accepts_input who input ≡ true → node.up ≡ true → is_input_below floor input ≡ true
      → floored_node_step config who floor node input fault ≡ answer_outcome node (forgotten_answer input)
  passed_is takes up below =
      floored_is config who floor node input fault
      ∙ cond-true (is_passed_over who floor node input) (answer_outcome node (forgotten_answer input))
      (node_step config who node input fault)
      (and_from (accepts_input who input && node.up) (is_input_below floor input)
      (and_from (accepts_input who input) node.up takes up) below)

  silent_by : (takes up : Bool)
      → (if not takes then answer_outcome node (Refused NoSuch)
      else if not up then answer_outcome node (down_answer input)
      else answer_outcome node (forgotten_answer input)).sends ≡ []
  silent_by false up = refl
  silent_by true false = refl
  silent_by true true = refl

  pub below_silent : is_input_below floor input ≡ true → (floored_node_step config who floor node input fault).sends ≡ []
  below_silent e =
      ap (λ (b : Bool). (if not (accepts_input who input) then answer_outcome node (Refused NoSuch)
      else if not node.up then answer_outcome node (down_answer input)
      else if b then answer_outcome node (forgotten_answer input)
      else ended config who floor node input fault).sends) e
      ∙ silent_by (accepts_input who input) node.up

module _ (config : Config) (rm : ℕ) (floor : Option Place) (node : NodeState) (x : XidParts) where
  pub start_refused : (fault : Fault) → node.up ≡ true → is_xid_below floor x ≡ true
      → (floored_node_step config (R rm) floor node (Asked (requests.Call x Start)) fault).answer ≡ Code DupId
  start_refused fault up below =
      ap (λ (o : Outcome). o.answer) (passed_is config (R rm) floor node (Asked (requests.Call x Start)) fault refl up below)

  other_call : (action : Action) → action ≢ Start → forgotten_answer (Asked (requests.Call x action)) ≡ Code Nota
  other_call Start other = absurd (other refl)
  other_call (Put key value) other = refl
  other_call (Del key) other = refl
  other_call (Get key) other = refl
  other_call End other = refl
  other_call EndFail other = refl
  other_call Rollback other = refl

  pub call_refused : (action : Action) (fault : Fault) → node.up ≡ true → is_xid_below floor x ≡ true → action ≢ Start
      → (floored_node_step config (R rm) floor node (Asked (requests.Call x action)) fault).answer ≡ Code Nota
  call_refused action fault up below other =
      ap (λ (o : Outcome). o.answer) (passed_is config (R rm) floor node (Asked (requests.Call x action)) fault refl up below)
      ∙ other_call action other

other_request : (request : Request) → ((x : XidParts) (action : Action) → request ≢ requests.Call x action)
    → forgotten_answer (Asked request) ≡ Refused Forgotten
other_request (requests.Call x action) other = absurd (other x action refl)
other_request requests.Recover other = refl
other_request (requests.View tx) other = refl
other_request (requests.Commit tx) other = refl
other_request (requests.Status tx) other = refl
other_request (requests.Timeout tx) other = refl

pub request_refused : (config : Config) (who : NodeId) (floor : Option Place) (node : NodeState) (request : Request) (fault : Fault)
    → node.up ≡ true → accepts_request who request ≡ true → is_request_below floor request ≡ true
    → ((x : XidParts) (action : Action) → request ≢ requests.Call x action)
    → (floored_node_step config who floor node (Asked request) fault).answer ≡ Refused Forgotten
request_refused config who floor node request fault up takes below other =
    ap (λ (o : Outcome). o.answer) (passed_is config who floor node (Asked request) fault takes up below) ∙ other_request request other
