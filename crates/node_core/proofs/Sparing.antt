-- Inputs that want no memory and store nothing are handled without a fault: what was decided is carried out, and the node stays up.
-- Needed by `accept`, `hear` and `serve`.
use Rattle.std.proofs.Common.{◌≡◌, ◌∙◌, ℕ, true, List, None, refl, sym, ap}
use Rattle.wire.specs.Grammar.{Spells}
use Rattle.wire.specs.declared.message.Kind.{Kind}
use Rattle.stable_record.specs.declared.fact.FactKind.{FactKind as Fact}
use Rattle.protocol.specs.declared.decisions.Decision.{Decision}
use Rattle.protocol.specs.declared.nodes.NodeId.{NodeId}
use Rattle.protocol.specs.declared.nodes.NodeId.TheVariants.{A, L, R}
use Rattle.protocol.specs.declared.requests.Request.{Request}
use Rattle.protocol.specs.Effects.{Config, Effect}
use Rattle.protocol.specs.Nodes.{Memory, Received, effect_of, is_message_inside, on_message}
use Rattle.node_core.specs.declared.role.Role.{Role}
use Rattle.node_core.specs.Roles.{RoleStands, IsDecided}
use Rattle.node_core.specs.Nodes.{datagram_input}
use Rattle.node_core.specs.Sparing.{asks_freely, hears_freely, is_free, serves_freely}
use Rattle.node_core.proofs.Hearing.{heard_is, is_received}

-- a role wants no memory for what a node of its kind wants none for
pub serves_so : (config : Config) (who : NodeId) (role : Role) (facts : List Fact) (memory : Memory) (request : Request)
    → RoleStands config who role facts memory → asks_freely who request ≡ true → serves_freely role request ≡ true
serves_so config (A a) (Role.Acceptor p) facts memory request s is = refl
serves_so config (L l) (Role.Leader p) facts memory request s is = is
serves_so config (R rm) (Role.Manager p) facts memory request s is = is
serves_so config who role facts memory request s is = absurd s

hears_by : (config : Config) (who : NodeId) (role : Role) (facts : List Fact) (memory : Memory) (message : Kind)
    → RoleStands config who role facts memory → is_free who (Received message) ≡ true → hears_freely role ≡ true
hears_by config (A a) (Role.Acceptor p) facts memory message s is = refl
hears_by config (L l) (Role.Leader p) facts memory message s is = is
hears_by config (R rm) (Role.Manager p) facts memory message s is = is
hears_by config who role facts memory message s is = absurd s

-- of a message that these bytes spell
pub hears_so : (config : Config) (who : NodeId) (role : Role) (facts : List Fact) (memory : Memory) (bytes : List ℕ) (message : Kind)
    → Spells message bytes → RoleStands config who role facts memory → is_free who (datagram_input bytes) ≡ true
    → hears_freely role ≡ true
hears_so config who role facts memory bytes message spells s is =
    hears_by config who role facts memory message s (sym (ap (is_free who) (is_received bytes message spells)) ∙ is)

-- where the effect stores nothing, nothing was decided that is to be stored
pub decides_nothing : (config : Config) (who : NodeId) (facts : List Fact) (memory : Memory) (role : Role) (decision : Decision)
    (e : Effect Memory) → IsDecided config who facts memory role decision e → e.fact ≡ None → decision.fact ≡ None
decides_nothing config who facts memory role decision e is none = ap (λ (d : Decision). d.fact) is.effect_is ∙ none

-- a message of the cluster has the effect of its rule
pub heard_fact : (config : Config) (who : NodeId) (facts : List Fact) (memory : Memory) (bytes : List ℕ) (message : Kind)
    → Spells message bytes → true ≡ is_message_inside config message
    → (effect_of config who facts memory (datagram_input bytes)).fact ≡ None
    → (on_message config who facts memory message).fact ≡ None
heard_fact config who facts memory bytes message spells inside none =
    sym (ap (λ (e : Effect Memory). e.fact) (heard_is config who facts memory bytes message true spells inside)) ∙ none
