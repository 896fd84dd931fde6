-- The role of a node: which state of the machine it stands for, what it decides, and what playing a fact leaves.
use Rattle.std.specs.Prelude.{◌≡◌, ℕ, true, false, List, [], ◌∷◌, ◌++◌, Option, Some, None, Result, Ok, Err}
use Rattle.xid.specs.declared.refusals.Refusal.{Refusal}
use Rattle.stable_record.specs.declared.fact.FactKind.{FactKind as Fact}
use Rattle.protocol.specs.declared.nodes.NodeId.{NodeId}
use Rattle.protocol.specs.declared.nodes.NodeId.TheVariants.{A, L, R}
use Rattle.protocol.specs.declared.decisions.Decision.{Decision}
use Rattle.protocol.specs.Effects.{Config, Effect, decision_of}
use Rattle.protocol.specs.LeaderMemory.{LeaderMemory, with_begun, with_met}
use Rattle.protocol.specs.Nodes.{Memory, empty_memory, plays}
use Rattle.acceptor.specs.Acceptors as of_acceptor
use Rattle.leader.specs.Leaders as of_leader
use Rattle.resource_manager.specs.Managers as of_manager
use Rattle.node_core.specs.declared.role.Role.{Role}
use Rattle.node_core.specs.declared.output.Output.{Output}
use Rattle.resource_manager.specs.declared.reminding.Reminder.{Reminder}
use Rattle.protocol.specs.declared.answers.Answer.{Answer}

-- a role is the one of this node of a cluster, and stands for these facts and this memory
abbrev pub RoleStands : Config → NodeId → Role → List Fact → Memory → Type 0
RoleStands config (A a) (Role.Acceptor p) facts memory = of_acceptor.StandsFor config a p facts
RoleStands config (L l) (Role.Leader p) facts memory = of_leader.StandsFor config l p facts memory.leader
RoleStands config (R rm) (Role.Manager p) facts memory = of_manager.StandsFor config rm p facts memory.branches
RoleStands config who role facts memory = ⊥

-- it is ready for a fact: to play one that it decided takes no memory
abbrev pub HasRoomFor : Role → Fact → Type 0
HasRoomFor (Role.Acceptor p) fact = of_acceptor.IsReadyFor p fact
HasRoomFor (Role.Leader p) fact =
    (config : Config) (number : ℕ) (memory : LeaderMemory) → (of_leader.leader_part config number memory).IsReadyFor p fact
HasRoomFor (Role.Manager p) fact = of_manager.HasRoomFor p fact

-- ---- what is decided

-- what was decided: a fact, beside what is put out
abbrev pub decided : Option Fact → Output → Decision
decided fact out = record { answer = out.reply; fact = fact; sends = out.sends }

-- what a resource manager is reminded of
abbrev pub from_reminder : Reminder → Decision
from_reminder r = record { answer = r.answer; fact = None; sends = r.vote ++ r.question }

-- an answer, with nothing to store or to send
abbrev pub answering : Answer → Decision
answering answer = record { answer = answer; fact = None; sends = [] }

-- what is in memory after a fact that was decided: a leader begins its ballot, and a resource manager keeps no branch whose name is spent
abbrev pub memory_after : NodeId → List Fact → Memory → Fact → Memory
memory_after (L l) facts memory (Fact.Ballot tx b) = record memory { leader = with_begun tx b (with_met tx memory.leader) }
memory_after (R rm) facts memory fact =
    record memory { branches = of_manager.unspent_branches rm (facts ++ fact ∷ []) memory.branches }
memory_after who facts memory fact = memory

-- a vote prepared is of a branch that is idle with just its keys
abbrev pub IsOfIdleBranch : NodeId → Memory → Fact → Type 0
IsOfIdleBranch (R rm) memory fact = of_manager.IsOfIdleBranch rm memory.branches fact
IsOfIdleBranch who memory fact = Unit {0}

-- a fact is to be stored: until then the role stands for what it stood for; it plays, and leaves what the effect does
pub record WaitsFor (config : Config) (who : NodeId) (facts : List Fact) (memory : Memory) (role : Role) (e : Effect Memory)
    (fact : Fact) : Type 0 where
  pub stands : RoleStands config who role facts memory
  pub fits : plays config who facts fact ≡ true
  pub idle : IsOfIdleBranch who memory fact
  pub leaves : e.memory ≡ memory_after who facts memory fact

-- what a decision leaves: with nothing to store, what the effect does
abbrev pub IsLeft : Config → NodeId → List Fact → Memory → Role → Effect Memory → Option Fact → Type 0
IsLeft config who facts memory role e None = RoleStands config who role facts e.memory
IsLeft config who facts memory role e (Some fact) = WaitsFor config who facts memory role e fact

-- a decision is what the machine makes of it
pub record IsDecided (config : Config) (who : NodeId) (facts : List Fact) (memory : Memory) (role : Role) (decision : Decision)
    (e : Effect Memory) : Type 0 where
  pub effect_is : decision ≡ decision_of e
  pub leaves : IsLeft config who facts memory role e decision.fact

-- what the machine makes of an input, by the node's facts and memory
abbrev pub Rule : Type 0
Rule = Config → NodeId → List Fact → Memory → Effect Memory

-- a role decides by a rule, whatever it stood for
abbrev pub Decides : (old new : Role) → Decision → Rule → Type 0
Decides old new decision rule =
    (config : Config) (who : NodeId) (facts : List Fact) (memory : Memory) → RoleStands config who old facts memory
    → IsDecided config who facts memory new decision (rule config who facts memory)

-- ---- facts that are played

-- made ready for a fact: it stands for whatever it stood for
abbrev pub IsSame : (old new : Role) → Type 0
IsSame old new =
    (config : Config) (who : NodeId) (facts : List Fact) (memory : Memory) → RoleStands config who old facts memory
    → RoleStands config who new facts memory

-- a decided fact, for which the role is ready, was played
pub record IsTaken (config : Config) (who : NodeId) (facts : List Fact) (memory : Memory) (new : Role) (fact : Fact)
    (result : Result (Unit {0}) Refusal) : Type 0 where
  pub done : result ≡ Ok tt
  pub stands : RoleStands config who new (facts ++ fact ∷ []) (memory_after who facts memory fact)

-- it takes a decided fact, whatever it stood for
abbrev pub TakesFact : (old new : Role) → Fact → Result (Unit {0}) Refusal → Type 0
TakesFact old new fact result =
    (config : Config) (who : NodeId) (facts : List Fact) (memory : Memory) → RoleStands config who old facts memory
    → plays config who facts fact ≡ true → IsOfIdleBranch who memory fact → HasRoomFor old fact
    → IsTaken config who facts memory new fact result

-- a fact of a record was played after others, or not
abbrev pub IsReplayed : Config → NodeId → List Fact → Role → Fact → Result (Unit {0}) Refusal → Type 0
IsReplayed config who facts new fact (Ok done) =
    (plays config who facts fact ≡ true) × RoleStands config who new (facts ++ fact ∷ []) empty_memory
IsReplayed config who facts new fact (Err Refusal.Damaged) = plays config who facts fact ≡ false
IsReplayed config who facts new fact (Err Refusal.NoMemory) = Unit {0}
IsReplayed config who facts new fact (Err other) = ⊥

-- it replays a fact of a record, whatever facts it stood for with nothing in memory
abbrev pub Replays : (old new : Role) → Fact → Result (Unit {0}) Refusal → Type 0
Replays old new fact result =
    (config : Config) (who : NodeId) (facts : List Fact) → RoleStands config who old facts empty_memory
    → IsReplayed config who facts new fact result
