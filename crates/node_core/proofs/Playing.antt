-- A role that is made ready for a fact, and plays it.
-- Needed by 8 functions of this crate.
use Rattle.std.proofs.Common.{rules, tests, ◌≡◌, ◌∙◌, ℕ, ◌<◌, Bool, true, List, [], ◌∷◌, ◌++◌, refl, sym, ap, subst, arith, inl, inr}
use Rattle.node_core.proofs.Deciding.{no_config}
use Rattle.std.specs.Prelude.{if◌then◌else◌, Result, Ok, Err, OnOk, IfErr, nat_lt}
use Rattle.std.proofs.lemmas.Bool.{both_ways, and_parts}
use Rattle.xid.specs.Transactions.{TxParts}
use Rattle.xid.specs.declared.refusals.Refusal.{Refusal}
use Rattle.xid.specs.declared.refusals.Refusal.TheVariants.{NoMemory}
use Rattle.stable_record.specs.declared.fact.FactKind.{FactKind as Fact}
use Rattle.stable_record.specs.Parts.{Part, IsMadeReady, IsPlayed}
use Rattle.protocol.specs.declared.nodes.NodeId.{NodeId}
use Rattle.protocol.specs.declared.nodes.NodeId.TheVariants.{A, L, R}
use Rattle.protocol.specs.Effects.{Config}
use Rattle.protocol.specs.Facts.{last_ballot}
use Rattle.protocol.specs.LeaderMemory.{LeaderMemory, StoredBallots, with_begun, with_met}
use Rattle.protocol.specs.Leaders.{plays_at_leader}
use Rattle.protocol.specs.Managers.{Branch}
use Rattle.protocol.specs.Nodes.{empty_memory, plays}
use Rattle.acceptor.specs.Acceptors.{AcceptorParts, acceptor_part}
use Rattle.leader.specs.Leaders as leader_specs
use Rattle.leader.specs.Leaders.{LeaderParts, leader_part, StandsForBallots}
use Rattle.leader.proofs.Leading.{stored_ballot}
use Rattle.leader.proofs.Basics.{tx_self}
use Rattle.resource_manager.specs.Managers as manager_specs
use Rattle.resource_manager.specs.Managers.{ManagerParts, manager_part, placed_part, unspent_branches}
use Rattle.resource_manager.proofs.Votes.{idle_there}
use Rattle.resource_manager.proofs.More.{unspent_all}
use Rattle.node_core.specs.declared.role.Role.{Role}
use Rattle.node_core.specs.Roles.{RoleStands, HasRoomFor, IsSame, TakesFact, Replays, IsReplayed, memory_after}

-- ---- made ready

abbrev ready_parts : {Value : Type 0} → Part Value → (old new : Value) → Fact → Type 0
ready_parts part old new fact =
    ((facts : List Fact) → part.StandsFor old facts → part.StandsFor new facts) × part.IsReadyFor new fact

-- what is refused in making ready is refused for want of memory
pub refuses_memory : {Value : Type 0} (part : Part Value) (old new : Value) (fact : Fact) (r : Result (Unit {0}) Refusal)
    → IsMadeReady part old new fact r → IfErr r (λ e. e ≡ NoMemory)
refuses_memory part old new fact (Ok done) h = tt
refuses_memory part old new fact (Err NoMemory) h = refl
refuses_memory part old new fact (Err other) h = absurd h

acceptor_ready : (old new : AcceptorParts) (fact : Fact)
    → ((config : Config) (number : ℕ) → ready_parts (acceptor_part config number) old new fact)
    → IsSame (Role.Acceptor old) (Role.Acceptor new)
acceptor_ready old new fact h config (A a) facts memory s = (h config a).0 facts s
acceptor_ready old new fact h config (L l) facts memory s = absurd s
acceptor_ready old new fact h config (R rm) facts memory s = absurd s

leader_ready : (old new : LeaderParts) (fact : Fact)
    → ((config : Config) (number : ℕ) (memory : LeaderMemory) → ready_parts (leader_part config number memory) old new fact)
    → IsSame (Role.Leader old) (Role.Leader new)
leader_ready old new fact h config (A a) facts memory s = absurd s
leader_ready old new fact h config (L l) facts memory s = (h config l memory.leader).0 facts s
leader_ready old new fact h config (R rm) facts memory s = absurd s

-- all branches that aren't prepared are unspent
left_all : (config : Config) (rm : ℕ) (p : ManagerParts) (facts : List Fact) (branches : List Branch)
    → manager_specs.StandsFor config rm p facts branches → unspent_branches rm facts branches ≡ branches
left_all config rm p facts branches s = unspent_all rm facts branches s.apart.unspent

manager_ready : (old new : ManagerParts) (fact : Fact)
    → ((config : Config) (number : ℕ) (branches : List Branch) → ready_parts (placed_part config number branches) old new fact)
    → IsSame (Role.Manager old) (Role.Manager new)
manager_ready old new fact h config (A a) facts memory s = absurd s
manager_ready old new fact h config (L l) facts memory s = absurd s
manager_ready old new fact h config (R rm) facts memory s =
    let all = left_all config rm old facts memory.branches s in
    subst (manager_specs.StandsFor config rm new facts) all
    ((h config rm memory.branches).0 facts (subst (manager_specs.StandsFor config rm old facts) (sym all) s))

-- what `ready` leaves
abbrev IsReadied : (self new : Role) → Fact → Result (Unit {0}) Refusal → Type 0
IsReadied self new fact r = OnOk r (IsSame self new × HasRoomFor new fact)

-- an acceptor that was made ready for a fact is a role that was
pub acceptor_readied : (self : Role) (old new : AcceptorParts) (fact : Fact) (r : Result (Unit {0}) Refusal) → self ≡ Role.Acceptor old
    → ((config : Config) (number : ℕ) → IsMadeReady (acceptor_part config number) old new fact r)
    → IsReadied self (Role.Acceptor new) fact r
acceptor_readied self old new fact (Err e) is h = tt
acceptor_readied self old new fact (Ok tt) is h =
    subst (λ x. IsReadied x (Role.Acceptor new) fact (Ok tt)) (sym is) (acceptor_ready old new fact h, (h no_config 0).1)

-- so is a leader
pub leader_readied : (self : Role) (old new : LeaderParts) (fact : Fact) (r : Result (Unit {0}) Refusal) → self ≡ Role.Leader old
    → ((config : Config) (number : ℕ) (memory : LeaderMemory) → IsMadeReady (leader_part config number memory) old new fact r)
    → IsReadied self (Role.Leader new) fact r
leader_readied self old new fact (Err e) is h = tt
leader_readied self old new fact (Ok tt) is h =
    subst (λ x. IsReadied x (Role.Leader new) fact (Ok tt)) (sym is)
    (leader_ready old new fact h, λ config number memory. (h config number memory).1)

-- and a resource manager
pub manager_readied : (self : Role) (old new : ManagerParts) (fact : Fact) (r : Result (Unit {0}) Refusal) → self ≡ Role.Manager old
    → ((config : Config) (number : ℕ) (branches : List Branch) → IsMadeReady (placed_part config number branches) old new fact r)
    → IsReadied self (Role.Manager new) fact r
manager_readied self old new fact (Err e) is h = tt
manager_readied self old new fact (Ok tt) is h =
    subst (λ x. IsReadied x (Role.Manager new) fact (Ok tt)) (sym is) (manager_ready old new fact h, (h no_config 0 []).1)

-- ---- played, for which it was ready

record PartTakes {Value : Type 0} (part : Part Value) (new : Value) (facts : List Fact) (fact : Fact) (r : Result (Unit {0}) Refusal)
    : Type 0 where
  pub done : r ≡ Ok tt
  pub stands : part.StandsFor new (facts ++ fact ∷ [])

part_takes : {Value : Type 0} (part : Part Value) (old new : Value) (facts : List Fact) (fact : Fact) (r : Result (Unit {0}) Refusal)
    → IsPlayed part old new fact r → part.StandsFor old facts → part.plays facts fact ≡ true → part.IsReadyFor old fact
    → PartTakes part new facts fact r
part_takes part old new facts fact (Ok tt) h s plays ready = record { done = refl; stands = h.1 facts s }
part_takes part old new facts fact (Err Refusal.Damaged) h s plays ready =
    absurd (both_ways (part.plays facts fact) (h.0 facts s) plays)
part_takes part old new facts fact (Err Refusal.NoMemory) h s plays ready = absurd (h.1 ready)
part_takes part old new facts fact (Err other) h s plays ready = absurd h

-- an acceptor that played a fact is a role that took it
pub acceptor_takes : (old new : AcceptorParts) (fact : Fact) (r : Result (Unit {0}) Refusal)
    → ((config : Config) (number : ℕ) → IsPlayed (acceptor_part config number) old new fact r)
    → TakesFact (Role.Acceptor old) (Role.Acceptor new) fact r
acceptor_takes old new fact r h config (A a) facts memory s fits idle ready =
    let t = part_takes (acceptor_part config a) old new facts fact r (h config a) s fits ready in
    record { done = t.done; stands = t.stands }
acceptor_takes old new fact r h config (L l) facts memory s fits idle ready = absurd s
acceptor_takes old new fact r h config (R rm) facts memory s fits idle ready = absurd s

idle_plays : (rm : ℕ) (branches : List Branch) (fact : Fact) → manager_specs.IsOfIdleBranch rm branches fact
    → manager_specs.IsPlayable rm branches fact
idle_plays rm branches (Fact.VotePrepared tx keys) idle = inr idle
idle_plays rm branches other idle = tt

-- a decided vote's branch is there, so that places are all that it takes
idle_ready : (config : Config) (rm : ℕ) (p : ManagerParts) (facts : List Fact) (branches : List Branch)
    → manager_specs.StandsFor config rm p facts branches → (fact : Fact) → manager_specs.IsOfIdleBranch rm branches fact
    → manager_specs.HasRoomFor p fact → manager_specs.IsReadyFor p fact
idle_ready config rm p facts branches s (Fact.VotePrepared tx keys) idle room =
    (room, idle_there config rm p facts branches s tx idle.0 keys idle.1 idle.2)
idle_ready config rm p facts branches s other idle room = room

-- so is a resource manager
pub manager_takes : (old new : ManagerParts) (fact : Fact) (r : Result (Unit {0}) Refusal)
    → ((config : Config) (number : ℕ) (branches : List Branch) → manager_specs.IsPlayable number branches fact
    → IsPlayed (manager_part config number branches) old new fact r)
    → TakesFact (Role.Manager old) (Role.Manager new) fact r
manager_takes old new fact r h config (A a) facts memory s fits idle ready = absurd s
manager_takes old new fact r h config (L l) facts memory s fits idle ready = absurd s
manager_takes old new fact r h config (R rm) facts memory s fits idle ready =
    let all = left_all config rm old facts memory.branches s in
    let t = part_takes (manager_part config rm memory.branches) old new facts fact r
    (h config rm memory.branches (idle_plays rm memory.branches fact idle))
    (subst (manager_specs.StandsFor config rm old facts) (sym all) s) fits
    (idle_ready config rm old facts memory.branches s fact idle ready) in
    record { done = t.done; stands = t.stands }

-- a ballot that plays is above 0
ballot_some : (leaders l : ℕ) (facts : List Fact) (tx : TxParts) (b : ℕ)
    → plays_at_leader leaders l (last_ballot facts) (Fact.Ballot tx b) ≡ true → last_ballot facts tx < b
ballot_some leaders l facts tx b h = search (rules, tests, (and_parts (nat_lt (last_ballot facts tx) b) _ h).0)

module _ (old played new : LeaderParts) (tx : TxParts) (b : ℕ) (fact : Fact) (is : fact ≡ Fact.Ballot tx b) where
  -- and a leader
  pub leader_takes : (r : Result (Unit {0}) Refusal) → r ≡ Ok tt
      → ((config : Config) (number : ℕ) (memory : LeaderMemory) → IsPlayed (leader_part config number memory) old played fact r)
      → ((config : Config) (number : ℕ) (stored : StoredBallots) (memory : LeaderMemory)
      → StandsForBallots config number played stored memory → 0 < stored tx
      → StandsForBallots config number new stored (with_begun tx b (with_met tx memory)) × (new.courses.begun ≡ played.courses.begun))
      → TakesFact (Role.Leader old) (Role.Leader new) fact (Ok tt)
  leader_takes r done h begins config (A a) facts memory s fits idle ready = absurd s
  leader_takes r done h begins config (R rm) facts memory s fits idle ready = absurd s
  leader_takes r done h begins config (L l) facts memory s fits idle ready =
      let t = part_takes (leader_part config l memory.leader) old played facts fact r (h config l memory.leader) s fits
      (ready config l memory.leader) in
      let fits_ballot = subst (λ (f : Fact). plays_at_leader config.leaders l (last_ballot facts) f ≡ true) is fits in
      let more = ballot_some config.leaders l facts tx b fits_ballot in
      let now : last_ballot (facts ++ Fact.Ballot tx b ∷ []) tx ≡ b =
      stored_ballot facts tx tx b more ∙ ap (λ (t : Bool). if t then b else last_ballot facts tx) (tx_self tx) in
      let some : 0 < last_ballot (facts ++ Fact.Ballot tx b ∷ []) tx = omega (arith, now, more) in
      let stands = subst (λ (f : Fact). leader_specs.StandsFor config l played (facts ++ f ∷ []) memory.leader) is t.stands in
      let begun = begins config l (last_ballot (facts ++ Fact.Ballot tx b ∷ [])) memory.leader stands.ballots some in
      record {
        done = refl;
        stands = subst
            (λ (f : Fact). RoleStands config (L l) (Role.Leader new) (facts ++ f ∷ []) (memory_after (L l) facts memory f)) (sym is)
            (record { ballots = begun.0; begun_are = begun.1 ∙ stands.begun_are });
      }

-- a fact that doesn't play, or for which it isn't ready, isn't taken
pub leader_refused : (old new : LeaderParts) (fact : Fact) (r : Result (Unit {0}) Refusal) (e : Refusal) → r ≡ Err e
    → ((config : Config) (number : ℕ) (memory : LeaderMemory) → IsPlayed (leader_part config number memory) old new fact r)
    → TakesFact (Role.Leader old) (Role.Leader new) fact (Err e)
leader_refused old new fact r e is h config (A a) facts memory s fits idle ready = absurd s
leader_refused old new fact r e is h config (R rm) facts memory s fits idle ready = absurd s
leader_refused old new fact r e is h config (L l) facts memory s fits idle ready =
    let t = part_takes (leader_part config l memory.leader) old new facts fact r (h config l memory.leader) s fits
    (ready config l memory.leader) in
    absurd (cc (t.done, is))

-- ---- replayed

-- what a part says of a fact is what its role says
replayed : {Value : Type 0} (part : Part Value) (old new : Value) (config : Config) (who : NodeId) (role : Role) (facts : List Fact)
    (fact : Fact) (r : Result (Unit {0}) Refusal) → part.plays facts fact ≡ plays config who facts fact
    → (part.StandsFor new (facts ++ fact ∷ []) → RoleStands config who role (facts ++ fact ∷ []) empty_memory)
    → IsPlayed part old new fact r → part.StandsFor old facts → IsReplayed config who facts role fact r
replayed part old new config who role facts fact (Ok done) same stands h s = (sym same ∙ h.0 facts s, stands (h.1 facts s))
replayed part old new config who role facts fact (Err Refusal.Damaged) same stands h s = sym same ∙ h.0 facts s
replayed part old new config who role facts fact (Err Refusal.NoMemory) same stands h s = tt
replayed part old new config who role facts fact (Err other) same stands h s = absurd h

-- where there are none but prepared branches, any fact may come
playable_alone : (rm : ℕ) (fact : Fact) → manager_specs.IsPlayable rm [] fact
playable_alone rm (Fact.VotePrepared tx keys) = inl refl
playable_alone rm other = tt

-- an acceptor that played a fact of its record is a role that replays it
pub acceptor_replays : (old new : AcceptorParts) (fact : Fact) (r : Result (Unit {0}) Refusal)
    → ((config : Config) (number : ℕ) → IsPlayed (acceptor_part config number) old new fact r)
    → Replays (Role.Acceptor old) (Role.Acceptor new) fact r
acceptor_replays old new fact r h config (A a) facts s =
    replayed (acceptor_part config a) old new config (A a) (Role.Acceptor new) facts fact r refl (λ x. x) (h config a) s
acceptor_replays old new fact r h config (L l) facts s = absurd s
acceptor_replays old new fact r h config (R rm) facts s = absurd s

-- so is a leader
pub leader_replays : (old new : LeaderParts) (fact : Fact) (r : Result (Unit {0}) Refusal)
    → ((config : Config) (number : ℕ) (memory : LeaderMemory) → IsPlayed (leader_part config number memory) old new fact r)
    → Replays (Role.Leader old) (Role.Leader new) fact r
leader_replays old new fact r h config (A a) facts s = absurd s
leader_replays old new fact r h config (R rm) facts s = absurd s
leader_replays old new fact r h config (L l) facts s =
    replayed (leader_part config l empty_memory.leader) old new config (L l) (Role.Leader new) facts fact r refl (λ x. x)
    (h config l empty_memory.leader) s

-- and a resource manager
pub manager_replays : (old new : ManagerParts) (fact : Fact) (r : Result (Unit {0}) Refusal)
    → ((config : Config) (number : ℕ) (branches : List Branch) → manager_specs.IsPlayable number branches fact
    → IsPlayed (manager_part config number branches) old new fact r)
    → Replays (Role.Manager old) (Role.Manager new) fact r
manager_replays old new fact r h config (A a) facts s = absurd s
manager_replays old new fact r h config (L l) facts s = absurd s
manager_replays old new fact r h config (R rm) facts s =
    replayed (manager_part config rm []) old new config (R rm) (Role.Manager new) facts fact r refl (λ x. x)
    (h config rm [] (playable_alone rm fact)) s

-- ---- what is played, under other names

-- what is said of a role that takes a fact holds of an equal one
pub takes_so : (old inner new : Role) (fact : Fact) (r : Result (Unit {0}) Refusal) → old ≡ inner → TakesFact inner new fact r
    → TakesFact old new fact r
takes_so old inner new fact r is h = subst (λ x. TakesFact x new fact r) (sym is) h

-- so does what is said of a role that replays it
pub replays_so : (old inner new : Role) (fact : Fact) (r : Result (Unit {0}) Refusal) → old ≡ inner → Replays inner new fact r
    → Replays old new fact r
replays_so old inner new fact r is h = subst (λ x. Replays x new fact r) (sym is) h
