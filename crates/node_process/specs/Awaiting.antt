-- Ends of transactions that clients wait for.
use Rattle.std.specs.Prelude.{◌≡◌, ◌⊎◌, ◌≤◌, ◌+◌, ◌*◌, ℕ, Bool, false, List, [], ◌∷◌, Some, if◌then◌else◌}
use Rattle.std.specs.Time.{instant_nanos, FitsClock}
use Rattle.std.specs.declared.time.Instant.{Instant}
use Rattle.slab.specs.Slab.{Slab, get, SameValues, Updates}
use Rattle.protocol.specs.Nodes.{Asked}
use Rattle.protocol.specs.declared.requests.Request.{Request}
use Rattle.node_core.specs.declared.output.Output.{Output}
use Rattle.port.specs.Members.{Acts, MemberParts, Takes}
use Rattle.serving.specs.declared.group.Origin.{Origin}
use Rattle.serving.specs.declared.stage.Stage.TheVariants.{Awaiting}
use Rattle.serving.specs.Clients.{after_standing, ClientParts}
use Rattle.serving.specs.Groups.{is_for}
use Rattle.node_process.specs.declared.awaiting.TheConstants.{MOST_AWAITED}

-- until then an end is awaited that is awaited from now on: for a minute, as far as the clock goes
pub record IsAwaitedUntil (now until : Instant) : Type 0 where
  pub most : instant_nanos until ≤ instant_nanos now + MOST_AWAITED * 1000000000
  pub exact : FitsClock (instant_nanos now + MOST_AWAITED * 1000000000)
      → instant_nanos until ≡ instant_nanos now + MOST_AWAITED * 1000000000

-- the client at a key once who is answered waits for an end
abbrev pub once_waiting : Origin → Request → (until : Instant) → (key : ℕ) → ClientParts → ClientParts
once_waiting origin request until key client =
    record client { stage = if is_for key client.number origin then Awaiting request until false else client.stage }

-- a client that waits asked how its transaction stands, and heard what the node answered
pub record AsksAwaited (now : Instant) (was is : MemberParts) (old new : ClientParts) : Type 0 where
  pub request : Request
  pub until : Instant
  pub is_asked : Bool
  pub stage : old.stage ≡ Awaiting request until is_asked
  pub out : Output
  pub takes : Takes (Acts (Asked request)) was is out
  pub hears : new ≡ after_standing out.reply now old

-- a client asked how its transaction stands, or it waits for none
abbrev pub AsksStanding : (now : Instant) → (was is : MemberParts) → (old new : ClientParts) → Type 0
AsksStanding now was is old new = ((is ≡ was) × (new ≡ old)) ⊎ AsksAwaited now was is old new

-- a client, at its key, that waits; what it asked, and what came of that
pub record Waiting : Type 0 where
  pub key : ℕ
  pub client : ClientParts
  pub request : Request
  pub until : Instant
  pub is_asked : Bool
  pub out : Output

-- it was there, waited for what it asked, and heard what the node answered; nobody else heard anything
pub record Hears (now : Instant) (one : Waiting) (was is : MemberParts) (old new : Slab ClientParts) : Type 0 where
  pub there : get old one.key ≡ Some one.client
  pub stage : one.client.stage ≡ Awaiting one.request one.until one.is_asked
  pub takes : Takes (Acts (Asked one.request)) was is one.out
  pub only : Updates old new one.key (Some (after_standing one.out.reply now one.client))

-- one client that waits heard how its transaction stands, or none did
abbrev pub HearsAt : (now : Instant) → (was is : MemberParts) → (old new : Slab ClientParts) → Type 0
HearsAt now was is old new = ((is ≡ was) × SameValues old new) ⊎ ((one : Waiting) × Hears now one was is old new)

-- clients that wait heard how their transactions stand, one after another: each what the node answers it then
abbrev pub HearStandings : (now : Instant) → List Waiting → (was is : MemberParts) → (old new : Slab ClientParts) → Type 0
HearStandings now [] was is old new = (is ≡ was) × SameValues old new
HearStandings now (one ∷ more) was is old new =
    (next : MemberParts) × (mid : Slab ClientParts) × Hears now one was next old mid × HearStandings now more next is mid new
