-- What is to be done where a client goes.
use Rattle.std.specs.Prelude.{◌≡◌, ◌⊎◌, ◌+◌, ◌++◌, List, [], ◌∷◌, Option, Some, None}
use Rattle.std.specs.Duration.{as_nanos}
use Rattle.std.specs.List.{flat_map}
use Rattle.std.specs.Time.{instant_nanos}
use Rattle.std.specs.declared.time.Duration.{Duration}
use Rattle.std.specs.declared.time.Instant.{Instant}
use Rattle.xid.specs.Names.{XidParts}
use Rattle.protocol.specs.declared.requests.Request.{Request}
use Rattle.protocol.specs.declared.requests.Request.TheVariants.{Call}
use Rattle.protocol.specs.declared.requests.Action.TheVariants.{End, Rollback}
use Rattle.serving.specs.declared.branches.Branches.{Branches}
use Rattle.serving.specs.Clients.{ClientParts, IsOver, IsSlow}
use Rattle.serving.specs.Noted.{is_active_of, is_known_as, is_untouched, AreNames}

-- the calls that end a branch, if it is active, and roll it back
abbrev pub rolls_back : XidParts → List Request
rolls_back name = Call name End ∷ Call name Rollback ∷ []

-- the same of all these branches
abbrev pub roll_back_all : List XidParts → List Request
roll_back_all names = flat_map rolls_back names

-- the branches that a client started and left active are to be rolled back, each once, and no others
pub record RollsBack (branches : Branches) (client : ClientParts) (old new : List Request) : Type 0 where
  pub names : List XidParts
  pub are : AreNames (is_known_as (is_active_of client.number) branches) names
  pub pending : new ≡ old ++ roll_back_all names

-- the branches that nobody has touched for so long are to be rolled back, each once, and no others
pub record RollsBackIdle (now : Instant) (idle : Option Duration) (branches : Branches) (old new : List Request) : Type 0 where
  pub long : Duration
  pub idle_is : idle ≡ Some long
  pub since : Instant
  pub since_is : instant_nanos since + as_nanos long ≡ instant_nanos now
  pub names : List XidParts
  pub are : AreNames (is_known_as (is_untouched since) branches) names
  pub pending : new ≡ old ++ roll_back_all names

-- the client at a key is one that is over, or too slow
abbrev pub IsGone : Instant → Option ClientParts → Type 0
IsGone now None = ⊥
IsGone now (Some client) = IsOver client ⊎ IsSlow now client

-- what is to be done where the client at a key goes, if one is there
abbrev pub RollsBackOf : Branches → Option ClientParts → (old new : List Request) → Type 0
RollsBackOf branches None old new = new ≡ old
RollsBackOf branches (Some client) old new = RollsBack branches client old new
