-- The versions of the formats, and what differs between them. Messages are written and read in version 2 alone.
use Rattle.std.specs.Prelude.{ℕ, ◌<◌, ◌≤◌, ◌^◌, length}
use Rattle.std.specs.List.{All}
use Rattle.xid.specs.Limits as limit
use Rattle.xid.specs.Transactions.{TxParts, IsTx}
use Rattle.wire.specs.declared.grammar.VersionNumber.{VersionNumber}
use Rattle.wire.specs.declared.grammar.VersionNumber.TheVariants.{First, Second}

-- a version: its byte, in how many bytes the number of a resource manager stands, and the limits on transactions
pub record Version : Type 0 where
  pub byte : ℕ
  pub rm_width : ℕ
  pub most_branches : ℕ
  pub most_managers : ℕ

-- the first version, for 8 resource managers
abbrev pub version_1 : Version
version_1 = record { byte = 1; rm_width = 1; most_branches = 8; most_managers = 8 }

-- the version of today
abbrev pub version_2 : Version
version_2 = record { byte = 2; rm_width = 2; most_branches = limit.most_branches; most_managers = limit.most_managers }

-- the version of a number
abbrev pub version_of : VersionNumber → Version
version_of First = version_1
version_of Second = version_2

-- each number of a resource manager has room
abbrev pub IsWide : Version → Type 0
IsWide v = v.most_managers ≤ 256 ^ v.rm_width

-- a transaction that a version can name: with no more branches and no greater numbers than it has
pub record IsTxIn (v : Version) (tx : TxParts) : Type 0 where
  pub valid : IsTx tx
  pub few : length tx.branches ≤ v.most_branches
  pub managers : All (λ b. b.rm < v.most_managers) tx.branches
