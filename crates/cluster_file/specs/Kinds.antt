-- The kinds of nodes, and where their addresses stand, as texts.
use Rattle.std.specs.Prelude.{ℕ, Bool, true, false, List, ◌++◌, codes, decimal}
use Rattle.cluster_file.specs.declared.error.Kind.{Kind}
use Rattle.cluster_file.specs.declared.error.Kind.TheVariants.{Acceptor, Leader, Manager}
use Rattle.cluster_file.specs.declared.error.Spot.{Spot}

-- the key of a kind of nodes
abbrev pub kind_name : Kind → List ℕ
kind_name Acceptor = codes "acceptor"
kind_name Leader = codes "leader"
kind_name Manager = codes "rm"

-- the key of an address at its node
abbrev pub spot_key : Bool → List ℕ
spot_key true = codes "client"
spot_key false = codes "node"

-- where an address stands, as a text
abbrev pub spot_text : Spot → List ℕ
spot_text spot = kind_name spot.kind ++ (codes "[" ++ (decimal spot.index ++ (codes "]." ++ spot_key spot.client)))
