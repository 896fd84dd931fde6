-- The names that are spent at a resource manager.
use Rattle.std.specs.Prelude.{ℕ, Bool, List}
use Rattle.std.specs.List.{list_any}
use Rattle.xid.specs.Names.{XidParts, xid_eq}

-- the names, and for how many more there is room without memory
pub record SpentParts : Type 0 where
  pub names : List XidParts
  pub room : ℕ

-- whether a name is spent
abbrev pub is_spent_in : SpentParts → XidParts → Bool
is_spent_in spent x = list_any (xid_eq x) spent.names
