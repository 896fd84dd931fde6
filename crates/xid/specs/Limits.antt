-- The limits of the whole system, as numerals.
use Rattle.std.specs.Prelude.{ℕ, ◌^◌}

-- a cluster has at most so many acceptors; their numbers are below it
abbrev pub most_acceptors : ℕ
most_acceptors = 7

-- a cluster has at most so many leaders; their numbers are below it
abbrev pub most_leaders : ℕ
most_leaders = 4

-- a cluster has at most so many resource managers; their numbers are below it
abbrev pub most_managers : ℕ
most_managers = 64

-- a transaction has at most so many branches
abbrev pub most_branches : ℕ
most_branches = 16

-- a gtrid or a bqual has at most so many bytes
abbrev pub most_component : ℕ
most_component = 64

-- the formats are the numbers below it
abbrev pub formats : ℕ
formats = 2 ^ 31

-- a key has at most so many bytes
abbrev pub most_key : ℕ
most_key = 64

-- a value has at most so many bytes
abbrev pub most_value : ℕ
most_value = 256

-- a branch touches at most so many keys
abbrev pub most_touched : ℕ
most_touched = 64
