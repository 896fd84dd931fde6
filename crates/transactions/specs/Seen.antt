-- Transactions in the order of first sight.
use Rattle.std.specs.Prelude.{◌==◌, ℕ, ◌<◌, if◌then◌else◌, List, [], ◌∷◌, ◌++◌, fold, map}
use Rattle.std.specs.List.{list_any, position_or_len, slice_index_or, AllByRecursion}
use Rattle.xid.specs.Transactions.{TxParts, tx_eq}

-- the place of a transaction among those seen, or how many there are where it wasn't
abbrev pub place_in : List TxParts → TxParts → ℕ
place_in seen tx = position_or_len (tx_eq tx) seen

-- the transactions seen once this one is: a new one comes last
abbrev pub seen_with : List TxParts → TxParts → List TxParts
seen_with seen tx = if list_any (tx_eq tx) seen then seen else seen ++ tx ∷ []

-- numbers, each once, with this one: a new one comes last
abbrev pub numbered_with : List ℕ → ℕ → List ℕ
numbered_with numbers n = if list_any (λ m. n == m) numbers then numbers else numbers ++ n ∷ []

-- the transactions that some things are about, each once, in the order of the first
abbrev pub first_seen : {X : Type 0} → (about : X → TxParts) → List X → List TxParts
first_seen about things = fold (λ seen x. seen_with seen (about x)) [] things

-- numbers in an order of their own, and for how many more there is room without memory
pub record OrderParts : Type 0 where
  pub numbers : List ℕ
  pub room : ℕ

-- parts that no transaction has
abbrev pub no_transaction : TxParts
no_transaction = record { format = 0; gtrid = []; branches = [] }

-- the transactions of some numbers
abbrev pub at_places : List TxParts → List ℕ → List TxParts
at_places txs places = map (λ place. slice_index_or txs place no_transaction) places

-- numbers are those of transactions, where there are so many
abbrev pub AreInside : ℕ → List ℕ → Type 0
AreInside count numbers = AllByRecursion (λ number. number < count) numbers
