-- Where a transaction stands, by what is found of its bytes.
-- Needed by `Transactions::insert_view`.
use Rattle.std.proofs.Common.{◌≡◌, ◌∙◌, ℕ, List, Option}
use Rattle.std.specs.Prelude.{position}
use Rattle.std.specs.List.{All}
use Rattle.xid.specs.Transactions.{TxParts, IsTx, tx_eq}
use Rattle.wire.specs.Grammar.{tx_spelling}
use Rattle.wire.specs.Versions.{version_2}
use Rattle.wire.specs.Spelled.{IsSpelled}
use Rattle.transactions.specs.Found.{found, IsFound, IsIndex}
use Rattle.hashing.specs.Hashing.{hash_of}
use Rattle.hashing.specs.declared.keys.WordKey.{WordKey}
use Rattle.transactions.proofs.Index.{found_first, settled}
use Rattle.transactions.proofs.Keys.{seen_of, all_valid, place_by_bytes, position_by_tx}

-- what an index finds of a transaction's bytes is its place
pub sought : {K : Type 0} (bytes : K → List ℕ) (words : WordKey) (keys : List K) (hint : ℕ → Option ℕ)
    (other : List ℕ → Option ℕ) → IsIndex bytes words keys hint other → All (λ key. IsSpelled (bytes key)) keys →
    (k : List ℕ) (tx : TxParts) → IsTx tx
    → k ≡ tx_spelling version_2 tx → (hash : ℕ) (r : Option ℕ) → hash ≡ hash_of words k
    → IsFound bytes keys k (found bytes keys k (hint hash) (other k)) r → r ≡ position (tx_eq tx) (seen_of bytes keys)
sought bytes words keys hint other index each k tx is e hash r hashed told =
    settled bytes words keys hint other index k hash r hashed told
    ∙ found_first bytes words keys hint other index k ∙ place_by_bytes bytes k keys each
    ∙ position_by_tx k tx (seen_of bytes keys) is e (all_valid bytes keys each)
