-- What a fact says beside its transaction.
use Rattle.std.specs.Prelude.{ℕ, List, [], ◌∷◌, ◌++◌}
use Rattle.xid.specs.Transactions.{TxParts}
use Rattle.wire.specs.Grammar.{number_spelling, rm_spelling, vote_byte}
use Rattle.wire.specs.Versions.{version_2}
use Rattle.stable_record.specs.declared.fact.FactKind.{FactKind as Fact}
use Rattle.stable_record.specs.declared.view.FactRest.{FactRest}
use Rattle.stable_record.specs.declared.view.FactRest.TheVariants as rests
use Rattle.stable_record.specs.Facts.{AreKeys}
use Rattle.stable_record.specs.Grammar.{keys_spelling}

-- the fact that a rest makes with a transaction
abbrev pub fact_of : TxParts → FactRest → Fact
fact_of tx (rests.Promise instance ballot) = Fact.Promise tx instance ballot
fact_of tx (rests.Accept instance ballot vote) = Fact.Accept tx instance ballot vote
fact_of tx (rests.Ballot ballot) = Fact.Ballot tx ballot
fact_of tx (rests.VotePrepared keys) = Fact.VotePrepared tx keys
fact_of tx rests.VoteAborted = Fact.VoteAborted tx
fact_of tx rests.Committed = Fact.Committed tx
fact_of tx rests.Aborted = Fact.Aborted tx
fact_of tx (rests.PromiseAll ballot) = Fact.PromiseAll tx ballot

-- the number of its kind
abbrev pub any_byte : FactRest → ℕ
any_byte (rests.Promise instance ballot) = 1
any_byte (rests.Accept instance ballot vote) = 2
any_byte (rests.Ballot ballot) = 3
any_byte (rests.VotePrepared keys) = 4
any_byte rests.VoteAborted = 5
any_byte rests.Committed = 6
any_byte rests.Aborted = 7
any_byte (rests.PromiseAll ballot) = 8

-- what follows the transaction in it
abbrev pub any_spelling : FactRest → List ℕ
any_spelling (rests.Promise instance ballot) = rm_spelling version_2 instance ++ number_spelling ballot
any_spelling (rests.Accept instance ballot vote) = rm_spelling version_2 instance ++ (number_spelling ballot ++ vote_byte vote ∷ [])
any_spelling (rests.Ballot ballot) = number_spelling ballot
any_spelling (rests.VotePrepared keys) = keys_spelling keys
any_spelling rests.VoteAborted = []
any_spelling rests.Committed = []
any_spelling rests.Aborted = []
any_spelling (rests.PromiseAll ballot) = number_spelling ballot

-- its keys, if it has some, are those of a vote
abbrev pub HasVoteKeys : FactRest → Type 0
HasVoteKeys (rests.VotePrepared keys) = AreKeys keys
HasVoteKeys rest = Unit {0}
