-- What a message says beside its transaction: as it is seen over bytes, and as it goes out.
use Rattle.std.specs.Prelude.{ℕ, List, [], ◌∷◌, ◌++◌, length, Option, Some, None, Result, Ok, Err}
use Rattle.std.specs.Borrow.{Bor}
use Rattle.std.specs.List.{flat_map}
use Rattle.xid.specs.Transactions.{TxParts}
use Rattle.xid.specs.declared.refusals.Refusal.{Refusal}
use Rattle.xid.specs.declared.refusals.Refusal.TheVariants.{BadMessage}
use Rattle.wire.specs.declared.message.Kind.{Kind}
use Rattle.wire.specs.declared.message.Kind.TheVariants as kinds
use Rattle.wire.specs.Versions.{version_2}
use Rattle.wire.specs.Grammar.{number_spelling, rm_spelling, vote_byte, report_spelling, report_item_spelling, accept_item_spelling}
use Rattle.wire.specs.SpelledItems.{reports_spelled, accepts_spelled}
use Rattle.wire.specs.declared.rest.Rest.{Rest}
use Rattle.wire.specs.declared.rest.Rest.TheVariants as rests
use Rattle.wire.specs.declared.reply.ReplyRest.{ReplyRest}
use Rattle.wire.specs.declared.reply.ReplyRest.TheVariants as replies

-- the message that a rest makes with a transaction
abbrev pub said : TxParts → Rest → Kind
said tx rests.Prepare = kinds.Prepare tx
said tx (rests.P1a instance ballot) = kinds.P1a tx instance ballot
said tx (rests.P1b instance ballot report acceptor) = kinds.P1b tx instance ballot report acceptor
said tx (rests.P2a instance ballot vote) = kinds.P2a tx instance ballot vote
said tx (rests.P2b instance ballot vote acceptor) = kinds.P2b tx instance ballot vote acceptor
said tx rests.Commit = kinds.Commit tx
said tx rests.Abort = kinds.Abort tx
said tx (rests.Ask rm) = kinds.Ask tx rm
said tx (rests.B1a ballot) = kinds.B1a tx ballot
said tx (rests.B1b ballot acceptor reports) = kinds.B1b tx ballot acceptor (reports_spelled reports.now)
said tx (rests.B2b acceptor accepts) = kinds.B2b tx acceptor (accepts_spelled accepts.now)

-- a rest that was taken, as the message that it makes, and the bytes after it
abbrev pub heard : TxParts → Option (Rest × Bor (List ℕ)) → Option (Kind × List ℕ)
heard tx None = None
heard tx (Some x) = Some (said tx x.0, x.1.now)

-- what is answered of a rest that was taken: the message that it makes
abbrev pub told : TxParts → Option Rest → Result Kind Refusal
told tx None = Err BadMessage
told tx (Some rest) = Ok (said tx rest)

-- the message that goes out of a transaction
abbrev pub replied : TxParts → ReplyRest → Kind
replied tx replies.Prepare = kinds.Prepare tx
replied tx (replies.P1a instance ballot) = kinds.P1a tx instance ballot
replied tx (replies.P1b instance ballot report acceptor) = kinds.P1b tx instance ballot report acceptor
replied tx (replies.P2a instance ballot vote) = kinds.P2a tx instance ballot vote
replied tx (replies.P2b instance ballot vote acceptor) = kinds.P2b tx instance ballot vote acceptor
replied tx replies.Commit = kinds.Commit tx
replied tx replies.Abort = kinds.Abort tx
replied tx (replies.B1a ballot) = kinds.B1a tx ballot
replied tx (replies.B1b ballot acceptor reports) = kinds.B1b tx ballot acceptor reports
replied tx (replies.B2b acceptor accepts) = kinds.B2b tx acceptor accepts

-- the number of its kind
abbrev pub reply_byte : ReplyRest → ℕ
reply_byte replies.Prepare = 1
reply_byte (replies.P1a instance ballot) = 2
reply_byte (replies.P1b instance ballot report acceptor) = 3
reply_byte (replies.P2a instance ballot vote) = 4
reply_byte (replies.P2b instance ballot vote acceptor) = 5
reply_byte replies.Commit = 6
reply_byte replies.Abort = 7
reply_byte (replies.B1a ballot) = 10
reply_byte (replies.B1b ballot acceptor reports) = 11
reply_byte (replies.B2b acceptor accepts) = 12

-- what follows the transaction in it
abbrev pub reply_spelling : ReplyRest → List ℕ
reply_spelling replies.Prepare = []
reply_spelling (replies.P1a instance ballot) = rm_spelling version_2 instance ++ number_spelling ballot
reply_spelling (replies.P1b instance ballot report acceptor) = rm_spelling version_2 instance
    ++ (number_spelling ballot ++ (report_spelling report ++ acceptor ∷ []))
reply_spelling (replies.P2a instance ballot vote) = rm_spelling version_2 instance ++ (number_spelling ballot ++ vote_byte vote ∷ [])
reply_spelling (replies.P2b instance ballot vote acceptor) = rm_spelling version_2 instance
    ++ (number_spelling ballot ++ vote_byte vote ∷ acceptor ∷ [])
reply_spelling replies.Commit = []
reply_spelling replies.Abort = []
reply_spelling (replies.B1a ballot) = number_spelling ballot
reply_spelling (replies.B1b ballot acceptor reports) =
    number_spelling ballot ++ acceptor ∷ length reports ∷ flat_map (report_item_spelling version_2) reports
reply_spelling (replies.B2b acceptor accepts) = acceptor ∷ length accepts ∷ flat_map (accept_item_spelling version_2) accepts
