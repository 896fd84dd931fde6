-- The spelling of a reply, by its transaction and the rest: for the writing of these.
use Rattle.std.proofs.Common.{◌≡◌, ◌∷◌, ◌++◌, refl}
use Rattle.xid.specs.Transactions.{TxParts}
use Rattle.wire.specs.declared.reply.ReplyRest.{ReplyRest}
use Rattle.wire.specs.declared.reply.ReplyRest.TheVariants as replies
use Rattle.wire.specs.Grammar.{spelling, tx_spelling}
use Rattle.wire.specs.Said.{replied, reply_byte, reply_spelling}
use Rattle.wire.specs.Versions.{version_2}

pub reply_spelled : (tx : TxParts) (rest : ReplyRest)
    → spelling (replied tx rest) ≡ version_2.byte ∷ reply_byte rest ∷ (tx_spelling version_2 tx ++ reply_spelling rest)
reply_spelled tx replies.Prepare = refl
reply_spelled tx (replies.P1a instance ballot) = refl
reply_spelled tx (replies.P1b instance ballot report acceptor) = refl
reply_spelled tx (replies.P2a instance ballot vote) = refl
reply_spelled tx (replies.P2b instance ballot vote acceptor) = refl
reply_spelled tx replies.Commit = refl
reply_spelled tx replies.Abort = refl
reply_spelled tx (replies.B1a ballot) = refl
reply_spelled tx (replies.B1b ballot acceptor reports) = refl
reply_spelled tx (replies.B2b acceptor accepts) = refl
