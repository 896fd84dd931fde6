-- What stands beside the marks of a picture.
use Rattle.std.specs.Prelude.{ℕ, Bool, if◌then◌else◌, List, [], ◌∷◌, ◌++◌, codes, decimal}
use Rattle.net_script.specs.Basics.{TxParts, tx_text, message_tx, Kind, Prepare, P1a, P1b, P2a, P2b, Commit, Abort, B1a, B1b, B2b, R}
use Rattle.net_script.specs.Basics.{Change, Sent, Told}
use Rattle.net_script.specs.Lines.{node_text, floor_text}
use Rattle.net_script.specs.Answers.{view_text}
use Rattle.net_script.specs.Messages.{ballot_words, message_word, report_words, vote_text}
use Rattle.net_script.specs.Traces.{spaced_words}

-- the words of a message as a trace prints them, but for its transaction, its acceptor and the items of a bundle
abbrev pub label_args : Kind → List (List ℕ)
label_args (Prepare tx) = []
label_args (P1a tx rm ballot) = ballot_words rm ballot
label_args (P1b tx rm ballot report acceptor) = ballot_words rm ballot ++ report_words report
label_args (P2a tx rm ballot vote) = ballot_words rm ballot ++ vote_text vote ∷ []
label_args (P2b tx rm ballot vote acceptor) = ballot_words rm ballot ++ vote_text vote ∷ []
label_args (Commit tx) = []
label_args (Abort tx) = []
label_args (Kind.Ask tx rm) = node_text (R rm) ∷ []
label_args (B1a tx ballot) = decimal ballot ∷ []
label_args (B1b tx ballot acceptor reports) = decimal ballot ∷ []
label_args (B2b tx acceptor accepts) = []

-- the name of a transaction, after a space, where there are several
abbrev pub named : Bool → TxParts → List ℕ
named several tx = if several then 32 ∷ tx_text tx else []

-- a datagram
abbrev pub sent_label : Bool → Sent → List ℕ
sent_label several sent =
    message_word sent.message ++ spaced_words (label_args sent.message) ++ named several (message_tx sent.message)

-- a notice, by its word and the floor that it tells
abbrev pub notice_label : Told → List ℕ
notice_label told = codes "told" ++ 32 ∷ floor_text told.floor

-- a changed view
abbrev pub change_label : Bool → Change → List ℕ
change_label several change = view_text change.view ++ named several change.tx
