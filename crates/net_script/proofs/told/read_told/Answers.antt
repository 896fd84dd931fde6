use Rattle.std.proofs.Common.{◌≡◌, ◌∙◌, ◌∷◌, List, ℕ, sym, ap, subst, refl}
use Rattle.std.proofs.lemmas.Bool.{iff_false}
use Rattle.wire.proofs.Fields.{tx_valid}
use Rattle.net_script.specs.Basics.{TxParts, IsMessage, message_tx}
use Rattle.net_script.specs.Messages.{message_words, kind_of}
use Rattle.net_script.specs.Laws.{tx_injective}
use Rattle.net_script.specs.Lines.{words}
use Rattle.net_script.specs.Telling.{TellsSent}
use Rattle.net_script.proofs.Arms.{passes_on}
use Rattle.net_script.proofs.MessageLemmas.{beside, said_alone, same_words, message_fits}
use Rattle.net_script.proofs.TraceLineLemmas.{known_is}
use Rattle.net_script.proofs.told.read_told.Goals as goal

third : {given rest after others : List (List ℕ)} {a b x y : List ℕ} → given ≡ a ∷ rest → rest ≡ b ∷ after → given ≡ x ∷ y ∷ others
    → after ≡ others
third p q e = cc

-- a name, a transaction and what is left, where these are a message's words
named : {given r1 r2 r3 r4 after others : List (List ℕ)} {a b d x y z name text : List ℕ} → given ≡ a ∷ r1 → r1 ≡ b ∷ r2 → r2 ≡ d ∷ r3
    → r3 ≡ name ∷ r4 → r4 ≡ text ∷ after → given ≡ x ∷ y ∷ z ∷ others → name ∷ text ∷ after ≡ others
named p q r s t e = cc

pub returns-in_default-node-2 : goal.returns-in_default-node-2
returns-in_default-node-2 c = λ s is e.
    c.in_default-node-2.ensures s.receiver (message_words s.message) is.receiver (third c.in-Some.ensures c.in-Some-node.ensures.1 e)

pub returns-in_err-said : goal.returns-in_err-said
returns-in_err-said c =
    passes_on (TellsSent c.know.new.known (words c.args.args.now)) (λ e. refl)
    (λ none s is e.
    let parts = same_words s.message (named c.in-Some.ensures c.in-Some-node.ensures.1 c.in-Some-node-2.ensures.1
    c.in-Some-next_word.ensures.cut c.in-Some-next_word-2.ensures.cut e) in
    let own = beside s.message in
    none own.said (own.fits (message_fits s.message is.message)) parts.0) _ _ c.from_residual.ensures.1 c.in_err-said.ensures

pub returns-then-not-is_about : goal.returns-then-not-is_about
returns-then-not-is_about c = λ s is e.
    let parts = same_words s.message (named c.in-Some.ensures c.in-Some-node.ensures.1 c.in-Some-node-2.ensures.1
    c.in-Some-next_word.ensures.cut c.in-Some-next_word-2.ensures.cut e) in
    let own = beside s.message in
    let text = known_is _ _ _ _ c.tx.result.now c.in-Ok.ensures.ok c.if-not-is_tx.false c.in-Some-known.is c.tx.ensures in
    let tx : c.tx.result.now ≡ message_tx s.message =
    tx_injective c.tx.result.now (message_tx s.message) text.0 (tx_valid s.message is.message) (sym text.1 ∙ parts.1) in
    let read = c.in_ok-said.ensures in
    let said : c.in_ok-said.said ≡ own.said =
    (said_alone c.in_ok-said.said read.0).one own.said (own.fits (message_fits s.message is.message)) (sym read.1 ∙ parts.0) in
    let same : kind_of c.tx.result.now c.in_ok-said.said ≡ s.message =
    ap (λ (t : TxParts). kind_of t c.in_ok-said.said) tx ∙ ap (kind_of (message_tx s.message)) said ∙ own.is in
    iff_false c.is_about.ensures c.if-not-is_about.true (subst IsMessage (sym same) is.message)
