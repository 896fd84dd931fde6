-- The laws of the grammar: no spelling begins another, and a spelling has one message.
-- Needed by `spelling_laws` and `view_of`; crates safety, node_core and cluster.
use Rattle.std.proofs.Common.{◌≡◌, ℕ, List, [], ◌∷◌, ◌++◌, refl, sym, ap, ◌∙◌, append_assoc}
use Rattle.std.proofs.lemmas.List.{append-nil}
use Rattle.wire.specs.declared.message.Kind.{Kind}
use Rattle.wire.specs.Messages.{IsMessage, message_tx}
use Rattle.wire.specs.Versions.{version_2}
use Rattle.wire.specs.Grammar.{Spells, spelling, tx_spelling, kind_byte, rest_spelling}
use Rattle.wire.specs.Reading.{kind_at}
use Rattle.wire.proofs.Spelled.{some_same}
use Rattle.wire.proofs.Fields.{wide_2, in_version_2, tx_again, kind_again, kind_whole, tx_valid, same_taken}

-- a message's transaction, and what follows it
abbrev tx_bytes : Kind → List ℕ
tx_bytes k = tx_spelling version_2 (message_tx k)

abbrev rest_bytes : Kind → List ℕ
rest_bytes k = rest_spelling version_2 k

-- spellings that are the same have the same code
pub codes : (v a w b : ℕ) (xs ys : List ℕ) → v ∷ a ∷ xs ≡ w ∷ b ∷ ys → (a ≡ b) × (xs ≡ ys)
codes v a w b xs ys e = (cc, cc)

-- no spelling begins another
pub begins_none : (k m : Kind) (rest : List ℕ) → IsMessage k → IsMessage m → spelling k ++ rest ≡ spelling m → (k ≡ m) × (rest ≡ [])
begins_none k m rest is-k is-m e =
    let heads =
    codes _ (kind_byte k) _ (kind_byte m) ((tx_bytes k ++ rest_bytes k) ++ rest)
    (tx_bytes m ++ rest_bytes m) e in
    let regrouped : (tx_bytes k ++ rest_bytes k) ++ rest ≡ tx_bytes k ++ (rest_bytes k ++ rest) =
    append_assoc (tx_bytes k) (rest_bytes k) rest in
    let both : tx_bytes k ++ (rest_bytes k ++ rest) ≡ tx_bytes m ++ rest_bytes m =
    sym regrouped ∙ heads.1 in
    let txs =
    same_taken (tx_bytes k ++ (rest_bytes k ++ rest)) (message_tx k) (rest_bytes k ++ rest) (message_tx m)
    (rest_bytes m) (tx_valid m is-m) both (tx_again version_2 (message_tx k) (rest_bytes k ++ rest) wide_2
    (in_version_2 (tx_valid k is-k))) in
    let same : kind_at (kind_byte k) (message_tx k) (rest_bytes k ++ rest) ≡ kind_at (kind_byte m) (message_tx m) (rest_bytes m) =
    rw (heads.0, txs.0, txs.1) refl in
    let both = some_same (k, rest) (m, []) (sym (kind_again k rest is-k) ∙ same ∙ kind_whole m is-m) in
    (ap (λ (p : Kind × List ℕ). p.0) both, ap (λ (p : Kind × List ℕ). p.1) both)

-- a message has one spelling
pub spelled_once : (k : Kind) (xs ys : List ℕ) → Spells k xs → Spells k ys → xs ≡ ys
spelled_once k xs ys p q = p.spelled ∙ sym q.spelled

-- a spelling has one message
pub means_one : (k m : Kind) (bytes : List ℕ) → Spells k bytes → Spells m bytes → k ≡ m
means_one k m bytes p q = (begins_none k m [] p.message q.message (append-nil (spelling k) ∙ sym p.spelled ∙ q.spelled)).0
