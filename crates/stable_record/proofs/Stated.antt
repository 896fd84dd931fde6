-- The frame of a fact by its transaction and the rest, and how long these are: for the writing of facts over spelled bytes.
use Rattle.std.proofs.Common.{◌≡◌, ℕ, ◌+◌, List, [], ◌∷◌, ◌++◌, length, refl, ap, ◌∙◌, sym, append_assoc, arith}
use Rattle.std.proofs.lemmas.List.{length-append}
use Rattle.xid.specs.Transactions.{TxParts}
use Rattle.wire.specs.Grammar.{number_spelling, tx_spelling}
use Rattle.wire.specs.Versions.{version_2}
use Rattle.stable_record.specs.declared.entry.EntryKind.{EntryKind as Entry}
use Rattle.stable_record.specs.declared.fact.FactKind.{FactKind as Fact}
use Rattle.stable_record.specs.declared.view.FactRest.{FactRest}
use Rattle.stable_record.specs.declared.view.FactRest.TheVariants as rests
use Rattle.stable_record.specs.Grammar.{frame, body_spelling}
use Rattle.stable_record.specs.Rests.{fact_of, any_byte, any_spelling}

pub any_body : (tx : TxParts) (rest : FactRest)
    → body_spelling version_2 (Entry.Fact (fact_of tx rest)) ≡ version_2.byte ∷ any_byte rest ∷
    (tx_spelling version_2 tx ++ any_spelling rest)
any_body tx (rests.Promise instance ballot) = refl
any_body tx (rests.Accept instance ballot vote) = refl
any_body tx (rests.Ballot ballot) = refl
any_body tx (rests.VotePrepared keys) = refl
any_body tx rests.VoteAborted = refl
any_body tx rests.Committed = refl
any_body tx rests.Aborted = refl
any_body tx (rests.PromiseAll ballot) = refl

-- what was put at the end, one after the other, is the frame of a fact with this body
pub framed_by : (old a b c d : List ℕ) (n : ℕ) (tx : TxParts) (spelled : List ℕ) (code : ℕ) (rest : List ℕ) (fact : Fact)
    → body_spelling version_2 (Entry.Fact fact) ≡ version_2.byte ∷ code ∷ (tx_spelling version_2 tx ++ rest)
    → spelled ≡ tx_spelling version_2 tx → n ≡ 2 + length spelled + length rest
    → a ≡ old ++ number_spelling n → b ≡ a ++ version_2.byte ∷ code ∷ [] → c ≡ b ++ spelled → d ≡ c ++ rest
    → d ≡ old ++ frame version_2 (Entry.Fact fact)
framed_by old a b c d n tx spelled code rest fact same is len ea eb ec ed =
    let body : version_2.byte ∷ code ∷ (spelled ++ rest) ≡ body_spelling version_2 (Entry.Fact fact) =
    ap (λ (xs : List ℕ). version_2.byte ∷ code ∷ (xs ++ rest)) is ∙ sym same in
    let all : n ≡ length (version_2.byte ∷ code ∷ (spelled ++ rest)) = omega (arith, len, length-append spelled rest) in
    let parts : d ≡ ((old ++ number_spelling n) ++ version_2.byte ∷ code ∷ []) ++ (spelled ++ rest) =
    ed ∙ ap (λ (xs : List ℕ). xs ++ rest) (ec ∙ ap (λ (xs : List ℕ). xs ++ spelled)
    (eb ∙ ap (λ (xs : List ℕ). xs ++ version_2.byte ∷ code ∷ []) ea)) ∙ append_assoc _ spelled rest in
    parts
    ∙ append_assoc (old ++ number_spelling n) (version_2.byte ∷ code ∷ []) (spelled ++ rest)
    ∙ append_assoc old (number_spelling n) (version_2.byte ∷ code ∷ (spelled ++ rest))
    ∙ ap (λ (k : ℕ). old ++ (number_spelling k ++ version_2.byte ∷ code ∷ (spelled ++ rest))) all
    ∙ ap (λ (xs : List ℕ). old ++ (number_spelling (length xs) ++ xs)) body

-- the same of any fact
pub framed : (old a b c d : List ℕ) (n : ℕ) (tx : TxParts) (spelled : List ℕ) (rest : FactRest) → spelled ≡ tx_spelling version_2 tx
    → n ≡ 2 + length spelled + length (any_spelling rest)
    → a ≡ old ++ number_spelling n → b ≡ a ++ version_2.byte ∷ any_byte rest ∷ [] → c ≡ b ++ spelled → d ≡ c ++ any_spelling rest
    → d ≡ old ++ frame version_2 (Entry.Fact (fact_of tx rest))
framed old a b c d n tx spelled rest =
    framed_by old a b c d n tx spelled (any_byte rest) (any_spelling rest) (fact_of tx rest) (any_body tx rest)
