-- What is taken as a message was spelled, where nothing follows it.
-- Needed by `plain_of` and `view_of`.
use Rattle.std.proofs.Common.{◌≡◌, ℕ, ◌==◌, Bool, true, false, cond, eqb, List, [], ◌∷◌, ◌++◌, length, Option, Some, refl, sym, subst, ap}
use Rattle.std.proofs.Common.{◌∙◌, eqb-true}
use Rattle.std.specs.List.{flat_map}
use Rattle.std.proofs.lemmas.List.{append-nil}
use Rattle.xid.specs.Names.{IsBytes}
use Rattle.xid.specs.Transactions.{TxParts}
use Rattle.wire.specs.declared.message.Kind.{Kind}
use Rattle.wire.specs.declared.message.Kind.TheVariants.{Prepare, P1a, P1b, P2a, P2b, Commit, Abort, Ask, B1a, B1b, B2b}
use Rattle.wire.specs.Messages.{message_tx}
use Rattle.wire.specs.Versions.{version_2}
use Rattle.wire.specs.Grammar.{number_spelling, rm_spelling, vote_byte, report_spelling, report_item_spelling, accept_item_spelling}
use Rattle.wire.specs.Grammar.{kind_byte, rest_spelling}
use Rattle.wire.specs.Reading.{byte_at, number_at, rm_at, vote_at, report_at, instance_at, report_item_at, accept_item_at, items_at}
use Rattle.wire.specs.Reading.{p1a_at, p1b_at, p2a_at, p2b_at, ask_at, b1a_at, b1b_at, b2b_at, kind_at}
use Rattle.wire.specs.declared.grammar.VersionNumber.TheVariants.{Second}
use Rattle.wire.proofs.Spelled.{Front, joined, some_same, step, byte_spelled, number_spelled, rm_spelled, vote_spelled, report_spelled}
use Rattle.wire.proofs.Spelled.{instance_spelled, report_item_spelled, accept_item_spelled, items_spelled}

-- a kind has this number and this transaction, and these bytes are what follows it
pub record IsRest (code : ℕ) (tx : TxParts) (bytes : List ℕ) (k : Kind) : Type 0 where
  pub numbered : code ≡ kind_byte k
  pub about : message_tx k ≡ tx
  pub spelled : bytes ≡ rest_spelling version_2 k

-- a kind m was taken from the front, it is k, and nothing follows it
ended : (m k : Kind) (bytes rest : List ℕ) → Front bytes (rest_spelling version_2 m) rest → ◌≡◌ {A = Option (Kind × List ℕ)}
    (Some (m, rest)) (Some (k, []))
    → IsRest (kind_byte m) (message_tx m) bytes k
ended m k bytes rest front e =
    let both = some_same (m, rest) (k, []) e in
    let none : rest ≡ [] = ap (λ (x : Kind × List ℕ). x.1) both in
    subst (λ (k : Kind). IsRest (kind_byte m) (message_tx m) bytes k) (ap (λ (x : Kind × List ℕ). x.0) both)
    (record {
      numbered = refl;
      about = refl;
      spelled = front.same ∙ ap (λ (xs : List ℕ). rest_spelling version_2 m ++ xs) none ∙ append-nil (rest_spelling version_2 m);
    })

bare_spelled : (m k : Kind) (bytes : List ℕ) → IsBytes bytes → rest_spelling version_2 m ≡ [] → ◌≡◌ {A = Option (Kind × List ℕ)}
    (Some (m, bytes)) (Some (k, []))
    → IsRest (kind_byte m) (message_tx m) bytes k
bare_spelled m k bytes is none e =
    ended m k bytes bytes (subst (λ (xs : List ℕ). Front bytes xs bytes) (sym none) (record { same = refl; after = is })) e

p1a_spelled : (tx : TxParts) (bytes : List ℕ) (k : Kind) → IsBytes bytes → p1a_at tx bytes ≡ Some (k, []) → IsRest 2 tx bytes k
unfolding p1a_at
p1a_spelled tx bytes k is e =
    step (instance_at version_2 bytes) _ e (λ i ei e. ended (P1a tx i.0 i.1) k bytes i.2 (instance_spelled bytes i is ei) e)

p1b_spelled : (tx : TxParts) (bytes : List ℕ) (k : Kind) → IsBytes bytes → p1b_at tx bytes ≡ Some (k, []) → IsRest 3 tx bytes k
unfolding p1b_at
p1b_spelled tx bytes k is e =
    step (instance_at version_2 bytes) _ e (λ i ei e. step (report_at i.2) _ e (λ report er e. step (byte_at report.1) _ e (λ acceptor ea e.
    let one = instance_spelled bytes i is ei in
    let two = report_spelled i.2 report one.after er in
    let three = byte_spelled report.1 acceptor two.after ea in
    let last = joined i.2 (report_spelling report.0) report.1 (acceptor.0 ∷ []) acceptor.1 two three in
    ended (P1b tx i.0 i.1 report.0 acceptor.0) k bytes acceptor.1
    (joined bytes (rm_spelling version_2 i.0 ++ number_spelling i.1) i.2 (report_spelling report.0 ++ acceptor.0 ∷ []) acceptor.1 one
    last) e)))

p2a_spelled : (tx : TxParts) (bytes : List ℕ) (k : Kind) → IsBytes bytes → p2a_at tx bytes ≡ Some (k, []) → IsRest 4 tx bytes k
unfolding p2a_at
p2a_spelled tx bytes k is e =
    step (instance_at version_2 bytes) _ e (λ i ei e. step (vote_at i.2) _ e (λ vote ev e.
    let one = instance_spelled bytes i is ei in
    let two = vote_spelled i.2 vote one.after ev in
    ended (P2a tx i.0 i.1 vote.0) k bytes vote.1
    (joined bytes (rm_spelling version_2 i.0 ++ number_spelling i.1) i.2 (vote_byte vote.0 ∷ []) vote.1 one two) e))

p2b_spelled : (tx : TxParts) (bytes : List ℕ) (k : Kind) → IsBytes bytes → p2b_at tx bytes ≡ Some (k, []) → IsRest 5 tx bytes k
unfolding p2b_at
p2b_spelled tx bytes k is e =
    step (instance_at version_2 bytes) _ e (λ i ei e. step (vote_at i.2) _ e (λ vote ev e. step (byte_at vote.1) _ e (λ acceptor ea e.
    let one = instance_spelled bytes i is ei in
    let two = vote_spelled i.2 vote one.after ev in
    let three = byte_spelled vote.1 acceptor two.after ea in
    let last = joined i.2 (vote_byte vote.0 ∷ []) vote.1 (acceptor.0 ∷ []) acceptor.1 two three in
    ended (P2b tx i.0 i.1 vote.0 acceptor.0) k bytes acceptor.1
    (joined bytes (rm_spelling version_2 i.0 ++ number_spelling i.1) i.2 (vote_byte vote.0 ∷ acceptor.0 ∷ []) acceptor.1 one last) e)))

ask_spelled : (tx : TxParts) (bytes : List ℕ) (k : Kind) → IsBytes bytes → ask_at tx bytes ≡ Some (k, []) → IsRest 8 tx bytes k
unfolding ask_at
ask_spelled tx bytes k is e =
    step (rm_at version_2 bytes) _ e (λ rm er e. ended (Ask tx rm.0) k bytes rm.1 (rm_spelled Second bytes rm is er) e)

b1a_spelled : (tx : TxParts) (bytes : List ℕ) (k : Kind) → IsBytes bytes → b1a_at tx bytes ≡ Some (k, []) → IsRest 10 tx bytes k
unfolding b1a_at
b1a_spelled tx bytes k is e =
    step (number_at bytes) _ e (λ ballot eb e. ended (B1a tx ballot.0) k bytes ballot.1 (number_spelled bytes ballot is eb) e)

b1b_spelled : (tx : TxParts) (bytes : List ℕ) (k : Kind) → IsBytes bytes → b1b_at tx bytes ≡ Some (k, []) → IsRest 11 tx bytes k
unfolding b1b_at
b1b_spelled tx bytes k is e =
    step (number_at bytes) _ e (λ ballot eb e. step (byte_at ballot.1) _ e (λ acceptor ea e.
    step (items_at report_item_at acceptor.1) _ e (λ reports er e.
    let one = number_spelled bytes ballot is eb in
    let two = byte_spelled ballot.1 acceptor one.after ea in
    let three = items_spelled report_item_at (report_item_spelling version_2) report_item_spelled acceptor.1 reports two.after er in
    let items : List ℕ = length reports.0 ∷ flat_map (report_item_spelling version_2) reports.0 in
    let last = joined ballot.1 (acceptor.0 ∷ []) acceptor.1 items reports.1 two three in
    ended (B1b tx ballot.0 acceptor.0 reports.0) k bytes reports.1
    (joined bytes (number_spelling ballot.0) ballot.1 (acceptor.0 ∷ items) reports.1 one last) e)))

b2b_spelled : (tx : TxParts) (bytes : List ℕ) (k : Kind) → IsBytes bytes → b2b_at tx bytes ≡ Some (k, []) → IsRest 12 tx bytes k
unfolding b2b_at
b2b_spelled tx bytes k is e =
    step (byte_at bytes) _ e (λ acceptor ea e. step (items_at accept_item_at acceptor.1) _ e (λ accepts et e.
    let one = byte_spelled bytes acceptor is ea in
    let two = items_spelled accept_item_at (accept_item_spelling version_2) accept_item_spelled acceptor.1 accepts one.after et in
    let items : List ℕ = length accepts.0 ∷ flat_map (accept_item_spelling version_2) accepts.0 in
    ended (B2b tx acceptor.0 accepts.0) k bytes accepts.1 (joined bytes (acceptor.0 ∷ []) acceptor.1 items accepts.1 one two) e))

-- one of two readings, by a kind's number
by : {X : Type 0} (code n : ℕ) (first other : Option X) (x : X) (P : Type 0) → cond (code == n) first other ≡ Some x
    → (code ≡ n → first ≡ Some x → P) → (other ≡ Some x → P) → P
by {X} code n first other x P e here there = from (eqb code n) (eqb-true code n) e
  where
    from : (t : Bool) → (t ≡ true → code ≡ n) → cond t first other ≡ Some x → P
    from true is e = here (is refl) e
    from false is e = there e

at_code : {code n : ℕ} {tx : TxParts} {bytes : List ℕ} {k : Kind} → code ≡ n → IsRest n tx bytes k → IsRest code tx bytes k
at_code {code} {n} {tx} {bytes} {k} e rest = subst (λ (n : ℕ). IsRest n tx bytes k) (sym e) rest

-- what follows a message's transaction was spelled
pub kind_spelled : (code : ℕ) (tx : TxParts) (bytes : List ℕ) (k : Kind) → IsBytes bytes → kind_at code tx bytes ≡ Some (k, [])
    → IsRest code tx bytes k
unfolding kind_at
kind_spelled code tx bytes k is e =
    by code 1 _ _ _ _ e (λ n e. at_code n (bare_spelled (Prepare tx) k bytes is refl e)) (λ e.
    by code 2 _ _ _ _ e (λ n e. at_code n (p1a_spelled tx bytes k is e)) (λ e.
    by code 3 _ _ _ _ e (λ n e. at_code n (p1b_spelled tx bytes k is e)) (λ e.
    by code 4 _ _ _ _ e (λ n e. at_code n (p2a_spelled tx bytes k is e)) (λ e.
    by code 5 _ _ _ _ e (λ n e. at_code n (p2b_spelled tx bytes k is e)) (λ e.
    by code 6 _ _ _ _ e (λ n e. at_code n (bare_spelled (Commit tx) k bytes is refl e)) (λ e.
    by code 7 _ _ _ _ e (λ n e. at_code n (bare_spelled (Abort tx) k bytes is refl e)) (λ e.
    by code 8 _ _ _ _ e (λ n e. at_code n (ask_spelled tx bytes k is e)) (λ e.
    by code 10 _ _ _ _ e (λ n e. at_code n (b1a_spelled tx bytes k is e)) (λ e.
    by code 11 _ _ _ _ e (λ n e. at_code n (b1b_spelled tx bytes k is e)) (λ e.
    by code 12 _ _ _ _ e (λ n e. at_code n (b2b_spelled tx bytes k is e)) (λ e. absurd (cc))))))))))))
