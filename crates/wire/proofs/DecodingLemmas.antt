-- The tests of decoding decide the facts of the grammar, and so it finds what is spelled.
-- Needed by `message_at_is_exact`; BundleKinds, Decoded and TakenTx; 7 crates above.
use Rattle.std.proofs.Common.{◌≡◌, ℕ, zero, suc, ◌<◌, ◌≤◌, ◌^◌, Bool, true, false, ◌&&◌, cond, ltb, leb, List, [], ◌∷◌, length, Option}
use Rattle.std.proofs.Common.{Some, None, refl, sym, subst, ◌∙◌, arith, IsTrue}
use Rattle.std.specs.Prelude.{slice_index}
use Rattle.std.specs.Bool.{Decides}
use Rattle.std.specs.List.{list_all, All, AllByRecursion}
use Rattle.std.specs.List.Sorted.{IsStrictlyIncreasing}
use Rattle.std.specs.Str.{bytes_eq}
use Rattle.std.proofs.lemmas.Bool.{leb-true, le-leb, cond-true}
use Rattle.std.proofs.lemmas.Bool.Decides.{Decides-like, Decides-and, Decides-ltb, Decides-by_and}
use Rattle.std.proofs.lemmas.Slice.Eq.{bytes_eq-Decides}
use Rattle.xid.specs.Limits.{most_acceptors, most_managers, most_branches, most_component, formats}
use Rattle.xid.specs.Names.{IsBytes, IsComponent}
use Rattle.xid.specs.Transactions.{TxParts, BranchParts, IsBranch, AreBranches, IsTx, rm_numbers, is_participant}
use Rattle.xid.specs.declared.transaction.Vote.{Vote}
use Rattle.wire.specs.declared.message.Kind.{Kind}
use Rattle.wire.specs.declared.message.Kind.TheVariants.{Prepare, P1a, P1b, P2a, P2b, Commit, Abort, Ask, B1a, B1b, B2b}
use Rattle.wire.specs.Messages.{IsInstance, AreInstances, IsBallot, IsLeaderBallot, IsReportBelow, IsMessage}
use Rattle.wire.specs.Messages.{reported_instances, accepted_instances}
use Rattle.wire.specs.Grammar.{Spells, spelling, kind_byte, rest_spelling}
use Rattle.wire.specs.Reading.{byte_at, tx_at, kind_at}
use Rattle.wire.specs.Decoding.{is_component, is_branch, is_ascending, is_tx, is_instance, are_instances, is_ballot, is_leader_ballot}
use Rattle.wire.specs.Decoding.{is_report, is_message, message_at}
use Rattle.wire.specs.Versions.{version_2}
use Rattle.wire.proofs.Ascending.{before, later}
use Rattle.wire.proofs.Spelled.{step}
use Rattle.wire.proofs.Fields.{wide_2, in_version_2, tx_again, kind_whole, tx_valid}

pub leb_decides : (a b : ℕ) → Decides (leb a b) (a ≤ b)
leb_decides a b = (leb-true a b, le-leb a b)

pub bytes_decides : (xs : List ℕ) → Decides (list_all (λ byte. ltb byte 256) xs) (IsBytes xs)
bytes_decides [] = (λ _ i. omega arith, λ _. refl)
bytes_decides (x ∷ xs) =
    Decides-like _ (λ h i. each h.0 h.1 i) (λ h. (h 0, λ i. h (suc i))) (Decides-and _ _ (Decides-ltb x 256) (bytes_decides xs))
  where
    each : x < 256 → IsBytes xs → (i : ℕ) → slice_index (x ∷ xs) i < 256
    each lt all zero = lt
    each lt all (suc i) = all i

pub component_decides : (xs : List ℕ) → Decides (is_component xs) (IsComponent xs)
component_decides xs =
    Decides-like _ (λ h. record { some = h.0.0; few = h.0.1; bytes = h.1 }) (λ h. ((h.some, h.few), h.bytes))
    (Decides-and _ _ (Decides-and _ _ (Decides-ltb 0 (length xs)) (leb_decides (length xs) most_component)) (bytes_decides xs))

branch_decides : (b : BranchParts) → Decides (is_branch b) (IsBranch b)
branch_decides b =
    Decides-like _ (λ h. record { rm = h.0; bqual = h.1 }) (λ h. (h.rm, h.bqual))
    (Decides-and _ _ (Decides-ltb b.rm most_managers) (component_decides b.bqual))

ascending_decides : (ns : List ℕ) → Decides (is_ascending ns) (IsStrictlyIncreasing ns)
ascending_decides [] = (λ _ k lt. absurd (omega arith), λ _. refl)
ascending_decides (n ∷ []) = (λ _ k lt. absurd (omega arith), λ _. refl)
ascending_decides (n ∷ m ∷ rest) =
    Decides-like _ (λ h. before n m rest h.0 h.1) (λ h. (h 0 (omega arith), later n m rest h))
    (Decides-and _ _ (Decides-ltb n m) (ascending_decides (m ∷ rest)))

branches_decide : (bs : List BranchParts) → Decides (list_all is_branch bs) (All IsBranch bs)
branches_decide = Decides-by_and is_branch IsBranch (list_all is_branch) branch_decides refl (λ _ _. refl)

-- the test of transactions decides whether one is a transaction
pub tx_decides : (tx : TxParts) → Decides (is_tx tx) (IsTx tx)
tx_decides tx =
    Decides-like _
    (λ h.
    let branches : AreBranches tx.branches = record { some = h.0.0.0.1; few = h.0.0.1; each = h.0.1; ascending = h.1 } in
    record { format = h.0.0.0.0.0; gtrid = h.0.0.0.0.1; branches = branches })
    (λ h. (((((h.format, h.gtrid), h.branches.some), h.branches.few), h.branches.each), h.branches.ascending))
    (Decides-and _ _ (Decides-and _ _ (Decides-and _ _ (Decides-and _ _ (Decides-and _ _
    (Decides-ltb tx.format formats) (component_decides tx.gtrid)) (Decides-ltb 0 (length tx.branches)))
    (leb_decides (length tx.branches) most_branches)) (branches_decide tx.branches)) (ascending_decides (rm_numbers tx.branches)))

instance_decides : (tx : TxParts) (rm : ℕ) → Decides (is_instance tx rm) (IsInstance tx rm)
instance_decides tx rm =
    Decides-like _ (λ h. record { valid = h.0; named = h.1 }) (λ h. (h.valid, h.named))
    (Decides-and _ _ (tx_decides tx) (λ h. h, λ h. h))

pub leader_ballot_decides : (ballot : ℕ) → Decides (is_leader_ballot ballot) (IsLeaderBallot ballot)
leader_ballot_decides ballot =
    Decides-like _ (λ h. record { some = h.0; fits = h.1 }) (λ h. (h.some, h.fits))
    (Decides-and _ _ (leb_decides 1 ballot) (Decides-ltb ballot (2 ^ 32)))

-- so it is for reports below a ballot
pub report_decides : (ballot : ℕ) (report : Option (ℕ × Vote)) → Decides (is_report ballot report) (IsReportBelow ballot report)
report_decides ballot None = (λ _. tt, λ _. refl)
report_decides ballot (Some accepted) = Decides-ltb accepted.0 ballot

pub all_decides : {X : Type 0} (p : X → Bool) (P : X → Type 0) → ((x : X) → Decides (p x) (P x)) → (xs : List X)
    → Decides (list_all p xs) (AllByRecursion P xs)
all_decides p P each [] = (λ _. tt, λ _. refl)
all_decides p P each (x ∷ xs) = Decides-and (p x) (list_all p xs) (each x) (all_decides p P each xs)

instances_decide : (tx : TxParts) (ns : List ℕ) → Decides (are_instances tx ns) (AreInstances tx ns)
instances_decide tx ns =
    Decides-like _ (λ h. record { valid = h.0.0.0; some = h.0.0.1; named = h.0.1; ascending = h.1 })
    (λ h. (((h.valid, h.some), h.named), h.ascending))
    (Decides-and _ _ (Decides-and _ _ (Decides-and _ _ (tx_decides tx) (leb_decides 1 (length ns)))
    (all_decides (λ rm. is_participant tx rm) (λ rm. IsTrue (is_participant tx rm)) (λ rm. (λ h. h, λ h. h)) ns))
    (ascending_decides ns))

-- and for messages
pub message_decides : (k : Kind) → Decides (is_message k) (IsMessage k)
message_decides (Prepare tx) = tx_decides tx
message_decides (P1a tx rm ballot) = Decides-and _ _ (instance_decides tx rm) (leader_ballot_decides ballot)
message_decides (P1b tx rm ballot report acceptor) =
    let first = Decides-and _ _ (instance_decides tx rm) (leader_ballot_decides ballot) in
    Decides-like _ (λ h. (h.0.0.0, h.0.0.1, h.0.1, h.1)) (λ h. (((h.0, h.1), h.2), h.3))
    (Decides-and _ _ (Decides-and _ _ first (report_decides ballot report)) (Decides-ltb acceptor most_acceptors))
message_decides (P2a tx rm ballot vote) = Decides-and _ _ (instance_decides tx rm) (Decides-ltb ballot (2 ^ 32))
message_decides (P2b tx rm ballot vote acceptor) =
    Decides-like _ (λ h. (h.0.0, h.0.1, h.1)) (λ h. ((h.0, h.1), h.2))
    (Decides-and _ _ (Decides-and _ _ (instance_decides tx rm) (Decides-ltb ballot (2 ^ 32))) (Decides-ltb acceptor most_acceptors))
message_decides (Commit tx) = tx_decides tx
message_decides (Abort tx) = tx_decides tx
message_decides (Ask tx rm) = instance_decides tx rm
message_decides (B1a tx ballot) = Decides-and _ _ (tx_decides tx) (leader_ballot_decides ballot)
message_decides (B1b tx ballot acceptor reports) =
    Decides-like _ (λ h. (h.0.0.0, h.0.0.1, h.0.1, h.1)) (λ h. (((h.0, h.1), h.2), h.3))
    (Decides-and _ _ (Decides-and _ _
    (Decides-and _ _ (instances_decide tx (reported_instances reports)) (leader_ballot_decides ballot))
    (Decides-ltb acceptor most_acceptors))
    (all_decides (λ item. is_report ballot item.report) (λ item. IsReportBelow ballot item.report)
    (λ item. report_decides ballot item.report) reports))
message_decides (B2b tx acceptor accepts) =
    Decides-like _ (λ h. (h.0.0, h.0.1, h.1)) (λ h. ((h.0, h.1), h.2))
    (Decides-and _ _ (Decides-and _ _ (instances_decide tx (accepted_instances accepts)) (Decides-ltb acceptor most_acceptors))
    (all_decides (λ item. is_ballot item.ballot) (λ item. IsBallot item.ballot) (λ item. Decides-ltb item.ballot (2 ^ 32)) accepts))

-- what is asked of a kind that was taken
abbrev is_spelled : List ℕ → Kind → Bool
is_spelled bytes k = is_message k && bytes_eq (spelling k) bytes

spelled_decides : (bytes : List ℕ) (k : Kind) → Decides (is_spelled bytes k) (Spells k bytes)
spelled_decides bytes k =
    Decides-like _ (λ h. record { message = h.0; spelled = sym h.1 }) (λ h. (h.message, sym h.spelled))
    (Decides-and _ _ (message_decides k) (bytes_eq-Decides (spelling k) bytes))

-- each step of the computation, and what is asked last
steps : (bytes front rest : List ℕ) (version code : ℕ) (tx : TxParts) (k : Kind) → bytes ≡ version ∷ code ∷ front
    → tx_at version_2 front ≡ Some (tx, rest) → kind_at code tx rest ≡ Some (k, [])
    → message_at bytes ≡ cond (is_spelled bytes k) (Some k) None
steps bytes front rest version code tx k e first last = rw (e, first, last) refl

-- what was spelled is found
pub found : (k : Kind) (bytes : List ℕ) → Spells k bytes → message_at bytes ≡ Some k
found k bytes h =
    let first = tx_again version_2 _ (rest_spelling version_2 k) wide_2 (in_version_2 (tx_valid k h.message)) in
    steps bytes _ (rest_spelling version_2 k) _ (kind_byte k) _ k h.spelled first (kind_whole k h.message)
    ∙ cond-true (is_spelled bytes k) (Some k) None ((spelled_decides bytes k).1 h)

-- what a reading gives where its test is known
pub kept : {X : Type 0} (t : Bool) (x y : X) → cond t (Some x) None ≡ Some y → (t ≡ true) × (x ≡ y)
kept true x y e = (refl, cc)
kept false x y e = absurd (cc)

-- what is found was spelled
pub spelled : (k : Kind) (bytes : List ℕ) → message_at bytes ≡ Some k → Spells k bytes
spelled k bytes e =
    step (byte_at bytes) _ e (λ version _ e. step (byte_at version.1) _ e (λ code _ e.
    step (tx_at version_2 code.1) _ e (λ tx _ e. step (kind_at code.0 tx.0 tx.1) _ e (λ m _ e.
    let last = kept (is_spelled bytes m.0) m.0 k e in
    subst (λ (m : Kind). Spells m bytes) last.1 ((spelled_decides bytes m.0).0 last.0)))))
