-- What all roles say of facts and of messages.
-- Needed by `ballots_are_owned`; 14 files here; crates progress, commits and floors.
use Rattle.std.proofs.Common.{◌≡◌, ℕ, ◌≤◌, Bool, true, if◌then◌else◌, List, ◌++◌, Option, Some, None, refl, sym, ap, subst}
use Rattle.std.specs.Prelude.{IsTrue, option_to_list}
use Rattle.std.specs.List.{flat_map}
use Rattle.std.proofs.lemmas.List.{append-nil}
use Rattle.std.proofs.lemmas.Bool.{eqb-true, eq-eqb}
use Rattle.xid.specs.Transactions.{TxParts, BranchParts, participants, is_participant, is_at}
use Rattle.xid.specs.declared.transaction.Vote.{Vote}
use Rattle.xid.specs.declared.transaction.Vote.TheVariants.{Prepared, Aborted}
use Rattle.wire.specs.declared.message.Kind.{Kind}
use Rattle.stable_record.specs.declared.fact.FactKind.TheVariants as stored
use Rattle.protocol.specs.Basics.{Fact}
use Rattle.safety.specs.Vocabulary.{Outgoing}
use Rattle.protocol.specs.Facts.{vote_eq, last_ballot, ballot_begun}
use Rattle.protocol.specs.PaperItems.{unbundled}
pub use Rattle.protocol.specs.Facts.{with_fact}
use Rattle.xid.proofs.Deciding.{tx_self}
use Rattle.protocol.proofs.Lists.{any_found, found_any, IsIn-map, IsIn-mapped}
use Rattle.ballot.specs.Greatest.{IsIn}
use Rattle.ballot.proofs.Greatest.{at_most_greatest}

pub with_fact_is : (facts : List Fact) (fact : Option Fact) → with_fact facts fact ≡ facts ++ option_to_list fact
with_fact_is facts None = sym (append-nil facts)
with_fact_is facts (Some fact) = refl

-- the paper's messages that an effect's sends stand for
abbrev pub messages_of : List Outgoing → List Kind
messages_of sends = flat_map (λ send. unbundled send.message) sends

pub vote_eq-is : (v w : Vote) → vote_eq v w ≡ true → v ≡ w
vote_eq-is Prepared Prepared e = refl
vote_eq-is Aborted Aborted e = refl
vote_eq-is Prepared Aborted e = absurd (cc (e))
vote_eq-is Aborted Prepared e = absurd (cc (e))

-- a ballot that was begun is at most the greatest
pub begun_below : (facts : List Fact) (tx : TxParts) (b : ℕ) → IsIn facts (stored.Ballot tx b) → b ≤ last_ballot facts tx
begun_below facts tx b h =
    at_most_greatest (ballot_begun tx) facts (stored.Ballot tx b) b h (ap (λ (t : Bool). if t then Some b else None) (tx_self tx))

-- ---- the participants of a transaction

pub among_participants : (tx : TxParts) (r : ℕ) → IsTrue (is_participant tx r) → IsIn (participants tx) r
among_participants tx r h =
    let at = any_found (is_at r) tx.branches h in
    subst (λ (x : ℕ). IsIn (participants tx) x) (eqb-true at.element.rm r at.passes)
    (IsIn-map (λ (b : BranchParts). b.rm) tx.branches at.element at.among)

pub participates : (tx : TxParts) (r : ℕ) → IsIn (participants tx) r → IsTrue (is_participant tx r)
participates tx r h =
    let at = IsIn-mapped (λ (b : BranchParts). b.rm) tx.branches r h in
    found_any (is_at r) tx.branches at.source at.among (eq-eqb at.source.rm r at.maps)
