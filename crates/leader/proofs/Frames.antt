-- What a leader writes, frame by frame.
-- Needed by `write_ballot`.
use Rattle.std.proofs.Common.{◌≡◌, ◌∙◌, ℕ, ◌<◌, Bool, true, List, [], ◌∷◌, ◌++◌, sym, ap, subst, arith}
use Rattle.std.specs.Prelude.{OnOk, Result, Ok, Err, nat_lt, if◌then◌else◌}
use Rattle.std.proofs.lemmas.Bool.Decides.{nat_tests}
use Rattle.xid.specs.declared.refusals.Refusal.{Refusal}
use Rattle.xid.specs.Transactions.{TxParts}
use Rattle.wire.specs.Versions.{version_2}
use Rattle.stable_record.specs.declared.entry.EntryKind.{EntryKind as Entry}
use Rattle.stable_record.specs.declared.fact.FactKind.{FactKind as Fact}
use Rattle.stable_record.specs.Facts.{IsFact}
use Rattle.stable_record.specs.Grammar.{frame}
use Rattle.stable_record.specs.Written.{AddsFacts}
use Rattle.stable_record.proofs.Written.{facts_one}
use Rattle.leader.specs.Compaction.{ballot_facts}

-- the frame of a ballot
pub ballot_written : (r : Result (Unit {0}) Refusal) (old new : List ℕ) (tx : TxParts) (ballot : ℕ) (fact : Fact) → 0 < ballot
    → fact ≡ Fact.Ballot tx ballot → IsFact fact → OnOk r (new ≡ old ++ frame version_2 (Entry.Fact fact))
    → OnOk r (AddsFacts old new (ballot_facts tx ballot))
ballot_written (Err e) old new tx ballot fact some is valid put = tt
ballot_written (Ok done) old new tx ballot fact some is valid put =
    let above : nat_lt 0 ballot ≡ true = grind (arith, nat_tests, some) in
    let given : fact ∷ [] ≡ ballot_facts tx ballot =
    ap (λ f. f ∷ []) is ∙ ap (λ (t : Bool). if t then Fact.Ballot tx ballot ∷ [] else []) (sym above) in
    subst (AddsFacts old new) given (facts_one old new fact valid put)
