-- What an acceptor writes, frame by frame.
-- Needed by `write_accept`, `write_common` and `write_promise`.
use Rattle.std.proofs.Common.{◌≡◌, ◌∙◌, ℕ, ◌<◌, max, Bool, true, List, [], ◌∷◌, ◌++◌, Some, sym, ap, subst, arith}
use Rattle.std.specs.Prelude.{OnOk, Result, Ok, Err, nat_lt, if◌then◌else◌}
use Rattle.std.proofs.lemmas.Bool.Decides.{nat_tests}
use Rattle.xid.specs.declared.refusals.Refusal.{Refusal}
use Rattle.xid.specs.Transactions.{TxParts}
use Rattle.xid.specs.declared.transaction.Vote.{Vote}
use Rattle.wire.specs.Versions.{version_2}
use Rattle.stable_record.specs.declared.entry.EntryKind.{EntryKind as Entry}
use Rattle.stable_record.specs.declared.fact.FactKind.{FactKind as Fact}
use Rattle.stable_record.specs.Facts.{IsFact}
use Rattle.stable_record.specs.Grammar.{frame}
use Rattle.stable_record.specs.Written.{AddsFacts}
use Rattle.stable_record.proofs.Written.{facts_one}
use Rattle.ballot.specs.Choice.{Report}
use Rattle.ballot.specs.declared.slot.Slot.{Slot}
use Rattle.acceptor.specs.Compaction.{accept_facts, accepted_ballot, common_facts, promise_facts}

-- what a written fact adds
pub fact_written : (r : Result (Unit {0}) Refusal) (old new : List ℕ) (fact : Fact) → IsFact fact
    → OnOk r (new ≡ old ++ frame version_2 (Entry.Fact fact)) → OnOk r (AddsFacts old new (fact ∷ []))
fact_written (Err e) old new fact valid put = tt
fact_written (Ok done) old new fact valid put = facts_one old new fact valid put

-- what was accepted last
pub accept_written : (r : Result (Unit {0}) Refusal) (old new : List ℕ) (tx : TxParts) (i : ℕ) (report : Report) (ballot : ℕ) (vote : Vote)
    (fact : Fact) → report ≡ Some (ballot, vote) → fact ≡ Fact.Accept tx i ballot vote → IsFact fact
    → OnOk r (new ≡ old ++ frame version_2 (Entry.Fact fact)) → OnOk r (AddsFacts old new (accept_facts tx i report))
accept_written r old new tx i report ballot vote fact report_is fact_is valid put =
    subst (λ (fs : List Fact). OnOk r (AddsFacts old new fs)) (ap (λ f. f ∷ []) fact_is ∙ ap (accept_facts tx i) (sym report_is))
    (fact_written r old new fact valid put)

-- the promise for all
pub common_written : (r : Result (Unit {0}) Refusal) (old new : List ℕ) (tx : TxParts) (common : ℕ) (fact : Fact) → 0 < common
    → fact ≡ Fact.PromiseAll tx common → IsFact fact
    → OnOk r (new ≡ old ++ frame version_2 (Entry.Fact fact)) → OnOk r (AddsFacts old new (common_facts tx common))
common_written r old new tx common fact lt fact_is valid put =
    let above : nat_lt 0 common ≡ true = grind (arith, nat_tests, lt) in
    let given : fact ∷ [] ≡ common_facts tx common =
    ap (λ f. f ∷ []) fact_is ∙ ap (λ (t : Bool). if t then Fact.PromiseAll tx common ∷ [] else []) (sym above) in
    subst (λ (fs : List Fact). OnOk r (AddsFacts old new fs)) given (fact_written r old new fact valid put)

-- a promise above both
pub promise_written : (r : Result (Unit {0}) Refusal) (old new : List ℕ) (tx : TxParts) (common i below : ℕ) (s : Slot) (fact : Fact)
    → below ≡ max (accepted_ballot s.report) common → below < s.mbal → fact ≡ Fact.Promise tx i s.mbal → IsFact fact
    → OnOk r (new ≡ old ++ frame version_2 (Entry.Fact fact)) → OnOk r (AddsFacts old new (promise_facts tx common i s))
promise_written r old new tx common i below s fact below_is lt fact_is valid put =
    let above : nat_lt below s.mbal ≡ true = grind (arith, nat_tests, lt) in
    let given : fact ∷ [] ≡ promise_facts tx common i s =
    ap (λ f. f ∷ []) fact_is
    ∙ ap (λ (t : Bool). if t then Fact.Promise tx i s.mbal ∷ [] else []) (sym above ∙ ap (λ n. nat_lt n s.mbal) below_is) in
    subst (λ (fs : List Fact). OnOk r (AddsFacts old new fs)) given (fact_written r old new fact valid put)
