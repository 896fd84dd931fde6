-- Facts that played, one after the other.
-- Needed by Manager.Apart; 8 crates above.
use Rattle.std.proofs.Common.{◌≡◌, ℕ, true, ◌&&◌, not, List, [], ◌∷◌, ◌++◌, inl, inr, refl, sym, subst, append_assoc, append-nil}
use Rattle.std.proofs.lemmas.Bool.{and_parts, and_from}
use Rattle.xid.specs.Transactions.{TxParts, is_participant}
use Rattle.xid.specs.declared.transaction.Vote.{Vote}
use Rattle.xid.specs.declared.transaction.Vote.TheVariants as votes
use Rattle.protocol.specs.Basics.{Fact}
use Rattle.stable_record.specs.declared.fact.FactKind.TheVariants as stored
use Rattle.protocol.specs.Vocabulary.{NodeId, R}
use Rattle.protocol.specs.Managers.{stored_votes, is_new, is_name_spent, is_some_held}
use Rattle.protocol.specs.Facts.{bound_branches, HasVote}
use Rattle.protocol.specs.Effects.{Config}
use Rattle.protocol.specs.Nodes.{plays, all_play}
use Rattle.ballot.specs.Greatest.{IsIn}

-- a fact played after some facts
pub record IsPlayedFact (config : Config) (who : NodeId) (fact : Fact) : Type 0 where
  pub before : List Fact
  pub played : plays config who before fact ≡ true

-- each of facts that all play is one that plays
pub each_played : (config : Config) (who : NodeId) (before facts : List Fact) → all_play config who before facts ≡ true
    → (fact : Fact) → IsIn facts fact → IsPlayedFact config who fact
each_played config who before [] h fact k = absurd k
each_played config who before (first ∷ facts) h fact (inl e) =
    let parts = and_parts (plays config who before first) (all_play config who (before ++ first ∷ []) facts) h in
    record { before = before; played = subst (λ (f : Fact). plays config who before f ≡ true) e parts.0 }
each_played config who before (first ∷ facts) h fact (inr k) =
    let parts = and_parts (plays config who before first) (all_play config who (before ++ first ∷ []) facts) h in
    each_played config who (before ++ first ∷ []) facts parts.1 fact k

-- a stored vote is on a transaction that names this resource manager
pub voted_named : (config : Config) (rm : ℕ) (facts : List Fact) → all_play config (R rm) [] facts ≡ true
    → (tx : TxParts) (v : Vote) → HasVote facts tx v → is_participant tx rm ≡ true
voted_named config rm facts play tx votes.Prepared h =
    let is = each_played config (R rm) [] facts play (stored.VotePrepared tx h.0) h.1 in
    (and_parts (is_participant tx rm) (is_new (stored_votes rm is.before) tx)
    (and_parts (is_participant tx rm && is_new (stored_votes rm is.before) tx) (not (is_name_spent rm (stored_votes rm is.before) tx))
    (and_parts (is_participant tx rm && is_new (stored_votes rm is.before) tx && not (is_name_spent rm (stored_votes rm is.before) tx))
    (not (is_some_held (bound_branches is.before) h.0)) is.played).0).0).0
voted_named config rm facts play tx votes.Aborted h =
    let is = each_played config (R rm) [] facts play (stored.VoteAborted tx) h in
    (and_parts (is_participant tx rm) (is_new (stored_votes rm is.before) tx) is.played).0

-- one more fact that plays
pub all_play_then : (config : Config) (who : NodeId) (before facts : List Fact) (fact : Fact) → all_play config who before facts ≡ true
    → plays config who (before ++ facts) fact ≡ true → all_play config who before (facts ++ fact ∷ []) ≡ true
all_play_then config who before [] fact h e =
    and_from (plays config who before fact) true (subst (λ (fs : List Fact). plays config who fs fact ≡ true) (append-nil before) e) refl
all_play_then config who before (first ∷ facts) fact h e =
    let parts = and_parts (plays config who before first) (all_play config who (before ++ first ∷ []) facts) h in
    and_from (plays config who before first) (all_play config who (before ++ first ∷ []) (facts ++ fact ∷ [])) parts.0
    (all_play_then config who (before ++ first ∷ []) facts fact parts.1
    (subst (λ (fs : List Fact). plays config who fs fact ≡ true) (sym (append_assoc before (first ∷ []) facts)) e))
