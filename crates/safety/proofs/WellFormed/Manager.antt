-- What a resource manager stores and sends is well-formed.
-- Needed by WellFormed.Nodes.
use Rattle.std.proofs.Common.{◌≡◌, ℕ, Bool, true, false, List, [], Option, Some, None, is_some, refl, subst, arith}
use Rattle.std.proofs.lemmas.Bool.{cond_both}
use Rattle.xid.specs.Names.{XidParts}
use Rattle.xid.specs.Transactions.{TxParts, IsTx, xid_at}
use Rattle.xid.specs.declared.transaction.Vote.{Vote}
use Rattle.xid.specs.declared.transaction.Vote.TheVariants as votes
use Rattle.wire.specs.declared.message.Kind.{Kind}
use Rattle.wire.specs.declared.message.Kind.TheVariants.{Prepare, Commit, Abort}
use Rattle.wire.specs.Messages.{IsMessage, IsInstance, message_tx}
use Rattle.stable_record.specs.Facts.{AreKeys}
use Rattle.protocol.specs.Basics.{Fact, Touched}
use Rattle.safety.specs.Vocabulary.{R}
use Rattle.safety.specs.Standing.{HasVote}
use Rattle.protocol.specs.Facts.{vote_in, is_ended, is_spent, view, is_prepared_view, is_open_view}
use Rattle.protocol.specs.Effects.{Config, Effect, no_effect, is_inside}
use Rattle.protocol.specs.Managers.{stored_votes, Branch, idle_keys, vote_sent, first_vote, on_prepare, on_commit, on_abort}
use Rattle.protocol.specs.Managers.{on_manager_message, on_manager_timeout, branches_without}
use Rattle.protocol.specs.Nodes.{all_play}
use Rattle.protocol.proofs.Lists.{all_joined}
use Rattle.protocol.proofs.Manager.Apart.{without_some, idle_branch}
use Rattle.protocol.proofs.Manager.Effects.{name_names}
use Rattle.protocol.proofs.Manager.Played.{voted_named}
use Rattle.protocol.proofs.Manager.Views.{vote_in_stands, prepared_shows}
use Rattle.safety.proofs.WellFormed.Branches.{AreHeld}
use Rattle.safety.proofs.WellFormed.Effects.{AreSends, IsWellFormed, well_answered, well_sent, IsSend}

-- a vote in ballot 0
vote_is : (rm : ℕ) (tx : TxParts) (o : Option Vote) → ((v : Vote) → o ≡ Some v → IsInstance tx rm) → AreSends (vote_sent rm tx o)
vote_is rm tx None of = tt
vote_is rm tx (Some v) of = ((of v refl, omega arith), tt)

module _ (rm : ℕ) (facts : List Fact) (branches : List Branch) (held : AreHeld branches) where
  abbrev IsFormed : Effect (List Branch) → Type 0
  IsFormed = IsWellFormed AreHeld

  quiet : IsFormed (no_effect branches)
  quiet = well_answered AreHeld branches held _

  fewer : (x : XidParts) → AreHeld (branches_without branches x)
  fewer x b h = held b (without_some branches x b h)

  module _ (tx : TxParts) (x : XidParts) (of : IsInstance tx rm) where
    first_is : (spent : Bool) (idle : Option (List Touched)) → idle_keys branches x ≡ idle
        → IsFormed (first_vote rm branches tx x spent idle)
    first_is false (Some keys) e =
        let branch = idle_branch branches x keys e in
        record {
          fact = (of.valid, subst AreKeys branch.holds (held branch.branch branch.among));
          sends = vote_is rm tx (Some votes.Prepared) (λ v e. of);
          memory = fewer x;
        }
    first_is spent idle e = record { fact = of.valid; sends = vote_is rm tx (Some votes.Aborted) (λ v e. of); memory = fewer x }

    prepared : IsFormed (on_prepare rm (stored_votes rm facts) branches tx x)
    prepared = cond_both (is_some (vote_in facts tx)) _ _ IsFormed
        (λ voted. well_sent AreHeld branches held _ (vote_is rm tx (vote_in facts tx) (λ v e. of)))
        (λ unvoted. cond_both (is_ended facts tx) _ _ IsFormed (λ ended. quiet)
        (λ new. first_is (is_spent rm facts x) (idle_keys branches x) refl))

    committed : IsFormed (on_commit (stored_votes rm facts) branches tx)
    committed = cond_both (is_prepared_view (view facts tx)) _ _ IsFormed
        (λ is. record { fact = of.valid; sends = tt; memory = held }) (λ other. quiet)

    aborted : IsFormed (on_abort (stored_votes rm facts) branches tx x)
    aborted = cond_both (is_open_view (view facts tx)) _ _ IsFormed
        (λ is. record { fact = of.valid; sends = tt; memory = fewer x }) (λ other. quiet)

  pub manager_takes : (name : Option XidParts) (message : Kind) → xid_at (message_tx message) rm ≡ name → IsMessage message
      → IsFormed (on_manager_message rm (stored_votes rm facts) branches name message)
  manager_takes (Some x) (Prepare tx) name is = prepared tx x (record { valid = is; named = name_names tx rm x name })
  manager_takes (Some x) (Commit tx) name is = committed tx x (record { valid = is; named = name_names tx rm x name })
  manager_takes (Some x) (Abort tx) name is = aborted tx x (record { valid = is; named = name_names tx rm x name })
  manager_takes name message e is = quiet

  -- a stored vote is on a transaction that names this resource manager
  pub manager_timed_out : (config : Config) (tx : TxParts) → IsTx tx → all_play config (R rm) [] facts ≡ true
      → IsFormed (on_manager_timeout config rm (stored_votes rm facts) branches tx)
  manager_timed_out config tx is plays =
      let of : (v : Vote) → HasVote facts tx v → IsInstance tx rm =
      λ v h. record { valid = is; named = voted_named config rm facts plays tx v h } in
      cond_both (is_inside config tx) _ _ IsFormed
      (λ inside. well_sent AreHeld branches held _
      (all_joined IsSend (vote_sent rm tx (vote_in facts tx)) _
      (vote_is rm tx (vote_in facts tx) (λ v e. of v (vote_in_stands facts tx v e)))
      (cond_both (is_prepared_view (view facts tx)) _ _ AreSends
      (λ prepared. (of votes.Prepared (prepared_shows facts tx prepared).0, tt)) (λ other. tt))))
      (λ outside. well_answered AreHeld branches held _)
