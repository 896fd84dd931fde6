-- What each rule of a resource manager stores and sends.
-- Needed by Manager.Apart; crates safety, resource_manager, history, cluster and audit.
use Rattle.std.proofs.Common.{◌≡◌, ℕ, Bool, true, false, if◌then◌else◌, List, [], ◌∷◌, ◌++◌, Option, Some, None, is_some}
use Rattle.std.proofs.Common.{inl, inr, refl, subst}
use Rattle.std.specs.Prelude.{IfSome, find, option_map}
use Rattle.std.proofs.lemmas.Bool.{cond_both}
use Rattle.xid.specs.Names.{XidParts}
use Rattle.xid.specs.Transactions.{TxParts, BranchParts, is_participant, is_at, xid_of, xid_at}
use Rattle.xid.specs.declared.transaction.Vote.{Vote}
use Rattle.xid.specs.declared.transaction.Vote.TheVariants as votes
use Rattle.wire.specs.declared.message.Kind.{Kind}
use Rattle.wire.specs.declared.message.Kind.TheVariants as kinds
use Rattle.wire.specs.Messages.{message_tx}
use Rattle.protocol.specs.Basics.{Fact, Touched}
use Rattle.stable_record.specs.declared.fact.FactKind.TheVariants as stored
use Rattle.protocol.specs.Vocabulary.{R, Outgoing, Leaders, Timeout}
use Rattle.protocol.specs.Managers.{stored_votes, Branch, idle_keys, vote_sent, first_vote, on_prepare, on_commit, on_abort}
use Rattle.protocol.specs.Managers.{on_manager_message, on_manager_timeout}
use Rattle.protocol.specs.Facts.{vote_in, is_ended, is_spent, view, is_prepared_view, is_open_view, with_fact}
use Rattle.protocol.specs.Effects.{Config, Effect, to, is_inside}
use Rattle.protocol.specs.Nodes.{Memory, Input, Asked, Received, effect_of, is_message_inside}
use Rattle.ballot.specs.Greatest.{IsIn}
use Rattle.protocol.proofs.Lists.{IsIn-append, find_any}
use Rattle.protocol.proofs.Manager.Views.{unvoted, vote_in_after_prepared, vote_in_after_aborted}

-- ---- what is handed over

-- a first vote: the transaction has a name here, and neither a vote nor an outcome of it is stored
pub record MayVoteFirst (rm : ℕ) (facts : List Fact) (tx : TxParts) (x : XidParts) : Type 0 where
  pub name : xid_at tx rm ≡ Some x
  pub new : is_some (vote_in facts tx) ≡ false
  pub unended : is_ended facts tx ≡ false

-- prepared: with the keys of an idle branch whose name isn't spent
pub record IsPreparing (rm : ℕ) (facts : List Fact) (branches : List Branch) (tx : TxParts) (x : XidParts)
    (keys : List Touched) : Type 0 where
  pub first : MayVoteFirst rm facts tx x
  pub unspent : is_spent rm facts x ≡ false
  pub idle : idle_keys branches x ≡ Some keys

-- an abort: its message came, the transaction has a name here, and the view is working or prepared
pub record IsAborting (rm : ℕ) (facts : List Fact) (input : Input) (tx : TxParts) (x : XidParts) : Type 0 where
  pub came : input ≡ Received (kinds.Abort tx)
  pub name : xid_at tx rm ≡ Some x
  pub opens : is_open_view (view facts tx) ≡ true

-- a commit: its message came, and the view is prepared
pub record IsCommitting (facts : List Fact) (input : Input) (tx : TxParts) : Type 0 where
  pub came : input ≡ Received (kinds.Commit tx)
  pub prepared : is_prepared_view (view facts tx) ≡ true

-- what the fact of an effect has before it, by cases
abbrev pub IsManagerFact : ℕ → List Fact → List Branch → Input → Fact → Type 0
IsManagerFact rm facts branches input (stored.VotePrepared tx keys) = (x : XidParts) × IsPreparing rm facts branches tx x keys
IsManagerFact rm facts branches input (stored.VoteAborted tx) = (x : XidParts) × MayVoteFirst rm facts tx x
IsManagerFact rm facts branches input (stored.Committed tx) = IsCommitting facts input tx
IsManagerFact rm facts branches input (stored.Aborted tx) = (x : XidParts) × IsAborting rm facts input tx x
IsManagerFact rm facts branches input fact = ⊥

-- its vote in ballot 0, which is stored
pub record IsVoteSent (rm : ℕ) (facts : List Fact) (tx : TxParts) (i b : ℕ) (v : Vote) : Type 0 where
  pub own : i ≡ rm
  pub first : b ≡ 0
  pub vote : vote_in facts tx ≡ Some v

-- what a message that is sent has, by the facts after the effect: it is a stored vote, or asks for an outcome
abbrev pub IsManagerSend : ℕ → List Fact → Kind → Type 0
IsManagerSend rm facts (kinds.P2a tx i b v) = IsVoteSent rm facts tx i b v
IsManagerSend rm facts (kinds.Ask tx r) = r ≡ rm
IsManagerSend rm facts message = ⊥

-- what an effect's fact and messages have
pub record IsManagerRule (rm : ℕ) (facts : List Fact) (branches : List Branch) (input : Input) (fact : Option Fact)
    (sends : List Outgoing) : Type 0 where
  pub fact_is : IfSome fact (IsManagerFact rm facts branches input)
  pub sends_are : (send : Outgoing) → IsIn sends send → IsManagerSend rm (with_fact facts fact) send.message

abbrev pub IsManagerEffect : {M : Type 0} → ℕ → List Fact → List Branch → Input → Effect M → Type 0
IsManagerEffect rm facts branches input e = IsManagerRule rm facts branches input e.fact e.sends

-- ---- names

at_by : (tx : TxParts) (rm : ℕ) (x : XidParts) (o : Option BranchParts) → find (is_at rm) tx.branches ≡ o
    → option_map (xid_of tx) o ≡ Some x → is_participant tx rm ≡ true
at_by tx rm x None q e = absurd (cc (e))
at_by tx rm x (Some branch) q e = find_any (is_at rm) branch tx.branches q

-- a transaction that has a name here names this resource manager
pub name_names : (tx : TxParts) (rm : ℕ) (x : XidParts) → xid_at tx rm ≡ Some x → is_participant tx rm ≡ true
name_names tx rm x e = at_by tx rm x (find (is_at rm) tx.branches) refl e

-- ---- the rules

module _ (rm : ℕ) (facts : List Fact) (branches : List Branch) (input : Input) where
  nothing : IsManagerRule rm facts branches input None []
  nothing = record { fact_is = tt; sends_are = λ send h. absurd h }

  -- a stored vote
  vote_is : (now : List Fact) (tx : TxParts) (o : Option Vote) → vote_in now tx ≡ o
      → (send : Outgoing) → IsIn (vote_sent rm tx o) send → IsManagerSend rm now send.message
  vote_is now tx None is send h = absurd h
  vote_is now tx (Some v) is send (inl e) =
      subst (λ (s : Outgoing). IsManagerSend rm now s.message) e (record { own = refl; first = refl; vote = is })
  vote_is now tx (Some v) is send (inr none) = absurd none

  first_is : (tx : TxParts) (x : XidParts) (spent : Bool) (idle : Option (List Touched)) → MayVoteFirst rm facts tx x
      → is_spent rm facts x ≡ spent → idle_keys branches x ≡ idle
      → IsManagerEffect rm facts branches input (first_vote rm branches tx x spent idle)
  first_is tx x false (Some keys) first unspent idle = record {
    fact_is = (x, record { first = first; unspent = unspent; idle = idle });
    sends_are = vote_is (facts ++ stored.VotePrepared tx keys ∷ []) tx (Some votes.Prepared) (vote_in_after_prepared facts tx keys);
  }
  first_is tx x spent idle first unspent is_idle = record {
    fact_is = (x, first);
    sends_are =
        vote_is (facts ++ stored.VoteAborted tx ∷ []) tx (Some votes.Aborted)
        (vote_in_after_aborted facts tx (unvoted facts tx first.new votes.Prepared));
  }

  prepare_is : (tx : TxParts) (x : XidParts) → xid_at tx rm ≡ Some x
      → IsManagerEffect rm facts branches input (on_prepare rm (stored_votes rm facts) branches tx x)
  prepare_is tx x name =
      cond_both (is_some (vote_in facts tx)) _ _ (λ (e : Effect (List Branch)). IsManagerEffect rm facts branches input e)
      (λ some. record { fact_is = tt; sends_are = vote_is facts tx (vote_in facts tx) refl })
      (λ new. cond_both (is_ended facts tx) _ _ (λ (e : Effect (List Branch)). IsManagerEffect rm facts branches input e)
      (λ ended. nothing)
      (λ unended. first_is tx x (is_spent rm facts x) (idle_keys branches x)
      (record { name = name; new = new; unended = unended }) refl refl))

  commit_is : (tx : TxParts) → input ≡ Received (kinds.Commit tx)
      → IsManagerEffect rm facts branches input (on_commit (stored_votes rm facts) branches tx)
  commit_is tx came =
      cond_both (is_prepared_view (view facts tx)) _ _ (λ (e : Effect (List Branch)). IsManagerEffect rm facts branches input e)
      (λ prepared. record { fact_is = record { came = came; prepared = prepared }; sends_are = λ send h. absurd h })
      (λ other. nothing)

  abort_is : (tx : TxParts) (x : XidParts) → xid_at tx rm ≡ Some x → input ≡ Received (kinds.Abort tx)
      → IsManagerEffect rm facts branches input (on_abort (stored_votes rm facts) branches tx x)
  abort_is tx x name came =
      cond_both (is_open_view (view facts tx)) _ _ (λ (e : Effect (List Branch)). IsManagerEffect rm facts branches input e)
      (λ opens. record { fact_is = (x, record { came = came; name = name; opens = opens }); sends_are = λ send h. absurd h })
      (λ other. nothing)

  takes_is : (m : Kind) (o : Option XidParts) → xid_at (message_tx m) rm ≡ o → input ≡ Received m
      → IsManagerEffect rm facts branches input (on_manager_message rm (stored_votes rm facts) branches o m)
  takes_is (kinds.Prepare tx) (Some x) name came = prepare_is tx x name
  takes_is (kinds.Commit tx) (Some x) name came = commit_is tx came
  takes_is (kinds.Abort tx) (Some x) name came = abort_is tx x name came
  takes_is m (Some x) name came = nothing
  takes_is m None name came = nothing

  asked_is : (now : List Fact) (tx : TxParts) (b : Bool) (send : Outgoing)
      → IsIn (if b then to Leaders (kinds.Ask tx rm) ∷ [] else []) send → IsManagerSend rm now send.message
  asked_is now tx true send (inl e) = subst (λ (s : Outgoing). IsManagerSend rm now s.message) e refl
  asked_is now tx true send (inr none) = absurd none
  asked_is now tx false send h = absurd h

  timeout_is : (config : Config) (tx : TxParts)
      → IsManagerEffect rm facts branches input (on_manager_timeout config rm (stored_votes rm facts) branches tx)
  timeout_is config tx = cond_both (is_inside config tx) _ _ (λ (e : Effect (List Branch)). IsManagerEffect rm facts branches input e)
      (λ inside. record {
        fact_is = tt;
        sends_are = λ send h. elim
            (IsIn-append (vote_sent rm tx (vote_in facts tx))
            (if is_prepared_view (view facts tx) then to Leaders (kinds.Ask tx rm) ∷ [] else []) send h) [
              | inl vote ↦ vote_is facts tx (vote_in facts tx) refl send vote
              | inr ask ↦ asked_is facts tx (is_prepared_view (view facts tx)) send ask
            ];
      })
      (λ outside. nothing)

-- whatever a resource manager is handed
pub manager_effect_is : (config : Config) (rm : ℕ) (facts : List Fact) (memory : Memory) (input : Input)
    → IsManagerEffect rm facts memory.branches input (effect_of config (R rm) facts memory input)
manager_effect_is config rm facts memory (Received m) = cond_both (is_message_inside config m) _ _
    (λ (e : Effect Memory). IsManagerEffect rm facts memory.branches (Received m) e)
    (λ inside. takes_is rm facts memory.branches (Received m) m (xid_at (message_tx m) rm) refl refl)
    (λ outside. nothing rm facts memory.branches (Received m))
manager_effect_is config rm facts memory (Asked (Timeout tx)) = timeout_is rm facts memory.branches (Asked (Timeout tx)) config tx
manager_effect_is config rm facts memory other = nothing rm facts memory.branches other
