-- Each participant that has stored a vote prepared is restarted and times out: its vote is in the mail to all acceptors.
use Rattle.std.proofs.Common.{◌≡◌, inl, inr, ◌∙◌, ℕ, ◌<◌, Bool, true, if◌then◌else◌, List, [], ◌∷◌, ◌++◌}
use Rattle.std.proofs.Common.{Option, Some, None, refl, sym, ap, subst, arith, nat_lt}
use Rattle.std.specs.List.{list_any, range_with_len}
use Rattle.std.proofs.lemmas.Bool.{cases_eq, cond-true, ltb-true}
use Rattle.xid.specs.Transactions.{TxParts, participants}
use Rattle.xid.specs.declared.refusals.Refusal.TheVariants.{BadTx}
use Rattle.xid.specs.declared.transaction.Vote.{Vote}
use Rattle.xid.specs.declared.transaction.Vote.TheVariants as votes
use Rattle.xid.specs.declared.transaction.Vote.TheVariants.{Prepared}
use Rattle.xid.proofs.Deciding.{tx_self}
use Rattle.wire.specs.declared.message.Kind.TheVariants as kinds
use Rattle.wire.specs.declared.message.Kind.TheVariants.{P2a}
use Rattle.stable_record.specs.declared.fact.FactKind.TheVariants as stored
use Rattle.ballot.specs.Greatest.{IsIn}
use Rattle.protocol.specs.Basics.{Fact}
use Rattle.safety.specs.Vocabulary.{NodeId, A, L, R, Outgoing, Acceptors, Leaders, Refused}
use Rattle.safety.specs.Standing.{facts_at, facts_of}
use Rattle.protocol.specs.Effects.{Config, Effect, is_inside, answer_only, sends_only, to}
use Rattle.protocol.specs.Facts.{is_vote_of, vote_in, view, is_prepared_view, HasVote}
use Rattle.protocol.specs.Managers.{Branch, stored_votes, vote_sent, on_manager_timeout}
use Rattle.protocol.specs.Nodes.{NodeState, NoFault, Outcome, empty_memory, of_manager, effect_outcome, finished_append}
use Rattle.protocol.specs.Worlds.{World, node_at}
use Rattle.protocol.proofs.Lists.{IsIn-after, IsIn-map, all_found, found_any}
use Rattle.progress.proofs.Backed.{IsBacked}
use Rattle.progress.proofs.Ending.{manager_apart}
use Rattle.progress.proofs.Mail.{Letter, mail, letters, letter_among}
use Rattle.progress.proofs.Steps.{IsMoved, HasStep, timed_out, restarted, mail_stays}
use Rattle.progress.proofs.Leading.{Comes, IsDoneFor, comes_step, comes_now, comes_each}
use Rattle.progress.proofs.Accepting.{number_among}
use Rattle.progress.proofs.Existing.{manager_there}

-- a vote prepared that stands is the stored one
pub voted_prepared : (facts : List Fact) (tx : TxParts) → HasVote facts tx Prepared → vote_in facts tx ≡ Some Prepared
voted_prepared facts tx h =
    cond-true (list_any (is_vote_of tx votes.Prepared) facts) (Some Prepared)
    (if list_any (is_vote_of tx votes.Aborted) facts then Some votes.Aborted else None)
    (found_any (is_vote_of tx votes.Prepared) facts (stored.VotePrepared tx h.0) h.1 (tx_self tx))

-- each participant has voted prepared; acceptors and the leader are as they were
pub record IsVoted (config : Config) (tx : TxParts) (l : ℕ) (first world : World) : Type 0 where
  pub reach : IsBacked config world
  pub voted : (r : ℕ) → IsIn (participants tx) r → HasVote (facts_at config world (R r)) tx Prepared
  pub acceptors : (a : ℕ) → node_at config world (A a) ≡ node_at config first (A a)
  pub leader : node_at config world (L l) ≡ node_at config first (L l)

module _ (config : Config) (tx : TxParts) (l : ℕ) (inside : is_inside config tx ≡ true) (part : NodeId → Bool)
    (takes : (r : ℕ) → IsIn (participants tx) r → part (R r) ≡ true) (first : World) where
  abbrev Never : World → Type 0
  Never world = ⊥

  abbrev State : World → Type 0
  State = IsVoted config tx l first

  -- its vote is in the mail to all acceptors
  abbrev pub Sent : ℕ → World → Type 0
  Sent r world = (a : ℕ) → a < config.acceptors → IsIn (mail world.net) (record { receiver = A a; message = P2a tx r 0 Prepared })

  -- an event at a participant that stores nothing
  moved_state : (r : ℕ) (before after : World) (node : NodeState) (sends : List Outgoing) → State before
      → facts_at config before (R r) ≡ node.facts → IsMoved config before after (R r) node sends → State after
  moved_state r before after node sends state was moved = record {
    reach = moved.reach state.reach;
    voted = λ s h. elim (cases_eq s r) [
      | inl same ↦ subst (λ (k : ℕ). HasVote (facts_at config after (R k)) tx Prepared) (sym same)
          (subst (λ (fs : List Fact). HasVote fs tx Prepared) (was ∙ sym (ap facts_of moved.here))
          (subst (λ (k : ℕ). HasVote (facts_at config before (R k)) tx Prepared) same (state.voted s h)))
      | inr apart ↦ subst (λ (o : Option NodeState). HasVote (facts_of o) tx Prepared)
          (sym (moved.others (R s) (manager_apart s r apart))) (state.voted s h)
    ];
    acceptors = λ a. moved.others (A a) (λ e. absurd (cc (e))) ∙ state.acceptors a;
    leader = moved.others (L l) (λ e. absurd (cc (e))) ∙ state.leader;
  }

  -- a participant that was restarted times out
  module _ (r : ℕ) (world : World) (facts : List Fact) (tear : Option ℕ)
      (is : node_at config world (R r) ≡ Some (record { facts = facts; up = true; tear = tear; memory = empty_memory }))
      (vote : vote_in facts tx ≡ Some Prepared) where
    abbrev node : NodeState
    node = record { facts = facts; up = true; tear = tear; memory = empty_memory }

    abbrev asked : List Outgoing
    asked = if is_prepared_view (view facts tx) then to Leaders (kinds.Ask tx r) ∷ [] else []

    abbrev sends : List Outgoing
    sends = to Acceptors (P2a tx r 0 Prepared) ∷ asked

    rule : on_manager_timeout config r (stored_votes r facts) [] tx ≡ sends_only [] sends
    rule =
        cond-true (is_inside config tx) (sends_only {M = List Branch} [] (vote_sent r tx (vote_in facts tx) ++ asked))
        (answer_only {M = List Branch} [] (Refused BadTx)) inside
        ∙ ap (λ (o : Option Vote). sends_only {M = List Branch} [] (vote_sent r tx o ++ asked)) vote

    abbrev left : Outcome
    left = finished_append node (of_manager empty_memory (sends_only [] sends)) facts

    step : HasStep config world tx (R r) left.node left.sends
    step =
        subst (λ (o : Outcome). HasStep config world tx (R r) o.node o.sends)
        (ap (λ (e : Effect (List Branch)). effect_outcome node (of_manager empty_memory e) e.fact tear NoFault) rule)
        (timed_out config world (R r) node is tx)

    sent_after : (after : World) → IsMoved config world after (R r) left.node left.sends → Sent r after
    sent_after after moved a lt =
        subst (λ (post : List Letter). IsIn post (record { receiver = A a; message = P2a tx r 0 Prepared })) (sym moved.posted)
        (IsIn-after (mail world.net) (letters config sends) (record { receiver = A a; message = P2a tx r 0 Prepared })
        (letter_among config sends (to Acceptors (P2a tx r 0 Prepared)) (A a) (inl refl)
        (IsIn-map {Y = NodeId} A (range_with_len 0 config.acceptors) a
        (number_among 0 config.acceptors a (omega arith) (omega arith)))))

  module _ (r : ℕ) (named : IsIn (participants tx) r) (before : World) (state : State before) where
    abbrev Next : World → Type 0
    Next = IsDoneFor config part tx Never State Sent r before

    send_by : (there : (node : NodeState) × (node_at config before (R r) ≡ Some node)) → Comes config part tx Never Next before
    send_by there =
        let facts = there.0.facts in
        let tear = there.0.tear in
        let vote : vote_in facts tx ≡ Some Prepared =
        voted_prepared facts tx
        (subst (λ (o : Option NodeState). HasVote (facts_of o) tx Prepared) there.1 (state.voted r named)) in
        let fresh : NodeState = record { facts = facts; up = true; tear = tear; memory = empty_memory } in
        comes_step config part tx Never Next before (R r) fresh [] (takes r named)
        (restarted config before (R r) there.0 there.1 tx state.reach)
        (λ middle again.
        let up = moved_state r before middle fresh [] state (ap facts_of there.1) again in
        let out = left r middle facts tear again.here vote in
        comes_step config part tx Never Next middle (R r) out.node out.sends (takes r named)
        (step r middle facts tear again.here vote)
        (λ after moved. comes_now config part tx Never Next after (
          moved_state r middle after out.node out.sends up (ap facts_of again.here) moved,
          sent_after r middle facts tear again.here vote after moved,
          λ s done a lt. mail_stays config middle after (R r) out.node out.sends moved
              (record { receiver = A a; message = P2a tx s 0 Prepared })
              (mail_stays config before middle (R r) fresh [] again (record { receiver = A a; message = P2a tx s 0 Prepared })
              (done a lt)),
        )))

    send_one : Comes config part tx Never Next before
    send_one = send_by (manager_there config before state.reach r
        (ltb-true r config.managers (all_found (λ (rm : ℕ). nat_lt rm config.managers) (participants tx) inside r named)))

  -- all votes are in the mail
  abbrev pub AllSent : World → Type 0
  AllSent world = State world × ((r : ℕ) → IsIn (participants tx) r → Sent r world)

  pub send_all : (world : World) → State world → Comes config part tx Never AllSent world
  send_all = comes_each config part tx Never State Sent (participants tx) (λ r named before now. send_one r named before now)
