-- Stored votes lead to a commit: they are sent, accepted in ballot 0 and decided, and the participants follow.
use Rattle.std.proofs.Common.{◌≡◌, ◌⊎◌, inl, inr, ℕ, ◌<◌, ◌≤◌, Bool, true, IsTrue, Option, refl, sym, ap, subst, arith}
use Rattle.xid.specs.Transactions.{TxParts, is_participant}
use Rattle.xid.specs.declared.transaction.Vote.TheVariants.{Prepared}
use Rattle.ballot.specs.Majority.{is_majority}
use Rattle.safety.specs.Vocabulary.{NodeId, A, Stands as answers}
use Rattle.safety.specs.CommitSteps.{committed}
use Rattle.safety.specs.Standing.{facts_at, facts_of}
use Rattle.safety.proofs.Facts.{participates, among_participants}
use Rattle.protocol.specs.declared.states.Standing.TheVariants as standings
use Rattle.protocol.specs.Effects.{Config, is_inside}
use Rattle.protocol.specs.Facts.{slot, last_ballot}
use Rattle.protocol.specs.Nodes.{NodeState}
use Rattle.protocol.specs.Worlds.{World}
use Rattle.progress.specs.Runs.{leader_and_quorum, leader_and_participants, leader_quorum_and_participants, Leads}
use Rattle.progress.specs.Outcomes.{HasBallots, HaveEnded, IsAccepted, status_answer}
use Rattle.progress.proofs.Backed.{IsBacked}
use Rattle.progress.proofs.Leading.{Comes, comes_on, leads_on, leads_wider, leads_backed}
use Rattle.progress.proofs.Members.{pair_in}
use Rattle.progress.proofs.Lasting.{commits}
use Rattle.progress.proofs.Ended.{ends_committed, participants_too, quorum_too}
use Rattle.commits.specs.Votes.{HaveVoted, IsAtFirst}
use Rattle.commits.proofs.Sending.{IsVoted, AllSent, send_all}
use Rattle.commits.proofs.Gathering.{IsPosted, AllAccepted, accept_all}

module _ (config : Config) (tx : TxParts) (l : ℕ) (q : ℕ → Bool) (few : l < config.leaders) (inside : is_inside config tx ≡ true)
    (majority : is_majority config.acceptors q ≡ true) where
  abbrev pub all : NodeId → Bool
  all = leader_quorum_and_participants l q tx

  abbrev Never : World → Type 0
  Never world = ⊥

  abbrev pub Answers : World → Type 0
  Answers world = status_answer config world l tx ≡ answers standings.Committed

  abbrev pub Ended : World → Type 0
  Ended = HaveEnded config tx committed

  module _ (first : World) (ballots : HasBallots config first l q tx) where
    abbrev Gathered : World → Type 0
    Gathered = AllAccepted config tx l q inside all (λ a h. h) first

    ballots_left : (world : World) → Gathered world → HasBallots config world l q tx
    ballots_left world gathered = record {
      most = ballots.most;
      stored = subst (λ (o : Option NodeState). last_ballot (facts_of o) tx ≤ ballots.most) (sym gathered.0.leader) ballots.stored;
      promised = λ a i is named.
          let low : (slot (facts_at config world (A a)) tx i).mbal ≤ 0 = gathered.0.low a i is (among_participants tx i named) in
          omega (arith, low);
      left = ballots.left;
    }

    accepted : (world : World) → Gathered world → (r : ℕ) → IsTrue (is_participant tx r) → IsAccepted config world tx r Prepared
    accepted world gathered r named = record {
      ballot = 0;
      members = q;
      majority = majority;
      accepted = λ a lt is. gathered.1 (a, r) (pair_in config q tx a r lt is (among_participants tx r named));
    }

    decided : (world : World) → Never world ⊎ Gathered world → Leads config all tx Answers world
    decided world (inl never) = absurd never
    decided world (inr gathered) =
        leads_wider config (leader_and_quorum l q) all tx (quorum_too l q tx) Answers world
        (commits config tx l q few inside majority world gathered.0.reach (ballots_left world gathered) (accepted world gathered))

    module _ (at_first : IsAtFirst config q tx first) where
      abbrev Sent : World → Type 0
      Sent = AllSent config tx l inside all (λ r named. participates tx r named) first

      posted : (world : World) → Sent world → IsPosted config tx l q first world
      posted world sent = record {
        reach = sent.0.reach;
        posted = λ a i lt named. sent.1 i named a lt;
        low = λ a i is named.
            let zero_before : (slot (facts_at config first (A a)) tx i).mbal ≡ 0 = at_first a i is (participates tx i named) in
            let same : (slot (facts_at config world (A a)) tx i).mbal ≡ (slot (facts_at config first (A a)) tx i).mbal =
            ap (λ (o : Option NodeState). (slot (facts_of o) tx i).mbal) (sent.0.acceptors a) in
            omega (arith, zero_before, same);
        leader = sent.0.leader;
      }

      gather : (world : World) → IsVoted config tx l first world → Comes config all tx Never Gathered world
      gather world state =
          comes_on config all tx Never Sent Gathered world
          (send_all config tx l inside all (λ r named. participates tx r named) first world state)
          (λ after sent. accept_all config tx l q inside all (λ a h. h) first after (posted after sent))

      -- from such a world
      pub answered_from : (world : World) → IsVoted config tx l first world → Leads config all tx Answers world
      answered_from world state =
          let run = gather world state in
          leads_on config all tx (λ after. Never after ⊎ Gathered after) Answers decided world run.events run.at run.holds

  -- what a leader answers the participants follow
  ended_on : (world : World) → IsBacked config world × Answers world → Leads config all tx Ended world
  ended_on world (reach, told) =
      leads_wider config (leader_and_participants l tx) all tx (participants_too l q tx) Ended world
      (ends_committed config l tx inside world reach told)

  pub ended_from : (world : World) → IsBacked config world → Leads config all tx Answers world → Leads config all tx Ended world
  ended_from world reach answered =
      let run = leads_backed config all tx Answers world reach answered in
      leads_on config all tx (λ after. IsBacked config after × Answers after) Ended ended_on world run.events run.at run.holds

  module _ (world : World) (reach : IsBacked config world) (ballots : HasBallots config world l q tx)
      (at_first : IsAtFirst config q tx world) (voted : HaveVoted config tx world) where
    pub votes_answered : Leads config all tx Answers world
    votes_answered = answered_from world ballots at_first world (record {
      reach = reach;
      voted = λ r named. voted r (participates tx r named);
      acceptors = λ a. refl;
      leader = refl;
    })

    pub votes_committed : Leads config all tx Ended world
    votes_committed = ended_from world reach votes_answered
