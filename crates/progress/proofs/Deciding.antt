-- From any world that events come to, one leader and a majority of the acceptors come to the outcome.
use Rattle.std.proofs.Common.{◌≡◌, ◌⊎◌, inl, inr, ◌∙◌, ℕ, ◌+◌, ◌*◌, ◌^◌, ◌<◌, ◌≤◌, Bool, true, if◌then◌else◌, not}
use Rattle.std.proofs.Common.{List, [], ◌∷◌, Option, None, refl, sym, ap, subst, arith}
use Rattle.std.proofs.lemmas.Bool.{cond-true}
use Rattle.xid.specs.Transactions.{TxParts, participants}
use Rattle.xid.specs.declared.refusals.Refusal.TheVariants.{BadTx}
use Rattle.ballot.specs.Ballots.{next_of}
use Rattle.ballot.specs.Greatest.{IsIn}
use Rattle.ballot.specs.Majority.{is_majority}
use Rattle.safety.specs.Vocabulary.{NodeId, L, Answer, Stands, Refused, Status}
use Rattle.progress.proofs.Backed.{IsBacked}
use Rattle.safety.proofs.Facts.{participates}
use Rattle.safety.specs.Standing.{facts_of}
use Rattle.protocol.specs.declared.requests.Request.TheVariants as requests
use Rattle.protocol.specs.declared.states.Standing.TheVariants as standings
use Rattle.protocol.specs.declared.states.Status.TheVariants as statuses
use Rattle.protocol.specs.Effects.{Config, is_inside, status_standing}
use Rattle.protocol.specs.Facts.{slot, last_ballot}
use Rattle.protocol.specs.LeaderMemory.{LeaderMemory, StoredBallots, status_of}
use Rattle.xid.specs.declared.transaction.Vote.TheVariants as votes
use Rattle.progress.proofs.Telling.{all_decided}
use Rattle.protocol.specs.Leaders.{is_final}
use Rattle.protocol.specs.Nodes.{NodeState, NoFault, Asked, node_step, effect_of, effect_outcome, answer_outcome, down_answer}
use Rattle.protocol.specs.Worlds.{World, outcome_result, if_found}
use Rattle.progress.specs.Runs.{leader_and_quorum, Leads}
use Rattle.progress.specs.Outcomes.{status_answer, HasOutcome, HasBallots}
use Rattle.progress.proofs.Leading.{Comes, comes_goal, comes_on, leads_on, leads_now}
use Rattle.progress.proofs.Beginning.{next_turn}
use Rattle.progress.proofs.Members.{IsFinal, quiet_final}
use Rattle.progress.proofs.Asking.{IsAsking}
use Rattle.progress.proofs.Raising.{IsBegun, IsRaised, begin_one, raise}
use Rattle.progress.proofs.QuietLeader.{IsQuietLeader, quiet_leader}
use Rattle.progress.proofs.Quieting.{IsCalling, AllQuiet, quiet_all}
use Rattle.progress.proofs.Round.{ask_on}

-- ---- what a leader that has the outcome answers

final_answer : (status : Status) → is_final status ≡ true
    → (Stands (status_standing status) ≡ Stands standings.Committed) ⊎ (Stands (status_standing status) ≡ Stands standings.Aborted)
final_answer statuses.Committed h = inl refl
final_answer statuses.Aborted h = inr refl
final_answer statuses.Unknown h = absurd (cc (h))
final_answer statuses.Undecided h = absurd (cc (h))

module _ (config : Config) (l : ℕ) (tx : TxParts) (inside : is_inside config tx ≡ true) (world : World)
    (final : IsFinal config l tx world) where
  abbrev status : Status
  status = status_of config.acceptors (last_ballot final.node.facts) final.node.memory.leader tx

  answered : status_answer config world l tx ≡ Stands (status_standing status)
  answered =
      let node = final.node in
      let asked = Asked (requests.Status tx) in
      let e = effect_of config (L l) node.facts node.memory asked in
      ap (λ (o : Option NodeState). (if_found world
      (λ found. outcome_result config world (L l) found.facts (node_step config (L l) found asked NoFault)) o).answer) final.is
      ∙ ap (λ (t : Bool). (if not t then answer_outcome node (down_answer asked) else effect_outcome node e None node.tear NoFault).answer)
      final.up
      ∙ cond-true (is_inside config tx) (Stands (status_standing status)) (Refused BadTx) inside

  pub has_outcome : HasOutcome config l tx world
  has_outcome = subst (λ (answer : Answer). (answer ≡ Stands standings.Committed) ⊎ (answer ≡ Stands standings.Aborted)) (sym answered)
      (final_answer status final.final)

-- ---- all together

module _ (config : Config) (tx : TxParts) (l : ℕ) (q : ℕ → Bool) (few : l < config.leaders) (inside : is_inside config tx ≡ true)
    (majority : is_majority config.acceptors q ≡ true) where
  abbrev Goal : World → Type 0
  Goal = IsFinal config l tx

  abbrev part : NodeId → Bool
  part = leader_and_quorum l q

  -- ---- the last round

  module _ (m b : ℕ) (above : m < b) (left : b + config.leaders < 2 ^ 32) (first : ℕ) (named : IsIn (participants tx) first) where
    asking_from : (before : World)
        → AllQuiet config tx l q inside m b above first named before → (after : World)
        → IsBegun config tx l before (next_of config.leaders l b) after
        → IsAsking config tx l q (next_of config.leaders l b) after
    asking_from before all after begun = record {
      facts = begun.facts;
      memory = begun.memory;
      leader = begun.leader;
      current = begun.current;
      none = begun.none;
      asked = begun.asked;
      each = λ a lt is.
          let one = all.1 a lt is in
          record {
            facts = one.facts;
            memory = one.memory;
            at = begun.others a ∙ one.at;
            may = λ i h. let up = (next_turn config.leaders l b few).above in inl (omega (arith, up, one.below i h));
          };
    }

    last_round : (before : World) → AllQuiet config tx l q inside m b above first named before → Comes config part tx Goal Goal before
    last_round before all =
        let turn = next_turn config.leaders l b few in
        comes_on config part tx Goal (IsBegun config tx l before (next_of config.leaders l b)) Goal before
        (begin_one config tx l q few inside b before all.0 (omega (arith, turn.near, left)))
        (λ after begun. ask_on config tx l q few inside majority (next_of config.leaders l b) turn.owned after
        (asking_from before all after begun))

    quiet_on : (world : World) → IsCalling config tx l q m b world → Comes config part tx Goal Goal world
    quiet_on world state =
        comes_on config part tx Goal (AllQuiet config tx l q inside m b above first named) Goal world
        (quiet_all config tx l q inside m b above first named world state) last_round

  -- ---- with a participant, and with none

  module _ (world : World) (reach : IsBacked config world) (ballots : HasBallots config world l q tx) where
    abbrev m : ℕ
    m = ballots.most

    calling_from : (middle : World) → IsQuietLeader config tx l m world middle → (after : World)
        → (raised : IsRaised config tx l q few inside m (m + 2 * config.leaders) middle after) → IsCalling config tx l q m raised.b after
    calling_from middle quiet after raised = record {
      leading = record {
        facts = raised.begun.facts;
        memory = raised.begun.memory;
        leader = raised.begun.leader;
        last = raised.begun.last;
      };
      reach = raised.begun.reach quiet.reach;
      asked = raised.begun.asked;
      each = λ a lt is. inl (λ i h. subst (λ (o : Option NodeState). (slot (facts_of o) tx i).mbal ≤ m)
          (sym (raised.begun.others a ∙ quiet.others a)) (ballots.promised a i is (participates tx i h)));
    }

    with_first : (first : ℕ) → IsIn (participants tx) first → Comes config part tx Goal Goal world
    with_first first named =
        comes_on config part tx Goal (IsQuietLeader config tx l m world) Goal world
        (quiet_leader config tx l q few inside m (omega (arith, ballots.left)) world reach ballots.stored)
        (λ middle quiet. comes_on config part tx Goal (IsRaised config tx l q few inside m (m + 2 * config.leaders) middle) Goal middle
        (raise config tx l q few inside m (m + 2 * config.leaders) (omega arith) (omega (arith, ballots.left)) m quiet.s middle
        quiet.leading
        (omega arith) (omega (arith, quiet.near)))
        (λ after raised. quiet_on m raised.b raised.above (omega (arith, raised.near, ballots.left)) first named after
        (calling_from middle quiet after raised)))

    none_final : (n : ℕ) (ballots : StoredBallots) (memory : LeaderMemory) → participants tx ≡ []
        → is_final (status_of n ballots memory tx) ≡ true
    none_final n ballots memory none = all_decided n ballots memory tx (λ i. votes.Prepared)
        (λ i h. absurd (subst (λ (is : List ℕ). IsIn is i) none h))

    -- without a participant the outcome is there at once
    with_none : participants tx ≡ [] → Comes config part tx Goal Goal world
    with_none none =
        comes_on config part tx Goal (IsQuietLeader config tx l m world) Goal world
        (quiet_leader config tx l q few inside m (omega (arith, ballots.left)) world reach ballots.stored)
        (λ after quiet. comes_goal config part tx Goal Goal after (quiet_final config l tx after quiet.leading.facts quiet.leading.memory
        quiet.leading.leader
        (none_final config.acceptors (last_ballot quiet.leading.facts) quiet.leading.memory.leader none)))

    by_participants : (is : List ℕ) → participants tx ≡ is → Comes config part tx Goal Goal world
    by_participants [] e = with_none e
    by_participants (first ∷ rest) e = with_first first (subst (λ (is : List ℕ). IsIn is first) (sym e) (inl refl))

    pub decides : Leads config part tx (HasOutcome config l tx) world
    decides =
        let run = by_participants (participants tx) refl in
        leads_on config part tx (λ after. Goal after ⊎ Goal after) (HasOutcome config l tx) known world run.events run.at run.holds
      where
        known : (after : World) → Goal after ⊎ Goal after → Leads config part tx (HasOutcome config l tx) after
        known after (inl final) = leads_now config part tx (HasOutcome config l tx) after (has_outcome config l tx inside after final)
        known after (inr final) = leads_now config part tx (HasOutcome config l tx) after (has_outcome config l tx inside after final)
