-- The leader is handed each report: once a majority has reported an instance, a value of it is in the mail to all acceptors.
use Rattle.std.proofs.Common.{◌≡◌, inl, inr, ◌∙◌, ℕ, ◌<◌, Bool, true, List, ◌++◌, refl, sym, ap, subst}
use Rattle.std.proofs.lemmas.Bool.{cases_Bool, eq-eqb}
use Rattle.xid.specs.Transactions.{TxParts, participants}
use Rattle.ballot.specs.Greatest.{IsIn}
use Rattle.ballot.specs.Majority.{is_majority}
use Rattle.protocol.specs.Basics.{Fact}
use Rattle.safety.specs.Vocabulary.{NodeId, A, L}
use Rattle.protocol.specs.Effects.{Config, Effect}
use Rattle.protocol.specs.Facts.{last_ballot, with_fact}
use Rattle.protocol.specs.LeaderMemory.{LeaderMemory, has_reported, is_reported, is_proposed, status_of}
use Rattle.protocol.specs.Leaders.{is_final, is_current, on_1b}
use Rattle.protocol.specs.Nodes.{NodeState, Memory}
use Rattle.protocol.specs.Worlds.{World}
use Rattle.progress.specs.Runs.{leader_and_quorum}
use Rattle.progress.proofs.Mail.{Letter, mail, letters}
use Rattle.progress.proofs.Steps.{IsQuiet, IsMoved, HasStep, quiet_node, quiet_message}
use Rattle.progress.proofs.Leading.{Comes, IsDoneFor, comes_step, comes_now, comes_goal, comes_on, comes_each}
use Rattle.progress.proofs.Promising.{HasReport, report_stays}
use Rattle.progress.proofs.Hearing.{AreSentToAll, IsSentToAll, IsHearing, heard_report}
use Rattle.progress.proofs.Telling.{majority_more, majority_member}
use Rattle.progress.proofs.Members.{pairs, pair_in, pair_of, IsFinal, quiet_final, leader_of, leader_in, IsBelow, not_leader}

-- all have reported to the leader, by mail
pub record IsHeard (config : Config) (tx : TxParts) (l : ℕ) (q : ℕ → Bool) (b : ℕ) (world : World) : Type 0 where
  pub facts : List Fact
  pub memory : Memory
  pub leader : IsQuiet config world (L l) facts memory
  pub current : is_current memory.leader tx b ≡ true
  pub sent : AreSentToAll config tx b (mail world.net) memory.leader.proposed
  pub each : (a : ℕ) → a < config.acceptors → q a ≡ true → IsBelow config tx b world a
  pub reports : (a i : ℕ) → a < config.acceptors → q a ≡ true → IsIn (participants tx) i → HasReport config tx l b (mail world.net) a i

-- what the leader had is kept, and one more report counts
pub record HearsOne (config : Config) (tx : TxParts) (l b a i : ℕ) (before after : World) : Type 0 where
  pub reported : has_reported (leader_in config after l).heard tx i b a ≡ true
  pub still : (j from : ℕ) → has_reported (leader_in config before l).heard tx j b from ≡ true
      → has_reported (leader_in config after l).heard tx j b from ≡ true
  pub proposes : is_reported config.acceptors (leader_in config after l).heard tx i b ≡ true
      → is_proposed (leader_in config after l).proposed tx i b ≡ true
  pub proposed : (j : ℕ) → is_proposed (leader_in config before l).proposed tx j b ≡ true
      → is_proposed (leader_in config after l).proposed tx j b ≡ true

module _ (config : Config) (tx : TxParts) (l : ℕ) (q : ℕ → Bool) (b : ℕ) where
  abbrev Goal : World → Type 0
  Goal = IsFinal config l tx

  abbrev part : NodeId → Bool
  part = leader_and_quorum l q

  module _ (a i : ℕ) (lt : a < config.acceptors) (is : q a ≡ true) (named : IsIn (participants tx) i) (before : World)
      (state : IsHeard config tx l q b before) where
    abbrev report : HasReport config tx l b (mail before.net) a i
    report = state.reports a i lt is named

    abbrev e : Effect LeaderMemory
    e = on_1b config (last_ballot state.facts) state.memory.leader tx b a report.reports

    abbrev left : NodeState
    left = quiet_node (with_fact state.facts e.fact) (record state.memory { leader = e.memory })

    module _ (heard : IsHearing config tx b a i state.memory.leader e) (after : World)
        (moved : IsMoved config before after (L l) left e.sends) where
      grown : (P : List Letter → Type 0) → P (mail before.net ++ letters config e.sends) → P (mail after.net)
      grown P h = subst P (sym moved.posted) h

      heard_after : IsHeard config tx l q b after
      heard_after = record {
        facts = with_fact state.facts e.fact;
        memory = record state.memory { leader = e.memory };
        leader = moved.here;
        current = heard.current;
        sent = grown (λ (post : List Letter). AreSentToAll config tx b post e.memory.proposed) (heard.sent (mail before.net) state.sent);
        each = λ c less member.
            let other = state.each c less member in
            record { facts = other.facts; memory = other.memory; at = moved.others (A c) (not_leader c l) ∙ other.at; below = other.below };
        reports = λ c j less member has. grown (λ (post : List Letter). HasReport config tx l b post c j)
            (report_stays config tx l b (mail before.net) (letters config e.sends) c j (state.reports c j less member has));
      }

      one_heard : HearsOne config tx l b a i before after
      one_heard =
          let was : leader_in config before l ≡ state.memory.leader = ap leader_of state.leader in
          let now : leader_in config after l ≡ e.memory = ap leader_of moved.here in
          record {
            reported = subst (λ (m : LeaderMemory). has_reported m.heard tx i b a ≡ true) (sym now) heard.reported;
            still = λ j from h. subst (λ (m : LeaderMemory). has_reported m.heard tx j b from ≡ true) (sym now)
                (heard.still j from (subst (λ (m : LeaderMemory). has_reported m.heard tx j b from ≡ true) was h));
            proposes = λ h. subst (λ (m : LeaderMemory). is_proposed m.proposed tx i b ≡ true) (sym now)
                (heard.proposes (subst (λ (m : LeaderMemory). is_reported config.acceptors m.heard tx i b ≡ true) now h));
            proposed = λ j h. subst (λ (m : LeaderMemory). is_proposed m.proposed tx j b ≡ true) (sym now)
                (heard.proposed j (subst (λ (m : LeaderMemory). is_proposed m.proposed tx j b ≡ true) was h));
          }

    abbrev Next : World → Type 0
    Next after = IsHeard config tx l q b after × HearsOne config tx l b a i before after

    delivery : HasStep config before tx (L l) left e.sends
    delivery =
        subst (λ (x : Effect LeaderMemory). HasStep config before tx (L l)
        (quiet_node (with_fact state.facts x.fact) (record state.memory { leader = x.memory })) x.sends)
        (report.rule (last_ballot state.facts) state.memory.leader)
        (quiet_message config before tx (L l) state.facts state.memory state.leader report.message report.inside report.sent)

    -- the leader is handed one report, unless it has the outcome
    hear_one : Comes config part tx Goal Next before
    hear_one = elim (cases_Bool (is_final (status_of config.acceptors (last_ballot state.facts) state.memory.leader tx))) [
      | inl final ↦ comes_goal config part tx Goal Next before
          (quiet_final config l tx before state.facts state.memory state.leader final)
      | inr undecided ↦
          let heard = heard_report config (last_ballot state.facts) state.memory.leader tx b a report.reports state.current undecided i
          report.among in
          comes_step config part tx Goal Next before (L l) left e.sends (eq-eqb l l refl) delivery
          (λ after moved. comes_now config part tx Goal Next after (heard_after heard after moved, one_heard heard after moved))
    ]

  -- ---- all reports

  abbrev Reported : ℕ × ℕ → World → Type 0
  Reported x world = has_reported (leader_in config world l).heard tx x.1 b x.0 ≡ true

  abbrev AllReported : World → Type 0
  AllReported world = IsHeard config tx l q b world × ((x : ℕ × ℕ) → IsIn (pairs config q tx) x → Reported x world)

  hear_all : (world : World) → IsHeard config tx l q b world → Comes config part tx Goal AllReported world
  hear_all = comes_each config part tx Goal (IsHeard config tx l q b) Reported (pairs config q tx)
      (λ x h before state.
      let pair = pair_of config q tx x h in
      comes_on config part tx Goal (λ after. IsHeard config tx l q b after × HearsOne config tx l b x.0 x.1 before after)
      (IsDoneFor config part tx Goal (IsHeard config tx l q b) Reported x before) before
      (hear_one x.0 x.1 pair.below pair.passes pair.named before state)
      (λ after both. comes_now config part tx Goal (IsDoneFor config part tx Goal (IsHeard config tx l q b) Reported x before) after
      (both.0, both.1.reported, λ y done. both.1.still y.1 y.0 done)))

  -- ---- all proposals

  abbrev Proposed : ℕ → World → Type 0
  Proposed i world = is_proposed (leader_in config world l).proposed tx i b ≡ true

  module _ (majority : is_majority config.acceptors q ≡ true) where
    all_heard : (world : World) → AllReported world → (i : ℕ) → IsIn (participants tx) i
        → is_reported config.acceptors (leader_in config world l).heard tx i b ≡ true
    all_heard world state i named = majority_more q (has_reported (leader_in config world l).heard tx i b) config.acceptors majority
        (λ a lt is. state.1 (a, i) (pair_in config q tx a i lt is named))

    propose_one : (i : ℕ) → IsIn (participants tx) i → (before : World) → AllReported before
        → Comes config part tx Goal (IsDoneFor config part tx Goal AllReported Proposed i before) before
    propose_one i named before state =
        let one = majority_member config.acceptors q majority in
        comes_on config part tx Goal (λ after. IsHeard config tx l q b after × HearsOne config tx l b one.member i before after)
        (IsDoneFor config part tx Goal AllReported Proposed i before) before
        (hear_one one.member i one.below one.passes named before state.0)
        (λ after both.
        let all : AllReported after = (both.0, λ x h. both.1.still x.1 x.0 (state.1 x h)) in
        comes_now config part tx Goal (IsDoneFor config part tx Goal AllReported Proposed i before) after
        (all, both.1.proposes (all_heard after all i named), both.1.proposed))

    -- each instance has a value in the mail
    abbrev pub AllProposed : World → Type 0
    AllProposed world = IsHeard config tx l q b world × ((i : ℕ) → IsIn (participants tx) i → IsSentToAll config tx b (mail world.net) i)

    sent_in : (world : World) → AllReported world × ((i : ℕ) → IsIn (participants tx) i → Proposed i world) → AllProposed world
    sent_in world state = (
      state.0.0,
      λ i h. state.0.0.sent i
          (subst (λ (m : LeaderMemory). is_proposed m.proposed tx i b ≡ true) (ap leader_of state.0.0.leader) (state.1 i h)),
    )

    pub propose_all : (world : World) → IsHeard config tx l q b world → Comes config part tx Goal AllProposed world
    propose_all world state =
        comes_on config part tx Goal AllReported AllProposed world (hear_all world state)
        (λ middle all. comes_on config part tx Goal
        (λ after. AllReported after × ((i : ℕ) → IsIn (participants tx) i → Proposed i after)) AllProposed middle
        (comes_each config part tx Goal AllReported Proposed (participants tx) propose_one middle all)
        (λ after h. comes_now config part tx Goal AllProposed after (sent_in after h)))
