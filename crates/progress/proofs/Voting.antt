-- Each acceptor of the quorum is handed each proposal: all of them accept, and tell the leader.
use Rattle.std.proofs.Common.{◌≡◌, inl, inr, ◌∙◌, ℕ, ◌<◌, Bool, true, ◌==◌, ◌&&◌, List, ◌++◌, Option, Some, is_some, refl, sym, ap, subst}
use Rattle.std.proofs.lemmas.Bool.{and_from, cases_eq, cond-true, cond-false, lt-ltb, eq-eqb, ne_eqb}
use Rattle.xid.specs.Transactions.{TxParts, participants}
use Rattle.xid.specs.declared.transaction.Vote.{Vote}
use Rattle.wire.specs.declared.message.Kind.TheVariants.{P2a}
use Rattle.ballot.specs.Choice.{Report}
use Rattle.ballot.specs.Greatest.{IsIn}
use Rattle.protocol.specs.Basics.{Fact}
use Rattle.safety.specs.Vocabulary.{NodeId, A, L, Outgoing}
use Rattle.safety.specs.Standing.{facts_at, facts_of}
use Rattle.protocol.specs.Acceptors.{report_after, on_2a}
use Rattle.protocol.specs.Effects.{Config, Effect, is_inside}
use Rattle.protocol.specs.Facts.{slot, with_fact}
use Rattle.protocol.specs.Nodes.{NodeState, Memory}
use Rattle.protocol.specs.Worlds.{World}
use Rattle.protocol.proofs.Lists.{IsIn-after}
use Rattle.progress.specs.Runs.{leader_and_quorum}
use Rattle.progress.proofs.Mail.{Letter, mail, letters}
use Rattle.progress.proofs.Steps.{IsQuiet, IsMoved, quiet_node, quiet_message, mail_stays}
use Rattle.progress.proofs.Leading.{Comes, IsDoneFor, comes_step, comes_now, comes_on, comes_each}
use Rattle.progress.proofs.Accepting.{HasAccept, accept_stays, told, IsAccepting, accepts, tells_leader}
use Rattle.progress.proofs.Members.{pairs, pair_in, IsPair, pair_of, IsFinal, IsBelow, acceptor_apart, not_acceptor}

-- a value of each instance is in the mail to all acceptors
pub record IsOffered (config : Config) (tx : TxParts) (l : ℕ) (q : ℕ → Bool) (b : ℕ) (value : ℕ → Vote) (world : World) : Type 0 where
  pub facts : List Fact
  pub memory : Memory
  pub leader : IsQuiet config world (L l) facts memory
  pub each : (a : ℕ) → a < config.acceptors → q a ≡ true → IsBelow config tx b world a
  pub offered : (a i : ℕ) → a < config.acceptors → IsIn (participants tx) i
      → IsIn (mail world.net) (record { receiver = A a; message = P2a tx i b (value i) })

-- what acceptor a has accepted of an instance
abbrev pub report_in : Config → TxParts → World → (a i : ℕ) → Report
report_in config tx world a i = (slot (facts_at config world (A a)) tx i).report

module _ (config : Config) (tx : TxParts) (l : ℕ) (q : ℕ → Bool) (b : ℕ) (value : ℕ → Vote) (leader : l < config.leaders)
    (inside : is_inside config tx ≡ true) where
  abbrev Goal : World → Type 0
  Goal = IsFinal config l tx

  abbrev part : NodeId → Bool
  part = leader_and_quorum l q

  abbrev Offered : World → Type 0
  Offered = IsOffered config tx l q b value

  abbrev Accepted : ℕ × ℕ → World → Type 0
  Accepted x world = report_in config tx world x.0 x.1 ≡ Some (b, value x.1)

  abbrev Told : ℕ × ℕ → World → Type 0
  Told x world = HasAccept config tx l b (mail world.net) x.0 x.1 (value x.1)

  -- one acceptor is handed a proposal
  module _ (x : ℕ × ℕ) (pair : IsPair config q tx x) (before : World) (state : Offered before) where
    abbrev here : IsBelow config tx b before x.0
    here = state.each x.0 pair.below pair.passes

    abbrev e : Effect (Unit {0})
    e = on_2a config x.0 (slot here.facts) tx x.1 b (value x.1)

    is_accepting : IsAccepting config tx b x.0 here.facts x.1 (value x.1) e
    is_accepting = accepts config tx b x.0 here.facts x.1 (value x.1) (here.below x.1 pair.named)

    abbrev sends : List Outgoing
    sends = told config tx b x.0 here.facts x.1 (value x.1)

    was : facts_at config before (A x.0) ≡ here.facts
    was = ap facts_of here.at

    module _ (after : World)
        (moved : IsMoved config before after (A x.0) (quiet_node (with_fact here.facts e.fact) here.memory) e.sends) where
      now : facts_at config after (A x.0) ≡ with_fact here.facts e.fact
      now = ap facts_of moved.here

      each_after : (a : ℕ) → a < config.acceptors → q a ≡ true → IsBelow config tx b after a
      each_after a lt is = elim (cases_eq a x.0) [
        | inl same ↦ subst (IsBelow config tx b after) (sym same) (record {
          facts = with_fact here.facts e.fact;
          memory = here.memory;
          at = moved.here;
          below = λ i h. is_accepting.below i (here.below i h);
        })
        | inr apart ↦
            let other = state.each a lt is in
            record {
              facts = other.facts;
              memory = other.memory;
              at = moved.others (A a) (acceptor_apart a x.0 apart) ∙ other.at;
              below = other.below;
            }
      ]

      offered_after : Offered after
      offered_after = record {
        facts = state.facts;
        memory = state.memory;
        leader = moved.others (L l) (not_acceptor l x.0) ∙ state.leader;
        each = each_after;
        offered = λ a i lt named. mail_stays config before after (A x.0) (quiet_node (with_fact here.facts e.fact) here.memory) e.sends
            moved (record { receiver = A a; message = P2a tx i b (value i) }) (state.offered a i lt named);
      }

      accepted_here : (i : ℕ) → (slot (with_fact here.facts e.fact) tx i).report ≡ Some (b, value i)
          → report_in config tx after x.0 i ≡ Some (b, value i)
      accepted_here i h = ap (λ (facts : List Fact). (slot facts tx i).report) now ∙ h

      accepted_still : (y : ℕ × ℕ) → Accepted y before → Accepted y after
      accepted_still y h = elim (cases_eq y.0 x.0) [
        | inl same ↦ elim (cases_eq y.1 x.1) [
          | inl also ↦ subst (λ (a : ℕ). report_in config tx after a y.1 ≡ Some (b, value y.1)) (sym same)
              (accepted_here y.1 (subst (λ (i : ℕ). (slot (with_fact here.facts e.fact) tx i).report ≡ Some (b, value i)) (sym also)
              is_accepting.holds))
          | inr apart ↦ subst (λ (a : ℕ). report_in config tx after a y.1 ≡ Some (b, value y.1)) (sym same)
              (accepted_here y.1 (is_accepting.others y.1 apart
              ∙ ap (λ (facts : List Fact). (slot facts tx y.1).report) (sym was)
              ∙ subst (λ (a : ℕ). report_in config tx before a y.1 ≡ Some (b, value y.1)) same h))
        ]
        | inr apart ↦
            ap (λ (o : Option NodeState). (slot (facts_of o) tx y.1).report) (moved.others (A y.0) (acceptor_apart y.0 x.0 apart)) ∙ h
      ]

      told_still : (y : ℕ × ℕ) → Told y before → Told y after
      told_still y h = subst (λ (post : List Letter). HasAccept config tx l b post y.0 y.1 (value y.1)) (sym moved.posted)
          (accept_stays config tx l b (mail before.net) (letters config e.sends) y.0 y.1 (value y.1) h)

      -- where each instance was accepted, the leader is told of this one
      told_after : ((i : ℕ) → IsIn (participants tx) i → Accepted (x.0, i) before) → Told x after
      told_after all =
          let has = tells_leader config tx b x.0 here.facts x.1 (value x.1) l leader inside (lt-ltb x.0 config.acceptors pair.below)
          pair.named (λ j h. some_after j h) in
          subst (λ (post : List Letter). HasAccept config tx l b post x.0 x.1 (value x.1)) (sym moved.posted)
          (subst (λ (out : List Outgoing). HasAccept config tx l b (mail before.net ++ letters config out) x.0 x.1 (value x.1))
          (sym is_accepting.tells) (joins has))
        where
          some_after : (j : ℕ) → IsIn (participants tx) j → is_some (report_after (slot here.facts) tx x.1 b (value x.1) j) ≡ true
          some_after j h = elim (cases_eq j x.1) [
            | inl same ↦ ap is_some (cond-true (j == x.1) (Some (b, value x.1)) (slot here.facts tx j).report (eq-eqb j x.1 same))
            | inr apart ↦ ap is_some (cond-false (j == x.1) (Some (b, value x.1)) (slot here.facts tx j).report (ne_eqb j x.1 apart)
                ∙ ap (λ (facts : List Fact). (slot facts tx j).report) (sym was) ∙ all j h)
          ]

          joins : HasAccept config tx l b (letters config sends) x.0 x.1 (value x.1)
              → HasAccept config tx l b (mail before.net ++ letters config sends) x.0 x.1 (value x.1)
          joins has = record {
            message = has.message;
            sent = IsIn-after (mail before.net) (letters config sends) (record { receiver = L l; message = has.message }) has.sent;
            inside = has.inside;
            accepts = has.accepts;
            rule = has.rule;
            among = has.among;
          }

    -- the world after it
    pub record IsVoted (after : World) : Type 0 where
      pub offered : Offered after
      pub accepted : Accepted x after
      pub still : (y : ℕ × ℕ) → Accepted y before → Accepted y after
      pub told_still : (y : ℕ × ℕ) → Told y before → Told y after
      pub told : ((i : ℕ) → IsIn (participants tx) i → Accepted (x.0, i) before) → Told x after

    vote_one : Comes config part tx Goal IsVoted before
    vote_one =
        comes_step config part tx Goal IsVoted before (A x.0) (quiet_node (with_fact here.facts e.fact) here.memory) e.sends pair.passes
        (quiet_message config before tx (A x.0) here.facts here.memory here.at (P2a tx x.1 b (value x.1))
        (and_from (is_inside config tx && true) true (and_from (is_inside config tx) true inside refl) refl)
        (state.offered x.0 x.1 pair.below pair.named))
        (λ after moved. comes_now config part tx Goal IsVoted after (record {
          offered = offered_after after moved;
          accepted = accepted_here after moved x.1 is_accepting.holds;
          still = accepted_still after moved;
          told_still = told_still after moved;
          told = told_after after moved;
        }))

  -- ---- all of them

  abbrev AllAccepted : World → Type 0
  AllAccepted world = Offered world × ((x : ℕ × ℕ) → IsIn (pairs config q tx) x → Accepted x world)

  accept_all : (world : World) → Offered world → Comes config part tx Goal AllAccepted world
  accept_all = comes_each config part tx Goal Offered Accepted (pairs config q tx)
      (λ x h before state.
      let pair = pair_of config q tx x h in
      comes_on config part tx Goal (IsVoted x pair before state) (IsDoneFor config part tx Goal Offered Accepted x before) before
      (vote_one x pair before state)
      (λ after voted. comes_now config part tx Goal (IsDoneFor config part tx Goal Offered Accepted x before) after
      (voted.offered, voted.accepted, voted.still)))

  tell_one : (x : ℕ × ℕ) → IsIn (pairs config q tx) x → (before : World) → AllAccepted before
      → Comes config part tx Goal (IsDoneFor config part tx Goal AllAccepted Told x before) before
  tell_one x h before state =
      let pair = pair_of config q tx x h in
      comes_on config part tx Goal (IsVoted x pair before state.0) (IsDoneFor config part tx Goal AllAccepted Told x before) before
      (vote_one x pair before state.0)
      (λ after voted. comes_now config part tx Goal (IsDoneFor config part tx Goal AllAccepted Told x before) after (
        (voted.offered, λ y k. voted.still y (state.1 y k)),
        voted.told (λ i named. state.1 (x.0, i) (pair_in config q tx x.0 i pair.below pair.passes named)),
        voted.told_still,
      ))

  -- each acceptor has told of each instance
  abbrev pub AllTold : World → Type 0
  AllTold world = Offered world × ((x : ℕ × ℕ) → IsIn (pairs config q tx) x → Told x world)

  pub tell_all : (world : World) → Offered world → Comes config part tx Goal AllTold world
  tell_all world state =
      comes_on config part tx Goal AllAccepted AllTold world (accept_all world state)
      (λ middle all. comes_on config part tx Goal
      (λ after. AllAccepted after × ((x : ℕ × ℕ) → IsIn (pairs config q tx) x → Told x after)) AllTold middle
      (comes_each config part tx Goal AllAccepted Told (pairs config q tx) tell_one middle all)
      (λ after h. comes_now config part tx Goal AllTold after (h.0.0, h.1)))
