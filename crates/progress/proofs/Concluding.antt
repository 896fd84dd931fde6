-- The leader is handed each accept: it has the outcome.
use Rattle.std.proofs.Common.{◌≡◌, inl, inr, ℕ, Bool, true, List, refl, sym, ap, subst}
use Rattle.std.proofs.lemmas.Bool.{cases_Bool, eq-eqb}
use Rattle.xid.specs.Transactions.{TxParts}
use Rattle.xid.specs.declared.transaction.Vote.{Vote}
use Rattle.ballot.specs.Greatest.{IsIn}
use Rattle.ballot.specs.Majority.{is_majority}
use Rattle.protocol.specs.Basics.{Fact}
use Rattle.safety.specs.Vocabulary.{NodeId, L}
use Rattle.protocol.specs.Effects.{Config, Effect}
use Rattle.protocol.specs.Facts.{last_ballot, with_fact}
use Rattle.protocol.specs.LeaderMemory.{LeaderMemory, status_of}
use Rattle.protocol.specs.Leaders.{is_final, on_2b}
use Rattle.protocol.specs.Nodes.{NodeState, Memory}
use Rattle.protocol.specs.Worlds.{World}
use Rattle.progress.specs.Runs.{leader_and_quorum}
use Rattle.progress.proofs.Mail.{Letter, mail, letters}
use Rattle.progress.proofs.Steps.{IsQuiet, IsMoved, HasStep, quiet_node, quiet_message}
use Rattle.progress.proofs.Leading.{Comes, IsDoneFor, comes_step, comes_now, comes_goal, comes_on, comes_each}
use Rattle.progress.proofs.Accepting.{HasAccept, accept_stays}
use Rattle.progress.proofs.Telling.{has_told, IsTold, heard_accept, decides_value, all_decided}
use Rattle.progress.proofs.Members.{pairs, pair_in, IsFinal, quiet_final, leader_of, leader_in}

-- each acceptor of the quorum has told of each instance, by mail
pub record IsAllTold (config : Config) (tx : TxParts) (l : ℕ) (q : ℕ → Bool) (b : ℕ) (value : ℕ → Vote) (world : World) : Type 0 where
  pub facts : List Fact
  pub memory : Memory
  pub leader : IsQuiet config world (L l) facts memory
  pub tells : (x : ℕ × ℕ) → IsIn (pairs config q tx) x → HasAccept config tx l b (mail world.net) x.0 x.1 (value x.1)

module _ (config : Config) (tx : TxParts) (l : ℕ) (q : ℕ → Bool) (b : ℕ) (value : ℕ → Vote) where
  abbrev Goal : World → Type 0
  Goal = IsFinal config l tx

  abbrev part : NodeId → Bool
  part = leader_and_quorum l q

  abbrev State : World → Type 0
  State = IsAllTold config tx l q b value

  abbrev Heard : ℕ × ℕ → World → Type 0
  Heard x world = has_told (leader_in config world l).heard tx b x.0 x.1 (value x.1) ≡ true

  -- the leader is handed one accept, unless it has the outcome
  module _ (x : ℕ × ℕ) (h : IsIn (pairs config q tx) x) (before : World) (state : State before) where
    abbrev accept : HasAccept config tx l b (mail before.net) x.0 x.1 (value x.1)
    accept = state.tells x h

    abbrev e : Effect LeaderMemory
    e = on_2b config (last_ballot state.facts) state.memory.leader tx x.0 accept.accepts

    abbrev left : NodeState
    left = quiet_node (with_fact state.facts e.fact) (record state.memory { leader = e.memory })

    abbrev Next : World → Type 0
    Next = IsDoneFor config part tx Goal State Heard x before

    next_after : IsTold tx b x.0 x.1 (value x.1) state.memory.leader e → (after : World) → IsMoved config before after (L l) left e.sends
        → Next after
    next_after heard after moved =
        let was : leader_in config before l ≡ state.memory.leader = ap leader_of state.leader in
        let now : leader_in config after l ≡ e.memory = ap leader_of moved.here in (
          record {
            facts = with_fact state.facts e.fact;
            memory = record state.memory { leader = e.memory };
            leader = moved.here;
            tells = λ y k. subst (λ (post : List Letter). HasAccept config tx l b post y.0 y.1 (value y.1)) (sym moved.posted)
                (accept_stays config tx l b (mail before.net) (letters config e.sends) y.0 y.1 (value y.1) (state.tells y k));
          },
          subst (λ (m : LeaderMemory). has_told m.heard tx b x.0 x.1 (value x.1) ≡ true) (sym now) heard.told,
          λ y done. subst (λ (m : LeaderMemory). has_told m.heard tx b y.0 y.1 (value y.1) ≡ true) (sym now)
              (heard.still y.0 y.1 (value y.1)
              (subst (λ (m : LeaderMemory). has_told m.heard tx b y.0 y.1 (value y.1) ≡ true) was done)),
        )

    delivery : HasStep config before tx (L l) left e.sends
    delivery =
        subst (λ (y : Effect LeaderMemory). HasStep config before tx (L l)
        (quiet_node (with_fact state.facts y.fact) (record state.memory { leader = y.memory })) y.sends)
        (accept.rule (last_ballot state.facts) state.memory.leader)
        (quiet_message config before tx (L l) state.facts state.memory state.leader accept.message accept.inside accept.sent)

    conclude_one : Comes config part tx Goal Next before
    conclude_one = elim (cases_Bool (is_final (status_of config.acceptors (last_ballot state.facts) state.memory.leader tx))) [
      | inl final ↦ comes_goal config part tx Goal Next before
          (quiet_final config l tx before state.facts state.memory state.leader final)
      | inr undecided ↦
          let heard = heard_accept config (last_ballot state.facts) state.memory.leader tx b x.0 accept.accepts undecided x.1 (value x.1)
          accept.among in
          comes_step config part tx Goal Next before (L l) left e.sends (eq-eqb l l refl) delivery
          (λ after moved. comes_now config part tx Goal Next after (next_after heard after moved))
    ]

  module _ (majority : is_majority config.acceptors q ≡ true) where
    concluded : (world : World) → State world × ((x : ℕ × ℕ) → IsIn (pairs config q tx) x → Heard x world) → IsFinal config l tx world
    concluded world all =
        let state = all.0 in
        quiet_final config l tx world state.facts state.memory state.leader
        (all_decided config.acceptors (last_ballot state.facts) state.memory.leader tx value
        (λ i named. decides_value config.acceptors q majority state.memory.leader.heard tx b i (value i)
        (λ a lt is. subst (λ (m : LeaderMemory). has_told m.heard tx b a i (value i) ≡ true) (ap leader_of state.leader)
        (all.1 (a, i) (pair_in config q tx a i lt is named)))))

    pub conclude_all : (world : World) → State world → Comes config part tx Goal Goal world
    conclude_all world state =
        comes_on config part tx Goal (λ after. State after × ((x : ℕ × ℕ) → IsIn (pairs config q tx) x → Heard x after)) Goal world
        (comes_each config part tx Goal State Heard (pairs config q tx) conclude_one world state)
        (λ after all. comes_goal config part tx Goal Goal after (concluded after all))
