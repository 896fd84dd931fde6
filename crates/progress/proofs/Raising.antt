-- A leader made quiet, and its ballot raised above all that the quorum has promised.
use Rattle.std.proofs.Common.{◌≡◌, inl, inr, ◌∙◌, ℕ, zero, suc, ◌+◌, ◌^◌, ◌<◌, ◌≤◌, Bool, true, false}
use Rattle.std.proofs.Common.{List, [], ◌∷◌, ◌++◌, refl, sym, ap, subst, arith}
use Rattle.std.proofs.lemmas.Bool.{cases_Bool, cases_lt, eq-eqb}
use Rattle.xid.specs.Transactions.{TxParts, participants}
use Rattle.stable_record.specs.declared.fact.FactKind.TheVariants as stored
use Rattle.ballot.specs.Ballots.{next_of}
use Rattle.ballot.specs.Greatest.{IsIn}
use Rattle.protocol.specs.Basics.{Fact}
use Rattle.safety.specs.Vocabulary.{NodeId, A, L}
use Rattle.safety.proofs.Leader.Memory.{last_ballot-of_new}
use Rattle.progress.proofs.Backed.{IsBacked}
use Rattle.protocol.specs.Effects.{Config, Effect, is_inside, stores}
use Rattle.protocol.specs.Facts.{last_ballot, with_fact}
use Rattle.protocol.specs.LeaderMemory.{LeaderMemory, is_proposed, with_begun, with_met, status_of}
use Rattle.protocol.specs.Leaders.{is_final, is_current, phase_1a}
use Rattle.protocol.specs.Nodes.{Memory}
use Rattle.protocol.specs.Worlds.{World, node_at}
use Rattle.protocol.proofs.Lists.{IsIn-after}
use Rattle.progress.specs.Runs.{leader_and_quorum}
use Rattle.progress.proofs.Mail.{Letter, mail, letters}
use Rattle.progress.proofs.Steps.{IsQuiet, IsMoved, HasStep, quiet_node, quiet_timeout, mail_stays}
use Rattle.progress.proofs.Leading.{Comes, comes_step, comes_now, comes_goal, comes_on}
use Rattle.progress.proofs.Promising.{ask_of}
use Rattle.progress.proofs.Beginning.{begins, begun_current, begun_unproposed, asked_each, next_turn}
use Rattle.progress.proofs.Members.{IsFinal, quiet_final, not_leader}

-- the leader has begun ballot b, and no acceptor was touched
pub record IsBegun (config : Config) (tx : TxParts) (l : ℕ) (before : World) (b : ℕ) (after : World) : Type 0 where
  pub facts : List Fact
  pub memory : Memory
  pub leader : IsQuiet config after (L l) facts memory
  pub last : last_ballot facts tx ≡ b
  pub current : is_current memory.leader tx b ≡ true
  pub none : (i : ℕ) → is_proposed memory.leader.proposed tx i b ≡ false
  pub asked : (a i : ℕ) → a < config.acceptors → IsIn (participants tx) i
      → IsIn (mail after.net) (record { receiver = A a; message = ask_of config tx b i })
  pub others : (a : ℕ) → node_at config after (A a) ≡ node_at config before (A a)
  pub kept : (letter : Letter) → IsIn (mail before.net) letter → IsIn (mail after.net) letter
  pub reach : IsBacked config before → IsBacked config after

-- a quiet leader, whose last ballot is known
pub record IsLeading (config : Config) (tx : TxParts) (l : ℕ) (s : ℕ) (world : World) : Type 0 where
  pub facts : List Fact
  pub memory : Memory
  pub leader : IsQuiet config world (L l) facts memory
  pub last : last_ballot facts tx ≡ s

module _ (config : Config) (tx : TxParts) (l : ℕ) (q : ℕ → Bool) (few : l < config.leaders) (inside : is_inside config tx ≡ true) where
  abbrev Goal : World → Type 0
  Goal = IsFinal config l tx

  abbrev part : NodeId → Bool
  part = leader_and_quorum l q

  -- ---- one ballot more

  module _ (s : ℕ) (before : World) (state : IsLeading config tx l s before) (left : next_of config.leaders l s < 2 ^ 32) where
    abbrev b : ℕ
    b = next_of config.leaders l s

    abbrev e : Effect LeaderMemory
    e = stores (with_begun tx b (with_met tx state.memory.leader)) (stored.Ballot tx b) (phase_1a config tx b)

    abbrev memory : Memory
    memory = record state.memory { leader = e.memory }

    step_is : is_final (status_of config.acceptors (last_ballot state.facts) state.memory.leader tx) ≡ false
        → HasStep config before tx (L l) (quiet_node (state.facts ++ stored.Ballot tx b ∷ []) memory) e.sends
    step_is undecided =
        subst (λ (x : Effect LeaderMemory). HasStep config before tx (L l)
        (quiet_node (with_fact state.facts x.fact) (record state.memory { leader = x.memory })) x.sends)
        (begins config l (last_ballot state.facts) state.memory.leader tx inside undecided
        (subst (λ (n : ℕ). next_of config.leaders l n < 2 ^ 32) (sym state.last) left)
        ∙ ap (λ (n : ℕ). stores (with_begun tx (next_of config.leaders l n) (with_met tx state.memory.leader))
        (stored.Ballot tx (next_of config.leaders l n)) (phase_1a config tx (next_of config.leaders l n))) state.last)
        (quiet_timeout config before tx (L l) state.facts state.memory state.leader refl)

    begun_after : (after : World) → IsMoved config before after (L l) (quiet_node (state.facts ++ stored.Ballot tx b ∷ []) memory) e.sends
        → IsBegun config tx l before b after
    begun_after after moved = record {
      facts = state.facts ++ stored.Ballot tx b ∷ [];
      memory = memory;
      leader = moved.here;
      last = last_ballot-of_new state.facts tx b
          (subst (λ (n : ℕ). n < b) (sym state.last) (next_turn config.leaders l s few).above);
      current = begun_current tx b (with_met tx state.memory.leader);
      none = begun_unproposed tx b (with_met tx state.memory.leader);
      asked = λ a i lt named. subst (λ (post : List Letter). IsIn post (record { receiver = A a; message = ask_of config tx b i }))
          (sym moved.posted)
          (IsIn-after (mail before.net) (letters config e.sends) (record { receiver = A a; message = ask_of config tx b i })
          (asked_each config tx b a i lt named));
      others = λ a. moved.others (A a) (not_leader a l);
      kept = mail_stays config before after (L l) (quiet_node (state.facts ++ stored.Ballot tx b ∷ []) memory) e.sends moved;
      reach = moved.reach;
    }

    pub begin_one : Comes config part tx Goal (IsBegun config tx l before b) before
    begin_one = elim (cases_Bool (is_final (status_of config.acceptors (last_ballot state.facts) state.memory.leader tx))) [
      | inl final ↦ comes_goal config part tx Goal (IsBegun config tx l before b) before
          (quiet_final config l tx before state.facts state.memory state.leader final)
      | inr undecided ↦ comes_step config part tx Goal (IsBegun config tx l before b) before (L l)
          (quiet_node (state.facts ++ stored.Ballot tx b ∷ []) memory) e.sends (eq-eqb l l refl) (step_is undecided)
          (λ after moved. comes_now config part tx Goal (IsBegun config tx l before b) after (begun_after after moved))
    ]

  -- ---- above a bound

  -- a ballot above m, no further than the leader's next turn after the greater of m and the last
  pub record IsRaised (m most : ℕ) (before after : World) : Type 0 where
    pub b : ℕ
    pub above : m < b
    pub near : b ≤ most
    pub begun : IsBegun config tx l before b after

  raised_from : (m most : ℕ) (before middle after : World) (s : ℕ) → IsBegun config tx l before s middle
      → IsRaised m most middle after → IsRaised m most before after
  raised_from m most before middle after s first rest = record {
    b = rest.b;
    above = rest.above;
    near = rest.near;
    begun = record {
      facts = rest.begun.facts;
      memory = rest.begun.memory;
      leader = rest.begun.leader;
      last = rest.begun.last;
      current = rest.begun.current;
      none = rest.begun.none;
      asked = rest.begun.asked;
      others = λ a. rest.begun.others a ∙ first.others a;
      kept = λ letter h. rest.begun.kept letter (first.kept letter h);
      reach = λ h. rest.begun.reach (first.reach h);
    };
  }

  module _ (m most : ℕ) (room : m + config.leaders ≤ most) (left : most < 2 ^ 32) where
    raised_by : (s : ℕ) (before after : World) → IsBegun config tx l before (next_of config.leaders l s) after
        → s + config.leaders ≤ most → m < next_of config.leaders l s → IsRaised m most before after
    raised_by s before after begun k above =
        let turn = next_turn config.leaders l s few in
        record { b = next_of config.leaders l s; above = above; near = omega (arith, turn.near, k); begun = begun }

    leading_from : (s : ℕ) (before after : World) → IsBegun config tx l before s after → IsLeading config tx l s after
    leading_from s before after begun =
        record { facts = begun.facts; memory = begun.memory; leader = begun.leader; last = begun.last }

    -- as often as it takes: by how far the last ballot is below the bound
    pub raise : (fuel s : ℕ) (before : World) → IsLeading config tx l s before → m ≤ s + fuel → s + config.leaders ≤ most
        → Comes config part tx Goal (IsRaised m most before) before
    raise zero s before state h k =
        let turn = next_turn config.leaders l s few in
        comes_on config part tx Goal (IsBegun config tx l before (next_of config.leaders l s)) (IsRaised m most before) before
        (begin_one s before state (omega (arith, turn.near, k, left)))
        (λ after begun. comes_now config part tx Goal (IsRaised m most before) after
        (raised_by s before after begun k (omega (arith, turn.above, h))))
    raise (suc fuel) s before state h k =
        let b = next_of config.leaders l s in
        let turn = next_turn config.leaders l s few in
        comes_on config part tx Goal (IsBegun config tx l before b) (IsRaised m most before) before
        (begin_one s before state (omega (arith, turn.near, k, left)))
        (λ middle begun. elim (cases_lt m b) [
          | inl above ↦ comes_now config part tx Goal (IsRaised m most before) middle (raised_by s before middle begun k above)
          | inr low ↦
              comes_on config part tx Goal (IsRaised m most middle) (IsRaised m most before) middle
              (raise fuel b middle (leading_from b before middle begun) (omega (arith, turn.above, h)) (omega (arith, low, room)))
              (λ after raised. comes_now config part tx Goal (IsRaised m most before) after
              (raised_from m most before middle after b begun raised))
        ])
