-- Each acceptor of the quorum is made quiet: restarted, and a tear used up by phase 1a of a ballot above all that it has promised.
use Rattle.std.proofs.Common.{◌≡◌, ◌≢◌, ◌⊎◌, inl, inr, ◌∙◌, ℕ, ◌<◌, ◌≤◌, Bool, true, false, List, []}
use Rattle.std.proofs.Common.{Option, Some, None, sym, subst, arith, nat_le}
use Rattle.std.proofs.lemmas.Bool.{cases_eq}
use Rattle.xid.specs.Transactions.{TxParts, participants}
use Rattle.stable_record.specs.Frames.{frame_length}
use Rattle.ballot.specs.Greatest.{IsIn}
use Rattle.protocol.specs.Basics.{Fact}
use Rattle.safety.specs.Vocabulary.{NodeId, A, L}
use Rattle.progress.proofs.Backed.{IsBacked}
use Rattle.safety.specs.Standing.{facts_at, facts_of}
use Rattle.protocol.specs.Effects.{Config, is_inside}
use Rattle.protocol.specs.Facts.{slot}
use Rattle.protocol.specs.Nodes.{NodeState, empty_memory}
use Rattle.protocol.specs.Worlds.{World, node_at}
use Rattle.progress.specs.Runs.{leader_and_quorum}
use Rattle.progress.proofs.Mail.{Letter, mail}
use Rattle.progress.proofs.Steps.{IsMoved, quiet_node, armed_node, torn_facts, torn_node, torn_delivery, restarted, mail_stays}
use Rattle.progress.proofs.Leading.{Comes, IsDoneFor, comes_step, comes_now, comes_on, comes_each}
use Rattle.progress.proofs.Slots.{mbal_below}
use Rattle.progress.proofs.Promising.{ask_of, promise_of, promise_of_low, stores_promise}
use Rattle.progress.proofs.Asking.{ask_inside}
use Rattle.progress.proofs.Raising.{IsLeading}
use Rattle.progress.proofs.Existing.{acceptor_there}
use Rattle.progress.proofs.Members.{members, member_in, member_of, IsFinal, IsBelow, acceptor_apart, not_acceptor}

-- an acceptor that has promised nothing above m
abbrev pub IsUntouched : Config → TxParts → (m : ℕ) → World → (a : ℕ) → Type 0
IsUntouched config tx m world a = (i : ℕ) → IsIn (participants tx) i → (slot (facts_at config world (A a)) tx i).mbal ≤ m

-- the leader has begun ballot b, above m; each acceptor has promised nothing above m, or is quiet
pub record IsCalling (config : Config) (tx : TxParts) (l : ℕ) (q : ℕ → Bool) (m b : ℕ) (world : World) : Type 0 where
  pub leading : IsLeading config tx l b world
  pub reach : IsBacked config world
  pub asked : (a i : ℕ) → a < config.acceptors → IsIn (participants tx) i
      → IsIn (mail world.net) (record { receiver = A a; message = ask_of config tx b i })
  pub each : (a : ℕ) → a < config.acceptors → q a ≡ true → IsUntouched config tx m world a ⊎ IsBelow config tx b world a

module _ (config : Config) (tx : TxParts) (l : ℕ) (q : ℕ → Bool) (inside : is_inside config tx ≡ true) (m b : ℕ) (above : m < b)
    (first : ℕ) (named : IsIn (participants tx) first) where
  abbrev Goal : World → Type 0
  Goal = IsFinal config l tx

  abbrev part : NodeId → Bool
  part = leader_and_quorum l q

  abbrev Calling : World → Type 0
  Calling = IsCalling config tx l q m b

  abbrev Quiet : ℕ → World → Type 0
  Quiet a world = IsBelow config tx b world a

  module _ (a : ℕ) (lt : a < config.acceptors) (is : q a ≡ true) (before : World) (state : Calling before) where
    abbrev Next : World → Type 0
    Next = IsDoneFor config part tx Goal Calling Quiet a before

    -- no other node has changed since
    record IsSince (after : World) : Type 0 where
      others : (n : NodeId) → n ≢ A a → node_at config after n ≡ node_at config before n
      kept : (letter : Letter) → IsIn (mail before.net) letter → IsIn (mail after.net) letter
      reach : IsBacked config after

    next_by : (after : World) → IsSince after → Quiet a after → Next after
    next_by after since quiet = (
      record {
        leading = record {
          facts = state.leading.facts;
          memory = state.leading.memory;
          leader = since.others (L l) (not_acceptor l a) ∙ state.leading.leader;
          last = state.leading.last;
        };
        reach = since.reach;
        asked = λ c i less h. since.kept (record { receiver = A c; message = ask_of config tx b i }) (state.asked c i less h);
        each = λ c less member. elim (cases_eq c a) [
          | inl same ↦ inr (subst (IsBelow config tx b after) (sym same) quiet)
          | inr apart ↦ elim (state.each c less member) [
            | inl untouched ↦ inl (λ i h. subst (λ (o : Option NodeState). (slot (facts_of o) tx i).mbal ≤ m)
                (sym (since.others (A c) (acceptor_apart c a apart))) (untouched i h))
            | inr below ↦ inr (still_quiet c apart below)
          ]
        ];
      },
      quiet,
      λ y below. elim (cases_eq y a) [
        | inl same ↦ subst (IsBelow config tx b after) (sym same) quiet
        | inr apart ↦ still_quiet y apart below
      ],
    )
      where
        still_quiet : (c : ℕ) → c ≢ a → IsBelow config tx b before c → IsBelow config tx b after c
        still_quiet c apart below = record {
          facts = below.facts;
          memory = below.memory;
          at = since.others (A c) (acceptor_apart c a apart) ∙ below.at;
          below = below.below;
        }

    torn_low : (facts : List Fact) → ((i : ℕ) → IsIn (participants tx) i → (slot facts tx i).mbal ≤ m) → (whole : Bool) → (i : ℕ)
        → IsIn (participants tx) i
        → (slot (torn_facts facts (promise_of config tx b first) whole) tx i).mbal ≤ b
    torn_low facts low true i h = mbal_below facts (promise_of config tx b first) tx i b (promise_of_low config tx b first i)
        (omega (arith, low i h))
    torn_low facts low false i h = omega (arith, low i h)

    module _ (facts : List Fact) (low : (i : ℕ) → IsIn (participants tx) i → (slot facts tx i).mbal ≤ m) (after : World)
        (moved : IsMoved config before after (A a) (record { facts = facts; up = true; tear = None; memory = empty_memory }) []
        ⊎ ((n : ℕ) × IsMoved config before after (A a) (armed_node facts empty_memory n) [])) where
      quiet_by : Comes config part tx Goal Next after
      quiet_by = elim moved [
        | inl quiet ↦ comes_now config part tx Goal Next after (next_by after
            (record {
              others = quiet.others;
              kept = mail_stays config before after (A a) (quiet_node facts empty_memory) [] quiet;
              reach = quiet.reach state.reach;
            })
            (record { facts = facts; memory = empty_memory; at = quiet.here; below = λ i h. omega (arith, low i h) }))
        | inr armed ↦ armed_on armed.0 armed.1
      ]
        where
          armed_on : (n : ℕ) → IsMoved config before after (A a) (armed_node facts empty_memory n) [] → Comes config part tx Goal Next after
          armed_on n armed =
              let fact = promise_of config tx b first in
              let whole = nat_le (frame_length fact) n in
              let left = torn_node facts fact whole in
              let fresh = quiet_node (torn_facts facts fact whole) empty_memory in
              let kept = mail_stays config before after (A a) (armed_node facts empty_memory n) [] armed in
              comes_step config part tx Goal Next after (A a) left [] is
              (torn_delivery config after tx (A a) facts empty_memory n fact armed.here (ask_of config tx b first)
              (kept (record { receiver = A a; message = ask_of config tx b first }) (state.asked a first lt named))
              (ask_inside config tx b first inside)
              (stores_promise config tx b first a facts named (omega (arith, low first named))))
              (λ middle torn. comes_step config part tx Goal Next middle (A a) fresh [] is
              (restarted config middle (A a) left torn.here tx (torn.reach (armed.reach state.reach)))
              (λ last again. comes_now config part tx Goal Next last (next_by last
              (record {
                others = λ c apart. again.others c apart ∙ torn.others c apart ∙ armed.others c apart;
                kept = λ letter h. mail_stays config middle last (A a) fresh [] again letter
                    (mail_stays config after middle (A a) left [] torn letter (kept letter h));
                reach = again.reach (torn.reach (armed.reach state.reach));
              })
              (record {
                facts = torn_facts facts fact whole;
                memory = empty_memory;
                at = again.here;
                below = λ i h. torn_low facts low whole i h;
              }))))

    by_tear : (facts : List Fact) → ((i : ℕ) → IsIn (participants tx) i → (slot facts tx i).mbal ≤ m) → (after : World) → (tear : Option ℕ)
        → IsMoved config before after (A a) (record { facts = facts; up = true; tear = tear; memory = empty_memory }) []
        → Comes config part tx Goal Next after
    by_tear facts low after None moved = quiet_by facts low after (inl moved)
    by_tear facts low after (Some n) moved = quiet_by facts low after (inr (n, moved))

    quiet_one : IsUntouched config tx m before a ⊎ IsBelow config tx b before a → Comes config part tx Goal Next before
    quiet_one (inr below) = comes_now config part tx Goal Next before (state, below, λ y h. h)
    quiet_one (inl untouched) =
        let there = acceptor_there config before state.reach a lt in
        let node = there.0 in
        comes_step config part tx Goal Next before (A a)
        (record { facts = node.facts; up = true; tear = node.tear; memory = empty_memory }) [] is
        (restarted config before (A a) node there.1 tx state.reach)
        (λ after moved. by_tear node.facts
        (λ i h. subst (λ (o : Option NodeState). (slot (facts_of o) tx i).mbal ≤ m) there.1 (untouched i h)) after node.tear moved)

  -- all of them are quiet
  abbrev pub AllQuiet : World → Type 0
  AllQuiet world = IsLeading config tx l b world × ((a : ℕ) → a < config.acceptors → q a ≡ true → IsBelow config tx b world a)

  pub quiet_all : (world : World) → Calling world → Comes config part tx Goal AllQuiet world
  quiet_all world state =
      comes_on config part tx Goal (λ after. Calling after × ((a : ℕ) → IsIn (members config q) a → Quiet a after)) AllQuiet world
      (comes_each config part tx Goal Calling Quiet (members config q)
      (λ a h before now. let one = member_of config q a h in quiet_one a one.0 one.1 before now (now.each a one.0 one.1)) world state)
      (λ after all. comes_now config part tx Goal AllQuiet after
      (all.0.leading, λ a lt is. all.1 a (member_in config q a lt is)))
