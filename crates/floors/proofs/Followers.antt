-- Some participants are each restarted and handed the outcome: these end in it.
use Rattle.std.proofs.Common.{◌≡◌, ◌≢◌, ◌⊎◌, inl, inr, ◌∙◌, ℕ, Bool, true, List, []}
use Rattle.std.proofs.Common.{Option, Some, None, refl, sym, ap, subst, nat_le, nat_lt}
use Rattle.std.proofs.lemmas.Bool.{cases_eq, ltb-true}
use Rattle.xid.specs.Transactions.{TxParts, participants}
use Rattle.wire.specs.declared.message.Kind.{Kind}
use Rattle.stable_record.specs.Frames.{frame_length}
use Rattle.ballot.specs.Greatest.{IsIn}
use Rattle.protocol.specs.Basics.{Fact}
use Rattle.safety.specs.Vocabulary.{NodeId, R, View, Outgoing}
use Rattle.safety.specs.Runs.{views_in}
use Rattle.progress.proofs.Backed.{IsBacked}
use Rattle.safety.specs.Standing.{facts_at, facts_of}
use Rattle.protocol.specs.Effects.{Config, is_inside}
use Rattle.protocol.specs.Facts.{view, with_fact}
use Rattle.protocol.specs.Nodes.{NodeState, Memory, empty_memory, is_message_inside, on_message}
use Rattle.protocol.specs.Worlds.{World, node_at}
use Rattle.protocol.proofs.Lists.{IsIn-last, all_found}
use Rattle.progress.proofs.Steps.{IsQuiet, IsMoved, quiet_node, quiet_message, mail_stays}
use Rattle.progress.proofs.Steps.{armed_node, torn_facts, torn_node, torn_delivery, restarted}
use Rattle.progress.proofs.Leading.{Comes, IsDoneFor, comes_step, comes_now, comes_on, comes_each}
use Rattle.progress.proofs.Existing.{manager_there}
use Rattle.progress.proofs.Ending.{IsAnnounced, manager_apart}

-- the outcome, the fact that it has a participant store, and the view that it comes to
module _ (config : Config) (tx : TxParts) (part : NodeId → Bool) (message : Kind) (fact : Fact) (end : View)
    (targets : List ℕ) (are_named : (r : ℕ) → IsIn targets r → IsIn (participants tx) r)
    (inside : is_inside config tx ≡ true) (is_inside_too : is_message_inside config message ≡ true)
    (takes_part : (r : ℕ) → IsIn targets r → part (R r) ≡ true)
    (stores : (world : World) → IsAnnounced config tx message world → (r : ℕ) → IsIn (participants tx) r → (memory : Memory)
    → (views_in config world tx r ≡ end) ⊎ ((on_message config (R r) (facts_at config world (R r)) memory message).fact ≡ Some fact))
    (ends : (world : World) → IsBacked config world → (r : ℕ) → IsIn (participants tx) r
    → IsIn (facts_at config world (R r)) fact → views_in config world tx r ≡ end) where
  abbrev Never : World → Type 0
  Never world = ⊥

  abbrev State : World → Type 0
  State = IsAnnounced config tx message

  abbrev Ended : ℕ → World → Type 0
  Ended r world = views_in config world tx r ≡ end

  module _ (r : ℕ) (aimed : IsIn targets r) (first : World) where
    named : IsIn (participants tx) r
    named = are_named r aimed

    abbrev Next : World → Type 0
    Next = IsDoneFor config part tx Never State Ended r first

    -- nothing else has changed since
    record IsSince (after : World) : Type 0 where
      state : State after
      others : (n : NodeId) → n ≢ R r → node_at config after n ≡ node_at config first n

    next_by : (after : World) → IsSince after → Ended r after → Next after
    next_by after since ended = (
      since.state,
      ended,
      λ s done. elim (cases_eq s r) [
        | inl same ↦ subst (λ (n : ℕ). Ended n after) (sym same) ended
        | inr apart ↦ ap (λ (o : Option NodeState). view (facts_of o) tx) (since.others (R s) (manager_apart s r apart)) ∙ done
      ],
    )

    -- one event more at the participant
    since_moved : (before after : World) (node : NodeState) (sends : List Outgoing) → IsSince before
        → IsMoved config before after (R r) node sends → IsSince after
    since_moved before after node sends since moved = record {
      state = record {
        reach = moved.reach since.state.reach;
        posted = λ s h. mail_stays config before after (R r) node sends moved (record { receiver = R s; message = message })
            (since.state.posted s h);
      };
      others = λ n apart. moved.others n apart ∙ since.others n apart;
    }

    module _ (before : World) (since : IsSince before) where
      now_ended : Ended r before → Comes config part tx Never Next before
      now_ended ended = comes_now config part tx Never Next before (next_by before since ended)

      -- a quiet participant is handed the outcome
      quiet_ends : (facts : List Fact) (memory : Memory) → IsQuiet config before (R r) facts memory → Comes config part tx Never Next before
      quiet_ends facts memory at = elim (stores before since.state r named memory) [
        | inl ended ↦ now_ended ended
        | inr new ↦
            let e = on_message config (R r) facts memory message in
            let same : facts_at config before (R r) ≡ facts = ap facts_of at in
            let stored : e.fact ≡ Some fact =
            subst (λ (fs : List Fact). (on_message config (R r) fs memory message).fact ≡ Some fact) same new in
            let left = quiet_node (with_fact facts e.fact) e.memory in
            comes_step config part tx Never Next before (R r) left e.sends (takes_part r aimed)
            (quiet_message config before tx (R r) facts memory at message is_inside_too (since.state.posted r named))
            (λ after moved.
            let later = since_moved before after left e.sends since moved in
            comes_now config part tx Never Next after (next_by after later (ends after later.state.reach r named
            (subst (λ (fs : List Fact). IsIn fs fact) (sym (ap facts_of moved.here ∙ ap (with_fact facts) stored))
            (IsIn-last facts fact)))))
      ]

    module _ (before : World) (since : IsSince before) where
      -- one with a tear armed is handed it, restarted, and where the fact wasn't kept handed it once more
      armed_ends : (facts : List Fact) (n : ℕ) → node_at config before (R r) ≡ Some (armed_node facts empty_memory n)
          → Comes config part tx Never Next before
      armed_ends facts n at = elim (stores before since.state r named empty_memory) [
        | inl ended ↦ now_ended before since ended
        | inr new ↦
            let same : facts_at config before (R r) ≡ facts = ap facts_of at in
            let stored : (on_message config (R r) facts empty_memory message).fact ≡ Some fact =
            subst (λ (fs : List Fact). (on_message config (R r) fs empty_memory message).fact ≡ Some fact) same new in
            let whole = nat_le (frame_length fact) n in
            let left = torn_node facts fact whole in
            comes_step config part tx Never Next before (R r) left [] (takes_part r aimed)
            (torn_delivery config before tx (R r) facts empty_memory n fact at message (since.state.posted r named) is_inside_too stored)
            (λ middle torn.
            let later = since_moved before middle left [] since torn in
            let fresh = quiet_node (torn_facts facts fact whole) empty_memory in
            comes_step config part tx Never Next middle (R r) fresh [] (takes_part r aimed)
            (restarted config middle (R r) left torn.here tx later.state.reach)
            (λ after again. quiet_ends after (since_moved middle after fresh [] later again) (torn_facts facts fact whole) empty_memory
            again.here))
      ]

    end_by : (before : World) → IsSince before → (facts : List Fact) (tear : Option ℕ)
        → node_at config before (R r) ≡ Some (record { facts = facts; up = true; tear = tear; memory = empty_memory })
        → Comes config part tx Never Next before
    end_by before since facts None at = quiet_ends before since facts empty_memory at
    end_by before since facts (Some n) at = armed_ends before since facts n at

    -- a participant is restarted, and handed the outcome
    end_one : State first → Comes config part tx Never Next first
    end_one state =
        let few = ltb-true r config.managers (all_found (λ (rm : ℕ). nat_lt rm config.managers) (participants tx) inside r named) in
        let there = manager_there config first state.reach r few in
        let node = there.0 in
        let fresh : NodeState = record { facts = node.facts; up = true; tear = node.tear; memory = empty_memory } in
        comes_step config part tx Never Next first (R r) fresh [] (takes_part r aimed)
        (restarted config first (R r) node there.1 tx state.reach)
        (λ after moved. end_by after
        (since_moved first after fresh [] (record { state = state; others = λ n apart. refl }) moved) node.facts node.tear moved.here)

  -- each of them has ended
  pub end_each : (world : World) → State world
      → Comes config part tx Never (λ after. (r : ℕ) → IsIn targets r → views_in config after tx r ≡ end) world
  end_each world state =
      comes_on config part tx Never (λ after. State after × ((r : ℕ) → IsIn targets r → Ended r after))
      (λ after. (r : ℕ) → IsIn targets r → views_in config after tx r ≡ end) world
      (comes_each config part tx Never State Ended targets (λ r aimed before now. end_one r aimed before now) world state)
      (λ after all. comes_now config part tx Never (λ later. (r : ℕ) → IsIn targets r → views_in config later tx r ≡ end) after all.1)
