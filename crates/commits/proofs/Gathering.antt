-- Each acceptor of the quorum is restarted and handed each vote: all of them accept it in ballot 0.
use Rattle.std.proofs.Common.{◌≡◌, inl, inr, ◌⊎◌, ◌∙◌, ℕ, ◌<◌, ◌≤◌, Bool, true, false, ◌&&◌, if◌then◌else◌, List, [], ◌∷◌}
use Rattle.std.proofs.Common.{Option, Some, None, refl, sym, ap, subst, nat_le}
use Rattle.std.proofs.lemmas.Bool.{and_from, cases_Bool, cases_eq, cond-true, cond-false, le-leb}
use Rattle.xid.specs.Transactions.{TxParts, participants}
use Rattle.xid.specs.declared.transaction.Vote.TheVariants.{Prepared}
use Rattle.wire.specs.declared.message.Kind.TheVariants.{P2a}
use Rattle.stable_record.specs.Frames.{frame_length}
use Rattle.stable_record.specs.declared.fact.FactKind.TheVariants as stored
use Rattle.ballot.specs.Greatest.{IsIn}
use Rattle.protocol.specs.Basics.{Fact}
use Rattle.safety.specs.Vocabulary.{NodeId, A, L, Outgoing}
use Rattle.safety.specs.Standing.{facts_at, facts_of}
use Rattle.safety.proofs.World.Reachable.{held_accept}
use Rattle.protocol.specs.Acceptors.{is_accepted, accept_messages, on_2a}
use Rattle.protocol.specs.Effects.{Config, Effect, is_inside, no_effect, sends_only, stores}
use Rattle.protocol.specs.Facts.{slot, with_fact}
use Rattle.protocol.specs.Nodes.{NodeState, Memory, empty_memory}
use Rattle.protocol.specs.Worlds.{World, node_at}
use Rattle.protocol.proofs.Lists.{IsIn-before, IsIn-last}
use Rattle.progress.proofs.Mail.{mail}
use Rattle.progress.proofs.Backed.{IsBacked, backing_facts}
use Rattle.progress.proofs.Steps.{IsQuiet, IsMoved, quiet_node, quiet_message, mail_stays}
use Rattle.progress.proofs.Steps.{armed_node, torn_facts, torn_node, torn_delivery, restarted}
use Rattle.progress.proofs.Leading.{Comes, IsDoneFor, comes_step, comes_now, comes_each}
use Rattle.progress.proofs.Accepting.{accepted_holds}
use Rattle.progress.proofs.Slots.{mbal_below, accept_low}
use Rattle.progress.proofs.Existing.{acceptor_there}
use Rattle.progress.proofs.Members.{pairs, IsPair, pair_of, acceptor_apart, not_acceptor}

-- ---- the rule

-- an acceptor in ballot 0 has accepted a vote, or stores it when it is handed it
may_accept : (config : Config) (tx : TxParts) (world : World) → IsBacked config world → (a i : ℕ)
    → (slot (facts_at config world (A a)) tx i).mbal ≤ 0
    → IsIn (facts_at config world (A a)) (stored.Accept tx i 0 Prepared)
    ⊎ ((on_2a config a (slot (facts_at config world (A a))) tx i 0 Prepared).fact ≡ Some (stored.Accept tx i 0 Prepared))
may_accept config tx world b a i low =
    let slots = slot (facts_at config world (A a)) in
    let same = backing_facts config world b (A a) in
    let s = slots tx i in
    let told = accept_messages config a slots tx i 0 Prepared in
    let again_sent : Effect (Unit {0}) = sends_only tt told in
    let now_stored : Effect (Unit {0}) = stores tt (stored.Accept tx i 0 Prepared) told in
    elim (cases_Bool (is_accepted s 0 Prepared)) [
      | inl again ↦ inl (subst (λ (facts : List Fact). IsIn facts (stored.Accept tx i 0 Prepared)) same
          (held_accept config b.machine b.reach a tx i 0 Prepared
          (ap (λ (facts : List Fact). (slot facts tx i).report) same ∙ accepted_holds s 0 Prepared again)))
      | inr new ↦ inr (ap (λ (e : Effect (Unit {0})). e.fact)
          (cond-true (nat_le s.mbal 0) (if is_accepted s 0 Prepared then again_sent else now_stored) (no_effect tt)
          (le-leb s.mbal 0 low)
          ∙ cond-false (is_accepted s 0 Prepared) again_sent now_stored new))
    ]

grown : (facts : List Fact) (added : Option Fact) (f : Fact) → IsIn facts f → IsIn (with_fact facts added) f
grown facts None f h = h
grown facts (Some fact) f h = IsIn-before facts (fact ∷ []) f h

-- ---- the state

-- each vote is in the mail to each acceptor, and the quorum's are in ballot 0
pub record IsPosted (config : Config) (tx : TxParts) (l : ℕ) (q : ℕ → Bool) (first world : World) : Type 0 where
  pub reach : IsBacked config world
  pub posted : (a i : ℕ) → a < config.acceptors → IsIn (participants tx) i
      → IsIn (mail world.net) (record { receiver = A a; message = P2a tx i 0 Prepared })
  pub low : (a i : ℕ) → q a ≡ true → IsIn (participants tx) i → (slot (facts_at config world (A a)) tx i).mbal ≤ 0
  pub leader : node_at config world (L l) ≡ node_at config first (L l)

module _ (config : Config) (tx : TxParts) (l : ℕ) (q : ℕ → Bool) (inside : is_inside config tx ≡ true) (part : NodeId → Bool)
    (takes : (a : ℕ) → q a ≡ true → part (A a) ≡ true) (first : World) where
  abbrev Never : World → Type 0
  Never world = ⊥

  abbrev State : World → Type 0
  State = IsPosted config tx l q first

  abbrev Accepted : ℕ × ℕ → World → Type 0
  Accepted x world = IsIn (facts_at config world (A x.0)) (stored.Accept tx x.1 0 Prepared)

  module _ (x : ℕ × ℕ) (pair : IsPair config q tx x) (before : World) where
    abbrev a : ℕ
    a = x.0

    abbrev i : ℕ
    i = x.1

    abbrev fact : Fact
    fact = stored.Accept tx x.1 0 Prepared

    abbrev Next : World → Type 0
    Next = IsDoneFor config part tx Never State Accepted x before

    -- what acceptors had stored they have
    record IsSince (after : World) : Type 0 where
      state : State after
      kept : (c : ℕ) (f : Fact) → IsIn (facts_at config before (A c)) f → IsIn (facts_at config after (A c)) f

    next_by : (after : World) → IsSince after → Accepted x after → Next after
    next_by after since done = (since.state, done, λ y h. since.kept y.0 (stored.Accept tx y.1 0 Prepared) h)

    -- one event more at the acceptor, and at most a fact
    since_moved : (middle after : World) (facts : List Fact) (added : Option Fact) (node : NodeState) (sends : List Outgoing)
        → IsSince middle → facts_at config middle (A a) ≡ facts → node.facts ≡ with_fact facts added
        → ((j : ℕ) → (slot facts tx j).mbal ≤ 0 → (slot (with_fact facts added) tx j).mbal ≤ 0)
        → IsMoved config middle after (A a) node sends → IsSince after
    since_moved middle after facts added node sends since was now still moved =
        let is : facts_at config after (A a) ≡ with_fact facts added = ap facts_of moved.here ∙ now in
        record {
          state = record {
            reach = moved.reach since.state.reach;
            posted = λ c j lt h. mail_stays config middle after (A a) node sends moved
                (record { receiver = A c; message = P2a tx j 0 Prepared }) (since.state.posted c j lt h);
            low = λ c j member h. elim (cases_eq c a) [
              | inl same ↦ subst (λ (k : ℕ). (slot (facts_at config after (A k)) tx j).mbal ≤ 0) (sym same)
                  (subst (λ (fs : List Fact). (slot fs tx j).mbal ≤ 0) (sym is)
                  (still j (subst (λ (fs : List Fact). (slot fs tx j).mbal ≤ 0) was (since.state.low a j pair.passes h))))
              | inr apart ↦ subst (λ (o : Option NodeState). (slot (facts_of o) tx j).mbal ≤ 0)
                  (sym (moved.others (A c) (acceptor_apart c a apart))) (since.state.low c j member h)
            ];
            leader = moved.others (L l) (not_acceptor l a) ∙ since.state.leader;
          };
          kept = λ c f h. elim (cases_eq c a) [
            | inl same ↦ subst (λ (k : ℕ). IsIn (facts_at config after (A k)) f) (sym same)
                (subst (λ (fs : List Fact). IsIn fs f) (sym is)
                (grown facts added f (subst (λ (fs : List Fact). IsIn fs f) was
                (subst (λ (k : ℕ). IsIn (facts_at config middle (A k)) f) same (since.kept c f h)))))
            | inr apart ↦ subst (λ (o : Option NodeState). IsIn (facts_of o) f)
                (sym (moved.others (A c) (acceptor_apart c a apart))) (since.kept c f h)
          ];
        }

    accept_still : (facts : List Fact) (j : ℕ) → (slot facts tx j).mbal ≤ 0 → (slot (with_fact facts (Some fact)) tx j).mbal ≤ 0
    accept_still facts j h = mbal_below facts fact tx j 0 (accept_low tx i 0 Prepared j) h

    torn_still : (facts : List Fact) (whole : Bool) (j : ℕ) → (slot facts tx j).mbal ≤ 0
        → (slot (with_fact facts (if whole then Some fact else None)) tx j).mbal ≤ 0
    torn_still facts true j h = accept_still facts j h
    torn_still facts false j h = h

    torn_is : (facts : List Fact) (whole : Bool) → torn_facts facts fact whole ≡ with_fact facts (if whole then Some fact else None)
    torn_is facts true = refl
    torn_is facts false = refl

    message_inside : is_inside config tx && true && true ≡ true
    message_inside = and_from (is_inside config tx && true) true (and_from (is_inside config tx) true inside refl) refl

    -- a quiet acceptor is handed the vote
    quiet_accepts : (middle : World) → IsSince middle → (facts : List Fact) (memory : Memory) → IsQuiet config middle (A a) facts memory
        → Comes config part tx Never Next middle
    quiet_accepts middle since facts memory at =
        elim (may_accept config tx middle since.state.reach a i (since.state.low a i pair.passes pair.named)) [
          | inl done ↦ comes_now config part tx Never Next middle (next_by middle since done)
          | inr new ↦
              let same : facts_at config middle (A a) ≡ facts = ap facts_of at in
              let e = on_2a config a (slot facts) tx i 0 Prepared in
              let is : e.fact ≡ Some fact =
              subst (λ (fs : List Fact). (on_2a config a (slot fs) tx i 0 Prepared).fact ≡ Some fact) same new in
              let left = quiet_node (with_fact facts e.fact) memory in
              comes_step config part tx Never Next middle (A a) left e.sends (takes a pair.passes)
              (quiet_message config middle tx (A a) facts memory at (P2a tx i 0 Prepared) message_inside
              (since.state.posted a i pair.below pair.named))
              (λ after moved.
              let later = since_moved middle after facts (Some fact) left e.sends since same (ap (with_fact facts) is)
              (accept_still facts) moved in
              comes_now config part tx Never Next after (next_by after later
              (subst (λ (fs : List Fact). IsIn fs fact) (sym (ap facts_of moved.here ∙ ap (with_fact facts) is)) (IsIn-last facts fact))))
        ]

    -- one with a tear armed is handed it, restarted, and where the accept wasn't kept handed it once more
    armed_accepts : (middle : World) → IsSince middle → (facts : List Fact) (n : ℕ)
        → node_at config middle (A a) ≡ Some (armed_node facts empty_memory n) → Comes config part tx Never Next middle
    armed_accepts middle since facts n at =
        elim (may_accept config tx middle since.state.reach a i (since.state.low a i pair.passes pair.named)) [
          | inl done ↦ comes_now config part tx Never Next middle (next_by middle since done)
          | inr new ↦
              let same : facts_at config middle (A a) ≡ facts = ap facts_of at in
              let is : (on_2a config a (slot facts) tx i 0 Prepared).fact ≡ Some fact =
              subst (λ (fs : List Fact). (on_2a config a (slot fs) tx i 0 Prepared).fact ≡ Some fact) same new in
              let whole = nat_le (frame_length fact) n in
              let left = torn_node facts fact whole in
              comes_step config part tx Never Next middle (A a) left [] (takes a pair.passes)
              (torn_delivery config middle tx (A a) facts empty_memory n fact at (P2a tx i 0 Prepared)
              (since.state.posted a i pair.below pair.named) message_inside is)
              (λ down torn.
              let later = since_moved middle down facts (if whole then Some fact else None) left [] since same (torn_is facts whole)
              (torn_still facts whole) torn in
              let fresh = quiet_node (torn_facts facts fact whole) empty_memory in
              comes_step config part tx Never Next down (A a) fresh [] (takes a pair.passes)
              (restarted config down (A a) left torn.here tx later.state.reach)
              (λ after again. quiet_accepts after
              (since_moved down after (torn_facts facts fact whole) None fresh [] later (ap facts_of torn.here) refl (λ j h. h) again)
              (torn_facts facts fact whole) empty_memory again.here))
        ]

    accepts_by : (middle : World) → IsSince middle → (facts : List Fact) (tear : Option ℕ)
        → node_at config middle (A a) ≡ Some (record { facts = facts; up = true; tear = tear; memory = empty_memory })
        → Comes config part tx Never Next middle
    accepts_by middle since facts None at = quiet_accepts middle since facts empty_memory at
    accepts_by middle since facts (Some n) at = armed_accepts middle since facts n at

    accept_one : State before → Comes config part tx Never Next before
    accept_one state =
        let there = acceptor_there config before state.reach a pair.below in
        let node = there.0 in
        let fresh : NodeState = record { facts = node.facts; up = true; tear = node.tear; memory = empty_memory } in
        comes_step config part tx Never Next before (A a) fresh [] (takes a pair.passes)
        (restarted config before (A a) node there.1 tx state.reach)
        (λ after moved. accepts_by after
        (since_moved before after node.facts None fresh [] (record { state = state; kept = λ c f h. h }) (ap facts_of there.1) refl
        (λ j h. h) moved) node.facts node.tear moved.here)

  -- each of them has accepted each vote
  abbrev pub AllAccepted : World → Type 0
  AllAccepted world = State world × ((x : ℕ × ℕ) → IsIn (pairs config q tx) x → Accepted x world)

  pub accept_all : (world : World) → State world → Comes config part tx Never AllAccepted world
  accept_all = comes_each config part tx Never State Accepted (pairs config q tx)
      (λ x h before now. accept_one x (pair_of config q tx x h) before now)
