-- Every event keeps a world safe, and moves each transaction by at most one step.
-- Needed by `runs_reach` and `senders_are_named`; Manager.Holds, WellFormed.Runs and World.Reachable; 7 crates above.
use Rattle.std.proofs.Common.{◌≡◌, inl, inr, ◌∙◌, ◌++◌, ℕ, zero, suc, ◌<◌, true, if◌then◌else◌, List, [], ◌∷◌}
use Rattle.std.proofs.Common.{Option, Some, None, refl, sym, ap, subst, nat_lt}
use Rattle.std.specs.Prelude.{slice_get, length}
use Rattle.std.specs.List.{flat_map}
use Rattle.std.proofs.lemmas.Bool.{cond_both}
use Rattle.std.proofs.lemmas.List.{append-nil}
use Rattle.xid.specs.Transactions.{TxParts}
use Rattle.wire.specs.declared.message.Kind.{Kind}
use Rattle.xid.specs.declared.refusals.Refusal.TheVariants.{NoSuch, Forged, Down}
use Rattle.protocol.specs.Basics.{Fact}
use Rattle.safety.specs.Vocabulary.{NodeId, L, R, Outgoing, Done, Refused, Event, Deliver, Lose, Cut, Noise, Tear, Restart, Compact, Ask}
use Rattle.protocol.specs.Effects.{Config}
use Rattle.wire.specs.Decoding.{spells_message}
use Rattle.wire.specs.Grammar.{spelling}
use Rattle.protocol.specs.Nodes.{NodeState, Input, Asked, Received, ReceivedNoise, Fault, RecordFails, NoMemoryBefore, NoMemoryAt, Outcome}
use Rattle.protocol.specs.Nodes.{node_step, restart_outcome, compact_outcome, all_play}
use Rattle.protocol.specs.PaperItems.{unbundled}
use Rattle.protocol.specs.Worlds.{World, Datagram, opening, if_found, StepResult, Occurrence, node_at, set_node, answer_result}
use Rattle.protocol.specs.Worlds.{outcome_result, at_node, datagram_at, mark_at, with_mark, cut_result, dispatch, world_step, world_after}
use Rattle.xid.specs.declared.transaction.Vote.TheVariants as votes
use Rattle.safety.specs.Items.{Item, Promised, Accepted, Began, Voted, Committed, StoredAbort, P1b, P2a, P2b, Commit, Abort}
use Rattle.safety.specs.Invariant.{Invariant}
use Rattle.safety.specs.Runs.{IsReachable, Opening, After}
use Rattle.safety.specs.Senders.{IsFrom, AreFrom}
use Rattle.ballot.specs.Greatest.{IsIn}
use Rattle.safety.specs.Standing.{StandsBy, setting, facts_of, sent_in}
use Rattle.safety.proofs.Facts.{messages_of}
use Rattle.safety.proofs.Argument.Preservation.{invariant_at_start}
use Rattle.safety.proofs.Leader.Effects.{kept_at_start}
use Rattle.safety.proofs.Leader.Invariant.{LeaderInvariant}
use Rattle.protocol.proofs.Lists.{IsIn-join}
use Rattle.protocol.specs.Holds.{AreApart}
use Rattle.protocol.proofs.Manager.Apart.{none_apart}
use Rattle.safety.proofs.World.Outcomes.{KeepsFacts, next_still, next_step, joined_from, step_from}
use Rattle.safety.proofs.World.NodePlaces.{opening_node, leader_inside, marked_messages}
use Rattle.safety.proofs.World.NodeRules.{IsFromNet, rule_is}
use Rattle.safety.proofs.World.SafeSteps.{facts_by, IsSafe, IsSafeStepBy, next_same}

-- the next moment of a world
pub record IsSafeStep (config : Config) (before after : World) : Type 0 where
  pub next : IsSafeStepBy config (node_at config before) (node_at config after) (sent_in after)
  pub from : AreFrom config before.net → AreFrom config after.net

-- a mark changes no sender and no message
marked_from : (config : Config) (net : List Datagram) (n : ℕ) → AreFrom config net → AreFrom config (mark_at net n)
marked_from config [] n are x h = are x h
marked_from config (d ∷ net) zero are x h = are x h
marked_from config (d ∷ net) (suc zero) are x (inl e) =
    subst (λ (y : Datagram). (m : Kind) → IsIn (unbundled y.message) m → IsFrom config y.sender m) e (are d (inl refl))
marked_from config (d ∷ net) (suc zero) are x (inr h) = are x (inr h)
marked_from config (d ∷ net) (suc (suc n)) are x (inl e) = are x (inl e)
marked_from config (d ∷ net) (suc (suc n)) are x (inr h) = marked_from config net (suc n) (λ y k. are y (inr k)) x h

module _ (config : Config) (world : World) (safe : IsSafe config world) where
  -- nothing changes
  same : IsSafeStep config world world
  same = record {
    next = next_same config (node_at config world) (node_at config world) (sent_in world) (sent_in world) safe (λ n. refl) refl;
    from = λ are. are;
  }

  -- a mark
  marked : (n : ℕ) → IsSafeStep config world (with_mark world n)
  marked n = record {
    next = next_same config (node_at config world) (node_at config (with_mark world n)) (sent_in world)
        (sent_in (with_mark world n)) safe (λ who. refl)
        (marked_messages world.net n);
    from = marked_from config world.net n;
  }

  few : (who : NodeId) (node : NodeState) → node_at config world who ≡ Some node → (l : ℕ) → who ≡ L l → l < config.leaders
  few who node stands l e = leader_inside config world l node (subst (λ (n : NodeId). node_at config world n ≡ Some node) e stands)

  -- where there is such a node or datagram, what happens to it; else nothing
  found_next : {X : Type 0} (o : Option X) (f : X → StepResult) → ((x : X) → o ≡ Some x → IsSafeStep config world (f x).world)
      → IsSafeStep config world (if_found world f o).world
  found_next None f next = same
  found_next (Some x) f next = next x refl

  -- ---- an input at a node

  handed_next : (who : NodeId) (input : Input) (fault : Fault) → IsFromNet (sent_in world) input → (node : NodeState)
      → node_at config world who ≡ Some node
      → IsSafeStep config world (outcome_result config world who node.facts (node_step config who node input fault)).world
  handed_next who input fault came node is =
      let rule = rule_is config (node_at config world) (sent_in world) safe who node input is (few who node is) came in
      record { next = next_step config world who node input fault safe is rule; from = step_from config world who node input fault rule }

  at_node_next : (who : NodeId) (input : Input) (fault : Fault) → IsFromNet (sent_in world) input
      → IsSafeStep config world (at_node config world who input fault).world
  at_node_next who input fault came = found_next (node_at config world who)
      (λ node. outcome_result config world who node.facts (node_step config who node input fault)) (handed_next who input fault came)

  -- ---- restarts and tears

  pub restarted_is : (who : NodeId) (node : NodeState) (fault : Fault) → KeepsFacts node (restart_outcome config who node fault)
  restarted_is who node NoMemoryAt = record { facts = refl; silent = refl; memory = inr refl }
  restarted_is who node (RecordFails whole) = record { facts = refl; silent = refl; memory = inr refl }
  restarted_is who node fault = cond_both (all_play config who [] node.facts) _ _ (KeepsFacts node)
      (λ plays. record { facts = refl; silent = refl; memory = inr refl })
      (λ damaged. record { facts = refl; silent = refl; memory = inr refl })

  restarts_next : (who : NodeId) (fault : Fault) → IsSafeStep config world (dispatch config world (Restart who) fault).world
  restarts_next who fault = found_next (node_at config world who)
      (λ node. outcome_result config world who node.facts (restart_outcome config who node fault))
      (λ node is. let still = restarted_is who node fault in record {
        next = next_still config world who node (restart_outcome config who node fault) safe is still;
        from = λ are. joined_from config world who node.facts (restart_outcome config who node fault) are
            (λ m h. absurd (subst (λ (sends : List Outgoing). IsIn (messages_of sends) m) still.silent h));
      })

  pub compacted_is : (node : NodeState) (fault : Fault) → KeepsFacts node (compact_outcome node fault)
  compacted_is node NoMemoryAt = record { facts = refl; silent = refl; memory = inr refl }
  compacted_is node (RecordFails whole) = record { facts = refl; silent = refl; memory = inr refl }
  compacted_is node fault = record { facts = refl; silent = refl; memory = inl refl }

  compacts_next : (who : NodeId) (fault : Fault) → IsSafeStep config world (dispatch config world (Compact who) fault).world
  compacts_next who fault = found_next (node_at config world who)
      (λ node.
      if node.up then outcome_result config world who node.facts (compact_outcome node fault) else answer_result world (Refused Down))
      (λ node is. cond_both node.up _ _ (λ (result : StepResult). IsSafeStep config world result.world)
      (λ up. let still = compacted_is node fault in record {
        next = next_still config world who node (compact_outcome node fault) safe is still;
        from = λ are. joined_from config world who node.facts (compact_outcome node fault) are
            (λ m h. absurd (subst (λ (sends : List Outgoing). IsIn (messages_of sends) m) still.silent h));
      })
      (λ down. same))

  armed_next : (who : NodeId) (n : ℕ) (node : NodeState) → node_at config world who ≡ Some node
      → IsSafeStep config world (answer_result (set_node config world who (record node { tear = Some n })) Done).world
  armed_next who n node is =
      let left : Outcome = record { node = record node { tear = Some n }; answer = Done; sends = [] } in
      record {
        next =
            subst (IsSafeStepBy config (node_at config world) (node_at config (set_node config world who (record node { tear = Some n }))))
            (ap (flat_map (λ datagram. unbundled datagram.message)) (append-nil world.net))
            (next_still config world who node left safe is (record { facts = refl; silent = refl; memory = inl refl }));
        from = λ are. are;
      }

  tears_next : (who : NodeId) (n : ℕ) (fault : Fault) → IsSafeStep config world (dispatch config world (Tear who n) fault).world
  tears_next who n fault = found_next (node_at config world who)
      (λ node. answer_result (set_node config world who (record node { tear = Some n })) Done) (armed_next who n)

  -- ---- datagrams

  loses_next : (n : ℕ) (fault : Fault) → IsSafeStep config world (dispatch config world (Lose n) fault).world
  loses_next n fault = found_next (datagram_at world.net n) (λ d. answer_result (with_mark world n) Done) (λ d is. marked n)

  cuts_next : (n k : ℕ) (fault : Fault) → IsSafeStep config world (cut_result config world n k fault).world
  cuts_next n k fault = found_next (datagram_at world.net n)
      (λ d. if nat_lt k (length (spelling d.message)) then at_node config world d.receiver ReceivedNoise fault else answer_result world
      (Refused NoSuch))
      (λ d is. cond_both (nat_lt k (length (spelling d.message))) (at_node config world d.receiver ReceivedNoise fault)
      (answer_result world (Refused NoSuch))
      (λ result. IsSafeStep config world result.world)
      (λ fewer. at_node_next d.receiver ReceivedNoise fault tt) (λ all. same))

  noise_next : (who : NodeId) (bytes : List ℕ) (fault : Fault)
      → IsSafeStep config world (dispatch config world (Noise who bytes) fault).world
  noise_next who bytes fault = cond_both (spells_message bytes)
      (if_found world (λ node. answer_result world (Refused Forged)) (node_at config world who))
      (at_node config world who ReceivedNoise fault)
      (λ result. IsSafeStep config world result.world)
      (λ spelled. found_next (node_at config world who) (λ node. answer_result world (Refused Forged)) (λ node is. same))
      (λ garbled. at_node_next who ReceivedNoise fault tt)

-- a datagram of the net has a message that was sent
pub slice_among : {X : Type 0} (xs : List X) (n : ℕ) (x : X) → slice_get xs n ≡ Some x → IsIn xs x
slice_among [] n x h = absurd (cc (h))
slice_among (y ∷ xs) zero x h = inl (cc (h))
slice_among (y ∷ xs) (suc n) x h = inr (slice_among xs n x h)

pub datagram_among : (net : List Datagram) (n : ℕ) (d : Datagram) → datagram_at net n ≡ Some d → IsIn net d
datagram_among net zero d h = absurd (cc (h))
datagram_among net (suc n) d h = slice_among net n d h

module _ (config : Config) (world : World) (safe : IsSafe config world) where
  delivers_next : (n : ℕ) (fault : Fault) → IsSafeStep config world (dispatch config world (Deliver n) fault).world
  delivers_next n fault = found_next config world safe (datagram_at world.net n)
      (λ d. at_node config (with_mark world n) d.receiver (Received d.message) fault)
      (λ d is.
      let first = marked config world safe n in
      let second = at_node_next config (with_mark world n) first.next.safe d.receiver (Received d.message) fault
      (λ m h. subst (λ (xs : List Kind). IsIn xs m) (sym (marked_messages world.net n))
      (IsIn-join (λ (datagram : Datagram). unbundled datagram.message) world.net d m (datagram_among world.net n d is) h)) in
      record { next = second.next; from = λ are. second.from (first.from are) })

  -- an event that reaches its node, if it has one
  does_next : (event : Event) (fault : Fault) → IsSafeStep config world (dispatch config world event fault).world
  does_next (Ask who request) fault = at_node_next config world safe who (Asked request) fault tt
  does_next (Deliver n) fault = delivers_next n fault
  does_next (Lose n) fault = loses_next config world safe n fault
  does_next (Cut n k) fault = cuts_next config world safe n k fault
  does_next (Noise who bytes) fault = noise_next config world safe who bytes fault
  does_next (Tear who n) fault = tears_next config world safe who n fault
  does_next (Restart who) fault = restarts_next config world safe who fault
  does_next (Compact who) fault = compacts_next config world safe who fault
  does_next event fault = same config world safe

  -- every event
  pub happens_next : (event : Event) (fault : Fault) → IsSafeStep config world (world_step config world event fault).world
  happens_next event NoMemoryBefore = same config world safe
  happens_next event fault = does_next event fault

-- ---- worlds that the cluster can come to

-- no facts at first
nothing_stored : (config : Config) (who : NodeId) (o : Option NodeState) → node_at config (opening config) who ≡ o → facts_of o ≡ []
nothing_stored config who None is = refl
nothing_stored config who (Some node) is = ap (λ (n : NodeState). n.facts) (sym (opening_node config who node is))

none_stored : (config : Config) → facts_by (node_at config (opening config)) ≡ (λ who. [])
none_stored config = λ i who. nothing_stored config who (node_at config (opening config) who) refl i

none_stands : (y : Item TxParts) → ¬ StandsBy (λ who. []) [] y
none_stands (Promised a tx i b) (inl h) = h
none_stands (Promised a tx i b) (inr h) = h.1
none_stands (Accepted a tx i b v) h = h
none_stands (Began l tx b) h = h
none_stands (Voted r tx votes.Prepared) h = h.1
none_stands (Voted r tx votes.Aborted) h = h
none_stands (Committed r tx) h = h
none_stands (StoredAbort r tx) h = h
none_stands (P1b tx i b report a) h = h
none_stands (P2a tx i b v) h = h
none_stands (P2b tx i b v a) h = h
none_stands (Commit tx) h = h
none_stands (Abort tx) h = h

pub opening_is_safe : (config : Config) → IsSafe config (opening config)
opening_is_safe config = record {
  invariant = subst (λ (f : NodeId → List Fact). Invariant (setting config) (StandsBy f [])) (sym (none_stored config))
      (invariant_at_start (setting config) (StandsBy (λ who. []) []) none_stands);
  played = λ who. subst (λ (f : NodeId → List Fact). all_play config who [] (f who) ≡ true) (sym (none_stored config)) refl;
  named = λ m h. absurd h;
  kept = λ l node is. subst (λ (n : NodeState). LeaderInvariant config l n.facts n.memory.leader (IsIn []))
      (opening_node config (L l) node is)
      (kept_at_start config l [] (IsIn []));
  apart = λ rm node is. subst (λ (n : NodeState). AreApart rm n.facts n.memory.branches) (opening_node config (R rm) node is)
      (none_apart rm []);
}

-- every world that the cluster can come to is safe, and each of its datagrams is from the node that it says
pub safe_ever : (config : Config) (world : World) → IsReachable config world → IsSafe config world
safe_ever config _ Opening = opening_is_safe config
safe_ever config _ (After world event fault reached) = (happens_next config world (safe_ever config world reached) event fault).next.safe

pub from_ever : (config : Config) (world : World) → IsReachable config world → AreFrom config world.net
from_ever config _ Opening = λ d h. absurd h
from_ever config _ (After world event fault reached) =
    (happens_next config world (safe_ever config world reached) event fault).from (from_ever config world reached)

-- ---- lists of events

-- a run of events from a world that the cluster can come to ends in one
pub reachable_after : (config : Config) (world : World) → IsReachable config world → (events : List Occurrence)
    → IsReachable config (world_after config world events)
reachable_after config world reached [] = reached
reachable_after config world reached (first ∷ rest) =
    reachable_after config (world_step config world first.event first.fault).world (After world first.event first.fault reached) rest

-- the world after a run and one more event
after_last : (config : Config) (world : World) (events : List Occurrence) (last : Occurrence)
    → world_after config world (events ++ last ∷ []) ≡ (world_step config (world_after config world events) last.event last.fault).world
after_last config world [] last = refl
after_last config world (first ∷ rest) last = after_last config (world_step config world first.event first.fault).world rest last

-- a world that the cluster can come to is the end of a run of events from the opening one
pub run_to : (config : Config) (world : World) → IsReachable config world
    → (events : List Occurrence) × (world_after config (opening config) events ≡ world)
run_to config _ Opening = ([], refl)
run_to config _ (After world event fault reached) =
    let before = run_to config world reached in
    let last : Occurrence = record { event = event; fault = fault } in (
      before.0 ++ last ∷ [],
      after_last config (opening config) before.0 last ∙ ap (λ (w : World). (world_step config w event fault).world) before.1,
    )
