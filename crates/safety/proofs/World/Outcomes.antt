-- One input at one node, whatever its fate: what its rule hands over makes the world's next moment.
-- Needed by 5 files here; 5 crates above.
use Rattle.std.proofs.Common.{◌≡◌, ◌⊎◌, inl, inr, ◌∙◌, ℕ, Bool, true, false, not, List, [], ◌∷◌, ◌++◌, append_assoc}
use Rattle.std.proofs.Common.{Option, Some, None, refl, sym, ap, subst, nat_le}
use Rattle.std.specs.List.{flat_map}
use Rattle.std.specs.Option.{option_to_list}
use Rattle.std.proofs.lemmas.Bool.{cond_both}
use Rattle.std.proofs.lemmas.List.{append-nil}
use Rattle.wire.specs.declared.message.Kind.{Kind}
use Rattle.wire.specs.Messages as messages
use Rattle.protocol.specs.Basics.{Fact}
use Rattle.safety.specs.Vocabulary.{NodeId, L, R, Outgoing, Answer}
use Rattle.protocol.specs.Effects.{Config, Effect, receivers}
use Rattle.stable_record.specs.Frames.{frame_length}
use Rattle.protocol.specs.Nodes.{Memory, empty_memory, NodeState, Input, Fault, RecordFails, NoMemoryAt, Outcome, accepts_input, effect_of}
use Rattle.protocol.specs.Nodes.{answer_outcome, stopped_append, finished_append, effect_outcome, down_answer, node_step, plays}
use Rattle.protocol.specs.PaperItems.{unbundled}
use Rattle.protocol.specs.Worlds.{World, Datagram, node_at, datagrams_of, outcome_result}
use Rattle.safety.specs.Senders.{IsFrom, AreFrom}
use Rattle.ballot.specs.Greatest.{IsIn}
use Rattle.safety.specs.Standing.{sent_in}
use Rattle.safety.proofs.Facts.{with_fact, with_fact_is, messages_of}
use Rattle.safety.proofs.Leader.Effects.{kept_at_start}
use Rattle.safety.proofs.Leader.Invariant.{LeaderInvariant, IsSentBy, IsSentExtension}
use Rattle.protocol.proofs.Lists.{IsIn-mapped, IsIn-join, IsIn-joined, IsIn-append, IsIn-before}
use Rattle.protocol.specs.Holds.{AreApart}
use Rattle.protocol.proofs.Manager.Apart.{none_apart}
use Rattle.safety.proofs.World.NodePlaces.{node_there, node_elsewhere}
use Rattle.safety.proofs.World.SafeSteps.{facts_by, IsSafe, NodeChange, IsNodeChange, IsSafeStepBy, next_after_move}
use Rattle.safety.proofs.World.AllowedEffects.{IsAllowedEffect, nothing_is_allowed}

-- ---- what an event leaves of a node

-- the facts stay, and nothing is sent; the memory stays or is lost
pub record KeepsFacts (node : NodeState) (left : Outcome) : Type 0 where
  pub facts : left.node.facts ≡ node.facts
  pub silent : left.sends ≡ []
  pub memory : (left.node.memory ≡ node.memory) ⊎ (left.node.memory ≡ empty_memory)

-- the fact is whole in the record, and nothing is sent
pub record IsStoppedAppend (node : NodeState) (e : Effect Memory) (left : Outcome) : Type 0 where
  pub facts : left.node.facts ≡ node.facts ++ option_to_list e.fact
  pub silent : left.sends ≡ []
  pub memory : left.node.memory ≡ empty_memory

-- the effect is done
pub record IsFinishedAppend (node : NodeState) (e : Effect Memory) (left : Outcome) : Type 0 where
  pub facts : left.node.facts ≡ node.facts ++ option_to_list e.fact
  pub sends : left.sends ≡ e.sends
  pub memory : left.node.memory ≡ e.memory

abbrev pub IsPossibleOutcome : NodeState → Effect Memory → Outcome → Type 0
IsPossibleOutcome node e left = KeepsFacts node left ⊎ (IsStoppedAppend node e left ⊎ IsFinishedAppend node e left)

stopped_is : (node : NodeState) (e : Effect Memory) (fact : Fact) (whole : Bool) → e.fact ≡ Some fact
    → IsPossibleOutcome node e (stopped_append node fact whole)
stopped_is node e fact true is =
    inr (inl (record { facts = ap (λ (o : Option Fact). node.facts ++ option_to_list o) (sym is); silent = refl; memory = refl }))
stopped_is node e fact false is = inl (record { facts = refl; silent = refl; memory = inr refl })

none_followed : (node : NodeState) (e : Effect Memory) → e.fact ≡ None → IsPossibleOutcome node e (finished_append node e node.facts)
none_followed node e is = inr (inr (record {
  facts = sym (append-nil node.facts) ∙ ap (λ (o : Option Fact). node.facts ++ option_to_list o) (sym is);
  sends = refl;
  memory = refl;
}))

some_followed : (node : NodeState) (e : Effect Memory) (fact : Fact) → e.fact ≡ Some fact
    → IsPossibleOutcome node e (finished_append node e (node.facts ++ fact ∷ []))
some_followed node e fact is = inr (inr (record {
  facts = ap (λ (o : Option Fact). node.facts ++ option_to_list o) (sym is);
  sends = refl;
  memory = refl;
}))

settled_is : (node : NodeState) (e : Effect Memory) (fact : Option Fact) (tear : Option ℕ) (fault : Fault) → e.fact ≡ fact
    → IsPossibleOutcome node e (effect_outcome node e fact tear fault)
settled_is node e None tear NoMemoryAt is = inl (record { facts = refl; silent = refl; memory = inr refl })
settled_is node e (Some fact) tear NoMemoryAt is = inl (record { facts = refl; silent = refl; memory = inr refl })
settled_is node e None tear fault is = none_followed node e is
settled_is node e (Some fact) (Some n) fault is = stopped_is node e fact (nat_le (frame_length fact) n) is
settled_is node e (Some fact) None (RecordFails whole) is = stopped_is node e fact whole is
settled_is node e (Some fact) None fault is = some_followed node e fact is

unchanged_is : (node : NodeState) (e : Effect Memory) (reply : Answer) → IsPossibleOutcome node e (answer_outcome node reply)
unchanged_is node e answer = inl (record { facts = refl; silent = refl; memory = inl refl })

pub step_is : (config : Config) (who : NodeId) (node : NodeState) (input : Input) (fault : Fault)
    → IsPossibleOutcome node (effect_of config who node.facts node.memory input) (node_step config who node input fault)
step_is config who node input fault =
    let e = effect_of config who node.facts node.memory input in
    cond_both (not (accepts_input who input)) _ _ (IsPossibleOutcome node e)
    (λ other. unchanged_is node e _)
    (λ taken. cond_both (not node.up) _ _ (IsPossibleOutcome node e)
    (λ down. unchanged_is node e (down_answer input))
    (λ up. settled_is node e e.fact node.tear fault refl))

-- ---- in the world

-- the paper's messages that datagrams stand for
abbrev net_messages : List Datagram → List Kind
net_messages net = flat_map (λ datagram. unbundled datagram.message) net

-- each of those of the datagrams that are sent is a send's
posted_message : (config : Config) (who : NodeId) (sends : List Outgoing) (m : Kind)
    → IsIn (net_messages (flat_map (datagrams_of config who) sends)) m → IsSentBy sends m
posted_message config who sends m h =
    let one = IsIn-joined (λ (d : Datagram). unbundled d.message) (flat_map (datagrams_of config who) sends) m h in
    let from = IsIn-joined (datagrams_of config who) sends one.source one.among in
    let to = IsIn-mapped (λ (receiver : NodeId). record
    { sender = who; receiver = receiver; message = from.source.message; marked = false })
    (receivers config from.source.to (messages.message_tx from.source.message)) one.source from.inside in
    (from.source, from.among, subst (λ (d : Datagram). IsIn (unbundled d.message) m) (sym to.maps) one.inside)

sent_message : (sends : List Outgoing) (m : Kind) → IsSentBy sends m → IsIn (messages_of sends) m
sent_message sends m h = IsIn-join (λ (s : Outgoing). unbundled s.message) sends h.0 m h.1 h.2

net-append : (xs ys : List Datagram) → net_messages (xs ++ ys) ≡ net_messages xs ++ net_messages ys
net-append [] ys = refl
net-append (x ∷ xs) ys =
    ap (λ (rest : List Kind). unbundled x.message ++ rest) (net-append xs ys)
    ∙ sym (append_assoc (unbundled x.message) (net_messages xs) (net_messages ys))

-- what the rule of an input hands over, by the facts of the node
pub record IsRuleEffect (config : Config) (who : NodeId) (nodes : NodeId → Option NodeState) (sent : List Kind) (facts : List Fact)
    (e : Effect Memory) : Type 0 where
  pub allowed : IsAllowedEffect config who (facts_by nodes) sent e.fact (messages_of e.sends)
  pub met : (f : Fact) → e.fact ≡ Some f → plays config who (facts_by nodes who) f ≡ true
  pub leads : (l : ℕ) (now : List Kind) → who ≡ L l → IsSentExtension (IsIn sent) e.sends (IsIn now)
      → LeaderInvariant config l (with_fact facts e.fact) e.memory.leader (IsIn now)
  pub holds : (rm : ℕ) → who ≡ R rm → AreApart rm (with_fact facts e.fact) e.memory.branches

module _ (config : Config) (world : World) (who : NodeId) (node : NodeState) (left : Outcome) (safe : IsSafe config world)
    (stands : node_at config world who ≡ Some node) where
  abbrev after : World
  after = (outcome_result config world who node.facts left).world

  abbrev more : List Kind
  more = net_messages (flat_map (datagrams_of config who) left.sends)

  abbrev change : Option Fact → NodeChange
  change fact = record {
    nodes = node_at config world;
    nodes_after = node_at config after;
    sent = sent_in world;
    sent_after = sent_in after;
    who = who;
    node = node;
    new = left.node;
    fact = fact;
    more = more;
  }

  changed : (fact : Option Fact) → left.node.facts ≡ node.facts ++ option_to_list fact → IsNodeChange (change fact)
  changed fact facts = record {
    was = stands;
    is = node_there config world who node left.node stands;
    others = λ n apart. node_elsewhere config world who n left.node apart;
    grows = facts;
    messages = net-append world.net (flat_map (datagrams_of config who) left.sends);
  }

  none_sent : left.sends ≡ [] → (m : Kind) → IsIn more m → IsIn [] m
  none_sent silent m h =
      let by = posted_message config who left.sends m h in
      absurd (subst (λ (sends : List Outgoing). IsIn sends by.0) silent by.1)

  silent_messages : left.sends ≡ [] → sent_in after ≡ sent_in world
  silent_messages silent =
      net-append world.net (flat_map (datagrams_of config who) left.sends)
      ∙ ap (λ (sends : List Outgoing). sent_in world ++ net_messages (flat_map (datagrams_of config who) sends)) silent
      ∙ append-nil (sent_in world)

  lost : (l : ℕ) → left.node.memory ≡ empty_memory → LeaderInvariant config l left.node.facts left.node.memory.leader
      (IsIn (sent_in after))
  lost l memory =
      subst (λ (m : Memory). LeaderInvariant config l left.node.facts m.leader (IsIn (sent_in after))) (sym memory)
      (kept_at_start config l left.node.facts (IsIn (sent_in after)))

  dropped : (rm : ℕ) → left.node.memory ≡ empty_memory → AreApart rm left.node.facts left.node.memory.branches
  dropped rm memory =
      subst (λ (m : Memory). AreApart rm left.node.facts m.branches) (sym memory) (none_apart rm left.node.facts)

  still_holds : KeepsFacts node left → (rm : ℕ) → who ≡ R rm → AreApart rm left.node.facts left.node.memory.branches
  still_holds still rm e = elim still.memory [
    | inl same ↦
        subst (λ (m : Memory). AreApart rm left.node.facts m.branches) (sym same)
        (subst (λ (xs : List Fact). AreApart rm xs node.memory.branches) (sym still.facts)
        (safe.apart rm node (subst (λ (n : NodeId). node_at config world n ≡ Some node) e stands)))
    | inr gone ↦ dropped rm gone
  ]

  still_leads : KeepsFacts node left → (l : ℕ) → who ≡ L l → LeaderInvariant config l left.node.facts left.node.memory.leader
      (IsIn (sent_in after))
  still_leads still l e = elim still.memory [
    | inl same ↦
        subst (λ (m : Memory). LeaderInvariant config l left.node.facts m.leader (IsIn (sent_in after))) (sym same)
        (subst (λ (xs : List Fact). LeaderInvariant config l xs node.memory.leader (IsIn (sent_in after))) (sym still.facts)
        (subst (λ (xs : List Kind). LeaderInvariant config l node.facts node.memory.leader (IsIn xs)) (sym (silent_messages still.silent))
        (safe.kept l node (subst (λ (n : NodeId). node_at config world n ≡ Some node) e stands))))
    | inr gone ↦ lost l gone
  ]

  -- a node of which nothing but up, tear and memory changes
  pub next_still : KeepsFacts node left → IsSafeStepBy config (node_at config world) (node_at config after) (sent_in after)
  next_still still =
      next_after_move config (change None) [] (record {
        safe = safe;
        changed = changed None (still.facts ∙ sym (append-nil node.facts));
        allowed = nothing_is_allowed config who (facts_by (node_at config world)) (sent_in world);
        some = none_sent still.silent;
        met = λ f is. absurd (cc (is));
        leads = still_leads still;
        holds = still_holds still;
      })

  module _ (e : Effect Memory) (rule : IsRuleEffect config who (node_at config world) (sent_in world) node.facts e) where
    next_torn : IsStoppedAppend node e left → IsSafeStepBy config (node_at config world) (node_at config after) (sent_in after)
    next_torn torn =
        next_after_move config (change e.fact) (messages_of e.sends) (record {
          safe = safe;
          changed = changed e.fact torn.facts;
          allowed = rule.allowed;
          some = λ m h. absurd (none_sent torn.silent m h);
          met = rule.met;
          leads = λ l is. lost l torn.memory;
          holds = λ rm is. dropped rm torn.memory;
        })

    done_sent : IsFinishedAppend node e left → (m : Kind) → IsIn more m → IsSentBy e.sends m
    done_sent done m h = subst (λ (sends : List Outgoing). IsSentBy sends m) done.sends (posted_message config who left.sends m h)

    done_more : IsFinishedAppend node e left → IsSentExtension (IsIn (sent_in world)) e.sends (IsIn (sent_in after))
    done_more done = record {
      kept = λ m h. subst (λ (xs : List Kind). IsIn xs m) (sym (net-append world.net (flat_map (datagrams_of config who) left.sends)))
          (IsIn-before (sent_in world) more m h);
      only = λ m h. elim (IsIn-append (sent_in world) more m
          (subst (λ (xs : List Kind). IsIn xs m) (net-append world.net (flat_map (datagrams_of config who) left.sends)) h)) [
            | inl old ↦ inl old
            | inr new ↦ inr (done_sent done m new)
          ];
    }

    next_done : IsFinishedAppend node e left → IsSafeStepBy config (node_at config world) (node_at config after) (sent_in after)
    next_done done =
        next_after_move config (change e.fact) (messages_of e.sends) (record {
          safe = safe;
          changed = changed e.fact done.facts;
          allowed = rule.allowed;
          some = λ m h. sent_message e.sends m (done_sent done m h);
          met = rule.met;
          leads = λ l is.
              subst (λ (m : Memory). LeaderInvariant config l left.node.facts m.leader (IsIn (sent_in after))) (sym done.memory)
              (subst (λ (xs : List Fact). LeaderInvariant config l xs e.memory.leader (IsIn (sent_in after)))
              (with_fact_is node.facts e.fact ∙ sym done.facts)
              (rule.leads l (sent_in after) is (done_more done)));
          holds = λ rm is.
              subst (λ (m : Memory). AreApart rm left.node.facts m.branches) (sym done.memory)
              (subst (λ (xs : List Fact). AreApart rm xs e.memory.branches) (with_fact_is node.facts e.fact ∙ sym done.facts)
              (rule.holds rm is));
        })

    pub next_left : IsPossibleOutcome node e left → IsSafeStepBy config (node_at config world) (node_at config after) (sent_in after)
    next_left h = elim h [
      | inl still ↦ next_still still
      | inr more_happened ↦ elim more_happened [ inl torn ↦ next_torn torn | inr done ↦ next_done done ]
    ]

module _ (config : Config) (world : World) (who : NodeId) (node : NodeState) (input : Input) (fault : Fault) where
  -- an input at a node of which the rule hands over what it must
  pub next_step : IsSafe config world
      → node_at config world who ≡ Some node
      → IsRuleEffect config who (node_at config world) (sent_in world) node.facts (effect_of config who node.facts node.memory input)
      → IsSafeStepBy config (node_at config world) (node_at config
      (outcome_result config world who node.facts (node_step config who node input fault)).world)
      (sent_in (outcome_result config world who node.facts (node_step config who node input fault)).world)
  next_step safe stands rule =
      next_left config world who node (node_step config who node input fault) safe stands
      (effect_of config who node.facts node.memory input) rule
      (step_is config who node input fault)

-- ---- senders

-- a datagram that is sent is a send of its sender
record IsPosted (who : NodeId) (sends : List Outgoing) (d : Datagram) : Type 0 where
  messages : (m : Kind) → IsIn (unbundled d.message) m → IsIn (messages_of sends) m
  sender : who ≡ d.sender

posted_is : (config : Config) (who : NodeId) (sends : List Outgoing) (d : Datagram) → IsIn (flat_map (datagrams_of config who) sends) d
    → IsPosted who sends d
posted_is config who sends d h =
    let from = IsIn-joined (datagrams_of config who) sends d h in
    let to = IsIn-mapped (λ (receiver : NodeId). record
    { sender = who; receiver = receiver; message = from.source.message; marked = false })
    (receivers config from.source.to (messages.message_tx from.source.message)) d from.inside in
    record {
      messages = λ m k. IsIn-join (λ (s : Outgoing). unbundled s.message) sends from.source m from.among
          (subst (λ (x : Datagram). IsIn (unbundled x.message) m) (sym to.maps) k);
      sender = ap (λ (x : Datagram). x.sender) to.maps;
    }

module _ (config : Config) (who : NodeId) (node : NodeState) (e : Effect Memory) (left : Outcome) where
  -- what an outcome sends is from its node
  left_from : ((m : Kind) → IsIn (messages_of e.sends) m → IsFrom config who m)
      → IsPossibleOutcome node e left → (m : Kind) → IsIn (messages_of left.sends) m → IsFrom config who m
  left_from from (inl still) m h =
      absurd (subst (λ (sends : List Outgoing). IsIn (messages_of sends) m) still.silent h)
  left_from from (inr (inl torn)) m h =
      absurd (subst (λ (sends : List Outgoing). IsIn (messages_of sends) m) torn.silent h)
  left_from from (inr (inr done)) m h =
      from m (subst (λ (sends : List Outgoing). IsIn (messages_of sends) m) done.sends h)

pub joined_from : (config : Config) (world : World) (who : NodeId) (facts : List Fact) (left : Outcome) → AreFrom config world.net
    → ((m : Kind) → IsIn (messages_of left.sends) m → IsFrom config who m)
    → AreFrom config (outcome_result config world who facts left).world.net
joined_from config world who facts left are from d h m k = elim (IsIn-append world.net (flat_map
    (datagrams_of config who) left.sends) d h) [
      | inl old ↦ are d old m k
      | inr new ↦
          let is = posted_is config who left.sends d new in
          subst (λ (n : NodeId). IsFrom config n m) is.sender (from m (is.messages m k))
    ]

module _ (config : Config) (world : World) (who : NodeId) (node : NodeState) (input : Input) (fault : Fault) where
  pub step_from : IsRuleEffect config who (node_at config world) (sent_in world) node.facts
      (effect_of config who node.facts node.memory input)
      → AreFrom config world.net
      → AreFrom config (outcome_result config world who node.facts (node_step config who node input fault)).world.net
  step_from rule are =
      joined_from config world who node.facts (node_step config who node input fault) are
      (left_from config who node (effect_of config who node.facts node.memory input)
      (node_step config who node input fault) rule.allowed.from
      (step_is config who node input fault))
