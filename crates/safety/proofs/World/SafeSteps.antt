-- What holds of a world at each moment of a run, and that it lasts while one node takes a step.
-- Needed by WellFormed.Runs, World.Events, World.NodeRules, World.Outcomes and World.Reachable; crates progress, answers and history.
use Rattle.std.proofs.Common.{◌≡◌, ◌⊎◌, inl, inr, ◌∙◌, ℕ, zero, suc, true, List, [], ◌++◌, Option, Some, None, refl, sym, ap, subst, arith}
use Rattle.std.specs.List.{flat_map}
use Rattle.std.specs.Option.{option_to_list}
use Rattle.std.proofs.lemmas.List.{append-nil}
use Rattle.std.proofs.lemmas.Option.{same_Some}
use Rattle.xid.specs.Transactions.{TxParts, is_participant}
use Rattle.xid.specs.declared.transaction.Vote.{Vote}
use Rattle.wire.specs.declared.message.Kind.{Kind}
use Rattle.wire.specs.declared.message.Kind.TheVariants as kinds
use Rattle.ballot.specs.Ballots.{IsOwned}
use Rattle.protocol.specs.Basics.{Fact}
use Rattle.protocol.specs.declared.states.View.TheVariants as views
use Rattle.safety.specs.Vocabulary.{NodeId, L, R, View}
use Rattle.protocol.specs.Effects.{Config}
use Rattle.protocol.specs.Facts.{view}
use Rattle.protocol.specs.Nodes.{NodeState, plays, all_play}
use Rattle.protocol.specs.PaperItems.{message_items}
use Rattle.protocol.specs.TCommit.{IsCommitStep}
use Rattle.protocol.specs.Worlds.{World, node_at}
use Rattle.safety.specs.Laws as laws
use Rattle.protocol.proofs.Manager.Views.{view_is}
use Rattle.safety.specs.Items.{Item, IsView, IsState}
use Rattle.safety.specs.Invariant.{Invariant}
use Rattle.safety.specs.Senders.{IsFrom}
use Rattle.ballot.specs.Greatest.{IsIn}
use Rattle.safety.specs.Standing.{StandsBy, setting, facts_of, sent_in}
use Rattle.safety.proofs.Argument.Events.{IsAllowedEvent, event_keeps_invariant, event_moves_one_step}
use Rattle.safety.proofs.World.Growth.{items_of, NodeGrowth, IsNodeGrowth, same_node}
use Rattle.protocol.proofs.Lists.{IsIn-append, IsIn-before}
use Rattle.safety.proofs.Leader.Invariant.{LeaderInvariant}
use Rattle.safety.proofs.Leader.Effects.{kept_while}
use Rattle.protocol.specs.Holds.{AreApart}
use Rattle.protocol.proofs.Manager.Played.{all_play_then}
use Rattle.safety.proofs.World.AllowedEffects.{NamesParticipant, IsAllowedEffect, event_of_rule}

-- the facts of nodes
abbrev pub facts_by : (NodeId → Option NodeState) → NodeId → List Fact
facts_by nodes who = facts_of (nodes who)

-- what holds, the nodes being given by their names
pub record IsSafeBy (config : Config) (nodes : NodeId → Option NodeState) (sent : List Kind) : Type 0 where
  -- what stands
  pub invariant : Invariant (setting config) (StandsBy (facts_by nodes) sent)
  -- each fact met its condition when it was stored
  pub played : (who : NodeId) → all_play config who [] (facts_by nodes who) ≡ true
  -- instances are participants'
  pub named : (m : Kind) → IsIn sent m → NamesParticipant m
  -- the memory of each leader is in order, and the branches of each resource manager are apart
  pub kept : (l : ℕ) (node : NodeState) → nodes (L l) ≡ Some node → LeaderInvariant config l node.facts node.memory.leader (IsIn sent)
  pub apart : (rm : ℕ) (node : NodeState) → nodes (R rm) ≡ Some node → AreApart rm node.facts node.memory.branches

abbrev pub IsSafe : Config → World → Type 0
IsSafe config world = IsSafeBy config (node_at config world) (sent_in world)

-- where each resource manager stands in a transaction
abbrev pub views_by : (NodeId → Option NodeState) → TxParts → ℕ → View
views_by nodes tx rm = view (facts_by nodes (R rm)) tx

-- a node before and after it takes a step, with at most one fact more, and the messages that are sent then
pub record NodeChange : Type 0 where
  pub nodes : NodeId → Option NodeState
  pub nodes_after : NodeId → Option NodeState
  pub sent : List Kind
  pub sent_after : List Kind
  pub who : NodeId
  pub node : NodeState
  pub new : NodeState
  pub fact : Option Fact
  pub more : List Kind

-- that node alone has a new state, and those messages alone are sent
pub record IsNodeChange (c : NodeChange) : Type 0 where
  pub was : c.nodes c.who ≡ Some c.node
  pub is : c.nodes_after c.who ≡ Some c.new
  pub others : (n : NodeId) → (n ≡ c.who → ⊥) → c.nodes_after n ≡ c.nodes n
  pub grows : c.new.facts ≡ c.node.facts ++ option_to_list c.fact
  pub messages : c.sent_after ≡ c.sent ++ c.more

-- what is so after an event: the world is safe, and each transaction moved by one step at most
pub record IsSafeStepBy (config : Config) (nodes nodes_after : NodeId → Option NodeState) (sent_after : List Kind) : Type 0 where
  pub safe : IsSafeBy config nodes_after sent_after
  pub step : (tx : TxParts) → IsCommitStep (is_participant tx) (views_by nodes tx) (views_by nodes_after tx)

-- ---- views

view_stands_as : (facts : NodeId → List Fact) (sent : List Kind) (tx : TxParts) (r : ℕ) (v : View) → laws.IsViewOf (facts (R r)) tx v
    → IsView (StandsBy facts sent) tx r v
view_stands_as facts sent tx r views.Working h = h
view_stands_as facts sent tx r views.Prepared h = (h.0, h.1, h.3)
view_stands_as facts sent tx r views.Committed h = h.0
view_stands_as facts sent tx r views.Aborted h = h

-- the views that facts give are those of what stands
pub state_stands : (config : Config) (nodes : NodeId → Option NodeState) (sent : List Kind) (tx : TxParts)
    → IsState (setting config) (StandsBy (facts_by nodes) sent) tx (views_by nodes tx)
state_stands config nodes sent tx r named =
    view_stands_as (facts_by nodes) sent tx r (view (facts_by nodes (R r)) tx) (view_is (facts_by nodes (R r)) tx)

-- ---- facts that play

-- facts that play still do with one more that plays, or with none
pub plays_on : (config : Config) (who : NodeId) (facts : List Fact) (fact : Option Fact) → all_play config who [] facts ≡ true
    → ((f : Fact) → fact ≡ Some f → plays config who facts f ≡ true) → all_play config who [] (facts ++ option_to_list fact) ≡ true
plays_on config who facts None h k = subst (λ (xs : List Fact). all_play config who [] xs ≡ true) (sym (append-nil facts)) h
plays_on config who facts (Some f) h k = all_play_then config who [] facts f h (k f refl)

-- ---- one node takes a step

module _ (config : Config) (who : NodeId) (l : ℕ) (tx : TxParts) (i : ℕ) where
  -- a proposal above ballot 0 comes from the leader that owns the ballot
  owner_sent : (b : ℕ) (v : Vote)
      → IsFrom config who (kinds.P2a tx i b v)
      → IsOwned config.leaders l b → who ≡ L l
  owner_sent zero v from owned = absurd (omega (arith, owned.0))
  owner_sent (suc b) v from owned = from ∙ ap L owned.1

-- a change of a node in a safe world, by an allowed effect of which some messages go out, that leaves its memory in order
pub record IsSafeChange (config : Config) (c : NodeChange) (sends : List Kind) : Type 0 where
  pub safe : IsSafeBy config c.nodes c.sent
  pub changed : IsNodeChange c
  pub allowed : IsAllowedEffect config c.who (facts_by c.nodes) c.sent c.fact sends
  pub some : (m : Kind) → IsIn c.more m → IsIn sends m
  pub met : (f : Fact) → c.fact ≡ Some f → plays config c.who (facts_by c.nodes c.who) f ≡ true
  pub leads : (l : ℕ) → c.who ≡ L l → LeaderInvariant config l c.new.facts c.new.memory.leader (IsIn c.sent_after)
  pub holds : (rm : ℕ) → c.who ≡ R rm → AreApart rm c.new.facts c.new.memory.branches

module _ (config : Config) (c : NodeChange) (sends : List Kind) (is : IsSafeChange config c sends) where
  abbrev growth : NodeGrowth
  growth = record {
    who = c.who;
    fact = c.fact;
    more = c.more;
    before = facts_by c.nodes;
    after = facts_by c.nodes_after;
    sent = c.sent;
    sent_after = c.sent_after;
  }

  grows : IsNodeGrowth growth
  grows = record {
    own =
        ap facts_of is.changed.is ∙ is.changed.grows ∙ ap (λ (xs : List Fact). xs ++ option_to_list c.fact)
        (sym (ap facts_of is.changed.was));
    others = λ n apart. ap facts_of (is.changed.others n apart);
    messages = is.changed.messages;
  }

  abbrev Before : Item TxParts → Type 0
  Before = StandsBy (facts_by c.nodes) c.sent

  abbrev After : Item TxParts → Type 0
  After = StandsBy (facts_by c.nodes_after) c.sent_after

  event : IsAllowedEvent (setting config) Before (items_of c.who c.fact) (flat_map message_items c.more) After
  event = event_of_rule config growth sends is.allowed is.some grows

  message_new : (m : Kind) → IsIn c.sent_after m → IsIn c.sent m ⊎ IsIn c.more m
  message_new m h = IsIn-append c.sent c.more m (subst (λ (xs : List Kind). IsIn xs m) is.changed.messages h)

  message_kept : (m : Kind) → IsIn c.sent m → IsIn c.sent_after m
  message_kept m h = subst (λ (xs : List Kind). IsIn xs m) (sym is.changed.messages) (IsIn-before c.sent c.more m h)

  named_still : (m : Kind) → IsIn c.sent_after m → NamesParticipant m
  named_still m h = elim (message_new m h) [ inl old ↦ is.safe.named m old | inr new ↦ is.allowed.named m (is.some m new) ]

  played_at : (n : NodeId) → (n ≡ c.who) ⊎ (n ≡ c.who → ⊥) → all_play config n [] (facts_by c.nodes_after n) ≡ true
  played_at n (inl e) =
      subst (λ (m : NodeId). all_play config m [] (facts_by c.nodes_after m) ≡ true) (sym e)
      (subst (λ (xs : List Fact). all_play config c.who [] xs ≡ true) (sym grows.own)
      (plays_on config c.who (facts_by c.nodes c.who) c.fact (is.safe.played c.who) is.met))
  played_at n (inr apart) = subst (λ (xs : List Fact). all_play config n [] xs ≡ true) (sym (grows.others n apart)) (is.safe.played n)

  apart_at : (rm : ℕ) (other : NodeState) → c.nodes_after (R rm) ≡ Some other → (R rm ≡ c.who) ⊎ (R rm ≡ c.who → ⊥)
      → AreApart rm other.facts other.memory.branches
  apart_at rm other h (inl e) =
      let same : c.new ≡ other = same_Some c.new other (sym is.changed.is ∙ sym (ap c.nodes_after e) ∙ h) in
      subst (λ (x : NodeState). AreApart rm x.facts x.memory.branches) same (is.holds rm (sym e))
  apart_at rm other h (inr apart) = is.safe.apart rm other (sym (is.changed.others (R rm) apart) ∙ h)

  kept_at : (l : ℕ) (other : NodeState) → c.nodes_after (L l) ≡ Some other → (L l ≡ c.who) ⊎ (L l ≡ c.who → ⊥)
      → LeaderInvariant config l other.facts other.memory.leader (IsIn c.sent_after)
  kept_at l other h (inl e) =
      let same : c.new ≡ other = same_Some c.new other (sym is.changed.is ∙ sym (ap c.nodes_after e) ∙ h) in
      subst (λ (x : NodeState). LeaderInvariant config l x.facts x.memory.leader (IsIn c.sent_after)) same (is.leads l (sym e))
  kept_at l other h (inr apart) =
      kept_while config l other.facts other.memory.leader (IsIn c.sent) (IsIn c.sent_after) message_kept
      (λ tx i b v k owned. elim (message_new (kinds.P2a tx i b v) k) [
        | inl old ↦ old
        | inr fresh ↦ absurd (apart (sym (owner_sent config c.who l tx i b v
            (is.allowed.from (kinds.P2a tx i b v) (is.some (kinds.P2a tx i b v) fresh)) owned)))
      ])
      (is.safe.kept l other (sym (is.changed.others (L l) apart) ∙ h))

  pub next_after_move : IsSafeStepBy config c.nodes c.nodes_after c.sent_after
  next_after_move = record {
    safe = record {
      invariant =
          event_keeps_invariant (setting config) Before After (items_of c.who c.fact)
          (flat_map message_items c.more) is.safe.invariant event;
      played = λ n. played_at n (same_node n c.who);
      named = named_still;
      kept = λ l other h. kept_at l other h (same_node (L l) c.who);
      apart = λ rm other h. apart_at rm other h (same_node (R rm) c.who);
    };
    step = λ tx. event_moves_one_step (setting config) Before After (items_of c.who c.fact)
        (flat_map message_items c.more) is.safe.invariant event tx
        (views_by c.nodes tx) (views_by c.nodes_after tx) (state_stands config c.nodes c.sent tx)
        (state_stands config c.nodes_after c.sent_after tx);
  }

module _ (config : Config) (nodes nodes_after : NodeId → Option NodeState) (sent sent_after : List Kind) where
  -- nothing but marks changes
  pub next_same : IsSafeBy config nodes sent
      → ((n : NodeId) → nodes_after n ≡ nodes n) → sent_after ≡ sent → IsSafeStepBy config nodes nodes_after sent_after
  next_same safe same messages =
      let one : nodes ≡ nodes_after = λ i n. sym (same n) i in
      subst (λ (f : NodeId → Option NodeState). IsSafeStepBy config nodes f sent_after) one
      (subst (λ (xs : List Kind). IsSafeStepBy config nodes nodes xs) (sym messages)
      (record { safe = safe; step = λ tx. inl (λ r named. refl) }))
