-- The effect of each node's rule is an `IsRuleEffect` in a world that is safe: what `Events` needs of it.
-- Needed by World.Events.
use Rattle.std.proofs.Common.{◌≡◌, ℕ, ◌<◌, true, List, Option, Some, refl, sym, ap, subst}
use Rattle.std.proofs.lemmas.Bool.{cond_both}
use Rattle.wire.specs.declared.message.Kind.{Kind}
use Rattle.protocol.specs.Basics.{Fact}
use Rattle.safety.specs.Vocabulary.{NodeId, A, L, R, Answer}
use Rattle.protocol.specs.Effects.{Config, Effect, answer_only}
use Rattle.protocol.specs.Nodes.{Memory, NodeState, Input, Received, effect_of, on_message, is_message_inside}
use Rattle.protocol.specs.Acceptors.{plays_at_acceptor}
use Rattle.protocol.specs.Facts.{slot}
use Rattle.protocol.specs.PaperItems.{unbundled}
use Rattle.ballot.specs.Greatest.{IsIn}
use Rattle.safety.specs.Standing.{facts_of}
use Rattle.safety.proofs.Facts.{with_fact, messages_of}
use Rattle.safety.proofs.Acceptor.Effects.{acceptor_is_allowed}
use Rattle.safety.proofs.Leader.Effects.{IsTakenSent, leader_effect}
use Rattle.safety.proofs.Leader.Allowed.{leader_is_allowed, backed_by}
use Rattle.safety.proofs.Leader.Invariant.{LeaderInvariant}
use Rattle.protocol.specs.Holds.{AreApart}
use Rattle.protocol.proofs.Manager.Apart.{manager_met, manager_stays_apart}
use Rattle.safety.proofs.Manager.Allowed.{manager_is_allowed}
use Rattle.safety.proofs.World.Outcomes.{IsRuleEffect}
use Rattle.safety.proofs.World.SafeSteps.{facts_by, IsSafeBy}
use Rattle.safety.proofs.World.AllowedEffects.{IsAllowedEffect, nothing_is_allowed}

-- each message of a datagram was sent, where one is handed over
abbrev pub IsFromNet : (sent : List Kind) → Input → Type 0
IsFromNet sent input = IsTakenSent (IsIn sent) input

taken_from : (sent : List Kind) (input : Input) → IsFromNet sent input
    → (m k : Kind) → input ≡ Received m → IsIn (unbundled m) k → IsIn sent k
taken_from sent input came m k e h = let each : IsFromNet sent (Received m) = subst (IsFromNet sent) e came in each k h

-- ---- acceptors

-- an acceptor's effect on the facts
record IsAcceptorEffect (config : Config) (a : ℕ) (facts : NodeId → List Fact) (sent : List Kind) (e : Effect Memory) : Type 0 where
  allowed : IsAllowedEffect config (A a) facts sent e.fact (messages_of e.sends)
  met : (f : Fact) → e.fact ≡ Some f → plays_at_acceptor (slot (facts (A a))) f ≡ true

module _ (config : Config) (a : ℕ) (nodes : NodeId → Option NodeState) (sent : List Kind) (safe : IsSafeBy config nodes sent)
    (memory : Memory) where
  quiet : (reply : Answer) → IsAcceptorEffect config a (facts_by nodes) sent (answer_only memory reply)
  quiet answer = record { allowed = nothing_is_allowed config (A a) (facts_by nodes) sent; met = λ f is. absurd (cc (is)) }

  acceptor_takes : (m : Kind) → ((k : Kind) → IsIn (unbundled m) k → IsIn sent k)
      → IsAcceptorEffect config a (facts_by nodes) sent (on_message config (A a) (facts_by nodes (A a)) memory m)
  acceptor_takes m h =
      let is = acceptor_is_allowed config a (facts_by nodes) sent (safe.played (A a)) m h (λ k at. safe.named k (h k at)) in
      record { allowed = is.allowed; met = is.plays }

  acceptor_effect : (input : Input) → IsFromNet sent input
      → IsAcceptorEffect config a (facts_by nodes) sent (effect_of config (A a) (facts_by nodes (A a)) memory input)
  acceptor_effect (Received m) h =
      cond_both (is_message_inside config m) _ _ (IsAcceptorEffect config a (facts_by nodes) sent)
      (λ inside. acceptor_takes m h) (λ outside. quiet _)
  acceptor_effect other h = quiet _

  acceptor_rule : (input : Input) → IsFromNet sent input
      → IsRuleEffect config (A a) nodes sent (facts_by nodes (A a)) (effect_of config (A a) (facts_by nodes (A a)) memory input)
  acceptor_rule input h =
      let is = acceptor_effect input h in
      record {
        allowed = is.allowed;
        met = is.met;
        leads = λ l now same. absurd (cc (same));
        holds = λ rm same. absurd (cc (same));
      }

-- ---- leaders, resource managers, any node

module _ (config : Config) (nodes : NodeId → Option NodeState) (sent : List Kind) (safe : IsSafeBy config nodes sent) where
  leader_rule : (l : ℕ) (memory : Memory) (input : Input)
      → l < config.leaders → IsFromNet sent input → LeaderInvariant config l (facts_by nodes (L l)) memory.leader (IsIn sent)
      → IsRuleEffect config (L l) nodes sent (facts_by nodes (L l)) (effect_of config (L l) (facts_by nodes (L l)) memory input)
  leader_rule l memory input few came kept =
      let e : Effect Memory = effect_of config (L l) (facts_by nodes (L l)) memory input in
      let is = leader_is_allowed config l (facts_by nodes) sent few safe.invariant safe.named memory input came kept in
      record {
        allowed = is.allowed;
        met = is.plays;
        leads = λ k now same more.
            let own : l ≡ k = cc (same) in
            let step = leader_effect config l (facts_by nodes (L l)) (IsIn sent) (IsIn now) few
            (backed_by config l (facts_by nodes) sent safe.invariant) memory input came kept more in
            subst (λ (n : ℕ). LeaderInvariant config n (with_fact (facts_by nodes (L l)) e.fact) e.memory.leader (IsIn now)) own step.kept;
        holds = λ rm same. absurd (cc (same));
      }

  manager_rule : (rm : ℕ) (memory : Memory) (input : Input)
      → IsFromNet sent input → AreApart rm (facts_by nodes (R rm)) memory.branches
      → IsRuleEffect config (R rm) nodes sent (facts_by nodes (R rm)) (effect_of config (R rm) (facts_by nodes (R rm)) memory input)
  manager_rule rm memory input came apart =
      let e : Effect Memory = effect_of config (R rm) (facts_by nodes (R rm)) memory input in
      let is = manager_stays_apart config rm (facts_by nodes (R rm)) memory input (safe.played (R rm)) apart in
      record {
        allowed = manager_is_allowed config rm (facts_by nodes) sent memory input (safe.played (R rm)) (taken_from sent input came);
        met = manager_met config rm (facts_by nodes (R rm)) memory input apart;
        leads = λ l now same. absurd (cc (same));
        holds = λ n same.
            let own : rm ≡ n = cc (same) in
            subst (λ (k : ℕ). AreApart k (with_fact (facts_by nodes (R rm)) e.fact) e.memory.branches) own is;
      }

  rule_by : (who : NodeId) (node : NodeState) (input : Input)
      → nodes who ≡ Some node → ((l : ℕ) → who ≡ L l → l < config.leaders) → IsFromNet sent input
      → IsRuleEffect config who nodes sent (facts_by nodes who) (effect_of config who (facts_by nodes who) node.memory input)
  rule_by (A a) node input stands few came = acceptor_rule config a nodes sent safe node.memory input came
  rule_by (L l) node input stands few came =
      leader_rule l node.memory input (few l refl) came
      (subst (λ (xs : List Fact). LeaderInvariant config l xs node.memory.leader (IsIn sent)) (sym (ap facts_of stands))
      (safe.kept l node stands))
  rule_by (R rm) node input stands few came =
      manager_rule rm node.memory input came
      (subst (λ (xs : List Fact). AreApart rm xs node.memory.branches) (sym (ap facts_of stands)) (safe.apart rm node stands))

  -- the rule of an input hands over what it must, at whatever node
  pub rule_is : (who : NodeId) (node : NodeState) (input : Input)
      → nodes who ≡ Some node → ((l : ℕ) → who ≡ L l → l < config.leaders) → IsFromNet sent input
      → IsRuleEffect config who nodes sent node.facts (effect_of config who node.facts node.memory input)
  rule_is who node input stands few came =
      subst (λ (xs : List Fact). IsRuleEffect config who nodes sent xs (effect_of config who xs node.memory input)) (ap facts_of stands)
      (rule_by who node input stands few came)
