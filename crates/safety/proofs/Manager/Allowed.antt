-- What a resource manager stores and sends, as items that may come to stand.
-- Needed by World.NodeRules.
use Rattle.std.proofs.Common.{◌≡◌, ◌⊎◌, ℕ, true, IsTrue, List, [], ◌∷◌, Option, Some, None, unwrap_or, inl, inr, sym, ap, ◌∙◌, subst, arith}
use Rattle.std.proofs.Common.{refl}
use Rattle.std.specs.Prelude.{Contains, IfSome}
use Rattle.xid.specs.Names.{XidParts}
use Rattle.xid.specs.Transactions.{TxParts, is_participant}
use Rattle.xid.specs.declared.transaction.Vote.{Vote}
use Rattle.xid.specs.declared.transaction.Vote.TheVariants as votes
use Rattle.wire.specs.declared.message.Kind.{Kind}
use Rattle.wire.specs.declared.message.Kind.TheVariants as kinds
use Rattle.stable_record.specs.declared.fact.FactKind.TheVariants as stored
use Rattle.protocol.specs.Basics.{Fact}
use Rattle.safety.specs.Vocabulary.{NodeId, R, Outgoing}
use Rattle.protocol.specs.Effects.{Config}
use Rattle.protocol.specs.Managers.{Branch}
use Rattle.protocol.specs.Nodes.{Memory, Input, Received, effect_of, all_play}
use Rattle.protocol.specs.PaperItems.{unbundled, message_items, comes_to}
use Rattle.safety.specs.Items.{Item, Voted, Committed, StoredAbort, P2a, IsAllowed}
use Rattle.safety.specs.Senders.{IsFrom}
use Rattle.ballot.specs.Greatest.{IsIn}
use Rattle.safety.specs.Standing.{StandsBy, HasVote, setting}
use Rattle.safety.proofs.Argument.Additions.{AreAllowed, Contains-one, Contains-head}
use Rattle.safety.proofs.Argument.Events.{with_items}
use Rattle.safety.proofs.Facts.{with_fact, messages_of}
use Rattle.protocol.proofs.Lists.{IsIn-push, IsIn-joined, only_one}
use Rattle.safety.proofs.World.Growth.{items_of}
use Rattle.safety.proofs.World.AllowedEffects.{NamesParticipant, IsAllowedEffect}
use Rattle.protocol.proofs.Manager.Views.{vote_in_stands, unvoted, unended, prepared_shows}
use Rattle.protocol.proofs.Manager.Played.{voted_named}
use Rattle.protocol.proofs.Manager.Effects.{MayVoteFirst, IsManagerFact, IsManagerSend, IsManagerRule, name_names, manager_effect_is}

-- ---- as items

-- a vote that is stored afterwards was stored, or is the fact
voted_after : (rm : ℕ) (facts : List Fact) (o : Option Fact) (tx : TxParts) (v : Vote) → HasVote (with_fact facts o) tx v
    → HasVote facts tx v ⊎ Contains (items_of (R rm) o) (Voted rm tx v)
voted_after rm facts None tx v h = inl h
voted_after rm facts (Some fact) tx votes.Prepared h = elim (IsIn-push facts fact (stored.VotePrepared tx h.0) h.1) [
  | inl old ↦ inl (h.0, old)
  | inr e ↦ inr (subst (λ (f : Fact). Contains (comes_to (R rm) f) (Voted rm tx votes.Prepared)) (sym e)
      (Contains-head (Voted rm tx votes.Prepared) []))
]
voted_after rm facts (Some fact) tx votes.Aborted h = elim (IsIn-push facts fact (stored.VoteAborted tx) h) [
  | inl old ↦ inl old
  | inr e ↦ inr (subst (λ (f : Fact). Contains (comes_to (R rm) f) (Voted rm tx votes.Aborted)) (sym e)
      (Contains-head (Voted rm tx votes.Aborted) []))
]

module _ (config : Config) (rm : ℕ) (facts : NodeId → List Fact) (sent : List Kind) (branches : List Branch) (input : Input)
    (play : all_play config (R rm) [] (facts (R rm)) ≡ true)
    (came : (m k : Kind) → input ≡ Received m → IsIn (unbundled m) k → IsIn sent k) where
  abbrev Has : Item TxParts → Type 0
  Has = StandsBy facts sent

  first_allowed : (tx : TxParts) (v : Vote) → ((x : XidParts) × MayVoteFirst rm (facts (R rm)) tx x)
      → IsAllowed (setting config) Has (Voted rm tx v)
  first_allowed tx v first =
      let free = unended (facts (R rm)) tx first.1.unended in
      record {
        named = name_names tx rm first.0 first.1.name;
        unvoted = λ {v = w} h. unvoted (facts (R rm)) tx first.1.new w h;
        uncommitted = free.uncommitted;
        undropped = free.undropped;
      }

  fact_allowed : (o : Option Fact) → IfSome o (IsManagerFact rm (facts (R rm)) branches input)
      → AreAllowed (setting config) Has (items_of (R rm) o)
  fact_allowed None h = tt
  fact_allowed (Some (stored.VotePrepared tx keys)) h = (first_allowed tx votes.Prepared (h.0, h.1.first), tt)
  fact_allowed (Some (stored.VoteAborted tx)) h = (first_allowed tx votes.Aborted h, tt)
  fact_allowed (Some (stored.Committed tx)) h = (
    (
      came (kinds.Commit tx) (kinds.Commit tx) h.came (inl refl),
      (prepared_shows (facts
          (R rm)) tx h.prepared).0,
    ),
    tt,
  )
  fact_allowed (Some (stored.Aborted tx)) h = (came (kinds.Abort tx) (kinds.Abort tx) h.1.came (inl refl), tt)
  fact_allowed (Some (stored.Promise tx i b)) h = absurd h
  fact_allowed (Some (stored.Accept tx i b v)) h = absurd h
  fact_allowed (Some (stored.Ballot tx b)) h = absurd h
  fact_allowed (Some (stored.PromiseAll tx b)) h = absurd h

  one_allowed : (x y : Item TxParts) → Contains (x ∷ []) y → IsAllowed (setting config) Has x → IsAllowed (setting config) Has y
  one_allowed x y h ok = subst (IsAllowed (setting config) Has) (Contains-one x y h) ok

  -- the item of a fact
  item_allowed : (o : Option Fact) → AreAllowed (setting config) Has (items_of (R rm) o) → (y : Item TxParts)
      → Contains (items_of (R rm) o) y
      → IsAllowed (setting config) Has y
  item_allowed None ok y h = absurd (omega (arith, h.1))
  item_allowed (Some (stored.VotePrepared tx keys)) ok y h = one_allowed (Voted rm tx votes.Prepared) y h ok.0
  item_allowed (Some (stored.VoteAborted tx)) ok y h = one_allowed (Voted rm tx votes.Aborted) y h ok.0
  item_allowed (Some (stored.Committed tx)) ok y h = one_allowed (Committed rm tx) y h ok.0
  item_allowed (Some (stored.Aborted tx)) ok y h = one_allowed (StoredAbort rm tx) y h ok.0
  item_allowed (Some fact) ok y h = absurd (omega (arith, h.1))

  module _ (o : Option Fact) (sends : List Outgoing) (right : IsManagerRule rm (facts (R rm)) branches input o sends) where
    abbrev items : List (Item TxParts)
    items = items_of (R rm) o

    items_allowed : AreAllowed (setting config) Has items
    items_allowed = fact_allowed o right.fact_is

    -- no resource manager sends a bundle
    not_bundled : (x : Kind) → IsManagerSend rm (with_fact (facts (R rm)) o) x → (m : Kind) → IsIn (unbundled x) m
        → IsManagerSend rm (with_fact (facts (R rm)) o) m
    not_bundled (kinds.P2a tx i b v) is m h = only_one (IsManagerSend rm (with_fact (facts (R rm)) o)) (kinds.P2a tx i b v) is m h
    not_bundled (kinds.Ask tx r) is m h = only_one (IsManagerSend rm (with_fact (facts (R rm)) o)) (kinds.Ask tx r) is m h
    not_bundled x is m h = absurd is

    -- a message of these
    sent_one : (m : Kind) → IsIn (messages_of sends) m → IsManagerSend rm (with_fact (facts (R rm)) o) m
    sent_one m h =
        let from = IsIn-joined (λ (send : Outgoing). unbundled send.message) sends m h in
        not_bundled from.source.message (right.sends_are from.source from.among) m from.inside

    send_allowed : (m : Kind) → IsManagerSend rm (with_fact (facts (R rm)) o) m → (y : Item TxParts) → IsIn (message_items m) y
        → IsAllowed (setting config) (with_items Has items) y
    send_allowed (kinds.P2a tx i b v) is y (inl e) =
        subst (IsAllowed (setting config) (with_items Has items)) e
        (subst (λ (n : ℕ). IsAllowed (setting config) (with_items Has items) (P2a tx i n v)) (sym is.first)
        (subst (λ (n : ℕ). with_items Has items (Voted n tx v)) (sym is.own)
        (voted_after rm (facts (R rm)) o tx v (vote_in_stands (with_fact (facts (R rm)) o) tx v is.vote))))
    send_allowed (kinds.P2a tx i b v) is y (inr none) = absurd none
    send_allowed (kinds.Ask tx r) is y h = absurd h
    send_allowed m is y h = absurd is

    item_named : (tx : TxParts) (v : Vote) → Contains items (Voted rm tx v) → IsTrue (is_participant tx rm)
    item_named tx v h = (item_allowed o items_allowed (Voted rm tx v) h).named

    send_named : (m : Kind) → IsManagerSend rm (with_fact (facts (R rm)) o) m → NamesParticipant m
    send_named (kinds.P2a tx i b v) is =
        subst (λ (n : ℕ). IsTrue (is_participant tx n)) (sym is.own)
        (elim (voted_after rm (facts (R rm)) o tx v (vote_in_stands (with_fact (facts (R rm)) o) tx v is.vote)) [
          | inl old ↦ voted_named config rm (facts (R rm)) play tx v old
          | inr new ↦ item_named tx v new
        ])
    send_named (kinds.Ask tx r) is = tt
    send_named m is = absurd is

    send_from : (m : Kind) → IsManagerSend rm (with_fact (facts (R rm)) o) m → IsFrom config (R rm) m
    send_from (kinds.P2a tx i b v) is =
        subst (λ (n : ℕ). IsFrom config (R rm) (kinds.P2a tx i n v)) (sym is.first) (ap R (sym is.own))
    send_from (kinds.Ask tx r) is = ap R (sym is)
    send_from m is = absurd is

    send_agrees : (tx : TxParts) (i b : ℕ) (v w : Vote) → IsManagerSend rm (with_fact (facts (R rm)) o) (kinds.P2a tx i b v)
        → IsManagerSend rm (with_fact (facts (R rm)) o) (kinds.P2a tx i b w) → v ≡ w
    send_agrees tx i b v w is also = ap (λ (q : Option Vote). unwrap_or q v) (sym is.vote ∙ also.vote)

    rule_is_allowed : IsAllowedEffect config (R rm) facts sent o (messages_of sends)
    rule_is_allowed = record {
      fact_allowed = items_allowed;
      sends_allowed = λ m h y k. send_allowed m (sent_one m h) y k;
      agree = λ tx i b v w h k. send_agrees tx i b v w (sent_one (kinds.P2a tx i b v) h) (sent_one (kinds.P2a tx i b w) k);
      named = λ m h. send_named m (sent_one m h);
      from = λ m h. send_from m (sent_one m h);
    }

module _ (config : Config) (rm : ℕ) (facts : NodeId → List Fact) (sent : List Kind) where
  -- whatever a resource manager is handed: what it stores and sends may come to stand
  pub manager_is_allowed : (memory : Memory) (input : Input)
      → all_play config (R rm) [] (facts (R rm)) ≡ true → ((m k : Kind) → input ≡ Received m → IsIn (unbundled m) k → IsIn sent k)
      → IsAllowedEffect config (R rm) facts sent (effect_of config (R rm) (facts (R rm)) memory input).fact
      (messages_of (effect_of config (R rm) (facts (R rm)) memory input).sends)
  manager_is_allowed memory input play came =
      rule_is_allowed config rm facts sent memory.branches input play came (effect_of config (R rm) (facts (R rm)) memory input).fact
      (effect_of config (R rm) (facts (R rm)) memory input).sends (manager_effect_is config rm (facts (R rm)) memory input)
