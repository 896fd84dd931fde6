-- What a rule of a node hands over, and that it makes an event.
-- Needed by Acceptor.Effects, Leader.Allowed, Manager.Allowed, World.NodeRules, World.Outcomes and World.SafeSteps.
use Rattle.std.proofs.Common.{◌≡◌, ℕ, IsTrue, List, [], Option, Some, None, refl, subst, arith}
use Rattle.std.specs.Prelude.{Contains, ◌∷◌, map}
use Rattle.std.specs.List.{flat_map}
use Rattle.xid.specs.Transactions.{TxParts, participants, is_participant}
use Rattle.xid.specs.declared.transaction.Vote.{Vote}
use Rattle.wire.specs.declared.message.Kind.{Kind}
use Rattle.wire.specs.declared.message.Kind.TheVariants as kinds
use Rattle.stable_record.specs.declared.fact.FactKind.TheVariants as stored
use Rattle.protocol.specs.Basics.{Fact}
use Rattle.safety.specs.Vocabulary.{NodeId, A, L, R}
use Rattle.protocol.specs.Effects.{Config}
use Rattle.protocol.specs.PaperItems.{message_items}
use Rattle.safety.specs.Items.{Item, Promised, Accepted, Began, Voted, Committed, StoredAbort, P1b, P2a, P2b, Commit, Abort}
use Rattle.safety.specs.Items.{IsAllowed, manager_of}
use Rattle.safety.specs.Senders.{IsFrom}
use Rattle.ballot.specs.Greatest.{IsIn}
use Rattle.safety.specs.Standing.{StandsBy, setting}
use Rattle.safety.proofs.Argument.Additions.{AreAllowed, ChangeNoViewAfterFirst}
use Rattle.safety.proofs.Argument.Events.{IsAllowedEvent, IsMessageItem, with_items}
use Rattle.protocol.proofs.Lists.{IsIn-joined, IsIn-contains, IsIn-mapped, only_one}
use Rattle.safety.proofs.World.Growth.{items_of, NodeGrowth, IsNodeGrowth, grown_by}

-- a message on an instance is on a participant's
abbrev pub NamesParticipant : Kind → Type 0
NamesParticipant (kinds.P1a tx i b) = IsTrue (is_participant tx i)
NamesParticipant (kinds.P1b tx i b report a) = IsTrue (is_participant tx i)
NamesParticipant (kinds.P2a tx i b v) = IsTrue (is_participant tx i)
NamesParticipant (kinds.P2b tx i b v a) = IsTrue (is_participant tx i)
NamesParticipant message = Unit {0}

-- the fact may be stored, and then each message sent
pub record IsAllowedEffect (config : Config) (who : NodeId) (facts : NodeId → List Fact) (sent : List Kind) (fact : Option Fact)
    (sends : List Kind) : Type 0 where
  pub fact_allowed : AreAllowed (setting config) (StandsBy facts sent) (items_of who fact)
  pub sends_allowed : (m : Kind) → IsIn sends m → (y : Item TxParts) → IsIn (message_items m) y
      → IsAllowed (setting config) (with_items (StandsBy facts sent) (items_of who fact)) y
  pub agree : (tx : TxParts) (i b : ℕ) (v w : Vote) → IsIn sends (kinds.P2a tx i b v) → IsIn sends (kinds.P2a tx i b w) → v ≡ w
  pub named : (m : Kind) → IsIn sends m → NamesParticipant m
  pub from : (m : Kind) → IsIn sends m → IsFrom config who m

-- nothing stored, nothing sent
pub nothing_is_allowed : (config : Config) (who : NodeId) (facts : NodeId → List Fact) (sent : List Kind)
    → IsAllowedEffect config who facts sent None []
nothing_is_allowed config who facts sent = record {
  fact_allowed = tt;
  sends_allowed = λ m h. absurd h;
  agree = λ tx i b v w h k. absurd h;
  named = λ m h. absurd h;
  from = λ m h. absurd h;
}

-- promises change no view
quiet_promises : (a : ℕ) (tx : TxParts) (b : ℕ) (is : List ℕ) → ChangeNoViewAfterFirst (map (λ (i : ℕ). Promised a tx i b) is)
quiet_promises a tx b [] = tt
quiet_promises a tx b (i ∷ is) = λ y h.
    let at = IsIn-mapped (λ (j : ℕ). Promised a tx j b) is y (IsIn-contains (map (λ (j : ℕ). Promised a tx j b) is) y h) in
    subst (λ (x : Item TxParts). manager_of x ≡ None) at.maps refl

-- a fact comes to one item at most, or to promises
quiet_after_first : (who : NodeId) (fact : Option Fact) → ChangeNoViewAfterFirst (items_of who fact)
quiet_after_first who None = tt
quiet_after_first (A a) (Some (stored.Promise tx i b)) = λ y h. absurd (omega (arith, h.1))
quiet_after_first (A a) (Some (stored.Accept tx i b v)) = λ y h. absurd (omega (arith, h.1))
quiet_after_first (A a) (Some (stored.PromiseAll tx b)) = quiet_promises a tx b (participants tx)
quiet_after_first (L l) (Some (stored.Ballot tx b)) = λ y h. absurd (omega (arith, h.1))
quiet_after_first (R r) (Some (stored.VotePrepared tx keys)) = λ y h. absurd (omega (arith, h.1))
quiet_after_first (R r) (Some (stored.VoteAborted tx)) = λ y h. absurd (omega (arith, h.1))
quiet_after_first (R r) (Some (stored.Committed tx)) = λ y h. absurd (omega (arith, h.1))
quiet_after_first (R r) (Some (stored.Aborted tx)) = λ y h. absurd (omega (arith, h.1))
quiet_after_first who (Some fact) = tt

message_item_is : (m : Kind) (y : Item TxParts) → IsIn (message_items m) y → IsMessageItem y
message_item_is (kinds.P1b tx i b report a) y k = only_one IsMessageItem (P1b tx i b report a) tt y k
message_item_is (kinds.P2a tx i b v) y k = only_one IsMessageItem (P2a tx i b v) tt y k
message_item_is (kinds.P2b tx i b v a) y k = only_one IsMessageItem (P2b tx i b v a) tt y k
message_item_is (kinds.Commit tx) y k = only_one IsMessageItem (Commit tx) tt y k
message_item_is (kinds.Abort tx) y k = only_one IsMessageItem (Abort tx) tt y k
message_item_is m y k = absurd k

-- the message that is an item
abbrev message_of : Item TxParts → Kind
message_of (P1b tx i b report a) = kinds.P1b tx i b report a
message_of (P2a tx i b v) = kinds.P2a tx i b v
message_of (P2b tx i b v a) = kinds.P2b tx i b v a
message_of (Commit tx) = kinds.Commit tx
message_of (Abort tx) = kinds.Abort tx
message_of (Promised a tx i b) = kinds.Prepare tx
message_of (Accepted a tx i b v) = kinds.Prepare tx
message_of (Began l tx b) = kinds.Prepare tx
message_of (Voted r tx v) = kinds.Prepare tx
message_of (Committed r tx) = kinds.Prepare tx
message_of (StoredAbort r tx) = kinds.Prepare tx

is_message_of : (m : Kind) (y : Item TxParts) → IsIn (message_items m) y → m ≡ message_of y
is_message_of (kinds.P1b tx i b report a) y k =
    only_one (λ (z : Item TxParts). kinds.P1b tx i b report a ≡ message_of z) (P1b tx i b report a) refl y k
is_message_of (kinds.P2a tx i b v) y k = only_one (λ (z : Item TxParts). kinds.P2a tx i b v ≡ message_of z) (P2a tx i b v) refl y k
is_message_of (kinds.P2b tx i b v a) y k = only_one (λ (z : Item TxParts). kinds.P2b tx i b v a ≡ message_of z) (P2b tx i b v a) refl y k
is_message_of (kinds.Commit tx) y k = only_one (λ (z : Item TxParts). kinds.Commit tx ≡ message_of z) (Commit tx) refl y k
is_message_of (kinds.Abort tx) y k = only_one (λ (z : Item TxParts). kinds.Abort tx ≡ message_of z) (Abort tx) refl y k
is_message_of m y k = absurd k

module _ (config : Config) (g : NodeGrowth) (sends : List Kind) (allowed : IsAllowedEffect config g.who g.before g.sent g.fact sends)
    (some : (m : Kind) → IsIn g.more m → IsIn sends m) (grows : IsNodeGrowth g) where
  proposal_among : (tx : TxParts) (i b : ℕ) (v : Vote) → Contains (flat_map message_items g.more) (P2a tx i b v)
      → IsIn sends (kinds.P2a tx i b v)
  proposal_among tx i b v h =
      let from = IsIn-joined message_items g.more (P2a tx i b v) (IsIn-contains (flat_map message_items g.more) (P2a tx i b v) h) in
      subst (λ (m : Kind). IsIn sends m) (is_message_of from.source (P2a tx i b v) from.inside) (some from.source from.among)

  -- a rule that hands over what it must makes an event, whatever part of its messages goes out
  pub event_of_rule : IsAllowedEvent (setting config) (StandsBy g.before g.sent) (items_of g.who g.fact) (flat_map message_items g.more)
      (StandsBy g.after g.sent_after)
  event_of_rule = record {
    facts_allowed = allowed.fact_allowed;
    one_view = quiet_after_first g.who g.fact;
    are_messages = λ y h.
        let from = IsIn-joined message_items g.more y (IsIn-contains (flat_map message_items g.more) y h) in
        message_item_is from.source y from.inside;
    messages_allowed = λ y h.
        let from = IsIn-joined message_items g.more y (IsIn-contains (flat_map message_items g.more) y h) in
        allowed.sends_allowed from.source (some from.source from.among) y from.inside;
    agree = λ {tx} {i} {b} {v} {w} h k. allowed.agree tx i b v w (proposal_among tx i b v h) (proposal_among tx i b w k);
    grown = grown_by g grows;
  }
