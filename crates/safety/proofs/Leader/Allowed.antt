-- What a leader's effect hands over to the world: its items are allowed, and its fact plays.
-- Needed by World.NodeRules.
use Rattle.std.proofs.Common.{◌≡◌, inl, inr, ℕ, zero, suc, ◌<◌, true, IsTrue, List, [], ◌++◌, Option, Some, None, refl, sym, ap, subst}
use Rattle.std.proofs.Common.{arith}
use Rattle.std.specs.Prelude.{Contains}
use Rattle.xid.specs.Transactions.{TxParts, is_participant}
use Rattle.xid.specs.declared.transaction.Vote.{Vote}
use Rattle.wire.specs.declared.message.Kind.{Kind}
use Rattle.wire.specs.declared.message.Kind.TheVariants as kinds
use Rattle.ballot.specs.Ballots.{owner_of}
use Rattle.stable_record.specs.declared.fact.FactKind.TheVariants as stored
use Rattle.protocol.specs.Basics.{Fact}
use Rattle.safety.specs.Vocabulary.{NodeId, L, Outgoing}
use Rattle.protocol.specs.Effects.{Config, Effect}
use Rattle.protocol.specs.Nodes.{Memory, Input, effect_of}
use Rattle.protocol.specs.Leaders.{plays_at_leader}
use Rattle.protocol.specs.Facts.{last_ballot}
use Rattle.protocol.specs.PaperItems.{unbundled, message_items}
use Rattle.safety.specs.Items.{Item, Began, P1b, P2a, P2b, Commit, Abort, Setting, IsAllowed, IsProposal, IsMajorityPick}
use Rattle.safety.specs.Invariant.{Invariant}
use Rattle.safety.specs.Senders.{IsFrom}
use Rattle.ballot.specs.Greatest.{IsIn}
use Rattle.safety.specs.Standing.{StandsBy, setting}
use Rattle.safety.proofs.Facts.{with_fact, messages_of}
use Rattle.ballot.proofs.Majorities.{majorities_meet}
use Rattle.safety.proofs.Argument.Preservation.{IsDecided-kept, IsMajorityPick-kept}
use Rattle.safety.proofs.Argument.Additions.{AreAllowed, Contains-one, Contains-head}
use Rattle.safety.proofs.Argument.Events.{with_items}
use Rattle.protocol.proofs.Lists.{IsIn-append, IsIn-before, IsIn-push, IsIn-joined}
use Rattle.safety.proofs.World.Growth.{items_of}
use Rattle.safety.proofs.World.AllowedEffects.{NamesParticipant, IsAllowedEffect}
use Rattle.safety.proofs.Leader.Invariant.{IsSentItem, LeaderInvariant, AreProposalsBacked, IsSentBy, IsNewBallot, MaySend}
use Rattle.safety.proofs.Leader.Effects.{IsLeaderEffect, IsTakenSent, leader_effect}

-- what a leader's effect hands over; and its fact plays
pub record IsAllowedLeaderEffect (config : Config) (l : ℕ) (facts : NodeId → List Fact) (sent : List Kind)
    (e : Effect Memory) : Type 0 where
  pub allowed : IsAllowedEffect config (L l) facts sent e.fact (messages_of e.sends)
  pub plays : (fact : Fact) → e.fact ≡ Some fact → plays_at_leader config.leaders l (last_ballot (facts (L l))) fact ≡ true

sent_by : (sends : List Outgoing) (m : Kind) → IsIn (messages_of sends) m → IsSentBy sends m
sent_by sends m h =
    let at = IsIn-joined (λ (s : Outgoing). unbundled s.message) sends m h in (at.source, at.among, at.inside)

-- what was proposed in a leader's ballots, its record has begun
pub backed_by : (config : Config) (l : ℕ) (facts : NodeId → List Fact) (sent : List Kind)
    → Invariant (setting config) (StandsBy facts sent) → AreProposalsBacked config.leaders l (facts (L l)) (IsIn sent)
backed_by config l facts sent inv = record {
  backed = λ tx i b v h own.
      let began : StandsBy facts sent (Began (owner_of config.leaders b) tx b) = inv.owned {tx = tx} {i = i} {b = b} {v = v} h own.0 in
      subst (λ (k : ℕ). IsIn (facts (L k)) (stored.Ballot tx b)) own.1 began;
}

module _ {Tx : Type 0} (c : Setting Tx) (Has : Item Tx → Type 0) (tx : Tx) (i : ℕ) where
  -- above ballot 0 a proposal may be sent
  proposal_is_allowed : (b : ℕ) (v : Vote)
      → 0 < b → IsProposal c Has tx i b v → IsAllowed c Has (P2a tx i b v)
  proposal_is_allowed zero v above proposal = absurd (omega arith)
  proposal_is_allowed (suc b) v above proposal = proposal

module _ (config : Config) (l : ℕ) (facts : NodeId → List Fact) (sent : List Kind) (fact : Option Fact)
    (begins : (x : Fact) → fact ≡ Some x → IsNewBallot config.leaders l (facts (L l)) x)
    (named : (m : Kind) → IsIn sent m → NamesParticipant m) where
  abbrev Then : Item TxParts → Type 0
  Then = with_items (StandsBy facts sent) (items_of (L l) fact)

  told_stands : (y : Item TxParts) → IsSentItem (IsIn sent) y → Then y
  told_stands (P1b tx i b report a) h = inl h
  told_stands (P2a tx i b v) h = inl h
  told_stands (P2b tx i b v a) h = inl h
  told_stands (Commit tx) h = inl h
  told_stands (Abort tx) h = inl h
  told_stands _ h = absurd h

  -- a fact of a leader is a ballot
  fact_began : (o : Option Fact) → fact ≡ o → (y : Item TxParts) → Contains (items_of (L l) o) y → (tx : TxParts) × (b : ℕ)
      × (Began l tx b ≡ y)
  fact_began None e y h = absurd (omega (arith, h.1))
  fact_began (Some x) e y h =
      let new = begins x e in
      (new.tx, new.ballot, Contains-one (Began l new.tx new.ballot) y (subst (λ (f : Fact). Contains (items_of (L l) (Some f)) y) new.is h))

  began_stands : (o : Option Fact) (tx : TxParts) (b : ℕ) → IsIn (with_fact (facts (L l)) o) (stored.Ballot tx b)
      → with_items (StandsBy facts sent) (items_of (L l) o) (Began l tx b)
  began_stands None tx b h = inl h
  began_stands (Some x) tx b h = elim (IsIn-push (facts (L l)) x (stored.Ballot tx b) h) [
    | inl old ↦ inl old
    | inr new ↦ inr (subst (λ (f : Fact). Contains (items_of (L l) (Some f)) (Began l tx b)) (sym new) (Contains-head (Began l tx b) []))
  ]

  proposal_named : (tx : TxParts) (i b : ℕ) (v : Vote) → IsMajorityPick config.acceptors (IsSentItem (IsIn sent)) tx i b v
      → IsTrue (is_participant tx i)
  proposal_named tx i b v pick =
      let some = majorities_meet config.acceptors pick.members pick.members pick.majority pick.majority in
      named (kinds.P1b tx i b (pick.report some.member) some.member) (pick.heard some.member some.below some.of_first)

  may_send_allowed : (m : Kind) → MaySend config l (with_fact (facts (L l)) fact) (IsIn sent) m → (y : Item TxParts)
      → IsIn (message_items m) y
      → IsAllowed (setting config) Then y
  may_send_allowed (kinds.P2a tx i b v) may y (inl e) =
      subst (IsAllowed (setting config) Then) e (proposal_is_allowed (setting config) Then tx i b v may.owned.0 (record {
        owned = subst (λ (k : ℕ). Then (Began k tx b)) (sym may.owned.1) (began_stands fact tx b may.begun);
        picked = IsMajorityPick-kept told_stands may.picked;
        alone = λ {w} h. elim h [
          | inl old ↦ absurd (may.first w old)
          | inr new ↦ let at = fact_began fact refl (P2a tx i b w) new in absurd (cc (at.2))
        ];
      }))
  may_send_allowed (kinds.Commit tx) may y (inl e) =
      subst (IsAllowed (setting config) Then) e (λ r is. IsDecided-kept told_stands (may r is))
  may_send_allowed (kinds.Abort tx) may y (inl e) =
      subst (IsAllowed (setting config) Then) e (may.0, may.1, IsDecided-kept told_stands may.2)
  may_send_allowed (kinds.P2a tx i b v) may y (inr none) = absurd none
  may_send_allowed (kinds.Commit tx) may y (inr none) = absurd none
  may_send_allowed (kinds.Abort tx) may y (inr none) = absurd none
  may_send_allowed (kinds.Prepare tx) may y h = absurd h
  may_send_allowed (kinds.P1a tx i b) may y h = absurd h
  may_send_allowed _ may y h = absurd may

  may_send_named : (m : Kind) → MaySend config l (with_fact (facts (L l)) fact) (IsIn sent) m → NamesParticipant m
  may_send_named (kinds.P1a tx i b) may = may.0
  may_send_named (kinds.P2a tx i b v) may = proposal_named tx i b v may.picked
  may_send_named (kinds.P1b tx i b report a) may = absurd may
  may_send_named (kinds.P2b tx i b v a) may = absurd may
  may_send_named _ may = tt

  may_send_from : (m : Kind) → MaySend config l (with_fact (facts (L l)) fact) (IsIn sent) m → IsFrom config (L l) m
  may_send_from (kinds.Prepare tx) may = (l, refl)
  may_send_from (kinds.P1a tx i b) may = ap L (sym may.1.owned.1)
  may_send_from (kinds.P2a tx i zero v) may = let positive : 0 < 0 = may.owned.0 in absurd (omega (arith, positive))
  may_send_from (kinds.P2a tx i (suc b) v) may = ap L (sym may.owned.1)
  may_send_from (kinds.Commit tx) may = (l, refl)
  may_send_from (kinds.Abort tx) may = (l, refl)
  may_send_from _ may = absurd may

  fact_is_allowed : (o : Option Fact) → fact ≡ o → AreAllowed (setting config) (StandsBy facts sent) (items_of (L l) o)
  fact_is_allowed None e = tt
  fact_is_allowed (Some x) e = let new = begins x e in
      subst (λ (f : Fact). AreAllowed (setting config) (StandsBy facts sent) (items_of (L l) (Some f))) (sym new.is) (tt, tt)

-- an input at a leader
module _ (config : Config) (l : ℕ) (facts : NodeId → List Fact) (sent : List Kind) (few : l < config.leaders)
    (inv : Invariant (setting config) (StandsBy facts sent)) (named : (m : Kind) → IsIn sent m → NamesParticipant m) where
  pub leader_is_allowed : (memory : Memory) (input : Input) → IsTakenSent (IsIn sent) input
      → LeaderInvariant config l (facts (L l)) memory.leader (IsIn sent)
      → IsAllowedLeaderEffect config l facts sent (effect_of config (L l) (facts (L l)) memory input)
  leader_is_allowed memory input taken kept =
      let e : Effect Memory = effect_of config (L l) (facts (L l)) memory input in
      let now : List Kind = sent ++ messages_of e.sends in
      let step : IsLeaderEffect config l (facts (L l)) (IsIn sent) e (IsIn now) =
      leader_effect config l (facts (L l)) (IsIn sent) (IsIn now) few (backed_by config l facts sent inv) memory input taken kept
      (record {
        kept = λ m h. IsIn-before sent (messages_of e.sends) m h;
        only = λ m h. elim (IsIn-append sent (messages_of e.sends) m h) [ inl old ↦ inl old | inr new ↦ inr (sent_by e.sends m new) ];
      }) in
      record {
        allowed = record {
          fact_allowed = fact_is_allowed config l facts sent e.fact step.begins named e.fact refl;
          sends_allowed = λ m h. may_send_allowed config l facts sent e.fact step.begins named m (step.may_send m (sent_by e.sends m h));
          agree = λ tx i b v w h k. step.agree tx i b v w (sent_by e.sends (kinds.P2a tx i b v) h) (sent_by e.sends (kinds.P2a tx i b w) k);
          named = λ m h. may_send_named config l facts sent e.fact step.begins named m (step.may_send m (sent_by e.sends m h));
          from = λ m h. may_send_from config l facts sent e.fact step.begins named m (step.may_send m (sent_by e.sends m h));
        };
        plays = λ x f. (step.begins x f).plays;
      }
