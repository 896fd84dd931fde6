-- What the rules of an acceptor hand over.
-- Needed by World.NodeRules and World.Reachable.
use Rattle.std.proofs.Common.{◌≡◌, inl, inr, ⊎_elim, ◌∙◌, ℕ, ◌≤◌, Bool, true, false, ◌&&◌, ◌||◌, ◌==◌, not, if◌then◌else◌, IsTrue, List, []}
use Rattle.std.proofs.Common.{◌∷◌, map, filter, filter_map, Option, Some, None, is_some, refl, sym, ap, subst, nat_lt, nat_le}
use Rattle.std.specs.List.{list_all}
use Rattle.std.specs.Option.{option_map_or}
use Rattle.std.specs.Prelude.{Contains}
use Rattle.std.proofs.lemmas.Bool.{cond_both, and_from, and_parts, ltb-true, leb-true, eqb-true, not_from_false}
use Rattle.xid.specs.Transactions.{TxParts, participants, is_participant}
use Rattle.xid.specs.declared.transaction.Vote.{Vote}
use Rattle.wire.specs.declared.items.InstanceReport.{InstanceReport}
use Rattle.wire.specs.declared.items.InstanceAccept.{InstanceAccept}
use Rattle.wire.specs.declared.message.Kind.{Kind}
use Rattle.wire.specs.declared.message.Kind.TheVariants as kinds
use Rattle.ballot.specs.Ballots.{owner_of}
use Rattle.ballot.specs.Choice.{Report, is_prepared}
use Rattle.ballot.specs.declared.slot.Slot.{Slot}
use Rattle.stable_record.specs.declared.fact.FactKind.TheVariants as stored
use Rattle.protocol.specs.Basics.{Fact}
use Rattle.safety.specs.Vocabulary.{NodeId, A, L, Address, Node, Outgoing, Leaders}
use Rattle.protocol.specs.Effects.{Config, Effect, no_effect, sends_only, stores, to}
use Rattle.protocol.specs.Facts.{slot, vote_eq}
use Rattle.protocol.specs.Acceptors.{is_accepted, reports_below, is_some_below, report_after, accept_item, accept_messages}
use Rattle.protocol.specs.Acceptors.{on_1a, on_b1a, on_2a, on_acceptor_message, plays_at_acceptor}
use Rattle.protocol.specs.Nodes.{all_play}
use Rattle.protocol.specs.PaperItems.{report_messages, accept_messages_of, unbundled, message_items}
use Rattle.safety.specs.Laws as laws
use Rattle.safety.proofs.Facts.{messages_of, participates, vote_eq-is}
use Rattle.safety.proofs.Acceptor.Slots.{slot_is}
use Rattle.safety.specs.Items.{Item, Promised, Accepted, P1b, P2b, IsAllowed, IsCovered}
use Rattle.safety.specs.Senders.{IsFrom}
use Rattle.ballot.specs.Greatest.{IsIn}
use Rattle.safety.specs.Standing.{StandsBy, setting}
use Rattle.safety.proofs.Acceptor.StandingSlots.{IsStandingSlot, IsSlotAccept, slot_may_accept, slot_may_be_reported}
use Rattle.safety.proofs.Argument.Additions.{AreAllowed, with_item, Contains-one, Contains-head}
use Rattle.safety.proofs.Argument.Events.{with_items}
use Rattle.protocol.proofs.Lists.{only_one, IsIn-append, IsIn-map, IsIn-mapped, IsIn-contains, Contains-among, filter_kept}
use Rattle.protocol.proofs.Lists.{filter_map_given}
use Rattle.safety.proofs.World.Growth.{items_of}
use Rattle.safety.proofs.World.AllowedEffects.{NamesParticipant, IsAllowedEffect, nothing_is_allowed}

-- what an acceptor's effect hands over; and its fact plays
pub record IsAllowedAcceptorEffect (config : Config) (a : ℕ) (facts : NodeId → List Fact) (sent : List Kind)
    (e : Effect (Unit {0})) : Type 0 where
  pub allowed : IsAllowedEffect config (A a) facts sent e.fact (messages_of e.sends)
  pub plays : (fact : Fact) → e.fact ≡ Some fact → plays_at_acceptor (slot (facts (A a))) fact ≡ true

-- what is sent alone
sent_alone : (address : Address) (x m : Kind) → IsIn (messages_of (to address x ∷ [])) m → IsIn (unbundled x) m
sent_alone address x m h = elim (IsIn-append (unbundled x) [] m h) [ inl here ↦ here | inr none ↦ absurd none ]

module _ (facts : NodeId → List Fact) (a : ℕ) (tx : TxParts) (i : ℕ) where
  held_is : (sent : List Kind) (mbal : ℕ) (r : Report)
      → ((b : ℕ) (v : Vote) → IsIn (facts (A a)) (stored.Accept tx i b v) → b ≤ mbal)
      → laws.IsGreatestAccept (facts (A a)) tx i r → IsSlotAccept (StandsBy facts sent) a tx i mbal r
  held_is sent mbal None below h = tt
  held_is sent mbal (Some last) below h = (below last.0 last.1 h.0, h.0)

  pub accepts_are : (r : Report) → laws.IsGreatestAccept (facts (A a)) tx i r → (b : ℕ) (v : Vote)
      → IsIn (facts (A a)) (stored.Accept tx i b v) → IsCovered r b
  accepts_are None h b v k = absurd (h b v k)
  accepts_are (Some last) h b v k = h.1 b v k

-- whether a report is of this ballot and value
abbrev is_report : Report → ℕ → Vote → Bool
is_report r b v = option_map_or (λ last. (last.0 == b) && vote_eq last.1 v) r false

-- what a slot holds as accepted was accepted
accepted_stands : (facts : List Fact) (tx : TxParts) (i b : ℕ) (v : Vote) (r : Report) → is_report r b v ≡ true
    → laws.IsGreatestAccept facts tx i r → IsIn facts (stored.Accept tx i b v)
accepted_stands facts tx i b v None e h = absurd (cc (e))
accepted_stands facts tx i b v (Some last) e h =
    let both = and_parts (last.0 == b) (vote_eq last.1 v) e in
    subst (λ (w : Vote). IsIn facts (stored.Accept tx i b w)) (vote_eq-is last.1 v both.1)
    (subst (λ (d : ℕ). IsIn facts (stored.Accept tx i d last.1)) (eqb-true last.0 b both.0) h.0)

module _ (config : Config) (a : ℕ) (facts : NodeId → List Fact) (sent : List Kind)
    (plays : all_play config (A a) [] (facts (A a)) ≡ true) where
  abbrev Has : Item TxParts → Type 0
  Has = StandsBy facts sent

  -- the slot that the facts give is the slot of what stands
  slot_stands : (tx : TxParts) (i : ℕ) → IsStandingSlot Has a tx i (slot (facts (A a)) tx i).mbal (slot (facts (A a)) tx i).report
  slot_stands tx i =
      let is = slot_is config a (facts (A a)) plays tx i in
      record {
        promises = λ {b} h. is.promised b h;
        accepts = λ {b} {v} h. accepts_are facts a tx i (slot (facts (A a)) tx i).report is.last b v h;
        held = held_is facts a tx i sent (slot (facts (A a)) tx i).mbal (slot (facts (A a)) tx i).report is.accepted is.last;
      }

  nothing : (e : Effect (Unit {0})) → e.fact ≡ None → e.sends ≡ [] → IsAllowedAcceptorEffect config a facts sent e
  nothing e none silent = record {
    allowed = subst (λ (fact : Option Fact). IsAllowedEffect config (A a) facts sent fact (messages_of e.sends)) (sym none)
        (subst (λ (sends : List Outgoing). IsAllowedEffect config (A a) facts sent None (messages_of sends)) (sym silent)
        (nothing_is_allowed config (A a) facts sent));
    plays = λ fact is. absurd (cc (none, is));
  }

  promise_is_allowed : (tx : TxParts) (i b : ℕ) → IsTrue (is_participant tx i) → nat_lt (slot (facts (A a)) tx i).mbal b ≡ true
      → IsAllowedEffect config (A a) facts sent (Some (stored.Promise tx i b)) (kinds.P1b tx i b (slot (facts (A a)) tx i).report a ∷ [])
  promise_is_allowed tx i b named up =
      let x = Promised a tx i b in
      let s = slot (facts (A a)) tx i in
      record {
        fact_allowed = (tt, tt);
        sends_allowed = only_one (λ (m : Kind). (y : Item TxParts) → IsIn (message_items m) y → IsAllowed (setting config)
            (with_items Has (x ∷ [])) y)
            (kinds.P1b tx i b s.report a)
            (only_one (IsAllowed (setting config) (with_items Has (x ∷ []))) (P1b tx i b s.report a)
            (slot_may_be_reported (slot_stands tx i) (with_items Has (x ∷ [])) (λ y h. inl h) b
            (ltb-true s.mbal b up)
            (inr (Contains-head x []))
            (λ d v h. ⊎_elim (λ old. old)
            (λ (new : Contains (x ∷ []) (Accepted a tx i d v)). let e : x ≡ Accepted a tx i d v = Contains-one x
            (Accepted a tx i d v) new in absurd (cc (e))) h)));
        agree = λ ux j d v w h k. absurd (only_one (λ m. m ≡ kinds.P2a ux j d v → ⊥) (kinds.P1b tx i b s.report a)
            (λ e. absurd (cc (e))) (kinds.P2a ux j d v) h refl);
        named = only_one NamesParticipant (kinds.P1b tx i b s.report a) named;
        from = only_one (IsFrom config (A a)) (kinds.P1b tx i b s.report a) refl;
      }

  on_1a_allowed : (tx : TxParts) (i b : ℕ) → IsTrue (is_participant tx i)
      → IsAllowedAcceptorEffect config a facts sent (on_1a config a (slot (facts (A a))) tx i b)
  on_1a_allowed tx i b named =
      cond_both (nat_lt (slot (facts (A a)) tx i).mbal b) _ _ (IsAllowedAcceptorEffect config a facts sent)
      (λ up. record {
        allowed = promise_is_allowed tx i b named up;
        plays = λ fact is. let e : stored.Promise tx i b ≡ fact = cc (is) in
            subst (λ (f : Fact). plays_at_acceptor (slot (facts (A a))) f ≡ true) e
            (and_from (is_participant tx i) (nat_lt (slot (facts (A a)) tx i).mbal b) named up);
      })
      (λ low. nothing (no_effect tt) refl refl)

  -- ---- phase 1a of all instances

  abbrev slots : TxParts → ℕ → Slot
  slots = slot (facts (A a))

  -- what is said of an instance that stands below a ballot
  record IsReported (tx : TxParts) (b : ℕ) (m : Kind) : Type 0 where
    instance : ℕ
    among : IsIn (participants tx) instance
    below : nat_lt (slots tx instance).mbal b ≡ true
    is : kinds.P1b tx instance b (slots tx instance).report a ≡ m

  reported_is : (tx : TxParts) (b : ℕ) (m : Kind) → IsIn (report_messages tx b a (reports_below slots tx b)) m → IsReported tx b m
  reported_is tx b m h =
      let at = IsIn-mapped (λ (item : InstanceReport). kinds.P1b tx item.instance b item.report a) (reports_below slots tx b) m h in
      let from = IsIn-mapped (λ (i : ℕ). reported_item tx i) (filter (λ i. nat_lt (slots tx i).mbal b) (participants tx))
      at.source at.among in
      let kept = filter_kept (λ i. nat_lt (slots tx i).mbal b) (participants tx) from.source from.among in
      record {
        instance = from.source;
        among = kept.0;
        below = kept.1;
        is = ap (λ (item : InstanceReport). kinds.P1b tx item.instance b item.report a) from.maps ∙ at.maps;
      }
    where
      reported_item : TxParts → ℕ → InstanceReport
      reported_item ux i = record { instance = i; report = (slots ux i).report }

  -- each promise of a list is allowed
  promises_allowed : (Have : Item TxParts → Type 0) (tx : TxParts) (b : ℕ) (is : List ℕ)
      → AreAllowed (setting config) Have (map (λ (i : ℕ). Promised a tx i b) is)
  promises_allowed Have tx b [] = tt
  promises_allowed Have tx b (i ∷ is) = (tt, promises_allowed (with_item Have (Promised a tx i b)) tx b is)

  -- promises are no accepts
  no_accept : (tx : TxParts) (b : ℕ) (i d : ℕ) (v : Vote)
      → Contains (map (λ (j : ℕ). Promised a tx j b) (participants tx)) (Accepted a tx i d v)
      → ⊥
  no_accept tx b i d v h =
      let all = map (λ (j : ℕ). Promised a tx j b) (participants tx) in
      let at = IsIn-mapped (λ (j : ℕ). Promised a tx j b) (participants tx) (Accepted a tx i d v) (IsIn-contains all
      (Accepted a tx i d v) h) in
      absurd (cc (at.maps))

  report_is_allowed : (tx : TxParts) (b : ℕ) (m : Kind) → IsReported tx b m → (y : Item TxParts) → IsIn (message_items m) y
      → IsAllowed (setting config) (with_items Has (map (λ (j : ℕ). Promised a tx j b) (participants tx))) y
  report_is_allowed tx b m reported y h =
      let i = reported.instance in
      let promises = map (λ (j : ℕ). Promised a tx j b) (participants tx) in
      let among = Contains-among promises (Promised a tx i b) (IsIn-map (λ (j : ℕ). Promised a tx j b)
      (participants tx) i reported.among) in
      only_one (IsAllowed (setting config) (with_items Has promises)) (P1b tx i b (slots tx i).report a)
      (slot_may_be_reported (slot_stands tx i) (with_items Has promises) (λ z k. inl k) b (ltb-true (slots tx i).mbal b reported.below)
      (inr among) (λ d v k. ⊎_elim (λ old. old) (λ new. absurd (no_accept tx b i d v new)) k))
      y (subst (λ (k : Kind). IsIn (message_items k) y) (sym reported.is) h)

  all_promised : (tx : TxParts) (b : ℕ) (sends : List Kind) → ((m : Kind) → IsIn sends m → IsReported tx b m)
      → IsAllowedEffect config (A a) facts sent (Some (stored.PromiseAll tx b)) sends
  all_promised tx b sends each = record {
    fact_allowed = promises_allowed Has tx b (participants tx);
    sends_allowed = λ m h y k. report_is_allowed tx b m (each m h) y k;
    agree = λ ux j d v w h k. let is = (each (kinds.P2a ux j d v) h).is in absurd (cc (is));
    named = λ m h. let at = each m h in subst NamesParticipant at.is (participates tx at.instance at.among);
    from = λ m h. subst (IsFrom config (A a)) (each m h).is refl;
  }

  on_b1a_allowed : (tx : TxParts) (b : ℕ) → IsAllowedAcceptorEffect config a facts sent (on_b1a config a slots tx b)
  on_b1a_allowed tx b =
      let address = Node (L (owner_of config.leaders b)) in
      let bundle = kinds.B1b tx b a (reports_below slots tx b) in
      cond_both (is_some_below slots tx b) (stores tt (stored.PromiseAll tx b) (to address bundle ∷ [])) (no_effect tt)
      (IsAllowedAcceptorEffect config a facts sent)
      (λ some. record {
        allowed = all_promised tx b (messages_of (to address bundle ∷ [])) (λ m h. reported_is tx b m (sent_alone address bundle m h));
        plays = λ fact is. let e : stored.PromiseAll tx b ≡ fact = cc (is) in
            subst (λ (f : Fact). plays_at_acceptor slots f ≡ true) e some;
      })
      (λ none. nothing (no_effect tt) refl refl)

  -- ---- phase 2a

  -- a message of phase 2b whose accept stands, after a fact
  record IsTold (fact : Option Fact) (m : Kind) : Type 0 where
    tx : TxParts
    instance : ℕ
    ballot : ℕ
    vote : Vote
    among : IsTrue (is_participant tx instance)
    stands : with_items Has (items_of (A a) fact) (Accepted a tx instance ballot vote)
    is : kinds.P2b tx instance ballot vote a ≡ m

  -- phase 2b may be told once the accepts stand
  told_is_allowed : (fact : Option Fact) (sends : List Kind) → AreAllowed (setting config) Has (items_of (A a) fact)
      → ((m : Kind) → IsIn sends m → IsTold fact m) → IsAllowedEffect config (A a) facts sent fact sends
  told_is_allowed fact sends ok each = record {
    fact_allowed = ok;
    sends_allowed = λ m h y k. let at = each m h in
        only_one (IsAllowed (setting config) (with_items Has (items_of (A a) fact))) (P2b at.tx at.instance at.ballot at.vote a) at.stands
        y (subst (λ (n : Kind). IsIn (message_items n) y) (sym at.is) k);
    agree = λ ux j d w x h k. let is = (each (kinds.P2a ux j d w) h).is in absurd (cc (is));
    named = λ m h. let at = each m h in subst NamesParticipant at.is at.among;
    from = λ m h. subst (IsFrom config (A a)) (each m h).is refl;
  }

  -- what a slot holds was accepted
  held_stands : (tx : TxParts) (i : ℕ) (last : ℕ × Vote) → (slots tx i).report ≡ Some last → Has (Accepted a tx i last.0 last.1)
  held_stands tx i last e =
      (subst (laws.IsGreatestAccept (facts (A a)) tx i) e (slot_is config a (facts (A a)) plays tx i).last).0

  module _ (fact : Option Fact) (tx : TxParts) (i b : ℕ) (v : Vote)
      (stands : with_items Has (items_of (A a) fact) (Accepted a tx i b v)) where
    -- what is accepted last of an instance, after the accept of this one
    after_stands : (j : ℕ) (last : ℕ × Vote) → report_after slots tx i b v j ≡ Some last
        → with_items Has (items_of (A a) fact) (Accepted a tx j last.0 last.1)
    after_stands j last =
        cond_both (j == i) (Some (b, v)) (slots tx j).report
        (λ (o : Report). o ≡ Some last → with_items Has (items_of (A a) fact) (Accepted a tx j last.0 last.1))
        (λ same e.
        let eb : b ≡ last.0 = cc (e) in
        let ev : v ≡ last.1 = cc (e) in
        subst (λ (k : ℕ). with_items Has (items_of (A a) fact) (Accepted a tx k last.0 last.1)) (sym (eqb-true j i same))
        (subst (λ (w : Vote). with_items Has (items_of (A a) fact) (Accepted a tx i last.0 w)) ev
        (subst (λ (d : ℕ). with_items Has (items_of (A a) fact) (Accepted a tx i d v)) eb stands)))
        (λ other e. inl (held_stands tx j last e))

    item_told : (j : ℕ) (o : Report) (item : InstanceAccept) → report_after slots tx i b v j ≡ o → accept_item j o ≡ Some item
        → IsTrue (is_participant tx j) → IsTold fact (kinds.P2b tx item.instance item.ballot item.vote a)
    item_told j None item e f named = absurd (cc (f))
    item_told j (Some last) item e f named = record {
      tx = tx;
      instance = j;
      ballot = last.0;
      vote = last.1;
      among = named;
      stands = after_stands j last e;
      is = ap (λ (o : Option InstanceAccept). message_of_item o) f;
    }
      where
        message_of_item : Option InstanceAccept → Kind
        message_of_item None = kinds.Prepare tx
        message_of_item (Some x) = kinds.P2b tx x.instance x.ballot x.vote a

    bundle_told : (m : Kind) → IsIn (accept_messages_of tx a (filter_map (λ j. accept_item j (report_after slots tx i b v j))
        (participants tx))) m
        → IsTold fact m
    bundle_told m h =
        let at = IsIn-mapped (λ (item : InstanceAccept). kinds.P2b tx item.instance item.ballot item.vote a)
        (filter_map (λ j. accept_item j (report_after slots tx i b v j)) (participants tx)) m h in
        let from = filter_map_given (λ j. accept_item j (report_after slots tx i b v j)) (participants tx) at.source at.among in
        subst (IsTold fact) at.maps
        (item_told from.source (report_after slots tx i b v from.source) at.source refl from.gives
        (participates tx from.source from.among))

    one_told : IsTrue (is_participant tx i) → (m : Kind) → IsIn (kinds.P2b tx i b v a ∷ []) m → IsTold fact m
    one_told named = only_one (IsTold fact) (kinds.P2b tx i b v a)
        (record { tx = tx; instance = i; ballot = b; vote = v; among = named; stands = stands; is = refl })

    accept_is_allowed : IsTrue (is_participant tx i) → AreAllowed (setting config) Has (items_of (A a) fact)
        → IsAllowedEffect config (A a) facts sent fact (messages_of (accept_messages config a slots tx i b v))
    accept_is_allowed named ok =
        let accepts = filter_map (λ j. accept_item j (report_after slots tx i b v j)) (participants tx) in
        let all = to Leaders (kinds.B2b tx a accepts) ∷ [] in
        let told = list_all (λ j. is_some (report_after slots tx i b v j)) (participants tx) || not (is_prepared v) in
        cond_both (not config.bundled) (to Leaders (kinds.P2b tx i b v a) ∷ []) (if told then all else [])
        (λ (sends : List Outgoing). IsAllowedEffect config (A a) facts sent fact (messages_of sends))
        (λ plain. told_is_allowed fact (kinds.P2b tx i b v a ∷ []) ok (one_told named))
        (λ bundled. cond_both told all [] (λ (sends : List Outgoing). IsAllowedEffect config (A a) facts sent fact (messages_of sends))
        (λ some. told_is_allowed fact (messages_of all) ok (λ m h. bundle_told m (sent_alone Leaders (kinds.B2b tx a accepts) m h)))
        (λ none. told_is_allowed fact [] ok (λ m h. absurd h)))

  on_2a_allowed : (tx : TxParts) (i b : ℕ) (v : Vote) → IsTrue (is_participant tx i) → IsIn sent (kinds.P2a tx i b v)
      → IsAllowedAcceptorEffect config a facts sent (on_2a config a slots tx i b v)
  on_2a_allowed tx i b v named was_sent =
      let s = slots tx i in
      let x = Accepted a tx i b v in
      let told = accept_messages config a slots tx i b v in
      cond_both (nat_le s.mbal b) _ _ (IsAllowedAcceptorEffect config a facts sent)
      (λ up. cond_both (is_accepted s b v) (sends_only tt told) (stores tt (stored.Accept tx i b v) told)
      (IsAllowedAcceptorEffect config a facts sent)
      (λ stands. record {
        allowed = accept_is_allowed None tx i b v
            (inl (accepted_stands (facts (A a)) tx i b v s.report (and_parts (s.mbal == b) (is_report s.report b v) stands).1
            (slot_is config a (facts (A a)) plays tx i).last))
            named tt;
        plays = λ fact is. absurd (cc (is));
      })
      (λ new. record {
        allowed = accept_is_allowed (Some (stored.Accept tx i b v)) tx i b v (inr (Contains-head x [])) named
            (slot_may_accept (slot_stands tx i) b v (leb-true s.mbal b up) was_sent, tt);
        plays = λ fact is. let e : stored.Accept tx i b v ≡ fact = cc (is) in
            subst (λ (f : Fact). plays_at_acceptor slots f ≡ true) e
            (and_from (is_participant tx i && nat_le s.mbal b) (not (is_accepted s b v))
            (and_from (is_participant tx i) (nat_le s.mbal b) named up) (not_from_false (is_accepted s b v) new));
      }))
      (λ low. nothing (no_effect tt) refl refl)

  -- an acceptor's rules, on a message of which all was sent, bundled or not
  pub acceptor_is_allowed : (m : Kind) → ((k : Kind) → IsIn (unbundled m) k → IsIn sent k)
      → ((k : Kind) → IsIn (unbundled m) k → NamesParticipant k)
      → IsAllowedAcceptorEffect config a facts sent (on_acceptor_message config a slots m)
  acceptor_is_allowed (kinds.P1a tx i b) came named = on_1a_allowed tx i b (named (kinds.P1a tx i b) (inl refl))
  acceptor_is_allowed (kinds.B1a tx b) came named = on_b1a_allowed tx b
  acceptor_is_allowed (kinds.P2a tx i b v) came named =
      on_2a_allowed tx i b v (named (kinds.P2a tx i b v) (inl refl)) (came (kinds.P2a tx i b v) (inl refl))
  acceptor_is_allowed m came named = nothing (no_effect tt) refl refl
