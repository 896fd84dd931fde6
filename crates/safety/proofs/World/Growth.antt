-- One more fact at a node and messages after those sent, as items that come to stand.
-- Needed by 7 files here; crates progress, floors, history, cluster and run_traces.
use Rattle.std.proofs.Common.{◌≡◌, ◌⊎◌, inl, inr, ⊎_elim, ◌∙◌, ℕ, List, [], ◌++◌, Option, Some, None, refl, sym, ap, subst}
use Rattle.std.specs.List.{flat_map}
use Rattle.std.specs.Option.{option_to_list}
use Rattle.std.proofs.lemmas.Bool.{cases_eq}
use Rattle.xid.specs.Transactions.{TxParts, participants}
use Rattle.xid.specs.declared.transaction.Vote.TheVariants as votes
use Rattle.wire.specs.declared.message.Kind.{Kind}
use Rattle.wire.specs.declared.message.Kind.TheVariants as kinds
use Rattle.stable_record.specs.declared.fact.FactKind.TheVariants as stored
use Rattle.protocol.specs.Basics.{Fact}
use Rattle.safety.specs.Vocabulary.{NodeId, A, L, R}
use Rattle.protocol.specs.PaperItems.{message_items, comes_to}
use Rattle.safety.specs.Items.{Item, Promised, Accepted, Began, Voted, Committed, StoredAbort, P1b, P2a, P2b, Commit, Abort}
use Rattle.ballot.specs.Greatest.{IsIn}
use Rattle.safety.specs.Standing.{StandsBy}
use Rattle.safety.proofs.Facts.{among_participants, participates}
use Rattle.safety.proofs.Argument.Additions.{IsGrownBy}
use Rattle.protocol.proofs.Lists.{IsIn-append, IsIn-before, IsIn-after, IsIn-last, IsIn-join, IsIn-joined}
use Rattle.protocol.proofs.Lists.{Contains-among, IsIn-contains, IsIn-map, IsIn-mapped, only_one}

pub same_node : (n who : NodeId) → (n ≡ who) ⊎ (n ≡ who → ⊥)
same_node (A a) (A b) = elim (cases_eq a b) [ inl e ↦ inl (ap A e) | inr apart ↦ inr (λ e. apart (cc (e))) ]
same_node (L a) (L b) = elim (cases_eq a b) [ inl e ↦ inl (ap L e) | inr apart ↦ inr (λ e. apart (cc (e))) ]
same_node (R a) (R b) = elim (cases_eq a b) [ inl e ↦ inl (ap R e) | inr apart ↦ inr (λ e. apart (cc (e))) ]
same_node (A a) (L b) = inr (λ e. absurd (cc (e)))
same_node (A a) (R b) = inr (λ e. absurd (cc (e)))
same_node (L a) (A b) = inr (λ e. absurd (cc (e)))
same_node (L a) (R b) = inr (λ e. absurd (cc (e)))
same_node (R a) (A b) = inr (λ e. absurd (cc (e)))
same_node (R a) (L b) = inr (λ e. absurd (cc (e)))

-- the items of a fact that joins, or of none
abbrev pub items_of : NodeId → Option Fact → List (Item TxParts)
items_of who None = []
items_of who (Some fact) = comes_to who fact

-- the facts of all nodes and the messages that were sent, before and after a node stores at most one fact and sends some messages
pub record NodeGrowth : Type 0 where
  pub who : NodeId
  pub fact : Option Fact
  pub more : List Kind
  pub before : NodeId → List Fact
  pub after : NodeId → List Fact
  pub sent : List Kind
  pub sent_after : List Kind

-- nothing else is stored or sent
pub record IsNodeGrowth (g : NodeGrowth) : Type 0 where
  pub own : g.after g.who ≡ g.before g.who ++ option_to_list g.fact
  pub others : (n : NodeId) → (n ≡ g.who → ⊥) → g.after n ≡ g.before n
  pub messages : g.sent_after ≡ g.sent ++ g.more

-- a stored fact is the item that it comes to
fact_stands : (facts : NodeId → List Fact) (sent : List Kind) (who : NodeId) (fact : Fact) (y : Item TxParts)
    → IsIn (facts who) fact → IsIn (comes_to who fact) y → StandsBy facts sent y
fact_stands facts sent (A a) (stored.Promise tx i b) y h k = only_one (StandsBy facts sent) (Promised a tx i b) (inl h) y k
fact_stands facts sent (A a) (stored.Accept tx i b v) y h k = only_one (StandsBy facts sent) (Accepted a tx i b v) h y k
fact_stands facts sent (A a) (stored.PromiseAll tx b) y h k =
    let at = IsIn-mapped (λ (i : ℕ). Promised a tx i b) (participants tx) y k in
    subst (StandsBy facts sent) at.maps (inr (participates tx at.source at.among, h))
fact_stands facts sent (L l) (stored.Ballot tx b) y h k = only_one (StandsBy facts sent) (Began l tx b) h y k
fact_stands facts sent (R r) (stored.VotePrepared tx keys) y h k = only_one (StandsBy facts sent) (Voted r tx votes.Prepared) (keys, h) y k
fact_stands facts sent (R r) (stored.VoteAborted tx) y h k = only_one (StandsBy facts sent) (Voted r tx votes.Aborted) h y k
fact_stands facts sent (R r) (stored.Committed tx) y h k = only_one (StandsBy facts sent) (Committed r tx) h y k
fact_stands facts sent (R r) (stored.Aborted tx) y h k = only_one (StandsBy facts sent) (StoredAbort r tx) h y k
fact_stands facts sent who fact y h k = absurd k

-- one of the paper's messages that was sent is the item that it is
message_stands : (facts : NodeId → List Fact) (sent : List Kind) (m : Kind) (y : Item TxParts)
    → IsIn sent m → IsIn (message_items m) y → StandsBy facts sent y
message_stands facts sent (kinds.P1b tx i b report a) y h k = only_one (StandsBy facts sent) (P1b tx i b report a) h y k
message_stands facts sent (kinds.P2a tx i b v) y h k = only_one (StandsBy facts sent) (P2a tx i b v) h y k
message_stands facts sent (kinds.P2b tx i b v a) y h k = only_one (StandsBy facts sent) (P2b tx i b v a) h y k
message_stands facts sent (kinds.Commit tx) y h k = only_one (StandsBy facts sent) (Commit tx) h y k
message_stands facts sent (kinds.Abort tx) y h k = only_one (StandsBy facts sent) (Abort tx) h y k
message_stands facts sent m y h k = absurd k

module _ (g : NodeGrowth) (grows : IsNodeGrowth g) where
  fact_kept_at : (n : NodeId) (f : Fact) → (n ≡ g.who) ⊎ (n ≡ g.who → ⊥) → IsIn (g.before n) f → IsIn (g.after n) f
  fact_kept_at n f (inl e) h =
      subst (λ (xs : List Fact). IsIn xs f) (sym (ap g.after e ∙ grows.own))
      (IsIn-before (g.before g.who) (option_to_list g.fact) f (subst (λ (m : NodeId). IsIn (g.before m) f) e h))
  fact_kept_at n f (inr apart) h = subst (λ (xs : List Fact). IsIn xs f) (sym (grows.others n apart)) h

  pub fact_kept : (n : NodeId) (f : Fact) → IsIn (g.before n) f → IsIn (g.after n) f
  fact_kept n f h = fact_kept_at n f (same_node n g.who) h

  pub message_kept : (m : Kind) → IsIn g.sent m → IsIn g.sent_after m
  message_kept m h = subst (λ (xs : List Kind). IsIn xs m) (sym grows.messages) (IsIn-before g.sent g.more m h)

  joined_is : (o : Option Fact) (f : Fact) → IsIn (option_to_list o) f → o ≡ Some f
  joined_is None f h = absurd h
  joined_is (Some g) f (inl e) = ap Some e
  joined_is (Some g) f (inr none) = absurd none

  fact_new_at : (n : NodeId) (f : Fact) → (n ≡ g.who) ⊎ (n ≡ g.who → ⊥) → IsIn (g.after n) f → IsIn (g.before n) f
      ⊎ ((n ≡ g.who) × (g.fact ≡ Some f))
  fact_new_at n f (inl e) h =
      ⊎_elim
      (λ (old : IsIn (g.before g.who) f). inl (subst (λ (m : NodeId). IsIn (g.before m) f) (sym e) old))
      (λ (new : IsIn (option_to_list g.fact) f). inr (e, joined_is g.fact f new))
      (IsIn-append (g.before g.who) (option_to_list g.fact) f (subst (λ (xs : List Fact). IsIn xs f) (ap g.after e ∙ grows.own) h))
  fact_new_at n f (inr apart) h = inl (subst (λ (xs : List Fact). IsIn xs f) (grows.others n apart) h)

  -- a g.fact that stands stood g.before, or has just joined
  pub fact_new : (n : NodeId) (f : Fact) → IsIn (g.after n) f → IsIn (g.before n) f ⊎ ((n ≡ g.who) × (g.fact ≡ Some f))
  fact_new n f h = fact_new_at n f (same_node n g.who) h

  pub message_new : (m : Kind) → IsIn g.sent_after m → IsIn g.sent m ⊎ IsIn g.more m
  message_new m h = IsIn-append g.sent g.more m (subst (λ (xs : List Kind). IsIn xs m) grows.messages h)

  pub fact_joined : (f : Fact) → g.fact ≡ Some f → IsIn (g.after g.who) f
  fact_joined f e =
      subst (λ (xs : List Fact). IsIn xs f) (sym (grows.own ∙ ap (λ o. g.before g.who ++ option_to_list o) e))
      (IsIn-last (g.before g.who) f)

  -- what comes to stand
  abbrev added : List (Item TxParts)
  added = items_of g.who g.fact ++ flat_map message_items g.more

  stood : (y : Item TxParts) → StandsBy g.before g.sent y → StandsBy g.after g.sent_after y
  stood (Promised a tx i b) (inl h) = inl (fact_kept (A a) (stored.Promise tx i b) h)
  stood (Promised a tx i b) (inr h) = inr (h.0, fact_kept (A a) (stored.PromiseAll tx b) h.1)
  stood (Accepted a tx i b v) h = fact_kept (A a) (stored.Accept tx i b v) h
  stood (Began l tx b) h = fact_kept (L l) (stored.Ballot tx b) h
  stood (Voted r tx votes.Prepared) h = (h.0, fact_kept (R r) (stored.VotePrepared tx h.0) h.1)
  stood (Voted r tx votes.Aborted) h = fact_kept (R r) (stored.VoteAborted tx) h
  stood (Committed r tx) h = fact_kept (R r) (stored.Committed tx) h
  stood (StoredAbort r tx) h = fact_kept (R r) (stored.Aborted tx) h
  stood (P1b tx i b report a) h = message_kept (kinds.P1b tx i b report a) h
  stood (P2a tx i b v) h = message_kept (kinds.P2a tx i b v) h
  stood (P2b tx i b v a) h = message_kept (kinds.P2b tx i b v a) h
  stood (Commit tx) h = message_kept (kinds.Commit tx) h
  stood (Abort tx) h = message_kept (kinds.Abort tx) h

  comes : (y : Item TxParts) (o : Option Fact) → g.fact ≡ o → IsIn (items_of g.who o) y → StandsBy g.after g.sent_after y
  comes y None e h = absurd h
  comes y (Some f) e h = fact_stands g.after g.sent_after g.who f y (fact_joined f e) h

  joins : (y : Item TxParts) → IsIn added y → StandsBy g.after g.sent_after y
  joins y h =
      ⊎_elim
      (λ (of_fact : IsIn (items_of g.who g.fact) y). comes y g.fact refl of_fact)
      (λ (of_message : IsIn (flat_map message_items g.more) y).
      let from = IsIn-joined message_items g.more y of_message in
      message_stands g.after g.sent_after from.source y
      (subst (λ (xs : List Kind). IsIn xs from.source) (sym grows.messages)
      (IsIn-after g.sent g.more from.source from.among)) from.inside)
      (IsIn-append (items_of g.who g.fact) (flat_map message_items g.more) y h)

  from_fact : (n : NodeId) (f : Fact) (y : Item TxParts) → IsIn (comes_to n f) y → (n ≡ g.who) × (g.fact ≡ Some f) → IsIn added y
  from_fact n f y h k =
      IsIn-before (items_of g.who g.fact) (flat_map message_items g.more) y
      (subst (λ (o : Option Fact). IsIn (items_of g.who o) y) (sym k.1) (subst (λ (m : NodeId). IsIn (comes_to m f) y) k.0 h))

  from_message : (m : Kind) (y : Item TxParts) → IsIn (message_items m) y → IsIn g.more m → IsIn added y
  from_message m y h k = IsIn-after (items_of g.who g.fact) (flat_map message_items g.more) y (IsIn-join message_items g.more m y k h)

  fact_only : (n : NodeId) (f : Fact) (y : Item TxParts) → IsIn (comes_to n f) y → IsIn (g.after n) f → IsIn (g.before n) f
      ⊎ IsIn added y
  fact_only n f y h k = ⊎_elim (λ old. inl old) (λ new. inr (from_fact n f y h new)) (fact_new n f k)

  message_only : (m : Kind) (y : Item TxParts) → IsIn (message_items m) y → IsIn g.sent_after m → IsIn g.sent m ⊎ IsIn added y
  message_only m y h k = ⊎_elim (λ old. inl old) (λ new. inr (from_message m y h new)) (message_new m k)

  stands_or_joins : (y : Item TxParts) → StandsBy g.after g.sent_after y → StandsBy g.before g.sent y ⊎ IsIn added y
  stands_or_joins (Promised a tx i b) (inl h) =
      ⊎_elim (λ old. inl (inl old)) (λ new. inr new) (fact_only (A a) (stored.Promise tx i b) (Promised a tx i b) (inl refl) h)
  stands_or_joins (Promised a tx i b) (inr h) =
      ⊎_elim (λ old. inl (inr (h.0, old))) (λ new. inr new)
      (fact_only (A a) (stored.PromiseAll tx b) (Promised a tx i b)
      (IsIn-map (λ (j : ℕ). Promised a tx j b) (participants tx) i (among_participants tx i h.0)) h.1)
  stands_or_joins (Accepted a tx i b v) h = fact_only (A a) (stored.Accept tx i b v) (Accepted a tx i b v) (inl refl) h
  stands_or_joins (Began l tx b) h = fact_only (L l) (stored.Ballot tx b) (Began l tx b) (inl refl) h
  stands_or_joins (Voted r tx votes.Prepared) h =
      ⊎_elim (λ old. inl (h.0, old)) (λ new. inr new)
      (fact_only (R r) (stored.VotePrepared tx h.0) (Voted r tx votes.Prepared) (inl refl) h.1)
  stands_or_joins (Voted r tx votes.Aborted) h = fact_only (R r) (stored.VoteAborted tx) (Voted r tx votes.Aborted) (inl refl) h
  stands_or_joins (Committed r tx) h = fact_only (R r) (stored.Committed tx) (Committed r tx) (inl refl) h
  stands_or_joins (StoredAbort r tx) h = fact_only (R r) (stored.Aborted tx) (StoredAbort r tx) (inl refl) h
  stands_or_joins (P1b tx i b report a) h = message_only (kinds.P1b tx i b report a) (P1b tx i b report a) (inl refl) h
  stands_or_joins (P2a tx i b v) h = message_only (kinds.P2a tx i b v) (P2a tx i b v) (inl refl) h
  stands_or_joins (P2b tx i b v a) h = message_only (kinds.P2b tx i b v a) (P2b tx i b v a) (inl refl) h
  stands_or_joins (Commit tx) h = message_only (kinds.Commit tx) (Commit tx) (inl refl) h
  stands_or_joins (Abort tx) h = message_only (kinds.Abort tx) (Abort tx) (inl refl) h

  pub grown_by : IsGrownBy (StandsBy g.before g.sent) (items_of g.who g.fact ++ flat_map message_items g.more)
      (StandsBy g.after g.sent_after)
  grown_by = record {
    kept = λ {y} h. stood y h;
    joined = λ {y} h. joins y (IsIn-contains (items_of g.who g.fact ++ flat_map message_items g.more) y h);
    only = λ {y} h. ⊎_elim (λ old. inl old)
        (λ new. inr (Contains-among (items_of g.who g.fact ++ flat_map message_items g.more) y new)) (stands_or_joins y h);
  }
