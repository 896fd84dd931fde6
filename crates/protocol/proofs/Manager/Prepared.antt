-- No key is touched by two branches of a resource manager of which one has written it, and no name has two, prepared ones included.
-- Needed by crates safety, resource_manager, history, cluster and run_traces.
use Rattle.std.proofs.Common.{◌≡◌, ◌≢◌, ◌⊎◌, ℕ, true, false, not, ◌&&◌, List, [], ◌∷◌, ◌++◌, Option, Some, None, is_some, unwrap_or}
use Rattle.std.proofs.Common.{inl, inr, refl, sym, ap, ◌∙◌, subst, append_assoc, append-nil}
use Rattle.std.specs.Prelude.{filter_map, option_map}
use Rattle.std.specs.List.{list_any, cons_option}
use Rattle.std.specs.Option.{option_map_or}
use Rattle.std.proofs.lemmas.List.{map-append}
use Rattle.std.proofs.lemmas.List.Elements.{filter_map-append}
use Rattle.std.proofs.lemmas.Bool.{and_parts, both_ways, not-true}
use Rattle.xid.specs.Names.{XidParts}
use Rattle.xid.specs.Transactions.{TxParts, is_participant, xid_at}
use Rattle.xid.specs.declared.transaction.Vote.TheVariants as votes
use Rattle.protocol.specs.Basics.{Fact, Touched}
use Rattle.stable_record.specs.declared.fact.FactKind.TheVariants as stored
use Rattle.protocol.specs.Vocabulary.{R}
use Rattle.protocol.specs.Managers.{stored_votes}
use Rattle.protocol.specs.declared.states.BranchState.TheVariants as states
use Rattle.protocol.specs.Effects.{Config}
use Rattle.protocol.specs.Facts.{vote_in, is_ended, is_spent, is_prepared_view, view, Bound, branch_bound_by, bound_branches, HasVote}
use Rattle.protocol.specs.Branches.{is_write, hinders_use}
use Rattle.protocol.specs.Managers.{Branch, has_key, act_on, view_by, all_branches, plays_at_manager, is_new, is_name_spent, is_some_held}
use Rattle.protocol.specs.Nodes.{plays, all_play}
use Rattle.ballot.specs.Greatest.{IsIn}
use Rattle.protocol.proofs.Lists.{found_any, IsIn-append, IsIn-push, IsIn-mapped, filter_map_given}
use Rattle.protocol.specs.Holds.{AreDistinct, AreNamedOnce, names_of, OwnsWrites, AreDisjoint, AreApart}
use Rattle.protocol.proofs.Manager.Names.{distinct_push, distinct_append, distinct_filtered}
use Rattle.protocol.proofs.Manager.Views.{prepared_before, unvoted}
use Rattle.protocol.proofs.Manager.Keys.{disjoint_from, spent_by}
use Rattle.protocol.proofs.Manager.Apart.{bound_is, bound_stored, stored_bound, named_so}

-- of prepared branches no key that one has written is in another
pub record AreBoundApart (rm : ℕ) (facts : List Fact) : Type 0 where
  pub apart : (bound other : Bound) → IsIn (bound_branches facts) bound → IsIn (bound_branches facts) other → bound.tx ≢ other.tx
      → OwnsWrites bound.keys other.keys

-- a prepared vote plays where no vote on the transaction is stored, its name isn't spent, and none of its keys is held
pub record IsFreshVote (rm : ℕ) (facts : List Fact) (tx : TxParts) (keys : List Touched) : Type 0 where
  pub new : ¬ HasVote facts tx votes.Prepared
  pub unspent : is_name_spent rm (stored_votes rm facts) tx ≡ false
  pub free : is_some_held (bound_branches facts) keys ≡ false

fresh_vote : (rm : ℕ) (facts : List Fact) (tx : TxParts) (keys : List Touched)
    → plays_at_manager rm (stored_votes rm facts) (stored.VotePrepared tx keys) ≡ true → IsFreshVote rm facts tx keys
fresh_vote rm facts tx keys e =
    let all = and_parts (is_participant tx rm && is_new (stored_votes rm facts) tx && not (is_name_spent rm (stored_votes rm facts) tx))
    (not (is_some_held (bound_branches facts) keys)) e in
    let most = and_parts (is_participant tx rm
    && is_new (stored_votes rm facts) tx) (not (is_name_spent rm (stored_votes rm facts) tx)) all.0 in
    let some = and_parts (is_participant tx rm) (is_new (stored_votes rm facts) tx) most.0 in
    let new = and_parts (not (is_some (vote_in facts tx))) (not (is_ended facts tx)) some.1 in
    record {
      new = unvoted facts tx (not-true (is_some (vote_in facts tx)) new.0) votes.Prepared;
      unspent = not-true (is_name_spent rm (stored_votes rm facts) tx) most.1;
      free = not-true (is_some_held (bound_branches facts) keys) all.1;
    }

-- keys of which no prepared branch hinders a use are apart from those of each
pub free_of : (facts : List Fact) (keys : List Touched) (bound : Bound) → is_some_held (bound_branches facts) keys ≡ false
    → IsIn (bound_branches facts) bound
    → AreDisjoint keys bound.keys
free_of facts keys bound free h = disjoint_from states.Prepared keys bound.keys
    (λ touched is.
    let hindered = λ (b : Bound) (t : Touched). hinders_use (is_write t.act) t.key (view_by states.Prepared b.keys) in
    both_ways (is_some_held (bound_branches facts) keys) free
    (found_any (λ (b : Bound). list_any (hindered b) keys) (bound_branches facts) bound h
    (found_any (hindered bound) keys touched is.0 is.1)))

abbrev tx_in : Fact → TxParts → TxParts
tx_in (stored.VotePrepared tx keys) other = tx
tx_in fact other = other

module _ (rm : ℕ) (facts : List Fact) (fact : Fact) (are : AreBoundApart rm facts) (play : plays_at_manager rm
    (stored_votes rm facts) fact ≡ true) where
  -- a prepared branch was one before, or the fact made it
  was_or_new : (bound : Bound) → IsIn (bound_branches (facts ++ fact ∷ [])) bound
      → IsIn (bound_branches facts) bound ⊎ ((fact ≡ stored.VotePrepared bound.tx bound.keys) × IsFreshVote rm facts bound.tx bound.keys)
  was_or_new bound h =
      let is = bound_stored (facts ++ fact ∷ []) bound h in
      elim (IsIn-push facts fact (stored.VotePrepared bound.tx bound.keys) is.voted) [
        | inl old ↦ inl (stored_bound facts bound
            (record { voted = old; prepared = prepared_before facts fact bound.tx (bound.keys, old) is.prepared }))
        | inr e ↦ inr (
          e,
          fresh_vote rm facts bound.tx bound.keys (subst (λ (f : Fact). plays_at_manager rm (stored_votes rm facts) f
              ≡ true) e play),
        )
      ]

  bound_apart_after : AreBoundApart rm (facts ++ fact ∷ [])
  bound_apart_after = record {
    apart = λ bound other h k e. elim (was_or_new bound h) [
      | inl old ↦ elim (was_or_new other k) [
        | inl also ↦ are.apart bound other old also e
        | inr new ↦ (free_of facts other.keys bound new.1.free old).1
      ]
      | inr new ↦ elim (was_or_new other k) [
        | inl also ↦ (free_of facts bound.keys other new.1.free also).0
        | inr both ↦ absurd (e (ap (λ (f : Fact). tx_in f bound.tx) (sym new.0 ∙ both.0)))
      ]
    ];
  }

bound_apart_through : (config : Config) (rm : ℕ) (before facts : List Fact) → AreBoundApart rm before
    → all_play config (R rm) before facts ≡ true → AreBoundApart rm (before ++ facts)
bound_apart_through config rm before [] are play = subst (AreBoundApart rm) (sym (append-nil before)) are
bound_apart_through config rm before (fact ∷ facts) are play =
    let parts = and_parts (plays config (R rm) before fact) (all_play config (R rm) (before ++ fact ∷ []) facts) play in
    subst (AreBoundApart rm) (append_assoc before (fact ∷ []) facts)
    (bound_apart_through config rm (before ++ fact ∷ []) facts (bound_apart_after rm before fact are parts.0) parts.1)

-- where facts played, prepared branches are apart
pub bound_apart : (config : Config) (rm : ℕ) (facts : List Fact) → all_play config (R rm) [] facts ≡ true → AreBoundApart rm facts
bound_apart config rm facts play =
    bound_apart_through config rm [] facts
    (record { apart = λ b o h. absurd h }) play

-- ---- names of prepared branches

-- the names that votes have here
abbrev bound_names : ℕ → List Bound → List XidParts
bound_names rm bs = filter_map (λ bound. xid_at bound.tx rm) bs

module _ (rm : ℕ) (facts : List Fact) where
  -- a name that a vote has is spent
  voted_spent : (x : XidParts) → IsIn (bound_names rm (filter_map branch_bound_by facts)) x → is_spent rm facts x ≡ true
  voted_spent x h =
      let one = filter_map_given (λ (bound : Bound). xid_at bound.tx rm) (filter_map branch_bound_by facts) x h in
      let fact = filter_map_given branch_bound_by facts one.source one.among in
      spent_by rm facts (stored.VotePrepared one.source.tx one.source.keys) x
      (subst (IsIn facts) (bound_is fact.source one.source fact.gives) fact.among) one.gives

  named_more : (fact : Fact) → plays_at_manager rm (stored_votes rm facts) fact ≡ true
      → AreDistinct (bound_names rm (filter_map branch_bound_by facts))
      → AreDistinct (bound_names rm (filter_map branch_bound_by facts) ++ bound_names rm (cons_option (branch_bound_by fact) []))
  named_more (stored.VotePrepared tx keys) play d = with_name (xid_at tx rm) (fresh_vote rm facts tx keys play).unspent
    where
      with_name : (o : Option XidParts) → option_map_or (is_spent rm facts) o false ≡ false
          → AreDistinct (bound_names rm (filter_map branch_bound_by facts) ++ cons_option o [])
      with_name None free = subst AreDistinct (sym (append-nil (bound_names rm (filter_map branch_bound_by facts)))) d
      with_name (Some x) free = distinct_push (bound_names rm (filter_map branch_bound_by facts)) x d
          (λ h. both_ways (is_spent rm facts x) free (voted_spent x h))
  named_more fact play d = subst AreDistinct (sym (append-nil (bound_names rm (filter_map branch_bound_by facts)))) d

votes_named_through : (config : Config) (rm : ℕ) (before facts : List Fact)
    → AreDistinct (bound_names rm (filter_map branch_bound_by before)) → all_play config (R rm) before facts ≡ true
    → AreDistinct (bound_names rm (filter_map branch_bound_by (before ++ facts)))
votes_named_through config rm before [] d play =
    subst (λ (fs : List Fact). AreDistinct (bound_names rm (filter_map branch_bound_by fs))) (sym (append-nil before)) d
votes_named_through config rm before (fact ∷ facts) d play =
    let parts = and_parts (plays config (R rm) before fact) (all_play config (R rm) (before ++ fact ∷ []) facts) play in
    let votes = filter_map branch_bound_by before in
    let more = ap (bound_names rm) (filter_map-append branch_bound_by before (fact ∷ []))
    ∙ filter_map-append (λ (bound : Bound). xid_at bound.tx rm) votes (cons_option (branch_bound_by fact) []) in
    subst (λ (fs : List Fact). AreDistinct (bound_names rm (filter_map branch_bound_by fs))) (append_assoc before (fact ∷ []) facts)
    (votes_named_through config rm (before ++ fact ∷ []) facts (subst AreDistinct (sym more) (named_more rm before fact parts.0 d)) parts.1)

-- where facts played, no two votes prepared have one name
pub votes_named : (config : Config) (rm : ℕ) (facts : List Fact) → all_play config (R rm) [] facts ≡ true
    → AreDistinct (bound_names rm (filter_map branch_bound_by facts))
votes_named config rm facts play = votes_named_through config rm [] facts tt play

-- ---- all branches

-- a branch among all: prepared, by its transaction, or another
pub record IsPreparedAs (rm : ℕ) (facts : List Fact) (b : Branch) : Type 0 where
  pub bound : Bound
  pub among : IsIn (bound_branches facts) bound
  pub name : xid_at bound.tx rm ≡ Some b.xid
  pub state : b.state ≡ states.Prepared
  pub keys : b.keys ≡ bound.keys

module _ (rm : ℕ) (facts : List Fact) (bound : Bound) (b : Branch) where
  prepared_from : (o : Option XidParts)
      → IsIn (bound_branches facts) bound
      → xid_at bound.tx rm ≡ o
      → option_map (named_so bound.keys) o ≡ Some b → IsPreparedAs rm facts b
  prepared_from None h name e = absurd (cc (e))
  prepared_from (Some x) h name e =
      let same : named_so bound.keys x ≡ b = ap (λ o. unwrap_or o b) e in
      record {
        bound = bound;
        among = h;
        name = name ∙ ap (λ (c : Branch). Some c.xid) same;
        state = ap (λ (c : Branch). c.state) (sym same);
        keys = ap (λ (c : Branch). c.keys) (sym same);
      }

-- a branch of all is prepared, or one that isn't yet
pub prepared_or_not : (rm : ℕ) (facts : List Fact) (branches : List Branch) (b : Branch)
    → IsIn (all_branches rm (bound_branches facts) branches) b
    → IsPreparedAs rm facts b ⊎ IsIn branches b
prepared_or_not rm facts branches b h = elim (IsIn-append (filter_map _ (bound_branches facts)) branches b h) [
  | inl of_bound ↦
      let given = filter_map_given _ (bound_branches facts) b of_bound in
      inl (prepared_from rm facts given.source b (xid_at given.source.tx rm) given.among refl given.gives)
  | inr other ↦ inr other
]

module _ (config : Config) (rm : ℕ) (facts : List Fact) (branches : List Branch) (play : all_play config (R rm) [] facts ≡ true)
    (are : AreApart rm facts branches) where
  -- no key that one branch has written is touched by another
  pub keys_held_once : (b c : Branch) → IsIn (all_branches rm (bound_branches facts) branches) b
      → IsIn (all_branches rm (bound_branches facts) branches) c → b.xid ≢ c.xid
      → OwnsWrites b.keys c.keys
  keys_held_once b c h k apart key p q = elim (prepared_or_not rm facts branches b h) [
    | inl one ↦
        let written = subst (λ (ks : List Touched). is_write (act_on ks key) ≡ true) one.keys p in
        elim (prepared_or_not rm facts branches c k) [
          | inl two ↦ (bound_apart config rm facts play).apart one.bound two.bound one.among two.among
              (λ e. apart (ap (λ o. unwrap_or o b.xid) (sym one.name ∙ ap (λ (t : TxParts). xid_at t rm) e ∙ two.name))) key
              written (subst (λ (ks : List Touched). has_key key ks ≡ true) two.keys q)
          | inr two ↦ (are.free c one.bound two one.among).1 key written q
        ]
    | inr one ↦ elim (prepared_or_not rm facts branches c k) [
      | inl two ↦ (are.free b two.bound one two.among).0 key p (subst (λ (ks : List Touched). has_key key ks ≡ true) two.keys q)
      | inr two ↦ are.apart b c one two apart key p q
    ]
  ]

  -- no name has two branches
  named_apart : (b c : Branch) → IsPreparedAs rm facts b → IsIn branches c → b.xid ≢ c.xid
  named_apart b c one h e =
      both_ways (is_spent rm facts c.xid) (are.unspent c h)
      (spent_by rm facts (stored.VotePrepared one.bound.tx one.bound.keys) c.xid (bound_stored facts one.bound one.among).voted
      (one.name ∙ ap Some e))

  name_first : (keys : List Touched) (o : Option XidParts) (bs : List Branch) (names : List XidParts) → names_of bs ≡ names
      → names_of (cons_option (option_map (named_so keys) o) bs) ≡ cons_option o names
  name_first keys None bs names same = same
  name_first keys (Some x) bs names same = ap (λ (xs : List XidParts). x ∷ xs) same

  prepared_names : (bs : List Bound)
      → names_of (filter_map (λ (bound : Bound). option_map (named_so bound.keys) (xid_at bound.tx rm)) bs) ≡ bound_names rm bs
  prepared_names [] = refl
  prepared_names (bound ∷ bs) = name_first bound.keys (xid_at bound.tx rm) _ (bound_names rm bs) (prepared_names bs)

  -- no name has two branches
  pub names_held_once : AreNamedOnce (all_branches rm (bound_branches facts) branches)
  names_held_once =
      let prepared = filter_map (λ (bound : Bound). option_map (named_so bound.keys) (xid_at bound.tx rm)) (bound_branches facts) in
      let distinct = distinct_filtered (λ (bound : Bound). xid_at bound.tx rm) (λ bound. is_prepared_view (view facts bound.tx))
      (filter_map branch_bound_by facts) (votes_named config rm facts play) in
      subst AreDistinct (sym (map-append (λ (b : Branch). b.xid) prepared branches))
      (distinct_append (names_of prepared) (names_of branches) (subst AreDistinct (sym (prepared_names (bound_branches facts))) distinct)
      are.distinct
      (λ x h k.
      let one = IsIn-mapped (λ (b : Branch). b.xid) prepared x h in
      let two = IsIn-mapped (λ (b : Branch). b.xid) branches x k in
      let given = filter_map_given (λ (bound : Bound). option_map (named_so bound.keys) (xid_at bound.tx rm)) (bound_branches facts)
      one.source one.among in
      named_apart one.source two.source
      (prepared_from rm facts given.source one.source (xid_at given.source.tx rm) given.among refl given.gives) two.among
      (one.maps ∙ sym two.maps)))
