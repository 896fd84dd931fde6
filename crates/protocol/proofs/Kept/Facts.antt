-- What is kept of a node's facts says of names that aren't below the floor what all say.
-- Needed by Kept.Playing; crates safety, floors, acceptor, leader, resource_manager and forgetting.
use Rattle.std.proofs.Common.{◌≡◌, ◌∙◌, ℕ, Bool, true, false, not, ◌&&◌, ◌||◌, ◌==◌, if◌then◌else◌, List, [], ◌∷◌, Option, Some}
use Rattle.std.proofs.Common.{None, refl, sym, ap, subst}
use Rattle.std.specs.Prelude.{filter, filter_map, find, option_map}
use Rattle.std.specs.List.{list_all, list_any, last_or, cons_option}
use Rattle.std.specs.Option.{option_map_or}
use Rattle.std.proofs.lemmas.Bool.{and_parts, cond_both, cond-false, not-true}
use Rattle.xid.specs.Names.{XidParts, xid_eq}
use Rattle.xid.specs.Places.{Place, is_below, is_xid_below}
use Rattle.xid.specs.Transactions.{TxParts, BranchParts, tx_eq, is_at, is_participant, xid_of, xid_at}
use Rattle.xid.specs.declared.transaction.Vote.{Vote}
use Rattle.xid.specs.declared.transaction.Vote.TheVariants as votes
use Rattle.xid.proofs.Deciding.{tx_decides, xid_decides}
use Rattle.stable_record.specs.Facts.{fact_tx}
use Rattle.stable_record.specs.declared.fact.FactKind.TheVariants as stored
use Rattle.ballot.specs.Greatest.{greatest, IsIn}
use Rattle.protocol.specs.declared.states.View.TheVariants as views
use Rattle.protocol.specs.Basics.{Fact}
use Rattle.protocol.specs.Vocabulary.{View}
use Rattle.protocol.specs.Facts.{Bound, ballot_joined, accept_of, slot, ballot_begun, last_ballot, is_vote_of, vote_in, is_commit_of}
use Rattle.protocol.specs.Facts.{is_abort_of, is_ended, view, is_prepared_view, is_spent, branch_bound_by, bound_branches}
use Rattle.protocol.specs.Kept.{are_free_below, is_kept, kept_facts}
use Rattle.protocol.specs.Managers.{Branch}
use Rattle.protocol.proofs.Lists.{all_found}
use Rattle.protocol.proofs.Manager.Apart.{stored_bound}
use Rattle.protocol.proofs.Manager.Views.{prepared_shows}

-- ---- facts of other transactions

-- a fact of another transaction is no vote on this one
pub other_vote : (tx : TxParts) (v : Vote) (fact : Fact) → tx_eq tx (fact_tx fact) ≡ false → is_vote_of tx v fact ≡ false
other_vote tx votes.Prepared (stored.VotePrepared other keys) e = e
other_vote tx votes.Aborted (stored.VoteAborted other) e = e
other_vote tx v fact e = refl

-- nor its commit
pub other_commit : (tx : TxParts) (fact : Fact) → tx_eq tx (fact_tx fact) ≡ false → is_commit_of tx fact ≡ false
other_commit tx (stored.Committed other) e = e
other_commit tx fact e = refl

-- nor its abort
pub other_abort : (tx : TxParts) (fact : Fact) → tx_eq tx (fact_tx fact) ≡ false → is_abort_of tx fact ≡ false
other_abort tx (stored.Aborted other) e = e
other_abort tx fact e = refl

-- ---- what isn't kept isn't asked for

and_false : (x : Bool) → (x && false) ≡ false
and_false true = refl
and_false false = refl

not_not : (b : Bool) → not b ≡ false → b ≡ true
not_not true e = refl
not_not false e = absurd (cc (e))

module _ (floor : Option Place) where
  abbrev p : Fact → Bool
  p = is_kept floor

  -- a fact that isn't kept is of no transaction that isn't below
  pub apart : (tx : TxParts) → is_below floor tx ≡ false → (f : Fact) → p f ≡ false → tx_eq tx (fact_tx f) ≡ false
  apart tx above f dropped = by_test (tx_eq tx (fact_tx f)) refl
    where
      by_test : (t : Bool) → tx_eq tx (fact_tx f) ≡ t → tx_eq tx (fact_tx f) ≡ false
      by_test true e =
          let below : is_below floor tx ≡ true =
          subst (λ (t : TxParts). is_below floor t ≡ true) (sym ((tx_decides tx (fact_tx f)).0 e))
          (not_not (is_below floor (fact_tx f)) dropped)
          in absurd (cc (above, below))
      by_test false e = e

  any_kept : (q : Fact → Bool) (facts : List Fact) → ((f : Fact) → p f ≡ false → q f ≡ false)
      → list_any q (kept_facts floor facts) ≡ list_any q facts
  any_kept q [] none = refl
  any_kept q (f ∷ fs) none =
      cond_both (p f) (f ∷ filter p fs) (filter p fs) (λ (zs : List Fact). list_any q zs ≡ (q f || list_any q fs))
      (λ kept. ap (λ (b : Bool). q f || b) (any_kept q fs none))
      (λ dropped. any_kept q fs none ∙ sym (ap (λ (b : Bool). b || list_any q fs) (none f dropped)))

  map_kept : {Y : Type 0} (g : Fact → Option Y) (facts : List Fact) → ((f : Fact) → p f ≡ false → g f ≡ None)
      → filter_map g (kept_facts floor facts) ≡ filter_map g facts
  map_kept g [] none = refl
  map_kept {Y} g (f ∷ fs) none =
      cond_both (p f) (f ∷ filter p fs) (filter p fs) (λ (zs : List Fact). filter_map g zs ≡ cons_option (g f) (filter_map g fs))
      (λ kept. ap (λ (ys : List Y). cons_option (g f) ys) (map_kept g fs none))
      (λ dropped. map_kept g fs none ∙ sym (ap (λ (o : Option Y). cons_option o (filter_map g fs)) (none f dropped)))

  -- ---- by transaction

  module _ (tx : TxParts) (above : is_below floor tx ≡ false) (facts : List Fact) where
    abbrev kept : List Fact
    kept = kept_facts floor facts

    joined_none : (i : ℕ) (f : Fact) → tx_eq tx (fact_tx f) ≡ false → ballot_joined tx i f ≡ None
    joined_none i (stored.Promise other j b) e =
        ap (λ (t : Bool). if (i == j) && t then Some b else None) e
        ∙ ap (λ (t : Bool). if t then Some b else None) (and_false (i == j))
    joined_none i (stored.Accept other j b v) e =
        ap (λ (t : Bool). if (i == j) && t then Some b else None) e
        ∙ ap (λ (t : Bool). if t then Some b else None) (and_false (i == j))
    joined_none i (stored.PromiseAll other b) e =
        ap (λ (t : Bool). if is_participant tx i && t then Some b else None) e
        ∙ ap (λ (t : Bool). if t then Some b else None) (and_false (is_participant tx i))
    joined_none i f e = refl

    accept_none : (i : ℕ) (f : Fact) → tx_eq tx (fact_tx f) ≡ false → accept_of tx i f ≡ None
    accept_none i (stored.Accept other j b v) e =
        ap (λ (t : Bool). if (i == j) && t then Some (b, v) else None) e
        ∙ ap (λ (t : Bool). if t then Some (b, v) else None) (and_false (i == j))
    accept_none i f e = refl

    begun_none : (f : Fact) → tx_eq tx (fact_tx f) ≡ false → ballot_begun tx f ≡ None
    begun_none (stored.Ballot other b) e = ap (λ (t : Bool). if t then Some b else None) e
    begun_none f e = refl

    -- a transaction that isn't below the floor has the slots that it had
    pub slot_kept : slot kept tx ≡ slot facts tx
    slot_kept = λ k i. record {
      mbal = greatest (map_kept (ballot_joined tx i) facts (λ f dropped. joined_none i f (apart tx above f dropped)) k);
      report = last_or None (map_kept (accept_of tx i) facts (λ f dropped. accept_none i f (apart tx above f dropped)) k);
    }

    -- the ballot that its leader began last
    pub last_ballot_kept : last_ballot kept tx ≡ last_ballot facts tx
    last_ballot_kept =
        ap greatest (map_kept (ballot_begun tx) facts (λ f dropped. begun_none f (apart tx above f dropped)))

    voted_kept : (v : Vote) → list_any (is_vote_of tx v) kept ≡ list_any (is_vote_of tx v) facts
    voted_kept v = any_kept (is_vote_of tx v) facts (λ f dropped. other_vote tx v f (apart tx above f dropped))

    commit_kept : list_any (is_commit_of tx) kept ≡ list_any (is_commit_of tx) facts
    commit_kept = any_kept (is_commit_of tx) facts (λ f dropped. other_commit tx f (apart tx above f dropped))

    abort_kept : list_any (is_abort_of tx) kept ≡ list_any (is_abort_of tx) facts
    abort_kept = any_kept (is_abort_of tx) facts (λ f dropped. other_abort tx f (apart tx above f dropped))

    -- the vote that was cast
    pub vote_kept : vote_in kept tx ≡ vote_in facts tx
    vote_kept = λ k.
        if voted_kept votes.Prepared k then Some votes.Prepared
        else if voted_kept votes.Aborted k then Some votes.Aborted
        else None

    -- whether it has ended
    pub ended_kept : is_ended kept tx ≡ is_ended facts tx
    ended_kept = λ k. commit_kept k || abort_kept k

    -- and the view of it
    pub view_kept : view kept tx ≡ view facts tx
    view_kept = λ k.
        if voted_kept votes.Aborted k || abort_kept k then views.Aborted
        else if commit_kept k then views.Committed
        else if voted_kept votes.Prepared k then views.Prepared
        else views.Working

  -- ---- names

  module _ (rm : ℕ) (x : XidParts) (above : is_xid_below floor x ≡ false) where
    abbrev name_of : Fact → Option XidParts
    name_of fact = xid_at (fact_tx fact) rm

    other_name : (f : Fact) → p f ≡ false → option_map_or (xid_eq x) (name_of f) false ≡ false
    other_name f dropped = by_branch (find (is_at rm) (fact_tx f).branches)
      where
        by_test : (b : BranchParts) (t : Bool) → xid_eq x (xid_of (fact_tx f) b) ≡ t → xid_eq x (xid_of (fact_tx f) b) ≡ false
        by_test b true e =
            let below : is_xid_below floor x ≡ true =
            subst (λ (y : XidParts). is_xid_below floor y ≡ true) (sym ((xid_decides x (xid_of (fact_tx f) b)).0 e))
            (not_not (is_below floor (fact_tx f)) dropped) in absurd (cc (above, below))
        by_test b false e = e

        by_branch : (o : Option BranchParts) → option_map_or (xid_eq x) (option_map (xid_of (fact_tx f)) o) false ≡ false
        by_branch None = refl
        by_branch (Some b) = by_test b (xid_eq x (xid_of (fact_tx f) b)) refl

    same_more : (o : Option XidParts) (xs ys : List XidParts) → list_any (xid_eq x) xs ≡ list_any (xid_eq x) ys
        → list_any (xid_eq x) (cons_option o xs) ≡ list_any (xid_eq x) (cons_option o ys)
    same_more None xs ys e = e
    same_more (Some y) xs ys e = ap (λ (b : Bool). xid_eq x y || b) e

    none_more : (o : Option XidParts) (ys : List XidParts) → option_map_or (xid_eq x) o false ≡ false
        → list_any (xid_eq x) (cons_option o ys) ≡ list_any (xid_eq x) ys
    none_more None ys e = refl
    none_more (Some y) ys e = ap (λ (b : Bool). b || list_any (xid_eq x) ys) e

    -- whether a name is spent
    pub spent_kept : (facts : List Fact) → is_spent rm (kept_facts floor facts) x ≡ is_spent rm facts x
    spent_kept [] = refl
    spent_kept (f ∷ fs) =
        cond_both (p f) (f ∷ filter p fs) (filter p fs)
        (λ (zs : List Fact). list_any (xid_eq x) (filter_map name_of zs)
        ≡ list_any (xid_eq x) (cons_option (name_of f) (filter_map name_of fs)))
        (λ kept. same_more (name_of f) (filter_map name_of (filter p fs)) (filter_map name_of fs) (spent_kept fs))
        (λ dropped. spent_kept fs ∙ sym (none_more (name_of f) (filter_map name_of fs) (other_name f dropped)))

  -- ---- prepared branches

  module _ (facts : List Fact) where
    -- whether the transaction of a bound branch is prepared by all facts
    abbrev pub now : Bound → Bool
    now bound = is_prepared_view (view facts bound.tx)

    -- whether it is by what is kept of them
    abbrev pub earlier : Bound → Bool
    earlier bound = is_prepared_view (view (kept_facts floor facts) bound.tx)

    -- a fact that binds a branch is about its transaction
    pub bound_tx : (f : Fact) (bound : Bound) → branch_bound_by f ≡ Some bound → fact_tx f ≡ bound.tx
    bound_tx (stored.VotePrepared tx keys) bound e =
        let same : record { tx = tx; keys = keys } ≡ bound = cc (e) in ap (λ (b : Bound). b.tx) same
    bound_tx (stored.Promise tx i b) bound e = absurd (cc (e))
    bound_tx (stored.Accept tx i b v) bound e = absurd (cc (e))
    bound_tx (stored.PromiseAll tx b) bound e = absurd (cc (e))
    bound_tx (stored.Ballot tx b) bound e = absurd (cc (e))
    bound_tx (stored.VoteAborted tx) bound e = absurd (cc (e))
    bound_tx (stored.Committed tx) bound e = absurd (cc (e))
    bound_tx (stored.Aborted tx) bound e = absurd (cc (e))

    is_view : (v : View) → is_prepared_view v ≡ true → v ≡ views.Prepared
    is_view views.Prepared e = refl
    is_view views.Working e = absurd (cc (e))
    is_view views.Committed e = absurd (cc (e))
    is_view views.Aborted e = absurd (cc (e))

    -- the two agree where the fact that bound it is kept
    pub same_test : (f : Fact) → p f ≡ true → (bound : Bound) → branch_bound_by f ≡ Some bound → earlier bound ≡ now bound
    same_test f kept bound e =
        let above : is_below floor bound.tx ≡ false =
        subst (λ (t : TxParts). is_below floor t ≡ false) (bound_tx f bound e) (not_true (is_below floor (fact_tx f)) kept) in
        ap is_prepared_view (view_kept bound.tx above facts)
      where
        not_true : (b : Bool) → not b ≡ true → b ≡ false
        not_true true h = absurd (cc (h))
        not_true false h = refl

    module _ (prepared : (tx : TxParts) → view facts tx ≡ views.Prepared → is_below floor tx ≡ false) where
      not_now : (f : Fact) → p f ≡ false → (bound : Bound) → branch_bound_by f ≡ Some bound → now bound ≡ false
      not_now f dropped bound e = by_test (now bound) refl
        where
          by_test : (t : Bool) → now bound ≡ t → now bound ≡ false
          by_test true h =
              let above = prepared bound.tx (is_view (view facts bound.tx) h) in
              let below : is_below floor bound.tx ≡ true =
              subst (λ (t : TxParts). is_below floor t ≡ true) (bound_tx f bound e) (not_not (is_below floor (fact_tx f)) dropped) in
              absurd (cc (above, below))
          by_test false h = h

      both_more : (o : Option Bound) (xs ys : List Bound) → ((bound : Bound) → o ≡ Some bound → earlier bound ≡ now bound)
          → filter earlier xs ≡ filter now ys → filter earlier (cons_option o xs) ≡ filter now (cons_option o ys)
      both_more None xs ys same e = e
      both_more (Some bound) xs ys same e = λ k. if same bound refl k then bound ∷ e k else e k

      none_there : (o : Option Bound) (ys : List Bound) → ((bound : Bound) → o ≡ Some bound → now bound ≡ false)
          → filter now (cons_option o ys) ≡ filter now ys
      none_there None ys none = refl
      none_there (Some bound) ys none = cond-false (now bound) (bound ∷ filter now ys) (filter now ys) (none bound refl)

      bound_by : (fs : List Fact) → filter earlier (filter_map branch_bound_by (filter p fs)) ≡ filter now (filter_map branch_bound_by fs)
      bound_by [] = refl
      bound_by (f ∷ fs) =
          cond_both (p f) (f ∷ filter p fs) (filter p fs)
          (λ (zs : List Fact). filter earlier (filter_map branch_bound_by zs)
          ≡ filter now (cons_option (branch_bound_by f) (filter_map branch_bound_by fs)))
          (λ kept. both_more (branch_bound_by f) (filter_map branch_bound_by (filter p fs)) (filter_map branch_bound_by fs)
          (same_test f kept) (bound_by fs))
          (λ dropped. bound_by fs ∙ sym (none_there (branch_bound_by f) (filter_map branch_bound_by fs) (not_now f dropped)))

      -- the branches that are bound are the same
      pub bound_kept : bound_branches (kept_facts floor facts) ≡ bound_branches facts
      bound_kept = bound_by facts

-- ---- the name that a transaction has

-- of a transaction that isn't below the floor, whether its branch's name is spent is the same
pub name_above : (floor : Option Place) (facts : List Fact) (tx : TxParts) (rm : ℕ) → is_below floor tx ≡ false → (o : Option BranchParts)
    → option_map_or (is_spent rm (kept_facts floor facts)) (option_map (xid_of tx) o) false
    ≡ option_map_or (is_spent rm facts) (option_map (xid_of tx) o) false
name_above floor facts tx rm above None = refl
name_above floor facts tx rm above (Some b) = spent_kept floor rm (xid_of tx b) above facts

-- ---- branches

-- where no branch of a resource manager is below a place, nothing that it has prepared is
pub free_prepared : (place : Place) (facts : List Fact) (branches : List Branch) → are_free_below place facts branches ≡ true
    → (tx : TxParts) → view facts tx ≡ views.Prepared → is_below (Some place) tx ≡ false
free_prepared place facts branches free tx is =
    let parts = and_parts (list_all (λ (b : Bound). not (is_below (Some place) b.tx)) (bound_branches facts))
    (list_all (λ (b : Branch). not (is_xid_below (Some place) b.xid)) branches) free in
    let prepared : is_prepared_view (view facts tx) ≡ true = ap is_prepared_view is in
    let vote = (prepared_shows facts tx prepared).0 in
    let bound : Bound = record { tx = tx; keys = vote.0 } in
    not-true (is_below (Some place) tx)
    (all_found (λ (b : Bound). not (is_below (Some place) b.tx)) (bound_branches facts) parts.0 bound
    (stored_bound facts bound (record { voted = vote.1; prepared = prepared })))

-- nor is one in memory
pub free_branch : (place : Place) (facts : List Fact) (branches : List Branch) → are_free_below place facts branches ≡ true
    → (branch : Branch) → IsIn branches branch → is_xid_below (Some place) branch.xid ≡ false
free_branch place facts branches free branch h =
    let parts = and_parts (list_all (λ (b : Bound). not (is_below (Some place) b.tx)) (bound_branches facts))
    (list_all (λ (b : Branch). not (is_xid_below (Some place) b.xid)) branches) free in
    not-true (is_xid_below (Some place) branch.xid)
    (all_found (λ (b : Branch). not (is_xid_below (Some place) b.xid)) branches parts.1 branch h)
