-- Branches stay apart, and the fact of each rule of a resource manager plays.
-- Needed by DoneCalls, Kept.Facts and Manager.Prepared; crates safety, resource_manager, history, forgetting, cluster and run_traces.
use Rattle.std.proofs.Common.{◌≡◌, ◌≢◌, ◌⊎◌, ℕ, Bool, true, false, not, ◌&&◌, if◌then◌else◌, List, [], ◌∷◌, ◌++◌, map, Option, Some, None}
use Rattle.std.proofs.Common.{is_some, is_none, unwrap_or, inl, inr, refl, sym, ap, ◌∙◌, subst}
use Rattle.std.specs.Prelude.{IfSome, find, filter_map, option_map}
use Rattle.std.specs.List.{list_any}
use Rattle.std.proofs.lemmas.List.{map-append}
use Rattle.std.proofs.lemmas.Bool.{cond_both, and_parts, and_from, both_ways, not-true, false_from_ne_true, not_from_false}
use Rattle.xid.specs.Names.{XidParts, xid_eq}
use Rattle.xid.specs.Transactions.{TxParts, is_participant, xid_at}
use Rattle.xid.specs.declared.codes.XaCode.TheVariants as codes
use Rattle.xid.specs.declared.transaction.Vote.TheVariants as votes
use Rattle.xid.specs.declared.refusals.Refusal.TheVariants.{Busy}
use Rattle.wire.specs.declared.message.Kind.{Kind}
use Rattle.wire.specs.declared.message.Kind.TheVariants as kinds
use Rattle.wire.specs.Messages as messages
use Rattle.protocol.specs.Basics.{Fact, Touched}
use Rattle.stable_record.specs.Facts.{AreAscending, fact_tx}
use Rattle.stable_record.specs.declared.fact.FactKind.TheVariants as stored
use Rattle.protocol.specs.Vocabulary.{BranchState, R, Action, Start, Put, Del, Get, End, EndFail, Rollback, Code, Refused, Row, Call}
use Rattle.protocol.specs.Vocabulary.{Timeout}
use Rattle.protocol.specs.Managers.{stored_votes, Branch, has_key, act_on, all_branches, view_by, view_named, is_hindered, branch_after}
use Rattle.protocol.specs.Managers.{branches_without, after_call, named_answer, on_call, idle_keys, first_vote, on_prepare, on_commit}
use Rattle.protocol.specs.Managers.{on_abort, on_manager_message, on_manager_timeout, plays_at_manager, is_new, is_name_spent, is_some_held}
use Rattle.protocol.specs.declared.states.BranchState.TheVariants as states
use Rattle.protocol.specs.Branches.{BranchView, is_write, hinders_use, hinders, is_done, key_of, by_state}
use Rattle.protocol.specs.Effects.{Config, Effect, is_inside}
use Rattle.protocol.specs.Facts.{vote_in, is_ended, is_spent, is_prepared_view, is_open_view, view, Bound, branch_bound_by, bound_branches}
use Rattle.protocol.specs.Nodes.{Memory, Input, Asked, Received, effect_of, is_message_inside, first_rows, plays, all_play}
use Rattle.protocol.specs.Tables.{table}
use Rattle.xid.proofs.Deciding.{xid_decides}
use Rattle.protocol.proofs.TouchedKeys.{changed_ascends}
use Rattle.ballot.specs.Greatest.{IsIn}
use Rattle.protocol.specs.Facts.{with_fact}
use Rattle.protocol.proofs.Lists.{any_found, none_found, IsIn-before, IsIn-after, IsIn-push, IsIn-mapped, filter_map_given, filter_kept}
use Rattle.protocol.proofs.Lists.{filter_keeps, found_among, filter_map_gives}
use Rattle.protocol.proofs.Manager.Views.{prepared_shows, prepared_before}
use Rattle.protocol.specs.Holds.{AreApart, AreDistinct, AreNamedOnce, names_of, OwnsWrites, AreDisjoint}
use Rattle.protocol.proofs.Manager.Names.{distinct_push, named_once_filtered}
use Rattle.protocol.proofs.Manager.Played.{voted_named}
use Rattle.protocol.proofs.Manager.Effects.{IsManagerFact, name_names, manager_effect_is}
use Rattle.protocol.proofs.Manager.Keys.{names_name, spent_by, still_unspent, changed_name, changed_keys, written_by, written_key}
use Rattle.protocol.proofs.Manager.Keys.{changed_writes, writer_hinders, holder_hinders, disjoint_to}

-- as after a restart
pub none_apart : (rm : ℕ) (facts : List Fact) → AreApart rm facts []
none_apart rm facts = record {
  unspent = λ b h. absurd h;
  apart = λ b c h. absurd h;
  free = λ b bound h. absurd h;
  distinct = tt;
  ordered = λ b h. absurd h;
}

fewer_apart : (rm : ℕ) (facts : List Fact) (branches fewer : List Branch) → ((b : Branch) → IsIn fewer b → IsIn branches b)
    → AreNamedOnce fewer → AreApart rm facts branches → AreApart rm facts fewer
fewer_apart rm facts branches fewer some distinct are = record {
  unspent = λ b h. are.unspent b (some b h);
  apart = λ b c h k. are.apart b c (some b h) (some c k);
  free = λ b bound h. are.free b bound (some b h);
  distinct = distinct;
  ordered = λ b h. are.ordered b (some b h);
}

-- a branch that is left has another name than the one that was taken away
pub without_name : (branches : List Branch) (x : XidParts) (b : Branch) → IsIn (branches_without branches x) b → b.xid ≢ x
without_name branches x b h e =
    both_ways (xid_eq b.xid x) (not-true (xid_eq b.xid x) (filter_kept (λ branch. not (xid_eq branch.xid x)) branches b h).1)
    ((xid_decides b.xid x).1 e)

-- and it was there before
pub without_some : (branches : List Branch) (x : XidParts) (b : Branch) → IsIn (branches_without branches x) b → IsIn branches b
without_some branches x b h = (filter_kept (λ branch. not (xid_eq branch.xid x)) branches b h).0

without_distinct : (branches : List Branch) (x : XidParts) → AreNamedOnce branches → AreNamedOnce (branches_without branches x)
without_distinct branches x distinct = named_once_filtered (λ branch. not (xid_eq branch.xid x)) branches distinct

-- ---- prepared branches

-- a branch is bound by a stored vote to commit
pub bound_is : (fact : Fact) (bound : Bound) → branch_bound_by fact ≡ Some bound → fact ≡ stored.VotePrepared bound.tx bound.keys
bound_is (stored.VotePrepared tx keys) bound e =
    let first : Bound = record { tx = tx; keys = keys } in
    let same : first ≡ bound = ap (λ o. unwrap_or o first) e in λ i. stored.VotePrepared (same i).tx (same i).keys
bound_is fact bound e = absurd (cc (e))

-- a prepared branch: its vote is stored, and its view is prepared
pub record IsBoundBranch (facts : List Fact) (bound : Bound) : Type 0 where
  pub voted : IsIn facts (stored.VotePrepared bound.tx bound.keys)
  pub prepared : is_prepared_view (view facts bound.tx) ≡ true

-- a branch that is bound has its fact
pub bound_stored : (facts : List Fact) (bound : Bound) → IsIn (bound_branches facts) bound → IsBoundBranch facts bound
bound_stored facts bound h =
    let kept = filter_kept (λ (b : Bound). is_prepared_view (view facts b.tx)) (filter_map branch_bound_by facts) bound h in
    let given = filter_map_given branch_bound_by facts bound kept.0 in
    record { voted = subst (IsIn facts) (bound_is given.source bound given.gives) given.among; prepared = kept.1 }

-- and the other way round
pub stored_bound : (facts : List Fact) (bound : Bound) → IsBoundBranch facts bound → IsIn (bound_branches facts) bound
stored_bound facts bound is =
    filter_keeps (λ (b : Bound). is_prepared_view (view facts b.tx)) (filter_map branch_bound_by facts) bound
    (filter_map_gives branch_bound_by facts (stored.VotePrepared bound.tx bound.keys) bound is.voted refl) is.prepared

-- ---- one more fact

module _ (rm : ℕ) (facts : List Fact) (fact : Fact) (branches fewer : List Branch) (are : AreApart rm facts branches)
    (some : (b : Branch) → IsIn fewer b → IsIn branches b) (distinct : AreNamedOnce fewer)
    (others : (b : Branch) → IsIn fewer b → xid_at (fact_tx fact) rm ≡ Some b.xid → ⊥)
    (new : (bound : Bound) → fact ≡ stored.VotePrepared bound.tx bound.keys → (b : Branch) → IsIn fewer b
    → AreDisjoint b.keys bound.keys) where
  free_after : (b : Branch) (bound : Bound) → IsIn fewer b → IsIn (bound_branches (facts ++ fact ∷ [])) bound
      → AreDisjoint b.keys bound.keys
  free_after b bound h k =
      let is = bound_stored (facts ++ fact ∷ []) bound k in
      elim (IsIn-push facts fact (stored.VotePrepared bound.tx bound.keys) is.voted) [
        | inl old ↦ are.free b bound (some b h)
            (stored_bound facts bound
            (record { voted = old; prepared = prepared_before facts fact bound.tx (bound.keys, old) is.prepared }))
        | inr e ↦ new bound e b h
      ]

  pub apart_after : AreApart rm (facts ++ fact ∷ []) fewer
  apart_after = record {
    unspent = λ b h. still_unspent rm facts fact b.xid (are.unspent b (some b h)) (others b h);
    apart = λ b c h k. are.apart b c (some b h) (some c k);
    free = free_after;
    distinct = distinct;
    ordered = λ b h. are.ordered b (some b h);
  }

-- ---- messages

-- an effect leaves the branches apart
abbrev pub IsApartAfter : ℕ → List Fact → Effect (List Branch) → Type 0
IsApartAfter rm facts e = AreApart rm (with_fact facts e.fact) e.memory

-- a branch of a name with these keys
pub record IsBranchHolding (branches : List Branch) (x : XidParts) (keys : List Touched) : Type 0 where
  pub branch : Branch
  pub among : IsIn branches branch
  pub name : branch.xid ≡ x
  pub holds : branch.keys ≡ keys

module _ (p : Branch → Bool) (branches : List Branch) (x : XidParts) (keys : List Touched) where
  idle_at : (o : Option Branch)
      → ((b : Branch) → p b ≡ true → b.xid ≡ x)
      → find p branches ≡ o → option_map (λ (branch : Branch). branch.keys) o ≡ Some keys → IsBranchHolding branches x keys
  idle_at None names_it f e = absurd (cc (e))
  idle_at (Some b) names_it f e =
      let found = found_among p branches b f in
      record { branch = b; among = found.0; name = names_it b found.1; holds = ap (λ o. unwrap_or o b.keys) e }

-- keys that an idle branch has are held by it
pub idle_branch : (branches : List Branch) (x : XidParts) (keys : List Touched) → idle_keys branches x ≡ Some keys
    → IsBranchHolding branches x keys
idle_branch branches x keys e = idle_at _ branches x keys _ (λ b h. (xid_decides b.xid x).0 (and_parts (xid_eq b.xid x) _ h).0) refl e

-- an answer is one name
pub name_of : (o : Option XidParts) (x y : XidParts) → o ≡ Some x → o ≡ Some y → x ≡ y
name_of o x y e f = ap (λ q. unwrap_or q x) (sym e ∙ f)

module _ (rm : ℕ) (facts : List Fact) (branches : List Branch) (are : AreApart rm facts branches) where
  -- the branch of a fact's name goes
  pub gone : (fact : Fact) (x : XidParts) → xid_at (fact_tx fact) rm ≡ Some x
      → ((bound : Bound) → fact ≡ stored.VotePrepared bound.tx bound.keys → (b : Branch) → IsIn (branches_without branches x) b
      → AreDisjoint b.keys bound.keys)
      → AreApart rm (facts ++ fact ∷ []) (branches_without branches x)
  gone fact x name new = apart_after rm facts fact branches (branches_without branches x) are (without_some branches x)
      (without_distinct branches x are.distinct)
      (λ b h e. without_name branches x b h (name_of (xid_at (fact_tx fact) rm) b.xid x e name)) new

  -- the keys of a first vote
  pub voted_apart : (tx : TxParts) (x : XidParts) (keys : List Touched) → idle_keys branches x ≡ Some keys
      → (bound : Bound) → stored.VotePrepared tx keys ≡ stored.VotePrepared bound.tx bound.keys → (b : Branch)
      → IsIn (branches_without branches x) b → AreDisjoint b.keys bound.keys
  voted_apart tx x keys idle bound e b h =
      let held = idle_branch branches x keys idle in
      let same : keys ≡ bound.keys = ap keys_of e in
      let among = without_some branches x b h in
      let other : b.xid ≢ held.branch.xid = λ f. without_name branches x b h (f ∙ held.name) in
      subst (AreDisjoint b.keys) (held.holds ∙ same)
      (are.apart b held.branch among held.among other, are.apart held.branch b held.among among (λ f. other (sym f)))
    where
      keys_of : Fact → List Touched
      keys_of (stored.VotePrepared t ks) = ks
      keys_of fact = []

  first_apart : (tx : TxParts) (x : XidParts) (spent : Bool) (idle : Option (List Touched)) → xid_at tx rm ≡ Some x
      → idle_keys branches x ≡ idle
      → IsApartAfter rm facts (first_vote rm branches tx x spent idle)
  first_apart tx x false (Some keys) name idle = gone (stored.VotePrepared tx keys) x name (voted_apart tx x keys idle)
  first_apart tx x spent idle name is_idle = gone (stored.VoteAborted tx) x name (λ bound e. absurd (cc (e)))

  pub prepare_apart : (tx : TxParts) (x : XidParts) → xid_at tx rm ≡ Some x
      → IsApartAfter rm facts (on_prepare rm (stored_votes rm facts) branches tx x)
  prepare_apart tx x name = cond_both (is_some (vote_in facts tx)) _ _ (IsApartAfter rm facts) (λ some. are)
      (λ new. cond_both (is_ended facts tx) _ _ (IsApartAfter rm facts) (λ ended. are)
      (λ unended. first_apart tx x (is_spent rm facts x) (idle_keys branches x) name refl))

  pub commit_apart : (tx : TxParts) → IsApartAfter rm facts (on_commit (stored_votes rm facts) branches tx)
  commit_apart tx = cond_both (is_prepared_view (view facts tx)) _ _ (IsApartAfter rm facts)
      (λ prepared. apart_after rm facts (stored.Committed tx) branches branches are (λ b h. h) are.distinct
      (λ b h e. let vote = (prepared_shows facts tx prepared).0 in
      both_ways (is_spent rm facts b.xid) (are.unspent b h) (spent_by rm facts (stored.VotePrepared tx vote.0) b.xid vote.1 e))
      (λ bound e. absurd (cc (e))))
      (λ other. are)

  pub abort_apart : (tx : TxParts) (x : XidParts) → xid_at tx rm ≡ Some x
      → IsApartAfter rm facts (on_abort (stored_votes rm facts) branches tx x)
  abort_apart tx x name = cond_both (is_open_view (view facts tx)) _ _ (IsApartAfter rm facts)
      (λ opens. gone (stored.Aborted tx) x name (λ bound e. absurd (cc (e))))
      (λ other. are)

  pub takes_apart : (m : Kind) (o : Option XidParts) → xid_at (messages.message_tx m) rm ≡ o
      → IsApartAfter rm facts (on_manager_message rm (stored_votes rm facts) branches o m)
  takes_apart (kinds.Prepare tx) (Some x) name = prepare_apart tx x name
  takes_apart (kinds.Commit tx) (Some x) name = commit_apart tx
  takes_apart (kinds.Abort tx) (Some x) name = abort_apart tx x name
  takes_apart m (Some x) name = are
  takes_apart m None name = are

  pub timeout_apart : (config : Config) (tx : TxParts)
      → IsApartAfter rm facts (on_manager_timeout config rm (stored_votes rm facts) branches tx)
  timeout_apart config tx = cond_both (is_inside config tx) _ _ (IsApartAfter rm facts) (λ inside. are) (λ outside. are)

-- ---- client calls

start_unspent : (spent : Bool) (rows : List Row) (shows : BranchView) (busy : Bool)
    → is_done Start (named_answer spent rows shows busy Start) ≡ true → spent ≡ false
start_unspent true rows shows busy h = absurd (cc (h))
start_unspent false rows shows busy h = refl

pub start_by : (state : Option BranchState) → is_done Start (if is_none state then Code codes.Ok else Code codes.DupId) ≡ true
    → state ≡ None
start_by None h = refl
start_by (Some state) h = absurd (cc (h))

-- a branch that was started wasn't there
start_new : (spent : Bool) (rows : List Row) (shows : BranchView) (busy : Bool)
    → is_done Start (named_answer spent rows shows busy Start) ≡ true → shows.state ≡ None
start_new true rows shows busy h = absurd (cc (h))
start_new false rows shows busy h = start_by shows.state h

module _ (b c : Branch) (bs : List Branch) (x : XidParts) where
  unnamed_by : ((view_named bs x).state ≡ None → IsIn bs c → c.xid ≢ x) → (t : Bool) → xid_eq b.xid x ≡ t
      → (view_named (b ∷ bs) x).state ≡ None → IsIn (b ∷ bs) c → c.xid ≢ x
  unnamed_by rest true e none h f =
      let shows : (view_named (b ∷ bs) x).state
      ≡ Some b.state = ap (λ (t : Bool). (if t then view_by b.state b.keys else view_named bs x).state) e in
      absurd (cc (none, shows))
  unnamed_by rest false e none (inl same) f = both_ways (xid_eq b.xid x) e ((xid_decides b.xid x).1 (ap (λ (d : Branch). d.xid) same ∙ f))
  unnamed_by rest false e none (inr h) f = rest (sym (ap (λ (t : Bool). (if t then view_by b.state b.keys else view_named bs x).state) e)
      ∙ none) h f

-- where no branch of a name shows, none has the name
unnamed : (bs : List Branch) (x : XidParts) → (view_named bs x).state ≡ None → (b : Branch) → IsIn bs b → b.xid ≢ x
unnamed [] x none b h = absurd h
unnamed (c ∷ bs) x none b h = unnamed_by c b bs x (λ e k. unnamed bs x e b k) (xid_eq c.xid x) refl none h

-- a call on a key that another branch hinders isn't done
put_held : (key value : List ℕ) (fits : Bool) (state : Option BranchState)
    → is_done (Put key value)
    (if fits then by_state state (Code codes.Nota) (Refused Busy) (Code codes.Proto) else Code codes.Inval) ≡ false
put_held key value true (Some states.Active) = refl
put_held key value fits state = refl

del_held : (key : List ℕ) (fits : Bool) (state : Option BranchState)
    → is_done (Del key) (if fits then by_state state (Code codes.Nota) (Refused Busy) (Code codes.Proto) else Code codes.Inval) ≡ false
del_held key true (Some states.Active) = refl
del_held key fits state = refl

get_held : (key : List ℕ) (fits : Bool) (state : Option BranchState)
    → is_done (Get key) (if fits then by_state state (Code codes.Nota) (Refused Busy) (Code codes.Proto) else Code codes.Inval) ≡ false
get_held key true (Some states.Active) = refl
get_held key fits state = refl

not_busy : (action : Action) (spent : Bool) (rows : List Row) (shows : BranchView) (busy : Bool) (key : List ℕ) → key_of action ≡ Some key
    → is_done action (named_answer spent rows shows busy action) ≡ true → busy ≡ false
not_busy action spent rows shows false key e done = refl
not_busy (Put k value) true rows shows true key e done = absurd (both_ways _ (put_held k value _ shows.state) done)
not_busy (Put k value) false rows shows true key e done = absurd (both_ways _ (put_held k value _ shows.state) done)
not_busy (Del k) true rows shows true key e done = absurd (both_ways _ (del_held k _ shows.state) done)
not_busy (Del k) false rows shows true key e done = absurd (both_ways _ (del_held k _ shows.state) done)
not_busy (Get k) true rows shows true key e done = absurd (both_ways _ (get_held k _ shows.state) done)
not_busy (Get k) false rows shows true key e done = absurd (both_ways _ (get_held k _ shows.state) done)
not_busy action spent rows shows true key e done = absurd (cc (e))

-- a prepared branch, as it is among all
abbrev pub named_so : List Touched → XidParts → Branch
named_so keys x = record { xid = x; state = states.Prepared; keys = keys }

module _ (rm : ℕ) (facts : List Fact) (branches : List Branch) (x : XidParts) (are : AreApart rm facts branches)
    (named : (bound : Bound) → IsIn (bound_branches facts) bound → is_participant bound.tx rm ≡ true) where
  abbrev all : List Branch
  all = all_branches rm (bound_branches facts) branches

  -- a prepared branch by its name
  all_bound : (bound : Bound) → IsIn (bound_branches facts) bound → (y : XidParts) → xid_at bound.tx rm ≡ Some y
      → IsIn all (named_so bound.keys y)
  all_bound bound h y e =
      let b : Branch = named_so bound.keys y in
      IsIn-before (filter_map _ (bound_branches facts)) branches b
      (filter_map_gives _ (bound_branches facts) bound b h
      (ap (λ (o : Option XidParts). option_map (named_so bound.keys) o) e))

  all_own : (b : Branch) → IsIn branches b → IsIn all b
  all_own b h = IsIn-after (filter_map _ (bound_branches facts)) branches b h

  module _ (action : Action) (free : (key : List ℕ) → key_of action ≡ Some key → is_hindered (hinders action) all x ≡ false) where
    -- no other branch hinders a call on a key
    unhindered : (key : List ℕ) → key_of action ≡ Some key → (b : Branch) → IsIn all b → b.xid ≢ x
        → hinders action (view_by b.state b.keys) ≡ true → ⊥
    unhindered key e b h apart k =
        none_found (λ (branch : Branch). not (xid_eq branch.xid x) && hinders action (view_by branch.state branch.keys)) all (free key e)
        b h (and_from (not (xid_eq b.xid x)) (hinders action (view_by b.state b.keys))
        (not_from_false (xid_eq b.xid x) (false_from_ne_true (xid_eq b.xid x) (λ f. apart ((xid_decides b.xid x).0 f)))) k)

    abbrev step : Branch → Branch
    step branch = if xid_eq branch.xid x then branch_after action branch else branch

    step_name : (b : Branch) → (step b).xid ≡ b.xid
    step_name b = cond_both (xid_eq b.xid x) _ _ (λ (c : Branch). c.xid ≡ b.xid) (λ same. changed_name action b) (λ other. refl)

    step_keys : (b : Branch) (key : List ℕ) → has_key key (step b).keys ≡ true
        → (has_key key b.keys ≡ true) ⊎ ((b.xid ≡ x) × (key_of action ≡ Some key))
    step_keys b key = cond_both (xid_eq b.xid x) _ _
        (λ (c : Branch). has_key key c.keys ≡ true → (has_key key b.keys ≡ true) ⊎ ((b.xid ≡ x) × (key_of action ≡ Some key)))
        (λ same h. elim (changed_keys action b key h) [ inl old ↦ inl old | inr new ↦ inr ((xid_decides b.xid x).0 same, new) ])
        (λ other h. inl h)

    step_writes : (b : Branch) (key : List ℕ) → AreAscending b.keys → is_write (act_on (step b).keys key) ≡ true
        → (is_write (act_on b.keys key) ≡ true) ⊎ ((b.xid ≡ x) × (written_by action ≡ Some key))
    step_writes b key ascending = cond_both (xid_eq b.xid x) _ _
        (λ (c : Branch). is_write (act_on c.keys key) ≡ true
        → (is_write (act_on b.keys key) ≡ true) ⊎ ((b.xid ≡ x) × (written_by action ≡ Some key)))
        (λ same h. elim (changed_writes action b key ascending h) [
          | inl old ↦ inl old
          | inr new ↦ inr ((xid_decides b.xid x).0 same, new)
        ])
        (λ other h. inl h)

    step_apart : (b c : Branch) → IsIn branches b → IsIn branches c → b.xid ≢ c.xid → OwnsWrites (step b).keys (step c).keys
    step_apart b c h k apart key p q = elim (step_writes b key (are.ordered b h) p) [
      | inl old ↦ elim (step_keys c key q) [
        | inl also ↦ are.apart b c h k apart key old also
        | inr new ↦
            unhindered key new.1 b (all_own b h) (λ e. apart (e ∙ sym new.0)) (writer_hinders action key b.state b.keys new.1 old)
      ]
      | inr new ↦ elim (step_keys c key q) [
        | inl also ↦
            unhindered key (written_key action key new.1) c (all_own c k) (λ e. apart (new.0 ∙ sym e))
            (holder_hinders action key c.state c.keys new.1 also)
        | inr both ↦ apart (new.0 ∙ sym both.0)
      ]
    ]

    -- nor does a prepared branch, beside one of this name
    bound_unhindered : (b : Branch) (bound : Bound) (key : List ℕ) → IsIn branches b → IsIn (bound_branches facts) bound → b.xid ≡ x
        → key_of action ≡ Some key → hinders action (view_by states.Prepared bound.keys) ≡ true → ⊥
    bound_unhindered b bound key h k own e hindered =
        let name = names_name bound.tx rm (named bound k) in
        unhindered key e (named_so bound.keys name.0) (all_bound bound k name.0 name.1)
        (λ f. both_ways (is_spent rm facts b.xid) (are.unspent b h)
        (spent_by rm facts (stored.VotePrepared bound.tx bound.keys) b.xid (bound_stored facts bound k).voted
        (name.1 ∙ ap Some (f ∙ sym own)))) hindered

    step_free : (b : Branch) (bound : Bound) → IsIn branches b → IsIn (bound_branches facts) bound → AreDisjoint (step b).keys bound.keys
    step_free b bound h k = (
      λ key p q. elim (step_writes b key (are.ordered b h) p) [
        | inl old ↦ (are.free b bound h k).0 key old q
        | inr new ↦
            bound_unhindered b bound key h k new.0 (written_key action key new.1)
            (holder_hinders action key states.Prepared bound.keys new.1 q)
      ],
      λ key p q. elim (step_keys b key q) [
        | inl old ↦ (are.free b bound h k).1 key p old
        | inr new ↦ bound_unhindered b bound key h k new.0 new.1 (writer_hinders action key states.Prepared bound.keys new.1 p)
      ],
    )

    step_ordered : (b : Branch) → AreAscending b.keys → AreAscending (step b).keys
    step_ordered b ordered =
        cond_both (xid_eq b.xid x) _ _ (λ (c : Branch). AreAscending c.keys) (λ same. changed_ascends action b ordered) (λ other. ordered)

    step_names : (bs : List Branch) → names_of (map step bs) ≡ names_of bs
    step_names [] = refl
    step_names (b ∷ bs) = λ i. step_name b i ∷ step_names bs i

    mapped_apart : AreApart rm facts (map step branches)
    mapped_apart = record {
      unspent = λ b h.
          let from = IsIn-mapped step branches b h in
          subst (λ (c : Branch). is_spent rm facts c.xid ≡ false) from.maps
          (ap (is_spent rm facts) (step_name from.source) ∙ are.unspent from.source from.among);
      apart = λ b c h k apart.
          let one = IsIn-mapped step branches b h in
          let two = IsIn-mapped step branches c k in
          subst (λ (d : Branch). OwnsWrites d.keys c.keys) one.maps
          (subst (λ (d : Branch). OwnsWrites (step one.source).keys d.keys) two.maps
          (step_apart one.source two.source one.among two.among
          (λ e. apart (ap (λ (d : Branch). d.xid) (sym one.maps) ∙ step_name one.source ∙ e ∙ sym (step_name two.source)
          ∙ ap (λ (d : Branch). d.xid) two.maps))));
      free = λ b bound h k.
          let from = IsIn-mapped step branches b h in
          subst (λ (d : Branch). AreDisjoint d.keys bound.keys) from.maps (step_free from.source bound from.among k);
      distinct = subst AreDistinct (sym (step_names branches)) are.distinct;
      ordered = λ b h.
          let from = IsIn-mapped step branches b h in
          subst (λ (d : Branch). AreAscending d.keys) from.maps (step_ordered from.source (are.ordered from.source from.among));
    }

  -- a branch that was just started
  started_apart : is_spent rm facts x ≡ false → ((b : Branch) → IsIn branches b → b.xid ≢ x)
      → AreApart rm facts (branches ++ record { xid = x; state = states.Active; keys = [] } ∷ [])
  started_apart unspent unnamed =
      let fresh : Branch = record { xid = x; state = states.Active; keys = [] } in
      record {
        unspent = λ b h. elim (IsIn-push branches fresh b h) [
          | inl old ↦ are.unspent b old
          | inr e ↦ subst (λ (c : Branch). is_spent rm facts c.xid ≡ false) e unspent
        ];
        apart = λ b c h k apart. elim (IsIn-push branches fresh b h) [
          | inl old ↦ elim (IsIn-push branches fresh c k) [
            | inl also ↦ are.apart b c old also apart
            | inr e ↦ subst (λ (d : Branch). OwnsWrites b.keys d.keys) e (λ key p q. absurd (cc (q)))
          ]
          | inr e ↦ subst (λ (d : Branch). OwnsWrites d.keys c.keys) e (λ key p q. absurd (cc (p)))
        ];
        free = λ b bound h k. elim (IsIn-push branches fresh b h) [
          | inl old ↦ are.free b bound old k
          | inr e ↦ subst (λ (d : Branch). AreDisjoint d.keys bound.keys) e (λ key p q. absurd (cc (p)), λ key p q. absurd (cc (q)))
        ];
        distinct = subst AreDistinct (sym (map-append (λ (b : Branch). b.xid) branches (fresh ∷ [])))
            (distinct_push (names_of branches) x are.distinct (λ h.
            let at = IsIn-mapped (λ (b : Branch). b.xid) branches x h in unnamed at.source at.among at.maps));
        ordered = λ b h. elim (IsIn-push branches fresh b h) [
          | inl old ↦ are.ordered b old
          | inr e ↦ subst (λ (d : Branch). AreAscending d.keys) e tt
        ];
      }

  after_apart : (action : Action) (spent : Bool) (rows : List Row) → is_spent rm facts x ≡ spent
      → is_done action (named_answer spent rows (view_named all x) (is_hindered (hinders action) all x) action) ≡ true
      → AreApart rm facts (after_call branches x action)
  after_apart Start spent rows e done = started_apart
      (e ∙ start_unspent spent rows (view_named all x) (is_hindered (hinders Start) all x) done)
      (λ b h. unnamed all x (start_new spent rows (view_named all x) (is_hindered (hinders Start) all x) done) b (all_own b h))
  after_apart Rollback spent rows e done = fewer_apart rm facts branches (branches_without branches x) (without_some branches x)
      (without_distinct branches x are.distinct) are
  after_apart (Put key value) spent rows e done = mapped_apart (Put key value)
      (λ k f. not_busy (Put key value) spent rows (view_named all x) (is_hindered (hinders (Put key value)) all x) k f done)
  after_apart (Del key) spent rows e done = mapped_apart (Del key)
      (λ k f. not_busy (Del key) spent rows (view_named all x) (is_hindered (hinders (Del key)) all x) k f done)
  after_apart (Get key) spent rows e done = mapped_apart (Get key)
      (λ k f. not_busy (Get key) spent rows (view_named all x) (is_hindered (hinders (Get key)) all x) k f done)
  after_apart End spent rows e done = mapped_apart End (λ k f. absurd (cc (f)))
  after_apart EndFail spent rows e done = mapped_apart EndFail (λ k f. absurd (cc (f)))

  -- branches stay apart in what a call leaves
  pub call_apart : (first : List Row) (action : Action)
      → AreApart rm facts (on_call rm (stored_votes rm facts) (table first facts) branches x action).memory
  call_apart first action = cond_both
      (is_done action
      (named_answer (is_spent rm facts x) (table first facts) (view_named all x) (is_hindered (hinders action) all x) action)) _ _
      (AreApart rm facts)
      (λ done. after_apart action (is_spent rm facts x) (table first facts) refl done) (λ refused. are)

-- ---- every input

-- facts that played: a prepared branch's transaction names this resource manager
pub bound_named : (config : Config) (rm : ℕ) (facts : List Fact) → all_play config (R rm) [] facts ≡ true
    → (bound : Bound) → IsIn (bound_branches facts) bound → is_participant bound.tx rm ≡ true
bound_named config rm facts play bound h =
    voted_named config rm facts play bound.tx votes.Prepared (bound.keys, (bound_stored facts bound h).voted)

-- whatever a resource manager is handed, its branches stay apart
pub manager_stays_apart : (config : Config) (rm : ℕ) (facts : List Fact) (memory : Memory) (input : Input)
    → all_play config (R rm) [] facts ≡ true → AreApart rm facts memory.branches
    → AreApart rm (with_fact facts (effect_of config (R rm) facts memory input).fact)
    (effect_of config (R rm) facts memory input).memory.branches
manager_stays_apart config rm facts memory (Received m) play are = cond_both (is_message_inside config m) _ _
    (λ (e : Effect Memory). AreApart rm (with_fact facts e.fact) e.memory.branches)
    (λ inside. takes_apart rm facts memory.branches are m (xid_at (messages.message_tx m) rm) refl) (λ outside. are)
manager_stays_apart config rm facts memory (Asked (Call x action)) play are =
    call_apart rm facts memory.branches x are (bound_named config rm facts play) (first_rows config rm) action
manager_stays_apart config rm facts memory (Asked (Timeout tx)) play are = timeout_apart rm facts memory.branches are config tx
manager_stays_apart config rm facts memory other play are = are

-- ---- facts play

unspent_at : (rm : ℕ) (facts : List Fact) (tx : TxParts) (x : XidParts) → xid_at tx rm ≡ Some x → is_spent rm facts x ≡ false
    → is_name_spent rm (stored_votes rm facts) tx ≡ false
unspent_at rm facts tx x name unspent = rw name unspent

-- keys of a branch that isn't prepared are held by no prepared one
pub unheld_by : (rm : ℕ) (facts : List Fact) (branches : List Branch) (x : XidParts) (keys : List Touched) → AreApart rm facts branches
    → IsBranchHolding branches x keys → is_some_held (bound_branches facts) keys ≡ false
unheld_by rm facts branches x keys are held = false_from_ne_true (is_some_held (bound_branches facts) keys)
    (λ h.
    let hindered = λ (bound : Bound) (touched : Touched).
    hinders_use (is_write touched.act) touched.key (view_by states.Prepared bound.keys) in
    let outer = any_found (λ (bound : Bound). list_any (hindered bound) keys) (bound_branches facts) h in
    let inner = any_found (hindered outer.element) keys outer.passes in
    disjoint_to states.Prepared keys outer.element.keys
    (subst (λ (ks : List Touched). AreDisjoint ks outer.element.keys) held.holds
    (are.free held.branch outer.element held.among outer.among))
    (subst AreAscending held.holds (are.ordered held.branch held.among)) inner.element (inner.among, inner.passes))

unheld_keys : (rm : ℕ) (facts : List Fact) (branches : List Branch) (x : XidParts) (keys : List Touched) → AreApart rm facts branches
    → idle_keys branches x ≡ Some keys → is_some_held (bound_branches facts) keys ≡ false
unheld_keys rm facts branches x keys are idle = unheld_by rm facts branches x keys are (idle_branch branches x keys idle)

is_new_from : (rm : ℕ) (facts : List Fact) (tx : TxParts) → is_some (vote_in facts tx) ≡ false → is_ended facts tx ≡ false
    → is_new (stored_votes rm facts) tx ≡ true
is_new_from rm facts tx new unended = and_from (is_none (vote_in facts tx)) (not (is_ended facts tx))
    (not_from_false (is_some (vote_in facts tx)) new) (not_from_false (is_ended facts tx) unended)

-- a fact that a rule stores plays, where the branches are apart
pub fact_plays : (rm : ℕ) (facts : List Fact) (branches : List Branch) (input : Input) (fact : Fact) → AreApart rm facts branches
    → IsManagerFact rm facts branches input fact → plays_at_manager rm (stored_votes rm facts) fact ≡ true
fact_plays rm facts branches input (stored.VotePrepared tx keys) are is =
    and_from (is_participant tx rm && is_new (stored_votes rm facts) tx
    && not (is_name_spent rm (stored_votes rm facts) tx)) (not (is_some_held (bound_branches facts) keys))
    (and_from (is_participant tx rm && is_new (stored_votes rm facts) tx) (not (is_name_spent rm (stored_votes rm facts) tx))
    (and_from (is_participant tx rm) (is_new (stored_votes rm facts) tx) (name_names tx rm is.0 is.1.first.name)
    (is_new_from rm facts tx is.1.first.new is.1.first.unended))
    (not_from_false (is_name_spent rm (stored_votes rm facts) tx) (unspent_at rm facts tx is.0 is.1.first.name is.1.unspent)))
    (not_from_false (is_some_held (bound_branches facts) keys) (unheld_keys rm facts branches is.0 keys are is.1.idle))
fact_plays rm facts branches input (stored.VoteAborted tx) are is =
    and_from (is_participant tx rm) (is_new (stored_votes rm facts) tx) (name_names tx rm is.0 is.1.name)
    (is_new_from rm facts tx is.1.new is.1.unended)
fact_plays rm facts branches input (stored.Committed tx) are is = is.prepared
fact_plays rm facts branches input (stored.Aborted tx) are is =
    and_from (is_participant tx rm) (is_open_view (view facts tx)) (name_names tx rm is.0 is.1.name) is.1.opens
fact_plays rm facts branches input fact are is = absurd is

-- the fact of a resource manager's effect plays
pub manager_met : (config : Config) (rm : ℕ) (facts : List Fact) (memory : Memory) (input : Input) → AreApart rm facts memory.branches
    → (fact : Fact) → (effect_of config (R rm) facts memory input).fact ≡ Some fact → plays config (R rm) facts fact ≡ true
manager_met config rm facts memory input are fact e =
    fact_plays rm facts memory.branches input fact are
    (subst (λ (o : Option Fact). IfSome o (IsManagerFact rm facts memory.branches input)) e
    (manager_effect_is config rm facts memory input).fact_is)
