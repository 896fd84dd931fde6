-- Of two transactions that conflict at a manager, the one that it committed first was committed first anywhere.
-- Needed by KeyCourses, SerialReads and SerialTables.
use Rattle.std.proofs.Common.{◌≡◌, ◌≢◌, ◌⊎◌, inl, inr, ◌∙◌, ℕ, Bool, true, false, ◌==◌, if◌then◌else◌, eq-eqb, List, [], ◌∷◌, ◌++◌}
use Rattle.std.proofs.Common.{append-nil, Option, Some, None, unwrap_or, refl, sym, ap, subst}
use Rattle.std.specs.Prelude.{filter_map, find}
use Rattle.std.specs.List.{cons_option}
use Rattle.std.specs.Option.{option_map_or, option_and_then}
use Rattle.std.proofs.lemmas.Bool.{both_ways, false_from_ne_true, or_left, or_right}
use Rattle.std.proofs.lemmas.List.Elements.{filter_map-append}
use Rattle.xid.specs.Transactions.{TxParts, is_participant, tx_eq}
use Rattle.xid.specs.declared.transaction.Vote.TheVariants as votes
use Rattle.xid.proofs.Deciding.{tx_decides, tx_self}
use Rattle.stable_record.specs.Facts.{fact_tx}
use Rattle.stable_record.specs.declared.fact.FactKind.TheVariants as stored
use Rattle.protocol.specs.Basics.{Fact, Touched}
use Rattle.protocol.specs.declared.states.View.TheVariants as views
use Rattle.safety.specs.Vocabulary.{View, Change, R, Event, Answer, Step}
use Rattle.protocol.specs.Branches.{is_write}
use Rattle.protocol.specs.Effects.{Config}
use Rattle.protocol.specs.Facts.{Bound, is_prepared_view, view}
use Rattle.protocol.specs.Managers.{Branch, act_on, has_key}
use Rattle.protocol.specs.Nodes.{NodeState, Input, all_play}
use Rattle.protocol.specs.Tables.{commit_of}
use Rattle.protocol.specs.Worlds.{World, step_of, world_step}
use Rattle.protocol.specs.Holds.{IsIn}
use Rattle.safety.specs.Items.{Committed as CommittedItem}
use Rattle.safety.specs.Laws.{IsViewOf}
use Rattle.safety.specs.Standing.{HasVote, Stands}
use Rattle.protocol.proofs.Lists.{IsIn-push, IsIn-before, IsIn-after, filter_map_given, filter_map_gives, found_any, any_find}
use Rattle.protocol.proofs.Manager.Apart.{stored_bound}
use Rattle.protocol.proofs.Manager.Effects.{IsManagerFact, name_names}
use Rattle.protocol.proofs.Manager.Played.{voted_named}
use Rattle.protocol.proofs.Manager.Prepared.{bound_apart}
use Rattle.protocol.proofs.Manager.Views.{unended, unvoted, view_is}
use Rattle.safety.proofs.World.Reachable.{committed_finds, consistent}
use Rattle.safety.proofs.World.Changes.{view_other}
use Rattle.history.specs.Lines.{change_here, change_stored, view_stored}
use Rattle.history.specs.SerialOrder.{commit_said, with_commit, first_commits}
use Rattle.history.specs.Writes.{is_committed_view, changed_to}
use Rattle.history.proofs.Changes.{changes_view}
use Rattle.history.proofs.Moves.{manager_in, branches_of, IsMove, Quiet, Restarted, Called, Stored, IsStored, event_moved}
use Rattle.history.proofs.Runs.{IsRun, AtFirst, Then, reached, facts_in, new_manager}
use Rattle.history.proofs.Told.{sound}
use Rattle.history.proofs.Kept.{kept_ever}
use Rattle.history.proofs.TablesBack.{committed_is, commit_is}
use Rattle.history.proofs.Orders.{IsFirst, AreOnce, either, first_in, first_alone, first_commit, in_commit, commit_keeps, commit_there}
use Rattle.history.proofs.Orders.{once_commit, once_push, find_more}

-- ---- a manager's facts, through a run

-- the transactions that facts commit
abbrev pub commits_in : List Fact → List TxParts
commits_in facts = filter_map commit_of facts

pub commit_stored : (facts : List Fact) (tx : TxParts) → IsIn (commits_in facts) tx → IsIn facts (stored.Committed tx)
commit_stored facts tx h =
    let given = filter_map_given commit_of facts tx h in
    subst (IsIn facts) (committed_is given.source tx given.gives) given.among

pub stored_commit : (facts : List Fact) (tx : TxParts) → IsIn facts (stored.Committed tx) → IsIn (commits_in facts) tx
stored_commit facts tx h = filter_map_gives commit_of facts (stored.Committed tx) tx h refl

-- a transaction of which a rule stores a fact isn't committed
pub open_before : (rm : ℕ) (facts : List Fact) (branches : List Branch) (input : Input) (fact : Fact)
    → IsManagerFact rm facts branches input fact → view facts (fact_tx fact) ≢ views.Committed
open_before rm facts branches input (stored.VotePrepared tx keys) rule e =
    (unended facts tx rule.1.first.unended).uncommitted (subst (IsViewOf facts tx) e (view_is facts tx)).0
open_before rm facts branches input (stored.VoteAborted tx) rule e =
    (unended facts tx rule.1.unended).uncommitted (subst (IsViewOf facts tx) e (view_is facts tx)).0
open_before rm facts branches input (stored.Committed tx) rule e = absurd (cc (rule.prepared, e))
open_before rm facts branches input (stored.Aborted tx) rule e = absurd (cc (rule.1.opens, e))
open_before rm facts branches input fact rule e = absurd rule

-- ---- what a step says is committed

said_change : (rm : ℕ) (now : Option Change) (change : Change) → option_and_then (change_here rm) now ≡ Some change → now ≡ Some change
said_change rm None change e = absurd (cc (e))
said_change rm (Some said) change e = by_test (said.rm == rm) e
  where
    by_test : (b : Bool) → (if b then Some said else None) ≡ Some change → Some said ≡ Some change
    by_test true is = is
    by_test false is = absurd (cc (is))

-- a change to committed
record IsCommitSaid (now : Option Change) (tx : TxParts) : Type 0 where
  change : Change
  is : now ≡ Some change
  committed : is_committed_view change.view ≡ true
  own : change.tx ≡ tx

commit_said_by : (now : Option Change) (tx : TxParts) → option_and_then (changed_to is_committed_view) now ≡ Some tx → IsCommitSaid now tx
commit_said_by None tx e = absurd (cc (e))
commit_said_by (Some change) tx e = by_test (is_committed_view change.view) refl e
  where
    by_test : (b : Bool) → is_committed_view change.view ≡ b → (if b then Some change.tx else None) ≡ Some tx
        → IsCommitSaid (Some change) tx
    by_test true is same = record {
      change = change;
      is = refl;
      committed = is;
      own = ap (λ (o : Option TxParts). unwrap_or o change.tx) same;
    }
    by_test false is same = absurd (cc (same))

committed_fact : (rm : ℕ) (fact : Fact) → is_committed_view (view_stored fact) ≡ true → fact ≡ stored.Committed (fact_tx fact)
committed_fact rm (stored.Committed tx) e = refl
committed_fact rm (stored.VotePrepared tx keys) e = absurd (cc (e))
committed_fact rm (stored.VoteAborted tx) e = absurd (cc (e))
committed_fact rm (stored.Aborted tx) e = absurd (cc (e))
committed_fact rm fact e = absurd (cc (e))

silent_said : (r : ℕ) (now : Option Change) (change : Change) → now ≡ Some change → change.rm ≡ r
    → option_and_then (change_here r) now ≡ Some change
silent_said r now change is own = ap (option_and_then (change_here r)) is
    ∙ ap (λ (b : Bool). if b then Some change else None) (eq-eqb change.rm r own)

-- the manager that a step says to have committed has stored it
said_stored : (config : Config) (r : ℕ) (old new : NodeState) (event : Event) (answer : Answer) (now : Option Change) (tx : TxParts)
    → (said : IsCommitSaid now tx) → said.change.rm ≡ r → IsMove config r old new event answer now → IsIn new.facts (stored.Committed tx)
said_stored config r old new event answer now tx said own (Quiet is) =
    absurd (cc (sym is.silent.change ∙ silent_said r now said.change said.is own))
said_stored config r old new event answer now tx said own (Restarted is) =
    absurd (cc (sym is.change ∙ silent_said r now said.change said.is own))
said_stored config r old new event answer now tx said own (Called is) =
    absurd (cc (sym is.change ∙ silent_said r now said.change said.is own))
said_stored config r old new event answer now tx said own (Stored is) =
    let both : Some (change_stored r is.fact) ≡ Some said.change = sym is.change ∙ silent_said r now said.change said.is own in
    let same : change_stored r is.fact ≡ said.change = ap (λ (o : Option Change). unwrap_or o said.change) both in
    let fact = committed_fact r is.fact (ap (λ (c : Change). is_committed_view c.view) same ∙ said.committed) in
    let tx_is : fact_tx is.fact ≡ tx = ap (λ (c : Change). c.tx) same ∙ said.own in
    subst (λ (fs : List Fact). IsIn fs (stored.Committed tx)) (sym is.facts)
    (IsIn-after old.facts (is.fact ∷ []) (stored.Committed tx) (inl (fact ∙ ap stored.Committed tx_is)))

pub facts_stay : (config : Config) (r : ℕ) (old new : NodeState) (event : Event) (answer : Answer) (now : Option Change)
    → IsMove config r old new event answer now → (fact : Fact) → IsIn old.facts fact → IsIn new.facts fact
facts_stay config r old new event answer now (Quiet is) fact h = subst (λ (fs : List Fact). IsIn fs fact) (sym is.facts) h
facts_stay config r old new event answer now (Restarted is) fact h = subst (λ (fs : List Fact). IsIn fs fact) (sym is.facts) h
facts_stay config r old new event answer now (Called is) fact h = subst (λ (fs : List Fact). IsIn fs fact) (sym is.facts) h
facts_stay config r old new event answer now (Stored is) fact h =
    subst (λ (fs : List Fact). IsIn fs fact) (sym is.facts) (IsIn-before old.facts (is.fact ∷ []) fact h)

-- ---- the order of first commits

firsts_with : (txs : List TxParts) (o : Option TxParts) (tx : TxParts) → IsIn (option_map_or (with_commit txs) o txs) tx
    → IsIn txs tx ⊎ (o ≡ Some tx)
firsts_with txs None tx h = inl h
firsts_with txs (Some one) tx h = elim (in_commit txs one tx h) [ inl was ↦ inl was | inr is ↦ inr (ap Some is) ]

firsts_keep : (txs : List TxParts) (o : Option TxParts) (tx : TxParts) → IsIn txs tx → IsIn (option_map_or (with_commit txs) o txs) tx
firsts_keep txs None tx h = h
firsts_keep txs (Some one) tx h = commit_keeps txs one tx h

firsts_order : (txs : List TxParts) (o : Option TxParts) (tx other : TxParts) → IsFirst tx other txs
    → IsFirst tx other (option_map_or (with_commit txs) o txs)
firsts_order txs None tx other e = e
firsts_order txs (Some one) tx other e = first_commit tx other txs one e

pub firsts_once : (before : List Step) → AreOnce (first_commits before)
firsts_once [] = tt
firsts_once (step ∷ before) = by_said (commit_said step) (firsts_once before)
  where
    by_said : (o : Option TxParts) → AreOnce (first_commits before)
        → AreOnce (option_map_or (with_commit (first_commits before)) o (first_commits before))
    by_said None once = once
    by_said (Some one) once = once_commit (first_commits before) one once

-- a transaction that was committed first somewhere has its fact there
pub firsts_stored : (config : Config) (world : World) (before : List Step) → IsRun config world before → (tx : TxParts)
    → IsIn (first_commits before) tx → (r : ℕ) × IsIn (manager_in config world r).facts (stored.Committed tx)
firsts_stored config _ _ AtFirst tx h = absurd h
firsts_stored config _ _ (Then world before event fault run) tx h =
    let result = world_step config world event fault in
    let step = step_of world event result in
    elim (firsts_with (first_commits before) (commit_said step) tx h) [
      | inl was ↦
          let one = firsts_stored config world before run tx was in (
            one.0,
            facts_stay config one.0 (manager_in config world one.0) (manager_in config result.world one.0) event result.answer
                result.now (event_moved config world one.0 event fault) (stored.Committed tx) one.1,
          )
      | inr is ↦
          let said = commit_said_by result.now tx is in
          let r = said.change.rm in (
            r,
            said_stored config r (manager_in config world r) (manager_in config result.world r) event result.answer result.now tx said
                refl (event_moved config world r event fault),
          )
    ]

-- ---- what is known of such a transaction at each of its managers

module _ (config : Config) (world : World) (before : List Step) (run : IsRun config world before) (tx : TxParts)
    (h : IsIn (first_commits before) tx) (rm : ℕ) (named : is_participant tx rm ≡ true) where
  abbrev at : (r : ℕ) × IsIn (manager_in config world r).facts (stored.Committed tx)
  at = firsts_stored config world before run tx h

  stands : Stands config world (CommittedItem at.0 tx)
  stands = subst (λ (fs : List Fact). IsIn fs (stored.Committed tx)) (sym (facts_in config world at.0)) at.1

  -- it has voted prepared
  pub first_voted : HasVote (manager_in config world rm).facts tx votes.Prepared
  first_voted = subst (λ (fs : List Fact). HasVote fs tx votes.Prepared) (facts_in config world rm)
      (committed_finds config world (reached config world before run) tx at.0 rm named stands)

-- ---- conflicts

-- keys that conflict: one has put or deleted a key that the other has touched
abbrev pub Clash : List Touched → List Touched → List ℕ → Type 0
Clash keys others key = ((is_write (act_on keys key) ≡ true) × (has_key key others ≡ true))
    ⊎ ((is_write (act_on others key) ≡ true) × (has_key key keys ≡ true))

-- what holds of a manager's commits
pub record AreOrdered (facts : List Fact) (txs : List TxParts) : Type 0 where
  pub show : (tx : TxParts) → IsIn (commits_in facts) tx → view facts tx ≡ views.Committed
  pub once : AreOnce (commits_in facts)
  pub some : (tx : TxParts) → IsIn (commits_in facts) tx → IsIn txs tx
  pub first : (tx other : TxParts) (keys others : List Touched) (key : List ℕ) → tx ≢ other → IsIn facts (stored.VotePrepared tx keys)
      → IsIn facts (stored.VotePrepared other others) → Clash keys others key → IsFirst tx other (commits_in facts) → IsFirst tx other txs

none_ordered : AreOrdered [] []
none_ordered = record {
  show = λ tx h. absurd h;
  once = tt;
  some = λ tx h. absurd h;
  first = λ tx other keys others key apart v. absurd v;
}

-- where no fact is stored
same_ordered : (old new : List Fact) (txs : List TxParts) (o : Option TxParts) → new ≡ old → AreOrdered old txs
    → AreOrdered new (option_map_or (with_commit txs) o txs)
same_ordered old new txs o same are =
    subst (λ (fs : List Fact). AreOrdered fs (option_map_or (with_commit txs) o txs)) (sym same) (record {
      show = are.show;
      once = are.once;
      some = λ tx h. firsts_keep txs o tx (are.some tx h);
      first = λ tx other keys others key apart v w clash e. firsts_order txs o tx other
          (are.first tx other keys others key apart v w clash e);
    })

module _ (config : Config) (rm : ℕ) (old new : NodeState) (event : Event) (answer : Answer) (now : Option Change) (txs : List TxParts)
    (is : IsStored config rm old new event answer now) (played : all_play config (R rm) [] old.facts ≡ true)
    (kept : (tx : TxParts) → IsIn old.facts (stored.Committed tx) → HasVote old.facts tx votes.Prepared)
    (voted : (tx : TxParts) → IsIn txs tx → is_participant tx rm ≡ true → HasVote old.facts tx votes.Prepared)
    (open_yet : (tx : TxParts) → IsIn txs tx → is_participant tx rm ≡ true → view old.facts tx ≢ views.Aborted)
    (are : AreOrdered old.facts txs) where
  abbrev fact : Fact
  fact = is.fact

  abbrev said : Option TxParts
  said = option_and_then (changed_to is_committed_view) now

  abbrev later : List TxParts
  later = option_map_or (with_commit txs) said txs

  said_is : said ≡ commit_of fact
  said_is = ap (option_and_then (changed_to is_committed_view)) (said_change rm now (change_stored rm fact) is.change)
      ∙ sym (commit_is rm fact)

  commits_new : commits_in new.facts ≡ commits_in old.facts ++ cons_option (commit_of fact) []
  commits_new = ap commits_in is.facts ∙ filter_map-append commit_of old.facts (fact ∷ [])

  was_or_is : (f : Fact) → IsIn new.facts f → IsIn old.facts f ⊎ (fact ≡ f)
  was_or_is f h = IsIn-push old.facts fact f (subst (λ (fs : List Fact). IsIn fs f) is.facts h)

  rule_of : (f : Fact) → fact ≡ f → IsManagerFact rm old.facts (branches_of old) is.input f
  rule_of f e = subst (IsManagerFact rm old.facts (branches_of old) is.input) e is.rule

  -- a transaction that was committed isn't that of the fact
  other_than : (tx : TxParts) → IsIn (commits_in old.facts) tx → tx_eq tx (fact_tx fact) ≡ false
  other_than tx h = false_from_ne_true _ (λ e. open_before rm old.facts (branches_of old) is.input fact is.rule
      (subst (λ (t : TxParts). view old.facts t ≡ views.Committed) ((tx_decides tx (fact_tx fact)).0 e) (are.show tx h)))

  show_new : (tx : TxParts) → IsIn (commits_in new.facts) tx → view new.facts tx ≡ views.Committed
  show_new tx h = elim (was_or_is (stored.Committed tx) (commit_stored new.facts tx h)) [
    | inl was ↦
        let among = stored_commit old.facts tx was in
        ap (λ (fs : List Fact). view fs tx) is.facts ∙ view_other old.facts fact tx (other_than tx among) ∙ are.show tx among
    | inr e ↦
        let own : fact_tx fact ≡ tx = ap fact_tx e in
        ap (λ (fs : List Fact). view fs tx) is.facts
        ∙ subst (λ (t : TxParts). view (old.facts ++ fact ∷ []) t ≡ view_stored fact) own
        (changes_view rm old.facts (branches_of old) is.input fact is.rule).after
        ∙ ap view_stored e
  ]

  once_by : (o : Option TxParts) → commit_of fact ≡ o → AreOnce (commits_in old.facts ++ cons_option o [])
  once_by None e = subst AreOnce (sym (append-nil (commits_in old.facts))) are.once
  once_by (Some tx) e = once_push (commits_in old.facts) tx are.once (λ h.
      let own = committed_is fact tx e in
      both_ways (tx_eq tx (fact_tx fact)) (other_than tx h) (ap (tx_eq tx) (ap fact_tx own) ∙ tx_self tx))

  some_new : (tx : TxParts) → IsIn (commits_in new.facts) tx → IsIn later tx
  some_new tx h = elim (was_or_is (stored.Committed tx) (commit_stored new.facts tx h)) [
    | inl was ↦ firsts_keep txs said tx (are.some tx (stored_commit old.facts tx was))
    | inr e ↦ subst (λ (o : Option TxParts). IsIn (option_map_or (with_commit txs) o txs) tx)
        (sym (said_is ∙ ap commit_of e)) (commit_there txs tx)
  ]

  -- a transaction of which it votes now wasn't committed anywhere
  not_first : (tx : TxParts) (keys : List Touched) → fact ≡ stored.VotePrepared tx keys → ¬ IsIn txs tx
  not_first tx keys e h =
      let rule = rule_of (stored.VotePrepared tx keys) e in
      unvoted old.facts tx rule.1.first.new votes.Prepared (voted tx h (name_names tx rm rule.0 rule.1.first.name))

  none_found : (p : TxParts → Bool) (xs : List TxParts) (tx : TxParts) → find p xs ≡ None → IsIn xs tx → p tx ≡ true → ⊥
  none_found p xs tx e h passes =
      let found = any_find p xs (found_any p xs tx h passes) in
      absurd (cc (sym e ∙ found.1))

  -- two that were voted on before, where neither was committed here, and the one is now
  committed_now : (tx other : TxParts) (keys others : List Touched) (key : List ℕ) → tx ≢ other
      → IsIn old.facts (stored.VotePrepared tx keys) → IsIn old.facts (stored.VotePrepared other others) → Clash keys others key
      → fact ≡ stored.Committed tx → ¬ IsIn (commits_in old.facts) other → IsFirst tx other later
  committed_now tx other keys others key apart v w clash e none =
      by_view (view old.facts other) refl (view_is old.facts other)
    where
      rule : IsManagerFact rm old.facts (branches_of old) is.input (stored.Committed tx)
      rule = rule_of (stored.Committed tx) e

      bound : Bound
      bound = record { tx = tx; keys = keys }

      also : Bound
      also = record { tx = other; keys = others }

      by_view : (v : View) → view old.facts other ≡ v → IsViewOf old.facts other v → IsFirst tx other later
      by_view views.Working is_view shows = absurd (shows.0 votes.Prepared (others, w))
      by_view views.Committed is_view shows = absurd (none (stored_commit old.facts other shows.0))
      by_view views.Prepared is_view shows =
          let are_apart = bound_apart config rm old.facts played in
          let one = stored_bound old.facts bound (record { voted = v; prepared = rule.prepared }) in
          let two = stored_bound old.facts also (record { voted = w; prepared = ap is_prepared_view is_view }) in
          absurd (elim clash [
            | inl writes ↦ are_apart.apart bound also one two apart key writes.0 writes.1
            | inr writes ↦ are_apart.apart also bound two one (λ same. apart (sym same)) key writes.0 writes.1
          ])
      by_view views.Aborted is_view shows = first_alone tx other later (some_new tx (stored_commit new.facts tx
          (subst (λ (fs : List Fact). IsIn fs (stored.Committed tx)) (sym is.facts)
          (IsIn-after old.facts (fact ∷ []) (stored.Committed tx) (inl e)))))
          (λ h. elim (firsts_with txs said other h) [
            | inl was ↦ open_yet other was (voted_named config rm old.facts played other votes.Prepared (others, w)) is_view
            | inr said_other ↦ apart (ap (λ (o : Option TxParts). unwrap_or o tx) (sym (said_is ∙ ap commit_of e) ∙ said_other))
          ])

  first_new : (tx other : TxParts) (keys others : List Touched) (key : List ℕ) → tx ≢ other → IsIn new.facts (stored.VotePrepared tx keys)
      → IsIn new.facts (stored.VotePrepared other others) → Clash keys others key → IsFirst tx other (commits_in new.facts)
      → IsFirst tx other later
  first_new tx other keys others key apart v w clash e = elim (was_or_is (stored.VotePrepared tx keys) v) [
    | inr votes_now ↦
        let rule = rule_of (stored.VotePrepared tx keys) votes_now in
        let among = first_in tx other (commits_in old.facts) (unchanged votes_now refl) in
        absurd (unvoted old.facts tx rule.1.first.new votes.Prepared (kept tx (commit_stored old.facts tx among)))
    | inl v_was ↦ elim (was_or_is (stored.VotePrepared other others) w) [
      | inr votes_now ↦
          let among = first_in tx other (commits_in old.facts) (unchanged votes_now refl) in
          firsts_order txs said tx other (first_alone tx other txs (are.some tx among) (not_first other others votes_now))
      | inl w_was ↦ by_commit (commit_of fact) refl v_was w_was
          (subst (IsFirst tx other) commits_new e)
    ]
  ]
    where
      unchanged : {t : TxParts} {ks : List Touched} → fact ≡ stored.VotePrepared t ks → commit_of (stored.VotePrepared t ks) ≡ None
          → IsFirst tx other (commits_in old.facts)
      unchanged votes_now none = subst (IsFirst tx other)
          (commits_new ∙ ap (λ (o : Option TxParts). commits_in old.facts ++ cons_option o []) (ap commit_of votes_now ∙ none)
          ∙ append-nil (commits_in old.facts)) e

      by_found : (o : Option TxParts) → find (either tx other) (commits_in old.facts) ≡ o → (one : TxParts) → commit_of fact ≡ Some one
          → IsIn old.facts (stored.VotePrepared tx keys) → IsIn old.facts (stored.VotePrepared other others)
          → IsFirst tx other (commits_in old.facts ++ one ∷ []) → IsFirst tx other later
      by_found (Some found) is_found one is_one v_was w_was first =
          let same : Some found ≡ Some tx = sym (find_more (either tx other) (commits_in old.facts) (one ∷ []) found is_found) ∙ first in
          firsts_order txs said tx other (are.first tx other keys others key apart v_was w_was clash (is_found ∙ same))
      by_found None is_found one is_one v_was w_was first = elim (IsIn-push (commits_in old.facts) one tx
          (first_in tx other (commits_in old.facts ++ one ∷ []) first)) [
            | inl was ↦ absurd (none_found (either tx other) (commits_in old.facts) tx is_found was
                (or_left (tx_eq tx tx) (tx_eq other tx) (tx_self tx)))
            | inr own ↦ committed_now tx other keys others key apart v_was w_was clash
                (committed_is fact one is_one ∙ ap stored.Committed own)
                (λ h. none_found (either tx other) (commits_in old.facts) other is_found h
                (or_right (tx_eq tx other) (tx_eq other other) (tx_self other)))
          ]

      by_commit : (o : Option TxParts) → commit_of fact ≡ o → IsIn old.facts (stored.VotePrepared tx keys)
          → IsIn old.facts (stored.VotePrepared other others) → IsFirst tx other (commits_in old.facts ++ cons_option o [])
          → IsFirst tx other later
      by_commit None none v_was w_was first = firsts_order txs said tx other
          (are.first tx other keys others key apart v_was w_was clash (subst (IsFirst tx other) (append-nil (commits_in old.facts)) first))
      by_commit (Some one) is_one v_was w_was first =
          by_found (find (either tx other) (commits_in old.facts)) refl one is_one v_was w_was first

  stored_ordered : AreOrdered new.facts later
  stored_ordered = record {
    show = show_new;
    once = subst AreOnce (sym commits_new) (once_by (commit_of fact) refl);
    some = some_new;
    first = first_new;
  }

-- ---- every event

moved_ordered : (config : Config) (rm : ℕ) (old new : NodeState) (event : Event) (answer : Answer) (now : Option Change)
    (txs : List TxParts)
    → all_play config (R rm) [] old.facts ≡ true
    → ((tx : TxParts) → IsIn old.facts (stored.Committed tx) → HasVote old.facts tx votes.Prepared)
    → ((tx : TxParts) → IsIn txs tx → is_participant tx rm ≡ true → HasVote old.facts tx votes.Prepared)
    → ((tx : TxParts) → IsIn txs tx → is_participant tx rm ≡ true → view old.facts tx ≢ views.Aborted)
    → AreOrdered old.facts txs → IsMove config rm old new event answer now
    → AreOrdered new.facts (option_map_or (with_commit txs) (option_and_then (changed_to is_committed_view) now) txs)
moved_ordered config rm old new event answer now txs played kept voted open_yet are (Quiet is) =
    same_ordered old.facts new.facts txs _ is.facts are
moved_ordered config rm old new event answer now txs played kept voted open_yet are (Restarted is) =
    same_ordered old.facts new.facts txs _ is.facts are
moved_ordered config rm old new event answer now txs played kept voted open_yet are (Called is) =
    same_ordered old.facts new.facts txs _ is.facts are
moved_ordered config rm old new event answer now txs played kept voted open_yet are (Stored is) =
    stored_ordered config rm old new event answer now txs is played kept voted open_yet are

pub ordered_ever : (config : Config) (world : World) (before : List Step) (rm : ℕ) → IsRun config world before
    → AreOrdered (manager_in config world rm).facts (first_commits before)
ordered_ever config _ _ rm AtFirst = subst (λ (node : NodeState). AreOrdered node.facts []) (new_manager config rm) none_ordered
ordered_ever config _ _ rm (Then world before event fault run) =
    let result = world_step config world event fault in
    moved_ordered config rm (manager_in config world rm) (manager_in config result.world rm) event result.answer result.now
    (first_commits before) (sound config world before rm run).played (kept_ever config world before rm run).committed
    (λ tx h named. first_voted config world before run tx h rm named)
    (λ tx h named aborted.
    let at = firsts_stored config world before run tx h in
    let there = ordered_ever config world before at.0 run in
    let kept = (kept_ever config world before at.0 run).committed tx at.1 in
    let own = voted_named config at.0 (manager_in config world at.0).facts
    (sound config world before at.0 run).played tx votes.Prepared kept in
    consistent config world (reached config world before run) tx at.0 rm own named
    (ap (λ (fs : List Fact). view fs tx) (facts_in config world at.0)
    ∙ there.show tx (stored_commit (manager_in config world at.0).facts tx at.1))
    (ap (λ (fs : List Fact). view fs tx) (facts_in config world rm) ∙ aborted))
    (ordered_ever config world before rm run) (event_moved config world rm event fault)
