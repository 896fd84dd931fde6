-- Whether a fact was played, for whatever a resource manager stands for.
use Rattle.std.proofs.Common.{◌≡◌, ◌∙◌, inl, inr, ℕ, Bool, true, false, not, ◌&&◌, List, Option, Some, None}
use Rattle.std.proofs.Common.{Result, Ok, Err, is_none, is_some, refl, sym, ap, subst}
use Rattle.std.specs.Option.{option_map_or}
use Rattle.std.proofs.lemmas.Bool.{false_from_ne_true, both_ways}
use Rattle.xid.specs.Names.{XidParts}
use Rattle.xid.specs.Transactions.{TxParts, is_participant, xid_at}
use Rattle.xid.specs.declared.refusals.Refusal.{Refusal}
use Rattle.xid.specs.declared.transaction.Vote.{Vote}
use Rattle.stable_record.specs.declared.fact.FactKind.{FactKind as Fact}
use Rattle.stable_record.specs.declared.fact.Touched.{Touched}
use Rattle.protocol.specs.Effects.{Config}
use Rattle.protocol.specs.Facts.{bound_branches, is_prepared_view, is_open_view, is_spent, view}
use Rattle.protocol.specs.Managers.{Branch, stored_votes, plays_at_manager, is_new, is_name_spent, is_some_held}
use Rattle.protocol.proofs.Manager.Keys.{names_name}
use Rattle.protocol.proofs.Manager.Played.{voted_named}
use Rattle.protocol.proofs.Manager.Views.{prepared_shows}
use Rattle.branch_table.specs.TableStates.{TableState, branch_named}
use Rattle.branch_table.specs.Outcomes.{Commits, RefusesRestore}
use Rattle.resource_manager.specs.declared.course.Course.{Course}
use Rattle.resource_manager.specs.Courses.{CoursesParts, stored_by, view_among, view_of, vote_among, is_ended_among, is_new_course}
use Rattle.resource_manager.specs.Courses.{course_in, begun_with, Sets}
use Rattle.resource_manager.specs.SpentNames.{is_spent_in}
use Rattle.resource_manager.specs.Managers.{ManagerParts, StandsFor, unspent_branches}
use Rattle.resource_manager.specs.Playing.{MeansSame, BecomesCommitted, PlaysEnd, PlaysVote, RefusesVote, Plays}
use Rattle.resource_manager.proofs.Standing.{same_stands}
use Rattle.resource_manager.proofs.Votes.{new_by, view_is, plays_by, can_play, cannot_play, there_play, vote_stands}
use Rattle.resource_manager.proofs.Ending.{refused_plays, aborted_plays, committed_plays, refused_stands, aborted_stands, undone_stands}
use Rattle.resource_manager.proofs.Ending.{committed_stands}

-- a fact that doesn't play, and nothing changes
pub refuses : (m : ManagerParts) (fact : Fact)
    → ((config : Config) (number : ℕ) (facts : List Fact) (branches : List Branch)
    → StandsFor config number m facts (unspent_branches number facts branches)
    → plays_at_manager number (stored_votes number facts) fact ≡ false)
    → Plays m m fact (Err Refusal.Damaged)
refuses m fact fails = record {
  played = λ config number branches playable. (λ facts stands. fails config number facts branches stands, λ facts stands. stands);
  refused = λ config number facts branches stands. stands;
}

-- ---- a transaction that has no name here

module _ (m : ManagerParts) (tx : TxParts) (none : xid_at tx m.number ≡ None) where
  module _ (config : Config) (number : ℕ) (facts : List Fact) (branches : List Branch)
      (stands : StandsFor config number m facts (unspent_branches number facts branches)) where
    not_named : is_participant tx number ≡ false
    not_named = false_from_ne_true (is_participant tx number) (λ e.
        let name = names_name tx number e in
        let also = ap (xid_at tx) (sym stands.number_is) ∙ none in
        absurd (cc (name.1, also)))

  -- a fact of a transaction without a branch here doesn't play: a vote to commit
  pub unnamed_vote : (keys : List Touched) → Plays m m (Fact.VotePrepared tx keys) (Err Refusal.Damaged)
  unnamed_vote keys = refuses m (Fact.VotePrepared tx keys)
      (λ config number facts branches stands. λ i. not_named config number facts branches stands i && is_new (stored_votes number facts) tx
      && not (is_name_spent number (stored_votes number facts) tx) && not (is_some_held (bound_branches facts) keys))

  -- a vote to abort
  pub unnamed_refusal : Plays m m (Fact.VoteAborted tx) (Err Refusal.Damaged)
  unnamed_refusal = refuses m (Fact.VoteAborted tx)
      (λ config number facts branches stands. λ i. not_named config number facts branches stands i && is_new (stored_votes number facts) tx)

  -- an abort
  pub unnamed_abort : Plays m m (Fact.Aborted tx) (Err Refusal.Damaged)
  unnamed_abort = refuses m (Fact.Aborted tx)
      (λ config number facts branches stands. λ i. not_named config number facts branches stands i && is_open_view (view facts tx))

  -- a commit
  pub unnamed_commit : Plays m m (Fact.Committed tx) (Err Refusal.Damaged)
  unnamed_commit = refuses m (Fact.Committed tx)
      (λ config number facts branches stands. false_from_ne_true (is_prepared_view (view facts tx))
      (λ e. both_ways (is_participant tx number) (not_named config number facts branches stands)
      (voted_named config number facts stands.played tx Vote.Prepared (prepared_shows facts tx e).0)))

-- ---- a transaction that has come too far, or not far enough

module _ (m : ManagerParts) (tx : TxParts) (c : Course) (course : course_in m.courses tx ≡ c) where
  over : (a b : Bool) → b ≡ false → (a && b) ≡ false
  over true b e = e
  over false b e = refl

  -- a vote to commit of what has begun doesn't play
  pub late_vote : (keys : List Touched) → (is_none (vote_among (stored_by c)) && not (is_ended_among (stored_by c))) ≡ false
      → Plays m m (Fact.VotePrepared tx keys) (Err Refusal.Damaged)
  late_vote keys old = refuses m (Fact.VotePrepared tx keys) (λ config number facts branches stands.
      ap (λ (t : Bool). t && not (is_name_spent number (stored_votes number facts) tx) && not (is_some_held (bound_branches facts) keys))
      (over (is_participant tx number) (is_new (stored_votes number facts) tx)
      (new_by config number m facts (unspent_branches number facts branches) stands tx c course ∙ old)))

  -- nor does a vote to abort
  pub late_refusal : (is_none (vote_among (stored_by c)) && not (is_ended_among (stored_by c))) ≡ false
      → Plays m m (Fact.VoteAborted tx) (Err Refusal.Damaged)
  late_refusal old = refuses m (Fact.VoteAborted tx) (λ config number facts branches stands.
      over (is_participant tx number) (is_new (stored_votes number facts) tx)
      (new_by config number m facts (unspent_branches number facts branches) stands tx c course ∙ old))

  -- an abort of what is over doesn't play
  pub late_abort : is_open_view (view_among (stored_by c)) ≡ false → Plays m m (Fact.Aborted tx) (Err Refusal.Damaged)
  late_abort ended = refuses m (Fact.Aborted tx) (λ config number facts branches stands.
      over (is_participant tx number) (is_open_view (view facts tx))
      (ap is_open_view (view_is config number m facts (unspent_branches number facts branches) stands tx c course) ∙ ended))

  -- nor does a commit of what isn't prepared
  pub early_commit : is_prepared_view (view_among (stored_by c)) ≡ false → Plays m m (Fact.Committed tx) (Err Refusal.Damaged)
  early_commit ended = refuses m (Fact.Committed tx) (λ config number facts branches stands.
      ap is_prepared_view (view_is config number m facts (unspent_branches number facts branches) stands tx c course) ∙ ended)

-- ---- a name that is spent

-- nor a vote to commit by a name that is spent
pub spent_vote : (m : ManagerParts) (tx : TxParts) (x : XidParts) (keys : List Touched) → xid_at tx m.number ≡ Some x
    → is_spent_in m.spent x ≡ true → Plays m m (Fact.VotePrepared tx keys) (Err Refusal.Damaged)
spent_vote m tx x keys name spent = refuses m (Fact.VotePrepared tx keys) (λ config number facts branches stands.
    let named = ap (xid_at tx) (sym stands.number_is) ∙ name in
    let is = ap (λ (o : Option XidParts). option_map_or (is_spent number facts) o false) named ∙ stands.spent_are x ∙ spent in
    ap (λ (t : Bool). is_participant tx number && is_new (stored_votes number facts) tx && not t
    && not (is_some_held (bound_branches facts) keys)) is
    ∙ over (is_participant tx number && is_new (stored_votes number facts) tx) (not (is_some_held (bound_branches facts) keys)))
  where
    over : (a b : Bool) → (a && false && b) ≡ false
    over true b = refl
    over false b = refl

-- ---- votes and ends

module _ (m new : ManagerParts) (tx : TxParts) (x : XidParts) (name : xid_at tx m.number ≡ Some x) where
  module _ (config : Config) (number : ℕ) (facts : List Fact) (branches : List Branch)
      (stands : StandsFor config number m facts (unspent_branches number facts branches)) where
    named : xid_at tx number ≡ Some x
    named = ap (xid_at tx) (sym stands.number_is) ∙ name

  same_after : MeansSame m new → (config : Config) (number : ℕ) (facts : List Fact) (branches : List Branch)
      → StandsFor config number m facts branches → StandsFor config number new facts branches
  same_after same = same_stands m new same

  -- a vote to commit
  pub plays_vote : (keys : List Touched) → course_in m.courses tx ≡ Course.Working → is_spent_in m.spent x ≡ false
      → (result : Result (Unit {0}) Refusal) → PlaysVote m new tx x keys result → Plays m new (Fact.VotePrepared tx keys) result
  plays_vote keys working unspent (Ok done) is = record {
    played = λ config number branches playable. (
      λ facts stands.
          plays_by config number m facts branches stands tx x keys (named config number facts branches stands) working unspent false
          (can_play config number m facts branches stands tx x keys
          (named config number facts branches stands) working unspent playable is.0),
      λ facts stands.
          vote_stands config number m facts branches stands tx x keys (named config number facts branches stands) working unspent new is.1
          playable is.0,
    );
    refused = tt;
  }
  plays_vote keys working unspent (Err Refusal.Damaged) is = record {
    played = λ config number branches playable. (
      λ facts stands.
          plays_by config number m facts branches stands tx x keys (named config number facts branches stands) working unspent true
          (cannot_play config number m facts branches stands tx x keys (named config number facts branches stands) working unspent playable
          is.0),
      λ facts stands. same_after is.1 config number facts (unspent_branches number facts branches) stands,
    );
    refused = same_after is.1;
  }
  plays_vote keys working unspent (Err Refusal.NoMemory) is = record {
    played = λ config number branches playable. (
      λ facts stands.
          let at = named config number facts branches stands in
          plays_by config number m facts branches stands tx x keys at working unspent false
          (elim is.0.0 [
            | inl can ↦ can_play config number m facts branches stands tx x keys at working unspent playable can
            | inr there ↦ there_play config number m facts branches stands tx x keys at working unspent playable there
          ]),
      λ ready. is.0.1 ready.0 (ready.1 x name),
      λ facts stands. same_after is.1 config number facts (unspent_branches number facts branches) stands,
    );
    refused = same_after is.1;
  }
  plays_vote keys working unspent (Err other) is = absurd is.0

  module _ (anothers : Bool) where
    -- a vote to abort
    pub plays_refusal : course_in m.courses tx ≡ Course.Working → is_spent_in m.spent x ≡ anothers
        → (result : Result (Unit {0}) Refusal) → PlaysEnd m new tx x anothers Course.VotedAborted result
        → Plays m new (Fact.VoteAborted tx) result
    plays_refusal working spent (Ok done) is = record {
      played = λ config number branches playable. (
        λ facts stands. refused_plays config number m new facts branches stands tx x (named config number facts branches stands) working,
        λ facts stands.
            refused_stands config number m new facts branches stands tx x
            (named config number facts branches stands) working anothers spent is,
      );
      refused = tt;
    }
    plays_refusal working spent (Err Refusal.NoMemory) is = record {
      played = λ config number branches playable. (
        λ facts stands. refused_plays config number m new facts branches stands tx x (named config number facts branches stands) working,
        is.0,
        λ facts stands. same_after is.1 config number facts (unspent_branches number facts branches) stands,
      );
      refused = same_after is.1;
    }
    plays_refusal working spent (Err other) is = absurd is

    -- an abort of what works
    pub plays_abort : course_in m.courses tx ≡ Course.Working → is_spent_in m.spent x ≡ anothers
        → (result : Result (Unit {0}) Refusal) → PlaysEnd m new tx x anothers Course.AbortedUnvoted result
        → Plays m new (Fact.Aborted tx) result
    plays_abort working spent (Ok done) is = record {
      played = λ config number branches playable. (
        λ facts stands.
            aborted_plays config number m new facts branches stands tx x (named config number facts branches stands) Course.Working working,
        λ facts stands.
            aborted_stands config number m new facts branches stands tx x
            (named config number facts branches stands) working anothers spent is,
      );
      refused = tt;
    }
    plays_abort working spent (Err Refusal.NoMemory) is = record {
      played = λ config number branches playable. (
        λ facts stands.
            aborted_plays config number m new facts branches stands tx x (named config number facts branches stands) Course.Working working,
        is.0,
        λ facts stands. same_after is.1 config number facts (unspent_branches number facts branches) stands,
      );
      refused = same_after is.1;
    }
    plays_abort working spent (Err other) is = absurd is

  -- an abort of what is prepared
  pub plays_undoing : course_in m.courses tx ≡ Course.Prepared → (result : Result (Unit {0}) Refusal)
      → PlaysEnd m new tx x false Course.RolledBack result → Plays m new (Fact.Aborted tx) result
  plays_undoing prepared (Ok done) is = record {
    played = λ config number branches playable. (
      λ facts stands.
          aborted_plays config number m new facts branches stands tx x (named config number facts branches stands) Course.Prepared prepared,
      λ facts stands. undone_stands config number m new facts branches stands tx x (named config number facts branches stands) prepared is,
    );
    refused = tt;
  }
  plays_undoing prepared (Err Refusal.NoMemory) is = record {
    played = λ config number branches playable. (
      λ facts stands.
          aborted_plays config number m new facts branches stands tx x (named config number facts branches stands) Course.Prepared prepared,
      is.0,
      λ facts stands. same_after is.1 config number facts (unspent_branches number facts branches) stands,
    );
    refused = same_after is.1;
  }
  plays_undoing prepared (Err other) is = absurd is

  pub plays_commit : course_in m.courses tx ≡ Course.Prepared → BecomesCommitted m new tx x → Plays m new (Fact.Committed tx) (Ok tt)
  plays_commit prepared becomes = record {
    played = λ config number branches playable. (
      λ facts stands.
          committed_plays config number m new facts branches stands tx x
          (named config number facts branches stands) Course.Prepared prepared,
      λ facts stands.
          committed_stands config number m new facts branches stands tx x (named config number facts branches stands) prepared becomes,
    );
    refused = tt;
  }

-- ---- as the code asks

pub from_view : (m old new : ManagerParts) (fact : Fact) (result : Result (Unit {0}) Refusal) → m ≡ old → Plays m new fact result
    → Plays old new fact result
from_view m old new fact result e plays = subst (λ (o : ManagerParts). Plays o new fact result) e plays

-- a new course works
pub working_course : (c : Course) → is_new_course c ≡ true → c ≡ Course.Working
working_course Course.Working e = refl
working_course Course.Prepared e = absurd (cc (e))
working_course Course.VotedAborted e = absurd (cc (e))
working_course Course.Committed e = absurd (cc (e))
working_course Course.RolledBack e = absurd (cc (e))
working_course Course.AbortedUnvoted e = absurd (cc (e))

-- a course that shows as prepared is prepared
pub prepared_course : (c : Course) → is_prepared_view (view_of c) ≡ true → c ≡ Course.Prepared
prepared_course Course.Prepared e = refl
prepared_course Course.Working e = absurd (cc (e))
prepared_course Course.VotedAborted e = absurd (cc (e))
prepared_course Course.Committed e = absurd (cc (e))
prepared_course Course.RolledBack e = absurd (cc (e))
prepared_course Course.AbortedUnvoted e = absurd (cc (e))

-- one that is open and isn't prepared works
pub open_working : (c : Course) → is_open_view (view_of c) ≡ true → is_prepared_view (view_of c) ≡ false → c ≡ Course.Working
open_working Course.Working e f = refl
open_working Course.Prepared e f = absurd (cc (f))
open_working Course.VotedAborted e f = absurd (cc (e))
open_working Course.Committed e f = absurd (cc (e))
open_working Course.RolledBack e f = absurd (cc (e))
open_working Course.AbortedUnvoted e f = absurd (cc (e))

-- a commit by its steps: the branch is committed, and the course is set
pub committed_by : (m : ManagerParts) (now : TableState) (courses : CoursesParts) (tx : TxParts) (x : XidParts)
    → Commits m.table now x → Sets m.courses courses tx Course.Committed → courses.begun ≡ begun_with m.courses tx
    → BecomesCommitted m
    (record { number = m.number; managers = m.managers; courses = courses; spent = m.spent; table = now }) tx x
committed_by m now courses tx x commits sets begun = record {
  number = refl;
  managers = refl;
  courses = sets;
  begun = begun;
  spent = λ y. refl;
  rows = commits.rows;
  branches = commits.branches;
}

-- the facts that are none of a resource manager's
abbrev IsStranger : Fact → Type 0
IsStranger (Fact.VotePrepared tx keys) = ⊥
IsStranger (Fact.VoteAborted tx) = ⊥
IsStranger (Fact.Committed tx) = ⊥
IsStranger (Fact.Aborted tx) = ⊥
IsStranger fact = Unit {0}

stranger_fails : (number : ℕ) (facts : List Fact) (fact : Fact) → IsStranger fact
    → plays_at_manager number (stored_votes number facts) fact ≡ false
stranger_fails number facts (Fact.VotePrepared tx keys) is = absurd is
stranger_fails number facts (Fact.VoteAborted tx) is = absurd is
stranger_fails number facts (Fact.Committed tx) is = absurd is
stranger_fails number facts (Fact.Aborted tx) is = absurd is
stranger_fails number facts (Fact.Promise tx i b) is = refl
stranger_fails number facts (Fact.PromiseAll tx b) is = refl
stranger_fails number facts (Fact.Accept tx i b v) is = refl
stranger_fails number facts (Fact.Ballot tx b) is = refl

-- a fact of another kind of node doesn't play
pub stranger : (m : ManagerParts) (fact : Fact) → IsStranger fact → Plays m m fact (Err Refusal.Damaged)
stranger m fact is = refuses m fact (λ config number facts branches stands. stranger_fails number facts fact is)

-- a branch that isn't there yet, and can't be prepared, or memory is wanted
pub restore_refused : (m old : ManagerParts) (now : TableState) (tx : TxParts) (x : XidParts) (keys : List Touched) (e : Refusal) → m ≡ old
    → RefusesRestore m.table.branches x keys e × (now ≡ m.table)
    → RefusesVote old tx x keys e
    × MeansSame old (record { number = m.number; managers = m.managers; courses = m.courses; spent = m.spent; table = now })
restore_refused m old now tx x keys e view is =
    subst
    (λ (o : ManagerParts). RefusesVote o tx x keys e
    × MeansSame o (record { number = m.number; managers = m.managers; courses = m.courses; spent = m.spent; table = now })) view (
      elim is.0 [
        | inl damaged ↦ subst (RefusesVote m tx x keys) (sym damaged.0) damaged.1
        | inr lacks ↦
            subst (RefusesVote m tx x keys) (sym lacks.0)
            (inl lacks.1, λ places there. both_ways (is_some (branch_named m.table.branches x)) (ap is_some lacks.2) there)
      ],
      record {
        number = refl;
        managers = refl;
        courses = λ t. refl;
        begun = refl;
        spent = λ y. refl;
        rows = ap (λ (table : TableState). table.rows) is.1;
        branches = λ y. ap (λ (table : TableState). branch_named table.branches y) is.1;
      },
    )

-- a commit
module _ (m old : ManagerParts) (tx : TxParts) (x : XidParts) (view : m ≡ old) (name : xid_at tx old.number ≡ Some x)
    (prepared : course_in old.courses tx ≡ Course.Prepared) where
  own_name : xid_at tx m.number ≡ Some x
  own_name = ap (λ (o : ManagerParts). xid_at tx o.number) view ∙ name

  own_course : course_in m.courses tx ≡ Course.Prepared
  own_course = ap (λ (o : ManagerParts). course_in o.courses tx) view ∙ prepared

  -- a commit
  pub commits_by : (now : TableState) (courses : CoursesParts) → Commits m.table now x
      → Sets m.courses courses tx Course.Committed → courses.begun ≡ begun_with m.courses tx
      → Plays old (record { number = m.number; managers = m.managers; courses = courses; spent = m.spent; table = now })
      (Fact.Committed tx) (Ok tt)
  commits_by now courses commits sets begun =
      let new : ManagerParts = record { number = m.number; managers = m.managers; courses = courses; spent = m.spent; table = now } in
      from_view m old new (Fact.Committed tx) (Ok tt) view
      (plays_commit m new tx x own_name own_course (committed_by m now courses tx x commits sets begun))
