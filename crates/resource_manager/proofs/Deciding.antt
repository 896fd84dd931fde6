-- What a resource manager decides is what the machine's rules say.
-- Needed by 10 functions of this crate; Recovering.
use Rattle.std.proofs.Common.{◌≡◌, ◌∙◌, ℕ, Bool, true, false, ◌||◌, ◌&&◌, if◌then◌else◌, List, [], ◌∷◌, ◌++◌, Option}
use Rattle.std.proofs.Common.{Some, None, Result, Ok, Err, is_some, refl, sym, ap, subst}
use Rattle.std.specs.Prelude.{IfOk}
use Rattle.std.specs.List.{IsDistinct}
use Rattle.std.proofs.lemmas.Bool.{both_ways, false_from_ne_true}
use Rattle.xid.specs.Names.{XidParts, xid_eq}
use Rattle.xid.specs.Transactions.{TxParts, is_participant, participants, xid_at}
use Rattle.xid.specs.declared.refusals.Refusal.{Refusal}
use Rattle.xid.specs.declared.transaction.Vote.{Vote}
use Rattle.xid.proofs.Deciding.{xid_self, xid_decides}
use Rattle.ballot.specs.Greatest.{IsIn}
use Rattle.stable_record.specs.declared.fact.FactKind.{FactKind as Fact}
use Rattle.stable_record.specs.declared.fact.Touched.{Touched}
use Rattle.stable_record.specs.Facts.{fact_tx}
use Rattle.wire.specs.Messages.{message_tx}
use Rattle.wire.specs.declared.message.Kind.{Kind}
use Rattle.wire.specs.declared.message.Kind.TheVariants as kinds
use Rattle.wire.specs.declared.rest.Rest.{Rest}
use Rattle.wire.specs.declared.rest.Rest.TheVariants as rests
use Rattle.wire.specs.Said.{said}
use Rattle.protocol.specs.declared.answers.Answer.{Answer}
use Rattle.protocol.specs.declared.answers.Answer.TheVariants.{Done, Stands, Refused}
use Rattle.protocol.specs.declared.decisions.Decision.{Decision}
use Rattle.protocol.specs.declared.decisions.MessageDecision.{MessageDecision}
use Rattle.protocol.specs.declared.decisions.Outgoing.{Outgoing}
use Rattle.protocol.specs.declared.decisions.Address.TheVariants.{Leaders}
use Rattle.protocol.specs.Decisions.{sent_reply, shown}
use Rattle.protocol.specs.Effects.{Config, Effect, decision_of, no_effect, sends_only, stores, to, is_inside, view_standing}
use Rattle.protocol.specs.Facts.{is_prepared_view, is_open_view, is_spent, is_ended, vote_in, view}
use Rattle.protocol.specs.Holds.{AreDistinct, names_of}
use Rattle.protocol.specs.Managers.{Branch, stored_votes, plays_at_manager, branches_without, idle_keys, vote_sent, first_vote}
use Rattle.protocol.specs.Managers.{on_manager_message, on_manager_timeout, on_view_call}
use Rattle.protocol.specs.Nodes.{Received, ReceivedNoise}
use Rattle.protocol.proofs.Lists.{all_in}
use Rattle.protocol.proofs.Manager.Apart.{fact_plays}
use Rattle.protocol.proofs.Manager.Keys.{spent_by}
use Rattle.protocol.proofs.Manager.Played.{voted_named}
use Rattle.protocol.proofs.Manager.Prepared.{names_held_once}
use Rattle.protocol.proofs.Manager.Views.{prepared_shows, vote_in_stands}
use Rattle.branch_table.specs.TableStates.{AreTableBranches}
use Rattle.resource_manager.specs.declared.course.Course.{Course}
use Rattle.resource_manager.specs.declared.reminding.Reminder.{Reminder}
use Rattle.resource_manager.specs.Courses.{Stored, stored_by, vote_of, view_of, vote_among, is_ended_among, is_new_course, view_among}
use Rattle.resource_manager.specs.Courses.{course_in}
use Rattle.resource_manager.specs.SpentNames.{is_spent_in}
use Rattle.resource_manager.specs.Managers.{ManagerParts, StandsFor, IsDecision, IsOfIdleBranch, Decides, Rule, branches_in}
use Rattle.resource_manager.specs.Managers.{unspent_branches}
use Rattle.resource_manager.specs.Messages.{are_below, asked_by, IsReminder}
use Rattle.resource_manager.proofs.Named.{same_idle, same_named}
use Rattle.resource_manager.proofs.More.{spent_more, unspent_more, unspent_all}
use Rattle.resource_manager.proofs.Standing.{other_in}
use Rattle.resource_manager.proofs.Votes.{view_is, prepared_vote, only_named}

-- ---- decisions

abbrev nothing : Decision
nothing = record { answer = Done; fact = None; sends = [] }

-- a decision with nothing to store or to send, as the machine has it
pub nothing_shown : (decision : MessageDecision) → decision.fact ≡ None → decision.reply ≡ None → shown decision ≡ nothing
nothing_shown decision fact reply = λ i. record { answer = Done; fact = fact i; sends = sent_reply (reply i) }

-- nothing to store: what is sent is the rule's, which leaves all
pub tells : (m : ManagerParts) (decision : Decision) (sends : List Outgoing) (rule : Rule)
    → decision ≡ record { answer = Done; fact = None; sends = sends }
    → ((config : Config) (number : ℕ) (facts : List Fact) (branches : List Branch) → StandsFor config number m facts branches
    → rule config number (stored_votes number facts) branches ≡ sends_only branches sends) → Decides m decision rule
tells m decision sends rule e is config number facts branches stands =
    let same = is config number facts branches stands in
    subst (λ (d : Decision). IsDecision number facts branches d (rule config number (stored_votes number facts) branches)) (sym e)
    (record {
      effect_is = ap decision_of (sym same);
      plays = tt;
      leaves = ap (λ (f : Effect (List Branch)). f.memory) same ∙ sym (unspent_all number facts branches stands.apart.unspent);
    })

-- a fact to store, which plays and leaves what the rule does
pub stores_fact : (m : ManagerParts) (decision : Decision) (fact : Fact) (sends : List Outgoing) (rule : Rule)
    → decision ≡ record { answer = Done; fact = Some fact; sends = sends }
    → ((config : Config) (number : ℕ) (facts : List Fact) (branches : List Branch) → StandsFor config number m facts branches
    → (rule config number (stored_votes number facts) branches
    ≡ stores (unspent_branches number (facts ++ fact ∷ []) branches) fact sends)
    × (plays_at_manager number (stored_votes number facts) fact ≡ true) × IsOfIdleBranch number branches fact) → Decides m decision rule
stores_fact m decision fact sends rule e is config number facts branches stands =
    let all = is config number facts branches stands in
    subst (λ (d : Decision). IsDecision number facts branches d (rule config number (stored_votes number facts) branches)) (sym e)
    (record {
      effect_is = ap decision_of (sym all.0);
      plays = (all.1, all.2);
      leaves = ap (λ (f : Effect (List Branch)). f.memory) all.0;
    })

-- what is left of the branches after a fact of a transaction that has the name x here
without_is : (number : ℕ) (facts : List Fact) (branches : List Branch) (fact : Fact) (x : XidParts)
    → ((b : Branch) → IsIn branches b → is_spent number facts b.xid ≡ false) → xid_at (fact_tx fact) number ≡ Some x
    → branches_without branches x ≡ unspent_branches number (facts ++ fact ∷ []) branches
without_is number facts branches fact x unspent name =
    ap (λ bs. branches_without bs x) (sym (unspent_all number facts branches unspent)) ∙ sym
    (unspent_more number facts fact x name branches)

-- ---- Commit

module _ (m : ManagerParts) (tx : TxParts) where
  abbrev commit_rule : Rule
  commit_rule config number stored branches = on_manager_message number stored branches (xid_at tx number) (kinds.Commit tx)

  commit_not : (number : ℕ) (facts : List Fact) (branches : List Branch) (o : Option XidParts) → is_prepared_view (view facts tx) ≡ false
      → on_manager_message number (stored_votes number facts) branches o (kinds.Commit tx) ≡ no_effect branches
  commit_not number facts branches None e = refl
  commit_not number facts branches (Some x) e =
      ap (λ (t : Bool). if t then stores branches (Fact.Committed tx) [] else no_effect branches) e

  -- not prepared
  pub commit_ignored : (decision : Decision) (c : Course) → course_in m.courses tx ≡ c → is_prepared_view (view_of c) ≡ false
      → decision ≡ nothing → Decides m decision commit_rule
  commit_ignored decision c course ended e = tells m decision [] commit_rule e (λ config number facts branches stands.
      commit_not number facts branches (xid_at tx number)
      (ap is_prepared_view (view_is config number m facts branches stands tx c course) ∙ ended))

  -- no name here
  pub commit_unnamed : (decision : Decision) → xid_at tx m.number ≡ None → decision ≡ nothing → Decides m decision commit_rule
  commit_unnamed decision none e = tells m decision [] commit_rule e (λ config number facts branches stands.
      ap (λ o. on_manager_message number (stored_votes number facts) branches o (kinds.Commit tx))
      (ap (xid_at tx) (sym stands.number_is) ∙ none))

  -- a commit of what is prepared is stored
  pub commit_stored : (decision : Decision) (x : XidParts) → xid_at tx m.number ≡ Some x → course_in m.courses tx ≡ Course.Prepared
      → decision ≡ record { answer = Done; fact = Some (Fact.Committed tx); sends = [] } → Decides m decision commit_rule
  commit_stored decision x name prepared e = stores_fact m decision (Fact.Committed tx) [] commit_rule e
      (λ config number facts branches stands.
      let named = ap (xid_at tx) (sym stands.number_is) ∙ name in
      let is = ap is_prepared_view (view_is config number m facts branches stands tx Course.Prepared prepared) in
      let vote = prepared_vote config number m facts branches stands tx prepared in
      let left = unspent_all number (facts ++ Fact.Committed tx ∷ []) branches (λ b h.
      spent_more number facts (Fact.Committed tx) x named b.xid
      ∙ (λ i. false_from_ne_true (xid_eq b.xid x) (λ f. both_ways (is_spent number facts b.xid) (stands.apart.unspent b h)
      (ap (is_spent number facts) ((xid_decides b.xid x).0 f) ∙ spent_by number facts (Fact.VotePrepared tx vote.0) x vote.1 named)) i
      || stands.apart.unspent b h i)) in (
        ap (λ o. on_manager_message number (stored_votes number facts) branches o (kinds.Commit tx)) named
            ∙ ap (λ (t : Bool). if t then stores branches (Fact.Committed tx) [] else no_effect branches) is
            ∙ ap (λ bs. stores bs (Fact.Committed tx) []) (sym left),
        is,
        tt,
      ))

-- ---- Abort

module _ (m : ManagerParts) (tx : TxParts) where
  abbrev abort_rule : Rule
  abort_rule config number stored branches = on_manager_message number stored branches (xid_at tx number) (kinds.Abort tx)

  abort_not : (number : ℕ) (facts : List Fact) (branches : List Branch) (o : Option XidParts) → is_open_view (view facts tx) ≡ false
      → on_manager_message number (stored_votes number facts) branches o (kinds.Abort tx) ≡ no_effect branches
  abort_not number facts branches None e = refl
  abort_not number facts branches (Some x) e =
      ap (λ (t : Bool). if t then stores (branches_without branches x) (Fact.Aborted tx) [] else no_effect branches) e

  -- an abort of what is over is ignored
  pub abort_ignored : (decision : Decision) (c : Course) → course_in m.courses tx ≡ c → is_open_view (view_of c) ≡ false
      → decision ≡ nothing → Decides m decision abort_rule
  abort_ignored decision c course ended e = tells m decision [] abort_rule e (λ config number facts branches stands.
      abort_not number facts branches (xid_at tx number)
      (ap is_open_view (view_is config number m facts branches stands tx c course) ∙ ended))

  -- so is one of a transaction without a branch here
  pub abort_unnamed : (decision : Decision) → xid_at tx m.number ≡ None → decision ≡ nothing → Decides m decision abort_rule
  abort_unnamed decision none e = tells m decision [] abort_rule e (λ config number facts branches stands.
      ap (λ o. on_manager_message number (stored_votes number facts) branches o (kinds.Abort tx))
      (ap (xid_at tx) (sym stands.number_is) ∙ none))

  -- every other abort is stored
  pub abort_stored : (decision : Decision) (x : XidParts) (c : Course) → xid_at tx m.number ≡ Some x → course_in m.courses tx ≡ c
      → is_open_view (view_of c) ≡ true → decision ≡ record { answer = Done; fact = Some (Fact.Aborted tx); sends = [] }
      → Decides m decision abort_rule
  abort_stored decision x c name course opens e = stores_fact m decision (Fact.Aborted tx) [] abort_rule e
      (λ config number facts branches stands.
      let named = ap (xid_at tx) (sym stands.number_is) ∙ name in
      let is = ap is_open_view (view_is config number m facts branches stands tx c course) ∙ opens in (
        ap (λ o. on_manager_message number (stored_votes number facts) branches o (kinds.Abort tx)) named
            ∙ ap (λ (t : Bool). if t then stores (branches_without branches x) (Fact.Aborted tx) [] else no_effect branches) is
            ∙ ap (λ bs. stores bs (Fact.Aborted tx) []) (without_is number facts branches (Fact.Aborted tx) x stands.apart.unspent named),
        fact_plays number facts branches (Received (kinds.Abort tx)) (Fact.Aborted tx) stands.apart
            (x, record { came = refl; name = named; opens = is }),
        tt,
      ))

-- ---- Prepare

-- names that a table keeps apart
pub distinct_names : (xs : List XidParts) → IsDistinct xid_eq xs → AreDistinct xs
unfolding IsDistinct
distinct_names [] d = tt
distinct_names (x ∷ xs) d =
    (λ h. both_ways (xid_eq x x) (all_in (λ y. xid_eq x y ≡ false) xs d.0 x h) (xid_self x), distinct_names xs d.1)

module _ (m : ManagerParts) (tx : TxParts) where
  abbrev prepare_rule : Rule
  prepare_rule config number stored branches = on_manager_message number stored branches (xid_at tx number) (kinds.Prepare tx)

  -- Prepare by what is stored
  abbrev prepared_by : ℕ → List Branch → XidParts → Option Vote → (ended spent : Bool) → Option (List Touched) → Effect (List Branch)
  prepared_by number branches x vote ended spent idle =
      if is_some vote then sends_only branches (vote_sent number tx vote)
      else if ended then no_effect branches
      else first_vote number branches tx x spent idle

  -- a prepare of a transaction without a branch here is ignored
  pub prepare_unnamed : (decision : Decision) → xid_at tx m.number ≡ None → decision ≡ nothing → Decides m decision prepare_rule
  prepare_unnamed decision none e = tells m decision [] prepare_rule e (λ config number facts branches stands.
      ap (λ o. on_manager_message number (stored_votes number facts) branches o (kinds.Prepare tx))
      (ap (xid_at tx) (sym stands.number_is) ∙ none))

  module _ (x : XidParts) (name : xid_at tx m.number ≡ Some x) (c : Course) (course : course_in m.courses tx ≡ c) where
    module _ (config : Config) (number : ℕ) (facts : List Fact) (branches : List Branch)
        (stands : StandsFor config number m facts branches) where
      named : xid_at tx number ≡ Some x
      named = ap (xid_at tx) (sym stands.number_is) ∙ name

      by_course : on_manager_message number (stored_votes number facts) branches (xid_at tx number) (kinds.Prepare tx)
          ≡ prepared_by number branches x (vote_of c) (is_ended_among (stored_by c)) (is_spent number facts x) (idle_keys branches x)
      by_course =
          let s = stands.stored_are tx ∙ ap stored_by course in
          ap (λ o. on_manager_message number (stored_votes number facts) branches o (kinds.Prepare tx)) named
          ∙ ap (λ (t : Stored). prepared_by number branches x (vote_among t) (is_ended_among t) (is_spent number facts x)
          (idle_keys branches x)) s

    -- a vote that is stored is sent again
    pub prepare_again : (decision : Decision) (vote : Vote) → vote_of c ≡ Some vote
        → decision ≡ record { answer = Done; fact = None; sends = vote_sent m.number tx (Some vote) } → Decides m decision prepare_rule
    prepare_again decision vote voted e = tells m decision (vote_sent m.number tx (Some vote)) prepare_rule e
        (λ config number facts branches stands.
        by_course config number facts branches stands
        ∙ ap (λ (v : Option Vote). prepared_by number branches x v (is_ended_among (stored_by c)) (is_spent number facts x)
        (idle_keys branches x)) voted
        ∙ ap (λ (n : ℕ). sends_only branches (vote_sent n tx (Some vote))) (sym stands.number_is))

    -- an outcome is stored without a vote
    pub prepare_ended : (decision : Decision) → vote_of c ≡ None → is_ended_among (stored_by c) ≡ true → decision ≡ nothing
        → Decides m decision prepare_rule
    prepare_ended decision unvoted ended e = tells m decision [] prepare_rule e (λ config number facts branches stands.
        by_course config number facts branches stands
        ∙ (λ i. prepared_by number branches x (unvoted i) (ended i) (is_spent number facts x) (idle_keys branches x)))

  -- the first vote
  module _ (x : XidParts) (name : xid_at tx m.number ≡ Some x) (working : course_in m.courses tx ≡ Course.Working)
      (config : Config) (number : ℕ) (facts : List Fact) (branches : List Branch) (stands : StandsFor config number m facts branches) where
    at_name : xid_at tx number ≡ Some x
    at_name = ap (xid_at tx) (sym stands.number_is) ∙ name

    is_first : on_manager_message number (stored_votes number facts) branches (xid_at tx number) (kinds.Prepare tx)
        ≡ first_vote number branches tx x (is_spent number facts x) (idle_keys branches x)
    is_first = by_course x name Course.Working working config number facts branches stands

    fresh : (is_some (vote_in facts tx) ≡ false) × (is_ended facts tx ≡ false)
    fresh =
        let s = stands.stored_are tx ∙ ap stored_by working in
        (ap (λ (t : Stored). is_some (vote_among t)) s, ap (λ (t : Stored). is_ended_among t) s)

    refused : IsDecision number facts branches
        (record { answer = Done; fact = Some (Fact.VoteAborted tx); sends = vote_sent number tx (Some Vote.Aborted) })
        (stores (branches_without branches x) (Fact.VoteAborted tx) (vote_sent number tx (Some Vote.Aborted)))
    refused = record {
      effect_is = refl;
      plays = (
        fact_plays number facts branches ReceivedNoise (Fact.VoteAborted tx) stands.apart
            (x, record { name = at_name; new = fresh.0; unended = fresh.1 }),
        tt,
      );
      leaves = without_is number facts branches (Fact.VoteAborted tx) x stands.apart.unspent at_name;
    }

    first_decided : (idle : Option (List Touched)) → is_spent number facts x ≡ false → idle_keys branches x ≡ idle
        → IsDecision number facts branches (decision_of (first_vote number branches tx x false idle))
        (first_vote number branches tx x false idle)
    first_decided (Some keys) unspent idle = record {
      effect_is = refl;
      plays = (
        fact_plays number facts branches ReceivedNoise (Fact.VotePrepared tx keys) stands.apart (
          x,
          record {
            first = record { name = at_name; new = fresh.0; unended = fresh.1 };
            unspent = unspent;
            idle = idle;
          },
        ),
        (x, at_name, idle),
      );
      leaves = without_is number facts branches (Fact.VotePrepared tx keys) x stands.apart.unspent at_name;
    }
    first_decided None unspent idle = refused

    -- of a spent name the vote is aborted, whatever is idle
    spent_first : (idle : Option (List Touched)) → first_vote number branches tx x true idle
        ≡ stores (branches_without branches x) (Fact.VoteAborted tx) (vote_sent number tx (Some Vote.Aborted))
    spent_first None = refl
    spent_first (Some keys) = refl

    -- an idle branch of the table is one of the machine, where its name isn't spent
    same_idle_keys : AreTableBranches m.table.branches → is_spent number facts x ≡ false
        → idle_keys m.table.branches x ≡ idle_keys branches x
    same_idle_keys are unspent =
        let all = branches_in number facts branches in
        let once = names_held_once config number facts branches stands.played stands.apart in
        same_idle m.table.branches branches x (distinct_names (names_of m.table.branches) are.distinct) stands.apart.distinct
        (stands.branches_are x
        ∙ same_named all branches x stands.apart.distinct
        (λ b e h. only_named number facts branches x unspent b e h) (λ b e h. other_in number facts branches b h))

    carried : (d : Decision) (f : Effect (List Branch)) (decision : Decision) (effect : Effect (List Branch)) → d ≡ decision → f ≡ effect
        → IsDecision number facts branches d f → IsDecision number facts branches decision effect
    carried d f decision effect same also is = subst (IsDecision number facts branches decision) also
        (subst (λ (g : Decision). IsDecision number facts branches g f) same is)

    pub first_is : (decision : Decision) → (is_spent_in m.spent x ≡ false → AreTableBranches m.table.branches)
        → decision ≡ decision_of (first_vote m.number branches tx x (is_spent_in m.spent x) (idle_keys m.table.branches x))
        → IsDecision number facts branches decision
        (on_manager_message number (stored_votes number facts) branches (xid_at tx number) (kinds.Prepare tx))
    first_is decision are e = by (is_spent_in m.spent x) refl
      where
        by : (spent : Bool) → is_spent_in m.spent x ≡ spent → IsDecision number facts branches decision
            (on_manager_message number (stored_votes number facts) branches (xid_at tx number) (kinds.Prepare tx))
        by true f =
            let spent = stands.spent_are x ∙ f in
            let effect = is_first ∙ ap (λ (s : Bool). first_vote number branches tx x s (idle_keys branches x)) spent
            ∙ spent_first (idle_keys branches x) in
            let given = e ∙ (λ i. decision_of (first_vote (stands.number_is i) branches tx x (f i) (idle_keys m.table.branches x)))
            ∙ ap decision_of (spent_first (idle_keys m.table.branches x)) in
            carried _ _ decision _ (sym given) (sym effect) refused
        by false f =
            let unspent = stands.spent_are x ∙ f in
            let idle = same_idle_keys (are f) unspent in
            let effect = is_first ∙ ap (λ (s : Bool). first_vote number branches tx x s (idle_keys branches x)) unspent in
            let given = e ∙ (λ i. decision_of (first_vote (stands.number_is i) branches tx x (f i) (idle i))) in
            carried _ _ decision _ (sym given) (sym effect) (first_decided (idle_keys branches x) unspent refl)

-- ---- a timeout, and a view

inside_is : (config : Config) (managers : ℕ) (tx : TxParts) (t : Bool) → managers ≡ config.managers → t ≡ are_below managers
    (participants tx)
    → is_inside config tx ≡ t
inside_is config managers tx t same e = sym (e ∙ ap (λ (n : ℕ). are_below n (participants tx)) same)

module _ (m : ManagerParts) (tx : TxParts) (config : Config) (number : ℕ) (facts : List Fact) (branches : List Branch)
    (stands : StandsFor config number m facts branches) where
  abbrev timeout_by : (inside : Bool) → Option Vote → (prepared : Bool) → Effect (List Branch)
  timeout_by inside vote prepared =
      if inside then sends_only branches (vote_sent number tx vote ++ (if prepared then to Leaders (kinds.Ask tx number) ∷ [] else []))
      else record { answer = Refused Refusal.BadTx; fact = None; sends = []; memory = branches }

  timeout_is : (inside : Bool) (vote : Option Vote) (prepared : Bool) → is_inside config tx ≡ inside → vote_in facts tx ≡ vote
      → is_prepared_view (view facts tx) ≡ prepared
      → on_manager_timeout config number (stored_votes number facts) branches tx ≡ timeout_by inside vote prepared
  timeout_is inside vote prepared e f g = λ i. timeout_by (e i) (f i) (g i)

  reminds : (reminder : Reminder) (effect : Effect (List Branch)) (answer : Answer) (first second : List Outgoing)
      → reminder ≡ record { answer = answer; vote = first; question = second }
      → effect ≡ record { answer = answer; fact = None; sends = first ++ second; memory = branches } → IsReminder reminder branches effect
  reminds reminder effect answer first second e f =
      subst (λ (r : Reminder). IsReminder r branches effect) (sym e)
      (subst (IsReminder (record { answer = answer; vote = first; question = second }) branches) (sym f)
      (record { answer = refl; sends = refl; fact = refl; memory = refl }))

  unvoted_stranger : is_participant tx number ≡ false → (vote_in facts tx ≡ None) × (is_prepared_view (view facts tx) ≡ false)
  unvoted_stranger stranger = (
    by (vote_in facts tx) refl,
    false_from_ne_true (is_prepared_view (view facts tx)) (λ e. both_ways (is_participant tx number) stranger
        (voted_named config number facts stands.played tx Vote.Prepared (prepared_shows facts tx e).0)),
  )
    where
      by : (o : Option Vote) → vote_in facts tx ≡ o → vote_in facts tx ≡ None
      by None e = e
      by (Some v) e =
          absurd (both_ways (is_participant tx number) stranger
          (voted_named config number facts stands.played tx v (vote_in_stands facts tx v e)))

  -- a timeout of one sends nothing
  pub timeout_stranger : (reminder : Reminder) (t : Bool) → t ≡ are_below m.managers (participants tx) → t ≡ true
      → is_participant tx m.number ≡ false → reminder ≡ record { answer = Done; vote = []; question = [] }
      → IsReminder reminder branches (on_manager_timeout config number (stored_votes number facts) branches tx)
  timeout_stranger reminder t below inside stranger e =
      let none = unvoted_stranger (ap (is_participant tx) (sym stands.number_is) ∙ stranger) in
      reminds reminder _ Done [] [] e
      (timeout_is true None false (inside_is config m.managers tx t stands.managers_are below ∙ inside) none.0 none.1)

  -- and of one with a branch, the vote and the question
  pub timeout_named : (reminder : Reminder) (t : Bool) → t ≡ are_below m.managers (participants tx) → t ≡ true → (c : Course)
      → course_in m.courses tx ≡ c
      → reminder ≡ record { answer = Done; vote = vote_sent m.number tx (vote_of c); question = asked_by m.number tx c }
      → IsReminder reminder branches (on_manager_timeout config number (stored_votes number facts) branches tx)
  timeout_named reminder t below inside c course e =
      let s = stands.stored_are tx ∙ ap stored_by course in
      reminds reminder _ Done (vote_sent number tx (vote_of c)) (asked_by number tx c)
      (e ∙ (λ i. record {
        answer = Done;
        vote = vote_sent (stands.number_is i) tx (vote_of c);
        question = asked_by (stands.number_is i) tx c;
      }))
      (timeout_is true (vote_of c) (is_prepared_view (view_of c)) (inside_is config m.managers tx t stands.managers_are below ∙ inside)
      (ap vote_among s) (ap (λ (u : Stored). is_prepared_view (view_among u)) s))

  abbrev view_by : Bool → Answer
  view_by known = if known then Stands (view_standing (view facts tx)) else Refused Refusal.BadTx

  -- so is a view of one with a branch here
  pub view_named_here : (t : Bool) → t ≡ are_below m.managers (participants tx) → t ≡ true → is_participant tx m.number ≡ true
      → Stands (view_standing (view_of (course_in m.courses tx)))
      ≡ (on_view_call config number (stored_votes number facts) branches tx).answer
  view_named_here t below inside named =
      ap (λ (s : Stored). Stands (view_standing (view_among s))) (sym (stands.stored_are tx))
      ∙ sym (λ i. view_by ((inside_is config m.managers tx t stands.managers_are below ∙ inside) i
      && (ap (is_participant tx) (sym stands.number_is) ∙ named) i))

-- ---- as the code asks

-- the course of a transaction in an equal manager
pub course_of : (m old : ManagerParts) (tx : TxParts) (c : Course) → m ≡ old → c ≡ course_in m.courses tx → course_in old.courses tx ≡ c
course_of m old tx c e f = sym (f ∙ ap (λ (o : ManagerParts). course_in o.courses tx) e)

-- a vote that is told again, by an equal number
pub told_is : (d : Decision) (n o : ℕ) (tx : TxParts) (vote : Vote)
    → d ≡ record { answer = Done; fact = None; sends = vote_sent n tx (Some vote) } → n ≡ o
    → d ≡ record { answer = Done; fact = None; sends = vote_sent o tx (Some vote) }
told_is d n o tx vote e same = e ∙ (λ i. record { answer = Done; fact = None; sends = vote_sent (same i) tx (Some vote) })

-- where neither a vote nor the beginning stands, an outcome does
pub ended_by : (c : Course) → vote_of c ≡ None → is_new_course c ≡ false → is_ended_among (stored_by c) ≡ true
ended_by Course.AbortedUnvoted e f = refl
ended_by Course.Working e f = absurd (cc (f))
ended_by Course.Prepared e f = absurd (cc (e))
ended_by Course.VotedAborted e f = absurd (cc (e))
ended_by Course.Committed e f = absurd (cc (e))
ended_by Course.RolledBack e f = absurd (cc (e))

-- the first prepare of a transaction, where it was not refused
pub first_shown : (r : Result MessageDecision Refusal) (m : ManagerParts) (tx : TxParts) (x : XidParts)
    → xid_at tx m.number ≡ Some x → course_in m.courses tx ≡ Course.Working
    → (is_spent_in m.spent x ≡ false → AreTableBranches m.table.branches)
    → IfOk r (λ decision. (branches : List Branch) → shown decision
    ≡ decision_of (first_vote m.number branches tx x (is_spent_in m.spent x) (idle_keys m.table.branches x)))
    → IfOk r (λ decision. Decides m (shown decision)
    (λ config number stored branches. on_manager_message number stored branches (xid_at tx number) (kinds.Prepare tx)))
first_shown (Ok decision) m tx x name working are is =
    λ config number facts branches stands.
    first_is m tx x name working config number facts branches stands (shown decision) are (is branches)
first_shown (Err refusal) m tx x name working are is = tt

-- the messages that no resource manager takes
abbrev pub IsOther : Kind → Type 0
IsOther (kinds.Prepare tx) = ⊥
IsOther (kinds.Commit tx) = ⊥
IsOther (kinds.Abort tx) = ⊥
IsOther message = Unit {0}

other_by : (number : ℕ) (facts : List Fact) (branches : List Branch) (o : Option XidParts) (message : Kind) → IsOther message
    → on_manager_message number (stored_votes number facts) branches o message ≡ no_effect branches
other_by number facts branches None message is = refl
other_by number facts branches (Some x) (kinds.Prepare tx) is = absurd is
other_by number facts branches (Some x) (kinds.Commit tx) is = absurd is
other_by number facts branches (Some x) (kinds.Abort tx) is = absurd is
other_by number facts branches (Some x) message is = refl

-- every other message is ignored
pub other_message : (m : ManagerParts) (decision : Decision) (message : Kind) → IsOther message → decision ≡ nothing
    → Decides m decision (λ config number stored branches. on_manager_message number stored branches (xid_at
    (message_tx message) number) message)
other_message m decision message is e = tells m decision []
    (λ config number stored branches. on_manager_message number stored branches (xid_at (message_tx message) number) message) e
    (λ config number facts branches stands. other_by number facts branches (xid_at (message_tx message) number) message is)

-- a rest of none of the three kinds that a resource manager acts on
pub other_rest : (tx : TxParts) (rest : Rest) → (rest ≡ rests.Prepare → ⊥) → (rest ≡ rests.Commit → ⊥) → (rest ≡ rests.Abort → ⊥)
    → IsOther (said tx rest)
other_rest tx rests.Prepare p c a = p refl
other_rest tx rests.Commit p c a = c refl
other_rest tx rests.Abort p c a = a refl
other_rest tx rest p c a = tt
