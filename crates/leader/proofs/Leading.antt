-- Each call of a leader, by the rule at the course of its transaction.
-- Needed by 8 functions of this crate; Above, Compacting and Storing; crate node_core.
use Rattle.std.proofs.Common.{◌≡◌, ◌∙◌, ℕ, ◌<◌, ◌^◌, max, Bool, true, false, not, ◌&&◌, ◌||◌, ◌==◌, List, [], ◌∷◌, ◌++◌, Option, Some, None}
use Rattle.std.proofs.Common.{sym, ap, refl, subst, arith}
use Rattle.std.specs.Prelude.{if◌then◌else◌, nat_lt, filter_map, map, IsTrue, Result, Err, IfSome, IfNone}
use Rattle.std.specs.List.{list_any, AllByRecursion, cons_option}
use Rattle.std.proofs.lemmas.Bool.{false≢true, lt-ltb}
use Rattle.xid.specs.Limits.{most_acceptors}
use Rattle.xid.specs.Transactions.{TxParts, tx_eq, is_participant, participants}
use Rattle.xid.specs.declared.refusals.Refusal.{Refusal}
use Rattle.xid.specs.declared.refusals.Refusal.TheVariants.{NoMemory}
use Rattle.wire.specs.declared.items.InstanceReport.{InstanceReport}
use Rattle.wire.specs.declared.items.InstanceAccept.{InstanceAccept}
use Rattle.stable_record.specs.declared.fact.FactKind.{FactKind as Fact}
use Rattle.ballot.specs.Ballots.{next_of, owner_of}
use Rattle.ballot.specs.Greatest.{greatest}
use Rattle.protocol.specs.declared.answers.Answer.TheVariants.{Done, Stands, Refused}
use Rattle.protocol.specs.declared.decisions.Decision.{Decision}
use Rattle.protocol.specs.declared.decisions.Outgoing.{Outgoing}
use Rattle.protocol.specs.declared.decisions.Address.TheVariants.{Node, Managers}
use Rattle.protocol.specs.declared.nodes.NodeId.TheVariants.{R}
use Rattle.protocol.specs.Effects.{Config, decision_of, is_inside, answer_only, sends_only, stores, status_standing}
use Rattle.protocol.specs.Facts.{last_ballot, ballot_begun}
use Rattle.protocol.specs.LeaderMemory.{LeaderMemory, StoredBallots, nothing_heard, status_of, is_known, with_met, with_begun}
use Rattle.protocol.specs.Leaders as rules
use Rattle.protocol.specs.Leaders.{is_final, outcome_messages, phase_1a}
use Rattle.leader.specs.declared.decision.LeaderDecision.{LeaderDecision}
use Rattle.leader.specs.Courses.{CourseParts, CourseStands, status_in, after_meeting, after_1b, proposals_after_1b, after_2b}
use Rattle.leader.specs.Courses.{status_after_2b, after_beginning, fresh, fresh_instance, InstanceStands, after_ballot}
use Rattle.leader.specs.Orders.{proposal_messages, phase_1a_by}
use Rattle.leader.specs.Decisions.{shown}
use Rattle.leader.specs.Places.{CoursesParts, IsChanged, IsKept}
use Rattle.leader.specs.Leaders.{taken_over, taken_over_if, LeaderParts, StandsForBallots, course_of, commit_messages, Rule, Follows}
use Rattle.leader.specs.Leaders.{FollowsOrRefuses, IsSame, are_below}
use Rattle.leader.proofs.Basics.{tx_self, same_tx}
use Rattle.leader.proofs.Elsewhere.{same_then, course_same, met_elsewhere, begun_elsewhere}
use Rattle.leader.proofs.Beginning.{meet_step, begin_step}
use Rattle.leader.proofs.Rules.{Agrees, status_is, changed_stands, agreed_stands, kept_stands, commit_rule, ask_rule, accepts_rule}
use Rattle.leader.proofs.Rules.{reports_rule}

-- a decision that sends alone
abbrev pub sending : List Outgoing → Decision
sending sends = record { answer = Done; fact = None; sends = sends }

-- a leader with other courses
abbrev pub with_courses : LeaderParts → CoursesParts → LeaderParts
with_courses l courses = record l { courses = courses }

-- what a leader stands for, an equal one does
pub moved : (config : Config) (number : ℕ) (inner old : LeaderParts) (stored : StoredBallots) (memory : LeaderMemory) → inner ≡ old
    → StandsForBallots config number old stored memory → StandsForBallots config number inner stored memory
moved config number inner old stored memory is stands =
    let P : LeaderParts → Type 0 = λ l. StandsForBallots config number l stored memory in subst P (sym is) stands

-- a course that changed as its rule says follows the rule
pub follows : (config : Config) (number : ℕ) (inner old : LeaderParts) (courses : CoursesParts) (tx : TxParts) (c : CourseParts)
    (decided : Decision) (decision : LeaderDecision) (rule : Rule) → inner ≡ old → shown decision ≡ decided
    → IsChanged inner.courses courses tx c
    → ((stored : StoredBallots) (memory : LeaderMemory) → StandsForBallots config number inner stored memory
    → Agrees config.acceptors stored memory tx decided c (rule stored memory))
    → Follows config number old (with_courses inner courses) decision rule
follows config number inner old courses tx c decided decision rule is shows changed agrees = record {
  decides = λ stored memory stands. shows ∙ (agrees stored memory (moved config number inner old stored memory is stands)).decides;
  stands = λ stored memory stands.
      let inside : StandsForBallots config number inner stored memory = moved config number inner old stored memory is stands in
      agreed_stands config number inner courses tx c decided stored memory (rule stored memory) inside changed
      (agrees stored memory inside);
  begun_is = changed.begun_is ∙ ap (λ (l : LeaderParts). l.courses.begun) is;
}

-- what changed nothing at any course is the same
pub kept_same : (config : Config) (number : ℕ) (inner old : LeaderParts) (courses : CoursesParts) → inner ≡ old
    → IsKept inner.courses courses
    → IsSame config number old (with_courses inner courses)
kept_same config number inner old courses is kept = record {
  stands = λ stored memory stands.
      kept_stands config number inner courses stored memory kept (moved config number inner old stored memory is stands);
  begun_is = kept.begun_is ∙ ap (λ (l : LeaderParts). l.courses.begun) is;
}

-- a refusal for want of memory that left all the same
pub err_same : (config : Config) (number : ℕ) (old new : LeaderParts) (r : Result LeaderDecision Refusal) (e : Refusal) (rule : Rule)
    → r ≡ Err e → e ≡ NoMemory → IsSame config number old new → FollowsOrRefuses config number old new r rule
err_same config number old new r e rule is memory h =
    let P : Result LeaderDecision Refusal → Type 0 = λ x. FollowsOrRefuses config number old new x rule in
    subst P (sym (is ∙ ap Err memory)) h

-- ---- a leader that has played nothing

fresh_instances : (n : ℕ) (tx : TxParts) (instances : List ℕ)
    → AllByRecursion (InstanceStands n nothing_heard tx) (map fresh_instance instances)
fresh_instances n tx [] = tt
fresh_instances n tx (i ∷ instances) = (
  record {
    whole = refl;
    reporters_are = λ b a e. absurd (cc);
    best_is = λ b e. absurd (cc);
    proposed_is = λ b e. absurd (cc);
    prepared_is = refl;
    aborted_is = refl;
  },
  fresh_instances n tx instances,
)

named_again : (instances : List ℕ) → map (λ row. row.instance) (map fresh_instance instances) ≡ instances
named_again [] = refl
named_again (i ∷ instances) = ap (λ rest. i ∷ rest) (named_again instances)

-- it stands for no stored ballots, and nothing heard
pub fresh_stands : (n : ℕ) (tx : TxParts) → CourseStands n (last_ballot []) nothing_heard tx (fresh tx)
fresh_stands n tx = record {
  known_is = refl;
  greatest_is = refl;
  current_is = refl;
  instances_are = named_again (participants tx);
  each_stands = fresh_instances n tx (participants tx);
  whole = tt;
  told_are = λ i b v a. refl;
}

-- ---- each rule, by the leader's own sizes

inside_here : (config : Config) (managers : ℕ) (tx : TxParts) → managers ≡ config.managers → are_below managers (participants tx) ≡ true
    → is_inside config tx ≡ true
inside_here config managers tx is below = ap (λ n. are_below n (participants tx)) (sym is) ∙ below

-- a call to commit, by its rule
pub commit_agrees : (config : Config) (number : ℕ) (l : LeaderParts) (tx : TxParts) → are_below l.managers (participants tx) ≡ true
    → (stored : StoredBallots) (memory : LeaderMemory) → StandsForBallots config number l stored memory
    → Agrees config.acceptors stored memory tx (record {
      answer = Stands (status_standing (status_in (after_meeting (course_of l tx))));
      fact = None;
      sends = commit_messages (status_in (after_meeting (course_of l tx))) tx;
    }) (after_meeting (course_of l tx)) (rules.on_commit_call config stored memory tx)
commit_agrees config number l tx below stored memory stands =
    commit_rule config stored memory tx (course_of l tx) (stands.courses_are tx)
    (inside_here config l.managers tx stands.managers_are below)

-- a question
pub ask_agrees : (config : Config) (number : ℕ) (l : LeaderParts) (tx : TxParts) (rm : ℕ) (stored : StoredBallots) (memory : LeaderMemory)
    → StandsForBallots config number l stored memory
    → Agrees config.acceptors stored memory tx (sending (outcome_messages (status_in (after_meeting (course_of l tx))) tx (Node (R rm))))
    (after_meeting (course_of l tx)) (rules.on_ask config stored memory tx rm)
ask_agrees config number l tx rm stored memory stands = ask_rule config stored memory tx rm (course_of l tx) (stands.courses_are tx)

-- accepts
pub accepts_agree : (config : Config) (number : ℕ) (l : LeaderParts) (tx : TxParts) (a : ℕ) (items : List InstanceAccept)
    → a < most_acceptors
    → (stored : StoredBallots) (memory : LeaderMemory) → StandsForBallots config number l stored memory
    → Agrees config.acceptors stored memory tx (sending (outcome_messages (status_after_2b l.acceptors a items
    (course_of l tx)) tx Managers))
    (after_2b l.acceptors a items (course_of l tx)) (rules.on_2b config stored memory tx a items)
accepts_agree config number l tx a items within stored memory stands =
    let P : ℕ → Type 0 = λ n.
    Agrees config.acceptors stored memory tx (sending (outcome_messages (status_after_2b n a items (course_of l tx)) tx Managers))
    (after_2b n a items (course_of l tx)) (rules.on_2b config stored memory tx a items) in
    subst P (sym stands.acceptors_are) (accepts_rule config stored memory tx a items (course_of l tx) within (stands.courses_are tx))

-- reports
pub reports_agree : (config : Config) (number : ℕ) (l : LeaderParts) (tx : TxParts) (b a : ℕ) (items : List InstanceReport)
    → a < most_acceptors
    → AllByRecursion (λ rm. IsTrue (is_participant tx rm)) (map (λ item. item.instance) items)
    → (stored : StoredBallots) (memory : LeaderMemory) → StandsForBallots config number l stored memory
    → Agrees config.acceptors stored memory tx (sending (proposal_messages tx b (proposals_after_1b l.acceptors b a items
    (course_of l tx))))
    (after_1b l.acceptors b a items (course_of l tx)) (rules.on_1b config stored memory tx b a items)
reports_agree config number l tx b a items within named stored memory stands =
    let P : ℕ → Type 0 = λ n.
    Agrees config.acceptors stored memory tx (sending (proposal_messages tx b (proposals_after_1b n b a items (course_of l tx))))
    (after_1b n b a items (course_of l tx)) (rules.on_1b config stored memory tx b a items) in
    subst P (sym stands.acceptors_are) (reports_rule config stored memory tx b a items (course_of l tx) within named
    (stands.courses_are tx))

-- a timeout of a transaction that has an outcome
pub final_agrees : (config : Config) (number : ℕ) (l : LeaderParts) (tx : TxParts) → are_below l.managers (participants tx) ≡ true
    → is_final (status_in (course_of l tx)) ≡ true
    → (stored : StoredBallots) (memory : LeaderMemory) → StandsForBallots config number l stored memory
    → Agrees config.acceptors stored memory tx (sending (outcome_messages (status_in (course_of l tx)) tx Managers)) (after_meeting
    (course_of l tx))
    (rules.on_leader_timeout config number stored memory tx)
final_agrees config number l tx below final stored memory stands =
    let status : status_of config.acceptors stored memory tx ≡ status_in (course_of l tx) =
    status_is config.acceptors stored memory tx (course_of l tx) (stands.courses_are tx) in
    by_tests (is_inside config tx) (is_final (status_of config.acceptors stored memory tx))
    (inside_here config l.managers tx stands.managers_are below) (ap is_final status ∙ final) status
  where
    b : ℕ
    b = next_of config.leaders number (stored tx)

    by_tests : (i f : Bool) → i ≡ true → f ≡ true → status_of config.acceptors stored memory tx ≡ status_in (course_of l tx)
        → Agrees config.acceptors stored memory tx (sending (outcome_messages (status_in (course_of l tx)) tx Managers)) (after_meeting
        (course_of l tx))
        (if not i then answer_only memory (Refused Refusal.BadTx)
        else if f then sends_only (with_met tx memory) (outcome_messages (status_of config.acceptors stored memory tx) tx Managers)
        else if nat_lt (next_of config.leaders number (stored tx)) (2 ^ 32)
        then stores (with_begun tx (next_of config.leaders number (stored tx)) (with_met tx memory))
        (Fact.Ballot tx (next_of config.leaders number (stored tx))) (phase_1a config tx (next_of config.leaders number (stored tx)))
        else answer_only memory (Refused Refusal.NoBallot))
    by_tests true true h k status = record {
      decides = λ j. sending (outcome_messages (sym status j) tx Managers);
      stands = meet_step config.acceptors stored tx memory (course_of l tx) (stands.courses_are tx);
      elsewhere = λ other differs. met_elsewhere other tx memory differs;
    }
    by_tests true false h k status = absurd (false≢true k)
    by_tests false f h k status = absurd (false≢true h)

-- a timeout of one that has none
pub timeout_effect : (config : Config) (number : ℕ) (l : LeaderParts) (tx : TxParts) → are_below l.managers (participants tx) ≡ true
    → is_final (status_in (course_of l tx)) ≡ false → (fits : Bool)
    → (stored : StoredBallots) (memory : LeaderMemory) → StandsForBallots config number l stored memory
    → nat_lt (next_of l.leaders l.number (course_of l tx).greatest) (2 ^ 32) ≡ fits
    → rules.on_leader_timeout config number stored memory tx
    ≡ (if fits then stores (with_begun tx (next_of l.leaders l.number (course_of l tx).greatest) (with_met tx memory))
    (Fact.Ballot tx (next_of l.leaders l.number (course_of l tx).greatest))
    (phase_1a_by l.bundled tx (next_of l.leaders l.number (course_of l tx).greatest))
    else answer_only memory (Refused Refusal.NoBallot))
timeout_effect config number l tx below final fits stored memory stands is =
    let next : next_of config.leaders number (stored tx) ≡ next_of l.leaders l.number (course_of l tx).greatest =
    (λ k. next_of (sym stands.leaders_are k) (sym stands.number_is k) (sym (stands.courses_are tx).greatest_is k)) in
    (λ k. if not (inside_here config l.managers tx stands.managers_are below k) then answer_only memory (Refused Refusal.BadTx)
    else if (ap is_final (status_is config.acceptors stored memory tx (course_of l tx) (stands.courses_are tx)) ∙ final) k
    then sends_only (with_met tx memory) (outcome_messages (status_of config.acceptors stored memory tx) tx Managers)
    else if (ap (λ b. nat_lt b (2 ^ 32)) next ∙ is) k
    then stores (with_begun tx (next k) (with_met tx memory)) (Fact.Ballot tx (next k)) (phase_1a_by (sym stands.bundled_is k) tx (next k))
    else answer_only memory (Refused Refusal.NoBallot))

-- a timeout of a transaction that isn't the cluster's
pub timeout_outside : (config : Config) (number : ℕ) (inner old : LeaderParts) (tx : TxParts) (stored : StoredBallots)
    (memory : LeaderMemory)
    → inner ≡ old → are_below inner.managers (participants tx) ≡ false → StandsForBallots config number old stored memory
    → StandsForBallots config number old stored (rules.on_leader_timeout config number stored memory tx).memory
timeout_outside config number inner old tx stored memory is outside stands =
    let inside : StandsForBallots config number inner stored memory = moved config number inner old stored memory is stands in
    let h : is_inside config tx ≡ false = ap (λ n. are_below n (participants tx)) (sym inside.managers_are) ∙ outside in
    let same : rules.on_leader_timeout config number stored memory tx ≡ answer_only memory (Refused Refusal.BadTx) =
    (λ k. if not (h k) then answer_only memory (Refused Refusal.BadTx)
    else if is_final (status_of config.acceptors stored memory tx)
    then sends_only (with_met tx memory) (outcome_messages (status_of config.acceptors stored memory tx) tx Managers)
    else if nat_lt (next_of config.leaders number (stored tx)) (2 ^ 32)
    then stores (with_begun tx (next_of config.leaders number (stored tx)) (with_met tx memory))
    (Fact.Ballot tx (next_of config.leaders number (stored tx))) (phase_1a config tx (next_of config.leaders number (stored tx)))
    else answer_only memory (Refused Refusal.NoBallot)) in
    let P : LeaderMemory → Type 0 = λ m. StandsForBallots config number old stored m in
    subst P (sym (ap (λ e. e.memory) same)) stands

-- ---- a ballot begins

known_before : (stored : StoredBallots) (memory : LeaderMemory) (tx : TxParts) → 0 < stored tx → is_known stored memory tx ≡ true
known_before stored memory tx some =
    ap (λ t. list_any (tx_eq tx) memory.met || t) (lt-ltb 0 (stored tx) some) ∙ or_yes (list_any (tx_eq tx) memory.met)
  where
    or_yes : (t : Bool) → (t || true) ≡ true
    or_yes true = refl
    or_yes false = refl

-- a ballot that began, of one that is stored
pub begin_stands : (config : Config) (number : ℕ) (inner old : LeaderParts) (courses : CoursesParts) (tx : TxParts) (b : ℕ)
    (stored : StoredBallots) (memory : LeaderMemory) → inner ≡ old
    → (0 < (course_of inner tx).greatest → IsChanged inner.courses courses tx (after_beginning b (course_of inner tx)))
    → StandsForBallots config number old stored memory → 0 < stored tx
    → StandsForBallots config number (with_courses inner courses) stored (with_begun tx b (with_met tx memory))
    × (courses.begun ≡ old.courses.begun)
begin_stands config number inner old courses tx b stored memory is changed stands some =
    let inside : StandsForBallots config number inner stored memory = moved config number inner old stored memory is stands in
    let c : CourseParts = course_of inner tx in
    let known : c.known ≡ true = (inside.courses_are tx).known_is ∙ known_before stored memory tx some in
    let P : CourseParts → Type 0 = λ d. CourseStands config.acceptors stored (with_begun tx b (with_met tx memory)) tx
    (after_beginning b d) in
    let now : IsChanged inner.courses courses tx (after_beginning b c) =
    changed (omega (arith, some, (inside.courses_are tx).greatest_is)) in (
      changed_stands config number inner courses tx (after_beginning b c) stored stored memory (with_begun tx b (with_met tx memory)) inside
          now
          (subst P (λ k. record c { known = sym known k }) (begin_step config.acceptors stored tx b (with_met tx memory) (after_meeting c)
          (meet_step config.acceptors stored tx memory c (inside.courses_are tx))))
          (λ other differs. course_same config.acceptors stored other (course_of inner other) memory (with_begun tx b (with_met tx memory))
          (same_then other memory (with_met tx memory) (with_begun tx b (with_met tx memory)) (met_elsewhere other tx memory differs)
          (begun_elsewhere other tx b (with_met tx memory) differs)))
          inside.begun_are,
      now.begun_is ∙ ap (λ (l : LeaderParts). l.courses.begun) is,
    )

-- ---- a ballot stored

-- the greatest ballot with one fact more
pub greatest_with : (facts : List Fact) (tx : TxParts) (fact : Fact)
    → last_ballot (facts ++ fact ∷ []) tx ≡ max (last_ballot facts tx) (greatest (cons_option (ballot_begun tx fact) []))
greatest_with [] tx fact = omega arith
greatest_with (first ∷ facts) tx fact = by (ballot_begun tx first) (greatest_with facts tx fact)
  where
    by : (o : Option ℕ)
        → greatest (filter_map (ballot_begun tx) (facts ++ fact ∷ []))
        ≡ max (greatest (filter_map (ballot_begun tx) facts)) (greatest (cons_option (ballot_begun tx fact) []))
        → greatest (cons_option o (filter_map (ballot_begun tx) (facts ++ fact ∷ [])))
        ≡ max (greatest (cons_option o (filter_map (ballot_begun tx) facts))) (greatest (cons_option (ballot_begun tx fact) []))
    by None h = h
    by (Some n) h = omega (arith, h)

-- so the ballot of each transaction, once a greater one is stored
pub stored_ballot : (facts : List Fact) (tx other : TxParts) (b : ℕ) → last_ballot facts tx < b
    → last_ballot (facts ++ Fact.Ballot tx b ∷ []) other ≡ (if tx_eq other tx then b else last_ballot facts other)
stored_ballot facts tx other b more = greatest_with facts other (Fact.Ballot tx b)
    ∙ (elim (tx_eq other tx) as (λ t. tx_eq other tx ≡ t
    → max (last_ballot facts other) (greatest (cons_option (if t then Some b else None) [])) ≡ (if t then b else last_ballot facts other)) [
      | true ↦ λ e. omega (arith, more, ap (last_ballot facts) (same_tx other tx e))
      | false ↦ λ e. omega arith
    ] refl)

-- and the leader stands for the facts with that ballot
pub store_stands : (config : Config) (number : ℕ) (inner old : LeaderParts) (courses : CoursesParts) (tx : TxParts) (b : ℕ)
    (facts : List Fact) (memory : LeaderMemory) → inner ≡ old → IsChanged inner.courses courses tx (after_ballot b (course_of inner tx))
    → (course_of inner tx).greatest < b → list_any (tx_eq tx) inner.courses.begun ≡ true
    → StandsForBallots config number old (last_ballot facts) memory
    → StandsForBallots config number (with_courses inner courses) (last_ballot (facts ++ Fact.Ballot tx b ∷ [])) memory
store_stands config number inner old courses tx b facts memory is changed more there stands =
    let inside : StandsForBallots config number inner (last_ballot facts) memory = moved config number inner old
    (last_ballot facts) memory is stands in
    let c : CourseParts = course_of inner tx in
    let stands_c : CourseStands config.acceptors (last_ballot facts) memory tx c = inside.courses_are tx in
    let above : last_ballot facts tx < b = omega (arith, more, stands_c.greatest_is) in
    let here : last_ballot (facts ++ Fact.Ballot tx b ∷ []) tx ≡ b =
    stored_ballot facts tx tx b above ∙ ap (λ t. if t then b else last_ballot facts tx) (tx_self tx) in
    changed_stands config number inner courses tx (after_ballot b c) (last_ballot facts) (last_ballot
    (facts ++ Fact.Ballot tx b ∷ [])) memory memory
    inside changed
    (record {
      known_is = sym (known_before (last_ballot (facts ++ Fact.Ballot tx b ∷ [])) memory tx (omega (arith, here, above)));
      greatest_is = sym here;
      current_is = stands_c.current_is;
      instances_are = stands_c.instances_are;
      each_stands = stands_c.each_stands;
      whole = stands_c.whole;
      told_are = stands_c.told_are;
    })
    (λ other differs there.
    let same : last_ballot (facts ++ Fact.Ballot tx b ∷ []) other ≡ last_ballot facts other =
    stored_ballot facts tx other b above ∙ ap (λ t. if t then b else last_ballot facts other) differs in
    record {
      known_is = there.known_is ∙ ap (λ n. list_any (tx_eq other) memory.met || nat_lt 0 n) (sym same);
      greatest_is = there.greatest_is ∙ sym same;
      current_is = there.current_is;
      instances_are = there.instances_are;
      each_stands = there.each_stands;
      whole = there.whole;
      told_are = there.told_are;
    })
    (λ other. by other (tx_eq other tx) refl)
  where
    by : (other : TxParts) (t : Bool) → tx_eq other tx ≡ t → 0 < last_ballot (facts ++ Fact.Ballot tx b ∷ []) other
        → list_any (tx_eq other) inner.courses.begun ≡ true
    by other true e some = subst (λ (x : TxParts). list_any (tx_eq x) inner.courses.begun ≡ true) (sym (same_tx other tx e)) there
    by other false e some =
        let inside : StandsForBallots config number inner (last_ballot facts) memory = moved config number inner old
        (last_ballot facts) memory is stands in
        let above : last_ballot facts tx < b = omega (arith, more, (inside.courses_are tx).greatest_is) in
        let same : last_ballot (facts ++ Fact.Ballot tx b ∷ []) other ≡ last_ballot facts other =
        stored_ballot facts tx other b above ∙ ap (λ t. if t then b else last_ballot facts other) e in
        inside.begun_are other (omega (arith, some, same))

-- whether a ballot plays, by the leader's own numbers
pub plays_here : (config : Config) (number : ℕ) (l : LeaderParts) (tx : TxParts) (b : ℕ) (stored : StoredBallots) (memory : LeaderMemory)
    → StandsForBallots config number l stored memory
    → rules.plays_at_leader config.leaders number stored (Fact.Ballot tx b)
    ≡ (nat_lt (course_of l tx).greatest b && (owner_of l.leaders b == l.number))
plays_here config number l tx b stored memory stands =
    λ k. nat_lt (sym (stands.courses_are tx).greatest_is k) b && (owner_of (sym stands.leaders_are k) b == sym stands.number_is k)

-- the status, as it is answered
pub status_follows : (config : Config) (number : ℕ) (inner old : LeaderParts) (tx : TxParts) (decision : LeaderDecision) → inner ≡ old
    → are_below inner.managers (participants tx) ≡ true
    → shown decision ≡ record { answer = Stands (status_standing (status_in (course_of inner tx))); fact = None; sends = [] }
    → Follows config number old old decision (λ stored memory. rules.on_status_call config stored memory tx)
status_follows config number inner old tx decision is below shows = record {
  decides = λ stored memory stands.
      let inside : StandsForBallots config number inner stored memory = moved config number inner old stored memory is stands in
      shows ∙ (λ k. record {
        answer = if sym (inside_here config inner.managers tx inside.managers_are below) k
            then Stands (status_standing (sym (status_is config.acceptors stored memory tx (course_of inner tx) (inside.courses_are tx)) k))
            else Refused Refusal.BadTx;
        fact = None;
        sends = [];
      });
  stands = λ stored memory stands. stands;
  begun_is = refl;
}

-- ---- a timeout that takes over

pub record TakesOver (config : Config) (number : ℕ) (l : LeaderParts) (tx : TxParts) (decision : LeaderDecision) (stored : StoredBallots)
    (memory : LeaderMemory) : Type 0 where
  pub decides : shown decision ≡ decision_of (rules.on_leader_timeout config number stored memory tx)
  pub plays : IfSome decision.fact (λ fact. rules.plays_at_leader config.leaders number stored fact ≡ true)
  pub stands : IfNone decision.fact (StandsForBallots config number l stored
      (rules.on_leader_timeout config number stored memory tx).memory)

-- a timeout, by its rule, where the next ballot is to be stored
pub takes_over_here : (config : Config) (number : ℕ) (inner old : LeaderParts) (tx : TxParts) (decision : LeaderDecision)
    (stored : StoredBallots)
    (memory : LeaderMemory) → inner ≡ old → are_below inner.managers (participants tx) ≡ true
    → is_final (status_in (course_of inner tx)) ≡ false
    → shown decision ≡ taken_over inner.number inner.leaders inner.bundled tx (course_of inner tx).greatest
    → IfSome decision.fact (λ fact. rules.plays_at_leader inner.leaders inner.number (λ x. (course_of inner tx).greatest) fact ≡ true)
    → StandsForBallots config number old stored memory → TakesOver config number old tx decision stored memory
takes_over_here config number inner old tx decision stored memory is below final shows plays stands =
    taken (nat_lt (next_of inner.leaders inner.number (course_of inner tx).greatest) (2 ^ 32)) refl
    (moved config number inner old stored memory is stands)
  where
    taken : (t : Bool) → nat_lt (next_of inner.leaders inner.number (course_of inner tx).greatest) (2 ^ 32) ≡ t
        → StandsForBallots config number inner stored memory → TakesOver config number old tx decision stored memory
    taken true fits inside =
        let b : ℕ = next_of inner.leaders inner.number (course_of inner tx).greatest in
        let shown_is : shown decision ≡ record { answer = Done; fact = Some (Fact.Ballot tx b); sends = phase_1a_by inner.bundled tx b } =
        shows ∙ ap (taken_over_if inner.bundled tx b) fits in
        let P : Option Fact → Type 0 = λ o. IfSome o (λ fact. rules.plays_at_leader config.leaders number stored fact ≡ true) in
        let Q : Option Fact → Type 0 = λ o. IfSome o (λ fact. rules.plays_at_leader inner.leaders inner.number
        (λ x. (course_of inner tx).greatest) fact ≡ true) in
        let R' : Option Fact → Type 0 = λ o. IfNone o (StandsForBallots config number old stored
        (rules.on_leader_timeout config number stored memory tx).memory) in
        record {
          decides = shown_is ∙ sym (ap decision_of (timeout_effect config number inner tx below final true stored memory inside fits));
          plays = subst P (sym (ap (λ d. d.fact) shown_is))
              (plays_here config number inner tx b stored memory inside ∙ subst Q (ap (λ d. d.fact) shown_is) plays);
          stands = subst R' (sym (ap (λ d. d.fact) shown_is)) tt;
        }
    taken false fits inside =
        let b : ℕ = next_of inner.leaders inner.number (course_of inner tx).greatest in
        let effect : rules.on_leader_timeout config number stored memory tx ≡ answer_only memory (Refused Refusal.NoBallot) =
        timeout_effect config number inner tx below final false stored memory inside fits in
        let shown_is : shown decision ≡ record { answer = Refused Refusal.NoBallot; fact = None; sends = [] } =
        shows ∙ ap (taken_over_if inner.bundled tx b) fits in
        let P : Option Fact → Type 0 = λ o. IfSome o (λ fact. rules.plays_at_leader config.leaders number stored fact ≡ true) in
        let S : Option Fact → Type 0 = λ o. IfNone o (StandsForBallots config number old stored
        (rules.on_leader_timeout config number stored memory tx).memory) in
        let M : LeaderMemory → Type 0 = λ m. StandsForBallots config number old stored m in
        record {
          decides = shown_is ∙ sym (ap decision_of effect);
          plays = subst P (sym (ap (λ d. d.fact) shown_is)) tt;
          stands = subst S (sym (ap (λ d. d.fact) shown_is)) (subst M (sym (ap (λ e. e.memory) effect)) stands);
        }
