-- Each rule of a leader, at the course of its transaction.
-- Needed by Leading.
use Rattle.std.proofs.Common.{◌≡◌, ◌∙◌, ℕ, ◌<◌, Bool, true, false, not, ◌&&◌, ◌||◌, ◌==◌, List, [], ◌∷◌, Option, Some, None, sym, ap, refl}
use Rattle.std.proofs.Common.{subst}
use Rattle.std.specs.Prelude.{if◌then◌else◌, filter_map, map, IsTrue}
use Rattle.std.specs.List.{list_any, list_all, AllByRecursion}
use Rattle.std.specs.Option.{option_map_or}
use Rattle.std.proofs.lemmas.Bool.{false≢true, true≢false, eqb-true}
use Rattle.xid.specs.Limits.{most_acceptors}
use Rattle.xid.specs.Transactions.{TxParts, tx_eq, is_participant}
use Rattle.xid.specs.declared.transaction.Vote.{Vote}
use Rattle.xid.specs.declared.refusals.Refusal.{Refusal}
use Rattle.wire.specs.declared.items.InstanceReport.{InstanceReport}
use Rattle.wire.specs.declared.items.InstanceAccept.{InstanceAccept}
use Rattle.protocol.specs.declared.answers.Answer.TheVariants.{Done, Stands, Refused}
use Rattle.protocol.specs.declared.decisions.Decision.{Decision}
use Rattle.protocol.specs.declared.decisions.Address.{Address}
use Rattle.protocol.specs.declared.decisions.Address.TheVariants.{Node, Managers, Acceptors}
use Rattle.protocol.specs.declared.nodes.NodeId.TheVariants.{R}
use Rattle.protocol.specs.declared.states.Status.{Status}
use Rattle.protocol.specs.Effects.{Config, Effect, decision_of, is_inside, answer_only, no_effect, sends_only, status_standing, to}
use Rattle.protocol.specs.LeaderMemory.{LeaderMemory, StoredBallots, current, is_decided, status_of, with_met, with_all_heard}
use Rattle.protocol.specs.LeaderMemory.{with_proposed}
use Rattle.protocol.specs.Leaders as rules
use Rattle.protocol.specs.Leaders.{is_final, is_current, outcome_messages, proposal_of}
use Rattle.protocol.specs.PaperItems.{report_messages, accept_messages_of}
use Rattle.leader.specs.declared.instance.InstanceCourse.{InstanceCourse}
use Rattle.leader.specs.declared.proposals.Proposal.{Proposal}
use Rattle.leader.specs.Courses.{CourseParts, InstanceStands, CourseStands, status_in, status_by, after_meeting, after_reports}
use Rattle.leader.specs.Courses.{after_proposals, proposals_of, after_1b, proposals_after_1b, after_accepts, after_2b, status_after_2b}
use Rattle.leader.specs.Orders.{proposal_messages}
use Rattle.leader.specs.Places.{CoursesParts, IsChanged, IsKept}
use Rattle.leader.specs.Leaders.{LeaderParts, StandsForBallots, course_of, commit_messages}
use Rattle.leader.proofs.Basics.{same_tx}
use Rattle.leader.proofs.Elsewhere.{SameOn, same_refl, same_then, course_same, met_elsewhere, reports_elsewhere, accepts_elsewhere}
use Rattle.leader.proofs.Elsewhere.{proposed_elsewhere, proposal_kinds}
use Rattle.leader.proofs.Telling.{accepts_step}
use Rattle.leader.proofs.Reporting.{reports_step, reports_leave}
use Rattle.leader.proofs.Beginning.{meet_step}
use Rattle.leader.proofs.Proposing.{proposals_are, messages_are, propose_step}

-- ---- the status

aborted_among : (n : ℕ) (memory : LeaderMemory) (tx : TxParts) (rows : List InstanceCourse)
    → AllByRecursion (InstanceStands n memory tx) rows
    → list_any (λ i. is_decided n memory.heard tx i Vote.Aborted) (map (λ row. row.instance) rows) ≡ list_any (λ row. row.aborted) rows
aborted_among n memory tx [] stand = refl
aborted_among n memory tx (row ∷ rows) stand = λ k. sym stand.0.aborted_is k || aborted_among n memory tx rows stand.1 k

prepared_among : (n : ℕ) (memory : LeaderMemory) (tx : TxParts) (rows : List InstanceCourse)
    → AllByRecursion (InstanceStands n memory tx) rows
    → list_all (λ i. is_decided n memory.heard tx i Vote.Prepared) (map (λ row. row.instance) rows) ≡ list_all (λ row. row.prepared) rows
prepared_among n memory tx [] stand = refl
prepared_among n memory tx (row ∷ rows) stand = λ k. sym stand.0.prepared_is k && prepared_among n memory tx rows stand.1 k

-- the status at a course is the one of the memory
pub status_is : (n : ℕ) (stored : StoredBallots) (memory : LeaderMemory) (tx : TxParts) (c : CourseParts)
    → CourseStands n stored memory tx c
    → status_of n stored memory tx ≡ status_in c
status_is n stored memory tx c stands = λ k.
    if (ap (list_any (λ i. is_decided n memory.heard tx i Vote.Aborted)) (sym stands.instances_are)
    ∙ aborted_among n memory tx c.instances stands.each_stands) k then Status.Aborted
    else if (ap (list_all (λ i. is_decided n memory.heard tx i Vote.Prepared)) (sym stands.instances_are)
    ∙ prepared_among n memory tx c.instances stands.each_stands) k then Status.Committed
    else if sym stands.known_is k then Status.Undecided
    else Status.Unknown

-- ---- a rule at a course

-- a decision is an effect's, the course is what the effect leaves in memory, and of every other transaction memory stays
pub record Agrees (n : ℕ) (stored : StoredBallots) (memory : LeaderMemory) (tx : TxParts) (decision : Decision) (c : CourseParts)
    (e : Effect LeaderMemory) : Type 0 where
  pub decides : decision ≡ decision_of e
  pub stands : CourseStands n stored e.memory tx c
  pub elsewhere : (other : TxParts) → tx_eq other tx ≡ false → SameOn other memory e.memory

-- a leader with one course changed
pub changed_stands : (config : Config) (number : ℕ) (old : LeaderParts) (courses : CoursesParts) (tx : TxParts) (c : CourseParts)
    (stored after : StoredBallots) (memory next : LeaderMemory) → StandsForBallots config number old stored memory
    → IsChanged old.courses courses tx c → CourseStands config.acceptors after next tx c
    → ((other : TxParts) → tx_eq other tx ≡ false → CourseStands config.acceptors stored memory other (course_of old other)
    → CourseStands config.acceptors after next other (course_of old other))
    → ((other : TxParts) → 0 < after other → list_any (tx_eq other) old.courses.begun ≡ true)
    → StandsForBallots config number (record old { courses = courses }) after next
changed_stands config number old courses tx c stored after memory next stands changed new others begun = record {
  number_is = stands.number_is;
  acceptors_are = stands.acceptors_are;
  leaders_are = stands.leaders_are;
  managers_are = stands.managers_are;
  bundled_is = stands.bundled_is;
  courses_are = λ other.
      let P : CourseParts → Type 0 = CourseStands config.acceptors after next other in
      subst P (sym (changed.courses_are other))
      (elim (tx_eq other tx) as (λ t. tx_eq other tx ≡ t → P (if t then c else course_of old other)) [
        | true ↦ λ e. let Q : TxParts → Type 0 = λ x. CourseStands config.acceptors after next x c in subst Q (sym (same_tx other tx e)) new
        | false ↦ λ e. others other e (stands.courses_are other)
      ] refl);
  begun_are = λ x some.
      subst (λ (txs : List TxParts). list_any (tx_eq x) txs ≡ true) (sym changed.begun_is) (begun x some);
}

-- what agrees with a rule stands for its memory
pub agreed_stands : (config : Config) (number : ℕ) (old : LeaderParts) (courses : CoursesParts) (tx : TxParts) (c : CourseParts)
    (decision : Decision) (stored : StoredBallots) (memory : LeaderMemory) (e : Effect LeaderMemory)
    → StandsForBallots config number old stored memory → IsChanged old.courses courses tx c
    → Agrees config.acceptors stored memory tx decision c e
    → StandsForBallots config number (record old { courses = courses }) stored e.memory
agreed_stands config number old courses tx c decision stored memory e stands changed agrees =
    changed_stands config number old courses tx c stored stored memory e.memory stands changed agrees.stands
    (λ other differs. course_same config.acceptors stored other (course_of old other) memory e.memory (agrees.elsewhere other differs))
    stands.begun_are

-- what changed nothing stands for the same memory
pub kept_stands : (config : Config) (number : ℕ) (old : LeaderParts) (courses : CoursesParts) (stored : StoredBallots)
    (memory : LeaderMemory)
    → IsKept old.courses courses → StandsForBallots config number old stored memory
    → StandsForBallots config number (record old { courses = courses }) stored memory
kept_stands config number old courses stored memory kept stands = record {
  number_is = stands.number_is;
  acceptors_are = stands.acceptors_are;
  leaders_are = stands.leaders_are;
  managers_are = stands.managers_are;
  bundled_is = stands.bundled_is;
  courses_are = λ other.
      let P : CourseParts → Type 0 = CourseStands config.acceptors stored memory other in
      subst P (sym (kept.courses_are other)) (stands.courses_are other);
  begun_are = λ x some.
      subst (λ (txs : List TxParts). list_any (tx_eq x) txs ≡ true) (sym kept.begun_is) (stands.begun_are x some);
}

-- ---- commit and ask

-- a call to commit
pub commit_rule : (config : Config) (stored : StoredBallots) (memory : LeaderMemory) (tx : TxParts) (c : CourseParts)
    → CourseStands config.acceptors stored memory tx c → is_inside config tx ≡ true
    → Agrees config.acceptors stored memory tx (record {
      answer = Stands (status_standing (status_in (after_meeting c)));
      fact = None;
      sends = commit_messages (status_in (after_meeting c)) tx;
    }) (after_meeting c) (rules.on_commit_call config stored memory tx)
commit_rule config stored memory tx c stands inside =
    let met : CourseStands config.acceptors stored (with_met tx memory) tx
    (after_meeting c) = meet_step config.acceptors stored tx memory c stands in
    let status : status_of config.acceptors stored (with_met tx memory) tx ≡ status_in (after_meeting c) =
    status_is config.acceptors stored (with_met tx memory) tx (after_meeting c) met in
    elim (is_inside config tx) as (λ t. t ≡ true → Agrees config.acceptors stored memory tx (record {
      answer = Stands (status_standing (status_in (after_meeting c)));
      fact = None;
      sends = commit_messages (status_in (after_meeting c)) tx;
    }) (after_meeting c) (if t then record {
      answer = Stands (status_standing (status_of config.acceptors stored (with_met tx memory) tx));
      fact = None;
      sends = commit_messages (status_of config.acceptors stored (with_met tx memory) tx) tx;
      memory = with_met tx memory;
    } else answer_only memory (Refused Refusal.BadTx))) [
      | true ↦ λ e. record {
        decides = λ k. record { answer = Stands (status_standing (sym status k)); fact = None; sends = commit_messages (sym status k) tx };
        stands = met;
        elsewhere = λ other differs. met_elsewhere other tx memory differs;
      }
      | false ↦ λ e. absurd (false≢true e)
    ] inside

outcome_met : (known : Bool) (rows : List InstanceCourse) (tx : TxParts) (whom : Address)
    → outcome_messages (status_by true rows) tx whom ≡ outcome_messages (status_by known rows) tx whom
outcome_met known rows tx whom =
    by_tests (list_any (λ row. row.aborted) rows) (list_all (λ row. row.prepared) rows) known
  where
    by_tests : (a p t : Bool) → outcome_messages (if a then Status.Aborted else if p then Status.Committed else Status.Undecided) tx whom
        ≡ outcome_messages (if a then Status.Aborted else if p then Status.Committed else if t then Status.Undecided else Status.Unknown)
        tx whom
    by_tests true p t = refl
    by_tests false true t = refl
    by_tests false false true = refl
    by_tests false false false = refl

-- a question
pub ask_rule : (config : Config) (stored : StoredBallots) (memory : LeaderMemory) (tx : TxParts) (rm : ℕ) (c : CourseParts)
    → CourseStands config.acceptors stored memory tx c
    → Agrees config.acceptors stored memory tx (record {
      answer = Done;
      fact = None;
      sends = outcome_messages (status_in (after_meeting c)) tx (Node (R rm));
    }) (after_meeting c) (rules.on_ask config stored memory tx rm)
ask_rule config stored memory tx rm c stands = record {
  decides = λ k. record {
    answer = Done;
    fact = None;
    sends = (outcome_met c.known c.instances tx (Node (R rm))
        ∙ ap (λ s. outcome_messages s tx (Node (R rm))) (sym (status_is config.acceptors stored memory tx c stands))) k;
  };
  stands = meet_step config.acceptors stored tx memory c stands;
  elsewhere = λ other differs. met_elsewhere other tx memory differs;
}

-- ---- phase 2b

-- accepts
pub accepts_rule : (config : Config) (stored : StoredBallots) (memory : LeaderMemory) (tx : TxParts) (a : ℕ) (items : List InstanceAccept)
    (c : CourseParts) → a < most_acceptors → CourseStands config.acceptors stored memory tx c
    → Agrees config.acceptors stored memory tx (record {
      answer = Done;
      fact = None;
      sends = outcome_messages (status_after_2b config.acceptors a items c) tx Managers;
    }) (after_2b config.acceptors a items c) (rules.on_2b config stored memory tx a items)
accepts_rule config stored memory tx a items c within stands =
    let n : ℕ = config.acceptors in
    let met : CourseStands n stored (with_met tx memory) tx (after_meeting c) = meet_step n stored tx memory c stands in
    let now : LeaderMemory = with_all_heard (accept_messages_of tx a items) (with_met tx memory) in
    let heard : CourseStands n stored now tx (after_accepts n a items (after_meeting c)) =
    accepts_step n stored tx a items (with_met tx memory) (after_meeting c) within met in
    by_final (is_final (status_of n stored memory tx)) (is_final (status_in c)) (ap is_final
    (status_is n stored memory tx c stands)) met now heard
    (λ other differs. same_then other memory (with_met tx memory) now (met_elsewhere other tx memory differs)
    (accepts_elsewhere other tx a items (with_met tx memory) differs))
  where
    by_final : (t u : Bool) → t ≡ u → CourseStands config.acceptors stored (with_met tx memory) tx (after_meeting c) → (now : LeaderMemory)
        → CourseStands config.acceptors stored now tx (after_accepts config.acceptors a items (after_meeting c))
        → ((other : TxParts) → tx_eq other tx ≡ false → SameOn other memory now)
        → Agrees config.acceptors stored memory tx (record {
          answer = Done;
          fact = None;
          sends = outcome_messages (if u then Status.Undecided else status_in (after_accepts config.acceptors a items
              (after_meeting c))) tx Managers;
        }) (if u then after_meeting c else after_accepts config.acceptors a items (after_meeting c))
        (if t then no_effect (with_met tx memory) else sends_only now (outcome_messages
        (status_of config.acceptors stored now tx) tx Managers))
    by_final true true e met now heard elsewhere = record {
      decides = refl;
      stands = met;
      elsewhere = λ other differs. met_elsewhere other tx memory differs;
    }
    by_final true false e met now heard elsewhere = absurd (true≢false e)
    by_final false true e met now heard elsewhere = absurd (false≢true e)
    by_final false false e met now heard elsewhere = record {
      decides = λ k. record {
        answer = Done;
        fact = None;
        sends = outcome_messages (sym (status_is config.acceptors stored now tx (after_accepts config.acceptors a items
            (after_meeting c)) heard) k)
            tx Managers;
      };
      stands = heard;
      elsewhere = elsewhere;
    }

-- ---- phase 1b

current_of : (o : Option ℕ) (b : ℕ) → option_map_or (λ last. last == b) o false ≡ true → o ≡ Some b
current_of None b h = absurd (false≢true h)
current_of (Some last) b h = ap Some (eqb-true last b h)

-- reports
pub reports_rule : (config : Config) (stored : StoredBallots) (memory : LeaderMemory) (tx : TxParts) (b a : ℕ) (items : List InstanceReport)
    (c : CourseParts) → a < most_acceptors → AllByRecursion (λ rm. IsTrue (is_participant tx rm)) (map (λ item. item.instance) items)
    → CourseStands config.acceptors stored memory tx c
    → Agrees config.acceptors stored memory tx (record {
      answer = Done;
      fact = None;
      sends = proposal_messages tx b (proposals_after_1b config.acceptors b a items c);
    }) (after_1b config.acceptors b a items c) (rules.on_1b config stored memory tx b a items)
reports_rule config stored memory tx b a items c within named stands =
    by_tests (is_final (status_of config.acceptors stored memory tx)) (is_final (status_in c)) (is_current memory tx b)
    (option_map_or (λ last. last == b) c.current false) (ap is_final (status_is config.acceptors stored memory tx c stands))
    (ap (λ o. option_map_or (λ last. last == b) o false) stands.current_is)
    (λ h. sym stands.current_is ∙ current_of c.current b h)
  where
    counted : current memory tx ≡ Some b → Agrees config.acceptors stored memory tx (record {
      answer = Done;
      fact = None;
      sends = proposal_messages tx b (proposals_of config.acceptors (after_reports a items c).instances items);
    }) (after_proposals (proposals_of config.acceptors (after_reports a items c).instances items) (after_reports a items c))
        (rules.after_reports config (with_all_heard (report_messages tx b a items) memory) tx b (map (λ item. item.instance) items))
    counted now =
        let next : LeaderMemory = with_all_heard (report_messages tx b a items) memory in
        let ps : List Proposal = proposals_of config.acceptors (after_reports a items c).instances items in
        let after : CourseStands config.acceptors stored next tx (after_reports a items c) =
        reports_step config.acceptors stored tx b a items memory c now within stands in
        let still : current next tx ≡ Some b = (reports_leave tx b a items memory).current_is ∙ now in
        let are : filter_map (proposal_of config next tx b) (map (λ item. item.instance) items) ≡ proposal_kinds tx b ps =
        proposals_are config next tx b (after_reports a items c).instances items still after.each_stands after.instances_are named in
        record {
          decides = λ k. record { answer = Done; fact = None; sends = (sym (messages_are tx b ps) ∙ ap (map (to Acceptors)) (sym are)) k };
          stands = let P : LeaderMemory → Type 0 = λ m. CourseStands config.acceptors stored m tx (after_proposals ps
              (after_reports a items c)) in
              subst P (λ k. with_proposed (sym are k) next) (propose_step config.acceptors stored tx b ps next
              (after_reports a items c) still after);
          elsewhere = λ other differs.
              let Q : LeaderMemory → Type 0 = λ m. SameOn other memory m in
              subst Q (λ k. with_proposed (sym are k) next) (same_then other memory next (with_proposed (proposal_kinds tx b ps) next)
              (reports_elsewhere other tx b a items memory differs) (proposed_elsewhere other tx b ps next differs));
        }

    nothing : Agrees config.acceptors stored memory tx (record { answer = Done; fact = None; sends = [] }) c (no_effect memory)
    nothing = record { decides = refl; stands = stands; elsewhere = λ other differs. same_refl other memory }

    by_tests : (f g s t : Bool) → f ≡ g → t ≡ s → (t ≡ true → current memory tx ≡ Some b)
        → Agrees config.acceptors stored memory tx (record {
          answer = Done;
          fact = None;
          sends = proposal_messages tx b (if t && not g then proposals_of config.acceptors
              (after_reports a items c).instances items else []);
        }) (if t && not g
        then after_proposals (proposals_of config.acceptors (after_reports a items c).instances items) (after_reports a items c) else c)
        (if f || not s then no_effect memory
        else rules.after_reports config (with_all_heard (report_messages tx b a items) memory) tx b (map (λ item. item.instance) items))
    by_tests true true s true e h now = nothing
    by_tests true true s false e h now = nothing
    by_tests true false s t e h now = absurd (true≢false e)
    by_tests false true s t e h now = absurd (false≢true e)
    by_tests false false true true e h now = counted (now refl)
    by_tests false false false false e h now = nothing
    by_tests false false true false e h now = absurd (false≢true h)
    by_tests false false false true e h now = absurd (true≢false h)
