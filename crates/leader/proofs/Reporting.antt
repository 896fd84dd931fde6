-- What an acceptor reports in phase 1b, at a course and in a leader's memory.
-- Needed by Rules.
use Rattle.std.proofs.Common.{◌≡◌, ◌∙◌, ℕ, ◌<◌, Bool, true, false, not, ◌&&◌, ◌||◌, ◌==◌, List, [], ◌∷◌, Some, None, sym, ap, refl, subst}
use Rattle.std.specs.Prelude.{if◌then◌else◌, nat_lt, filter_map}
use Rattle.std.specs.List.{list_any, cons_option}
use Rattle.std.proofs.lemmas.Bool.{true≢false, false≢true, eqb-true}
use Rattle.std.proofs.lemmas.List.{length-set}
use Rattle.xid.specs.Limits.{most_acceptors}
use Rattle.xid.specs.Transactions.{TxParts, tx_eq}
use Rattle.xid.specs.declared.transaction.Vote.{Vote}
use Rattle.wire.specs.declared.message.Kind.{Kind}
use Rattle.wire.specs.declared.message.Kind.TheVariants.{P1b}
use Rattle.wire.specs.declared.items.InstanceReport.{InstanceReport}
use Rattle.wire.proofs.Spelled.{some_same}
use Rattle.ballot.specs.Majority.{has}
use Rattle.ballot.specs.Choice.{Report}
use Rattle.protocol.specs.LeaderMemory.{LeaderMemory, StoredBallots, current, has_reported, message_report, is_accept_of, with_heard}
use Rattle.protocol.specs.LeaderMemory.{with_all_heard}
use Rattle.protocol.specs.PaperItems.{report_messages}
use Rattle.leader.specs.declared.instance.InstanceCourse.{InstanceCourse}
use Rattle.leader.specs.Choices.{merged, best_of}
use Rattle.leader.specs.Courses.{CourseParts, InstanceStands, CourseStands, joined, with_report, with_reports, after_reports}
use Rattle.leader.proofs.Basics.{and_no, tx_self, nat_self, nat_turned}
use Rattle.leader.proofs.Elsewhere.{SameAt, instance_same}
use Rattle.leader.proofs.Telling.{has_joined, all_mapped, instances_kept}

-- ---- another instance

end_3 : (x y : Bool) → (x && y && false) ≡ false
end_3 true true = refl
end_3 true false = refl
end_3 false y = refl

other_instance : (tx : TxParts) (j : ℕ) (b a : ℕ) (item : InstanceReport) (memory : LeaderMemory) → (item.instance == j) ≡ false
    → SameAt tx j memory (with_heard (P1b tx item.instance b item.report a) memory)
other_instance tx j b a item memory h =
    let differs : (j == item.instance) ≡ false = nat_turned j item.instance ∙ h in
    record {
      current_is = refl;
      reported = λ c x. ap (λ t. t || has_reported memory.heard tx j c x)
          (ap (λ t. (x == a) && (c == b) && (t && tx_eq tx tx)) differs ∙ end_3 (x == a) (c == b));
      reports = λ c. ap (λ o. cons_option o (filter_map (message_report tx j c) memory.heard))
          (ap (λ t. if (c == b) && (t && tx_eq tx tx) then Some item.report else None) differs
          ∙ ap (λ t. if t then Some item.report else None) (and_no (c == b)));
      proposed_is = λ c. refl;
      told = λ c v x. refl;
      ballots = λ v. refl;
    }

-- ---- this instance

abbrev reported : ℕ → InstanceReport → InstanceCourse → InstanceCourse
reported a item row = record row { reporters = joined a row.reporters; best = merged item.report row.best }

this_instance : (n : ℕ) (tx : TxParts) (b a : ℕ) (item : InstanceReport) (memory : LeaderMemory) (row : InstanceCourse)
    → (item.instance == row.instance) ≡ true → current memory tx ≡ Some b → a < most_acceptors → InstanceStands n memory tx row
    → InstanceStands n (with_heard (P1b tx item.instance b item.report a) memory) tx (reported a item row)
this_instance n tx b a item memory row same now within stands = record {
  whole = length-set row.reporters a true ∙ stands.whole;
  reporters_are = λ c x is.
      has_joined row.reporters a x (let P : ℕ → Type 0 = λ k. a < k in subst P (sym stands.whole) within)
      ∙ (λ k. shape (x == a) k || stands.reporters_are c x is k)
      ∙ ap (λ t. ((x == a) && (t && (true && true))) || has_reported memory.heard tx row.instance c x) (sym (here c is))
      ∙ (λ k. assoc (x == a) (c == b) (sym turned k) (sym (tx_self tx) k) k || has_reported memory.heard tx row.instance c x);
  best_is = λ c is.
      ap (merged item.report) (stands.best_is c is)
      ∙ ap best_of (ap (λ o. cons_option o (filter_map (message_report tx row.instance c) memory.heard))
      (λ k. if sym (here c is) k && (sym turned k && sym (tx_self tx) k) then Some item.report else None));
  proposed_is = λ c is. stands.proposed_is c is;
  prepared_is = stands.prepared_is;
  aborted_is = stands.aborted_is;
}
  where
    here : (c : ℕ) → current memory tx ≡ Some c → (c == b) ≡ true
    here c is = ap (λ k. c == k) (some_same b c (sym now ∙ is)) ∙ nat_self c

    turned : (row.instance == item.instance) ≡ true
    turned = nat_turned row.instance item.instance ∙ same

    shape : (p : Bool) → p ≡ (p && (true && (true && true)))
    shape true = refl
    shape false = refl

    assoc : (p q y z : Bool) → (p && (q && (y && z))) ≡ (p && q && (y && z))
    assoc true true y z = refl
    assoc true false y z = refl
    assoc false q y z = refl

-- one item at an instance
report_step : (n : ℕ) (tx : TxParts) (b a : ℕ) (item : InstanceReport) (memory : LeaderMemory) (row : InstanceCourse)
    → current memory tx ≡ Some b → a < most_acceptors → InstanceStands n memory tx row
    → InstanceStands n (if has_reported memory.heard tx item.instance b a then memory
    else with_heard (P1b tx item.instance b item.report a) memory) tx (with_report a item row)
report_step n tx b a item memory row now within stands =
    by_tests (item.instance == row.instance) (has row.reporters a) (has_reported memory.heard tx item.instance b a) refl
    (λ same. stands.reporters_are b a now ∙ ap (λ j. has_reported memory.heard tx j b a) (sym (eqb-true item.instance row.instance same)))
  where
    by_tests : (e r t : Bool) → (item.instance == row.instance) ≡ e → ((item.instance == row.instance) ≡ true → r ≡ t)
        → InstanceStands n (if t then memory else with_heard (P1b tx item.instance b item.report a) memory) tx
        (if e && not r then reported a item row else row)
    by_tests false r true is alike = stands
    by_tests false r false is alike =
        instance_same n tx row memory (with_heard (P1b tx item.instance b item.report a) memory)
        (other_instance tx row.instance b a item memory is) stands
    by_tests true true true is alike = stands
    by_tests true true false is alike = absurd (true≢false (alike is))
    by_tests true false true is alike = absurd (false≢true (alike is))
    by_tests true false false is alike = this_instance n tx b a item memory row is now within stands

still_current : (tx : TxParts) (memory : LeaderMemory) (m : Kind) (t : Bool) → current (if t then memory else with_heard m memory) tx
    ≡ current memory tx
still_current tx memory m true = refl
still_current tx memory m false = refl

-- some items at an instance
reports_row : (n : ℕ) (tx : TxParts) (b a : ℕ) (items : List InstanceReport) (memory : LeaderMemory) (row : InstanceCourse)
    → current memory tx ≡ Some b → a < most_acceptors → InstanceStands n memory tx row
    → InstanceStands n (with_all_heard (report_messages tx b a items) memory) tx (with_reports a items row)
reports_row n tx b a [] memory row now within stands = stands
reports_row n tx b a (item ∷ items) memory row now within stands =
    let m : Kind = P1b tx item.instance b item.report a in
    let t : Bool = has_reported memory.heard tx item.instance b a in
    reports_row n tx b a items (if t then memory else with_heard m memory) (with_report a item row)
    (still_current tx memory m t ∙ now) within
    (report_step n tx b a item memory row now within stands)

-- ---- what reports leave

pub record Untouched (tx : TxParts) (old new : LeaderMemory) : Type 0 where
  pub current_is : current new tx ≡ current old tx
  pub met_is : list_any (tx_eq tx) new.met ≡ list_any (tx_eq tx) old.met
  pub told_is : (i b : ℕ) (v : Vote) (x : ℕ) → list_any (is_accept_of tx i b v x) new.heard ≡ list_any (is_accept_of tx i b v x) old.heard

untouched_if : (tx : TxParts) (i b : ℕ) (report : Report) (a : ℕ) (memory : LeaderMemory) (t : Bool)
    → Untouched tx memory (if t then memory else with_heard (P1b tx i b report a) memory)
untouched_if tx i b report a memory true = record { current_is = refl; met_is = refl; told_is = λ j c v x. refl }
untouched_if tx i b report a memory false = record { current_is = refl; met_is = refl; told_is = λ j c v x. refl }

-- reports change nothing in a memory but what was heard
pub reports_leave : (tx : TxParts) (b a : ℕ) (items : List InstanceReport) (memory : LeaderMemory)
    → Untouched tx memory (with_all_heard (report_messages tx b a items) memory)
reports_leave tx b a [] memory = record { current_is = refl; met_is = refl; told_is = λ j c v x. refl }
reports_leave tx b a (item ∷ items) memory =
    let t : Bool = has_reported memory.heard tx item.instance b a in
    let next : LeaderMemory = (if t then memory else with_heard (P1b tx item.instance b item.report a) memory) in
    let one : Untouched tx memory next = untouched_if tx item.instance b item.report a memory t in
    let rest : Untouched tx next (with_all_heard (report_messages tx b a items) next) = reports_leave tx b a items next in
    record {
      current_is = rest.current_is ∙ one.current_is;
      met_is = rest.met_is ∙ one.met_is;
      told_is = λ j c v x. rest.told_is j c v x ∙ one.told_is j c v x;
    }

report_instance : (a : ℕ) (item : InstanceReport) (row : InstanceCourse) → (with_report a item row).instance ≡ row.instance
report_instance a item row =
    elim ((item.instance == row.instance) && not (has row.reporters a)) as (λ t. (if t then reported a item row else row).instance
    ≡ row.instance) [
      | true ↦ refl
      | false ↦ refl
    ]

reports_instance : (a : ℕ) (items : List InstanceReport) (row : InstanceCourse) → (with_reports a items row).instance ≡ row.instance
reports_instance a [] row = refl
reports_instance a (item ∷ items) row = reports_instance a items (with_report a item row) ∙ report_instance a item row

-- a course after some reports in the current ballot
pub reports_step : (n : ℕ) (stored : StoredBallots) (tx : TxParts) (b a : ℕ) (items : List InstanceReport) (memory : LeaderMemory)
    (c : CourseParts)
    → current memory tx ≡ Some b → a < most_acceptors → CourseStands n stored memory tx c
    → CourseStands n stored (with_all_heard (report_messages tx b a items) memory) tx (after_reports a items c)
reports_step n stored tx b a items memory c now within stands =
    let left : Untouched tx memory (with_all_heard (report_messages tx b a items) memory) = reports_leave tx b a items memory in
    record {
      known_is = stands.known_is ∙ ap (λ t. t || nat_lt 0 (stored tx)) (sym left.met_is);
      greatest_is = stands.greatest_is;
      current_is = stands.current_is ∙ sym left.current_is;
      instances_are = instances_kept (with_reports a items) (reports_instance a items) c.instances ∙ stands.instances_are;
      each_stands = all_mapped (InstanceStands n memory tx) (InstanceStands n (with_all_heard (report_messages tx b a items) memory) tx)
          (with_reports a items) (λ row. reports_row n tx b a items memory row now within) c.instances stands.each_stands;
      whole = stands.whole;
      told_are = λ i d v x. stands.told_are i d v x ∙ sym (left.told_is i d v x);
    }
