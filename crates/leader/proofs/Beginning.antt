-- Meeting a transaction, and beginning a ballot, at a course and in a leader's memory.
-- Needed by Leading and Rules.
use Rattle.std.proofs.Common.{◌≡◌, ◌∙◌, ℕ, Bool, true, false, not, ◌&&◌, ◌||◌, ◌==◌, List, [], ◌∷◌, Some, None, sym, ap, refl}
use Rattle.std.specs.Prelude.{cond, if◌then◌else◌, nat_lt, filter, find}
use Rattle.std.specs.List.{list_any}
use Rattle.std.specs.Option.{option_map}
use Rattle.std.proofs.lemmas.Bool.{true≢false, not-true}
use Rattle.xid.specs.Transactions.{TxParts, tx_eq}
use Rattle.xid.specs.declared.transaction.Vote.{Vote}
use Rattle.wire.specs.Messages.{message_tx}
use Rattle.wire.specs.declared.message.Kind.{Kind}
use Rattle.wire.specs.declared.message.Kind.TheVariants.{P1b, P2a, P2b}
use Rattle.protocol.specs.LeaderMemory.{LeaderMemory, StoredBallots, message_report, is_report_of, is_proposed, is_accept_of}
use Rattle.protocol.specs.LeaderMemory.{ballot_told, is_decided, with_met, with_begun, is_phase_1b}
use Rattle.leader.specs.declared.instance.InstanceCourse.{InstanceCourse}
use Rattle.leader.specs.Choices.{best_of}
use Rattle.leader.specs.Courses.{CourseParts, InstanceStands, CourseStands, after_meeting, with_nothing_reported, after_beginning}
use Rattle.leader.proofs.Basics.{tx_self, any_of_kept, mapped_of_kept, none_of_kept, nothing_of_kept}
use Rattle.leader.proofs.Elsewhere.{alike, instances_same, same_decided, no_reporter, no_report, is_proposal_of, one_proposed}
use Rattle.leader.proofs.Telling.{has_nobody, all_mapped, instances_kept}

-- ---- met

met_new : (n : ℕ) (stored : StoredBallots) (tx : TxParts) (memory : LeaderMemory) (c : CourseParts) → CourseStands n stored memory tx c
    → CourseStands n stored (record memory { met = tx ∷ memory.met }) tx (after_meeting c)
met_new n stored tx memory c stands = record {
  known_is = sym (ap (λ t. (t || list_any (tx_eq tx) memory.met) || nat_lt 0 (stored tx)) (tx_self tx));
  greatest_is = stands.greatest_is;
  current_is = stands.current_is;
  instances_are = stands.instances_are;
  each_stands = instances_same n tx c.instances memory (record memory { met = tx ∷ memory.met })
      (λ i. alike tx i memory (tx ∷ memory.met)) stands.each_stands;
  whole = stands.whole;
  told_are = stands.told_are;
}

met_before : (n : ℕ) (stored : StoredBallots) (tx : TxParts) (memory : LeaderMemory) (c : CourseParts) → list_any (tx_eq tx) memory.met
    ≡ true
    → CourseStands n stored memory tx c → CourseStands n stored memory tx (after_meeting c)
met_before n stored tx memory c met stands = record {
  known_is = sym (ap (λ t. t || nat_lt 0 (stored tx)) met);
  greatest_is = stands.greatest_is;
  current_is = stands.current_is;
  instances_are = stands.instances_are;
  each_stands = stands.each_stands;
  whole = stands.whole;
  told_are = stands.told_are;
}

-- a course that stands for a memory does so once its transaction was met
pub meet_step : (n : ℕ) (stored : StoredBallots) (tx : TxParts) (memory : LeaderMemory) (c : CourseParts)
    → CourseStands n stored memory tx c
    → CourseStands n stored (with_met tx memory) tx (after_meeting c)
meet_step n stored tx memory c stands =
    elim (list_any (tx_eq tx) memory.met) as (λ t. list_any (tx_eq tx) memory.met ≡ t
    → CourseStands n stored (if t then memory else record memory { met = tx ∷ memory.met }) tx (after_meeting c)) [
      | true ↦ λ e. met_before n stored tx memory c e stands
      | false ↦ λ e. met_new n stored tx memory c stands
    ] refl

-- ---- begun

abbrev stays : TxParts → Kind → Bool
stays tx m = not (is_phase_1b m && tx_eq tx (message_tx m))

gone_reporter : (tx : TxParts) (i b a : ℕ) (m : Kind) → stays tx m ≡ true → is_report_of tx i b a m ≡ false
gone_reporter tx i b a (P1b other j c report from) h = no_reporter tx i b a (P1b other j c report from) (not-true (tx_eq tx other) h)
gone_reporter tx i b a m h = refl

gone_report : (tx : TxParts) (i b : ℕ) (m : Kind) → stays tx m ≡ true → message_report tx i b m ≡ None
gone_report tx i b (P1b other j c report from) h = no_report tx i b (P1b other j c report from) (not-true (tx_eq tx other) h)
gone_report tx i b m h = refl

kept_teller : (tx : TxParts) (i b : ℕ) (v : Vote) (a : ℕ) (m : Kind) → stays tx m ≡ false → is_accept_of tx i b v a m ≡ false
kept_teller tx i b v a (P2b other j c w from) h = absurd (true≢false h)
kept_teller tx i b v a m h = refl

kept_ballot : (tx : TxParts) (i : ℕ) (v : Vote) (m : Kind) → stays tx m ≡ false → ballot_told tx i v m ≡ None
kept_ballot tx i v (P2b other j c w from) h = absurd (true≢false h)
kept_ballot tx i v m h = refl

gone_proposal : (tx : TxParts) (i b : ℕ) (m : Kind) → not (tx_eq tx (message_tx m)) ≡ true → is_proposal_of tx i b m ≡ false
gone_proposal tx i b (P2a other j c v) h =
    ap (λ t. (b == c) && ((i == j) && t)) (not-true (tx_eq tx other) h) ∙ and_false (b == c) (i == j)
  where
    and_false : (x y : Bool) → (x && (y && false)) ≡ false
    and_false true true = refl
    and_false true false = refl
    and_false false y = refl
gone_proposal tx i b m h = refl

none_proposed : (tx : TxParts) (i b : ℕ) (ms : List Kind) → is_proposed (filter (λ m. not (tx_eq tx (message_tx m))) ms) tx i b ≡ false
none_proposed tx i b [] = refl
none_proposed tx i b (m ∷ ms) =
    elim (not (tx_eq tx (message_tx m))) as (λ t. not (tx_eq tx (message_tx m)) ≡ t
    → is_proposed (cond t (m ∷ filter (λ x. not (tx_eq tx (message_tx x))) ms) (filter (λ x. not (tx_eq tx (message_tx x))) ms)) tx i b
    ≡ false) [
      | true ↦ λ e. one_proposed tx i b m (filter (λ x. not (tx_eq tx (message_tx x))) ms)
          ∙ ap (λ t. t || is_proposed (filter (λ x. not (tx_eq tx (message_tx x))) ms) tx i b) (gone_proposal tx i b m e)
          ∙ none_proposed tx i b ms
      | false ↦ λ e. none_proposed tx i b ms
    ] refl

told_begun : (tx : TxParts) (memory : LeaderMemory) (i b : ℕ) (v : Vote) (x : ℕ)
    → list_any (is_accept_of tx i b v x) (filter (stays tx) memory.heard) ≡ list_any (is_accept_of tx i b v x) memory.heard
told_begun tx memory i b v x = any_of_kept (stays tx) (is_accept_of tx i b v x) memory.heard (kept_teller tx i b v x)

decided_begun : (n : ℕ) (tx : TxParts) (memory : LeaderMemory) (i : ℕ) (v : Vote)
    → is_decided n (filter (stays tx) memory.heard) tx i v ≡ is_decided n memory.heard tx i v
decided_begun n tx memory i v = same_decided n tx i v memory.heard (filter (stays tx) memory.heard) (λ b x. told_begun tx memory i b v x)
    (mapped_of_kept (stays tx) (ballot_told tx i v) memory.heard (kept_ballot tx i v))

begin_row : (n : ℕ) (tx : TxParts) (b : ℕ) (memory : LeaderMemory) (row : InstanceCourse) → InstanceStands n memory tx row
    → InstanceStands n (with_begun tx b memory) tx (with_nothing_reported row)
begin_row n tx b memory row stands = record {
  whole = refl;
  reporters_are = λ c x is. has_nobody x
      ∙ sym (none_of_kept (stays tx) (is_report_of tx row.instance c x) memory.heard (gone_reporter tx row.instance c x));
  best_is = λ c is. ap best_of (sym (nothing_of_kept (stays tx) (message_report tx row.instance c) memory.heard
      (gone_report tx row.instance c)));
  proposed_is = λ c is. sym (none_proposed tx row.instance c memory.proposed);
  prepared_is = stands.prepared_is ∙ sym (decided_begun n tx memory row.instance Vote.Prepared);
  aborted_is = stands.aborted_is ∙ sym (decided_begun n tx memory row.instance Vote.Aborted);
}

-- and once a ballot of it was begun
pub begin_step : (n : ℕ) (stored : StoredBallots) (tx : TxParts) (b : ℕ) (memory : LeaderMemory) (c : CourseParts)
    → CourseStands n stored memory tx c → CourseStands n stored (with_begun tx b memory) tx (after_beginning b c)
begin_step n stored tx b memory c stands = record {
  known_is = stands.known_is;
  greatest_is = stands.greatest_is;
  current_is = sym (ap (λ t. option_map (λ begun. begun.ballot) (cond t (Some (record { tx = tx; ballot = b }))
      (find (λ begun. tx_eq tx begun.tx) memory.begun))) (tx_self tx));
  instances_are = instances_kept with_nothing_reported (λ row. refl) c.instances ∙ stands.instances_are;
  each_stands = all_mapped (InstanceStands n memory tx) (InstanceStands n (with_begun tx b memory) tx) with_nothing_reported
      (begin_row n tx b memory) c.instances stands.each_stands;
  whole = stands.whole;
  told_are = λ i d v x. stands.told_are i d v x ∙ sym (told_begun tx memory i d v x);
}
