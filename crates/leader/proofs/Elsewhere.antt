-- What concerns one transaction leaves a leader's memory of every other.
-- Needed by Above, Beginning, Leading, Proposing, Reporting and Rules.
use Rattle.std.proofs.Common.{◌≡◌, ◌∙◌, ℕ, Bool, true, false, not, ◌&&◌, ◌||◌, ◌==◌, List, [], ◌∷◌, ◌++◌, Some, None, sym, ap, refl}
use Rattle.std.specs.Prelude.{cond, if◌then◌else◌, nat_lt, filter, filter_map, find, map}
use Rattle.std.specs.List.{list_any, cons_option, AllByRecursion}
use Rattle.std.specs.Option.{option_map}
use Rattle.std.proofs.lemmas.Bool.{true≢false, not-false}
use Rattle.xid.specs.Transactions.{TxParts, tx_eq}
use Rattle.xid.specs.declared.transaction.Vote.{Vote}
use Rattle.wire.specs.Messages.{message_tx}
use Rattle.wire.specs.declared.message.Kind.{Kind}
use Rattle.wire.specs.declared.message.Kind.TheVariants.{P1b, P2a, P2b}
use Rattle.wire.specs.declared.items.InstanceReport.{InstanceReport}
use Rattle.wire.specs.declared.items.InstanceAccept.{InstanceAccept}
use Rattle.ballot.specs.Majority.{is_majority}
use Rattle.protocol.specs.Facts.{instance_eq, vote_eq}
use Rattle.protocol.specs.LeaderMemory.{LeaderMemory, StoredBallots, current, has_reported, message_report, is_report_of, is_proposed}
use Rattle.protocol.specs.LeaderMemory.{is_accept_of, ballot_told, is_decided, is_counted, with_heard, with_all_heard, with_met, with_begun}
use Rattle.protocol.specs.LeaderMemory.{with_proposed, is_phase_1b}
use Rattle.protocol.specs.PaperItems.{report_messages, accept_messages_of}
use Rattle.protocol.proofs.Kept.Leaders.{last_false}
use Rattle.leader.specs.declared.instance.InstanceCourse.{InstanceCourse}
use Rattle.leader.specs.declared.proposals.Proposal.{Proposal}
use Rattle.leader.specs.Choices.{best_of}
use Rattle.leader.specs.Courses.{CourseParts, InstanceStands, CourseStands}
use Rattle.leader.proofs.Basics.{same_tx, and_false_3, and_false_4, any_of_kept, mapped_of_kept}

-- ---- memory answers alike of an instance

pub record SameAt (tx : TxParts) (i : ℕ) (old new : LeaderMemory) : Type 0 where
  pub current_is : current new tx ≡ current old tx
  pub reported : (b a : ℕ) → has_reported new.heard tx i b a ≡ has_reported old.heard tx i b a
  pub reports : (b : ℕ) → filter_map (message_report tx i b) new.heard ≡ filter_map (message_report tx i b) old.heard
  pub proposed_is : (b : ℕ) → is_proposed new.proposed tx i b ≡ is_proposed old.proposed tx i b
  pub told : (b : ℕ) (v : Vote) (a : ℕ) → list_any (is_accept_of tx i b v a) new.heard ≡ list_any (is_accept_of tx i b v a) old.heard
  pub ballots : (v : Vote) → filter_map (ballot_told tx i v) new.heard ≡ filter_map (ballot_told tx i v) old.heard

-- and of a whole transaction
pub record SameOn (tx : TxParts) (old new : LeaderMemory) : Type 0 where
  pub at : (i : ℕ) → SameAt tx i old new
  pub met_is : list_any (tx_eq tx) new.met ≡ list_any (tx_eq tx) old.met

-- whether an instance is decided is told by what was heard of it
pub same_decided : (n : ℕ) (tx : TxParts) (i : ℕ) (v : Vote) (old new : List Kind)
    → ((b a : ℕ) → list_any (is_accept_of tx i b v a) new ≡ list_any (is_accept_of tx i b v a) old)
    → filter_map (ballot_told tx i v) new ≡ filter_map (ballot_told tx i v) old → is_decided n new tx i v ≡ is_decided n old tx i v
same_decided n tx i v old new told ballots = λ k. list_any (λ b. is_majority n (λ a. told b a k)) (ballots k)

-- an instance stands for each memory that is the same there
pub instance_same : (n : ℕ) (tx : TxParts) (row : InstanceCourse) (old new : LeaderMemory) → SameAt tx row.instance old new
    → InstanceStands n old tx row → InstanceStands n new tx row
instance_same n tx row old new same stands = record {
  whole = stands.whole;
  reporters_are = λ b a is. stands.reporters_are b a (sym same.current_is ∙ is) ∙ sym (same.reported b a);
  best_is = λ b is. stands.best_is b (sym same.current_is ∙ is) ∙ ap best_of (sym (same.reports b));
  proposed_is = λ b is. stands.proposed_is b (sym same.current_is ∙ is) ∙ sym (same.proposed_is b);
  prepared_is = stands.prepared_is ∙ sym (same_decided n tx row.instance Vote.Prepared old.heard new.heard
      (λ b a. same.told b Vote.Prepared a)
      (same.ballots Vote.Prepared));
  aborted_is = stands.aborted_is ∙ sym (same_decided n tx row.instance Vote.Aborted old.heard new.heard (λ b a. same.told b Vote.Aborted a)
      (same.ballots Vote.Aborted));
}

-- so do all instances
pub instances_same : (n : ℕ) (tx : TxParts) (rows : List InstanceCourse) (old new : LeaderMemory) → ((i : ℕ) → SameAt tx i old new)
    → AllByRecursion (InstanceStands n old tx) rows → AllByRecursion (InstanceStands n new tx) rows
instances_same n tx [] old new same stand = tt
instances_same n tx (row ∷ rows) old new same stand =
    (instance_same n tx row old new (same row.instance) stand.0, instances_same n tx rows old new same stand.1)

-- a course stands for memory that answers alike
pub course_same : (n : ℕ) (stored : StoredBallots) (tx : TxParts) (c : CourseParts) (old new : LeaderMemory) → SameOn tx old new
    → CourseStands n stored old tx c → CourseStands n stored new tx c
course_same n stored tx c old new same stands = record {
  known_is = stands.known_is ∙ ap (λ t. t || nat_lt 0 (stored tx)) (sym same.met_is);
  greatest_is = stands.greatest_is;
  current_is = stands.current_is ∙ sym (same.at 0).current_is;
  instances_are = stands.instances_are;
  each_stands = instances_same n tx c.instances old new same.at stands.each_stands;
  whole = stands.whole;
  told_are = λ i b v a. stands.told_are i b v a ∙ sym ((same.at i).told b v a);
}

-- a memory is the same as itself
pub same_refl : (tx : TxParts) (memory : LeaderMemory) → SameOn tx memory memory
same_refl tx memory = record {
  at = λ i. record {
    current_is = refl;
    reported = λ b a. refl;
    reports = λ b. refl;
    proposed_is = λ b. refl;
    told = λ b v a. refl;
    ballots = λ v. refl;
  };
  met_is = refl;
}

-- and as what is the same as one that is
pub same_then : (tx : TxParts) (one two three : LeaderMemory) → SameOn tx one two → SameOn tx two three → SameOn tx one three
same_then tx one two three h k = record {
  at = λ i. record {
    current_is = (k.at i).current_is ∙ (h.at i).current_is;
    reported = λ b a. (k.at i).reported b a ∙ (h.at i).reported b a;
    reports = λ b. (k.at i).reports b ∙ (h.at i).reports b;
    proposed_is = λ b. (k.at i).proposed_is b ∙ (h.at i).proposed_is b;
    told = λ b v a. (k.at i).told b v a ∙ (h.at i).told b v a;
    ballots = λ v. (k.at i).ballots v ∙ (h.at i).ballots v;
  };
  met_is = k.met_is ∙ h.met_is;
}

-- ---- a message of another transaction

-- a message of another transaction is no report of this one
pub no_reporter : (tx : TxParts) (i b a : ℕ) (m : Kind) → tx_eq tx (message_tx m) ≡ false → is_report_of tx i b a m ≡ false
no_reporter tx i b a (P1b other j c report from) h =
    ap (λ t. (a == from) && (b == c) && ((i == j) && t)) h ∙ and_false_3 (a == from) (b == c) (i == j)
no_reporter tx i b a m h = refl

-- nor has it one
pub no_report : (tx : TxParts) (i b : ℕ) (m : Kind) → tx_eq tx (message_tx m) ≡ false → message_report tx i b m ≡ None
no_report tx i b (P1b other j c report from) h =
    ap (λ t. if (b == c) && ((i == j) && t) then Some report else None) h
    ∙ ap (λ t. if t then Some report else None) (last_false (b == c) (i == j))
no_report tx i b m h = refl

-- it is no accept of this one
pub no_teller : (tx : TxParts) (i b : ℕ) (v : Vote) (a : ℕ) (m : Kind) → tx_eq tx (message_tx m) ≡ false → is_accept_of tx i b v a m ≡ false
no_teller tx i b v a (P2b other j c w from) h =
    ap (λ t. (a == from) && (b == c) && vote_eq v w && ((i == j) && t)) h ∙ and_false_4 (a == from) (b == c) (vote_eq v w) (i == j)
no_teller tx i b v a m h = refl

-- nor tells it a ballot
pub no_ballot : (tx : TxParts) (i : ℕ) (v : Vote) (m : Kind) → tx_eq tx (message_tx m) ≡ false → ballot_told tx i v m ≡ None
no_ballot tx i v (P2b other j c w from) h =
    ap (λ t. if vote_eq v w && ((i == j) && t) then Some c else None) h
    ∙ ap (λ t. if t then Some c else None) (last_false (vote_eq v w) (i == j))
no_ballot tx i v m h = refl

-- heard
pub heard_elsewhere : (tx : TxParts) (m : Kind) (memory : LeaderMemory) → tx_eq tx (message_tx m) ≡ false
    → SameOn tx memory (with_heard m memory)
heard_elsewhere tx m memory h = record {
  at = λ i. record {
    current_is = refl;
    reported = λ b a. ap (λ t. t || has_reported memory.heard tx i b a) (no_reporter tx i b a m h);
    reports = λ b. ap (λ o. cons_option o (filter_map (message_report tx i b) memory.heard)) (no_report tx i b m h);
    proposed_is = λ b. refl;
    told = λ b v a. ap (λ t. t || list_any (is_accept_of tx i b v a) memory.heard) (no_teller tx i b v a m h);
    ballots = λ v. ap (λ o. cons_option o (filter_map (ballot_told tx i v) memory.heard)) (no_ballot tx i v m h);
  };
  met_is = refl;
}

-- heard, if it doesn't count already
counted_elsewhere : (tx : TxParts) (m : Kind) (memory : LeaderMemory) (t : Bool) → tx_eq tx (message_tx m) ≡ false
    → SameOn tx memory (if t then memory else with_heard m memory)
counted_elsewhere tx m memory true h = same_refl tx memory
counted_elsewhere tx m memory false h = heard_elsewhere tx m memory h

-- reports of another transaction leave a memory the same
pub reports_elsewhere : (tx other : TxParts) (b a : ℕ) (items : List InstanceReport) (memory : LeaderMemory) → tx_eq tx other ≡ false
    → SameOn tx memory (with_all_heard (report_messages other b a items) memory)
reports_elsewhere tx other b a [] memory h = same_refl tx memory
reports_elsewhere tx other b a (item ∷ items) memory h =
    let m : Kind = P1b other item.instance b item.report a in
    let next : LeaderMemory = (if is_counted memory.heard m then memory else with_heard m memory) in
    same_then tx memory next (with_all_heard (report_messages other b a items) next)
    (counted_elsewhere tx m memory (is_counted memory.heard m) h) (reports_elsewhere tx other b a items next h)

-- so do accepts
pub accepts_elsewhere : (tx other : TxParts) (a : ℕ) (items : List InstanceAccept) (memory : LeaderMemory) → tx_eq tx other ≡ false
    → SameOn tx memory (with_all_heard (accept_messages_of other a items) memory)
accepts_elsewhere tx other a [] memory h = same_refl tx memory
accepts_elsewhere tx other a (item ∷ items) memory h =
    let m : Kind = P2b other item.instance item.ballot item.vote a in
    let next : LeaderMemory = (if is_counted memory.heard m then memory else with_heard m memory) in
    same_then tx memory next (with_all_heard (accept_messages_of other a items) next)
    (counted_elsewhere tx m memory (is_counted memory.heard m) h) (accepts_elsewhere tx other a items next h)

-- ---- met, begun and proposed elsewhere

-- transactions that are met change nothing at an instance
pub alike : (tx : TxParts) (i : ℕ) (old : LeaderMemory) (met : List TxParts) → SameAt tx i old (record old { met = met })
alike tx i old met = record {
  current_is = refl;
  reported = λ b a. refl;
  reports = λ b. refl;
  proposed_is = λ b. refl;
  told = λ b v a. refl;
  ballots = λ v. refl;
}

met_more : (tx other : TxParts) (memory : LeaderMemory) → tx_eq tx other ≡ false
    → SameOn tx memory (record memory { met = other ∷ memory.met })
met_more tx other memory h = record {
  at = λ i. alike tx i memory (other ∷ memory.met);
  met_is = ap (λ t. t || list_any (tx_eq tx) memory.met) h;
}

-- to meet another transaction leaves it the same
pub met_elsewhere : (tx other : TxParts) (memory : LeaderMemory) → tx_eq tx other ≡ false → SameOn tx memory (with_met other memory)
met_elsewhere tx other memory h =
    elim (list_any (tx_eq other) memory.met) as (λ t. SameOn tx memory (if t then memory else record memory { met = other ∷ memory.met })) [
      | true ↦ same_refl tx memory
      | false ↦ met_more tx other memory h
    ]

-- what is dropped when another transaction begins a ballot isn't this one's
dropped_elsewhere : (tx other : TxParts) (m : Kind) → tx_eq tx other ≡ false → not (is_phase_1b m && tx_eq other (message_tx m)) ≡ false
    → tx_eq tx (message_tx m) ≡ false
dropped_elsewhere tx other m h dropped = ap (λ x. tx_eq tx x) (sym (same_tx other (message_tx m) (named (is_phase_1b m) dropped))) ∙ h
  where
    named : (t : Bool) → not (t && tx_eq other (message_tx m)) ≡ false → tx_eq other (message_tx m) ≡ true
    named true e = not-false (tx_eq other (message_tx m)) e
    named false e = absurd (true≢false e)

dropped_proposal : (tx other : TxParts) (m : Kind) → tx_eq tx other ≡ false → not (tx_eq other (message_tx m)) ≡ false
    → tx_eq tx (message_tx m) ≡ false
dropped_proposal tx other m h dropped = ap (λ x. tx_eq tx x) (sym (same_tx other (message_tx m) (not-false (tx_eq other
    (message_tx m)) dropped))) ∙ h

-- whether a message is phase 2a of an instance and ballot
abbrev pub is_proposal_of : TxParts → ℕ → ℕ → Kind → Bool
is_proposal_of tx i b (P2a other j c v) = (b == c) && instance_eq tx i other j
is_proposal_of tx i b m = false

-- what is proposed with one proposal more
pub one_proposed : (tx : TxParts) (i b : ℕ) (m : Kind) (ms : List Kind)
    → is_proposed (m ∷ ms) tx i b ≡ (is_proposal_of tx i b m || is_proposed ms tx i b)
one_proposed tx i b (P2a other j c v) ms = refl
one_proposed tx i b m ms = refl

-- a proposal of another transaction is none of this one
pub no_proposal : (tx : TxParts) (i b : ℕ) (m : Kind) → tx_eq tx (message_tx m) ≡ false → is_proposal_of tx i b m ≡ false
no_proposal tx i b (P2a other j c v) h = ap (λ t. (b == c) && ((i == j) && t)) h ∙ last_false (b == c) (i == j)
no_proposal tx i b m h = refl

-- the proposals of other transactions that are kept
kept_proposals : (tx other : TxParts) (i b : ℕ) (proposals : List Kind) → tx_eq tx other ≡ false
    → is_proposed (filter (λ m. not (tx_eq other (message_tx m))) proposals) tx i b ≡ is_proposed proposals tx i b
kept_proposals tx other i b [] h = refl
kept_proposals tx other i b (m ∷ ms) h =
    elim (tx_eq other (message_tx m)) as (λ t. tx_eq other (message_tx m) ≡ t
    → is_proposed (cond (not t) (m ∷ filter (λ x. not (tx_eq other (message_tx x))) ms) (filter (λ x. not (tx_eq other
    (message_tx x))) ms)) tx i b
    ≡ is_proposed (m ∷ ms) tx i b) [
      | true ↦ λ e. kept_proposals tx other i b ms h ∙ sym (one_proposed tx i b m ms
          ∙ ap (λ t. t || is_proposed ms tx i b) (no_proposal tx i b m (dropped_proposal tx other m h (ap not e))))
      | false ↦ λ e. one_proposed tx i b m (filter (λ x. not (tx_eq other (message_tx x))) ms)
          ∙ ap (λ t. is_proposal_of tx i b m || t) (kept_proposals tx other i b ms h) ∙ sym (one_proposed tx i b m ms)
    ] refl

-- the proposals of a transaction, in a ballot
abbrev pub proposal_kinds : TxParts → ℕ → List Proposal → List Kind
proposal_kinds tx b proposals = map (λ proposal. P2a tx proposal.instance b proposal.vote) proposals

more_proposals : (tx other : TxParts) (i b c : ℕ) (proposals : List Proposal) (before : List Kind) → tx_eq tx other ≡ false
    → is_proposed (proposal_kinds other c proposals ++ before) tx i b ≡ is_proposed before tx i b
more_proposals tx other i b c [] before h = refl
more_proposals tx other i b c (p ∷ ps) before h =
    one_proposed tx i b (P2a other p.instance c p.vote) (proposal_kinds other c ps ++ before)
    ∙ ap (λ t. t || is_proposed (proposal_kinds other c ps ++ before) tx i b) (no_proposal tx i b (P2a other p.instance c p.vote) h)
    ∙ more_proposals tx other i b c ps before h

-- proposals of another transaction leave a memory the same
pub proposed_elsewhere : (tx other : TxParts) (b : ℕ) (proposals : List Proposal) (memory : LeaderMemory) → tx_eq tx other ≡ false
    → SameOn tx memory (with_proposed (proposal_kinds other b proposals) memory)
proposed_elsewhere tx other b proposals memory h = record {
  at = λ i. record {
    current_is = refl;
    reported = λ c a. refl;
    reports = λ c. refl;
    proposed_is = λ c. more_proposals tx other i c b proposals memory.proposed h;
    told = λ c v a. refl;
    ballots = λ v. refl;
  };
  met_is = refl;
}

-- so does its ballot
pub begun_elsewhere : (tx other : TxParts) (b : ℕ) (memory : LeaderMemory) → tx_eq tx other ≡ false
    → SameOn tx memory (with_begun other b memory)
begun_elsewhere tx other b memory h = record {
  at = λ i. record {
    current_is = ap (λ t. option_map (λ begun. begun.ballot) (cond t (Some (record { tx = other; ballot = b }))
        (find (λ begun. tx_eq tx begun.tx) memory.begun))) h;
    reported = λ c a. any_of_kept (λ m. not (is_phase_1b m && tx_eq other (message_tx m))) (is_report_of tx i c a) memory.heard
        (λ m e. no_reporter tx i c a m (dropped_elsewhere tx other m h e));
    reports = λ c. mapped_of_kept (λ m. not (is_phase_1b m && tx_eq other (message_tx m))) (message_report tx i c) memory.heard
        (λ m e. no_report tx i c m (dropped_elsewhere tx other m h e));
    proposed_is = λ c. kept_proposals tx other i c memory.proposed h;
    told = λ c v a. any_of_kept (λ m. not (is_phase_1b m && tx_eq other (message_tx m))) (is_accept_of tx i c v a) memory.heard
        (λ m e. no_teller tx i c v a m (dropped_elsewhere tx other m h e));
    ballots = λ v. mapped_of_kept (λ m. not (is_phase_1b m && tx_eq other (message_tx m))) (ballot_told tx i v) memory.heard
        (λ m e. no_ballot tx i v m (dropped_elsewhere tx other m h e));
  };
  met_is = refl;
}
