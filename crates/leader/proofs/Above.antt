-- What is left of a leader above a floor stands for the ballots and the memory that are kept.
-- Needed by `Leader::above`.
use Rattle.std.proofs.Common.{◌≡◌, ◌∙◌, inl, inr, ℕ, ◌<◌, Bool, true, false, not, ◌||◌, if◌then◌else◌, List, [], ◌∷◌, Option, Some, None}
use Rattle.std.proofs.Common.{refl, sym, ap, subst, arith, nat_lt}
use Rattle.std.specs.Prelude.{filter, filter_map, find}
use Rattle.std.specs.List.{list_any, cons_option}
use Rattle.std.specs.Option.{option_map}
use Rattle.std.proofs.lemmas.Bool.{cond-false, not-true}
use Rattle.xid.specs.Places.{Place, is_below}
use Rattle.xid.specs.Transactions.{TxParts, tx_eq}
use Rattle.xid.proofs.Deciding.{tx_decides}
use Rattle.wire.specs.Messages.{message_tx}
use Rattle.wire.specs.declared.message.Kind.{Kind}
use Rattle.ballot.specs.Greatest.{greatest, IsIn}
use Rattle.stable_record.specs.declared.fact.FactKind.{FactKind as Fact}
use Rattle.stable_record.specs.declared.fact.FactKind.TheVariants as stored_facts
use Rattle.stable_record.specs.Facts.{fact_tx}
use Rattle.transactions.proofs.Above.{any_passing, first_passing}
use Rattle.protocol.specs.Effects.{Config}
use Rattle.protocol.specs.Facts.{ballot_begun, last_ballot}
use Rattle.protocol.specs.Kept.{is_kept, kept_facts, kept_leader}
use Rattle.protocol.specs.LeaderMemory.{LeaderMemory, StoredBallots, Begun, ballot_told, is_accept_of, is_proposed}
use Rattle.protocol.specs.LeaderMemory.{is_report_of, message_report, nothing_heard}
use Rattle.protocol.proofs.Kept.Facts.{last_ballot_kept}
use Rattle.protocol.proofs.Kept.Leaders.{accepts_kept, any_filter, find_filter, map_filter, other_tx, proposed_kept, reported_by}
use Rattle.protocol.proofs.Lists.{filter_kept}
use Rattle.leader.specs.Courses.{CourseParts, CourseStands, fresh}
use Rattle.leader.specs.Leaders.{LeaderParts, StandsFor, course_of}
use Rattle.leader.specs.Places.{IsLeft}
use Rattle.leader.proofs.Elsewhere.{SameOn, course_same, no_ballot, no_proposal, no_report, no_reporter, no_teller, one_proposed}
use Rattle.leader.proofs.Leading.{fresh_stands}

-- ---- nothing is found where nothing passes

module _ {X : Type 0} where
  any_none : (q : X → Bool) (xs : List X) → ((x : X) → IsIn xs x → q x ≡ false) → list_any q xs ≡ false
  any_none q [] none = refl
  any_none q (x ∷ xs) none = λ k. none x (inl refl) k || any_none q xs (λ y h. none y (inr h)) k

  map_none : {Y : Type 0} (g : X → Option Y) (xs : List X) → ((x : X) → IsIn xs x → g x ≡ None) → filter_map g xs ≡ []
  map_none g [] none = refl
  map_none g (x ∷ xs) none = λ k. cons_option (none x (inl refl) k) (map_none g xs (λ y h. none y (inr h)) k)

  find_none : (q : X → Bool) (xs : List X) → ((x : X) → IsIn xs x → q x ≡ false) → find q xs ≡ None
  find_none q [] none = refl
  find_none q (x ∷ xs) none =
      cond-false (q x) (Some x) (find q xs) (none x (inl refl)) ∙ find_none q xs (λ y h. none y (inr h))

-- a course of other stored ballots, which say the same of its transaction
ballots_same : (n : ℕ) (old new : StoredBallots) (memory : LeaderMemory) (tx : TxParts) (c : CourseParts) → new tx ≡ old tx
    → CourseStands n old memory tx c → CourseStands n new memory tx c
ballots_same n old new memory tx c same stands = record {
  known_is = stands.known_is ∙ ap (λ (b : ℕ). list_any (tx_eq tx) memory.met || nat_lt 0 b) (sym same);
  greatest_is = stands.greatest_is ∙ sym same;
  current_is = stands.current_is;
  instances_are = stands.instances_are;
  each_stands = stands.each_stands;
  whole = stands.whole;
  told_are = stands.told_are;
}

module _ (place : Place) where
  abbrev is_kept_tx : TxParts → Bool
  is_kept_tx t = not (is_below (Some place) t)

  abbrev is_kept_message : Kind → Bool
  is_kept_message m = not (is_below (Some place) (message_tx m))

  -- ---- a transaction that isn't below

  module _ (tx : TxParts) (above : is_below (Some place) tx ≡ false) (memory : LeaderMemory) where
    other_message : (m : Kind) → is_kept_message m ≡ false → tx_eq tx (message_tx m) ≡ false
    other_message m dropped = other_tx (Some place) tx above (message_tx m) dropped

    same_kept : SameOn tx memory (kept_leader (Some place) memory)
    same_kept = record {
      at = λ i. record {
        current_is = ap (option_map (λ begun. begun.ballot))
            (find_filter (λ begun. is_kept_tx begun.tx) (λ begun. tx_eq tx begun.tx) memory.begun
            (λ begun dropped. other_tx (Some place) tx above begun.tx dropped));
        reported = λ b a. reported_by (Some place) tx above memory.heard i b a;
        reports = λ b. map_filter is_kept_message (message_report tx i b) memory.heard
            (λ m dropped. no_report tx i b m (other_message m dropped));
        proposed_is = λ b. proposed_kept (Some place) tx above memory.proposed i b;
        told = λ b v a. accepts_kept (Some place) tx above memory.heard i b v a;
        ballots = λ v. map_filter is_kept_message (ballot_told tx i v) memory.heard
            (λ m dropped. no_ballot tx i v m (other_message m dropped));
      };
      met_is = any_filter is_kept_tx (tx_eq tx) memory.met (λ t dropped. other_tx (Some place) tx above t dropped);
    }

    pub course_kept : (n : ℕ) (facts : List Fact) (c : CourseParts) → CourseStands n (last_ballot facts) memory tx c
        → CourseStands n (last_ballot (kept_facts (Some place) facts)) (kept_leader (Some place) memory) tx c
    course_kept n facts c stands =
        ballots_same n (last_ballot facts) (last_ballot (kept_facts (Some place) facts)) (kept_leader (Some place) memory) tx c
        (last_ballot_kept (Some place) tx above facts)
        (course_same n (last_ballot facts) tx c memory (kept_leader (Some place) memory) same_kept stands)

  -- ---- one that is

  module _ (tx : TxParts) (below : is_below (Some place) tx ≡ true) where
    apart : (t : TxParts) → is_kept_tx t ≡ true → tx_eq tx t ≡ false
    apart t kept = by_test (tx_eq tx t) refl
      where
        by_test : (b : Bool) → tx_eq tx t ≡ b → tx_eq tx t ≡ false
        by_test true e =
            let high = not-true (is_below (Some place) t) kept in
            let low : is_below (Some place) t ≡ true =
            subst (λ (u : TxParts). is_below (Some place) u ≡ true) ((tx_decides tx t).0 e) below in
            absurd (cc (high, low))
        by_test false e = e

    module _ (memory : LeaderMemory) where
      heard_apart : (m : Kind) → IsIn (filter is_kept_message memory.heard) m → tx_eq tx (message_tx m) ≡ false
      heard_apart m h = apart (message_tx m) (filter_kept is_kept_message memory.heard m h).1

      proposed_none : (ms : List Kind) → ((m : Kind) → IsIn ms m → tx_eq tx (message_tx m) ≡ false) → (i b : ℕ)
          → is_proposed ms tx i b ≡ false
      proposed_none [] each i b = refl
      proposed_none (m ∷ ms) each i b =
          one_proposed tx i b m ms
          ∙ (λ k. no_proposal tx i b m (each m (inl refl)) k || proposed_none ms (λ n h. each n (inr h)) i b k)

      same_nothing : SameOn tx nothing_heard (kept_leader (Some place) memory)
      same_nothing = record {
        at = λ i. record {
          current_is = ap (option_map (λ begun. begun.ballot))
              (find_none (λ begun. tx_eq tx begun.tx) (filter (λ begun. is_kept_tx begun.tx) memory.begun)
              (λ begun h. apart begun.tx (filter_kept (λ (x : Begun). is_kept_tx x.tx) memory.begun begun h).1));
          reported = λ b a. any_none (is_report_of tx i b a) (filter is_kept_message memory.heard)
              (λ m h. no_reporter tx i b a m (heard_apart m h));
          reports = λ b. map_none (message_report tx i b) (filter is_kept_message memory.heard)
              (λ m h. no_report tx i b m (heard_apart m h));
          proposed_is = λ b. proposed_none (filter is_kept_message memory.proposed)
              (λ m h. apart (message_tx m) (filter_kept is_kept_message memory.proposed m h).1) i b;
          told = λ b v a. any_none (is_accept_of tx i b v a) (filter is_kept_message memory.heard)
              (λ m h. no_teller tx i b v a m (heard_apart m h));
          ballots = λ v. map_none (ballot_told tx i v) (filter is_kept_message memory.heard)
              (λ m h. no_ballot tx i v m (heard_apart m h));
        };
        met_is = any_none (tx_eq tx) (filter is_kept_tx memory.met) (λ t h. apart t (filter_kept is_kept_tx memory.met t h).1);
      }

    -- no ballot of it is kept
    none_stored : (facts : List Fact) → last_ballot (kept_facts (Some place) facts) tx ≡ 0
    none_stored facts =
        ap greatest (map_none (ballot_begun tx) (kept_facts (Some place) facts)
        (λ f h. begun_none f (apart (fact_tx f) (filter_kept (is_kept (Some place)) facts f h).1)))
      where
        begun_none : (f : Fact) → tx_eq tx (fact_tx f) ≡ false → ballot_begun tx f ≡ None
        begun_none (stored_facts.Ballot other b) e = ap (λ (t : Bool). if t then Some b else None) e
        begun_none f e = refl

    pub course_gone : (n : ℕ) (facts : List Fact) (memory : LeaderMemory)
        → CourseStands n (last_ballot (kept_facts (Some place) facts)) (kept_leader (Some place) memory) tx (fresh tx)
    course_gone n facts memory =
        ballots_same n (last_ballot []) (last_ballot (kept_facts (Some place) facts)) (kept_leader (Some place) memory) tx (fresh tx)
        (none_stored facts)
        (course_same n (last_ballot []) tx (fresh tx) nothing_heard (kept_leader (Some place) memory) (same_nothing memory)
        (fresh_stands n tx))

  -- ---- the whole

  module _ (old left : LeaderParts) (is : IsLeft place old.courses left.courses) (config : Config) (number : ℕ) (facts : List Fact)
      (memory : LeaderMemory) (stands : StandsFor config number old facts memory) where
    abbrev stored : StoredBallots
    stored = last_ballot (kept_facts (Some place) facts)

    abbrev kept : LeaderMemory
    kept = kept_leader (Some place) memory

    course_by : (tx : TxParts) (t : Bool) → is_below (Some place) tx ≡ t
        → CourseStands config.acceptors stored kept tx (if t then fresh tx else course_of old tx)
    course_by tx true below = course_gone tx below config.acceptors facts memory
    course_by tx false above = course_kept tx above memory config.acceptors facts (course_of old tx) (stands.ballots.courses_are tx)

    begun_by : (tx : TxParts) (t : Bool) → is_below (Some place) tx ≡ t → 0 < stored tx → list_any (tx_eq tx) left.courses.begun ≡ true
    begun_by tx true below some = absurd (omega (arith, none_stored tx below facts, some))
    begun_by tx false above some =
        ap (list_any (tx_eq tx)) is.begun_are
        ∙ any_passing is_kept_tx tx (ap not above) old.courses.begun
        ∙ stands.ballots.begun_are tx (subst (λ (n : ℕ). 0 < n) (last_ballot_kept (Some place) tx above facts) some)

    -- what is left of a leader stands for what is kept
    pub leader_left : left.number ≡ old.number → left.acceptors ≡ old.acceptors → left.leaders ≡ old.leaders
        → left.managers ≡ old.managers → left.bundled ≡ old.bundled
        → StandsFor config number left (kept_facts (Some place) facts) kept
    leader_left number_is acceptors leaders managers bundled = record {
      ballots = record {
        number_is = number_is ∙ stands.ballots.number_is;
        acceptors_are = acceptors ∙ stands.ballots.acceptors_are;
        leaders_are = leaders ∙ stands.ballots.leaders_are;
        managers_are = managers ∙ stands.ballots.managers_are;
        bundled_is = bundled ∙ stands.ballots.bundled_is;
        courses_are = λ tx.
            subst (CourseStands config.acceptors stored kept tx) (sym (is.courses_are tx)) (course_by tx (is_below (Some place) tx) refl);
        begun_are = λ tx some. begun_by tx (is_below (Some place) tx) refl some;
      };
      begun_are =
          is.begun_are ∙ ap (filter is_kept_tx) stands.begun_are ∙ sym (first_passing is_kept_tx fact_tx facts);
    }
