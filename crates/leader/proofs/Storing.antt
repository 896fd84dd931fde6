-- A ballot that is made ready for, and one that is stored.
-- Needed by `Courses::make_ready`, `Courses::store`, `Leader::play_ballot` and `Leader::ready`.
use Rattle.std.proofs.Common.{◌≡◌, ◌∙◌, ℕ, ◌<◌, ◌≤◌, ◌==◌, Bool, true, false, ◌&&◌, ◌||◌, List, [], ◌∷◌, ◌++◌, sym, ap, refl, subst}
use Rattle.std.specs.Prelude.{if◌then◌else◌, nat_lt, Some, Result, Ok, Err, OnOk, OnErr, IfErr}
use Rattle.std.specs.List.{list_any}
use Rattle.std.proofs.lemmas.Bool.{false≢true, lt-ltb, le-ltb, eq-eqb, and_from}
use Rattle.std.proofs.lemmas.List.Folds.{list_any-append}
use Rattle.xid.specs.Transactions.{TxParts, tx_eq}
use Rattle.xid.specs.declared.refusals.Refusal.{Refusal}
use Rattle.xid.specs.declared.refusals.Refusal.TheVariants.{Damaged, NoMemory}
use Rattle.ballot.specs.Ballots.{owner_of}
use Rattle.stable_record.specs.declared.fact.FactKind.{FactKind as Fact}
use Rattle.stable_record.specs.Parts.{IsPlayed, IsMadeReady}
use Rattle.stable_record.specs.Facts.{fact_tx}
use Rattle.transactions.specs.Seen.{seen_with}
use Rattle.transactions.proofs.First.{first_more, or_true}
use Rattle.protocol.specs.Effects.{Config}
use Rattle.protocol.specs.Facts.{last_ballot}
use Rattle.protocol.specs.LeaderMemory.{LeaderMemory, StoredBallots}
use Rattle.protocol.specs.Leaders as rules
use Rattle.leader.specs.Courses.{CourseParts, after_ballot}
use Rattle.leader.specs.Places.{CoursesParts, course_in, is_placed_in, is_ready_in, with_beginning, with_room, IsPlaceOf, IsChanged, IsKept}
use Rattle.leader.specs.Leaders.{LeaderParts, StandsForBallots, StandsFor, course_of, leader_part, IsSame}
use Rattle.leader.proofs.PlaceSteps.{is_placed_at}
use Rattle.leader.proofs.Basics.{tx_self}
use Rattle.leader.proofs.Leading.{moved, with_courses, kept_same, store_stands, plays_here}

-- ---- one more among those that begin

-- those seen stay
pub still_seen : (seen : List TxParts) (tx x : TxParts) → list_any (tx_eq x) seen ≡ true → list_any (tx_eq x) (seen_with seen tx) ≡ true
still_seen seen tx x e = by (list_any (tx_eq tx) seen)
  where
    by : (t : Bool) → list_any (tx_eq x) (if t then seen else seen ++ tx ∷ []) ≡ true
    by true = e
    by false = list_any-append (tx_eq x) seen (tx ∷ []) ∙ ap (λ t. t || list_any (tx_eq x) (tx ∷ [])) e

-- and the one is there
pub seen_now : (seen : List TxParts) (tx : TxParts) → list_any (tx_eq tx) (seen_with seen tx) ≡ true
seen_now seen tx = by (list_any (tx_eq tx) seen) refl
  where
    by : (t : Bool) → list_any (tx_eq tx) seen ≡ t → list_any (tx_eq tx) (if t then seen else seen ++ tx ∷ []) ≡ true
    by true e = e
    by false e =
        list_any-append (tx_eq tx) seen (tx ∷ []) ∙ ap (λ t. list_any (tx_eq tx) seen || (t || false)) (tx_self tx)
        ∙ or_true (list_any (tx_eq tx) seen)

-- ---- by a leader

-- a leader with one more among those that begin stands for the ballots that it stood for
pub listed_same : (config : Config) (number : ℕ) (l : LeaderParts) (tx : TxParts) (stored : StoredBallots) (memory : LeaderMemory)
    → StandsForBallots config number l stored memory
    → StandsForBallots config number (with_courses l (with_beginning l.courses tx)) stored memory
listed_same config number l tx stored memory stands = record {
  number_is = stands.number_is;
  acceptors_are = stands.acceptors_are;
  leaders_are = stands.leaders_are;
  managers_are = stands.managers_are;
  bundled_is = stands.bundled_is;
  courses_are = stands.courses_are;
  begun_are = λ x some. still_seen l.courses.begun tx x (stands.begun_are x some);
}

-- it stands for the same facts
pub stands_still : (config : Config) (number : ℕ) (old new : LeaderParts) → IsSame config number old new → (facts : List Fact)
    (memory : LeaderMemory) → StandsFor config number old facts memory → StandsFor config number new facts memory
stands_still config number old new same facts memory stands = record {
  ballots = same.stands (last_ballot facts) memory stands.ballots;
  begun_are = same.begun_is ∙ stands.begun_are;
}

-- a ballot played, or not for want of memory
pub played : (config : Config) (number : ℕ) (memory : LeaderMemory) (inner old : LeaderParts) (courses : CoursesParts) (tx : TxParts)
    (b : ℕ)
    (fact : Fact) (r : Result (Unit {0}) Refusal) → inner ≡ old → fact ≡ Fact.Ballot tx b → (course_of inner tx).greatest < b
    → owner_of inner.leaders b ≡ inner.number
    → OnOk r (IsChanged (with_beginning inner.courses tx) courses tx (after_ballot b (course_of inner tx)))
    → IfErr r (λ e. e ≡ NoMemory) → OnErr r (IsKept inner.courses courses) → OnErr r (is_ready_in inner.courses tx ≡ false)
    → IsPlayed (leader_part config number memory) old (with_courses inner courses) fact r
played config number memory inner old courses tx b fact r is names more owned changed err kept absent =
    let P : Fact → Type 0 = λ f. IsPlayed (leader_part config number memory) old (with_courses inner courses) f r in
    subst P (sym names) (by_result r changed err kept absent)
  where
    plays : (facts : List Fact) → StandsFor config number old facts memory
        → rules.plays_at_leader config.leaders number (last_ballot facts) (Fact.Ballot tx b) ≡ true
    plays facts stands = plays_here config number inner tx b (last_ballot facts) memory (moved config number inner old
        (last_ballot facts) memory is stands.ballots)
        ∙ (λ k. lt-ltb (course_of inner tx).greatest b more k && eq-eqb (owner_of inner.leaders b) inner.number owned k)

    begun : LeaderParts
    begun = with_courses inner (with_beginning inner.courses tx)

    by_result : (x : Result (Unit {0}) Refusal)
        → OnOk x (IsChanged (with_beginning inner.courses tx) courses tx (after_ballot b (course_of inner tx)))
        → IfErr x (λ e. e ≡ NoMemory) → OnErr x (IsKept inner.courses courses) → OnErr x (is_ready_in inner.courses tx ≡ false)
        → IsPlayed (leader_part config number memory) old (with_courses inner courses) (Fact.Ballot tx b) x
    by_result (Ok done) changed err kept absent = (
      plays,
      λ facts stands. record {
        ballots =
            store_stands config number begun begun courses tx b facts memory refl changed more (seen_now inner.courses.begun tx)
            (listed_same config number inner tx (last_ballot facts) memory
            (moved config number inner old (last_ballot facts) memory is stands.ballots));
        begun_are = changed.begun_is
            ∙ ap (λ (txs : List TxParts). seen_with txs tx) (ap (λ (l : LeaderParts). l.courses.begun) is ∙ stands.begun_are)
            ∙ sym (first_more fact_tx facts (Fact.Ballot tx b));
      },
    )
    by_result (Err e) changed err kept absent =
        let Q : Refusal → Type 0 = λ x. IsPlayed (leader_part config number memory) old (with_courses inner courses) (Fact.Ballot tx b)
        (Err x) in
        subst Q (sym err) (
          plays,
          λ ready. false≢true (sym (ap (λ l. is_ready_in l.courses tx) (sym is) ∙ absent) ∙ ready),
          λ facts stands.
              stands_still config number old (with_courses inner courses) (kept_same config number inner old courses is kept) facts memory
              stands,
        )

-- a ballot that is no greater than the greatest stored one doesn't play
pub too_low : (config : Config) (number : ℕ) (memory : LeaderMemory) (inner old : LeaderParts) (tx : TxParts) (b : ℕ) (fact : Fact)
    → inner ≡ old → fact ≡ Fact.Ballot tx b → b ≤ (course_of inner tx).greatest
    → IsPlayed (leader_part config number memory) old old fact (Err Damaged)
too_low config number memory inner old tx b fact is names low = (
  λ facts stands.
      ap (λ f. rules.plays_at_leader config.leaders number (last_ballot facts) f) names
      ∙ plays_here config number inner tx b (last_ballot facts) memory
      (moved config number inner old (last_ballot facts) memory is stands.ballots)
      ∙ (λ k. le-ltb (course_of inner tx).greatest b low k && (owner_of inner.leaders b == inner.number)),
  λ facts stands. stands,
)

-- a place made for a fact, or not for want of memory
pub made_ready : (config : Config) (number : ℕ) (memory : LeaderMemory) (inner old : LeaderParts) (courses : CoursesParts)
    (tx : TxParts) (b : ℕ) (fact : Fact) (r : Result (Unit {0}) Refusal) → inner ≡ old
    → fact ≡ Fact.Ballot tx b → IsKept inner.courses courses → IfErr r (λ e. e ≡ NoMemory) → OnOk r (is_ready_in courses tx ≡ true)
    → IsMadeReady (leader_part config number memory) old (with_courses inner courses) fact r
made_ready config number memory inner old courses tx b fact r is names kept err ready =
    let P : Fact → Type 0 = λ f. IsMadeReady (leader_part config number memory) old (with_courses inner courses) f r in
    subst P (sym names) (by_result r err ready)
  where
    same : (facts : List Fact) → StandsFor config number old facts memory
        → StandsFor config number (with_courses inner courses) facts memory
    same facts stands =
        stands_still config number old (with_courses inner courses) (kept_same config number inner old courses is kept) facts memory stands

    by_result : (x : Result (Unit {0}) Refusal) → IfErr x (λ e. e ≡ NoMemory) → OnOk x (is_ready_in courses tx ≡ true)
        → IsMadeReady (leader_part config number memory) old (with_courses inner courses) (Fact.Ballot tx b) x
    by_result (Ok done) err ready = (same, ready)
    by_result (Err e) err ready =
        let Q : Refusal → Type 0 = λ x.
        IsMadeReady (leader_part config number memory) old (with_courses inner courses) (Fact.Ballot tx b) (Err x) in
        subst Q (sym err) same

-- ---- by its courses

-- a place made, and room
pub roomed_kept : (old made new : CoursesParts) → IsKept old made → new ≡ with_room made new.room → IsKept old new
roomed_kept old made new kept is = record {
  begun_is = ap (λ (k : CoursesParts). k.begun) is ∙ kept.begun_is;
  courses_are = λ x. ap (λ (k : CoursesParts). course_in k x) is ∙ kept.courses_are x;
}

-- where there is room for one transaction more, a ballot is made ready for
pub roomed_ready : (made new : CoursesParts) (tx : TxParts) (place : ℕ) (r : Result (Unit {0}) Refusal) → IsPlaceOf made tx (Some place)
    → new ≡ with_room made new.room → OnOk r (0 < new.room) → OnOk r (is_ready_in new tx ≡ true)
roomed_ready made new tx place (Ok done) there is some =
    and_from (is_placed_in new tx) (nat_lt 0 new.room)
    (ap (λ (k : CoursesParts). is_placed_in k tx) is ∙ is_placed_at made tx place there) (lt-ltb 0 new.room some)
roomed_ready made new tx place (Err e) there is some = tt

-- a ballot stored, once it has a place and is listed
pub stored_at : (old made listed new : CoursesParts) (tx : TxParts) (f : CourseParts → CourseParts) → IsKept old made
    → listed ≡ with_room (with_beginning made tx) listed.room → IsChanged listed new tx (f (course_in listed tx))
    → IsChanged (with_beginning old tx) new tx (f (course_in old tx))
stored_at old made listed new tx f kept is changed = record {
  begun_is = changed.begun_is ∙ ap (λ (k : CoursesParts). k.begun) is ∙ ap (λ (txs : List TxParts). seen_with txs tx) kept.begun_is;
  courses_are = λ other.
      changed.courses_are other ∙ (λ k. if tx_eq other tx then f (course_stays tx k) else course_stays other k);
}
  where
    course_stays : (x : TxParts) → course_in listed x ≡ course_in old x
    course_stays x = ap (λ (k : CoursesParts). course_in k x) is ∙ kept.courses_are x
