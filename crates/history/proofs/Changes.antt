-- Each fact that a rule of a resource manager stores changes the view of its transaction, and the step says so.
-- Needed by Conflicts, KeyCourses, Moves and Told; crates cluster and audit.
use Rattle.std.proofs.Common.{◌≡◌, ◌∙◌, ℕ, Bool, true, false, ◌||◌, ◌==◌, if◌then◌else◌, List, [], ◌∷◌, ◌++◌, length, Some, None}
use Rattle.std.proofs.Common.{is_some, refl, ap, arith}
use Rattle.std.specs.List.{list_any}
use Rattle.std.specs.Option.{option_and_then}
use Rattle.std.proofs.lemmas.Bool.{or_parts, or_right, false_from_ne_true}
use Rattle.std.proofs.lemmas.List.Folds.{list_any-append}
use Rattle.std.proofs.lemmas.Option.{slice_get_past}
use Rattle.xid.specs.Transactions.{TxParts, tx_eq}
use Rattle.xid.specs.declared.transaction.Vote.{Vote}
use Rattle.xid.specs.declared.transaction.Vote.TheVariants as votes
use Rattle.xid.proofs.Deciding.{tx_self}
use Rattle.stable_record.specs.Facts.{fact_tx}
use Rattle.stable_record.specs.declared.fact.FactKind.TheVariants as stored
use Rattle.protocol.specs.Basics.{Fact}
use Rattle.protocol.specs.declared.states.View.TheVariants as views
use Rattle.safety.specs.Vocabulary.{R, View}
use Rattle.protocol.specs.Facts.{vote_in, is_ended, is_vote_of, is_commit_of, is_abort_of, view, is_prepared_view, is_open_view}
use Rattle.protocol.specs.Managers.{Branch}
use Rattle.protocol.specs.Nodes.{Input}
use Rattle.protocol.specs.Worlds.{view_number, change_of}
use Rattle.protocol.proofs.Manager.Views.{casts_decides, aborts_decides, prepared_shows, view_of}
use Rattle.protocol.proofs.Manager.Effects.{IsManagerFact}
use Rattle.safety.proofs.World.Changes.{change_by, last_is, or_none}
use Rattle.history.specs.Lines.{view_stored, change_stored}

-- one more element
any_then : (p : Fact → Bool) (facts : List Fact) (fact : Fact) → list_any p (facts ++ fact ∷ []) ≡ (list_any p facts || p fact)
any_then p facts fact = list_any-append p facts (fact ∷ []) ∙ ap (λ (b : Bool). list_any p facts || b) (or_none (p fact))

abbrev any_vote : Vote → List Fact → TxParts → Bool
any_vote v facts tx = list_any (is_vote_of tx v) facts

view_then : (facts : List Fact) (fact : Fact) (tx : TxParts) → view (facts ++ fact ∷ []) tx
    ≡ view_of (any_vote votes.Aborted facts tx || is_vote_of tx votes.Aborted fact) (list_any (is_abort_of tx) facts || is_abort_of tx fact)
    (list_any (is_commit_of tx) facts || is_commit_of tx fact) (any_vote votes.Prepared facts tx || is_vote_of tx votes.Prepared fact)
view_then facts fact tx = λ i. view_of (any_then (is_vote_of tx votes.Aborted) facts fact i) (any_then (is_abort_of tx) facts fact i)
    (any_then (is_commit_of tx) facts fact i) (any_then (is_vote_of tx votes.Prepared) facts fact i)

-- neither vote nor outcome is stored
pub record IsNew (facts : List Fact) (tx : TxParts) : Type 0 where
  pub voted_aborted : any_vote votes.Aborted facts tx ≡ false
  pub aborted : list_any (is_abort_of tx) facts ≡ false
  pub committed : list_any (is_commit_of tx) facts ≡ false
  pub voted_prepared : any_vote votes.Prepared facts tx ≡ false

no_vote : (p a : Bool) → is_some (if p then Some votes.Prepared else if a then Some votes.Aborted else None) ≡ false
    → (p ≡ false) × (a ≡ false)
no_vote true a e = absurd (cc (e))
no_vote false true e = absurd (cc (e))
no_vote false false e = (refl, refl)

pub is_new_by : (facts : List Fact) (tx : TxParts) → is_some (vote_in facts tx) ≡ false → is_ended facts tx ≡ false → IsNew facts tx
is_new_by facts tx unvoted unended =
    let vote = no_vote (any_vote votes.Prepared facts tx) (any_vote votes.Aborted facts tx) unvoted in
    let outcome = or_parts (list_any (is_commit_of tx) facts) (list_any (is_abort_of tx) facts) unended in
    record { voted_aborted = vote.1; aborted = outcome.1; committed = outcome.0; voted_prepared = vote.0 }

-- a fact changes the view of its transaction to the one that it leads to
pub record IsViewChange (facts : List Fact) (fact : Fact) : Type 0 where
  pub after : view (facts ++ fact ∷ []) (fact_tx fact) ≡ view_stored fact
  pub differs : (view_number (view facts (fact_tx fact)) == view_number (view_stored fact)) ≡ false

pub new_is_working : (facts : List Fact) (tx : TxParts) → IsNew facts tx → view facts tx ≡ views.Working
new_is_working facts tx new = λ i. view_of (new.voted_aborted i) (new.aborted i) (new.committed i) (new.voted_prepared i)

differs_from : (v w : View) (facts : List Fact) (tx : TxParts) → view facts tx ≡ v → (view_number v == view_number w) ≡ false
    → (view_number (view facts tx) == view_number w) ≡ false
differs_from v w facts tx is e = ap (λ (u : View). view_number u == view_number w) is ∙ e

open_differs : (v : View) → is_open_view v ≡ true → (view_number v == view_number views.Aborted) ≡ false
open_differs views.Working e = refl
open_differs views.Prepared e = refl
open_differs other e = absurd (cc (e))

-- a view that is prepared by the test is Prepared
pub prepared_is : (v : View) → is_prepared_view v ≡ true → v ≡ views.Prepared
prepared_is views.Prepared e = refl
prepared_is other e = absurd (cc (e))

vote_prepared_changes : (facts : List Fact) (tx : TxParts) (fact : Fact) → fact_tx fact ≡ tx → IsNew facts tx
    → (is_vote_of tx votes.Prepared fact ≡ true) → (is_vote_of tx votes.Aborted fact ≡ false) → (is_abort_of tx fact ≡ false)
    → (is_commit_of tx fact ≡ false) → view (facts ++ fact ∷ []) tx ≡ views.Prepared
vote_prepared_changes facts tx fact own new p a b c =
    view_then facts fact tx
    ∙ (λ i. view_of (new.voted_aborted i || a i) (new.aborted i || b i) (new.committed i || c i) (new.voted_prepared i || p i))

-- what a rule stores changes the view
pub changes_view : (rm : ℕ) (facts : List Fact) (branches : List Branch) (input : Input) (fact : Fact)
    → IsManagerFact rm facts branches input fact → IsViewChange facts fact
changes_view rm facts branches input (stored.VotePrepared tx keys) rule =
    let new = is_new_by facts tx rule.1.first.new rule.1.first.unended in
    record {
      after = vote_prepared_changes facts tx (stored.VotePrepared tx keys) refl new (tx_self tx) refl refl refl;
      differs = differs_from views.Working views.Prepared facts tx (new_is_working facts tx new) refl;
    }
changes_view rm facts branches input (stored.VoteAborted tx) rule =
    let new = is_new_by facts tx rule.1.new rule.1.unended in
    record {
      after = view_then facts (stored.VoteAborted tx) tx
          ∙ (λ i. view_of (new.voted_aborted i || tx_self tx i) (new.aborted i || false) (new.committed i || false)
          (new.voted_prepared i || false));
      differs = differs_from views.Working views.Aborted facts tx (new_is_working facts tx new) refl;
    }
changes_view rm facts branches input (stored.Committed tx) rule =
    let h = prepared_shows facts tx rule.prepared in
    let a = false_from_ne_true (any_vote votes.Aborted facts tx) (λ e. h.2 ((casts_decides facts tx votes.Aborted).0 e)) in
    let b = false_from_ne_true (list_any (is_abort_of tx) facts) (λ e. h.3 ((aborts_decides facts tx).0 e)) in
    let c = or_right (list_any (is_commit_of tx) facts) (tx_eq tx tx) (tx_self tx) in
    record {
      after = view_then facts (stored.Committed tx) tx
          ∙ (λ i. view_of (a i || false) (b i || false) (c i) (any_vote votes.Prepared facts tx || false));
      differs = differs_from views.Prepared views.Committed facts tx (prepared_is (view facts tx) rule.prepared) refl;
    }
changes_view rm facts branches input (stored.Aborted tx) rule =
    let b = or_right (any_vote votes.Aborted facts tx || false) (list_any (is_abort_of tx) facts || tx_eq tx tx)
    (or_right (list_any (is_abort_of tx) facts) (tx_eq tx tx) (tx_self tx)) in
    record {
      after = view_then facts (stored.Aborted tx) tx
          ∙ (λ i. if b i then views.Aborted else if list_any (is_commit_of tx) facts || false then views.Committed
          else if any_vote votes.Prepared facts tx || false then views.Prepared else views.Working);
      differs = open_differs (view facts tx) rule.1.opens;
    }
changes_view rm facts branches input fact rule = absurd rule

pub change_said : (rm : ℕ) (facts : List Fact) (fact : Fact) → IsViewChange facts fact
    → change_of (R rm) facts (facts ++ fact ∷ []) ≡ Some (change_stored rm fact)
change_said rm facts fact change =
    ap (option_and_then (change_by rm facts (facts ++ fact ∷ []))) (last_is facts fact)
    ∙ ap (λ (v : View). if view_number (view facts (fact_tx fact)) == view_number v then None
    else Some (record { rm = rm; tx = fact_tx fact; view = v })) change.after
    ∙ ap (λ (b : Bool). if b then None else Some (change_stored rm fact)) change.differs

-- where no fact is stored, none is said
pub none_said : (rm : ℕ) (facts : List Fact) → change_of (R rm) facts facts ≡ None
none_said rm facts = ap (option_and_then (change_by rm facts facts)) (slice_get_past facts (length facts) (omega arith))
