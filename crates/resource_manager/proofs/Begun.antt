-- The transactions of facts, in the order of their first facts.
-- Needed by Above, Kept, Lengths, Pieces, Same and Standing.
use Rattle.std.proofs.Common.{◌≡◌, ◌∙◌, ℕ, Bool, true, false, not, ◌||◌, cond, List, [], ◌∷◌, ◌++◌, refl, sym, ap, subst, inl, inr}
use Rattle.std.specs.Prelude.{fold}
use Rattle.std.specs.List.{list_any}
use Rattle.std.proofs.lemmas.List.Folds.{list_any-append}
use Rattle.xid.specs.Transactions.{TxParts, tx_eq}
use Rattle.xid.specs.declared.transaction.Vote.{Vote}
use Rattle.xid.proofs.Deciding.{tx_decides}
use Rattle.transactions.proofs.First.{or_false}
use Rattle.ballot.specs.Greatest.{IsIn}
use Rattle.stable_record.specs.declared.fact.FactKind.{FactKind as Fact}
use Rattle.stable_record.specs.Facts.{fact_tx}
use Rattle.transactions.specs.Seen.{seen_with}
use Rattle.protocol.specs.declared.nodes.NodeId.TheVariants.{R}
use Rattle.protocol.specs.Effects.{Config}
use Rattle.protocol.specs.Facts.{is_vote_of, is_commit_of, is_abort_of}
use Rattle.protocol.specs.Managers.{Branch, stored_votes, plays_at_manager}
use Rattle.protocol.specs.Nodes.{all_play}
use Rattle.protocol.proofs.Lists.{any_found, found_any}
use Rattle.protocol.proofs.Manager.Played.{each_played}
use Rattle.resource_manager.specs.declared.course.Course.{Course}
use Rattle.resource_manager.specs.Courses.{Stored, stored_in, stored_by, course_in, begun_in, begun_with, is_new_course}
use Rattle.resource_manager.specs.Managers.{ManagerParts, StandsFor}

-- ---- one more

-- the transactions after one more fact
abbrev pub seen_after : List TxParts → Fact → List TxParts
seen_after seen fact = seen_with seen (fact_tx fact)

fold_push : (seen : List TxParts) (facts : List Fact) (fact : Fact)
    → fold seen_after seen (facts ++ fact ∷ []) ≡ seen_after (fold seen_after seen facts) fact
fold_push seen [] fact = refl
fold_push seen (f ∷ facts) fact = fold_push (seen_after seen f) facts fact

-- with one fact more
pub begun_more : (facts : List Fact) (fact : Fact) → begun_in (facts ++ fact ∷ []) ≡ seen_with (begun_in facts) (fact_tx fact)
begun_more facts fact = fold_push [] facts fact

-- with more facts
pub begun_append : (seen : List TxParts) (facts more : List Fact)
    → fold seen_after seen (facts ++ more) ≡ fold seen_after (fold seen_after seen facts) more
begun_append seen [] more = refl
begun_append seen (f ∷ facts) more = begun_append (seen_after seen f) facts more

-- ---- what passes a test

module _ (q : TxParts → Bool) where
  any_seen : (seen : List TxParts) (tx : TxParts) → list_any q (seen_with seen tx) ≡ (list_any q seen || q tx)
  any_seen seen tx = by (list_any (tx_eq tx) seen) (q tx) refl refl
    where
      by : (t u : Bool) → list_any (tx_eq tx) seen ≡ t → q tx ≡ u → list_any q (cond t seen (seen ++ tx ∷ [])) ≡ (list_any q seen || u)
      by true true e f =
          let found = any_found (tx_eq tx) seen e in
          let there = found_any q seen found.element found.among (ap q (sym ((tx_decides tx found.element).0 found.passes)) ∙ f) in
          there ∙ sym (ap (λ t. t || true) there)
      by true false e f = or_false (list_any q seen)
      by false u e f = list_any-append q seen (tx ∷ []) ∙ ap (λ t. list_any q seen || t) (sym (or_false (q tx)) ∙ f)

  or_after : (a b c d : Bool) → a ≡ (b || c) → (a || d) ≡ (b || (c || d))
  or_after a true c d e = ap (λ t. t || d) e
  or_after a false c d e = ap (λ t. t || d) e

  any_from : (seen : List TxParts) (facts : List Fact)
      → list_any q (fold seen_after seen facts) ≡ (list_any q seen || list_any (λ f. q (fact_tx f)) facts)
  any_from seen [] = or_false (list_any q seen)
  any_from seen (f ∷ facts) =
      any_from (seen_after seen f) facts
      ∙ or_after (list_any q (seen_after seen f)) (list_any q seen) (q (fact_tx f)) (list_any (λ g. q (fact_tx g)) facts)
      (any_seen seen (fact_tx f))

  -- some transaction passes a test where some fact is about one that does
  pub any_begun : (facts : List Fact) → list_any q (begun_in facts) ≡ list_any (λ f. q (fact_tx f)) facts
  any_begun facts = any_from [] facts

-- ---- again

-- those that have come in an order have come in it
tx_push : (seen txs : List TxParts) (tx : TxParts) → fold seen_with seen (txs ++ tx ∷ []) ≡ seen_with (fold seen_with seen txs) tx
tx_push seen [] tx = refl
tx_push seen (t ∷ txs) tx = tx_push (seen_with seen t) txs tx

again_from : (seen : List TxParts) (facts : List Fact) → fold seen_with [] seen ≡ seen
    → fold seen_with [] (fold seen_after seen facts) ≡ fold seen_after seen facts
again_from seen [] same = same
again_from seen (f ∷ facts) same = again_from (seen_after seen f) facts (by (list_any (tx_eq (fact_tx f)) seen) refl)
  where
    by : (t : Bool) → list_any (tx_eq (fact_tx f)) seen ≡ t → fold seen_with [] (seen_after seen f) ≡ seen_after seen f
    by true e =
        let kept : seen_after seen f ≡ seen = ap (λ t. cond t seen (seen ++ fact_tx f ∷ [])) e in
        subst (λ s. fold seen_with [] s ≡ s) (sym kept) same
    by false e =
        let more : seen_after seen f ≡ seen ++ fact_tx f ∷ [] = ap (λ t. cond t seen (seen ++ fact_tx f ∷ [])) e in
        ap (fold seen_with []) more ∙ tx_push [] seen (fact_tx f) ∙ ap (λ s. seen_with s (fact_tx f)) same

-- what has begun once, begins no more
pub begun_again : (facts : List Fact) → fold seen_with [] (begun_in facts) ≡ begun_in facts
begun_again facts = again_from [] facts refl

-- ---- of facts that played those have begun of which something is stored

-- whether something is stored
abbrev pub is_begun : Stored → Bool
is_begun stored = (stored.voted_prepared || stored.voted_aborted) || (stored.committed || stored.aborted)

-- a course has begun where it isn't new
pub begun_course : (c : Course) → is_begun (stored_by c) ≡ not (is_new_course c)
begun_course Course.Working = refl
begun_course Course.Prepared = refl
begun_course Course.VotedAborted = refl
begun_course Course.Committed = refl
begun_course Course.RolledBack = refl
begun_course Course.AbortedUnvoted = refl

-- four tests in another order
pub or_four : (a b c d : Bool) → ((a || b) || (c || d)) ≡ ((a || c) || (b || d))
or_four true b c d = refl
or_four false true true d = refl
or_four false true false d = refl
or_four false false c d = refl

module _ (tx : TxParts) where
  -- what one fact stores
  abbrev tests : Fact → Bool
  tests f = (is_vote_of tx Vote.Prepared f || is_vote_of tx Vote.Aborted f) || (is_commit_of tx f || is_abort_of tx f)

  own_test : (rm : ℕ) (before : List Fact) (f : Fact) → plays_at_manager rm (stored_votes rm before) f ≡ true
      → tx_eq tx (fact_tx f) ≡ tests f
  own_test rm before (Fact.VotePrepared other keys) e = or_false (tx_eq tx other) ∙ or_false (tx_eq tx other || false)
  own_test rm before (Fact.VoteAborted other) e = or_false (tx_eq tx other)
  own_test rm before (Fact.Committed other) e = or_false (tx_eq tx other)
  own_test rm before (Fact.Aborted other) e = refl
  own_test rm before (Fact.Promise other i b) e = absurd (cc (e))
  own_test rm before (Fact.PromiseAll other b) e = absurd (cc (e))
  own_test rm before (Fact.Accept other i b v) e = absurd (cc (e))
  own_test rm before (Fact.Ballot other b) e = absurd (cc (e))

  tests_in : (facts : List Fact) → ((f : Fact) → IsIn facts f → tx_eq tx (fact_tx f) ≡ tests f)
      → list_any (λ f. tx_eq tx (fact_tx f)) facts ≡ is_begun (stored_in facts tx)
  tests_in [] each = refl
  tests_in (f ∷ facts) each =
      let prepared = is_vote_of tx Vote.Prepared f in
      let aborted = is_vote_of tx Vote.Aborted f in
      let committed = is_commit_of tx f in
      let dropped = is_abort_of tx f in
      let rest = stored_in facts tx in
      (λ i. each f (inl refl) i || tests_in facts (λ g h. each g (inr h)) i)
      ∙ or_four (prepared || aborted) (committed || dropped)
      (rest.voted_prepared || rest.voted_aborted) (rest.committed || rest.aborted)
      ∙ (λ i. or_four prepared aborted rest.voted_prepared rest.voted_aborted i
      || or_four committed dropped rest.committed rest.aborted i)

  -- a transaction has begun where something of it is stored
  pub begun_test : (config : Config) (rm : ℕ) (facts : List Fact) → all_play config (R rm) [] facts ≡ true
      → list_any (tx_eq tx) (begun_in facts) ≡ is_begun (stored_in facts tx)
  begun_test config rm facts play =
      any_begun (tx_eq tx) facts
      ∙ tests_in facts (λ f h. let is = each_played config (R rm) [] facts play f h in own_test rm is.before f is.played)

-- ---- the order after one more fact

turned : {X : Type 0} (b : Bool) (x y : X) → cond b x y ≡ cond (not b) y x
turned true x y = refl
turned false x y = refl

-- the courses that have begun, with one fact more
pub begun_then : (config : Config) (number : ℕ) (m : ManagerParts) (facts : List Fact) (branches : List Branch)
    → StandsFor config number m facts branches → (fact : Fact) → begun_with m.courses (fact_tx fact) ≡ begun_in (facts ++ fact ∷ [])
begun_then config number m facts branches stands fact =
    let tx = fact_tx fact in
    let course = course_in m.courses tx in
    let test = begun_test tx config number facts stands.played ∙ ap is_begun (stands.stored_are tx) ∙ begun_course course in
    (λ i. cond (is_new_course course) (stands.begun_are i ++ tx ∷ []) (stands.begun_are i))
    ∙ turned (is_new_course course) (begun_in facts ++ tx ∷ []) (begun_in facts)
    ∙ (λ i. cond (sym test i) (begun_in facts) (begun_in facts ++ tx ∷ [])) ∙ sym (begun_more facts fact)
