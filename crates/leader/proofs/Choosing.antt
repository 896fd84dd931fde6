-- The value to propose is that of the greatest report.
-- Needed by Proposing.
use Rattle.std.proofs.Common.{◌≡◌, ◌∙◌, ℕ, ◌<◌, max, Bool, true, false, not, ◌&&◌, ◌||◌, List, [], ◌∷◌, Some, None, sym, ap, refl, arith}
use Rattle.std.proofs.Common.{subst}
use Rattle.std.specs.Prelude.{is_some, nat_lt, if◌then◌else◌}
use Rattle.std.specs.List.{list_any, list_all}
use Rattle.std.proofs.lemmas.Bool.{ltb-true, ltb-false, ne_eqb}
use Rattle.xid.specs.declared.transaction.Vote.{Vote}
use Rattle.xid.specs.declared.transaction.Vote.TheVariants.{Prepared, Aborted}
use Rattle.ballot.specs.Choice.{Report, pick, top_of, says_prepared, is_prepared}
use Rattle.leader.specs.Choices.{merged, both, best_of, vote_of}
use Rattle.leader.proofs.Basics.{nat_self}

-- what a report is, as the best of some
pub record IsBest (last : ℕ × Vote) (reports : List Report) : Type 0 where
  pub some : list_any is_some reports ≡ true
  pub top : top_of reports ≡ last.0
  pub prepared : list_all (says_prepared last.0) reports ≡ is_prepared last.1
  pub above : (b : ℕ) → last.0 < b → list_all (says_prepared b) reports ≡ true

pub record IsNone (reports : List Report) : Type 0 where
  pub none : list_any is_some reports ≡ false
  pub top : top_of reports ≡ 0
  pub all : (b : ℕ) → list_all (says_prepared b) reports ≡ true

abbrev BestOf : Report → List Report → Type 0
BestOf None reports = IsNone reports
BestOf (Some last) reports = IsBest last reports

-- of another ballot
not_said : (b c : ℕ) (v : Vote) → (b ≡ c → ⊥) → says_prepared c (Some (b, v)) ≡ true
not_said b c v other = ap (λ t. not t || is_prepared v) (ne_eqb b c other)

said : (b : ℕ) (v : Vote) → says_prepared b (Some (b, v)) ≡ is_prepared v
said b v = ap (λ t. not t || is_prepared v) (nat_self b)

both_prepared : (v w : Vote) → (is_prepared v && is_prepared w) ≡ is_prepared (both v w)
both_prepared Prepared w = refl
both_prepared Aborted w = refl

-- a first report
first : (last : ℕ × Vote) (reports : List Report) → IsNone reports → IsBest last (Some last ∷ reports)
first last reports h = record {
  some = refl;
  top = ap (λ n. max last.0 n) h.top ∙ omega arith;
  prepared = ap (λ t. says_prepared last.0 (Some last) && t) (h.all last.0) ∙ and_true (says_prepared last.0 (Some last))
      ∙ said last.0 last.1;
  above = λ b lt. ap (λ t. t && list_all (says_prepared b) reports) (not_said last.0 b last.1 (λ e. omega (arith, e))) ∙ h.all b;
}
  where
    and_true : (t : Bool) → (t && true) ≡ t
    and_true true = refl
    and_true false = refl

-- a greater one
greater : (new last : ℕ × Vote) (reports : List Report) → last.0 < new.0 → IsBest last reports → IsBest new (Some new ∷ reports)
greater new last reports lt h = record {
  some = refl;
  top = ap (λ n. max new.0 n) h.top ∙ omega arith;
  prepared = ap (λ t. says_prepared new.0 (Some new) && t) (h.above new.0 lt) ∙ and_true (says_prepared new.0 (Some new))
      ∙ said new.0 new.1;
  above = λ b more. ap (λ t. t && list_all (says_prepared b) reports) (not_said new.0 b new.1 (λ e. omega (arith, e)))
      ∙ h.above b (omega (arith, lt, more));
}
  where
    and_true : (t : Bool) → (t && true) ≡ t
    and_true true = refl
    and_true false = refl

-- a lower one
lower : (new last : ℕ × Vote) (reports : List Report) → new.0 < last.0 → IsBest last reports → IsBest last (Some new ∷ reports)
lower new last reports lt h = record {
  some = refl;
  top = ap (λ n. max new.0 n) h.top ∙ omega arith;
  prepared = ap (λ t. t && list_all (says_prepared last.0) reports) (not_said new.0 last.0 new.1 (λ e. omega (arith, e))) ∙ h.prepared;
  above = λ b more. ap (λ t. t && list_all (says_prepared b) reports) (not_said new.0 b new.1 (λ e. omega (arith, e, more)))
      ∙ h.above b more;
}

-- one of the same ballot
equal : (b : ℕ) (v w : Vote) (reports : List Report) → IsBest (b, w) reports → IsBest (b, both v w) (Some (b, v) ∷ reports)
equal b v w reports h = record {
  some = refl;
  top = ap (λ n. max b n) h.top ∙ omega arith;
  prepared = ap (λ t. t && list_all (says_prepared b) reports) (said b v) ∙ ap (λ t. is_prepared v && t) h.prepared ∙ both_prepared v w;
  above = λ c more. ap (λ t. t && list_all (says_prepared c) reports) (not_said b c v (λ e. omega (arith, e, more))) ∙ h.above c more;
}

-- a report of equal number
equal_number : (b c : ℕ) (v w : Vote) (reports : List Report) → b ≡ c → IsBest (c, w) reports → IsBest (c, both v w) (Some (b, v) ∷ reports)
equal_number b c v w reports e h =
    let P : ℕ → Type 0 = λ n. IsBest (c, both v w) (Some (n, v) ∷ reports) in subst P (sym e) (equal c v w reports h)

best_some : (new last : ℕ × Vote) (reports : List Report) (t u : Bool) → nat_lt last.0 new.0 ≡ t → nat_lt new.0 last.0 ≡ u
    → IsBest last reports
    → BestOf (if t then Some new else if u then Some last else Some (last.0, both new.1 last.1)) (Some new ∷ reports)
best_some new last reports true u e f h = greater new last reports (ltb-true last.0 new.0 e) h
best_some new last reports false true e f h = lower new last reports (ltb-true new.0 last.0 f) h
best_some new last reports false false e f h =
    equal_number new.0 last.0 new.1 last.1 reports (omega (arith, ltb-false last.0 new.0 e, ltb-false new.0 last.0 f)) h

best_step : (report before : Report) (reports : List Report) → BestOf before reports → BestOf (merged report before) (report ∷ reports)
best_step None None reports h = record { none = h.none; top = h.top; all = λ b. h.all b }
best_step None (Some last) reports h = record { some = h.some; top = h.top; prepared = h.prepared; above = λ b more. h.above b more }
best_step (Some new) None reports h = first new reports h
best_step (Some new) (Some last) reports h = best_some new last reports (nat_lt last.0 new.0) (nat_lt new.0 last.0) refl refl h

is_best : (reports : List Report) → BestOf (best_of reports) reports
is_best [] = record { none = refl; top = refl; all = λ b. refl }
is_best (report ∷ reports) = best_step report (best_of reports) reports (is_best reports)

by_vote : (v : Vote) → (if is_prepared v then Prepared else Aborted) ≡ v
by_vote Prepared = refl
by_vote Aborted = refl

picks : (best : Report) (reports : List Report) → BestOf best reports → pick reports ≡ vote_of best
picks None reports h = ap (λ t. if t && list_all (says_prepared (top_of reports)) reports then Prepared else Aborted) h.none
picks (Some last) reports h =
    ap (λ t. if t && list_all (says_prepared (top_of reports)) reports then Prepared else Aborted) h.some
    ∙ ap (λ n. if list_all (says_prepared n) reports then Prepared else Aborted) h.top
    ∙ ap (λ t. if t then Prepared else Aborted) h.prepared ∙ by_vote last.1

-- the paper's choice is the vote of the best report
pub pick_is_best : (reports : List Report) → pick reports ≡ vote_of (best_of reports)
pick_is_best reports = picks (best_of reports) reports (is_best reports)
