-- The value that is computed from reports is the one that the paper takes.
use Rattle.std.proofs.Common.{◌≡◌, inl, inr, ⊎_elim, ℕ, ◌<◌, ◌≤◌, max, Bool, true, false, not, ◌&&◌, if◌then◌else◌, ◌==◌, List}
use Rattle.std.proofs.Common.{[], ◌∷◌, Some, None, is_some, refl, sym, ap, ◌∙◌, subst, arith}
use Rattle.std.specs.List.{list_any, list_all}
use Rattle.std.proofs.lemmas.Bool.{cases_lt, both_ways, and_from, and_parts, or_cases, or_right, or_left, not-true, cases_eq}
use Rattle.std.proofs.lemmas.Bool.{eq-eqb, ne_eqb, not_from_false}
use Rattle.xid.specs.declared.transaction.Vote.{Vote}
use Rattle.xid.specs.declared.transaction.Vote.TheVariants.{Prepared, Aborted}
use Rattle.ballot.specs.Greatest.{IsIn}
use Rattle.ballot.proofs.Greatest.{at_most_greatest}
use Rattle.ballot.specs.Choice.{Report, ballot_reported, IsPreparedTop, IsPick, pick, top_of, says_prepared, is_prepared}

-- ---- the top is the greatest ballot reported

pub below_top : (reports : List Report) (last : ℕ × Vote) → IsIn reports (Some last) → last.0 ≤ top_of reports
below_top reports last h = at_most_greatest ballot_reported reports (Some last) last.0 h refl

some_above : (reports : List Report) → 0 < top_of reports → list_any is_some reports ≡ true
some_above [] h = absurd (omega (arith, h))
some_above (None ∷ reports) h = some_above reports h
some_above (Some first ∷ reports) h = refl

pub some_in : (reports : List Report) (last : ℕ × Vote) → IsIn reports (Some last) → list_any is_some reports ≡ true
some_in [] last h = absurd h
some_in (None ∷ reports) last (inl e) = absurd (cc (e))
some_in (None ∷ reports) last (inr h) = some_in reports last h
some_in (Some first ∷ reports) last h = refl

-- a ballot that some report has is the top of them, with its value
pub top_in : (reports : List Report) → list_any is_some reports ≡ true → (v : Vote) × IsIn reports (Some (top_of reports, v))
top_in [] h = absurd (cc (h))
top_in (None ∷ reports) h = let rest = top_in reports h in (rest.0, inr rest.1)
top_in (Some first ∷ reports) h = ⊎_elim
    (λ (above : first.0 < top_of reports).
    let rest = top_in reports (some_above reports (omega (arith, above))) in
    let same : top_of reports ≡ max first.0 (top_of reports) = omega (arith, above) in
    (rest.0, inr (subst (λ (t : ℕ). IsIn reports (Some (t, rest.0))) same rest.1)))
    (λ (below : top_of reports ≤ first.0).
    let same : first.0 ≡ max first.0 (top_of reports) = omega (arith, below) in
    (first.1, inl (ap (λ (t : ℕ). Some (t, first.1)) same)))
    (cases_lt first.0 (top_of reports))

-- ---- what the reports of the top say

prepared_from : (v : Vote) → is_prepared v ≡ true → v ≡ Prepared
prepared_from Prepared h = refl
prepared_from Aborted h = absurd (cc (h))

-- a report of the top that says prepared has that value
pub says_top : (t : ℕ) (v : Vote) → says_prepared t (Some (t, v)) ≡ true → v ≡ Prepared
says_top t v h = ⊎_elim
    (λ (e : not (t == t) ≡ true). absurd (both_ways (t == t) (not-true (t == t) e) (eq-eqb t t refl)))
    (λ (e : is_prepared v ≡ true). prepared_from v e)
    (or_cases (not (t == t)) (is_prepared v) h)

says_from : (t : ℕ) (last : ℕ × Vote) → (last.0 ≡ t → last.1 ≡ Prepared) → says_prepared t (Some last) ≡ true
says_from t last h = ⊎_elim
    (λ (e : last.0 ≡ t). or_right (not (last.0 == t)) (is_prepared last.1) (ap is_prepared (h e)))
    (λ (n : last.0 ≡ t → ⊥). or_left (not (last.0 == t)) (is_prepared last.1) (not_from_false (last.0 == t) (ne_eqb last.0 t n)))
    (cases_eq last.0 t)

pub says_each : (t : ℕ) (reports : List Report) → list_all (says_prepared t) reports ≡ true → (r : Report) → IsIn reports r
    → says_prepared t r ≡ true
says_each t [] h r is = absurd is
says_each t (first ∷ reports) h r (inl e) =
    subst (λ (s : Report). says_prepared t s ≡ true) e (and_parts (says_prepared t first) (list_all (says_prepared t) reports) h).0
says_each t (first ∷ reports) h r (inr is) =
    says_each t reports (and_parts (says_prepared t first) (list_all (says_prepared t) reports) h).1 r is

each_says : (t : ℕ) (reports : List Report) → ((r : Report) → IsIn reports r → says_prepared t r ≡ true)
    → list_all (says_prepared t) reports ≡ true
each_says t [] h = refl
each_says t (first ∷ reports) h =
    and_from (says_prepared t first) (list_all (says_prepared t) reports) (h first (inl refl)) (each_says t reports (λ r is. h r (inr is)))

-- where all reports of the greatest ballot say prepared, each report does
says_of : (reports : List Report) (p : IsPreparedTop reports) → p.top ≡ top_of reports → (r : Report) → IsIn reports r
    → says_prepared (top_of reports) r ≡ true
says_of reports p same None is = refl
says_of reports p same (Some last) is = says_from (top_of reports) last
    (λ e. p.prepared last.1 (subst (λ (t : ℕ). IsIn reports (Some (t, last.1))) (e ∙ sym same) is))

top_same : (reports : List Report) (p : IsPreparedTop reports) → list_any is_some reports ≡ true → p.top ≡ top_of reports
top_same reports p e =
    let high : p.top ≤ top_of reports = below_top reports (p.top, p.is_top.value) p.is_top.reported in
    let low : top_of reports ≤ p.top = p.is_top.greatest (top_of reports, (top_in reports e).0) (top_in reports e).1 in
    omega (arith, high, low)

pick_from : (reports : List Report) (a b : Bool) → list_any is_some reports ≡ a → list_all (says_prepared (top_of reports)) reports ≡ b
    → IsPick reports (if a && b then Prepared else Aborted)
pick_from reports true true e f = record {
  top = top_of reports;
  is_top = record { value = (top_in reports e).0; reported = (top_in reports e).1; greatest = below_top reports };
  prepared = λ v h. says_top (top_of reports) v (says_each (top_of reports) reports f (Some (top_of reports, v)) h);
}
pick_from reports true false e f = λ p.
    both_ways (list_all (says_prepared (top_of reports)) reports) f
    (each_says (top_of reports) reports (says_of reports p (top_same reports p e)))
pick_from reports false b e f = λ p. both_ways (list_any is_some reports) e (some_in reports (p.top, p.is_top.value) p.is_top.reported)

pub pick_is : (reports : List Report) → IsPick reports (pick reports)
pick_is reports = pick_from reports (list_any is_some reports) (list_all (says_prepared (top_of reports)) reports) refl refl
