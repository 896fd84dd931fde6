use Rattle.std.proofs.Common.{◌≡◌, ◌∙◌, ◌<◌, ◌≤◌, ℕ, List, length, take, true, sym, ap, subst, arith}
use Rattle.std.specs.Prelude.{Bool, filter}
use Rattle.std.specs.List.{IsDistinct}
use Rattle.std.specs.Set.{is_member}
use Rattle.std.proofs.lemmas.Grind.{common_steps}
use Rattle.std.proofs.lemmas.List.{take_all}
use Rattle.xid.specs.Names.{XidParts, xid_eq}
use Rattle.serving.specs.Noted.{is_known_as, is_untouched, AreNames}
use Rattle.serving.proofs.BranchLemmas.{filter_no, filter_yes, known_timed, names_filter}
use Rattle.serving.proofs.branches.Branches.untouched_since.Goals as goal
use Rattle.serving.proofs.branches.Branches.untouched_since.Goals.{then-is_untouched+in_ok-push, else-is_untouched}

pub loop-xid-preserved : goal.loop-xid-preserved
loop-xid-preserved c =
    let names : List XidParts = c.as_slice-names.result.now in
    let test : XidParts → Bool = is_known_as (is_untouched c.args.since) c.args.self.now in
    let within : c.loop-xid.xid-index < length names = omega arith in
    elim c.if-is_untouched.branch [
      | then-is_untouched+in_ok-push w ↦
          let next = filter_yes test names c.loop-xid.xid-index c.xid-item.result c.loop-xid.found.items within c.xid-item.is
          (sym c.is_untouched.ensures ∙ w.if-is_untouched.true) c.loop-xid.invariant in
          grind (arith, common_steps, next)
      | else-is_untouched w ↦
          let next = filter_no test names c.loop-xid.xid-index c.xid-item.result c.loop-xid.found.items within c.xid-item.is
          (sym c.is_untouched.ensures ∙ w.if-is_untouched.false) c.loop-xid.invariant in
          grind (arith, common_steps, next)
    ]

pub returns : goal.returns
returns c =
    let old = c.args.self.now in
    let names : List XidParts = c.as_slice-names.result.now in
    let test : XidParts → Bool = is_known_as (is_untouched c.args.since) old in
    let is : names ≡ c.in_ok-reached.reached.keys = c.as_slice-names.ensures.keys in
    let all : take c.loop-xid.xid-index names ≡ names = take_all c.loop-xid.xid-index names (omega arith) in
    subst (AreNames test) (sym (c.loop-xid.invariant ∙ ap (filter test) all))
    (names_filter test names (subst (IsDistinct xid_eq) (sym is) c.as_slice-names.ensures.unique)
    (λ x. known_timed old c.args.since names x old.timed
    (λ number y by there. subst (λ (list : List XidParts). is_member xid_eq list y ≡ true) (sym is)
    (c.in_ok-reached.ensures number y (subst (λ (last : ℕ). number ≤ last) (sym c.second_of.ensures) by) there))))
