use Rattle.std.proofs.Common.{◌≡◌, ◌∙◌, List, take, sym, ap, subst, arith}
use Rattle.std.specs.Prelude.{Bool, filter}
use Rattle.std.specs.List.{IsDistinct}
use Rattle.std.proofs.lemmas.List.{take_all}
use Rattle.xid.specs.Names.{XidParts, xid_eq}
use Rattle.serving.specs.Noted.{is_active_of, is_known_as, AreNames}
use Rattle.serving.specs.ByNumber.{under}
use Rattle.serving.proofs.BranchLemmas.{known_started, names_filter}
use Rattle.serving.proofs.branches.Branches.active_of.Goals as goal

pub returns : goal.returns
returns c =
    let old = c.args.self.now in
    let names : List XidParts = under old.started c.args.client in
    let test : XidParts → Bool = is_known_as (is_active_of c.args.client) old in
    let is = c.under-names.ensures.names in
    let all : take c.loop-xid.xid-index names ≡ names =
    subst (λ (list : List XidParts). take c.loop-xid.xid-index list ≡ list) is
    (take_all c.loop-xid.xid-index c.under-names.result.now (omega arith)) in
    subst (AreNames test) (sym (c.loop-xid.invariant ∙ ap (filter test) all))
    (names_filter test names (subst (IsDistinct xid_eq) is c.under-names.ensures.unique)
    (λ x. known_started old c.args.client x old.found))
