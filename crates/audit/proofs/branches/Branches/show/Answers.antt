use Rattle.std.proofs.Common.{◌≡◌, ◌∙◌, ◌==◌, ◌&&◌, cond, Some, rules, ap}
use Rattle.std.specs.Option.{option_map, option_copied}
use Rattle.xid.specs.Names.{xid_eq}
use Rattle.audit.specs.Books.{stretch_of, Sets}
use Rattle.audit.specs.Stretches.{with_get}
use Rattle.audit.proofs.BranchLemmas.{on_ok, set_found}
use Rattle.audit.proofs.branches.Branches.show.Goals as goal

pub returns-clause-ok : goal.returns-clause-ok
returns-clause-ok c =
    let rm = c.args.rm in
    let x = c.args.xid.now in
    let v = c.in-Some.stretch.now in
    let w = c.show.new.self in
    let old = c.args.self.now in
    let new = (c.get_mut.follows.lender w).entries in
    let updates = (c.get_mut.follows.holds w).3 (search rules) in
    let change = with_get c.args.key.now (option_copied c.args.found) in
    on_ok c.show.result (w ≡ change v) (Sets old new rm x (option_map change (stretch_of old rm x)))
    (λ is. set_found old new rm x v w change (c.in-Some.ensures.value ∙ ap (λ es. stretch_of es rm x) c.self.view_is) is
    (λ r y. updates.0 (record { rm = r; xid = y })
    ∙ ap (λ es. cond ((rm == r) && xid_eq x y) (Some w) (stretch_of es r y)) c.self.view_is))
    c.show.ensures.ok
