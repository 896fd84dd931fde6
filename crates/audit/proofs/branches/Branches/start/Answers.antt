use Rattle.std.proofs.Common.{◌∙◌, ◌==◌, ◌&&◌, cond, Some}
use Rattle.xid.specs.Names.{xid_eq}
use Rattle.audit.specs.Books.{stretch_of}
use Rattle.audit.proofs.branches.Branches.start.Goals as goal

pub returns-clause-ok : goal.returns-clause-ok
returns-clause-ok c = λ r y.
    c.in_ok-insert.ensures.updates.0 (record { rm = r; xid = y })
    ∙ (λ j. cond ((c.args.rm == r) && xid_eq c.args.xid.now y) (Some (c.new.ensures j)) (stretch_of (c.self.view_is j) r y))
