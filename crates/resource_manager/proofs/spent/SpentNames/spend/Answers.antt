use Rattle.std.proofs.Common.{◌≡◌, ◌<◌, ◌||◌, sym, subst}
use Rattle.xid.specs.Names.{XidParts, xid_eq}
use Rattle.indexmap.specs.IndexSet.{spare}
use Rattle.resource_manager.specs.SpentNames.{is_spent_in}
use Rattle.resource_manager.proofs.Spending.{on_ok, spends}
use Rattle.resource_manager.proofs.spent.SpentNames.spend.Goals as goal

pub returns : goal.returns
returns c =
    subst
    (λ old. (x : XidParts) → is_spent_in (record { names = c.insert.new.self.keys; room = spare c.insert.new.self }) x
    ≡ (xid_eq x c.args.xid.now || is_spent_in old x)) c.self.view_is
    (spends c.self.inside.names.keys c.insert.new.self.keys c.args.xid.now
    (on_ok c.insert.result _ (c.insert.ensures.succeeds (subst (λ old. 0 < old.room) (sym c.self.view_is) c.requires))
    c.insert.ensures.updates).0)
