use Rattle.std.proofs.Common.{◌∙◌, Some, ap, sym, subst}
use Rattle.std.specs.List.{list_all}
use Rattle.xid.specs.Places.{is_below}
use Rattle.stable_record.specs.Facts.{fact_tx}
use Rattle.transactions.proofs.First.{first_all}
use Rattle.leader.specs.Leaders.{LeaderParts, StandsFor}
use Rattle.leader.proofs.leader.Leader.is_unused_above.Goals as goal

pub returns : goal.returns
returns c = λ config number stored memory stands.
    let here = subst (λ (l : LeaderParts). StandsFor config number l stored memory) (sym c.self.view_is) stands in
    c.are_below.ensures ∙ ap (list_all (is_below (Some c.args.floor.now))) here.begun_are
    ∙ first_all fact_tx (is_below (Some c.args.floor.now)) stored
