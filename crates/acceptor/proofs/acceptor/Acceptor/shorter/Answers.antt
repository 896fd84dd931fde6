use Rattle.std.proofs.Common.{refl, subst}
use Rattle.std.proofs.lemmas.List.Elements.{recursion_from_All}
use Rattle.std.proofs.lemmas.Result.{IfOk-weaker}
use Rattle.xid.specs.Transactions.{IsTx}
use Rattle.transactions.specs.Seen.{at_places}
use Rattle.transactions.proofs.Places.{at_places_valid}
use Rattle.acceptor.specs.Compaction.{AreShorterFrames, compacted}
use Rattle.acceptor.specs.SlotTables.{slot_in}
use Rattle.acceptor.specs.contracts.acceptor.Acceptor.{the_view}
use Rattle.acceptor.proofs.Compacting.{is_compacted}
use Rattle.acceptor.proofs.acceptor.Acceptor.shorter.Goals as goal

pub returns-clause-ok : goal.returns-clause-ok
returns-clause-ok c =
    let table = c.self.inside.table in
    let kept = compacted (at_places table.transactions c.self.inside.begun.numbers) (slot_in table) in
    IfOk-weaker c.frames.result _ _ (λ frames written.
    subst (λ a. AreShorterFrames a frames.items) c.self.view_is
    (record {
      kept = kept;
      written = written;
      compacts = is_compacted (the_view c.self.inside) kept c.frames.ensures.table
          (at_places_valid table.transactions c.self.inside.begun.numbers c.self.invariant.2
          (recursion_from_All IsTx table.transactions c.frames.ensures.valid)) refl;
    }))
    c.frames.ensures.ok
