use Rattle.std.proofs.Common.{◌++◌, arith, refl, subst, sym}
use Rattle.std.proofs.lemmas.Option.{get_or_from_slice_get}
use Rattle.transactions.specs.Seen.{at_places}
use Rattle.transactions.proofs.Pieces.{next_put}
use Rattle.stable_record.specs.Written.{AddsFacts}
use Rattle.stable_record.proofs.Written.{more_added}
use Rattle.acceptor.specs.Slots.{slots_of}
use Rattle.acceptor.specs.SlotTables.{slot_in}
use Rattle.acceptor.specs.Compaction.{transaction_facts}
use Rattle.acceptor.proofs.shorter.frames_of.Goals as goal

pub loop-i-preserved : goal.loop-i-preserved
loop-i-preserved c =
    let txs = at_places c.args.table.now.transactions c.args.begun.now.numbers in
    let put = c.loop-i.invariant.put in
    let one = transaction_facts (slot_in c.args.table.now) c.in-Some.tx in
    more_added _ c.loop-i.frames.items c.write_transaction.new.frames.items put one _ _ c.loop-i.invariant.adds
    (subst (λ row. AddsFacts c.loop-i.frames.items c.write_transaction.new.frames.items
    (transaction_facts (slots_of c.in-Some.tx row) c.in-Some.tx)) c.begun_slots.ensures c.in_ok-write_transaction.ensures.ok)
    (next_put (transaction_facts (slot_in c.args.table.now)) txs c.loop-i.i c.in-Some.tx put (put ++ one) _
    (omega (arith, c.loop-i-test.true, c.begun_count-i-end.ensures))
    (get_or_from_slice_get txs c.loop-i.i c.in-Some.tx c.in-Some.tx (sym c.in-Some.ensures)) refl c.loop-i.invariant.left)
