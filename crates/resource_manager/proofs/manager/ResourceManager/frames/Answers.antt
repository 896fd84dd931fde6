use Rattle.std.proofs.Common.{◌∷◌, ◌++◌, [], map, None, Some, refl, sym, ap, ◌∙◌, append-nil}
use Rattle.std.specs.List.{cons_option}
use Rattle.stable_record.specs.declared.entry.EntryKind.TheVariants as entries
use Rattle.resource_manager.specs.Compacted.{entry_at, row_entry}
use Rattle.resource_manager.proofs.Entries.{written_step}
use Rattle.resource_manager.proofs.Frames.{begun_written}
use Rattle.resource_manager.proofs.manager.ResourceManager.frames.Goals as goal

pub loop-number-init : goal.loop-number-init
loop-number-init c =
    begun_written c.args.self.now c.new-frames.result.items c.write-2.new.out.items c.write_rows.new.frames.items c.new.result
    c.deref.result.now c.new-frames.ensures.items c.new.ensures c.in_ok-write.ensures.ok
    (c.deref.ensures.value ∙ c.in_ok-rows.ensures.ok ∙ ap (λ m. m.table.rows) c.self.view_is) c.in_ok-write_rows.ensures.ok

pub loop-number-preserved-in_default : goal.loop-number-preserved-in_default
loop-number-preserved-in_default c = record {
  done = c.loop-number.invariant.done;
  written = c.loop-number.invariant.written;
  are = written_step entry_at c.args.self.now _ c.self.view_is c.begun-number-items.result.now c.loop-number.number-index _ None
      (entries.Snapshot ∷ map row_entry c.args.self.now.table.rows) c.loop-number.invariant.done c.loop-number.invariant.done
      c.loop-number-test.true c.in_default.ensures c.loop-number.invariant.are (sym (append-nil c.loop-number.invariant.done));
}

pub loop-number-preserved : goal.loop-number-preserved
loop-number-preserved c = record {
  done = c.loop-number.invariant.done ++ cons_option (entry_at c.args.self.now c.in-Some.tx) [];
  written = c.in_ok-write_entry.ensures.ok c.loop-number.invariant.done c.loop-number.invariant.written;
  are = written_step entry_at c.args.self.now _ c.self.view_is c.begun-number-items.result.now c.loop-number.number-index _
      (Some c.in-Some.tx) (entries.Snapshot ∷ map row_entry c.args.self.now.table.rows) c.loop-number.invariant.done
      (c.loop-number.invariant.done ++ cons_option (entry_at c.args.self.now c.in-Some.tx) []) c.loop-number-test.true
      c.in-Some.ensures c.loop-number.invariant.are refl;
}
