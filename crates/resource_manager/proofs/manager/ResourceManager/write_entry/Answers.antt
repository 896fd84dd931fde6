use Rattle.std.proofs.Common.{◌∙◌, sym, ap}
use Rattle.std.specs.Option.{option_map}
use Rattle.stable_record.specs.Views.{entry_seen}
use Rattle.resource_manager.specs.Compacted.{entry_at}
use Rattle.resource_manager.proofs.Frames.{given_written}
use Rattle.resource_manager.proofs.manager.ResourceManager.write_entry.Goals as goal

pub returns-in-Some-clause-ok : goal.returns-in-Some-clause-ok
returns-in-Some-clause-ok c =
    given_written c.write.result c.args.frames.now.items c.write.new.out.items (entry_seen c.in-Some.entry)
    (entry_at c.args.self.now c.args.tx) (ap (option_map entry_seen) (sym c.in-Some.is) ∙ c.in_ok-entry.ensures.ok) c.write.ensures.valid
    c.write.ensures.ok
