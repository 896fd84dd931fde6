use Rattle.node_core.proofs.Current.{rewritten_by}
use Rattle.node_core.proofs.migrating.migrate.Goals as goal

pub returns-in-Ok-entry_frames : goal.returns-in-Ok-entry_frames
returns-in-Ok-entry_frames g c =
    rewritten_by (g.R.Record.held c.args.device.now) (g.R.Record.held c.replace.new.device) c.args.bytes.now c.requires c.in-Ok.read.0.items
    c.deref.result.now _ c.in-Ok-entry_frames.frames.items c.deref-in-Ok-entry_frames.result.now c.replace.result c.in-Ok.ensures.ok.1
    c.deref.ensures.value c.in-Ok-entry_frames.ensures.ok c.deref-in-Ok-entry_frames.ensures.value c.replace.ensures
