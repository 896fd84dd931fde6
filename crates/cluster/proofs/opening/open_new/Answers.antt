use Rattle.std.proofs.Common.{◌∙◌, sym}
use Rattle.std.specs.Vec.{vec_len}
use Rattle.cluster.proofs.Opened.{no_bytes, begun, unbegun}
use Rattle.cluster.proofs.opening.open_new.Goals as goal

pub returns-in-Ok-open-clause-ok : goal.returns-in-Ok-open-clause-ok
returns-in-Ok-open-clause-ok g c =
    begun c.args.config.now c.args.who (g.R.Record.held c.args.device) (g.R.Record.held c.read.new.self) c.in-Ok-open.node
    c.in-Ok.ensures.step
    (sym c.in-Ok.ensures.bytes ∙ no_bytes c.in-Ok.bytes.items (vec_len c.in-Ok.bytes) c.in-Ok.bytes.ok.0 (sym c.if-not-is_empty.ensures))
    c.in-Ok-open.ensures.ok

pub returns-clause-err : goal.returns-clause-err
returns-clause-err g c =
    unbegun c.args.config.now c.args.who (g.R.Record.held c.args.device) (g.R.Record.held c.read.new.self)
    (g.R.Record.held c.in-Err-open.field-0-0) c.in-Err-open.refusal c.in-Ok.ensures.step
    (sym c.in-Ok.ensures.bytes ∙ no_bytes c.in-Ok.bytes.items (vec_len c.in-Ok.bytes) c.in-Ok.bytes.ok.0 (sym c.if-not-is_empty.ensures))
    c.requires c.in-Err-open.ensures.err
