use Rattle.std.proofs.Common.{◌∙◌, List, sym, ap, slice_index_or}
use Rattle.protocol.specs.declared.decisions.Outgoing.{Outgoing}
use Rattle.node_core.proofs.sends.outgoing_of.Goals as goal

pub returns : goal.returns
returns c = sym (ap (λ (all : List Outgoing). slice_index_or all 0 c.get.result) (sym c.put.ensures ∙ c.get.ensures))
