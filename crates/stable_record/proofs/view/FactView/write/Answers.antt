use Rattle.std.proofs.Common.{◌∙◌, ◌+◌, ◌++◌, ◌∷◌, [], length, ap}
use Rattle.wire.specs.Versions.{version_2}
use Rattle.stable_record.specs.declared.entry.EntryKind.{EntryKind}
use Rattle.stable_record.specs.Grammar.{frame}
use Rattle.stable_record.proofs.Stated.{framed}
use Rattle.stable_record.proofs.view.FactView.write.Goals as goal

pub returns-clause-ok : goal.returns-clause-ok
returns-clause-ok c =
    framed c.args.out.now.items c.put_number.new.out.items c.extend_from_slice.new.self.items c.extend_from_slice-2.new.self.items
    c.put_rest.new.out.items (2 + length c.as_bytes-tx.result.now + c.len_of.result) c.self.inside.tx c.as_bytes-tx.result.now
    c.self.inside.rest c.as_bytes-tx.ensures.value (ap (λ n. 2 + length c.as_bytes-tx.result.now + n) c.len_of.ensures.len)
    c.in_ok-put_number.ensures
    (c.in_ok-extend_from_slice.ensures.items ∙ ap (λ n. c.put_number.new.out.items ++ version_2.byte ∷ n ∷ []) c.code_of.ensures)
    c.in_ok-extend_from_slice-2.ensures.items c.in_ok-put_rest.ensures
    ∙ ap (λ f. c.args.out.now.items ++ frame version_2 (EntryKind.Fact f)) c.self.view_is
