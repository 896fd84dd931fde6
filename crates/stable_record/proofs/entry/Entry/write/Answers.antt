use Rattle.std.proofs.Common.{◌≡◌, ℕ, List, ◌++◌, length, ap, sym, subst, ◌∙◌}
use Rattle.std.specs.Prelude.{OnOk}
use Rattle.wire.specs.Versions.{version_2}
use Rattle.wire.specs.Grammar.{number_spelling}
use Rattle.stable_record.specs.declared.entry.EntryKind.{EntryKind}
use Rattle.stable_record.specs.Entries.{IsEntry}
use Rattle.stable_record.specs.Grammar.{body_spelling}
use Rattle.stable_record.proofs.Lengths.{written_few}
use Rattle.stable_record.proofs.entry.Entry.write.Goals as goal

pub put_framed-requires : goal.put_framed-requires
put_framed-requires c =
    let same = c.deref.ensures.value ∙ c.in_ok-put_body.ensures
    ∙ ap (λ (xs : List ℕ). xs ++ body_spelling version_2 c.kind.result.now) c.room-body.ensures in
    written_few c.kind.result.now c.deref.result.now (subst IsEntry (sym c.kind.ensures.value) c.kind.ensures.valid) same

pub returns-clause-ok : goal.returns-clause-ok
returns-clause-ok c =
    let same = c.deref.ensures.value ∙ c.in_ok-put_body.ensures
    ∙ ap (λ (xs : List ℕ). xs ++ body_spelling version_2 c.kind.result.now) c.room-body.ensures in
    let own : body_spelling version_2 c.kind.result.now ≡ body_spelling version_2 c.args.self.now =
    ap (λ (x : EntryKind). body_spelling version_2 x) c.kind.ensures.value in
    subst (λ (xs : List ℕ). OnOk c.put_framed.result
    (c.put_framed.new.out.items ≡ c.args.out.now.items ++ (number_spelling (length xs) ++ xs)))
    (same ∙ own) c.put_framed.ensures.ok
