use Rattle.std.proofs.Common.{◌∙◌, ◌++◌, ℕ, List, ap, decimal, sym}
use Rattle.std.proofs.lemmas.Bool.{true≢false}
use Rattle.xid.specs.Transactions.{BranchParts}
use Rattle.wire.proofs.Spelled.{some_same}
use Rattle.net_script.proofs.SpelledText.{branch_of_parts, branch_written, no_name, no_number}
use Rattle.net_script.proofs.written.put_branch.Goals as goal

pub unreachable-requires : goal.unreachable-requires
unreachable-requires c = true≢false (sym c.requires ∙ no_number c.args.bytes.now c.in_default.ensures)

pub unreachable-requires-in_default-take_component : goal.unreachable-requires-in_default-take_component
unreachable-requires-in_default-take_component c =
    true≢false
    (sym c.requires
    ∙ no_name c.args.bytes.now c.in-Some.rest.now c.in-Some.rm c.in-Some.ensures c.in_default-take_component.ensures.value)

pub returns-clause-ok : goal.returns-clause-ok
returns-clause-ok c = λ branch after there.
    let same =
    some_same _ _
    (sym
    (branch_of_parts c.args.bytes.now c.in-Some.rest.now c.in-Some-take_component.rest.now c.in-Some-take_component.bqual.now c.in-Some.rm
    c.in-Some.ensures c.in-Some-take_component.ensures.value)
    ∙ there) in (
      ap (λ (x : BranchParts × List ℕ). x.1) same,
      branch_written branch (ap (λ (x : BranchParts × List ℕ). x.0) same) c.args.out.now.items c.put_number.new.out.items
          c.push.new.self.items c.put_hex.new.out.items
          (c.in_ok-put_number.ensures.ok ∙ ap (λ (n : ℕ). c.args.out.now.items ++ decimal n) c.from.ensures) c.in_ok-push.ensures.items
          c.in_ok-put_hex.ensures.ok,
    )
