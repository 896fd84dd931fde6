use Rattle.std.proofs.Common.{◌∙◌, ◌++◌, ◌<◌, List, [], ℕ, ap, arith, get_or, length}
use Rattle.std.proofs.lemmas.Option.{none-some}
use Rattle.xid.specs.Transactions.{BranchParts, branch_text}
use Rattle.wire.specs.Reading.{byte_at}
use Rattle.wire.proofs.Walks.{next, some_next}
use Rattle.net_script.proofs.TraceLemmas.{kept_behind, kept_so, onward}
use Rattle.net_script.proofs.SpelledText.{begun_more, counted, first_written, name_of, named}
use Rattle.net_script.proofs.written.put_text.Goals as goal

-- what stands for a branch that isn't there
abbrev blank : BranchParts
blank = record { rm = 0; bqual = [] }

pub unreachable-requires : goal.unreachable-requires
unreachable-requires c =
    none-some _ (c.in_default.ensures.value ∙ name_of c.as_bytes.result.now c.args.tx.now c.as_bytes.ensures.valid c.as_bytes.ensures.value)

pub unreachable-requires-in_default-take_byte : goal.unreachable-requires-in_default-take_byte
unreachable-requires-in_default-take_byte c =
    let name =
    named c.as_bytes.result.now c.args.tx.now c.in-Some.format c.in-Some.gtrid.now c.in-Some.rest.now c.as_bytes.ensures.valid
    c.as_bytes.ensures.value c.in-Some.ensures.value in
    none-some _ (c.in_default-take_byte.ensures ∙ ap byte_at name.rest_is)

pub put_branch-requires : goal.put_branch-requires
put_branch-requires c =
    let tx = c.args.tx.now in
    let name =
    named c.as_bytes.result.now tx c.in-Some.format c.in-Some.gtrid.now c.in-Some.rest.now c.as_bytes.ensures.valid
    c.as_bytes.ensures.value c.in-Some.ensures.value in
    let branches = c.in-Some-take_byte.branches.now in
    some_next tx.branches 0 branches c.as_bytes.ensures.valid.branches.each c.as_bytes.ensures.valid.branches.some
    (counted tx.branches c.in-Some.rest.now branches _ name.rest_is c.in-Some-take_byte.ensures)

pub loop-place-init : goal.loop-place-init
loop-place-init c =
    let tx = c.args.tx.now in
    let bs = c.as_bytes.ensures.valid.branches in
    let name =
    named c.as_bytes.result.now tx c.in-Some.format c.in-Some.gtrid.now c.in-Some.rest.now c.as_bytes.ensures.valid
    c.as_bytes.ensures.value c.in-Some.ensures.value in
    let branches = c.in-Some-take_byte.branches.now in
    let took =
    c.in_ok-rest.ensures.ok _ _
    (next tx.branches 0 branches blank bs.each bs.some
    (counted tx.branches c.in-Some.rest.now branches _ name.rest_is c.in-Some-take_byte.ensures)) in
    record {
      left = took.0;
      made =
          first_written tx blank c.args.out.now.items c.put_number.new.out.items c.push.new.self.items c.put_hex.new.out.items
          c.push-2.new.self.items c.put_branch.new.out.items c.in-Some.format c.in-Some.gtrid.now bs.some name.format_is name.gtrid_is
          c.in_ok-put_number.ensures.ok c.in_ok-push.ensures.items c.in_ok-put_hex.ensures.ok c.in_ok-push-2.ensures.items took.1;
    }

pub put_branch-requires-in-loop-place : goal.put_branch-requires-in-loop-place
put_branch-requires-in-loop-place c =
    let within : c.loop-place.place < length c.args.tx.now.branches = omega arith in
    some_next c.args.tx.now.branches c.loop-place.place c.loop-place.rest.now c.as_bytes.ensures.valid.branches.each within
    c.loop-place.invariant.left

pub loop-place-preserved : goal.loop-place-preserved
loop-place-preserved c =
    let tx = c.args.tx.now in
    let place = c.loop-place.place in
    let within : place < length tx.branches = omega arith in
    let some : 0 < place = omega arith in
    let took =
    c.in_ok-rest-2.ensures.ok _ _
    (next tx.branches place c.loop-place.rest.now blank c.as_bytes.ensures.valid.branches.each within c.loop-place.invariant.left) in
    record {
      left = took.0;
      made =
          took.1
          ∙ ap (λ (text : List ℕ). text ++ branch_text (get_or tx.branches place blank)) c.in_ok-push-3.ensures.items
          ∙ begun_more tx place blank c.args.out.now.items c.loop-place.out.items some within c.loop-place.invariant.made;
    }

pub returns-in_err-push-3-clause-kept : goal.returns-in_err-push-3-clause-kept
returns-in_err-push-3-clause-kept c =
    kept_so c.from_residual-in_err-push-3.result c.args.out.now.items c.push-in-loop-place.new.self.items _
    (c.in_err-push-3.ensures.items ∙ c.loop-place.invariant.made)

pub returns-in_err-rest-2-clause-kept : goal.returns-in_err-rest-2-clause-kept
returns-in_err-rest-2-clause-kept c =
    kept_behind c.from_residual-in_err-rest-2.result c.args.out.now.items c.push-in-loop-place.new.self.items
    c.put_branch-in-loop-place.new.out.items _
    (onward c.args.out.now.items c.loop-place.out.items c.push-in-loop-place.new.self.items _ _ c.loop-place.invariant.made
    c.in_ok-push-3.ensures.items)
    c.in_err-rest-2.ensures.kept
