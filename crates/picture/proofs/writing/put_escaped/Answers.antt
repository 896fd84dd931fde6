use Rattle.std.proofs.Common.{◌≡◌, true, sym, subst}
use Rattle.std.specs.List.{list_all}
use Rattle.picture.specs.Elements.{is_plain}
use Rattle.picture.proofs.Escaped.{plain_last, plain_more}
use Rattle.picture.proofs.writing.put_escaped.Goals as goal

pub returns-in_default-clause-ok : goal.returns-in_default-clause-ok
returns-in_default-clause-ok c =
    let parts = c.split_at.ensures in
    plain_last c.args.out.now.items c.args.words.now c.loop-rest.out.items c.loop-rest.rest.now c.split_at.result.0.now
    c.split_at.result.1.now (subst (λ xs. list_all is_plain xs ≡ true) (sym parts.front) c.plain_len.ensures.plain) parts.by_index.0
    c.loop-rest.invariant c.extend_from_slice.new.self.items c.in_default.ensures.cases c.in_ok-extend_from_slice.ensures.items

pub loop-rest-preserved : goal.loop-rest-preserved
loop-rest-preserved c =
    let parts = c.split_at.ensures in
    plain_more c.args.out.now.items c.args.words.now c.loop-rest.out.items c.loop-rest.rest.now c.split_at.result.0.now
    c.split_at.result.1.now (subst (λ xs. list_all is_plain xs ≡ true) (sym parts.front) c.plain_len.ensures.plain) parts.by_index.0
    c.loop-rest.invariant c.extend_from_slice.new.self.items c.put_escaped_byte.new.out.items c.in-Some.byte.now c.in-Some.after.now
    c.in-Some.ensures.cases.0 c.in_ok-extend_from_slice.ensures.items c.in_ok-put_escaped_byte.ensures.ok
