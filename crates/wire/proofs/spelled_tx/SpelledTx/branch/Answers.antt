use Rattle.std.proofs.Common.{◌≡◌, ◌<◌, ◌∙◌, ap, pos, refl, sym, subst, w64, FitsSigned, rules, arith, [], length, Some}
use Rattle.std.specs.Option.{option_map}
use Rattle.std.proofs.Math.Facts.{to_z-of_z}
use Rattle.xid.specs.Names.{IsComponent}
use Rattle.xid.specs.Transactions.{BranchParts, xid_of}
use Rattle.wire.proofs.Walks.{found, not_found}
use Rattle.wire.proofs.spelled_tx.SpelledTx.branch.Goals as goal

abbrev blank : BranchParts
blank = record { rm = 0; bqual = [] }

pub returns-then-place-count-clause-value : goal.returns-then-place-count-clause-value
returns-then-place-count-clause-value c =
    sym (ap (option_map (xid_of c.args.self.now)) (not_found c.args.self.now.branches c.args.rm c.place_of-place.result
    c.place_of-place.ensures.value (omega (arith, c.if-place-count.true, c.count.ensures.value))))

pub unreachable-requires : goal.unreachable-requires
unreachable-requires c =
    let tx = c.args.self.now in
    let lt : c.place_of-place.result < length tx.branches = omega (arith, c.if-place-count.false, c.count.ensures.value) in
    let named = subst IsComponent (sym c.nth.ensures.bqual) (c.nth.ensures.valid.branches.each c.place_of-place.result blank lt).bqual in
    let fits : FitsSigned w64 c.from.result = search rules in
    c.in_default.ensures.err.1
    (record { format = tx.format; gtrid = tx.gtrid; bqual = c.nth.result.1.now })
    (record { format = c.format.ensures.valid.format; gtrid = c.format.ensures.valid.gtrid; bqual = named })
    (to_z-of_z fits ∙ c.from.ensures ∙ ap pos c.format.ensures.value) (sym c.gtrid.ensures.value) refl

pub returns-clause-value : goal.returns-clause-value
returns-clause-value c =
    let tx = c.args.self.now in
    let lt : c.place_of-place.result < length tx.branches = omega (arith, c.if-place-count.false, c.count.ensures.value) in
    let fits : FitsSigned w64 c.from.result = search rules in
    let xid = c.in-Ok.xid in
    let ok = c.in-Ok.ensures.ok in
    let signed : pos xid.format ≡ pos tx.format = sym ok.1 ∙ to_z-of_z fits ∙ c.from.ensures ∙ ap pos c.format.ensures.value in
    let format : xid.format ≡ tx.format = cc (signed) in
    let gtrid = ok.2 ∙ c.gtrid.ensures.value in
    let bqual = ok.3 ∙ c.nth.ensures.bqual in
    (λ j. Some (record { format = format j; gtrid = gtrid j; bqual = bqual j }))
    ∙ sym (ap (option_map (xid_of tx)) (found tx.branches c.args.rm c.place_of-place.result blank c.place_of-place.ensures.value lt))
