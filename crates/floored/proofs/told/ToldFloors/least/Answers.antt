use Rattle.std.proofs.Common.{◌≡◌, ◌∙◌, ℕ, suc, ◌+◌, ◌-◌, ◌<◌, List, length, drop, Option, None, ap, arith}
use Rattle.std.proofs.lemmas.List.{get_or_default}
use Rattle.xid.specs.Places.{Place}
use Rattle.floors.specs.Worlds.{least_of, lower}
use Rattle.floored.proofs.Least.{last_least, least_told_is, more_least, none_least}
use Rattle.floored.proofs.told.ToldFloors.least.Goals.{then-i-eq0, else-i-eq0}
use Rattle.floored.proofs.told.ToldFloors.least.Goals as goal

pub loop-i-init : goal.loop-i-init
loop-i-init c =
    let len : c.len-len.result ≡ length c.self.inside.floors.items = omega (arith, c.len-len.ensures, c.self.inside.floors.ok.0) in
    (len, none_least c.self.inside.floors.items c.len-len.result len)

pub loop-i-preserved : goal.loop-i-preserved
loop-i-preserved c =
    let items : List (Option Place) = c.self.inside.floors.items in
    let len = c.loop-i.invariant.0 in
    let at : ℕ = c.len-len.result - 1 - c.loop-i.i in
    let inside : at < length items = omega (arith, len, c.loop-i-test.true) in
    let next : at ≡ c.len-len.result - (c.loop-i.i + 1) = omega (arith, c.loop-i-test.true) in
    let on = ap (λ (n : ℕ). least_of (drop n items)) next in (
      len,
      elim c.if-i-eq0.branch [
        | then-i-eq0 w ↦
            w.least-is ∙ w.index.ensures ∙ get_or_default items at _ None inside
            ∙ last_least items at inside (omega (arith, len, w.if-i-eq0.true, c.loop-i-test.true)) ∙ on
        | else-i-eq0 w ↦
            let here = w.index-else-i-eq0.ensures ∙ get_or_default items at _ None inside in
            let before : c.len-len.result - c.loop-i.i ≡ suc at = omega (arith, c.loop-i-test.true) in
            let rest = c.loop-i.invariant.1 ∙ ap (λ (n : ℕ). least_of (drop n items)) before in
            w.least-is ∙ w.lower_of-least.ensures ∙ (λ k. lower (here k) (rest k))
            ∙ more_least items at inside (omega (arith, len, w.if-i-eq0.false, c.loop-i-test.true)) ∙ on
      ],
    )

pub returns-clause-least : goal.returns-clause-least
returns-clause-least c =
    let all : c.len-len.result - c.loop-i.i ≡ 0 = omega (arith, c.loop-i-test.false) in
    c.loop-i.invariant.1 ∙ ap (λ (n : ℕ). least_of (drop n c.self.inside.floors.items)) all ∙ ap least_of c.self.view_is

pub returns-clause-told : goal.returns-clause-told
returns-clause-told c = λ config sizes.
    let all : c.len-len.result - c.loop-i.i ≡ 0 = omega (arith, c.loop-i-test.false) in
    c.loop-i.invariant.1 ∙ ap (λ (n : ℕ). least_of (drop n c.self.inside.floors.items)) all ∙ ap least_of c.self.view_is
    ∙ least_told_is c.args.self.now config sizes
