use Rattle.std.proofs.Common.{◌<◌, length, sym, subst, arith}
use Rattle.std.specs.Option.{IfSome}
use Rattle.audit.proofs.stretch.Stretch.own_act.Goals as goal

pub index-requires : goal.index-requires
index-requires c =
    let within : c.in-Some.place.now < length c.self.inside.writes.items =
    subst (λ o. IfSome o (λ n. n < length c.self.inside.writes.items)) (sym c.in-Some.ensures.value)
    (c.self.invariant.within c.args.key.now) in
    omega (arith, within, c.self.inside.writes.ok.0)
