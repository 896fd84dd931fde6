use Rattle.std.proofs.Common.{◌≡◌, ◌∙◌, List, ℕ, ◌++◌, Option, sym, ap, subst}
use Rattle.std.proofs.Math.Facts.{Fits-lt-pow}
use Rattle.xid.specs.Names.{IsBytes}
use Rattle.xid.specs.Places.{Place}
use Rattle.stable_record.specs.Held.{HasPut}
use Rattle.stable_record.specs.Floors.{front_of}
use Rattle.stable_record.proofs.Known.{put_fronted}
use Rattle.stable_record.proofs.behind.BehindRecord.replace.Goals as goal

pub invariant_of-self : goal.invariant_of-self
invariant_of-self g c =
    let inside = c.self.inside in
    let front = front_of inside.floor in
    let old = g.R.Record.held inside.device in
    let new = g.R.Record.held c.replace.new.self in
    let made : c.in_ok-all-in-Some.all.items ≡ front ++ c.args.bytes.now =
    c.in_ok-all-in-Some.ensures.all ∙ ap (λ (floor : Option Place). front_of floor ++ c.args.bytes.now) (sym c.in-Some.is) in
    put_fronted inside.floor old new c.replace.result inside.is_known c.args.bytes.now c.if-not-self.false c.self.invariant
    (subst IsBytes made c.in_ok-all-in-Some.ensures.are_bytes)
    (subst (λ (xs : List ℕ). HasPut xs old new c.replace.result) (c.deref.ensures.value ∙ made) c.replace.ensures.step)

pub invariant_of-self-in-None : goal.invariant_of-self-in-None
invariant_of-self-in-None g c =
    let inside = c.self.inside in
    let old = g.R.Record.held inside.device in
    let new = g.R.Record.held c.replace-in-None.new.self in
    put_fronted inside.floor old new c.replace-in-None.result inside.is_known c.args.bytes.now c.if-not-self.false
    c.self.invariant
    (subst (λ (floor : Option Place). IsBytes (front_of floor ++ c.args.bytes.now)) (sym c.in-None.is)
    (λ i. Fits-lt-pow (c.type_inv.bytes i)))
    (subst (λ (floor : Option Place). HasPut (front_of floor ++ c.args.bytes.now) old new c.replace-in-None.result) (sym c.in-None.is)
    c.replace-in-None.ensures.step)
