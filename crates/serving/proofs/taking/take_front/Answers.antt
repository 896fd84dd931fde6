use Rattle.std.proofs.Common.{◌≡◌, [], ◌∷◌, ap, List, refl, sym, subst, ◌∙◌, inl, inr, true, arith, length, length-append}
use Rattle.xid.specs.Text.{lacks}
use Rattle.serving.specs.declared.group.Item.{Item}
use Rattle.serving.specs.Fronts.{IsLong}
use Rattle.serving.specs.Taking.{TakesFree, TakesLine}
use Rattle.serving.proofs.TakeLemmas.{free_more, free_none, front_last, front_taken, TakesFreely}
use Rattle.serving.proofs.taking.take_front.Goals as goal

pub loop-init : goal.loop-init
loop-init c = record {
  taken = free_none c.args.terms.now c.args.origin c.args.bytes.now c.args.items.now.items;
  short = refl;
  many = omega arith;
}

pub returns-in-Last-clause-front : goal.returns-in-Last-clause-front
returns-in-Last-clause-front c =
    let next : TakesLine c.args.terms.now c.args.origin c.loop.left.rest.now c.in-Last.rest.now c.loop.items.items
    c.take_line.new.items.items =
    rw c.in-Last.is at c.in_ok-rest.ensures in
    front_last c.args.terms.now c.args.origin c.args.bytes.now c.loop.left.rest.now c.in-Last.rest.now c.args.items.now.items
    c.loop.items.items c.take_line.new.items.items c.loop.invariant.taken next

pub loop-preserved : goal.loop-preserved
loop-preserved c =
    let next : TakesFree c.args.terms.now c.args.origin c.loop.left.rest.now c.in-More.rest.now c.loop.items.items
    c.take_line.new.items.items =
    rw c.in-More.is at c.in_ok-rest.ensures in record {
      taken = free_more c.args.terms.now c.args.origin c.args.bytes.now c.loop.left.rest.now c.in-More.rest.now c.args.items.now.items
          c.loop.items.items c.take_line.new.items.items c.loop.invariant.taken next;
      short = refl;
      many = omega (arith, ap length next.after_is ∙ length-append c.loop.items.items (next.item ∷ []));
    }

pub returns-in-Nothing-clause-front : goal.returns-in-Nothing-clause-front
returns-in-Nothing-clause-front c =
    let none : (c.take_line.new.items.items ≡ c.loop.items.items) × (lacks 10 c.loop.left.rest.now ≡ true) =
    rw c.in-Nothing.is at c.in_ok-rest.ensures in
    front_taken c.args.terms.now c.args.origin c.args.bytes.now c.loop.left.rest.now c.args.items.now.items c.take_line.new.items.items
    (subst (λ (after : List Item). TakesFreely c.args.terms.now c.args.origin c.args.bytes.now c.loop.left.rest.now c.args.items.now.items
    after) (sym none.0) c.loop.invariant.taken) (λ room. inl none.1)

pub returns-in-TooLong-clause-front : goal.returns-in-TooLong-clause-front
returns-in-TooLong-clause-front c =
    let none : (c.take_line.new.items.items ≡ c.loop.items.items) × IsLong c.loop.left.rest.now =
    rw c.in-TooLong.is at c.in_ok-rest.ensures in
    front_taken c.args.terms.now c.args.origin c.args.bytes.now c.loop.left.rest.now c.args.items.now.items c.take_line.new.items.items
    (subst (λ (after : List Item). TakesFreely c.args.terms.now c.args.origin c.args.bytes.now c.loop.left.rest.now c.args.items.now.items
    after) (sym none.0) c.loop.invariant.taken) (λ room. inr none.1)

pub returns-clause-front : goal.returns-clause-front
returns-clause-front c =
    front_taken c.args.terms.now c.args.origin c.args.bytes.now c.loop.left.rest.now c.args.items.now.items c.loop.items.items
    c.loop.invariant.taken (λ room. absurd (omega (arith, room, c.loop.invariant.many)))
