use Rattle.std.proofs.Common.{◌≡◌, ◌∙◌, ◌+◌, ℕ, refl, subst, arith}
use Rattle.serving.specs.Taking.{HearsRange}
use Rattle.serving.proofs.RangeLemmas.{range_join, range_none}
use Rattle.serving.proofs.UntoldLemmas.{untold_both, untold_none}
use Rattle.serving.proofs.clients.Clients.take_range.Goals as goal

pub loop-key-init : goal.loop-key-init
loop-key-init c = record {
  heard = range_none c.args.terms.now c.args.from c.args.self.now.seats c.args.items.now.items;
  untold = untold_none c.args.self.now.seats;
  count = refl;
}

pub loop-key-preserved : goal.loop-key-preserved
loop-key-preserved c = record {
  heard = range_join c.args.terms.now c.args.from c.loop-key.key (c.loop-key.key + 1) c.args.self.now.seats c.loop-key.self.seats
      c.take_at.new.self.seats c.args.items.now.items c.loop-key.items.items c.take_at.new.items.items (omega arith) (omega arith)
      c.loop-key.invariant.heard c.in_ok-take_at.ensures.ok;
  untold = untold_both c.args.self.now.seats c.loop-key.self.seats c.take_at.new.self.seats c.loop-key.invariant.untold
      c.take_at.ensures.untold;
  count = c.take_at.ensures.count ∙ c.loop-key.invariant.count;
}

pub returns-in_err-take_at-clause-untold : goal.returns-in_err-take_at-clause-untold
returns-in_err-take_at-clause-untold c =
    untold_both c.args.self.now.seats c.loop-key.self.seats c.take_at.new.self.seats c.loop-key.invariant.untold c.take_at.ensures.untold

pub returns-clause-ok : goal.returns-clause-ok
returns-clause-ok c =
    let all : c.loop-key.key ≡ c.args.to = omega arith in
    subst (λ (to : ℕ). HearsRange c.args.terms.now c.args.from to c.args.self.now.seats c.loop-key.self.seats c.args.items.now.items
    c.loop-key.items.items) all c.loop-key.invariant.heard
