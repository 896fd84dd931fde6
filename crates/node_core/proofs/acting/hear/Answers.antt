use Rattle.std.proofs.Common.{◌≡◌, subst}
use Rattle.std.specs.Prelude.{◌≢◌, IfOk, IfErr}
use Rattle.xid.specs.declared.refusals.Refusal.TheVariants.{BadMessage}
use Rattle.wire.specs.declared.message.Kind.{Kind}
use Rattle.wire.specs.Grammar.{Spells, spelling}
use Rattle.wire.specs.Messages.{IsMessage}
use Rattle.node_core.specs.Storing.{carried}
use Rattle.node_core.proofs.Hearing.{noise_done, outside_done, inside_carries}
use Rattle.node_core.proofs.Sparing.{hears_so, heard_fact}
use Rattle.node_core.proofs.acting.hear.Goals as goal

pub returns-then-not-is_of_cluster-clause-carries : goal.returns-then-not-is_of_cluster-clause-carries
returns-then-not-is_of_cluster-clause-carries g c = λ config facts memory sizes s.
    outside_done config c.args.who facts memory _ c.args.role.now c.args.bytes.now _ c.answer.new.self
    (subst (λ r. IfOk r (λ m. Spells m c.args.bytes.now)) c.in-Ok.is c.view_of.ensures.ok)
    (c.if-not-is_of_cluster.ensures config sizes) c.answer.ensures s

pub returns-else-not-is_of_cluster-clause-carries : goal.returns-else-not-is_of_cluster-clause-carries
returns-else-not-is_of_cluster-clause-carries g c = λ config facts memory sizes s.
    inside_carries config c.args.who facts memory (g.R.Record.held c.args.device.now) c.args.role.now c.args.bytes.now _ _ c.play.new.role
    (carried c.play.result c.play.new.out) (subst (λ r. IfOk r (λ m. Spells m c.args.bytes.now)) c.in-Ok.is c.view_of.ensures.ok)
    (c.if-not-is_of_cluster.ensures config sizes) (c.play.ensures.carries config facts memory s)

pub returns-else-not-is_of_cluster-clause-free : goal.returns-else-not-is_of_cluster-clause-free
returns-else-not-is_of_cluster-clause-free g c = λ is config facts memory sizes s none.
    let spelled : Spells _ c.args.bytes.now = subst (λ r. IfOk r (λ m. Spells m c.args.bytes.now)) c.in-Ok.is c.view_of.ensures.ok in
    c.play.ensures.free (hears_so config c.args.who c.args.role.now facts memory c.args.bytes.now _ spelled s is) config facts memory s
    (heard_fact config c.args.who facts memory c.args.bytes.now _ spelled (c.if-not-is_of_cluster.ensures config sizes) none)

pub returns-in-Err-clause-carries : goal.returns-in-Err-clause-carries
returns-in-Err-clause-carries g c = λ config facts memory sizes s.
    let refused = subst (λ r. IfErr r (λ e. (e ≡ BadMessage) × ((k : Kind) → IsMessage k → c.args.bytes.now ≢ spelling k))) c.in-Err.is
    c.view_of.ensures.err in
    noise_done config c.args.who facts memory _ c.args.role.now c.args.bytes.now c.refuse.new.self refused.1 c.refuse.ensures s
