use Rattle.std.proofs.Common.{sym, subst, Bor, List, ℕ, Option}
use Rattle.net_script.proofs.WritingLemmas.{IsWrittenBut, writes_front, writes_nothing}
use Rattle.net_script.proofs.writing.write_text.Goals.{in-Ok, in-Err+else-ne}
use Rattle.net_script.proofs.writing.write_text.Goals as goal

pub loop-preserved : goal.loop-preserved
loop-preserved g c =
    let old : Option (List ℕ) = g.W.Write.contents c.args.out.now in
    let new : Option (List ℕ) = g.W.Write.contents c.write.new.self in
    elim c.match-write.branch [
      | in-Ok w ↦ subst (λ (rest : Bor (List ℕ)). IsWrittenBut old new c.args.text.now rest.now) (sym w.rest-is)
          (writes_front old _ new _ _ w.in-Ok.count c.loop.invariant w.in-Ok.ensures.bytes)
      | in-Err+else-ne w ↦ subst (λ (rest : Bor (List ℕ)). IsWrittenBut old new c.args.text.now rest.now) (sym w.rest-is)
          (writes_nothing old _ new _ _ c.loop.invariant w.in-Err.ensures.bytes)
    ]
