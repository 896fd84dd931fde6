use Rattle.std.proofs.Common.{ℕ, sym, subst}
use Rattle.serving.specs.Shortenings.{IsMarked}
use Rattle.node_process.proofs.process.Process.shorten.Goals as goal

pub returns-clause-due : goal.returns-clause-due
returns-clause-due g c due =
    subst (λ (len : ℕ). IsMarked c.args.self.now.desk.counts.record len c.note_shorter.new.self.shortening.mark)
    (sym c.note_shorter.ensures.known) c.note_shorter.ensures.marked
