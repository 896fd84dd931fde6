use Rattle.std.proofs.Common.{subst}
use Rattle.std.proofs.lemmas.Result.{on_ok_weaker}
use Rattle.serving.specs.declared.branches.Branches.{Branches}
use Rattle.node_process.specs.Noting.{NotesCall}
use Rattle.node_process.proofs.notes.Notes.note_input.Goals as goal

pub returns : goal.returns
returns c =
    let item = c.args.item.now in
    on_ok_weaker c.note_work.result (λ call. record {
      mid = c.note_now.new.self.branches;
      forgets = c.in_ok-note_now.ensures;
      call = subst (λ (known : Branches).
          NotesCall item.origin item.work c.args.out.now.reply c.args.now known c.note_work.new.self.branches)
          c.in_ok-note_outcome.ensures call;
    }) c.note_work.ensures
