use Rattle.std.proofs.Common.{◌∙◌, List, ℕ, Bor, Vec, refl, ap, map, take, subst, inl, inr}
use Rattle.std.specs.declared.alloc.Global.{Global}
use Rattle.protocol.specs.declared.answers.Answer.{Answer}
use Rattle.node_core.specs.declared.output.Output.{Output}
use Rattle.serving.specs.Groups.{answers_to, AreTold, AreToldSome}
use Rattle.serving.proofs.TellLemmas.{on_err_all, told_whole}
use Rattle.serving.proofs.UntoldLemmas.{untold_none}
use Rattle.node_process.specs.Noting.{NotesAll}
use Rattle.node_process.proofs.process.Process.answer_all.Goals as goal

pub returns-clause-answers : goal.returns-clause-answers
returns-clause-answers g c =
    let items = c.args.items.now in
    let before = c.args.self.now.desk.clients.seats in
    let after = c.tell_all.new.self.seats in record {
      said = c.in_ok-said.said.items;
      says = c.in_ok-said.ensures;
      replies = c.in_ok-replies.replies.items;
      replies_are = c.in_ok-replies.ensures
          ∙ ap (λ (all : List Output). map (λ (out : Output). out.reply) (take c.args.count all)) c.deref.ensures.value;
      told = after;
      tells = subst (λ (said : List (Vec ℕ Global)). AreTold before after (answers_to items c.in_ok-replies.replies.items said))
          c.deref-3.ensures.value
          (subst (λ (replies : List (Bor Answer)). AreTold before after (answers_to items replies c.deref-3.result.now))
          c.deref-2.ensures.value c.in_ok-tell_all.ensures.ok);
      until = c.awaited_until.result;
      long = c.awaited_until.ensures;
      begins = c.in_ok-begin_awaits.ensures.ok;
      branches = subst (λ (all : List Output). NotesAll c.args.now items (take c.args.count all) c.args.self.now.desk.notes.branches
          c.note_all.new.self.branches) c.deref.ensures.value c.in_ok-note_all.ensures;
      terms = refl;
    }

pub returns-in_err-tell_all-clause-ends : goal.returns-in_err-tell_all-clause-ends
returns-in_err-tell_all-clause-ends g c =
    let items = c.args.items.now in
    let before = c.args.self.now.desk.clients.seats in
    let after = c.tell_all.new.self.seats in
    on_err_all c.from_residual-in_err-tell_all.result _ (inr (record {
      said = c.in_ok-said.said.items;
      says = c.in_ok-said.ensures;
      replies = c.in_ok-replies.replies.items;
      replies_are = c.in_ok-replies.ensures
          ∙ ap (λ (all : List Output). map (λ (out : Output). out.reply) (take c.args.count all)) c.deref.ensures.value;
      told = after;
      tells = subst (λ (said : List (Vec ℕ Global)). AreToldSome before after (answers_to items c.in_ok-replies.replies.items said))
          c.deref-3.ensures.value
          (subst (λ (replies : List (Bor Answer)). AreToldSome before after (answers_to items replies c.deref-3.result.now))
          c.deref-2.ensures.value c.in_err-tell_all.ensures.err);
      no_more = untold_none after;
    }))

pub returns-in_err-begin_awaits-clause-ends : goal.returns-in_err-begin_awaits-clause-ends
returns-in_err-begin_awaits-clause-ends g c =
    let items = c.args.items.now in
    let before = c.args.self.now.desk.clients.seats in
    let after = c.tell_all.new.self.seats in
    on_err_all c.from_residual-in_err-begin_awaits.result _ (inr (record {
      said = c.in_ok-said.said.items;
      says = c.in_ok-said.ensures;
      replies = c.in_ok-replies.replies.items;
      replies_are = c.in_ok-replies.ensures
          ∙ ap (λ (all : List Output). map (λ (out : Output). out.reply) (take c.args.count all)) c.deref.ensures.value;
      told = after;
      tells = told_whole before after (answers_to items c.in_ok-replies.replies.items c.in_ok-said.said.items)
          (subst (λ (said : List (Vec ℕ Global)). AreTold before after (answers_to items c.in_ok-replies.replies.items said))
          c.deref-3.ensures.value
          (subst (λ (replies : List (Bor Answer)). AreTold before after (answers_to items replies c.deref-3.result.now))
          c.deref-2.ensures.value c.in_ok-tell_all.ensures.ok));
      no_more = c.begin_awaits.ensures.untold;
    }))

pub returns-in_err-note_all-clause-ends : goal.returns-in_err-note_all-clause-ends
returns-in_err-note_all-clause-ends g c =
    on_err_all c.from_residual.result _ (inl (untold_none c.args.self.now.desk.clients.seats))

pub returns-in_err-said-clause-ends : goal.returns-in_err-said-clause-ends
returns-in_err-said-clause-ends g c =
    on_err_all c.from_residual-in_err-said.result _ (inl (untold_none c.args.self.now.desk.clients.seats))

pub returns-in_err-replies-clause-ends : goal.returns-in_err-replies-clause-ends
returns-in_err-replies-clause-ends g c =
    on_err_all c.from_residual-in_err-replies.result _ (inl (untold_none c.args.self.now.desk.clients.seats))
