use Rattle.std.proofs.Common.{ap, subst}
use Rattle.slab.specs.Slab.{Slab}
use Rattle.serving.specs.declared.clients.Clients.{Clients}
use Rattle.serving.specs.declared.terms.Terms.{Terms}
use Rattle.serving.specs.Clients.{ClientParts}
use Rattle.serving.specs.Taking.{HearsAll}
use Rattle.node_process.specs.declared.desk.Desk.{Desk}
use Rattle.node_process.proofs.gathering.gather.Goals as goal

pub returns-clause-gathered : goal.returns-clause-gathered
returns-clause-gathered g c =
    let ahead = c.in_ok-items.ensures.ahead in
    let items = c.in_ok-items.items.items in
    let all = c.take_lines.new.items.items in
    let heard = c.take_lines.new.self.seats in record {
      ahead = items;
      gathered = record {
        pending = ahead.pending;
        takes = ahead.takes;
        all = ahead.all;
        asked = ahead.asked;
        due = ahead.due;
        messages = ahead.messages;
        emptied = ahead.emptied;
      };
      hears = subst (λ (t : Terms). HearsAll t c.args.desk.now.clients.seats heard items all)
          (ap (λ (d : Desk). d.terms) c.in_ok-items.ensures.same)
          (subst (λ (s : Slab ClientParts). HearsAll c.gather_ahead.new.desk.terms s heard items all)
          (ap (λ (clients : Clients). clients.seats) c.gather_ahead.ensures.clients) c.in_ok-take_lines.ensures.ok);
    }
