use Rattle.std.proofs.Common.{◌∙◌, ap, get_or, length}
use Rattle.std.specs.List.{list_all}
use Rattle.std.proofs.lemmas.Bool.{both_ways, true_from_ne_false}
use Rattle.std.proofs.lemmas.Iterator.Adapters.{YieldsList-from_vec}
use Rattle.std.proofs.lemmas.Iterator.Consumers.{YieldsList-turn}
use Rattle.std.proofs.lemmas.List.Folds.{list_all_at}
use Rattle.udp_run.specs.Commands.{is_served}
use Rattle.udp_run.proofs.Listing.{carries_next}
use Rattle.udp_run.proofs.site.Site.carry_out_all.Goals as goal

pub loop-command-preserved : goal.loop-command-preserved
loop-command-preserved g c =
    carries_next g.P.Port.received g.P.Port.sent c.loop-command.yielded c.in-Some.command c.args.self.now c.loop-command.self
    c.carry_out.new.self c.loop-command.entries.items c.carry_out.new.entries.items c.loop-command.invariant c.in_ok-carry_out.ensures.ok

pub carry_out-requires : goal.carry_out-requires
carry_out-requires g c =
    let commands = c.args.commands.items in
    let at = length c.loop-command.yielded in
    let command = c.in-Some.command in
    let turn = YieldsList-turn
    (YieldsList-from_vec {s = c.into_iter-command-iterator.result} commands c.into_iter-command-iterator.ensures.into_iter_gives.0
    (c.into_iter-command-iterator.ensures.into_iter_gives.1 ∙ c.args.commands.ok.0)) c.loop-command.yielded
    c.loop-command.command-iterator c.loop-command.yielded_by c.next.result c.next.new.self command c.in-Some.is c.next.ensures.steps in
    ap is_served turn.1
    ∙ true_from_ne_false (is_served (get_or commands at command))
    (λ other. both_ways (list_all is_served commands) (list_all_at is_served commands at command turn.0 other) c.requires)
