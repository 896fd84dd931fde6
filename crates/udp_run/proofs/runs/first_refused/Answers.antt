use Rattle.std.proofs.Common.{◌≡◌, ◌∙◌, ◌<◌, false, ap, sym, arith, length}
use Rattle.std.proofs.lemmas.List.{take_all, get_or_read}
use Rattle.std.specs.List.{list_all}
use Rattle.udp_run.specs.Commands.{is_served}
use Rattle.udp_run.proofs.runs.first_refused.Goals as goal

pub returns-then-not-is_served : goal.returns-then-not-is_served
returns-then-not-is_served c =
    let lt : c.loop-at.at < length c.args.commands.now = omega arith in
    let none : is_served c.index-commands-at.result ≡ false = sym c.is_served.ensures ∙ c.if-not-is_served.true in
    record {
      within = lt;
      before = c.loop-at.invariant;
      refused = λ d.
          ap is_served (sym (get_or_read c.args.commands.now c.loop-at.at c.index-commands-at.result lt c.index-commands-at.is d)) ∙ none;
    }

pub returns : goal.returns
returns c =
    ap (list_all is_served) (sym (take_all c.loop-at.at c.args.commands.now (omega arith))) ∙ c.loop-at.invariant
