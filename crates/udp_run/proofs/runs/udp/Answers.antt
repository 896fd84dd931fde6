use Rattle.std.proofs.Common.{◌≡◌, ◌⊎◌, ◌≤◌, ◌∙◌, ◌+◌, length, List, ap, sym, subst}
use Rattle.std.specs.List.{list_all}
use Rattle.std.proofs.lemmas.Result.{IfErr-weaker}
use Rattle.xid.specs.declared.refusals.Refusal.TheVariants.{NoMemory}
use Rattle.protocol.specs.Effects.{Config}
use Rattle.cluster_run.specs.Traces.{config_for}
use Rattle.net_script.specs.Lines.{lines}
use Rattle.net_script.specs.Scripts.{lines_kept}
use Rattle.net_script.specs.declared.values.Command.{Command}
use Rattle.net_script.specs.declared.values.Table.{Table}
use Rattle.udp_run.specs.Commands.{is_served}
use Rattle.udp_run.specs.Runs.{IsFirstRefused, RefusesDevices}
use Rattle.udp_run.proofs.Ran.{has_line, refused_late}
use Rattle.udp_run.proofs.runs.udp.Goals as goal

pub unreachable-requires : goal.unreachable-requires
unreachable-requires c =
    let s = c.in_ok-script.script in
    let first : IsFirstRefused s.commands c.in-Some.at =
    subst (λ (commands : List Command). IsFirstRefused commands c.in-Some.at) (c.deref.ensures.value ∙ c.in_ok-commands.ensures.ok)
    c.in-Some.ensures in
    has_line c.args.script.now s c.in-Some.at c.in_ok-script.ensures.ok first.within
    (subst (λ (tables : List Table). length (lines_kept (lines c.args.script.now)) ≤ 1 + length tables + c.in-Some.at)
    c.as_slice-in-Some.ensures c.in_default-line_of.ensures)

pub returns-clause-err : goal.returns-clause-err
returns-clause-err c =
    IfErr-weaker c.serve.result _ _
    (λ e late. refused_late c.args.script.now c.in_ok-script.script e c.in_ok-script.ensures.ok c.in_ok-config.ensures.ok.1
    (ap (list_all is_served) (sym (c.deref.ensures.value ∙ c.in_ok-commands.ensures.ok)) ∙ c.in_default.ensures)
    (subst (λ (config : Config). (e ≡ NoMemory) ⊎ RefusesDevices config c.in_ok-script.script.commands e)
    (c.in_ok-config.ensures.ok.0 ∙ ap (config_for c.in_ok-script.script.sizes) c.as_slice.ensures)
    (subst (λ (commands : List Command). (e ≡ NoMemory) ⊎ RefusesDevices c.in_ok-config.config commands e) c.in_ok-commands.ensures.ok
    late)))
    c.serve.ensures.err
