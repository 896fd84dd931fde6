use Rattle.std.proofs.Common.{◌≡◌, ◌∙◌, Bool, ap, ap₂}
use Rattle.std.specs.Prelude.{◌||◌, codes}
use Rattle.clap.specs.Words.{app_of, with_rule}
use Rattle.clap.specs.Simple.{app_of_fields}
use Rattle.udp_edge.specs.CommandLines.{file_app, folder_app}
use Rattle.udp_edge.proofs.CommandLineLemmas.{line_made}
use Rattle.udp_edge.proofs.command.program_command.Goals as goal

pub returns-clause-ok : goal.returns-clause-ok
returns-clause-ok c =
    let first_is : app_of c.in_ok-first.first ≡ file_app (codes "run") =
    c.in_ok-first.ensures.shape c.position.ensures.local ∙ ap₂ with_rule c.new.ensures.app c.position.ensures.rule in
    let with_file_is : app_of c.in_ok-with_file.with_file ≡ file_app (codes "udp") =
    c.in_ok-with_file.ensures.shape c.position-2.ensures.local ∙ ap₂ with_rule c.new-2.ensures.app c.position-2.ensures.rule in
    let second_is : app_of c.in_ok-second.second ≡ folder_app (codes "udp") =
    c.in_ok-second.ensures.shape c.position-3.ensures.local ∙ ap₂ with_rule with_file_is c.position-3.ensures.rule in
    let third_is : app_of c.in_ok-third.third ≡ file_app (codes "audit") =
    c.in_ok-third.ensures.shape c.position-4.ensures.local ∙ ap₂ with_rule c.new-3.ensures.app c.position-4.ensures.rule in
    let or : Bool → Bool → Bool = λ a b. a || b in
    line_made (app_of c.in_ok-first.first) (app_of c.in_ok-second.second) (app_of c.in_ok-third.third) (app_of c.new-4.result)
    (app_of c.subcommand_required-named.result) (app_of c.in_ok-with_first.with_first) (app_of c.in_ok-with_second.with_second) _
    first_is second_is third_is c.new-4.ensures.app (ap app_of_fields c.subcommand_required-named.ensures)
    (c.in_ok-with_first.ensures.shape (c.in_ok-first.ensures.globals ∙ ap₂ or c.new.ensures.local c.position.ensures.local))
    (c.in_ok-with_second.ensures.shape
    (c.in_ok-second.ensures.globals
    ∙ ap₂ or (c.in_ok-with_file.ensures.globals ∙ ap₂ or c.new-2.ensures.local c.position-2.ensures.local) c.position-3.ensures.local))
    (c.in_ok-command.ensures.shape (c.in_ok-third.ensures.globals ∙ ap₂ or c.new-3.ensures.local c.position-4.ensures.local))
