use Rattle.protocol.specs.declared.events.Event.TheVariants.{Ask}
use Rattle.net_script.specs.declared.values.Command.TheVariants.{Do}
use Rattle.serving.proofs.WishLemmas.{asks_none}
use Rattle.serving.proofs.words.read_request.Goals as goal

pub returns-in_default : goal.returns-in_default
returns-in_default c begins =
    asks_none c.args.line.now c.in_ok-command.field-0 begins c.in_ok-command.ensures
    (λ who request e. c.in_default.not-Some (Do (Ask who request)) e)
