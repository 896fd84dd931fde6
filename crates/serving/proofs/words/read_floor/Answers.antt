use Rattle.std.proofs.Common.{refl}
use Rattle.protocol.specs.declared.events.Event.TheVariants.{Raise}
use Rattle.net_script.specs.declared.values.Command.TheVariants.{Do}
use Rattle.serving.proofs.WishLemmas.{command_read, raises_none}
use Rattle.serving.proofs.words.read_floor.Goals as goal

pub returns-in-Some : goal.returns-in-Some
returns-in-Some c = λ args begins.
    c.of_node.ensures c.args.line.now (
      c.in-Some.found.0,
      refl,
      command_read c.args.line.now c.in_ok-command.command (Do (Raise c.in-Some.found.0 c.in-Some.found.1))
          c.in_ok-command.ensures c.in-Some.ensures,
    )

pub returns : goal.returns
returns c = λ args begins.
    raises_none c.args.line.now args c.in_ok-command.command begins c.in_ok-command.ensures c.in-None.ensures
