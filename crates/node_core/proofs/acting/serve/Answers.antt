use Rattle.protocol.specs.Nodes.{effect_of, Asked}
use Rattle.node_core.proofs.Sparing.{decides_nothing, serves_so}
use Rattle.node_core.proofs.acting.serve.Goals as goal

pub returns-in-Ok-clause-carries : goal.returns-in-Ok-clause-carries
returns-in-Ok-clause-carries g c = λ config facts memory s.
    c.carry_out_asked.ensures.carries config facts memory (effect_of config c.args.who facts memory (Asked c.args.request.now))
    (c.in-Ok.ensures.ok config c.args.who facts memory s)

pub returns-in-Ok-clause-free : goal.returns-in-Ok-clause-free
returns-in-Ok-clause-free g c = λ is config facts memory s none.
    c.carry_out_asked.ensures.idle (decides_nothing config c.args.who facts memory _ _
    (effect_of config c.args.who facts memory (Asked c.args.request.now))
    (c.in-Ok.ensures.ok config c.args.who facts memory s) none)

pub returns-in-Err-clause-free : goal.returns-in-Err-clause-free
returns-in-Err-clause-free g c = λ is config facts memory s none.
    c.in-Err.ensures.free (serves_so config c.args.who c.args.role.now facts memory c.args.request.now s is)
