use Rattle.history.proofs.Datagrams.{net_is_lines}
use Rattle.history.proofs.lines.datagrams_are_sent_lines.Goals as goal

pub returns : goal.returns
returns c = net_is_lines
