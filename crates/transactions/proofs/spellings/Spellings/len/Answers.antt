use Rattle.std.proofs.Common.{length, ap, arith}
use Rattle.transactions.proofs.Cutting.{cuts_count}
use Rattle.transactions.proofs.spellings.Spellings.len.Goals as goal

pub returns : goal.returns
returns c =
    let count = cuts_count c.self.inside.bytes.items 0 c.self.inside.ends.items in
    omega (arith, c.len.ensures, c.self.inside.ends.ok.0, count, ap length c.self.view_is)
