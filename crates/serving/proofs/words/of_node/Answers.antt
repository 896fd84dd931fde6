use Rattle.std.proofs.Common.{rules, ◌≡◌, ◌≢◌, Some}
use Rattle.serving.proofs.WishLemmas.{spelled_there}
use Rattle.serving.proofs.words.of_node.Goals as goal

pub returns-in-Some-2 : goal.returns-in-Some-2
returns-in-Some-2 c =
    let is : c.args.named ≡ Some c.in-Some.who = search rules in
    let other : c.in-Some.who ≢ c.args.me = search rules in
    λ line spelled. spelled_there c.args.me c.in-Some.who line c.args.named c.args.wish is other spelled
