use Rattle.std.proofs.Common.{◌≡◌, ◌∙◌, ◌<◌, List, length, sym, subst}
use Rattle.std.specs.List.{All, position_or_len}
use Rattle.std.specs.Str.{bytes_eq}
use Rattle.xid.specs.Transactions.{TxParts, IsTx}
use Rattle.wire.specs.Grammar.{tx_spelling}
use Rattle.wire.specs.Versions.{version_2}
use Rattle.transactions.specs.Found.{hint_of, other_of}
use Rattle.transactions.proofs.Index.{found_apart, key_at}
use Rattle.transactions.proofs.Keys.{all_valid, stands_at}
use Rattle.transactions.proofs.numbers.Transactions.is_at.Goals as goal

pub returns-clause-place : goal.returns-clause-place
returns-clause-place c is =
    let keys = c.self.inside.spelled in
    let k = c.args.spelled.now in
    let here = key_at (λ key. key) keys k c.args.number
    (sym c.stand_at.ensures ∙ is) in
    subst (λ (seen : List TxParts). (c.args.number ≡ position_or_len (λ tx. bytes_eq k (tx_spelling version_2 tx)) seen)
    × (c.args.number < length seen)) c.self.view_is
    (stands_at (λ key. key) k here.0 keys c.args.number c.self.invariant.spelled
    (found_apart (λ key. key) c.self.inside.words keys (hint_of c.self.inside.places) (other_of c.self.inside.places)
    c.self.invariant.found)
    here.1 here.2)

pub returns-clause-valid : goal.returns-clause-valid
returns-clause-valid c = subst (All IsTx) c.self.view_is (all_valid (λ key. key) c.self.inside.spelled c.self.invariant.spelled)
