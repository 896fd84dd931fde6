use Rattle.std.proofs.Common.{◌≡◌, ℕ, drop}
use Rattle.std.specs.Prelude.{is_some}
use Rattle.std.specs.List.{list_all}
use Rattle.xid.specs.Transactions.{participants}
use Rattle.protocol.specs.Acceptors.{report_after}
use Rattle.acceptor.specs.Slots.{slots_of}
use Rattle.acceptor.proofs.bundles.have_all_values.Given as goal

abbrev pub invariant-loop-place : goal.invariant-loop-place
invariant-loop-place l =
    let q = λ (j : ℕ). is_some (report_after (slots_of l.tx l.slots) l.tx l.accepted.instance l.accepted.ballot l.accepted.vote j) in
    list_all q (drop l.place (participants l.tx)) ≡ list_all q (participants l.tx)
