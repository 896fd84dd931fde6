use Rattle.std.proofs.Common.{◌≡◌, List, ◌++◌, length}
use Rattle.xid.specs.Transactions.{BranchParts, AreBranches, branches_text}
use Rattle.xid.proofs.TransactionTexts.{with_commas, Continues}
use Rattle.xid.proofs.transaction_text.branches_of.Given as goal

abbrev pub invariant-loop : goal.invariant-loop
invariant-loop l = record {
  count : length l.all ≡ l.counter;
  sound : l.text ≡ with_commas l.all ++ l.rest;
  complete : (bs : List BranchParts) → AreBranches bs → l.text ≡ branches_text bs → Continues bs l.counter l.all l.rest;
}
