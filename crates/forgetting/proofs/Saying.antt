-- What is asked of a resource manager's facts of one transaction, its name, and what is prepared, by few facts and by all.
use Rattle.std.proofs.Common.{◌≡◌, ℕ, false, List, Option, Some, None, refl}
use Rattle.std.specs.Prelude.{find, option_map}
use Rattle.std.specs.Option.{option_map_or}
use Rattle.xid.specs.Transactions.{TxParts, BranchParts, is_at, xid_of, xid_at}
use Rattle.protocol.specs.Basics.{Fact}
use Rattle.protocol.specs.Facts.{is_spent, view}
use Rattle.protocol.specs.Managers.{stored_votes}
use Rattle.protocol.proofs.Local.{votes_at, votes_on}
use Rattle.resource_manager.specs.Courses.{vote_among, is_ended_among, view_among}
use Rattle.xid.specs.Places.{Place, is_below}
use Rattle.forgetting.specs.Above.{ManagerSays}

module _ (rm : ℕ) (floor : Option Place) (few all : List Fact) (says : ManagerSays rm floor few all) (tx : TxParts)
    (above : is_below floor tx ≡ false) where
  pub view_same : view few tx ≡ view all tx
  view_same = λ k. view_among (says.stored_are tx above k)

  name_by : (o : Option BranchParts)
      → option_map_or (is_spent rm few) (option_map (xid_of tx) o) false ≡ option_map_or (is_spent rm all) (option_map (xid_of tx) o) false
  name_by None = refl
  name_by (Some b) = says.spent_are (xid_of tx b) above

  pub name_same : option_map_or (is_spent rm few) (xid_at tx rm) false ≡ option_map_or (is_spent rm all) (xid_at tx rm) false
  name_same = name_by (find (is_at rm) tx.branches)

  pub votes_same : votes_at (stored_votes rm few) tx (xid_at tx rm) ≡ votes_at (stored_votes rm all) tx (xid_at tx rm)
  votes_same = λ k.
      votes_on (vote_among (says.stored_are tx above k)) (is_ended_among (says.stored_are tx above k))
      (view_among (says.stored_are tx above k)) (name_same k) (says.bound_are k)
