-- What becomes known of branches by what came of a group.
use Rattle.std.specs.Prelude.{◌≡◌, ℕ, Bool, true, List, [], ◌∷◌, slice_get, Option, Some, None, MatchOption}
use Rattle.std.specs.declared.time.Instant.{Instant}
use Rattle.xid.specs.Transactions.{xid_at}
use Rattle.protocol.specs.declared.answers.Answer.{Answer}
use Rattle.protocol.specs.declared.events.Change.{Change}
use Rattle.protocol.specs.declared.requests.Request.TheVariants.{Call}
use Rattle.node_core.specs.declared.output.Output.{Output}
use Rattle.serving.specs.declared.branches.Branches.{Branches}
use Rattle.serving.specs.declared.group.Item.{Item}
use Rattle.serving.specs.declared.group.Origin.{Origin}
use Rattle.serving.specs.declared.group.Origin.TheVariants.{Client, Node}
use Rattle.serving.specs.declared.group.Work.{Work}
use Rattle.serving.specs.declared.group.Work.TheVariants.{Ask}
use Rattle.serving.specs.Groups.{after_one, is_handed}
use Rattle.serving.specs.Noted.{known, noted, NotesOnly}

-- the number of who is answered, 0 for nobody
abbrev pub number_of : Origin → ℕ
number_of (Client key number) = number
number_of Node = 0

-- where a view has changed, its branch is prepared, or is no more: nothing is known of it any longer
abbrev pub Forgets : Option Change → Branches → Branches → Type 0
Forgets None old new = new ≡ old
Forgets (Some change) old new = MatchOption (xid_at change.tx change.rm) (new ≡ old) (λ name. NotesOnly old new name None)

-- a call on a branch was answered: what is known of that branch changes, and of no other
abbrev pub NotesCall : Origin → Work → Answer → Instant → Branches → Branches → Type 0
NotesCall origin (Ask (Call name action)) answer now old new =
    NotesOnly old new name (noted action answer (number_of origin) now (known old name))
NotesCall origin work answer now old new = new ≡ old

-- what came of an input: a view that it changed, and then its answer
pub record NotesInput (now : Instant) (item : Item) (out : Output) (old new : Branches) : Type 0 where
  pub mid : Branches
  pub forgets : Forgets out.now old mid
  pub call : NotesCall item.origin item.work out.reply now mid new

-- what came of an item, if the node was handed it
abbrev pub NotesOne : (handed : Bool) → Instant → Item → Option Output → Branches → Branches → Type 0
NotesOne true now item (Some out) old new = NotesInput now item out old new
NotesOne handed now item out old new = new ≡ old

-- what came of the items of a group, in their order
abbrev pub NotesAll : Instant → List Item → List Output → Branches → Branches → Type 0
NotesAll now [] outs old new = new ≡ old
NotesAll now (item ∷ items) outs old new =
    (mid : Branches) × NotesOne (is_handed item.work) now item (slice_get outs 0) old mid
    × NotesAll now items (after_one (is_handed item.work) outs) mid new
