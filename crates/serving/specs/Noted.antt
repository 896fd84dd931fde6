-- The branches that clients have started, and what is known of each.
use Rattle.std.specs.Prelude.{◌≡◌, ℕ, Bool, true, false, not, ◌&&◌, ◌||◌, ◌==◌, nat_le, if◌then◌else◌, List, Option, Some}
use Rattle.std.specs.Prelude.{None}
use Rattle.std.specs.List.{IsDistinct}
use Rattle.std.specs.Option.{option_map, option_map_or}
use Rattle.std.specs.Set.{is_member}
use Rattle.std.specs.Time.{instant_nanos}
use Rattle.std.specs.declared.time.Instant.{Instant}
use Rattle.indexmap.specs.IndexMap.{get}
use Rattle.xid.specs.Names.{XidParts, xid_eq}
use Rattle.xid.specs.declared.codes.XaCode.TheVariants as Xa
use Rattle.protocol.specs.declared.answers.Answer.{Answer}
use Rattle.protocol.specs.declared.answers.Answer.TheVariants.{Code}
use Rattle.protocol.specs.declared.requests.Action.{Action}
use Rattle.protocol.specs.declared.requests.Action.TheVariants.{Start, End, EndFail, Rollback}
use Rattle.serving.specs.declared.branches.Branch.{Branch}
use Rattle.serving.specs.declared.branches.Branches.{Branches}

-- what is known of the branch of a name, if it is known
abbrev pub known : Branches → XidParts → Option Branch
known branches x = get xid_eq branches.named x

-- of the branch of a name this is known now, or nothing, and of each other what was
abbrev pub NotesOnly : Branches → Branches → XidParts → Option Branch → Type 0
NotesOnly old new x now = (known new x ≡ now) × ((y : XidParts) → xid_eq x y ≡ false → known new y ≡ known old y)

-- whether a call was answered with XA_OK
abbrev pub is_ok : Answer → Bool
is_ok (Code Xa.Ok) = true
is_ok answer = false

-- whether there is no such branch
abbrev pub is_nota : Answer → Bool
is_nota (Code Xa.Nota) = true
is_nota answer = false

-- whether the branch may only be rolled back
abbrev pub is_rolled_back : Answer → Bool
is_rolled_back (Code Xa.RbRollback) = true
is_rolled_back answer = false

-- a branch that a client has touched, and ended if so it has
abbrev pub after_touch : Bool → Instant → Branch → Branch
after_touch has_ended now branch = record branch { is_active = branch.is_active && not has_ended; touched = now }

-- what is known of a branch after a call on it, which a client made, and which wasn't answered that there is no such branch
abbrev pub after_action : Action → (ok rolled_back : Bool) → ℕ → Instant → Option Branch → Option Branch
after_action Start true rolled_back client now branch = Some (record { client = client; is_active = true; touched = now })
after_action Rollback true rolled_back client now branch = None
after_action End ok rolled_back client now branch = option_map (after_touch (ok || rolled_back) now) branch
after_action EndFail ok rolled_back client now branch = option_map (after_touch (ok || rolled_back) now) branch
after_action action ok rolled_back client now branch = option_map (after_touch false now) branch

-- what is known of a branch after a call on it was answered
abbrev pub noted : Action → Answer → ℕ → Instant → Option Branch → Option Branch
noted action answer client now branch =
    if is_nota answer then None else after_action action (is_ok answer) (is_rolled_back answer) client now branch

-- whether a branch is active, and this client has started it
abbrev pub is_active_of : ℕ → XidParts × Branch → Bool
is_active_of client entry = entry.1.client == client && entry.1.is_active

-- whether nobody has touched a branch since then
abbrev pub is_untouched : Instant → XidParts × Branch → Bool
is_untouched since entry = nat_le (instant_nanos entry.1.touched) (instant_nanos since)

-- whether the branch of a name is known, and passes a test
abbrev pub is_known_as : (XidParts × Branch → Bool) → Branches → XidParts → Bool
is_known_as test branches x = option_map_or (λ branch. test (x, branch)) (known branches x) false

-- these are the names that pass a test, none twice
abbrev pub AreNames : (XidParts → Bool) → List XidParts → Type 0
AreNames test names = ((x : XidParts) → is_member xid_eq names x ≡ test x) × IsDistinct xid_eq names
