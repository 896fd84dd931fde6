-- What becomes of branches: which keys are idle, and what an end has looked at.
-- Needed by `BranchTable::commit`, `BranchTable::prepare` and `BranchTable::undo`.
use Rattle.std.proofs.Common.{◌≡◌, ◌∙◌, ℕ, ◌+◌, ◌*◌, ◌≤◌, Bool, true, false, cond, List, [], ◌∷◌, length, Option, Some, None, refl, sym, ap}
use Rattle.std.proofs.Common.{subst, arith}
use Rattle.std.specs.List.{IsDistinct}
use Rattle.xid.specs.Names.{XidParts, xid_eq}
use Rattle.stable_record.specs.declared.fact.Touched.{Touched}
use Rattle.protocol.specs.declared.states.BranchState.{BranchState}
use Rattle.protocol.specs.Holds.{names_of}
use Rattle.protocol.specs.Managers.{Branch, idle_keys}
use Rattle.branch_table.specs.Outcomes.{HasLooked, keys_named, looks_after}
use Rattle.branch_table.specs.TableStates.{branch_named, is_idle}
use Rattle.branch_table.proofs.Hindered.{distinct_tail, named_absent, none_later}
use Rattle.branch_table.proofs.Uses.{looks_more}

-- the keys of a branch that may not exist, if it is idle
abbrev pub idle_of : Option Branch → Option (List Touched)
idle_of None = None
idle_of (Some branch) = cond (is_idle branch.state) (Some branch.keys) None

-- the keys of an idle branch are those of the branch that is found
pub idle_from : (bs : List Branch) (x : XidParts) → IsDistinct xid_eq (names_of bs) → idle_keys bs x ≡ idle_of (branch_named bs x)
idle_from [] x distinct = refl
idle_from (b ∷ bs) x distinct =
    by b.xid b.state b.keys (xid_eq b.xid x) refl (idle_from bs x (distinct_tail b bs distinct))
    (λ e. idle_from bs x (distinct_tail b bs distinct) ∙ ap idle_of (named_absent bs x (none_later b bs x distinct e)))
  where
    by : (y : XidParts) (s : BranchState) (keys : List Touched) (t : Bool) → xid_eq y x ≡ t → idle_keys bs x ≡ idle_of (branch_named bs x)
        → (xid_eq y x ≡ true → idle_keys bs x ≡ None)
        → idle_keys (record { xid = y; state = s; keys = keys } ∷ bs) x
        ≡ idle_of (cond (xid_eq y x) (Some (record { xid = y; state = s; keys = keys })) (branch_named bs x))
    by y BranchState.Active keys true e rest later = rw e (later e)
    by y BranchState.Active keys false e rest later = rw e rest
    by y BranchState.Idle keys true e rest later = rw e refl
    by y BranchState.Idle keys false e rest later = rw e rest
    by y BranchState.RollbackOnly keys true e rest later = rw e (later e)
    by y BranchState.RollbackOnly keys false e rest later = rw e rest
    by y BranchState.Prepared keys true e rest later = rw e (later e)
    by y BranchState.Prepared keys false e rest later = rw e rest

-- the keys of a branch that was found, or wasn't
pub keys_found : (bs : List Branch) (x : XidParts) (b : Branch) → branch_named bs x ≡ Some b → keys_named bs x ≡ b.keys
keys_found bs x b e = rw e refl

-- where no branch is found there are no keys
pub keys_none : (bs : List Branch) (x : XidParts) → branch_named bs x ≡ None → keys_named bs x ≡ []
keys_none bs x e = rw e refl

-- the end of a branch that wasn't there
pub looks_absent : (before after : ℕ) (keys : List Touched) → after ≡ looks_after before 1 → keys ≡ []
    → HasLooked before after (length keys)
looks_absent before after keys is none = record {
  count = 1;
  least = subst (λ (ks : List Touched). length ks ≤ 1) (sym none) (omega arith);
  most = subst (λ (ks : List Touched). 1 ≤ 2 * length ks + 4) (sym none) (omega arith);
  counted = is;
}

-- the end of a branch: one look finds it, one takes it out, and two are for each of its keys and the hold of it
pub looks_ended : (before one two after : ℕ) (n : ℕ) → one ≡ looks_after before 1 → two ≡ looks_after one 1
    → after ≡ looks_after two (2 * n)
    → HasLooked before after n
looks_ended before one two after n is-one is-two is = record {
  count = 2 + 2 * n;
  least = omega arith;
  most = omega arith;
  counted =
      is ∙ ap (λ k. looks_after k (2 * n)) (is-two ∙ ap (λ k. looks_after k 1) is-one ∙ looks_more before 1 1)
      ∙ looks_more before 2 (2 * n);
}
