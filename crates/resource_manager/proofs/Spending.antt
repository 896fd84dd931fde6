-- The names that are spent after one more.
-- Needed by `SpentNames::spend`.
use Rattle.std.proofs.Common.{◌≡◌, ◌∙◌, Bool, true, false, ◌||◌, cond, List, Result, Ok, Err}
use Rattle.std.specs.Prelude.{OnOk}
use Rattle.std.specs.Result.{IsOk}
use Rattle.std.specs.List.{list_any}
use Rattle.xid.specs.Names.{XidParts, xid_eq}
use Rattle.branch_table.proofs.Found.{xid_turned}

-- what holds where a call was done, where it was
pub on_ok : {T E : Type 0} (r : Result T E) (P : Type 0) → IsOk r → OnOk r P → P
on_ok (Ok x) P is h = h
on_ok (Err e) P is h = absurd (cc (is))

or_cond : (a b c : Bool) → a ≡ c → cond a true b ≡ (c || b)
or_cond true b c e = λ i. e i || b
or_cond false b c e = λ i. e i || b

-- a name is spent once it was put among them, or it was before
pub spends : (names news : List XidParts) (x : XidParts)
    → ((y : XidParts) → list_any (xid_eq y) news ≡ cond (xid_eq x y) true (list_any (xid_eq y) names))
    → (y : XidParts) → list_any (xid_eq y) news ≡ (xid_eq y x || list_any (xid_eq y) names)
spends names news x updates y = updates y ∙ or_cond (xid_eq x y) (list_any (xid_eq y) names) (xid_eq y x) (xid_turned x y)
