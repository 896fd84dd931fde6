-- What is reported of the instances that stand below a ballot, as an item of each that does.
-- Needed by `accepts_after`, `report_at` and `reports_below`.
use Rattle.std.proofs.Common.{◌≡◌, ◌∙◌, ℕ, ◌<◌, ◌≤◌, Bool, true, false, ◌||◌, cond, ltb, List, [], ◌∷◌, length, map, Option, Some, None}
use Rattle.std.proofs.Common.{refl, sym, ap, arith}
use Rattle.std.specs.Prelude.{filter, filter_map, IfSome, MatchOption}
use Rattle.std.specs.List.{list_any, cons_option}
use Rattle.std.proofs.lemmas.Bool.{lt-ltb, le-ltb, eq-eqb}
use Rattle.xid.specs.Transactions.{TxParts, participants}
use Rattle.xid.specs.declared.transaction.Vote.{Vote}
use Rattle.wire.specs.declared.items.InstanceReport.{InstanceReport}
use Rattle.wire.specs.declared.items.InstanceAccept.{InstanceAccept}
use Rattle.wire.proofs.Spelled.{some_same}
use Rattle.ballot.specs.Choice.{Report}
use Rattle.ballot.specs.declared.slot.Slot.{Slot}
use Rattle.protocol.specs.Acceptors.{Slots, is_some_below, reports_below, report_after, accept_item}
use Rattle.acceptor.specs.Slots.{listed_items, report_item}

-- nothing to report
abbrev pub no_report : Option InstanceReport
no_report = None

kept_one : {X Y : Type 0} (g : X → Y) (b : Bool) (x : X) (xs : List X)
    → map g (cond b (x ∷ xs) xs) ≡ cons_option (cond b (Some (g x)) None) (map g xs)
kept_one g true x xs = refl
kept_one g false x xs = refl

kept_map : {X Y : Type 0} (g : X → Y) (p : X → Bool) (xs : List X) → map g (filter p xs) ≡ filter_map (λ x. cond (p x) (Some (g x)) None) xs
kept_map g p [] = refl
kept_map g p (x ∷ xs) = kept_one g (p x) x (filter p xs) ∙ ap (cons_option (cond (p x) (Some (g x)) None)) (kept_map g p xs)

pub reports_are : (slots : Slots) (tx : TxParts) (b : ℕ) → filter_map (report_item slots tx b) (participants tx) ≡ reports_below slots tx b
reports_are slots tx b =
    sym (kept_map (λ i. record { instance = i; report = (slots tx i).report }) (λ i. ltb (slots tx i).mbal b) (participants tx))

-- where none is reported none stands below, and where one is some does
kept_any : {X Y : Type 0} (g : X → Y) (p : X → Bool) (xs : List X) → list_any p xs ≡ ltb 0 (length (map g (filter p xs)))
kept_any g p [] = refl
kept_any g p (x ∷ xs) = by (p x) (kept_any g p xs)
  where
    by : (b : Bool) → list_any p xs ≡ ltb 0 (length (map g (filter p xs))) → (b || list_any p xs)
        ≡ ltb 0 (length (map g (cond b (x ∷ filter p xs) (filter p xs))))
    by true e = sym (lt-ltb 0 _ (omega arith))
    by false e = e

-- where there is an item there is something below the ballot
pub reports_told : (slots : Slots) (tx : TxParts) (b : ℕ) (r : Option (List InstanceReport)) → IfSome r (λ items. 1 ≤ length items)
    → listed_items r ≡ filter_map (report_item slots tx b) (participants tx)
    → MatchOption r (is_some_below slots tx b ≡ false) (λ items. (is_some_below slots tx b ≡ true) × (items ≡ reports_below slots tx b))
reports_told slots tx b r some e =
    let any : is_some_below slots tx b ≡ ltb 0 (length (reports_below slots tx b)) =
    kept_any (λ i. record { instance = i; report = (slots tx i).report }) (λ i. ltb (slots tx i).mbal b) (participants tx) in
    by r some (e ∙ reports_are slots tx b) any
  where
    pos : (n : ℕ) → 1 ≤ n → ltb 0 n ≡ true
    pos n le = lt-ltb 0 n le

    by : (r : Option (List InstanceReport)) → IfSome r (λ items. 1 ≤ length items) → listed_items r ≡ reports_below slots tx b
        → is_some_below slots tx b ≡ ltb 0 (length (reports_below slots tx b))
        → MatchOption r (is_some_below slots tx b ≡ false) (λ items. (is_some_below slots tx b ≡ true) × (items ≡ reports_below slots tx b))
    by None some e any = any ∙ ap (λ items. ltb 0 (length items)) (sym e)
    by (Some items) some e any = (any ∙ ap (λ items. ltb 0 (length items)) (sym e) ∙ pos (length items) some, e)

-- ---- an item is its instance's

-- an item is of the instance that it is asked of
pub own_report : (slots : Slots) (tx : TxParts) (b n : ℕ) (x : InstanceReport) → report_item slots tx b n ≡ Some x → x.instance ≡ n
own_report slots tx b n x e = by (ltb (slots tx n).mbal b) e
  where
    by : (t : Bool) → cond t (Some (record { instance = n; report = (slots tx n).report })) None ≡ Some x → x.instance ≡ n
    by true e = ap (λ (y : InstanceReport). y.instance) (sym (some_same _ x e))
    by false e = absurd (cc (e))

-- so is one of an accept
pub own_accept : (last : ℕ → Report) (n : ℕ) (x : InstanceAccept) → accept_item n (last n) ≡ Some x → x.instance ≡ n
own_accept last n x e = by (last n) e
  where
    by : (r : Report) → accept_item n r ≡ Some x → x.instance ≡ n
    by None e = absurd (cc (e))
    by (Some r) e = ap (λ (y : InstanceAccept). y.instance) (sym (some_same _ x e))

-- the value that is accepted now is told
pub accept_told : (slots : Slots) (tx : TxParts) (i b : ℕ) (v : Vote)
    → accept_item i (report_after slots tx i b v i) ≡ Some (record { instance = i; ballot = b; vote = v })
accept_told slots tx i b v = ap (λ t. accept_item i (cond t (Some (b, v)) (slots tx i).report)) (eq-eqb i i refl)

-- whether an instance is reported, by its slot
pub no_item : (s : Slot) (b i : ℕ) → b ≤ s.mbal → None ≡ cond (ltb s.mbal b) (Some (record { instance = i; report = s.report })) no_report
no_item s b i le = ap (λ t. cond t (Some (record { instance = i; report = s.report })) no_report) (sym (le-ltb s.mbal b le))

-- an instance below the ballot has an item
pub is_item : (s : Slot) (b i : ℕ) → s.mbal < b
    → Some (record { instance = i; report = s.report }) ≡ cond (ltb s.mbal b) (Some (record { instance = i; report = s.report })) no_report
is_item s b i lt = ap (λ t. cond t (Some (record { instance = i; report = s.report })) no_report) (sym (lt-ltb s.mbal b lt))
