-- The items of a bundle, seen over the bytes that spell them, and how their bytes are passed over.
use Rattle.std.specs.Prelude.{ℕ, zero, suc, ◌==◌, ◌+◌, Bool, true, false, ◌&&◌, cond, nat_lt, nat_le, List, [], ◌∷◌, Option, Some, None}
use Rattle.std.specs.Option.{option_map_or}
use Rattle.xid.specs.Limits.{most_branches}
use Rattle.xid.specs.Transactions.{TxParts, is_participant}
use Rattle.wire.specs.declared.items.InstanceReport.{InstanceReport}
use Rattle.wire.specs.declared.items.InstanceAccept.{InstanceAccept}
use Rattle.wire.specs.Decoding.{is_report}
use Rattle.wire.specs.Reading.{byte_at, items_at, report_item_at, accept_item_at}

-- the items of phase 1b that bytes spell; none where they spell none
unfoldable pub reports_spelled : List ℕ → List InstanceReport
reports_spelled bytes = option_map_or (λ taken. taken.0) (items_at report_item_at bytes) []

-- the items of phase 2b that bytes spell; none where they spell none
unfoldable pub accepts_spelled : List ℕ → List InstanceAccept
accepts_spelled bytes = option_map_or (λ taken. taken.0) (items_at accept_item_at bytes) []

-- whether nothing is left
abbrev pub is_end : List ℕ → Bool
is_end [] = true
is_end (x ∷ xs) = false

-- whether something was taken, and it and the bytes after it pass
abbrev pub passes : {X : Type 0} → Option (X × List ℕ) → (X × List ℕ → Bool) → Bool
passes None f = false
passes (Some x) f = f x

-- whether bytes are so many items that pass, their instances ascending strictly from the least
unfoldable pub items_from : {X : Type 0} → (List ℕ → Option (X × List ℕ)) → (X → Bool) → (X → ℕ) → ℕ → ℕ → List ℕ → Bool
items_from one is instance least zero bytes = is_end bytes
items_from one is instance least (suc n) bytes =
    passes (one bytes) (λ x. is x.0 && (nat_le least (instance x.0) && items_from one is instance (instance x.0 + 1) n x.1))

-- whether bytes are items that pass behind their count, their instances ascending strictly
unfoldable pub are_items : {X : Type 0} → (List ℕ → Option (X × List ℕ)) → (X → Bool) → (X → ℕ) → List ℕ → Bool
are_items one is instance bytes =
    passes (byte_at bytes) (λ count. cond (count.0 == 0) false (cond (nat_lt most_branches count.0) false
    (items_from one is instance 0 count.0 count.1)))

-- whether an item is of an instance of the transaction, and what it reports passes
abbrev pub is_item : {X : Type 0} → (X → ℕ) → (X → Bool) → TxParts → X → Bool
is_item instance is_below tx item = is_participant tx (instance item) && is_below item

-- whether an item is of an instance of the transaction, and reports a ballot below this one
abbrev pub is_reported : TxParts → ℕ → InstanceReport → Bool
is_reported tx ballot = is_item (λ item. item.instance) (λ item. is_report ballot item.report) tx

-- whether an item is of an instance of the transaction
abbrev pub is_accepted : TxParts → InstanceAccept → Bool
is_accepted tx = is_item (λ item. item.instance) (λ item. true) tx
