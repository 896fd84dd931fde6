-- Whether a trace tells of several transactions, from a place on: for the loop that looks for the first.
use Rattle.std.proofs.Common.{◌≡◌, ℕ, ◌+◌, ◌<◌, List, drop, length, get_or, sym, ap, ◌∙◌, Bool, Option, Some}
use Rattle.std.specs.List.{list_any}
use Rattle.std.specs.Option.{option_map_or}
use Rattle.std.proofs.lemmas.List.{at_drop_more}
use Rattle.net_script.specs.declared.values.Entry.{Entry}
use Rattle.xid.specs.Transactions.{TxParts}
use Rattle.picture.specs.Rows.{are_several, is_of_other, tx_of}

-- where the entry at a place tells of a transaction, it is whether any after it tells of another
pub several_here : (es : List Entry) (i : ℕ) (e : Entry) (tx : TxParts) → i < length es → e ≡ get_or es i e → Some tx ≡ tx_of e
    → are_several (drop i es) ≡ list_any (is_of_other tx) (drop (i + 1) es)
several_here es i e tx lt is told =
    let others : TxParts → Bool = λ (t : TxParts). list_any (is_of_other t) (drop (i + 1) es) in
    at_drop_more are_several es i e lt
    ∙ ap (λ (o : Option TxParts). option_map_or others o (are_several (drop (i + 1) es))) (sym (ap tx_of is) ∙ sym told)
