-- The facts that an acceptor's record holds in place of others once it is made shorter.
use Rattle.std.specs.Prelude.{◌≡◌, ◌≤◌, ◌==◌, ◌&&◌, ℕ, Bool, min, max, nat_lt, if◌then◌else◌, true, List, [], ◌∷◌, ◌++◌, Some, None, map}
use Rattle.std.specs.Prelude.{fold, sum}
use Rattle.std.specs.List.{flat_map, list_any}
use Rattle.xid.specs.Transactions.{TxParts, participants}
use Rattle.ballot.specs.declared.slot.Slot.{Slot}
use Rattle.ballot.specs.Choice.{Report}
use Rattle.stable_record.specs.declared.entry.EntryKind.TheVariants as entries
use Rattle.stable_record.specs.declared.fact.FactKind.{FactKind as Fact}
use Rattle.stable_record.specs.Frames.{frame_length}
use Rattle.stable_record.specs.Written.{AreWritten}
use Rattle.protocol.specs.declared.nodes.NodeId.TheVariants.{A}
use Rattle.protocol.specs.Acceptors.{Slots}
use Rattle.protocol.specs.Effects.{Config}
use Rattle.protocol.specs.Facts.{slot}
use Rattle.protocol.specs.Nodes.{plays, all_play}
use Rattle.acceptor.specs.Acceptors.{AcceptorParts, StandsFor, begun_in}

-- the ballot of what was accepted last, 0 where nothing was
abbrev pub accepted_ballot : Report → ℕ
accepted_ballot None = 0
accepted_ballot (Some last) = last.0

-- what was accepted last of an instance, if anything was
abbrev pub accept_facts : TxParts → (instance : ℕ) → Report → List Fact
accept_facts tx i None = []
accept_facts tx i (Some last) = Fact.Accept tx i last.0 last.1 ∷ []

-- the least of some numbers, 0 where there are none
abbrev pub least : List ℕ → ℕ
least [] = 0
least (n ∷ ns) = fold min n ns

-- the least ballot that an instance of a transaction took part in
abbrev pub least_ballot : Slots → TxParts → ℕ
least_ballot slots tx = least (map (λ i. (slots tx i).mbal) (participants tx))

-- whether a slot took part in a ballot, and accepted only below it
abbrev pub is_promised : (ballot : ℕ) → Slot → Bool
is_promised b s = (s.mbal == b) && nat_lt (accepted_ballot s.report) b

-- the ballot of a promise for all instances of a transaction: the least that one took part in, if some instance that stands there accepted
-- only below it, else 0
abbrev pub common_ballot : Slots → TxParts → ℕ
common_ballot slots tx =
    if list_any (λ i. is_promised (least_ballot slots tx) (slots tx i)) (participants tx) then least_ballot slots tx else 0

-- the promise for all, if it is above ballot 0
abbrev pub common_facts : TxParts → (ballot : ℕ) → List Fact
common_facts tx b = if nat_lt 0 b then Fact.PromiseAll tx b ∷ [] else []

-- the greatest ballot that an instance took part in, if it is above the one accepted in and above that of the promise for all
abbrev pub promise_facts : TxParts → (common instance : ℕ) → Slot → List Fact
promise_facts tx common i s =
    if nat_lt (max (accepted_ballot s.report) common) s.mbal then Fact.Promise tx i s.mbal ∷ [] else []

-- what each instance of a transaction accepted last, in their order
abbrev pub accepts_of : Slots → TxParts → List Fact
accepts_of slots tx = flat_map (λ i. accept_facts tx i (slots tx i).report) (participants tx)

-- the promises of single instances
abbrev pub promises_of : Slots → TxParts → List Fact
promises_of slots tx = flat_map (λ i. promise_facts tx (common_ballot slots tx) i (slots tx i)) (participants tx)

-- the facts that lead each instance of a transaction to its slot: what was accepted last, then one promise for all, then a promise of each
-- instance that took part in a greater ballot
abbrev pub transaction_facts : Slots → TxParts → List Fact
transaction_facts slots tx = accepts_of slots tx ++ (common_facts tx (common_ballot slots tx) ++ promises_of slots tx)

-- those of some transactions, in their order
abbrev pub compacted : List TxParts → Slots → List Fact
compacted txs slots = flat_map (transaction_facts slots) txs

-- the facts of a shorter record: those of the slots that facts lead to, of each transaction in the order of their first facts
abbrev pub shorter_facts : List Fact → List Fact
shorter_facts facts = compacted (begun_in facts) (slot facts)

-- facts that an acceptor's record may hold in place of others: they play, and they say the same, whatever is played after them: an
-- acceptor that stands for the one stands for the other, the same facts play, and the shorter record is the same
pub record SaysTheSame (config : Config) (number : ℕ) (kept facts : List Fact) : Type 0 where
  pub play : all_play config (A number) [] kept ≡ true
  pub stands : (more : List Fact) (acceptor : AcceptorParts) → StandsFor config number acceptor (kept ++ more)
      → StandsFor config number acceptor (facts ++ more)
  pub fits : (more : List Fact) (fact : Fact) → plays config (A number) (kept ++ more) fact ≡ plays config (A number) (facts ++ more) fact
  pub shorter : (more : List Fact) → shorter_facts (kept ++ more) ≡ shorter_facts (facts ++ more)

-- facts are the shorter record of others, say the same, and their frames are together no longer
pub record IsCompacted (kept : List Fact) (config : Config) (number : ℕ) (facts : List Fact) : Type 0 where
  pub list : kept ≡ shorter_facts facts
  pub same : SaysTheSame config number kept facts
  pub no_longer : sum (map frame_length kept) ≤ sum (map frame_length facts)

-- facts to keep in place of whatever an acceptor stands for
abbrev pub Compacts : AcceptorParts → (kept : List Fact) → Type 0
Compacts acceptor kept =
    (config : Config) (number : ℕ) (facts : List Fact) → StandsFor config number acceptor facts
    → IsCompacted kept config number facts

-- bytes are the frames of facts, as they are written today, and these are to be kept in place of whatever an acceptor stands for
pub record AreShorterFrames (acceptor : AcceptorParts) (bytes : List ℕ) : Type 0 where
  pub kept : List Fact
  pub written : AreWritten bytes (map entries.Fact kept)
  pub compacts : Compacts acceptor kept
