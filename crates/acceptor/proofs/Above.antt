-- What is left of an acceptor above a floor stands for the facts that are kept.
-- Needed by `Acceptor::above`.
use Rattle.std.proofs.Common.{◌≡◌, ◌∙◌, ℕ, Bool, true, false, not, if◌then◌else◌, List, [], Some, refl, sym, ap, subst}
use Rattle.std.specs.List.{list_any}
use Rattle.std.proofs.lemmas.Bool.{not-true}
use Rattle.xid.specs.Places.{Place, is_below}
use Rattle.xid.specs.Transactions.{TxParts, tx_eq}
use Rattle.xid.proofs.Deciding.{tx_decides}
use Rattle.ballot.specs.Slots.{empty_slot}
use Rattle.ballot.specs.declared.slot.Slot.{Slot}
use Rattle.stable_record.specs.declared.fact.FactKind.{FactKind as Fact}
use Rattle.stable_record.specs.Facts.{fact_tx}
use Rattle.transactions.proofs.Above.{first_passing}
use Rattle.protocol.specs.declared.nodes.NodeId.TheVariants.{A}
use Rattle.protocol.specs.Effects.{Config}
use Rattle.protocol.specs.Facts.{slot}
use Rattle.protocol.specs.Kept.{kept_facts}
use Rattle.protocol.proofs.Kept.Facts.{slot_kept}
use Rattle.protocol.proofs.Kept.Playing.{all_play_kept}
use Rattle.protocol.proofs.Lists.{any_found, filter_kept}
use Rattle.acceptor.specs.Acceptors.{AcceptorParts, StandsFor, begun_in}
use Rattle.acceptor.specs.SlotTables.{slot_in, txs_above}
use Rattle.acceptor.proofs.Begun.{unbegun_empty}

module _ (place : Place) where
  abbrev p : TxParts → Bool
  p tx = not (is_below (Some place) tx)

  begun_above : (facts : List Fact) → begun_in (kept_facts (Some place) facts) ≡ txs_above place (begun_in facts)
  begun_above facts = first_passing p fact_tx facts

  -- one that is among those above isn't below
  above_there : (txs : List TxParts) (tx : TxParts) → list_any (tx_eq tx) (txs_above place txs) ≡ true → is_below (Some place) tx ≡ false
  above_there txs tx there =
      let found = any_found (tx_eq tx) (txs_above place txs) there in
      let same = (tx_decides tx found.element).0 found.passes in
      subst (λ (t : TxParts). is_below (Some place) t ≡ false) (sym same)
      (not-true (is_below (Some place) found.element) (filter_kept p txs found.element found.among).1)

  slot_by : (facts : List Fact) (tx : TxParts) (i : ℕ) (t : Bool) → list_any (tx_eq tx) (txs_above place (begun_in facts)) ≡ t
      → (if t then slot facts tx i else empty_slot) ≡ slot (kept_facts (Some place) facts) tx i
  slot_by facts tx i true there =
      sym (ap (λ (s : ℕ → Slot). s i) (slot_kept (Some place) tx (above_there (begun_in facts) tx there) facts))
  slot_by facts tx i false absent =
      sym (unbegun_empty (kept_facts (Some place) facts) tx i (ap (list_any (tx_eq tx)) (begun_above facts) ∙ absent))

  -- an acceptor with just these slots and beginnings stands for the facts that are kept
  pub stands_above : (old left : AcceptorParts) (config : Config) (number : ℕ) (facts : List Fact) → StandsFor config number old facts
      → left.number ≡ old.number → left.leaders ≡ old.leaders → left.bundled ≡ old.bundled
      → ((tx : TxParts) (i : ℕ) → slot_in left.table tx i
      ≡ (if list_any (tx_eq tx) (txs_above place old.begun) then slot_in old.table tx i else empty_slot))
      → left.begun ≡ txs_above place old.begun
      → StandsFor config number left (kept_facts (Some place) facts)
  stands_above old left config number facts stands number_is leaders bundled slots begun = record {
    number_is = number_is ∙ stands.number_is;
    leaders_are = leaders ∙ stands.leaders_are;
    bundled_is = bundled ∙ stands.bundled_is;
    slots_are = λ tx i.
        slots tx i
        ∙ (λ k. if list_any (tx_eq tx) (txs_above place (stands.begun_are k)) then stands.slots_are tx i k else empty_slot)
        ∙ slot_by facts tx i (list_any (tx_eq tx) (txs_above place (begun_in facts))) refl;
    played = all_play_kept (Some place) config (A number) [] facts stands.played;
    begun_are = begun ∙ ap (txs_above place) stands.begun_are ∙ sym (begun_above facts);
  }
