-- What an acceptor decides and plays, for whatever it stands for.
use Rattle.std.proofs.Common.{◌≡◌, ◌∙◌, ℕ, Bool, true, false, not, ◌&&◌, cond, ltb, leb, List, Ok, Err, refl, sym, ap, subst}
use Rattle.std.specs.Prelude.{◌<◌, IfSome, IfErr, OnOk, Result, []}
use Rattle.std.proofs.lemmas.Bool.{and_from}
use Rattle.xid.specs.Transactions.{TxParts, is_participant}
use Rattle.xid.specs.declared.refusals.Refusal.{Refusal}
use Rattle.xid.specs.declared.refusals.Refusal.TheVariants.{Damaged, NoMemory}
use Rattle.xid.specs.declared.transaction.Vote.{Vote}
use Rattle.wire.specs.declared.message.Kind.TheVariants.{P1a, P2a}
use Rattle.wire.specs.Messages.{IsMessage}
use Rattle.stable_record.specs.declared.fact.FactKind.{FactKind as Fact}
use Rattle.stable_record.specs.Facts.{fact_tx}
use Rattle.protocol.specs.declared.decisions.Decision.{Decision}
use Rattle.protocol.specs.declared.decisions.Outgoing.{Outgoing}
use Rattle.protocol.specs.Facts.{slot}
use Rattle.protocol.specs.Acceptors.{Slots, plays_at_acceptor, is_accepted, is_some_below, on_1a, on_b1a, on_2a}
use Rattle.protocol.specs.Effects.{Config, Effect, decision_of, no_effect, stores, sends_only}
use Rattle.stable_record.specs.Parts.{Plays, IsPlayed, IsMadeReady}
use Rattle.protocol.specs.declared.nodes.NodeId.TheVariants.{A}
use Rattle.protocol.proofs.Manager.Played.{all_play_then}
use Rattle.transactions.specs.Seen.{seen_with}
use Rattle.transactions.proofs.First.{first_more}
use Rattle.acceptor.specs.Slots.{slots_of, after_fact}
use Rattle.acceptor.specs.SlotTables.{TableParts, IsSeen, slots_in, slot_in}
use Rattle.acceptor.specs.Acceptors.{AcceptorParts, StandsFor, Decides, acceptor_part}
use Rattle.acceptor.proofs.Played.{slot_more, plays_alone}

-- ---- decisions

slots_are : {config : Config} {number : ℕ} {a : AcceptorParts} {facts : List Fact} → StandsFor config number a facts → slot_in a.table
    ≡ slot facts
slots_are stands = λ k tx i. stands.slots_are tx i k

-- an acceptor decides by a rule of its slots
pub decides : (a : AcceptorParts) (decision : Decision) (rule : Config → ℕ → Slots → Effect (Unit {0}))
    → ((config : Config) → a.leaders ≡ config.leaders → a.bundled ≡ config.bundled → decision
    ≡ decision_of (rule config a.number (slot_in a.table)))
    → ((config : Config) (number : ℕ) (slots : Slots)
    → IfSome (rule config number slots).fact (λ fact. plays_at_acceptor slots fact ≡ true))
    → Decides a decision rule
decides a decision rule is plays config number facts stands =
    let same = is config stands.leaders_are stands.bundled_is
    ∙ (λ k. decision_of (rule config (stands.number_is k) (slots_are stands k))) in
    record {
      effect_is = same;
      plays = subst (λ (d : Decision). IfSome d.fact (λ fact. plays_at_acceptor (slot facts) fact ≡ true)) (sym same) (plays config number
          (slot facts));
    }

-- one effect or the other
abbrev chosen : Bool → Effect (Unit {0}) → Effect (Unit {0}) → Effect (Unit {0})
chosen t yours mine = cond t yours mine

-- a fact that is stored where a test passes
stored_plays : (slots : Slots) (fact : Fact) (sends : List Outgoing) (t : Bool) → (t ≡ true → plays_at_acceptor slots fact ≡ true)
    → IfSome (chosen t (stores tt fact sends) (no_effect tt)).fact (λ f. plays_at_acceptor slots f ≡ true)
stored_plays slots fact sends true plays = plays refl
stored_plays slots fact sends false plays = tt

accept_plays : (slots : Slots) (fact : Fact) (sends : List Outgoing) (t u : Bool) →
    (t ≡ true → u ≡ false → plays_at_acceptor slots fact ≡ true)
    → IfSome (chosen t (chosen u (sends_only tt sends) (stores tt fact sends)) (no_effect tt)).fact (λ f. plays_at_acceptor slots f ≡ true)
accept_plays slots fact sends true true plays = tt
accept_plays slots fact sends true false plays = plays refl refl
accept_plays slots fact sends false u plays = tt

-- a fact that phase 1a stores plays
pub plays_1a : (tx : TxParts) (i b : ℕ) → IsMessage (P1a tx i b) → (config : Config) (number : ℕ) (slots : Slots)
    → IfSome (on_1a config number slots tx i b).fact (λ fact. plays_at_acceptor slots fact ≡ true)
plays_1a tx i b is config number slots =
    stored_plays slots (Fact.Promise tx i b) _ (ltb (slots tx i).mbal b) (λ lt. and_from (is_participant tx i) (ltb
    (slots tx i).mbal b) is.0.named lt)

-- so does one that phase 1a of all instances stores
pub plays_b1a : (tx : TxParts) (b : ℕ) (config : Config) (number : ℕ) (slots : Slots)
    → IfSome (on_b1a config number slots tx b).fact (λ fact. plays_at_acceptor slots fact ≡ true)
plays_b1a tx b config number slots = stored_plays slots (Fact.PromiseAll tx b) _ (is_some_below slots tx b) (λ some. some)

-- and one that phase 2a does
pub plays_2a : (tx : TxParts) (i b : ℕ) (v : Vote) → IsMessage (P2a tx i b v) → (config : Config) (number : ℕ) (slots : Slots)
    → IfSome (on_2a config number slots tx i b v).fact (λ fact. plays_at_acceptor slots fact ≡ true)
plays_2a tx i b v is config number slots =
    accept_plays slots (Fact.Accept tx i b v) _ (leb (slots tx i).mbal b) (is_accepted (slots tx i) b v) (λ le new.
    and_from (is_participant tx i && leb (slots tx i).mbal b) (not (is_accepted (slots tx i) b v))
    (and_from (is_participant tx i) (leb (slots tx i).mbal b) is.0.named le) (ap not new))

-- ---- playing

-- whether a fact plays is asked of its transaction's slots
pub plays_there : (table : TableParts) (fact : Fact) (tx : TxParts) (slots : List _) (r : Bool) → tx ≡ fact_tx fact → slots
    ≡ slots_in table tx
    → r ≡ plays_at_acceptor (slots_of (fact_tx fact) slots) fact → plays_at_acceptor (slot_in table) fact ≡ r
plays_there table fact tx slots r same is e =
    sym (plays_alone (slot_in table) fact)
    ∙ ap (λ ss. plays_at_acceptor (slots_of (fact_tx fact) ss) fact) (sym (is ∙ ap (slots_in table) same)) ∙ sym e

plays_for : (config : Config) (number : ℕ) (a : AcceptorParts) (fact : Fact) (r : Bool) → plays_at_acceptor (slot_in a.table) fact ≡ r
    → Plays (acceptor_part config number) a fact r
plays_for config number a fact r e facts stands = ap (λ slots. plays_at_acceptor slots fact) (sym (slots_are stands)) ∙ e

-- with the same slots it plays, too
pub plays_same : (old new : TableParts) (fact : Fact) → ((tx : TxParts) (i : ℕ) → slot_in new tx i ≡ slot_in old tx i)
    → plays_at_acceptor (slot_in old) fact ≡ true → plays_at_acceptor (slot_in new) fact ≡ true
plays_same old new fact same e = (λ k. plays_at_acceptor (λ tx i. same tx i k) fact) ∙ e

-- an acceptor with another table, and another order
abbrev pub with_parts : AcceptorParts → TableParts → List TxParts → ℕ → AcceptorParts
with_parts a table begun room =
    record { number = a.number; leaders = a.leaders; bundled = a.bundled; table = table; begun = begun; room = room }

-- with the same slots in the same order it stands for the same
pub stands_still : (a : AcceptorParts) (table : TableParts) (begun : List TxParts) (room : ℕ)
    → ((tx : TxParts) (i : ℕ) → slot_in table tx i ≡ slot_in a.table tx i) → begun ≡ a.begun
    → (config : Config) (number : ℕ) (facts : List Fact) → StandsFor config number a facts
    → StandsFor config number (with_parts a table begun room) facts
stands_still a table begun room same order config number facts stands = record {
  number_is = stands.number_is;
  leaders_are = stands.leaders_are;
  bundled_is = stands.bundled_is;
  slots_are = λ tx i. same tx i ∙ stands.slots_are tx i;
  played = stands.played;
  begun_are = order ∙ stands.begun_are;
}

module _ (a : AcceptorParts) (fact : Fact) where
  -- where a fact doesn't play, it is refused as damaged
  pub is_damaged : plays_at_acceptor (slot_in a.table) fact ≡ false → (config : Config) (number : ℕ)
      → IsPlayed (acceptor_part config number) a a fact (Err Damaged)
  is_damaged e config number = (plays_for config number a fact false e, λ facts stands. stands)

  -- where memory is refused, the acceptor wasn't ready, and stands for the same
  pub lacks_memory : (table : TableParts) (begun : List TxParts) (room : ℕ) → plays_at_acceptor (slot_in a.table) fact ≡ true
      → (IsSeen a.table (fact_tx fact) × (0 < a.room) → ⊥) → ((tx : TxParts) (i : ℕ) → slot_in table tx i ≡ slot_in a.table tx i)
      → begun ≡ a.begun
      → (config : Config) (number : ℕ) → IsPlayed (acceptor_part config number) a (with_parts a table begun room) fact (Err NoMemory)
  lacks_memory table begun room e unready same order config number = (
    plays_for config number a fact true e,
    unready,
    λ facts stands. stands_still a table begun room same order config number facts stands,
  )

  -- a fact that plays leads to the facts with it
  pub is_played : (ready table : TableParts) (begun : List TxParts) (room : ℕ) → plays_at_acceptor (slot_in a.table) fact ≡ true
      → ((tx : TxParts) (i : ℕ) → slot_in ready tx i ≡ slot_in a.table tx i)
      → ((tx : TxParts) (i : ℕ) → slot_in table tx i ≡ after_fact tx i (slot_in ready tx i) fact)
      → begun ≡ seen_with a.begun (fact_tx fact)
      → (config : Config) (number : ℕ) → IsPlayed (acceptor_part config number) a (with_parts a table begun room) fact (Ok tt)
  is_played ready table begun room e same step order config number = (
    plays_for config number a fact true e,
    λ facts stands. record {
      number_is = stands.number_is;
      leaders_are = stands.leaders_are;
      bundled_is = stands.bundled_is;
      slots_are = λ tx i.
          step tx i ∙ ap (λ s. after_fact tx i s fact) (same tx i ∙ stands.slots_are tx i) ∙ sym (slot_more facts fact tx i);
      played = all_play_then config (A number) [] facts fact stands.played (plays_for config number a fact true e facts stands);
      begun_are = order ∙ ap (λ seen. seen_with seen (fact_tx fact)) stands.begun_are ∙ sym (first_more fact_tx facts fact);
    },
  )

  -- made ready: its transaction is seen, and there is room for it, or not for want of memory
  pub is_ready : (table : TableParts) (begun : List TxParts) (room : ℕ) (r : Result (Unit {0}) Refusal)
      → ((tx : TxParts) (i : ℕ) → slot_in table tx i ≡ slot_in a.table tx i) → begun ≡ a.begun → IsSeen table (fact_tx fact)
      → OnOk r (0 < room) → (P : Type 0) → IfErr r (λ refusal. (refusal ≡ NoMemory) × P)
      → (config : Config) (number : ℕ) → IsMadeReady (acceptor_part config number) a (with_parts a table begun room) fact r
  is_ready table begun room (Ok done) same order seen some P err config number =
      (λ facts stands. stands_still a table begun room same order config number facts stands, (seen, some))
  is_ready table begun room (Err refusal) same order seen some P err config number =
      subst (λ e. IsMadeReady (acceptor_part config number) a (with_parts a table begun room) fact (Err e)) (sym err.0)
      (λ facts stands. stands_still a table begun room same order config number facts stands)
