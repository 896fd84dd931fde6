-- Which inputs are below a floor, by their bytes.
-- Needed by `is_datagram_below` and `is_message`.
use Rattle.std.proofs.Common.{◌≡◌, ◌≢◌, ◌∙◌, ℕ, Bool, true, false, List, ◌++◌, length, ◌-◌, take, drop, Option, Some, None, refl, sym, ap}
use Rattle.std.proofs.Common.{arith, append_assoc}
use Rattle.std.specs.Prelude.{is_some}
use Rattle.std.specs.Option.{option_map_or}
use Rattle.std.proofs.lemmas.List.{take_rest}
use Rattle.wire.specs.declared.message.Kind.{Kind}
use Rattle.wire.specs.Decoding.{message_at, spells_message}
use Rattle.wire.specs.Grammar.{spelling, number_spelling, component_spelling, branches_spelling, rest_spelling, Spells}
use Rattle.wire.specs.Messages.{message_tx, IsMessage}
use Rattle.wire.specs.Versions.{version_2}
use Rattle.wire.proofs.DecodingLemmas.{found as message_found, spelled as message_spelled}
use Rattle.wire.proofs.Fields.{tx_valid}
use Rattle.protocol.specs.Nodes.{Received, ReceivedNoise}
use Rattle.node_core.specs.Nodes.{datagram_input}
use Rattle.xid.specs.Places.{Place, tx_place, is_lower}
use Rattle.floors.specs.Nodes.{is_input_below}
use Rattle.wire.specs.Names.{place_spelling, name_at}
use Rattle.wire.proofs.Places.{name_again}

-- a message's name stands behind its version and kind
record Names (bytes : List ℕ) (k : Kind) : Type 0 where
  pub rest : List ℕ
  pub taken : name_at (drop 2 bytes) ≡ Some (tx_place (message_tx k), rest)

-- a transaction begins with its name
grouped : (a b c d : List ℕ) → (a ++ (b ++ c)) ++ d ≡ (a ++ b) ++ (c ++ d)
grouped a b c d =
    append_assoc a (b ++ c) d ∙ ap (λ (xs : List ℕ). a ++ xs) (append_assoc b c d) ∙ sym (append_assoc a b (c ++ d))

named : (bytes : List ℕ) (k : Kind) → message_at bytes ≡ Some k → Names bytes k
named bytes k e =
    let is = message_spelled k bytes e in
    let tx = message_tx k in
    let valid = tx_valid k is.message in
    let branches : List ℕ = branches_spelling version_2 tx.branches in
    let said : List ℕ = rest_spelling version_2 k in
    let whole : drop 2 bytes ≡ place_spelling (tx_place tx) ++ (branches ++ said) =
    ap (drop 2) is.spelled ∙ grouped (number_spelling tx.format) (component_spelling tx.gtrid) branches said in
    record {
      rest = branches ++ said;
      taken =
          ap name_at whole
          ∙ name_again (tx_place tx) (branches ++ said)
          (record { format = omega (arith, valid.format); few = valid.gtrid.few; bytes = valid.gtrid.bytes });
    }

module _ (place : Place) (bytes : List ℕ) where
  -- whether the name that stands behind version and kind is below the floor
  abbrev pub name_is_below : Bool
  name_is_below = option_map_or (λ x. is_lower (Some x.0) (Some place)) (name_at (drop 2 bytes)) false

  -- the same of what stands behind the first two bytes, as it is cut out
  pub cut_is_below : option_map_or (λ x. is_lower (Some x.0) (Some place)) (name_at (take (length bytes - 2) (drop 2 bytes))) false
      ≡ name_is_below
  cut_is_below = ap (λ xs. option_map_or (λ x. is_lower (Some x.0) (Some place)) (name_at xs) false) (take_rest bytes 2)

  above_by : (o : Option Kind) → message_at bytes ≡ o → name_is_below ≡ false
      → is_input_below (Some place) (option_map_or Received o ReceivedNoise) ≡ false
  above_by None e above = refl
  above_by (Some k) e above =
      let name = named bytes k e in
      sym (ap (λ o. option_map_or (λ x. is_lower (Some x.0) (Some place)) o false) name.taken) ∙ above

  -- where that isn't below the floor, no message is
  pub above_name : name_is_below ≡ false → is_input_below (Some place) (datagram_input bytes) ≡ false
  above_name above = above_by (message_at bytes) refl above

  below_by : (o : Option Kind) → message_at bytes ≡ o → name_is_below ≡ true
      → is_input_below (Some place) (option_map_or Received o ReceivedNoise) ≡ is_some o
  below_by None e below = refl
  below_by (Some k) e below =
      let name = named bytes k e in
      sym (ap (λ o. option_map_or (λ x. is_lower (Some x.0) (Some place)) o false) name.taken) ∙ below

  -- and where it is, a message is, and noise isn't
  pub below_name : name_is_below ≡ true → is_input_below (Some place) (datagram_input bytes) ≡ spells_message bytes
  below_name below = below_by (message_at bytes) refl below

-- what a view says of whether bytes spell a message
pub is_spelled : (k : Kind) (bytes : List ℕ) → Spells k bytes → spells_message bytes ≡ true
is_spelled k bytes is = ap is_some (message_found k bytes is)

pub is_noise : (bytes : List ℕ) → ((k : Kind) → IsMessage k → bytes ≢ spelling k) → spells_message bytes ≡ false
is_noise bytes none = by (message_at bytes) refl
  where
    by : (o : Option Kind) → message_at bytes ≡ o → is_some o ≡ false
    by None e = refl
    by (Some k) e = let is = message_spelled k bytes e in absurd (none k is.message is.spelled)
