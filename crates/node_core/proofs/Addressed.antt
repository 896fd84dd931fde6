-- How many receivers an address has, and each of them; what is sent in a cluster of some sizes. Ports and clusters need it.
use Rattle.std.proofs.Common.{◌≡◌, ◌∙◌, ℕ, ◌+◌, ◌<◌, List, [], ◌∷◌, ◌++◌, length, map, get_or, refl, sym, ap, arith}
use Rattle.std.specs.List.{flat_map, range_with_len}
use Rattle.std.proofs.lemmas.List.FromFn.{length-map-range_with_len, get_or-map-range_with_len}
use Rattle.xid.specs.Transactions.{TxParts}
use Rattle.wire.specs.Messages.{message_tx}
use Rattle.protocol.specs.declared.decisions.Address.{Address}
use Rattle.protocol.specs.declared.decisions.Address.TheVariants as addresses
use Rattle.protocol.specs.declared.decisions.Outgoing.{Outgoing}
use Rattle.protocol.specs.declared.nodes.NodeId.{NodeId}
use Rattle.protocol.specs.declared.nodes.NodeId.TheVariants.{A, L}
use Rattle.protocol.specs.Effects.{Config, receivers}
use Rattle.protocol.specs.Worlds.{Datagram, datagram_to, datagrams_of}
use Rattle.node_core.specs.declared.config.Sizes.{Sizes}
use Rattle.node_core.specs.declared.receivers.Receivers.{Receivers}
use Rattle.node_core.specs.Configs.{config_by}
use Rattle.node_core.specs.Nodes.{AreSizes}
use Rattle.node_core.specs.Receivers.{receivers_in}

-- so many nodes of one kind
module _ (name : ℕ → NodeId) (r : Receivers) (count : ℕ) (is : receivers_in r ≡ map name (range_with_len 0 count)) where
  -- a count of the nodes that an address names is how many its receivers are
  pub named_count : (n : ℕ) → n ≡ count → n ≡ length (receivers_in r)
  named_count n e = e ∙ sym (length-map-range_with_len name 0 count) ∙ sym (ap length is)

  -- each place among the receivers is below that count
  pub named_there : (i : ℕ) → i < length (receivers_in r) → i < count
  named_there i lt = let e : count ≡ length (receivers_in r) = named_count count refl in omega (arith, lt, e)

  -- the node of a number that is a place among the receivers is the receiver there
  pub named_is : (i : ℕ) → i < length (receivers_in r) → (number : ℕ) → number ≡ i
      → name number ≡ get_or (receivers_in r) i (name number)
  named_is i lt number same =
      let at : 0 + i ≡ i = omega arith in
      ap name same
      ∙ sym (get_or-map-range_with_len name 0 count i i (name number) (named_there i lt) at)
      ∙ sym (ap (λ (nodes : List NodeId). get_or nodes i (name number)) is)

-- ---- what is sent

receivers_as : (config : Config) (sizes : Sizes) → AreSizes config sizes → (address : Address) (tx : TxParts)
    → receivers (config_by sizes []) address tx ≡ receivers config address tx
receivers_as config sizes are (addresses.Node node) tx = refl
receivers_as config sizes are addresses.Acceptors tx = ap (λ (n : ℕ). map A (range_with_len 0 n)) are.acceptors_are
receivers_as config sizes are addresses.Leaders tx = ap (λ (n : ℕ). map L (range_with_len 0 n)) are.leaders_are
receivers_as config sizes are addresses.Managers tx = refl

-- datagrams depend on the sizes of a cluster alone
pub datagrams_as : (config : Config) (sizes : Sizes) → AreSizes config sizes → (who : NodeId) (sends : List Outgoing)
    → flat_map (datagrams_of (config_by sizes []) who) sends ≡ flat_map (datagrams_of config who) sends
datagrams_as config sizes are who [] = refl
datagrams_as config sizes are who (send ∷ sends) =
    ap (λ (rs : List NodeId). map (datagram_to who send.message) rs ++ flat_map (datagrams_of (config_by sizes []) who) sends)
    (receivers_as config sizes are send.to (message_tx send.message))
    ∙ ap (λ (ds : List Datagram). datagrams_of config who send ++ ds) (datagrams_as config sizes are who sends)
