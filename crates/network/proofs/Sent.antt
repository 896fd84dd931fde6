-- One message to several receivers.
-- Needed by crate cluster.
use Rattle.std.proofs.Common.{◌≡◌, List, [], ◌∷◌, ◌++◌, map, refl, sym, ap, ◌∙◌, subst, append_assoc}
use Rattle.std.proofs.lemmas.List.{map_push}
use Rattle.wire.specs.declared.message.Kind.{Kind}
use Rattle.protocol.specs.declared.nodes.NodeId.{NodeId}
use Rattle.protocol.specs.Worlds.{Datagram, datagram_to}
use Rattle.network.specs.Networks.{NetworkParts, StandsFor}

-- the last of those sent, and what is before it
split_sent : (f : NodeId → Datagram) (net : List Datagram) (x : NodeId) (xs : List NodeId)
    → (before : List Datagram) × (r : NodeId) × (net ++ map f (x ∷ xs) ≡ before ++ f r ∷ [])
split_sent f net x [] = (net, x, refl)
split_sent f net x (y ∷ ys) =
    let rest : (before : List Datagram) × (r : NodeId) × ((net ++ f x ∷ []) ++ map f (y ∷ ys) ≡ before ++ f r ∷ []) =
    split_sent f (net ++ f x ∷ []) y ys in
    (rest.0, rest.1, sym (append_assoc net (f x ∷ []) (map f (y ∷ ys))) ∙ rest.2)

-- and to one receiver more
pub sent_again : (old new : NetworkParts) (sender : NodeId) (message : Kind) (receiver : NodeId)
    → ((net : List Datagram) (last : Datagram) → StandsFor old (net ++ last ∷ [])
    → StandsFor new (net ++ last ∷ [] ++ datagram_to last.sender last.message receiver ∷ []))
    → (net : List Datagram) (x : NodeId) (xs : List NodeId) → StandsFor old (net ++ map (datagram_to sender message) (x ∷ xs))
    → StandsFor new (net ++ map (datagram_to sender message) (x ∷ (xs ++ receiver ∷ [])))
sent_again old new sender message receiver again net x xs stands =
    let f : NodeId → Datagram = datagram_to sender message in
    let last : (before : List Datagram) × (r : NodeId) × (net ++ map f (x ∷ xs) ≡ before ++ f r ∷ []) = split_sent f net x xs in
    let more : StandsFor new (last.0 ++ f last.1 ∷ [] ++ f receiver ∷ []) =
    again last.0 (f last.1) (subst (λ n. StandsFor old n) last.2 stands) in
    subst (λ n. StandsFor new n)
    (ap (λ (n : List Datagram). n ++ f receiver ∷ []) (sym last.2)
    ∙ append_assoc net (map f (x ∷ xs)) (f receiver ∷ [])
    ∙ ap (λ (ds : List Datagram). net ++ ds) (sym (map_push f (x ∷ xs) receiver))) more
