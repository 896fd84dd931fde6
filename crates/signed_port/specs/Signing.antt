-- How datagrams are signed.
use Rattle.std.specs.Prelude.{◌≡◌, ◌≢◌, ℕ, List, [], ◌∷◌, ◌++◌, length}
use Rattle.hmac.specs.Hmac.{block_tag}
use Rattle.protocol.specs.declared.nodes.NodeId.{NodeId}
use Rattle.protocol.specs.declared.nodes.NodeId.TheVariants.{A, L, R}

-- the two bytes of a node: its kind and its number
abbrev pub node_code : NodeId → List ℕ
node_code (A a) = 0 ∷ a ∷ []
node_code (L l) = 1 ∷ l ∷ []
node_code (R rm) = 2 ∷ rm ∷ []

-- the tag of bytes from a node to another, under a key, in the cluster of a digest
abbrev pub tag_of : (key digest : List ℕ) → (sender receiver : NodeId) → List ℕ → List ℕ
tag_of key digest sender receiver body = block_tag key (digest ++ ((node_code sender ++ node_code receiver) ++ body))

-- what follows the bytes of a signed datagram: who sends them, and the tag
abbrev pub trailer : (key digest : List ℕ) → (sender receiver : NodeId) → List ℕ → List ℕ
trailer key digest sender receiver body = node_code sender ++ tag_of key digest sender receiver body

-- a signed datagram: the bytes, and what follows them
abbrev pub signed : (key digest : List ℕ) → (sender receiver : NodeId) → List ℕ → List ℕ
signed key digest sender receiver body = body ++ trailer key digest sender receiver body

-- a datagram has these bytes, signed by another node for this receiver
pub record IsSigned (key digest : List ℕ) (receiver : NodeId) (body datagram : List ℕ) : Type 0 where
  pub sender : NodeId
  pub other : sender ≢ receiver
  pub is : datagram ≡ signed key digest sender receiver body

-- a datagram is these bytes, then two, then as many as a tag has
pub record AreParts (datagram body code tag : List ℕ) : Type 0 where
  pub whole : datagram ≡ body ++ (code ++ tag)
  pub code_long : length code ≡ 2
  pub tag_long : length tag ≡ 32
