-- What the parts of a datagram say of whether it is signed.
use Rattle.std.proofs.Common.{◌≡◌, ◌≢◌, ℕ, ◌+◌, ◌<◌, List, ◌++◌, length, take, drop, refl, sym, ◌∙◌, ap, arith, length-append}
use Rattle.std.proofs.Math.Seq.{take-append_seam, drop-append_seam}
use Rattle.hmac.proofs.Blocks.{length-block_tag}
use Rattle.protocol.specs.declared.nodes.NodeId.{NodeId}
use Rattle.protocol.specs.declared.nodes.NodeId.TheVariants.{A, L, R}
use Rattle.signed_port.specs.Signing.{node_code, tag_of, trailer, signed, IsSigned, AreParts}

-- a code has two bytes
pub length-node_code : (who : NodeId) → length (node_code who) ≡ 2
length-node_code (A a) = refl
length-node_code (L l) = refl
length-node_code (R rm) = refl

-- a tag has 32 bytes
pub length-tag_of : (key digest : List ℕ) (sender receiver : NodeId) (body : List ℕ) → length (tag_of key digest sender receiver body) ≡ 32
length-tag_of key digest sender receiver body = length-block_tag key (digest ++ ((node_code sender ++ node_code receiver) ++ body))

-- two ways to part a text are one where the front parts are as long
pub fronts_are_one : (a b c d : List ℕ) → a ++ b ≡ c ++ d → length a ≡ length c → a ≡ c
fronts_are_one a b c d e same =
    sym (take-append_seam a b) ∙ ap (λ n. take n (a ++ b)) same ∙ ap (take (length c)) e ∙ take-append_seam c d

pub backs_are_one : (a b c d : List ℕ) → a ++ b ≡ c ++ d → length a ≡ length c → b ≡ d
backs_are_one a b c d e same =
    sym (drop-append_seam a b) ∙ ap (λ n. drop n (a ++ b)) same ∙ ap (drop (length c)) e ∙ drop-append_seam c d

-- of a signed datagram the parts are its own
pub record ArePartsOf (key digest : List ℕ) (me : NodeId) (body code tag : List ℕ) : Type 0 where
  pub sender : NodeId
  pub other : sender ≢ me
  pub code_is : code ≡ node_code sender
  pub tag_is : tag ≡ tag_of key digest sender me body

lengths_are : (a b c d x y : List ℕ) → a ++ (b ++ c) ≡ d ++ (x ++ y) → length b ≡ 2 → length c ≡ 32 → length x ≡ 2 → length y ≡ 32
    → length a ≡ length d
lengths_are a b c d x y e hb hc hx hy =
    let whole : length (a ++ (b ++ c)) ≡ length (d ++ (x ++ y)) = ap length e in
    let one : length (a ++ (b ++ c)) ≡ length a + length (b ++ c) = length-append a (b ++ c) in
    let two : length (d ++ (x ++ y)) ≡ length d + length (x ++ y) = length-append d (x ++ y) in
    let three : length (b ++ c) ≡ length b + length c = length-append b c in
    let four : length (x ++ y) ≡ length x + length y = length-append x y in
    omega (arith, whole, one, two, three, four, hb, hc, hx, hy)

pub parts_of_signed : (key digest : List ℕ) (me : NodeId) (other datagram body code tag : List ℕ) → AreParts datagram body code tag
    → IsSigned key digest me other datagram → ArePartsOf key digest me body code tag
parts_of_signed key digest me other datagram body code tag parts is =
    let sender : NodeId = is.sender in
    let e : body ++ (code ++ tag) ≡ signed key digest sender me other = sym parts.whole ∙ is.is in
    let long : length body ≡ length other =
    lengths_are body code tag other (node_code sender) (tag_of key digest sender me other) e parts.code_long parts.tag_long
    (length-node_code sender) (length-tag_of key digest sender me other) in
    let fronts : body ≡ other = fronts_are_one body (code ++ tag) other (trailer key digest sender me other) e long in
    let backs : code ++ tag ≡ trailer key digest sender me other =
    backs_are_one body (code ++ tag) other (trailer key digest sender me other) e long in
    let short : length code ≡ length (node_code sender) = parts.code_long ∙ sym (length-node_code sender) in record {
      sender = sender;
      other = is.other;
      code_is = fronts_are_one code tag (node_code sender) (tag_of key digest sender me other) backs short;
      tag_is = backs_are_one code tag (node_code sender) (tag_of key digest sender me other) backs short
          ∙ ap (tag_of key digest sender me) (sym fronts);
    }

-- what is too short isn't signed
pub short_is_unsigned : (key digest : List ℕ) (me : NodeId) (body datagram : List ℕ) → length datagram < 34
    → IsSigned key digest me body datagram → ⊥
short_is_unsigned key digest me body datagram short is =
    let e : length datagram ≡ length (signed key digest is.sender me body) = ap length is.is in
    let one : length (signed key digest is.sender me body) ≡ length body + length (trailer key digest is.sender me body) =
    length-append body (trailer key digest is.sender me body) in
    let two : length (trailer key digest is.sender me body) ≡ length (node_code is.sender) + length (tag_of key digest is.sender me body) =
    length-append (node_code is.sender) (tag_of key digest is.sender me body) in
    let three : length (node_code is.sender) ≡ 2 = length-node_code is.sender in
    let four : length (tag_of key digest is.sender me body) ≡ 32 = length-tag_of key digest is.sender me body in
    omega (arith, short, e, one, two, three, four)

-- parts that are right sign their datagram
pub parts_sign : (key digest : List ℕ) (me sender : NodeId) (datagram body code tag : List ℕ) → AreParts datagram body code tag
    → sender ≢ me → code ≡ node_code sender → tag ≡ tag_of key digest sender me body → IsSigned key digest me body datagram
parts_sign key digest me sender datagram body code tag parts other code_is tag_is = record {
  sender = sender;
  other = other;
  is = parts.whole ∙ ap (λ xs. body ++ (xs ++ tag)) code_is ∙ ap (λ xs. body ++ (node_code sender ++ xs)) tag_is;
}

-- a code is of one node
pub code_is_one : (a b : NodeId) → node_code a ≡ node_code b → a ≡ b
code_is_one (A a) (A b) e = cc
code_is_one (A a) (L b) e = cc
code_is_one (A a) (R b) e = cc
code_is_one (L a) (A b) e = cc
code_is_one (L a) (L b) e = cc
code_is_one (L a) (R b) e = cc
code_is_one (R a) (A b) e = cc
code_is_one (R a) (L b) e = cc
code_is_one (R a) (R b) e = cc

-- of a signed datagram the tag is that of its sender
pub tag_of_signed : (key digest : List ℕ) (me sender : NodeId) (other datagram body code tag : List ℕ) → AreParts datagram body code tag
    → code ≡ node_code sender → IsSigned key digest me other datagram → tag ≡ tag_of key digest sender me body
tag_of_signed key digest me sender other datagram body code tag parts code_is is =
    let theirs : ArePartsOf key digest me body code tag = parts_of_signed key digest me other datagram body code tag parts is in
    let same : theirs.sender ≡ sender = code_is_one theirs.sender sender (sym theirs.code_is ∙ code_is) in
    theirs.tag_is ∙ ap (λ who. tag_of key digest who me body) same

-- a datagram whose code is of one node isn't signed by another
pub sender_of_signed : (key digest : List ℕ) (me sender : NodeId) (other datagram body code tag : List ℕ) → AreParts datagram body code tag
    → code ≡ node_code sender → IsSigned key digest me other datagram → sender ≢ me
sender_of_signed key digest me sender other datagram body code tag parts code_is is =
    λ same.
    let theirs : ArePartsOf key digest me body code tag = parts_of_signed key digest me other datagram body code tag parts is in
    theirs.other (code_is_one theirs.sender sender (sym theirs.code_is ∙ code_is) ∙ same)
