-- Datagrams that are put into a network, the room for them, and how those that an event sent are read off it: for the functions of
-- `sending`, and for each event.
use Rattle.std.proofs.Common.{◌≡◌, ◌∙◌, ℕ, zero, suc, ◌+◌, ◌-◌, ◌*◌, ◌<◌, ◌≤◌, Bool, true, false, List, [], ◌∷◌, ◌++◌, length, map, take}
use Rattle.std.proofs.Common.{◌≢◌, Option, Some, None, drop, get_or, refl, sym, ap, subst, append_assoc, length-append, nat_lt, arith}
use Rattle.std.specs.List.{AllZip, flat_map}
use Rattle.std.specs.Option.{option_map_or}
use Rattle.std.proofs.Math.Nat.{suc-mul, one-mul, mul-le-mul_right}
use Rattle.std.proofs.Math.Seq.{drop-append_seam}
use Rattle.std.proofs.lemmas.Grind.{flat_map-append}
use Rattle.std.proofs.lemmas.List.{append-nil, take_more, take_all, drop_more, length-drop, length-take-le, length-map}
use Rattle.wire.specs.declared.grammar.TheConstants.{MAX_MESSAGE_BYTES}
use Rattle.wire.specs.declared.message.Kind.{Kind}
use Rattle.wire.specs.Grammar.{Spells, spelling}
use Rattle.wire.specs.Decoding.{message_at}
use Rattle.wire.specs.Messages.{IsMessage}
use Rattle.wire.proofs.DecodingLemmas.{found, spelled}
use Rattle.protocol.specs.declared.events.Sent.{Sent}
use Rattle.protocol.specs.declared.nodes.NodeId.{NodeId}
use Rattle.protocol.specs.Worlds.{Datagram, numbered, datagram_to}
use Rattle.network.specs.Networks.{DatagramParts, NetworkParts, StandsFor, IsKept}
use Rattle.network.proofs.Sent.{sent_again}
use Rattle.network.proofs.Standing.{same_length}
use Rattle.cluster.specs.Clusters.{listed_at, listed_from, sent_after}
use Rattle.cluster.specs.Sending.{HaveSent, HasRoom, KeepsRoom}

-- ---- bytes that spell no message

-- bytes that spell nothing are no message
pub none_by : (bytes : List ℕ) (read : Option Kind) → message_at bytes ≡ read → ((k : Kind) → Spells k bytes → ⊥) → message_at bytes ≡ None
none_by bytes None e none = e
none_by bytes (Some k) e none = absurd (none k (spelled k bytes e))

-- so are those that are no message's spelling
pub no_message : (bytes : List ℕ) → ((k : Kind) → IsMessage k → bytes ≢ spelling k) → message_at bytes ≡ None
no_message bytes none = none_by bytes (message_at bytes) refl (λ k s. none k s.message s.spelled)

-- ---- sent

-- nothing was sent
pub none_sent : (network : NetworkParts) → HaveSent network network []
none_sent network = λ net s. subst (λ (n : List Datagram). StandsFor network n) (sym (append-nil net)) s

sent_then : (a b c : NetworkParts) (first more : List Datagram) → HaveSent a b first → HaveSent b c more → HaveSent a c (first ++ more)
sent_then a b c first more h k = λ net s.
    subst (λ (n : List Datagram). StandsFor c n) (append_assoc net first more) (k (net ++ first) (h net s))

-- no message
pub nothing_sent : {X : Type 0} (f : X → List Datagram) (all : List X) (network : NetworkParts) → length all ≡ 0
    → HaveSent network network (flat_map f all)
nothing_sent f [] network none = none_sent network
nothing_sent f (y ∷ ys) network none = absurd (omega (arith, none))

-- the one message that is all that is sent
pub only_sent : {X : Type 0} (f : X → List Datagram) (all : List X) (x : X) → all ≡ x ∷ [] → flat_map f all ≡ f x
only_sent f all x is = ap (flat_map f) is ∙ append-nil (f x)

-- ---- receiver after receiver

-- a message once more: it is the last that was put
pub put_again : (old new : NetworkParts) (sender : NodeId) (message : Kind) (receiver : NodeId) (again : Bool) → again ≡ true
    → ((net : List Datagram) (last : Datagram) → StandsFor old (net ++ last ∷ [])
    → StandsFor new (net ++ last ∷ [] ++ datagram_to last.sender last.message receiver ∷ []))
    → (net : List Datagram) (before : List NodeId) → again ≡ nat_lt 0 (length before)
    → StandsFor old (net ++ map (datagram_to sender message) before)
    → StandsFor new (net ++ map (datagram_to sender message) (before ++ receiver ∷ []))
put_again old new sender message receiver again is push net [] first stands = let e : true ≡ false = sym is ∙ first in absurd (cc (e))
put_again old new sender message receiver again is push net (x ∷ xs) first stands =
    sent_again old new sender message receiver push net x xs stands

module _ (start now new : NetworkParts) (sender : NodeId) (message : Kind) (receivers : List NodeId) (i : ℕ) (receiver : NodeId)
    (lt : i < length receivers) (read : receiver ≡ get_or receivers i receiver) where
  -- a datagram to one receiver more
  pub next_put : ((net : List Datagram) (before : List NodeId) → nat_lt 0 i ≡ nat_lt 0 (length before)
      → StandsFor now (net ++ map (datagram_to sender message) before)
      → StandsFor new (net ++ map (datagram_to sender message) (before ++ receiver ∷ [])))
      → HaveSent start now (map (datagram_to sender message) (take i receivers))
      → HaveSent start new (map (datagram_to sender message) (take (i + 1) receivers))
  next_put put h = λ net s.
      let more : take (i + 1) receivers ≡ take i receivers ++ receiver ∷ [] =
      take_more receivers i receiver lt ∙ ap (λ (r : NodeId). take i receivers ++ r ∷ []) (sym read) in
      let count : length (take i receivers) ≡ i = length-take-le i receivers (omega (arith, lt)) in
      subst (λ (rs : List NodeId). StandsFor new (net ++ map (datagram_to sender message) rs)) (sym more)
      (put net (take i receivers) (ap (λ (n : ℕ). nat_lt 0 n) (sym count)) (h net s))

-- as many as there are receivers
pub count_sent : {X : Type 0} (f : NodeId → X) {receivers others : List NodeId} → receivers ≡ others
    → length (map f others) ≡ length receivers
count_sent f {receivers} {others} same = length-map others f ∙ sym (ap length same)

-- ---- room

-- room for one of them
room_for_one : (network : NetworkParts) (count : ℕ) → 0 < count → HasRoom count network → HasRoom 1 network
room_for_one network zero some room = absurd (omega (arith, some))
room_for_one network (suc more) some room =
    let split : suc more * MAX_MESSAGE_BYTES ≡ more * MAX_MESSAGE_BYTES + MAX_MESSAGE_BYTES = suc-mul more MAX_MESSAGE_BYTES in
    let one : 1 * MAX_MESSAGE_BYTES ≡ MAX_MESSAGE_BYTES = one-mul MAX_MESSAGE_BYTES in
    record {
      datagrams = omega (arith, room.datagrams);
      bytes =
          subst (λ (n : ℕ). n ≤ network.spare_bytes) (sym one)
          (second (more * MAX_MESSAGE_BYTES) MAX_MESSAGE_BYTES network.spare_bytes
          (subst (λ (n : ℕ). n ≤ network.spare_bytes) split room.bytes));
    }
  where
    second : (a b c : ℕ) → a + b ≤ c → b ≤ c
    second a b c le = omega (arith, le)

-- so many of them are left to be put, and there is room for them
module _ (start now : NetworkParts) (count i : ℕ)
    (so : (more : ℕ) → HasRoom (count + more) start → HasRoom (count - i + more) now) where
  -- there is room for it
  pub room_there : HasRoom count start → i < count → HasRoom 1 now
  room_there room lt =
      let all : count ≡ count + 0 = omega arith in
      let some : 0 < count - i + 0 = omega (arith, lt) in
      room_for_one now (count - i + 0) some (so 0 (subst (λ (n : ℕ). HasRoom n start) all room))

  -- one more of them was put
  pub room_next : (new : NetworkParts) → i < count → KeepsRoom 1 now new → (more : ℕ) → HasRoom (count + more) start
      → HasRoom (count - (i + 1) + more) new
  room_next new lt keeps more room =
      let e : count - i + more ≡ 1 + (count - (i + 1) + more) = omega (arith, lt) in
      keeps (count - (i + 1) + more) (subst (λ (n : ℕ). HasRoom n now) e (so more room))

  -- and all were
  pub room_after : count ≤ i → KeepsRoom count start now
  room_after end more room =
      let e : count - i + more ≡ more = omega (arith, end) in subst (λ (n : ℕ). HasRoom n now) e (so more room)

-- ---- message after message

-- so many messages were sent, and there is room for the rest
pub record AreSent {X : Type 0} (f : X → List Datagram) (xs : List X) (start now : NetworkParts) (k : ℕ) : Type 0 where
  pub sent : HaveSent start now (flat_map f (take k xs))
  pub room : HasRoom (length (flat_map f (drop k xs))) now

module _ {X : Type 0} (f : X → List Datagram) (xs : List X) (start now : NetworkParts) (k : ℕ) (message : X)
    (lt : k < length xs) (read : message ≡ get_or xs k message) (so : AreSent f xs start now k) where
  -- how many are left, the next message's among them
  flat_left : length (flat_map f (drop k xs)) ≡ length (f message) + length (flat_map f (drop (k + 1) xs))
  flat_left =
      ap (λ (ys : List X). length (flat_map f ys)) (drop_more xs k message lt ∙ ap (λ (y : X). y ∷ drop (k + 1) xs) (sym read))
      ∙ length-append (f message) (flat_map f (drop (k + 1) xs))

  -- there is room for the next message
  pub next_room : HasRoom (length (f message)) now
  next_room =
      let le : length (f message) ≤ length (flat_map f (drop k xs)) = omega (arith, flat_left) in
      let bytes : length (f message) * MAX_MESSAGE_BYTES ≤ length (flat_map f (drop k xs)) * MAX_MESSAGE_BYTES =
      mul-le-mul_right MAX_MESSAGE_BYTES le in
      record {
        datagrams = omega (arith, so.room.datagrams, le);
        bytes = through _ _ now.spare_bytes bytes so.room.bytes;
      }
    where
      through : (a b c : ℕ) → a ≤ b → b ≤ c → a ≤ c
      through a b c le more = omega (arith, le, more)

  -- what is sent, with one message more
  pub next_sent : (new : NetworkParts) → HaveSent now new (f message) → KeepsRoom (length (f message)) now new
      → AreSent f xs start new (k + 1)
  next_sent new more keeps = record {
    sent = subst (λ (ds : List Datagram). HaveSent start new ds) flat_more (sent_then start now new _ _ so.sent more);
    room = keeps (length (flat_map f (drop (k + 1) xs))) (subst (λ (n : ℕ). HasRoom n now) flat_left so.room);
  }
    where
      flat_more : flat_map f (take k xs) ++ f message ≡ flat_map f (take (k + 1) xs)
      flat_more =
          ap (λ (ds : List Datagram). flat_map f (take k xs) ++ ds) (sym (append-nil (f message)))
          ∙ sym (flat_map-append f (take k xs) (message ∷ []))
          ∙ ap (flat_map f) (ap (λ (y : X). take k xs ++ y ∷ []) read ∙ sym (take_more xs k message lt))

-- ---- what an event sent, read off the network

drop_numbered : (k n : ℕ) (net : List Datagram) → drop k (numbered n net) ≡ numbered (n + k) (drop k net)
drop_numbered zero n net = let e : n ≡ n + 0 = omega arith in ap (λ (m : ℕ). numbered m net) e
drop_numbered (suc k) n [] = refl
drop_numbered (suc k) n (d ∷ net) =
    let e : suc n + k ≡ n + suc k = omega arith in drop_numbered k (suc n) net ∙ ap (λ (m : ℕ). numbered m (drop k net)) e

numbered_count : (n : ℕ) (net : List Datagram) → length (numbered n net) ≡ length net
numbered_count n [] = refl
numbered_count n (d ∷ net) = ap suc (numbered_count (suc n) net)

listed_one : (n : ℕ) (kept : DatagramParts) (d : Datagram) → IsKept kept d
    → listed_at n kept ≡ record { number = n; sender = d.sender; receiver = d.receiver; message = d.message } ∷ []
listed_one n kept d is =
    ap (λ (o : Option Kind). option_map_or (λ m. record { number = n; sender = kept.sender; receiver = kept.receiver; message = m } ∷ [])
    o []) (found d.message kept.bytes is.spells)
    ∙ (λ i. record { number = n; sender = is.sender_is i; receiver = is.receiver_is i; message = d.message } ∷ [])

-- a network lists what it stands for
listed_numbered : (n : ℕ) (kept : List DatagramParts) (net : List Datagram) → AllZip IsKept kept net → listed_from n kept ≡ numbered n net
listed_numbered n [] [] all = refl
listed_numbered n [] (d ∷ net) all = absurd all
listed_numbered n (kept ∷ rest) [] all = absurd all
listed_numbered n (kept ∷ rest) (d ∷ net) all =
    ap (λ (first : List Sent). first ++ listed_from (suc n) rest) (listed_one n kept d all.0)
    ∙ ap (λ (more : List Sent). record { number = n; sender = d.sender; receiver = d.receiver; message = d.message } ∷ more)
    (listed_numbered (suc n) rest net all.1)

dropped_zip : (k : ℕ) (kept : List DatagramParts) (net : List Datagram) → AllZip IsKept kept net → AllZip IsKept (drop k kept) (drop k net)
dropped_zip zero kept net all = all
dropped_zip (suc k) [] [] all = all
dropped_zip (suc k) [] (d ∷ net) all = absurd all
dropped_zip (suc k) (first ∷ kept) [] all = absurd all
dropped_zip (suc k) (first ∷ kept) (d ∷ net) all = dropped_zip k kept net all.1

-- the datagrams that were sent are those that the network has then, beside those that it had
pub sent_is : (before after sent : List Datagram) → numbered 1 after ≡ numbered 1 before ++ numbered (suc (length before)) sent
    → (old new : NetworkParts) → StandsFor old before → StandsFor new after
    → sent_after (length old.datagrams) new ≡ numbered (suc (length before)) sent
sent_is before after sent says old new stood stands =
    let n : ℕ = length before in
    let count : length old.datagrams ≡ n = same_length old.datagrams before stood.datagrams_are in
    let later : 1 + n ≡ suc n = omega arith in
    let all : length (numbered 1 before) ≡ n = numbered_count 1 before in
    ap (λ (k : ℕ). sent_after k new) count
    ∙ listed_numbered (suc n) (drop n new.datagrams) (drop n after) (dropped_zip n new.datagrams after stands.datagrams_are)
    ∙ ap (λ (k : ℕ). numbered k (drop n after)) (sym later)
    ∙ sym (drop_numbered n 1 after)
    ∙ ap (drop n) says
    ∙ ap (λ (k : ℕ). drop k (numbered 1 before ++ numbered (suc n) sent)) (sym all)
    ∙ drop-append_seam (numbered 1 before) (numbered (suc n) sent)

-- ---- one datagram after another is listed

-- those after so many, up to a place
abbrev pub sent_up_to : (count upto : ℕ) → NetworkParts → List Sent
sent_up_to count upto network = listed_from (suc count) (take (upto - count) (drop count network.datagrams))

listed_push : (n : ℕ) (xs : List DatagramParts) (x : DatagramParts)
    → listed_from n (xs ++ x ∷ []) ≡ listed_from n xs ++ listed_at (n + length xs) x
listed_push n [] x =
    let e : n ≡ n + 0 = omega arith in append-nil (listed_at n x) ∙ ap (λ (k : ℕ). listed_at k x) e
listed_push n (first ∷ xs) x =
    let e : suc n + length xs ≡ n + suc (length xs) = omega arith in
    ap (λ (l : List Sent). listed_at n first ++ l)
    (listed_push (suc n) xs x ∙ ap (λ (k : ℕ). listed_from (suc n) xs ++ listed_at k x) e)
    ∙ sym (append_assoc (listed_at n first) (listed_from (suc n) xs) (listed_at (n + suc (length xs)) x))

-- what stands behind the first ones, at its place
pub get_dropped : {X : Type 0} (k : ℕ) (xs : List X) (i : ℕ) (d : X) → get_or (drop k xs) i d ≡ get_or xs (k + i) d
get_dropped zero xs i d = let e : i ≡ 0 + i = omega arith in ap (λ (n : ℕ). get_or xs n d) e
get_dropped (suc k) [] i d = refl
get_dropped (suc k) (x ∷ xs) i d =
    let e : suc (k + i) ≡ suc k + i = omega arith in get_dropped k xs i d ∙ ap (λ (n : ℕ). get_or (x ∷ xs) n d) e

module _ (network : NetworkParts) (count upto : ℕ) where
  -- none yet
  pub up_to_none : upto ≤ count → sent_up_to count upto network ≡ []
  up_to_none le =
      let e : upto - count ≡ 0 = omega (arith, le) in
      ap (λ (n : ℕ). listed_from (suc count) (take n (drop count network.datagrams))) e

  -- one more
  pub up_to_more : count ≤ upto → upto < length network.datagrams → (kept : DatagramParts)
      → kept ≡ get_or network.datagrams upto kept
      → sent_up_to count (upto + 1) network ≡ sent_up_to count upto network ++ listed_at (suc upto) kept
  up_to_more le lt kept is =
      let ds : List DatagramParts = drop count network.datagrams in
      let i : ℕ = upto - count in
      let there : i < length ds = omega (arith, le, lt, length-drop count network.datagrams) in
      let next : upto + 1 - count ≡ i + 1 = omega (arith, le) in
      let at : count + i ≡ upto = omega (arith, le) in
      let number : suc count + length (take i ds) ≡ suc upto = omega (arith, length-take-le i ds (omega (arith, there)), at) in
      let read : get_or ds i kept ≡ kept = get_dropped count network.datagrams i kept ∙ ap (λ (n : ℕ). get_or network.datagrams n kept) at
      ∙ sym is in
      ap (λ (n : ℕ). listed_from (suc count) (take n ds)) next
      ∙ ap (listed_from (suc count)) (take_more ds i kept there ∙ ap (λ (d : DatagramParts). take i ds ++ d ∷ []) read)
      ∙ listed_push (suc count) (take i ds) kept
      ∙ ap (λ (n : ℕ). sent_up_to count upto network ++ listed_at n kept) number

  -- all
  pub up_to_all : length network.datagrams ≤ upto → sent_up_to count upto network ≡ sent_after count network
  up_to_all le =
      ap (listed_from (suc count))
      (take_all (upto - count) (drop count network.datagrams) (omega (arith, le, length-drop count network.datagrams)))

-- a datagram by the message that its bytes spell
pub listed_found : (n number : ℕ) (kept : DatagramParts) (message : Kind) → n ≡ number → Spells message kept.bytes
    → listed_at n kept ≡ record { number = number; sender = kept.sender; receiver = kept.receiver; message = message } ∷ []
listed_found n number kept message same spells =
    ap (λ (k : ℕ). listed_at k kept) same
    ∙ ap (λ (o : Option Kind). option_map_or (λ m. record { number = number; sender = kept.sender; receiver = kept.receiver; message = m }
    ∷ []) o []) (found message kept.bytes spells)

-- bytes that spell no message aren't listed
pub listed_missed : (n : ℕ) (kept : DatagramParts) → ((k : Kind) → IsMessage k → kept.bytes ≢ spelling k) → listed_at n kept ≡ []
listed_missed n kept none =
    ap (λ (o : Option Kind). option_map_or (λ m. record { number = n; sender = kept.sender; receiver = kept.receiver; message = m } ∷ [])
    o []) (no_message kept.bytes none)

-- how many datagrams there are then
pub count_after : (before after sent : List Datagram) → numbered 1 after ≡ numbered 1 before ++ numbered (suc (length before)) sent
    → (old new : NetworkParts) → StandsFor old before → StandsFor new after
    → length new.datagrams ≡ length old.datagrams + length sent
count_after before after sent says old new stood stands =
    let all : length (numbered 1 after) ≡ length (numbered 1 before) + length (numbered (suc (length before)) sent) =
    ap length says ∙ length-append (numbered 1 before) (numbered (suc (length before)) sent) in
    omega (
      arith,
      same_length old.datagrams before stood.datagrams_are,
      same_length new.datagrams after stands.datagrams_are,
      all,
      numbered_count 1 after,
      numbered_count 1 before,
      numbered_count (suc (length before)) sent,
    )
