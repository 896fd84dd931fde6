-- What the lines of a step say that a leader sent, by the sends of its rules.
-- Needed by LeaderMoves and LeaderRuns.
use Rattle.std.proofs.Common.{◌≡◌, ◌≢◌, inl, inr, ◌∙◌, ℕ, suc, Bool, true, false, if◌then◌else◌, eq-eqb, List, [], ◌∷◌, ◌++◌, map, Option}
use Rattle.std.proofs.Common.{Some, None, refl, sym, ap, subst, zero, arith, unwrap_or}
use Rattle.std.specs.Prelude.{◌<◌, filter_map, find}
use Rattle.std.specs.List.{flat_map, list_any, cons_option, range_with_len}
use Rattle.xid.specs.Transactions.{TxParts, participants}
use Rattle.wire.specs.Messages.{message_tx}
use Rattle.wire.specs.declared.message.Kind.{Kind}
use Rattle.wire.specs.declared.message.Kind.TheVariants.{P1a, B1a}
use Rattle.safety.specs.Vocabulary.{NodeId, A, L}
use Rattle.protocol.specs.Effects.{Config, receivers, to}
use Rattle.protocol.specs.LeaderMemory.{Begun}
use Rattle.protocol.specs.Leaders.{phase_1a}
use Rattle.protocol.specs.Worlds.{Datagram, datagrams_of, numbered}
use Rattle.protocol.specs.declared.decisions.Address.TheVariants.{Acceptors}
use Rattle.protocol.specs.declared.decisions.Outgoing.{Outgoing}
use Rattle.ballot.specs.Greatest.{IsIn}
use Rattle.std.proofs.lemmas.Bool.{cond_both, false_from_ne_true}
use Rattle.protocol.proofs.Lists.{IsIn-join, IsIn-joined, IsIn-map, IsIn-mapped, IsMapSource, filter_map_given, filter_map_gives, found_any}
use Rattle.protocol.proofs.Lists.{any_found, any_find, found_among, only_one}
use Rattle.history.specs.Heard.{is_leader}
use Rattle.history.specs.LeaderBack.{sent_by, ballot_begun_by, proposal_in}

-- ---- lines

numbered-joined : (n : ℕ) (xs ys : List Datagram) (l : ℕ)
    → sent_by l (numbered n (xs ++ ys)) ≡ sent_by l (numbered n xs) ++ sent_by l (numbered 0 ys)
numbered-joined n [] ys l = any_number n 0 ys
  where
    any_number : (n m : ℕ) (ds : List Datagram) → sent_by l (numbered n ds) ≡ sent_by l (numbered m ds)
    any_number n m [] = refl
    any_number n m (d ∷ ds) = ap (cons_option (if is_leader l d.sender then Some d.message else None)) (any_number (suc n) (suc m) ds)
numbered-joined n (x ∷ xs) ys l = said (is_leader l x.sender) _ _ _ (numbered-joined (suc n) xs ys l)
  where
    said : (b : Bool) (all before after : List Kind) → all ≡ before ++ after
        → cons_option (if b then Some x.message else None) all ≡ cons_option (if b then Some x.message else None) before ++ after
    said true all before after e = ap (λ (ms : List Kind). x.message ∷ ms) e
    said false all before after e = e

-- a message once for each receiver
abbrev pub copies : Config → Outgoing → List Kind
copies config send = map (λ receiver. send.message) (receivers config send.to (message_tx send.message))

-- a message to a receiver
abbrev addressed : NodeId → Kind → NodeId → Datagram
addressed who message receiver = record { sender = who; receiver = receiver; message = message; marked = false }

own_copies : (l n : ℕ) (message : Kind) (nodes : List NodeId)
    → sent_by l (numbered n (map (addressed (L l) message) nodes))
    ≡ map (λ receiver. message) nodes
own_copies l n message [] = refl
own_copies l n message (node ∷ nodes) =
    ap (λ (b : Bool). cons_option (if b then Some message else None)
    (sent_by l (numbered (suc n) (map (addressed (L l) message) nodes)))) (eq-eqb l l refl)
    ∙ ap (λ (ms : List Kind). message ∷ ms) (own_copies l (suc n) message nodes)

-- the lines of a leader's own sends
pub own_sent : (config : Config) (l n : ℕ) (sends : List Outgoing)
    → sent_by l (numbered n (flat_map (datagrams_of config (L l)) sends)) ≡ flat_map (copies config) sends
own_sent config l n [] = refl
own_sent config l n (send ∷ sends) =
    numbered-joined n (datagrams_of config (L l) send) (flat_map (datagrams_of config (L l)) sends) l
    ∙ ap (λ (ms : List Kind). ms ++ sent_by l (numbered 0 (flat_map (datagrams_of config (L l)) sends)))
    (own_copies l n send.message (receivers config send.to (message_tx send.message)))
    ∙ ap (λ (ms : List Kind). copies config send ++ ms) (own_sent config l 0 sends)

other_copies : (l n : ℕ) (who : NodeId) (message : Kind) (nodes : List NodeId) → is_leader l who ≡ false
    → sent_by l (numbered n (map (addressed who message) nodes)) ≡ []
other_copies l n who message [] other = refl
other_copies l n who message (node ∷ nodes) other =
    ap (λ (b : Bool). cons_option (if b then Some message else None) (sent_by l (numbered (suc n) (map (addressed who message) nodes))))
    other
    ∙ other_copies l (suc n) who message nodes other

-- the lines of another node's sends
pub other_sent : (config : Config) (l n : ℕ) (who : NodeId) (sends : List Outgoing) → is_leader l who ≡ false
    → sent_by l (numbered n (flat_map (datagrams_of config who) sends)) ≡ []
other_sent config l n who [] other = refl
other_sent config l n who (send ∷ sends) other =
    numbered-joined n (datagrams_of config who send) (flat_map (datagrams_of config who) sends) l
    ∙ ap (λ (ms : List Kind). ms ++ sent_by l (numbered 0 (flat_map (datagrams_of config who) sends)))
    (other_copies l n who send.message (receivers config send.to (message_tx send.message)) other)
    ∙ other_sent config l 0 who sends other

-- ---- what they say of ballots and proposals

-- a list of messages of which a reading makes nothing
none_read : {X : Type 0} (read : Kind → Option X) (message : Kind) (nodes : List NodeId) (rest : List Kind) → read message ≡ None
    → filter_map read (map (λ receiver. message) nodes ++ rest) ≡ filter_map read rest
none_read read message [] rest none = refl
none_read read message (node ∷ nodes) rest none =
    ap (λ o. cons_option o (filter_map read (map (λ receiver. message) nodes ++ rest))) none ∙ none_read read message nodes rest none

pub unread : {X : Type 0} (read : Kind → Option X) (config : Config) (sends : List Outgoing)
    → ((send : Outgoing) → IsIn sends send → read send.message ≡ None) → filter_map read (flat_map (copies config) sends) ≡ []
unread read config [] none = refl
unread read config (send ∷ sends) none =
    none_read read send.message (receivers config send.to (message_tx send.message)) (flat_map (copies config) sends) (none send (inl refl))
    ∙ unread read config sends (λ s h. none s (inr h))

acceptors_there : (n : ℕ) → 0 < n → IsIn (map A (range_with_len 0 n)) (A 0)
acceptors_there zero some = absurd (omega (arith, some))
acceptors_there (suc n) some = inl refl

-- a message that goes to the acceptors, one of which there is, is said
copied : (config : Config) → 0 < config.acceptors → (sends : List Outgoing) (message : Kind) → IsIn sends (to Acceptors message)
    → IsIn (flat_map (copies config) sends) message
copied config some sends message h =
    IsIn-join (copies config) sends (to Acceptors message) message h
    (IsIn-map (λ receiver. message) (receivers config Acceptors (message_tx message)) (A 0) (acceptors_there config.acceptors some))

-- a message that is said is one of the sends
said_by : (config : Config) (sends : List Outgoing) (message : Kind) → IsIn (flat_map (copies config) sends) message
    → IsMapSource (λ (send : Outgoing). send.message) sends message
said_by config sends message h =
    let from = IsIn-joined (copies config) sends message h in
    let one = IsIn-mapped (λ (receiver : NodeId). from.source.message)
    (receivers config from.source.to (message_tx from.source.message)) message from.inside in
    record { source = from.source; among = from.among; maps = one.maps }

-- what is said of proposals that go to the acceptors are these
pub proposals_said : (config : Config) → 0 < config.acceptors → (proposals : List Kind)
    → ((p : Kind) → IsIn proposals p → proposal_in p ≡ Some p) → (m : Kind)
    → (IsIn (filter_map proposal_in (flat_map (copies config) (map (to Acceptors) proposals))) m → IsIn proposals m)
    × (IsIn proposals m → IsIn (filter_map proposal_in (flat_map (copies config) (map (to Acceptors) proposals))) m)
proposals_said config some proposals are m = (there, back)
  where
    there : IsIn (filter_map proposal_in (flat_map (copies config) (map (to Acceptors) proposals))) m → IsIn proposals m
    there h =
        let given = filter_map_given proposal_in (flat_map (copies config) (map (to Acceptors) proposals)) m h in
        let said = said_by config (map (to Acceptors) proposals) given.source given.among in
        let one = IsIn-mapped (to Acceptors) proposals said.source said.among in
        let same : one.source ≡ given.source = ap (λ (s : Outgoing). s.message) one.maps ∙ said.maps in
        let is = sym (are one.source one.among) ∙ ap proposal_in same ∙ given.gives in
        subst (IsIn proposals) (ap (λ (o : Option Kind). unwrap_or o m) is) one.among

    back : IsIn proposals m → IsIn (filter_map proposal_in (flat_map (copies config) (map (to Acceptors) proposals))) m
    back h = filter_map_gives proposal_in (flat_map (copies config) (map (to Acceptors) proposals)) m m
        (copied config some (map (to Acceptors) proposals) m (IsIn-map (to Acceptors) proposals m h)) (are m h)

-- ---- one ballot

-- a list that has nothing but one thing, once or more
pub record IsOnly {X : Type 0} (g : X) (xs : List X) : Type 0 where
  pub each : (x : X) → IsIn xs x → x ≡ g
  pub some : IsIn xs g

pub only_any : {X : Type 0} (p : X → Bool) (g : X) (xs : List X) → IsOnly g xs → list_any p xs ≡ p g
only_any p g xs only = by_test (p g) refl
  where
    by_test : (b : Bool) → p g ≡ b → list_any p xs ≡ p g
    by_test true e = found_any p xs g only.some e ∙ sym e
    by_test false e = false_from_ne_true _ (λ any.
        let found = any_found p xs any in
        absurd (cc (sym e ∙ ap p (sym (only.each found.element found.among)) ∙ found.passes))) ∙ sym e

pub only_find : {X : Type 0} (p : X → Bool) (g : X) (xs : List X) → IsOnly g xs → find p xs ≡ (if p g then Some g else None)
only_find {X} p g xs only = by_test (p g) refl
  where
    by_found : (o : Option X) → find p xs ≡ o → p g ≡ false → o ≡ None
    by_found None e no_test = refl
    by_found (Some y) e no_test =
        let found = found_among p xs y e in
        absurd (cc (sym no_test ∙ ap p (sym (only.each y found.0)) ∙ found.1))

    by_test : (b : Bool) → p g ≡ b → find p xs ≡ (if b then Some g else None)
    by_test true e =
        let found = any_find p xs (found_any p xs g only.some e) in
        found.1 ∙ ap Some (only.each found.0 (found_among p xs found.0 found.1).0)
    by_test false e = by_found (find p xs) refl e

-- a send of phase 1a
record IsPhase1a (tx : TxParts) (b : ℕ) (send : Outgoing) : Type 0 where
  begins : ballot_begun_by send.message ≡ Some (record { tx = tx; ballot = b })
  unproposed : proposal_in send.message ≡ None

phase_1a_is : (config : Config) (tx : TxParts) (b : ℕ) (send : Outgoing) → IsIn (phase_1a config tx b) send → IsPhase1a tx b send
phase_1a_is config tx b send h = cond_both config.bundled (to Acceptors (B1a tx b) ∷ [])
    (map (λ i. to Acceptors (P1a tx i b)) (participants tx))
    (λ (sends : List Outgoing). IsIn sends send → IsPhase1a tx b send)
    (λ bundled one. only_one (IsPhase1a tx b) (to Acceptors (B1a tx b)) (record { begins = refl; unproposed = refl }) send one)
    (λ plain some.
    let from = IsIn-mapped (λ (i : ℕ). to Acceptors (P1a tx i b)) (participants tx) send some in
    subst (IsPhase1a tx b) from.maps (record { begins = refl; unproposed = refl })) h

phase_1a_some : (config : Config) → 0 < config.acceptors → (tx : TxParts) (b : ℕ) → participants tx ≢ []
    → (message : Kind) × IsIn (flat_map (copies config) (phase_1a config tx b)) message
    × (ballot_begun_by message ≡ Some (record { tx = tx; ballot = b }))
phase_1a_some config some tx b named = cond_both config.bundled (to Acceptors (B1a tx b) ∷ [])
    (map (λ i. to Acceptors (P1a tx i b)) (participants tx))
    (λ (sends : List Outgoing). (message : Kind) × IsIn (flat_map (copies config) sends) message
    × (ballot_begun_by message ≡ Some (record { tx = tx; ballot = b })))
    (λ bundled. (B1a tx b, copied config some (to Acceptors (B1a tx b) ∷ []) (B1a tx b) (inl refl), refl))
    (λ plain. by_first (participants tx) named)
  where
    by_first : (is : List ℕ) → is ≢ [] → (message : Kind)
        × IsIn (flat_map (copies config) (map (λ i. to Acceptors (P1a tx i b)) is)) message
        × (ballot_begun_by message ≡ Some (record { tx = tx; ballot = b }))
    by_first [] named = absurd (named refl)
    by_first (i ∷ is) named =
        (P1a tx i b, copied config some (map (λ j. to Acceptors (P1a tx j b)) (i ∷ is)) (P1a tx i b) (inl refl), refl)

-- phase 1a of a ballot says that one, and no proposal
pub ballot_said : (config : Config) → 0 < config.acceptors → (tx : TxParts) (b : ℕ) → participants tx ≢ []
    → IsOnly (record { tx = tx; ballot = b }) (filter_map ballot_begun_by (flat_map (copies config) (phase_1a config tx b)))
ballot_said config some tx b named = record {
  each = λ g h.
      let given = filter_map_given ballot_begun_by (flat_map (copies config) (phase_1a config tx b)) g h in
      let said = said_by config (phase_1a config tx b) given.source given.among in
      let is = sym given.gives ∙ ap ballot_begun_by (sym said.maps) ∙ (phase_1a_is config tx b said.source said.among).begins in
      ap (λ (o : Option Begun). unwrap_or o g) is;
  some =
      let one = phase_1a_some config some tx b named in
      filter_map_gives ballot_begun_by (flat_map (copies config) (phase_1a config tx b)) one.0 (record { tx = tx; ballot = b }) one.1 one.2;
}

pub none_proposed : (config : Config) (tx : TxParts) (b : ℕ)
    → filter_map proposal_in (flat_map (copies config) (phase_1a config tx b)) ≡ []
none_proposed config tx b = unread proposal_in config (phase_1a config tx b) (λ s h. (phase_1a_is config tx b s h).unproposed)
