-- What goes out to nodes, and the letters in which it goes.
use Rattle.std.specs.Prelude.{◌≡◌, ◌≢◌, ◌≤◌, ℕ, Bool, ◌&&◌, nat_le, if◌then◌else◌, List, [], ◌∷◌, ◌++◌, length, Result}
use Rattle.std.specs.List.{AllByRecursion}
use Rattle.xid.specs.declared.refusals.Refusal.{Refusal}
use Rattle.wire.specs.Grammar.{spelling}
use Rattle.wire.specs.Notices.{notice_spelling}
use Rattle.protocol.specs.declared.nodes.NodeId.{NodeId}
use Rattle.protocol.specs.Worlds.{Datagram}
use Rattle.node_core.specs.Configs.{config_by, is_among}
use Rattle.node_core.specs.declared.config.Sizes.{Sizes}
use Rattle.floors.specs.Worlds.{Notice, is_node}
use Rattle.letters.specs.Letters.{IsEnclosable, IsLetterOf, letter_spelling}
use Rattle.letters.specs.declared.letter.TheConstants.{MAX_ENCLOSED, MAX_LETTER}
use Rattle.port.specs.Calls.{Sending}

-- bytes for a node
pub record Mail : Type 0 where
  pub receiver : NodeId
  pub bytes : List ℕ

-- a datagram's message, for its receiver
abbrev pub mail_of : Datagram → Mail
mail_of datagram = record { receiver = datagram.receiver; bytes = spelling datagram.message }

-- a notice, for its receiver
abbrev pub mail_of_notice : Notice → Mail
mail_of_notice notice =
    record { receiver = notice.receiver; bytes = notice_spelling (record { manager = notice.manager; floor = notice.place }) }

-- a letter to a node, by what is in it
pub record Posted : Type 0 where
  pub receiver : NodeId
  pub messages : List (List ℕ)

-- one is sent with something in it, and is short
pub record MayBePosted (letter : Posted) : Type 0 where
  pub some : letter.messages ≢ []
  pub short : length (letter_spelling letter.messages) ≤ MAX_LETTER

-- whether bytes may go to a node: it is one of the cluster, and they fit a letter
abbrev pub can_go : Sizes → NodeId → List ℕ → Bool
can_go sizes receiver bytes = is_among (config_by sizes []) receiver && nat_le (length bytes) MAX_ENCLOSED

-- what is for a node, in order, of what may go
abbrev pub mail_to : Sizes → NodeId → List Mail → List (List ℕ)
mail_to sizes who [] = []
mail_to sizes who (mail ∷ more) =
    (if is_node mail.receiver who && can_go sizes mail.receiver mail.bytes then mail.bytes ∷ [] else []) ++ mail_to sizes who more

-- what letters have in them for a node, in order
abbrev pub posted_to : NodeId → List Posted → List (List ℕ)
posted_to who [] = []
posted_to who (letter ∷ more) = (if is_node letter.receiver who then letter.messages else []) ++ posted_to who more

-- a port goes by one send for each letter, in order, whether they fail or not
abbrev pub SendsLetters : {P : Type 0} → Sending P → P → P → List Posted → Type 0
SendsLetters Sent old new [] = new ≡ old
SendsLetters {P} Sent old new (letter ∷ more) =
    (next : P) × (result : Result (Unit {0}) Refusal) × Sent old next letter.receiver (letter_spelling letter.messages) result
    × SendsLetters Sent next new more

-- what is sent as one is a letter of what is in it
abbrev pub IsReadAsPosted : Posted → Type 0
IsReadAsPosted letter = IsLetterOf letter.messages (letter_spelling letter.messages)

-- all that was to go went, in letters: to each node exactly what was for it, once each and in order. Where all of it are messages and
-- notices, each receiver takes what is sent to it for a letter of these
pub record GoesInLetters {P : Type 0} (Sent : Sending P) (sizes : Sizes) (old new : P) (mails : List Mail) : Type 0 where
  pub letters : List Posted
  pub sends : SendsLetters Sent old new letters
  pub each : AllByRecursion MayBePosted letters
  pub exact : (who : NodeId) → posted_to who letters ≡ mail_to sizes who mails
  pub whole : AllByRecursion (λ mail. IsEnclosable mail.bytes) mails → AllByRecursion IsReadAsPosted letters
