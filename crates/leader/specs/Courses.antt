-- The course of one transaction at a leader, and what each message makes of it.
use Rattle.std.specs.Prelude.{◌≡◌, ℕ, Bool, true, false, not, ◌&&◌, ◌||◌, ◌==◌, if◌then◌else◌, List, [], ◌∷◌, length, map, replicate}
use Rattle.std.specs.Prelude.{filter_map, find, Option, Some, None}
use Rattle.std.specs.List.{list_any, list_all, slice_set, AllByRecursion}
use Rattle.std.specs.Option.{option_map_or, option_and_then}
use Rattle.xid.specs.Limits.{most_acceptors}
use Rattle.xid.specs.Transactions.{TxParts, participants}
use Rattle.xid.specs.declared.transaction.Vote.{Vote}
use Rattle.wire.specs.declared.items.InstanceReport.{InstanceReport}
use Rattle.wire.specs.declared.items.InstanceAccept.{InstanceAccept}
use Rattle.ballot.specs.Choice.{Report}
use Rattle.ballot.specs.Majority.{has, is_majority}
use Rattle.protocol.specs.declared.states.Status.{Status}
use Rattle.protocol.specs.Facts.{vote_eq}
use Rattle.protocol.specs.Leaders.{is_final}
use Rattle.protocol.specs.LeaderMemory.{StoredBallots, LeaderMemory, current, has_reported, message_report, is_proposed, is_accept_of}
use Rattle.protocol.specs.LeaderMemory.{is_decided, is_known}
use Rattle.leader.specs.declared.instance.InstanceCourse.{InstanceCourse}
use Rattle.leader.specs.declared.instance.Told.{Told}
use Rattle.leader.specs.declared.proposals.Proposal.{Proposal}
use Rattle.leader.specs.Choices.{merged, best_of, vote_of}

-- a transaction: whether the leader knows it, the greatest ballot stored, the current one, each of its instances, and what
-- acceptors told in phase 2b
pub record CourseParts : Type 0 where
  pub known : Bool
  pub greatest : ℕ
  pub current : Option ℕ
  pub instances : List InstanceCourse
  pub told : List Told

-- no acceptor
abbrev pub nobody : List Bool
nobody = replicate most_acceptors false

-- some acceptors, and this one
abbrev pub joined : ℕ → List Bool → List Bool
joined a members = slice_set members a true

-- an instance of which nothing was heard
abbrev pub fresh_instance : ℕ → InstanceCourse
fresh_instance i = record { instance = i; reporters = nobody; best = None; proposed = false; prepared = false; aborted = false }

-- a transaction that the leader doesn't know
abbrev pub fresh : TxParts → CourseParts
fresh tx = record {
  known = false;
  greatest = 0;
  current = None;
  instances = map fresh_instance (participants tx);
  told = [];
}

-- ---- phase 1b

-- an instance after a report, which counts once for an acceptor
abbrev pub with_report : ℕ → InstanceReport → InstanceCourse → InstanceCourse
with_report a item row =
    if (item.instance == row.instance) && not (has row.reporters a)
    then record row { reporters = joined a row.reporters; best = merged item.report row.best }
    else row

-- the same, of an acceptor whose report is of this instance
abbrev pub with_said : ℕ → Report → InstanceCourse → InstanceCourse
with_said a report row =
    if not (has row.reporters a) then record row { reporters = joined a row.reporters; best = merged report row.best } else row

-- the first of some reports of instance i
abbrev pub first_report : (i : ℕ) → List InstanceReport → Option Report
first_report i [] = None
first_report i (item ∷ items) = if item.instance == i then Some item.report else first_report i items

-- an instance after some reports
abbrev pub with_reports : ℕ → List InstanceReport → InstanceCourse → InstanceCourse
with_reports a [] row = row
with_reports a (item ∷ items) row = with_reports a items (with_report a item row)

-- a transaction after some reports
abbrev pub after_reports : ℕ → List InstanceReport → CourseParts → CourseParts
after_reports a items c = record c { instances = map (with_reports a items) c.instances }

-- what an instance proposes, once a majority of n acceptors has reported and while nothing was proposed
abbrev pub instance_proposal : ℕ → InstanceCourse → Option Proposal
instance_proposal n row =
    if is_majority n (has row.reporters) && not row.proposed
    then Some (record { instance = row.instance; vote = vote_of row.best })
    else None

-- what instance i of some proposes
abbrev pub proposal_at : ℕ → List InstanceCourse → ℕ → Option Proposal
proposal_at n rows i = option_and_then (instance_proposal n) (find (λ row. row.instance == i) rows)

-- what the instances of some reports propose, in their order
abbrev pub proposals_of : ℕ → List InstanceCourse → List InstanceReport → List Proposal
proposals_of n rows items = filter_map (λ item. proposal_at n rows item.instance) items

-- an instance after some proposals
abbrev pub with_proposals : List Proposal → InstanceCourse → InstanceCourse
with_proposals proposals row =
    record row { proposed = list_any (λ proposal. proposal.instance == row.instance) proposals || row.proposed }

-- a transaction after some proposals
abbrev pub after_proposals : List Proposal → CourseParts → CourseParts
after_proposals proposals c = record c { instances = map (with_proposals proposals) c.instances }

-- ---- phase 2b

-- whether this is where a ballot and value of an instance are kept
abbrev pub is_place_of : ℕ → ℕ → Vote → Told → Bool
is_place_of i b v row = (b == row.ballot) && vote_eq v row.vote && (i == row.instance)

-- who told of a ballot and value of an instance
abbrev pub told_of : List Told → ℕ → ℕ → Vote → List Bool
told_of rows i b v = option_map_or (λ row. row.members) (find (is_place_of i b v) rows) []

-- a place with an acceptor more
abbrev pub with_member : ℕ → Told → Told
with_member a row = record row { members = joined a row.members }

-- the same, where the acceptor may be there already
abbrev pub with_teller : ℕ → Told → Told
with_teller a row = if has row.members a then row else with_member a row

-- whether it makes those there a majority of n
abbrev pub completes : ℕ → ℕ → Told → Bool
completes n a row = not (has row.members a) && is_majority n (has (joined a row.members))

-- a place for a ballot and value of an instance, which an acceptor is the first to tell
abbrev pub first_told : ℕ → ℕ → Vote → ℕ → Told
first_told i b v a = record { instance = i; ballot = b; vote = v; members = joined a nobody }

-- who told, and this acceptor of a ballot and value of an instance
abbrev pub told_by : ℕ → ℕ → Vote → ℕ → List Told → List Told
told_by i b v a [] = first_told i b v a ∷ []
told_by i b v a (row ∷ rows) = if is_place_of i b v row then with_member a row ∷ rows else row ∷ told_by i b v a rows

-- the same, where the acceptor may have told it before
abbrev pub told_once : ℕ → InstanceAccept → List Told → List Told
told_once a item rows =
    if has (told_of rows item.instance item.ballot item.vote) a then rows else told_by item.instance item.ballot item.vote a rows

-- whether an acceptor makes those that told it a majority of n; where it told it before, it makes none
abbrev pub makes_majority : ℕ → ℕ → InstanceAccept → List Told → Bool
makes_majority n a item rows =
    not (has (told_of rows item.instance item.ballot item.vote) a)
    && is_majority n (has (told_of (told_by item.instance item.ballot item.vote a rows) item.instance item.ballot item.vote))

-- an instance, where it is the one that has decided a value
abbrev pub with_decided : ℕ → Vote → InstanceCourse → InstanceCourse
with_decided i Vote.Prepared row = if row.instance == i then record row { prepared = true } else row
with_decided i Vote.Aborted row = if row.instance == i then record row { aborted = true } else row

-- the instances of a transaction, and what was told of them
pub record Telling : Type 0 where
  pub instances : List InstanceCourse
  pub told : List Told

-- these after an acceptor told of a ballot and value of an instance, among n; it counts once
abbrev pub after_accept : ℕ → ℕ → InstanceAccept → Telling → Telling
after_accept n a item t =
    let told = told_by item.instance item.ballot item.vote a t.told in
    let decides = is_majority n (has (told_of told item.instance item.ballot item.vote)) in
    if has (told_of t.told item.instance item.ballot item.vote) a then t
    else record {
      instances = if decides then map (with_decided item.instance item.vote) t.instances else t.instances;
      told = told;
    }

-- these after an acceptor told of some
abbrev pub after_each_accept : ℕ → ℕ → List InstanceAccept → Telling → Telling
after_each_accept n a [] t = t
after_each_accept n a (item ∷ items) t = after_each_accept n a items (after_accept n a item t)

-- a transaction's instances, and what was told of them
abbrev pub telling_of : CourseParts → Telling
telling_of c = record { instances = c.instances; told = c.told }

-- a transaction after an acceptor told of some
abbrev pub after_accepts : ℕ → ℕ → List InstanceAccept → CourseParts → CourseParts
after_accepts n a items c =
    let t = after_each_accept n a items (telling_of c) in record c { instances = t.instances; told = t.told }

-- ---- ballots and outcomes

-- a transaction that the leader knows
abbrev pub after_meeting : CourseParts → CourseParts
after_meeting c = record c { known = true }

-- an instance when a ballot begins: what was reported and proposed in those before doesn't count any more
abbrev pub with_nothing_reported : InstanceCourse → InstanceCourse
with_nothing_reported row = record row { reporters = nobody; best = None; proposed = false }

-- a transaction when a ballot begins
abbrev pub after_beginning : ℕ → CourseParts → CourseParts
after_beginning b c = record c { current = Some b; instances = map with_nothing_reported c.instances }

-- a transaction when a ballot is stored
abbrev pub after_ballot : ℕ → CourseParts → CourseParts
after_ballot b c = record c { known = true; greatest = b }

-- the status: aborted where some instance is, committed where every one is prepared, else undecided where the leader knows it
abbrev pub status_by : (known : Bool) → List InstanceCourse → Status
status_by known rows =
    if list_any (λ row. row.aborted) rows then Status.Aborted
    else if list_all (λ row. row.prepared) rows then Status.Committed
    else if known then Status.Undecided
    else Status.Unknown

-- the status of a transaction
abbrev pub status_in : CourseParts → Status
status_in c = status_by c.known c.instances

-- ---- messages

-- whether phase 1b of a ballot counts: it is the current one, and there is no outcome
abbrev pub counts_report : ℕ → CourseParts → Bool
counts_report b c = option_map_or (λ last. last == b) c.current false && not (is_final (status_in c))

-- what is proposed after phase 1b of an acceptor, among n
abbrev pub proposals_after_1b : ℕ → ℕ → ℕ → List InstanceReport → CourseParts → List Proposal
proposals_after_1b n b a items c =
    if counts_report b c then proposals_of n (after_reports a items c).instances items else []

-- a transaction after phase 1b
abbrev pub after_1b : ℕ → ℕ → ℕ → List InstanceReport → CourseParts → CourseParts
after_1b n b a items c =
    if counts_report b c
    then after_proposals (proposals_of n (after_reports a items c).instances items) (after_reports a items c)
    else c

-- a transaction after phase 2b of an acceptor, among n
abbrev pub after_2b : ℕ → ℕ → List InstanceAccept → CourseParts → CourseParts
after_2b n a items c = if is_final (status_in c) then after_meeting c else after_accepts n a items (after_meeting c)

-- the status to tell of then: that after it, where there was no outcome before
abbrev pub status_after_2b : ℕ → ℕ → List InstanceAccept → CourseParts → Status
status_after_2b n a items c = if is_final (status_in c) then Status.Undecided else status_in (after_accepts n a items (after_meeting c))

-- ---- what it says of a leader's memory

-- an instance answers each question as memory does; n is how many acceptors there are
pub record InstanceStands (n : ℕ) (memory : LeaderMemory) (tx : TxParts) (row : InstanceCourse) : Type 0 where
  pub whole : length row.reporters ≡ most_acceptors
  pub reporters_are : (b a : ℕ) → current memory tx ≡ Some b → has row.reporters a ≡ has_reported memory.heard tx row.instance b a
  pub best_is : (b : ℕ) → current memory tx ≡ Some b → row.best ≡ best_of (filter_map (message_report tx row.instance b) memory.heard)
  pub proposed_is : (b : ℕ) → current memory tx ≡ Some b → row.proposed ≡ is_proposed memory.proposed tx row.instance b
  pub prepared_is : row.prepared ≡ is_decided n memory.heard tx row.instance Vote.Prepared
  pub aborted_is : row.aborted ≡ is_decided n memory.heard tx row.instance Vote.Aborted

-- a transaction's course answers each question as the stored ballots and memory do
pub record CourseStands (n : ℕ) (stored : StoredBallots) (memory : LeaderMemory) (tx : TxParts) (c : CourseParts) : Type 0 where
  pub known_is : c.known ≡ is_known stored memory tx
  pub greatest_is : c.greatest ≡ stored tx
  pub current_is : c.current ≡ current memory tx
  pub instances_are : map (λ row. row.instance) c.instances ≡ participants tx
  pub each_stands : AllByRecursion (InstanceStands n memory tx) c.instances
  pub whole : AllByRecursion (λ row. length row.members ≡ most_acceptors) c.told
  pub told_are : (i b : ℕ) (v : Vote) (a : ℕ) → has (told_of c.told i b v) a ≡ list_any (is_accept_of tx i b v a) memory.heard
