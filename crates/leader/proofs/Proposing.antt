-- What is proposed once a majority has reported.
-- Needed by `Leader::on_1b`; Rules.
use Rattle.std.proofs.Common.{◌≡◌, ◌∙◌, ℕ, Bool, true, false, not, ◌&&◌, ◌||◌, ◌==◌, List, [], ◌∷◌, ◌++◌, Option, Some, None, sym, ap, refl}
use Rattle.std.proofs.Common.{subst}
use Rattle.std.specs.Prelude.{cond, if◌then◌else◌, filter_map, find, map, IsTrue}
use Rattle.std.specs.List.{list_any, cons_option, AllByRecursion}
use Rattle.std.specs.Option.{option_map, option_and_then}
use Rattle.std.proofs.lemmas.Bool.{false≢true, eqb-true}
use Rattle.xid.specs.Transactions.{TxParts, BranchParts, is_participant, participants, is_at}
use Rattle.wire.specs.declared.message.Kind.{Kind}
use Rattle.wire.specs.declared.message.Kind.TheVariants.{P2a}
use Rattle.wire.specs.declared.items.InstanceReport.{InstanceReport}
use Rattle.wire.proofs.Spelled.{some_same}
use Rattle.ballot.specs.Majority.{has, is_majority}
use Rattle.protocol.specs.declared.decisions.Address.TheVariants.{Acceptors}
use Rattle.protocol.specs.Effects.{Config, to}
use Rattle.protocol.specs.Leaders.{proposal_of}
use Rattle.protocol.specs.LeaderMemory.{LeaderMemory, StoredBallots, current, message_report, is_proposed, with_proposed}
use Rattle.leader.specs.declared.instance.InstanceCourse.{InstanceCourse}
use Rattle.leader.specs.declared.proposals.Proposal.{Proposal}
use Rattle.leader.specs.Choices.{vote_of}
use Rattle.leader.specs.Courses.{CourseParts, InstanceStands, CourseStands, instance_proposal, proposal_at, proposals_of, with_proposals}
use Rattle.leader.specs.Courses.{after_proposals}
use Rattle.leader.specs.Orders.{proposal_messages, AreOf}
use Rattle.leader.proofs.Basics.{tx_self, nat_self, nat_turned}
use Rattle.leader.proofs.Choosing.{pick_is_best}
use Rattle.leader.proofs.Elsewhere.{one_proposed, proposal_kinds}
use Rattle.leader.proofs.Telling.{all_mapped, instances_kept}

abbrev kind_of : TxParts → ℕ → Proposal → Kind
kind_of tx b proposal = P2a tx proposal.instance b proposal.vote

abbrev in_list : ℕ → List ℕ → Bool
in_list i numbers = list_any (λ j. j == i) numbers

one_of : (tx : TxParts) (b : ℕ) (p : Proposal) (t : Bool)
    → (if t then Some (kind_of tx b p) else None) ≡ option_map (kind_of tx b) (if t then Some p else None)
one_of tx b p true = refl
one_of tx b p false = refl

-- an instance that stands proposes what the rule does
row_proposal : (config : Config) (memory : LeaderMemory) (tx : TxParts) (b : ℕ) (row : InstanceCourse) → current memory tx ≡ Some b
    → InstanceStands config.acceptors memory tx row
    → proposal_of config memory tx b row.instance ≡ option_map (kind_of tx b) (instance_proposal config.acceptors row)
row_proposal config memory tx b row now stands =
    (λ k. if is_majority config.acceptors (λ a. sym (stands.reporters_are b a now) k) && not (sym (stands.proposed_is b now) k)
    then Some (P2a tx row.instance b ((pick_is_best (filter_map (message_report tx row.instance b) memory.heard)
    ∙ ap vote_of (sym (stands.best_is b now))) k)) else None)
    ∙ one_of tx b (record { instance = row.instance; vote = vote_of row.best }) (is_majority config.acceptors (has row.reporters)
    && not row.proposed)

proposal_one : (config : Config) (memory : LeaderMemory) (tx : TxParts) (b i : ℕ) (rows : List InstanceCourse) → current memory tx ≡ Some b
    → AllByRecursion (InstanceStands config.acceptors memory tx) rows → in_list i (map (λ row. row.instance) rows) ≡ true
    → proposal_of config memory tx b i ≡ option_map (kind_of tx b) (proposal_at config.acceptors rows i)
proposal_one config memory tx b i [] now stand named = absurd (false≢true named)
proposal_one config memory tx b i (row ∷ rows) now stand named =
    elim (row.instance == i) as (λ t. (row.instance == i) ≡ t → (t || in_list i (map (λ r. r.instance) rows)) ≡ true
    → proposal_of config memory tx b i
    ≡ option_map (kind_of tx b) (option_and_then (instance_proposal config.acceptors) (cond t (Some row) (find
    (λ r. r.instance == i) rows)))) [
      | true ↦ λ e h. ap (proposal_of config memory tx b) (sym (eqb-true row.instance i e))
          ∙ row_proposal config memory tx b row now stand.0
      | false ↦ λ e h. proposal_one config memory tx b i rows now stand.1 h
    ] refl named

pub named_in : (i : ℕ) (branches : List BranchParts) → in_list i (map (λ b. b.rm) branches) ≡ list_any (is_at i) branches
named_in i [] = refl
named_in i (b ∷ branches) = ap (λ t. (b.rm == i) || t) (named_in i branches)

abbrev AreParticipants : TxParts → List ℕ → Type 0
AreParticipants tx numbers = AllByRecursion (λ rm. IsTrue (is_participant tx rm)) numbers

cons_kinds : (tx : TxParts) (b : ℕ) (o : Option Proposal) (ps : List Proposal)
    → cons_option (option_map (kind_of tx b) o) (proposal_kinds tx b ps) ≡ proposal_kinds tx b (cons_option o ps)
cons_kinds tx b None ps = refl
cons_kinds tx b (Some p) ps = refl

-- all that is proposed
pub proposals_are : (config : Config) (memory : LeaderMemory) (tx : TxParts) (b : ℕ) (rows : List InstanceCourse)
    (items : List InstanceReport)
    → current memory tx ≡ Some b → AllByRecursion (InstanceStands config.acceptors memory tx) rows
    → map (λ row. row.instance) rows ≡ participants tx → AreParticipants tx (map (λ item. item.instance) items)
    → filter_map (proposal_of config memory tx b) (map (λ item. item.instance) items)
    ≡ proposal_kinds tx b (proposals_of config.acceptors rows items)
proposals_are config memory tx b rows [] now stand all named = refl
proposals_are config memory tx b rows (item ∷ items) now stand all named =
    (λ k. cons_option (proposal_one config memory tx b item.instance rows now stand
    (ap (in_list item.instance) all ∙ named_in item.instance tx.branches ∙ named.0) k)
    (proposals_are config memory tx b rows items now stand all named.1 k))
    ∙ cons_kinds tx b (proposal_at config.acceptors rows item.instance) (proposals_of config.acceptors rows items)

-- the messages of proposals are sent to each acceptor
pub messages_are : (tx : TxParts) (b : ℕ) (ps : List Proposal) → map (to Acceptors) (proposal_kinds tx b ps) ≡ proposal_messages tx b ps
messages_are tx b [] = refl
messages_are tx b (p ∷ ps) = ap (λ ms. to Acceptors (kind_of tx b p) ∷ ms) (messages_are tx b ps)

-- ---- what is proposed is of the transaction

abbrev NamedSome : ℕ → Option Proposal → Type 0
NamedSome i None = Unit {0}
NamedSome i (Some p) = p.instance ≡ i

named_row : (n : ℕ) (row : InstanceCourse) → NamedSome row.instance (instance_proposal n row)
named_row n row = elim (is_majority n (has row.reporters) && not row.proposed)
    as (λ t. NamedSome row.instance (if t then Some (record { instance = row.instance; vote = vote_of row.best }) else None)) [
      | true ↦ refl
      | false ↦ tt
    ]

named_at : (n i : ℕ) (rows : List InstanceCourse) → NamedSome i (proposal_at n rows i)
named_at n i [] = tt
named_at n i (row ∷ rows) =
    elim (row.instance == i) as (λ t. (row.instance == i) ≡ t
    → NamedSome i (option_and_then (instance_proposal n) (cond t (Some row) (find (λ r. r.instance == i) rows)))) [
      | true ↦ λ e. let P : ℕ → Type 0 = λ k. NamedSome k (instance_proposal n row) in subst P (eqb-true row.instance i e) (named_row n row)
      | false ↦ λ e. named_at n i rows
    ] refl

named_cons : (tx : TxParts) (i : ℕ) (o : Option Proposal) (ps : List Proposal) → NamedSome i o → IsTrue (is_participant tx i) → AreOf tx ps
    → AreOf tx (cons_option o ps)
named_cons tx i None ps same named rest = rest
named_cons tx i (Some p) ps same named rest = (let P : ℕ → Type 0 = λ k. IsTrue (is_participant tx k) in subst P (sym same) named, rest)

-- what is proposed is of the transaction
pub proposals_named : (tx : TxParts) (n : ℕ) (rows : List InstanceCourse) (items : List InstanceReport)
    → AreParticipants tx (map (λ item. item.instance) items) → AreOf tx (proposals_of n rows items)
proposals_named tx n rows [] named = tt
proposals_named tx n rows (item ∷ items) named =
    named_cons tx item.instance (proposal_at n rows item.instance) (proposals_of n rows items) (named_at n item.instance rows) named.0
    (proposals_named tx n rows items named.1)

-- ---- proposed

or_assoc : (x y z : Bool) → ((x || y) || z) ≡ (x || (y || z))
or_assoc true y z = refl
or_assoc false y z = refl

proposed_more : (tx : TxParts) (i b c : ℕ) (ps : List Proposal) (before : List Kind) → (c == b) ≡ true
    → (list_any (λ p. p.instance == i) ps || is_proposed before tx i c) ≡ is_proposed (proposal_kinds tx b ps ++ before) tx i c
proposed_more tx i b c [] before same = refl
proposed_more tx i b c (p ∷ ps) before same =
    or_assoc (p.instance == i) (list_any (λ q. q.instance == i) ps) (is_proposed before tx i c)
    ∙ ap (λ t. (p.instance == i) || t) (proposed_more tx i b c ps before same)
    ∙ ap (λ t. t || is_proposed (proposal_kinds tx b ps ++ before) tx i c)
    (plain (p.instance == i) ∙ (λ k. sym same k && (nat_turned p.instance i k && sym (tx_self tx) k)))
    ∙ sym (one_proposed tx i c (kind_of tx b p) (proposal_kinds tx b ps ++ before))
  where
    plain : (t : Bool) → t ≡ (true && (t && true))
    plain true = refl
    plain false = refl

row_proposed : (n : ℕ) (tx : TxParts) (b : ℕ) (ps : List Proposal) (memory : LeaderMemory) (row : InstanceCourse) → current memory tx
    ≡ Some b
    → InstanceStands n memory tx row → InstanceStands n (with_proposed (proposal_kinds tx b ps) memory) tx (with_proposals ps row)
row_proposed n tx b ps memory row now stands = record {
  whole = stands.whole;
  reporters_are = stands.reporters_are;
  best_is = stands.best_is;
  proposed_is = λ c is. ap (λ t. list_any (λ p. p.instance == row.instance) ps || t) (stands.proposed_is c is)
      ∙ proposed_more tx row.instance b c ps memory.proposed (ap (λ k. c == k) (some_same b c (sym now ∙ is)) ∙ nat_self c);
  prepared_is = stands.prepared_is;
  aborted_is = stands.aborted_is;
}

-- a course stands for the memory with what was proposed
pub propose_step : (n : ℕ) (stored : StoredBallots) (tx : TxParts) (b : ℕ) (ps : List Proposal) (memory : LeaderMemory) (c : CourseParts)
    → current memory tx ≡ Some b → CourseStands n stored memory tx c
    → CourseStands n stored (with_proposed (proposal_kinds tx b ps) memory) tx (after_proposals ps c)
propose_step n stored tx b ps memory c now stands = record {
  known_is = stands.known_is;
  greatest_is = stands.greatest_is;
  current_is = stands.current_is;
  instances_are = instances_kept (with_proposals ps) (λ row. refl) c.instances ∙ stands.instances_are;
  each_stands = all_mapped (InstanceStands n memory tx) (InstanceStands n (with_proposed (proposal_kinds tx b ps) memory) tx)
      (with_proposals ps)
      (λ row. row_proposed n tx b ps memory row now) c.instances stands.each_stands;
  whole = stands.whole;
  told_are = stands.told_are;
}
