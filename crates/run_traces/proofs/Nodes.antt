-- What nodes answer and where they send, role by role: answers that a trace may tell of, and nodes that words can name.
use Rattle.std.proofs.Common.{◌≡◌, ℕ, ◌-◌, ◌^◌, not, ◌||◌, List, [], ◌∷◌, map, refl, arith, nat_lt, nat_le}
use Rattle.std.specs.Prelude.{filter_map, is_some}
use Rattle.std.specs.List.{AllByRecursion, list_all}
use Rattle.std.proofs.lemmas.Bool.{cond_both}
use Rattle.std.proofs.lemmas.Nat.{mod_below}
use Rattle.xid.specs.Transactions.{TxParts, participants}
use Rattle.xid.specs.declared.transaction.Vote.{Vote}
use Rattle.wire.specs.declared.message.Kind.{Kind}
use Rattle.wire.specs.declared.message.Kind.TheVariants.{Prepare, P1a, P1b, P2a, P2b, B1a, B1b, B2b}
use Rattle.wire.specs.declared.items.InstanceAccept.{InstanceAccept}
use Rattle.wire.specs.declared.items.InstanceReport.{InstanceReport}
use Rattle.ballot.specs.Ballots.{next_of, owner_of}
use Rattle.ballot.specs.Choice.{is_prepared}
use Rattle.safety.specs.Vocabulary.{L, R, Address, Node, Acceptors, Managers, Outgoing, Status}
use Rattle.protocol.specs.Effects.{Config, Effect, is_inside, no_effect, to}
use Rattle.protocol.specs.Acceptors.{Slots, on_acceptor_message, accept_messages, report_after, is_accepted, is_some_below}
use Rattle.protocol.specs.LeaderMemory.{LeaderMemory, StoredBallots, status_of, with_all_heard, with_met}
use Rattle.protocol.specs.Leaders.{outcome_messages, is_final, on_commit_call, phase_1a, on_leader_timeout, on_status_call, is_current}
use Rattle.protocol.specs.Leaders.{proposal_of, on_1b, on_2b, on_leader_message}
use Rattle.protocol.specs.PaperItems.{accept_messages_of, report_messages}
use Rattle.protocol.proofs.Lists.{all_mapped}
use Rattle.net_script.specs.Answers.{IsAnswer}
use Rattle.net_script.specs.Events.{IsNode}
use Rattle.run_traces.specs.Machine.{IsLimited}

-- what is sent goes to a node that words can name, or to all of a kind
abbrev pub IsAddress : Address → Type 0
IsAddress (Node node) = IsNode node
IsAddress other = Unit {0}

abbrev pub AreAddressed : List Outgoing → Type 0
AreAddressed sends = AllByRecursion (λ (send : Outgoing). IsAddress send.to) sends

-- an effect is answered what a trace may tell of, and what it sends has such an address
pub record IsTellable {M : Type 0} (e : Effect M) : Type 0 where
  pub answer : IsAnswer e.answer
  pub sends : AreAddressed e.sends

pub quiet : {M : Type 0} (memory : M) → IsTellable (no_effect memory)
quiet memory = record { answer = tt; sends = tt }

-- ---- acceptors

module _ (config : Config) (limits : IsLimited config) where
  owner_named : (b : ℕ) → IsNode (L (owner_of config.leaders b))
  owner_named b = let below = mod_below (b - 1) config.leaders limits.some in omega (arith, below, limits.leaders)

  accepts_addressed : (a : ℕ) (slots : Slots) (tx : TxParts) (i b : ℕ) (v : Vote)
      → AreAddressed (accept_messages config a slots tx i b v)
  accepts_addressed a slots tx i b v =
      let last = report_after slots tx i b v in
      cond_both (not config.bundled) _ _ AreAddressed (λ single. (tt, tt))
      (λ bundled. cond_both (list_all (λ j. is_some (last j)) (participants tx) || not (is_prepared v)) _ _ AreAddressed
      (λ tells. (tt, tt)) (λ waits. tt))

  pub acceptor_tells : (a : ℕ) (slots : Slots) (message : Kind) → IsTellable (on_acceptor_message config a slots message)
  acceptor_tells a slots (P1a tx i b) = cond_both (nat_lt (slots tx i).mbal b) _ _ (λ (e : Effect (Unit {0})). IsTellable e)
      (λ up. record { answer = tt; sends = (owner_named b, tt) }) (λ low. quiet tt)
  acceptor_tells a slots (B1a tx b) = cond_both (is_some_below slots tx b) _ _ (λ (e : Effect (Unit {0})). IsTellable e)
      (λ up. record { answer = tt; sends = (owner_named b, tt) }) (λ low. quiet tt)
  acceptor_tells a slots (P2a tx i b v) = cond_both (nat_le (slots tx i).mbal b) _ _ (λ (e : Effect (Unit {0})). IsTellable e)
      (λ up. cond_both (is_accepted (slots tx i) b v) _ _ (λ (e : Effect (Unit {0})). IsTellable e)
      (λ again. record { answer = tt; sends = accepts_addressed a slots tx i b v })
      (λ new. record { answer = tt; sends = accepts_addressed a slots tx i b v }))
      (λ low. quiet tt)
  acceptor_tells a slots message = quiet tt

-- ---- leaders

outcomes_addressed : (status : Status) (tx : TxParts) (address : Address) → IsAddress address
    → AreAddressed (outcome_messages status tx address)
outcomes_addressed Status.Committed tx address is = (is, tt)
outcomes_addressed Status.Aborted tx address is = (is, tt)
outcomes_addressed other tx address is = tt

module _ (config : Config) (stored : StoredBallots) (memory : LeaderMemory) where
  abbrev Tells : Effect LeaderMemory → Type 0
  Tells = λ (e : Effect LeaderMemory). IsTellable e

  pub commit_tells : (tx : TxParts) → IsTellable (on_commit_call config stored memory tx)
  commit_tells tx =
      let status = status_of config.acceptors stored (with_met tx memory) tx in
      cond_both (is_inside config tx) _ _ Tells
      (λ inside. record {
        answer = tt;
        sends = cond_both (is_final status) (outcome_messages status tx Managers) (to Managers (Prepare tx) ∷ []) AreAddressed
            (λ final. outcomes_addressed status tx Managers tt) (λ pending. (tt, tt));
      })
      (λ outside. record { answer = tt; sends = tt })

  phase_1a_addressed : (tx : TxParts) (b : ℕ) → AreAddressed (phase_1a config tx b)
  phase_1a_addressed tx b = cond_both config.bundled _ _ AreAddressed (λ bundled. (tt, tt))
      (λ single. all_mapped (λ (send : Outgoing). IsAddress send.to) (λ i. to Acceptors (P1a tx i b)) (participants tx) (λ i h. tt))

  pub timeout_tells : (l : ℕ) (tx : TxParts) → IsTellable (on_leader_timeout config l stored memory tx)
  timeout_tells l tx =
      let status = status_of config.acceptors stored memory tx in
      let b = next_of config.leaders l (stored tx) in
      cond_both (not (is_inside config tx)) _ _ Tells (λ outside. record { answer = tt; sends = tt })
      (λ inside. cond_both (is_final status) _ _ Tells
      (λ final. record { answer = tt; sends = outcomes_addressed status tx Managers tt })
      (λ pending. cond_both (nat_lt b (2 ^ 32)) _ _ Tells (λ has. record { answer = tt; sends = phase_1a_addressed tx b })
      (λ none. record { answer = tt; sends = tt })))

  pub status_tells : (tx : TxParts) → IsTellable (on_status_call config stored memory tx)
  status_tells tx = record {
    answer = cond_both (is_inside config tx) _ _ IsAnswer (λ inside. tt) (λ outside. tt);
    sends = tt;
  }

  reports_tell : (tx : TxParts) (b a : ℕ) (reports : List InstanceReport) → IsTellable (on_1b config stored memory tx b a reports)
  reports_tell tx b a reports =
      cond_both (is_final (status_of config.acceptors stored memory tx) || not (is_current memory tx b)) _ _ Tells
      (λ over. quiet memory)
      (λ counts. record {
        answer = tt;
        sends = all_mapped (λ (send : Outgoing). IsAddress send.to) (to Acceptors)
            (filter_map (proposal_of config (with_all_heard (report_messages tx b a reports) memory) tx b)
            (map (λ (item : InstanceReport). item.instance) reports))
            (λ message h. tt);
      })

  accepts_tell : (tx : TxParts) (a : ℕ) (accepts : List InstanceAccept) → IsTellable (on_2b config stored memory tx a accepts)
  accepts_tell tx a accepts =
      let now = with_all_heard (accept_messages_of tx a accepts) (with_met tx memory) in
      cond_both (is_final (status_of config.acceptors stored memory tx)) _ _ Tells
      (λ over. quiet (with_met tx memory))
      (λ counts. record { answer = tt; sends = outcomes_addressed (status_of config.acceptors stored now tx) tx Managers tt })

  -- who asks is a resource manager that words can name
  pub leader_tells : (message : Kind) → ((tx : TxParts) (rm : ℕ) → message ≡ Kind.Ask tx rm → IsNode (R rm))
      → IsTellable (on_leader_message config stored memory message)
  leader_tells (P1b tx i b report a) asked = reports_tell tx b a (record { instance = i; report = report } ∷ [])
  leader_tells (B1b tx b a reports) asked = reports_tell tx b a reports
  leader_tells (P2b tx i b v a) asked = accepts_tell tx a (record { instance = i; ballot = b; vote = v } ∷ [])
  leader_tells (B2b tx a accepts) asked = accepts_tell tx a accepts
  leader_tells (Kind.Ask tx rm) asked =
      record { answer = tt; sends = outcomes_addressed (status_of config.acceptors stored memory tx) tx (Node (R rm)) (asked tx rm refl) }
  leader_tells message asked = quiet memory
