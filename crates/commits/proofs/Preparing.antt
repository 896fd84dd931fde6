-- Each participant with an idle branch is handed Prepare: it stores a vote prepared.
use Rattle.std.proofs.Common.{◌≡◌, ◌≢◌, ◌⊎◌, inl, inr, ◌∙◌, ℕ, Bool, true, false, ◌&&◌, ◌||◌, if◌then◌else◌, List, [], ◌∷◌}
use Rattle.std.proofs.Common.{Option, Some, None, is_some, refl, sym, ap, subst}
use Rattle.std.specs.Prelude.{find}
use Rattle.std.specs.List.{list_any}
use Rattle.std.specs.Option.{option_map}
use Rattle.std.proofs.lemmas.Bool.{and_from, both_ways, cases_Bool, cases_eq, cond-true, cond-false}
use Rattle.xid.specs.Names.{XidParts, xid_eq}
use Rattle.xid.specs.Transactions.{TxParts, participants, xid_at}
use Rattle.xid.specs.declared.transaction.Vote.{Vote}
use Rattle.xid.specs.declared.transaction.Vote.TheVariants as votes
use Rattle.xid.specs.declared.transaction.Vote.TheVariants.{Prepared}
use Rattle.xid.proofs.Deciding.{tx_decides, xid_self}
use Rattle.wire.specs.declared.message.Kind.TheVariants.{Prepare}
use Rattle.stable_record.specs.Facts.{fact_tx}
use Rattle.stable_record.specs.declared.fact.FactKind.TheVariants as stored
use Rattle.ballot.specs.Greatest.{IsIn}
use Rattle.protocol.specs.Basics.{Fact, Touched}
use Rattle.safety.specs.Vocabulary.{BranchState, NodeId, A, L, R, Outgoing}
use Rattle.safety.specs.Standing.{facts_at, facts_of}
use Rattle.safety.proofs.World.Events.{safe_ever}
use Rattle.protocol.specs.Effects.{Config, Effect, is_inside, no_effect, sends_only}
use Rattle.protocol.specs.Facts.{is_vote_of, vote_in, is_commit_of, is_abort_of, is_ended, is_spent, with_fact, HasVote}
use Rattle.protocol.specs.Managers.{Branch, stored_votes, vote_sent, idle_keys, first_vote, on_manager_message}
use Rattle.protocol.specs.Nodes.{NodeState, on_message}
use Rattle.protocol.specs.Worlds.{World, node_at}
use Rattle.protocol.proofs.Lists.{any_found, IsIn-last}
use Rattle.protocol.proofs.Manager.Keys.{spent_by}
use Rattle.progress.proofs.Ending.{manager_apart}
use Rattle.progress.proofs.Mail.{mail}
use Rattle.progress.proofs.Backed.{IsBacked, backing_node}
use Rattle.progress.proofs.Steps.{IsMoved, quiet_node, quiet_message, mail_stays}
use Rattle.progress.proofs.Leading.{Comes, IsDoneFor, comes_step, comes_now, comes_each}
use Rattle.commits.specs.Idle.{HasIdleBranch}

-- ---- the rule

pub found_by : {X : Type 0} (p : X → Bool) (xs : List X) (x : X) → IsIn xs x → p x ≡ true → (y : X) × (find p xs ≡ Some y)
found_by p [] x h t = absurd h
found_by p (y ∷ ys) x h t = elim (cases_Bool (p y)) [
  | inl passes ↦ (y, cond-true (p y) (Some y) (find p ys) passes)
  | inr fails ↦ elim h [
    | inl e ↦ absurd (both_ways (p y) fails (subst (λ z. p z ≡ true) (sym e) t))
    | inr rest ↦ let one = found_by p ys x rest t in (one.0, cond-false (p y) (Some y) (find p ys) fails ∙ one.1)
  ]
]

keys_by : (p : Branch → Bool) (branches : List Branch) (branch : Branch) → IsIn branches branch → p branch ≡ true
    → (keys : List Touched) × (option_map (λ (b : Branch). b.keys) (find p branches) ≡ Some keys)
keys_by p branches branch h t =
    let one = found_by p branches branch h t in (one.0.keys, ap (λ (o : Option Branch). option_map (λ (b : Branch). b.keys) o) one.1)

idle_there : (branches : List Branch) (x : XidParts) (keys : List Touched)
    → IsIn branches (record { xid = x; state = BranchState.Idle; keys = keys })
    → (found : List Touched) × (idle_keys branches x ≡ Some found)
idle_there branches x keys h =
    keys_by _ branches (record { xid = x; state = BranchState.Idle; keys = keys }) h (and_from (xid_eq x x) true (xid_self x) refl)

vote_tx : (tx : TxParts) (v : Vote) (fact : Fact) → is_vote_of tx v fact ≡ true → fact_tx fact ≡ tx
vote_tx tx votes.Prepared (stored.VotePrepared other keys) h = sym ((tx_decides tx other).0 h)
vote_tx tx votes.Aborted (stored.VoteAborted other) h = sym ((tx_decides tx other).0 h)
vote_tx tx v fact h = absurd (cc (h))

commit_tx : (tx : TxParts) (fact : Fact) → is_commit_of tx fact ≡ true → fact_tx fact ≡ tx
commit_tx tx (stored.Committed other) h = sym ((tx_decides tx other).0 h)
commit_tx tx fact h = absurd (cc (h))

abort_tx : (tx : TxParts) (fact : Fact) → is_abort_of tx fact ≡ true → fact_tx fact ≡ tx
abort_tx tx (stored.Aborted other) h = sym ((tx_decides tx other).0 h)
abort_tx tx fact h = absurd (cc (h))

module _ (tx : TxParts) (r : ℕ) (facts : List Fact) (x : XidParts) (named : xid_at tx r ≡ Some x)
    (unspent : is_spent r facts x ≡ false) where
  -- no fact of the transaction is stored where its name isn't spent
  pub no_fact : (fact : Fact) → IsIn facts fact → fact_tx fact ≡ tx → ⊥
  no_fact fact h e =
      both_ways (is_spent r facts x) unspent (spent_by r facts fact x h (ap (λ (t : TxParts). xid_at t r) e ∙ named))

  none_of : (p : Fact → Bool) → ((fact : Fact) → p fact ≡ true → fact_tx fact ≡ tx) → list_any p facts ≡ false
  none_of p about = elim (cases_Bool (list_any p facts)) [
    | inl some ↦
        let at = any_found p facts some in absurd (no_fact at.element at.among (about at.element at.passes))
    | inr none ↦ none
  ]

  unvoted : is_some (vote_in facts tx) ≡ false
  unvoted =
      let second : Option Vote = if list_any (is_vote_of tx votes.Aborted) facts then Some votes.Aborted else None in
      ap is_some (cond-false (list_any (is_vote_of tx votes.Prepared) facts) (Some votes.Prepared) second
      (none_of (is_vote_of tx votes.Prepared) (vote_tx tx votes.Prepared))
      ∙ cond-false (list_any (is_vote_of tx votes.Aborted) facts) (Some votes.Aborted) None
      (none_of (is_vote_of tx votes.Aborted) (vote_tx tx votes.Aborted)))

  unended : is_ended facts tx ≡ false
  unended =
      ap (λ (t : Bool). t || list_any (is_abort_of tx) facts) (none_of (is_commit_of tx) (commit_tx tx))
      ∙ none_of (is_abort_of tx) (abort_tx tx)

  -- so the vote is prepared
  stores_vote : (branches : List Branch) (found : List Touched) → idle_keys branches x ≡ Some found
      → (on_manager_message r (stored_votes r facts) branches (xid_at tx r) (Prepare tx)).fact ≡ Some (stored.VotePrepared tx found)
  stores_vote branches found idle =
      let again : Effect (List Branch) = sends_only branches (vote_sent r tx (vote_in facts tx)) in
      let nothing : Effect (List Branch) = no_effect branches in
      let first : Effect (List Branch) = first_vote r branches tx x (is_spent r facts x) (idle_keys branches x) in
      let rest : Effect (List Branch) = if is_ended facts tx then nothing else first in
      ap (λ (o : Option XidParts). (on_manager_message r (stored_votes r facts) branches o (Prepare tx)).fact) named
      ∙ ap (λ (e : Effect (List Branch)). e.fact)
      (cond-false (is_some (vote_in facts tx)) again rest unvoted
      ∙ cond-false (is_ended facts tx) nothing first unended
      ∙ ap (λ (t : Bool). first_vote r branches tx x t (idle_keys branches x)) unspent
      ∙ ap (λ (o : Option (List Touched)). first_vote r branches tx x false o) idle)

-- a branch that isn't prepared has a name that isn't spent
pub unspent_name : (config : Config) (world : World) → IsBacked config world → (tx : TxParts) (r : ℕ)
    → (has : HasIdleBranch config world tx r) → is_spent r has.facts has.name ≡ false
unspent_name config world b tx r has =
    ((safe_ever config b.machine b.reach).apart r (quiet_node has.facts has.memory) (backing_node config world b (R r) ∙ has.up)).unspent
    (record { xid = has.name; state = BranchState.Idle; keys = has.keys }) has.idle

-- ---- all of them

-- Prepare is in the mail to each participant, and each has voted prepared or can; acceptors and the leader are as they were
pub record AreAskedToPrepare (config : Config) (tx : TxParts) (l : ℕ) (first world : World) : Type 0 where
  pub reach : IsBacked config world
  pub posted : (r : ℕ) → IsIn (participants tx) r → IsIn (mail world.net) (record { receiver = R r; message = Prepare tx })
  pub each : (r : ℕ) → IsIn (participants tx) r → HasVote (facts_at config world (R r)) tx Prepared ⊎ HasIdleBranch config world tx r
  pub acceptors : (a : ℕ) → node_at config world (A a) ≡ node_at config first (A a)
  pub leader : node_at config world (L l) ≡ node_at config first (L l)

module _ (config : Config) (tx : TxParts) (l : ℕ) (inside : is_inside config tx ≡ true) (part : NodeId → Bool)
    (takes : (r : ℕ) → IsIn (participants tx) r → part (R r) ≡ true) (first : World) where
  abbrev Never : World → Type 0
  Never world = ⊥

  abbrev State : World → Type 0
  State = AreAskedToPrepare config tx l first

  abbrev Voted : ℕ → World → Type 0
  Voted r world = HasVote (facts_at config world (R r)) tx Prepared

  module _ (r : ℕ) (named : IsIn (participants tx) r) (before : World) (state : State before) where
    abbrev Next : World → Type 0
    Next = IsDoneFor config part tx Never State Voted r before

    next_by : (after : World) (node : NodeState) (sends : List Outgoing) → IsMoved config before after (R r) node sends → Voted r after
        → Next after
    next_by after node sends moved voted = (
      record {
        reach = moved.reach state.reach;
        posted = λ s h. mail_stays config before after (R r) node sends moved (record { receiver = R s; message = Prepare tx })
            (state.posted s h);
        each = λ s h. elim (cases_eq s r) [
          | inl same ↦ inl (subst (λ (k : ℕ). Voted k after) (sym same) voted)
          | inr apart ↦ elim (state.each s h) [
            | inl done ↦ inl (still s apart done)
            | inr idle ↦ inr (record {
              facts = idle.facts;
              memory = idle.memory;
              up = moved.others (R s) (manager_apart s r apart) ∙ idle.up;
              name = idle.name;
              named = idle.named;
              keys = idle.keys;
              idle = idle.idle;
            })
          ]
        ];
        acceptors = λ a. moved.others (A a) (λ e. absurd (cc (e))) ∙ state.acceptors a;
        leader = moved.others (L l) (λ e. absurd (cc (e))) ∙ state.leader;
      },
      voted,
      λ s done. elim (cases_eq s r) [
        | inl same ↦ subst (λ (k : ℕ). Voted k after) (sym same) voted
        | inr apart ↦ still s apart done
      ],
    )
      where
        still : (s : ℕ) → s ≢ r → Voted s before → Voted s after
        still s apart done =
            subst (λ (o : Option NodeState). HasVote (facts_of o) tx Prepared) (sym (moved.others (R s) (manager_apart s r apart))) done

    prepares : HasIdleBranch config before tx r → Comes config part tx Never Next before
    prepares has =
        let facts = has.facts in
        let memory = has.memory in
        let idle = idle_there memory.branches has.name has.keys has.idle in
        let fact = stored.VotePrepared tx idle.0 in
        let e = on_message config (R r) facts memory (Prepare tx) in
        let is : e.fact ≡ Some fact =
        stores_vote tx r facts has.name has.named (unspent_name config before state.reach tx r has) memory.branches idle.0 idle.1 in
        let left = quiet_node (with_fact facts e.fact) e.memory in
        comes_step config part tx Never Next before (R r) left e.sends (takes r named)
        (quiet_message config before tx (R r) facts memory has.up (Prepare tx)
        (and_from (is_inside config tx && true) true (and_from (is_inside config tx) true inside refl) refl) (state.posted r named))
        (λ after moved. comes_now config part tx Never Next after (next_by after left e.sends moved (
          idle.0,
          subst (λ (fs : List Fact). IsIn fs fact) (sym (ap facts_of moved.here ∙ ap (with_fact facts) is)) (IsIn-last facts fact),
        )))

    prepare_by : Voted r before ⊎ HasIdleBranch config before tx r → Comes config part tx Never Next before
    prepare_by (inl voted) = comes_now config part tx Never Next before (state, voted, λ s done. done)
    prepare_by (inr idle) = prepares idle

  -- all of them have voted prepared
  abbrev pub AllPrepared : World → Type 0
  AllPrepared world = State world × ((r : ℕ) → IsIn (participants tx) r → Voted r world)

  pub prepare_all : (world : World) → State world → Comes config part tx Never AllPrepared world
  prepare_all = comes_each config part tx Never State Voted (participants tx)
      (λ r named before now. prepare_by r named before now (now.each r named))
