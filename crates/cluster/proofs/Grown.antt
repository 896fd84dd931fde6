-- What an event makes of the facts of each node, and of tables: one fact more at most, and a commit writes what its branch wrote.
-- Needed by Safe.
use Rattle.std.proofs.Common.{◌≡◌, ◌⊎◌, inl, inr, ◌∙◌, ℕ, true, if◌then◌else◌, List, [], ◌∷◌, ◌++◌, length}
use Rattle.std.proofs.Common.{Option, Some, None, refl, sym, ap, subst, nat_lt, append_assoc}
use Rattle.std.specs.Prelude.{unwrap_or}
use Rattle.std.specs.Option.{option_to_list, option_map_or}
use Rattle.std.proofs.lemmas.Bool.{cond_both, and_parts}
use Rattle.std.proofs.lemmas.List.{append-nil}
use Rattle.xid.specs.Transactions.{TxParts}
use Rattle.xid.proofs.Texts.{both_true}
use Rattle.xid.specs.declared.refusals.Refusal.TheVariants.{NoSuch, Forged, Down}
use Rattle.xid.specs.declared.transaction.Vote.TheVariants as votes
use Rattle.wire.specs.Decoding.{spells_message}
use Rattle.wire.specs.Grammar.{spelling}
use Rattle.stable_record.specs.declared.fact.FactKind.{FactKind as Fact}
use Rattle.stable_record.specs.declared.fact.FactKind.TheVariants as stored
use Rattle.protocol.specs.declared.answers.Answer.TheVariants.{Done, Refused}
use Rattle.protocol.specs.declared.events.Event.{Event}
use Rattle.protocol.specs.declared.events.Event.TheVariants.{Ask, Deliver, Lose, Cut, Noise, Tear, Restart, Compact}
use Rattle.protocol.specs.declared.nodes.NodeId.{NodeId}
use Rattle.protocol.specs.declared.nodes.NodeId.TheVariants.{R}
use Rattle.protocol.specs.declared.rows.Row.{Row}
use Rattle.protocol.specs.declared.states.View.{View}
use Rattle.protocol.specs.declared.states.View.TheVariants as views
use Rattle.protocol.specs.Effects.{Config}
use Rattle.protocol.specs.Facts.{HasVote, IsViewOf, view, is_prepared_view}
use Rattle.protocol.specs.Nodes.{NodeState, Input, Asked, Received, ReceivedNoise, Fault, NoMemoryBefore}
use Rattle.protocol.specs.Nodes.{node_step, effect_of, restart_outcome, compact_outcome, all_play, plays, first_rows}
use Rattle.protocol.specs.Tables.{table, with_writes, keys_voted, commit_of}
use Rattle.protocol.specs.Worlds.{World, StepResult, node_at, set_node, datagram_at, with_mark, answer_result, outcome_result}
use Rattle.protocol.specs.Worlds.{if_found, at_node, dispatch, world_step, table_at}
use Rattle.protocol.proofs.Manager.Views.{view_is}
use Rattle.ballot.specs.Greatest.{IsIn}
use Rattle.protocol.proofs.Lists.{IsIn-append, IsIn-before, IsIn-last}
use Rattle.safety.specs.Standing.{facts_of, facts_at}
use Rattle.safety.proofs.World.Growth.{same_node}
use Rattle.safety.proofs.World.NodePlaces.{node_there, node_elsewhere}
use Rattle.safety.proofs.World.Outcomes.{step_is}
use Rattle.safety.proofs.World.Changes.{compact_keeps, restart_keeps}
use Rattle.resource_manager.proofs.More.{keys_stay, table_more}
use Rattle.history.proofs.Changes.{prepared_is}
use Rattle.cluster.specs.Headlines.{IsKept, IsWritten}

-- ---- one fact more, or none

-- facts grew by one, or stayed
pub record HaveGrown (before after : List Fact) : Type 0 where
  pub fact : Option Fact
  pub is : after ≡ before ++ option_to_list fact

stayed : (before after : List Fact) → after ≡ before → HaveGrown before after
stayed before after e = record { fact = None; is = e ∙ sym (append-nil before) }

-- those of each node
abbrev pub Grows : Config → (world next : World) → Type 0
Grows config world next = (who : NodeId) → HaveGrown (facts_at config world who) (facts_at config next who)

module _ (config : Config) (world : World) where
  -- nothing changed
  pub still : Grows config world world
  still who = stayed (facts_at config world who) (facts_at config world who) refl

  -- a node is another one then
  put_grows : (who : NodeId) (node new : NodeState) → node_at config world who ≡ Some node → HaveGrown node.facts new.facts
      → Grows config world (set_node config world who new)
  put_grows who node new is grown n = elim (same_node n who) [
    | inl same ↦
        let before : facts_at config world n ≡ node.facts = ap (facts_at config world) same ∙ ap facts_of is in
        let after : facts_at config (set_node config world who new) n ≡ new.facts =
        ap (facts_at config (set_node config world who new)) same ∙ ap facts_of (node_there config world who node new is) in
        record { fact = grown.fact; is = after ∙ grown.is ∙ ap (λ (facts : List Fact). facts ++ option_to_list grown.fact) (sym before) }
    | inr apart ↦
        stayed (facts_at config world n) (facts_at config (set_node config world who new) n)
        (ap facts_of (node_elsewhere config world who n new apart))
  ]

  found_grows : {X : Type 0} (o : Option X) (f : X → StepResult) → ((x : X) → o ≡ Some x → Grows config world (f x).world)
      → Grows config world (if_found world f o).world
  found_grows None f grows = still
  found_grows (Some x) f grows = grows x refl

  input_grows : (who : NodeId) (input : Input) (fault : Fault) → Grows config world (at_node config world who input fault).world
  input_grows who input fault = found_grows (node_at config world who)
      (λ node. outcome_result config world who node.facts (node_step config who node input fault))
      (λ node is.
      let left = node_step config who node input fault in
      let e = effect_of config who node.facts node.memory input in
      put_grows who node left.node is (elim (step_is config who node input fault) [
        | inl keeps ↦ stayed node.facts left.node.facts keeps.facts
        | inr (inl stopped) ↦ record { fact = e.fact; is = stopped.facts }
        | inr (inr finished) ↦ record { fact = e.fact; is = finished.facts }
      ]))

  restart_grows : (who : NodeId) (fault : Fault) → Grows config world (dispatch config world (Restart who) fault).world
  restart_grows who fault = found_grows (node_at config world who)
      (λ node. outcome_result config world who node.facts (restart_outcome config who node fault))
      (λ node is. put_grows who node (restart_outcome config who node fault).node is
      (stayed node.facts (restart_outcome config who node fault).node.facts (restart_keeps config who node fault)))

  compact_grows : (who : NodeId) (fault : Fault) → Grows config world (dispatch config world (Compact who) fault).world
  compact_grows who fault = found_grows (node_at config world who)
      (λ node.
      if node.up then outcome_result config world who node.facts (compact_outcome node fault) else answer_result world (Refused Down))
      (λ node is. cond_both node.up _ _ (λ (result : StepResult). Grows config world result.world)
      (λ up. put_grows who node (compact_outcome node fault).node is
      (stayed node.facts (compact_outcome node fault).node.facts (compact_keeps node fault)))
      (λ down. still))

  tear_grows : (who : NodeId) (n : ℕ) (fault : Fault) → Grows config world (dispatch config world (Tear who n) fault).world
  tear_grows who n fault = found_grows (node_at config world who)
      (λ node. answer_result (set_node config world who (record node { tear = Some n })) Done)
      (λ node is. put_grows who node (record node { tear = Some n }) is (stayed node.facts node.facts refl))

  cut_grows : (n k : ℕ) (fault : Fault) → Grows config world (dispatch config world (Cut n k) fault).world
  cut_grows n k fault = found_grows (datagram_at world.net n)
      (λ d. if nat_lt k (length (spelling d.message)) then at_node config world d.receiver ReceivedNoise fault
      else answer_result world (Refused NoSuch))
      (λ d is. cond_both (nat_lt k (length (spelling d.message))) (at_node config world d.receiver ReceivedNoise fault)
      (answer_result world (Refused NoSuch)) (λ (result : StepResult). Grows config world result.world)
      (λ fewer. input_grows d.receiver ReceivedNoise fault) (λ all. still))

  noise_grows : (who : NodeId) (bytes : List ℕ) (fault : Fault) → Grows config world (dispatch config world (Noise who bytes) fault).world
  noise_grows who bytes fault = cond_both (spells_message bytes)
      (if_found world (λ node. answer_result world (Refused Forged)) (node_at config world who))
      (at_node config world who ReceivedNoise fault) (λ (result : StepResult). Grows config world result.world)
      (λ spelled. found_grows (node_at config world who) (λ node. answer_result world (Refused Forged)) (λ node is. still))
      (λ garbled. input_grows who ReceivedNoise fault)

-- an event that reaches its node, if it has one; a mark changes no facts
dispatch_grows : (config : Config) (world : World) (event : Event) (fault : Fault)
    → Grows config world (dispatch config world event fault).world
dispatch_grows config world (Ask who request) fault = input_grows config world who (Asked request) fault
dispatch_grows config world (Deliver n) fault = found_grows config world (datagram_at world.net n)
    (λ d. at_node config (with_mark world n) d.receiver (Received d.message) fault)
    (λ d is. input_grows config (with_mark world n) d.receiver (Received d.message) fault)
dispatch_grows config world (Lose n) fault = found_grows config world (datagram_at world.net n)
    (λ d. answer_result (with_mark world n) Done) (λ d is. still config world)
dispatch_grows config world (Cut n k) fault = cut_grows config world n k fault
dispatch_grows config world (Noise who bytes) fault = noise_grows config world who bytes fault
dispatch_grows config world (Tear who n) fault = tear_grows config world who n fault
dispatch_grows config world (Restart who) fault = restart_grows config world who fault
dispatch_grows config world (Compact who) fault = compact_grows config world who fault
dispatch_grows config world event fault = still config world

-- an event
pub step_grows : (config : Config) (world : World) (event : Event) (fault : Fault)
    → Grows config world (world_step config world event fault).world
step_grows config world event NoMemoryBefore = still config world
step_grows config world event fault = dispatch_grows config world event fault

-- ---- what facts that play say

module _ (config : Config) (who : NodeId) where
  -- the last one played after those before
  last_plays : (done facts : List Fact) (fact : Fact) → all_play config who done (facts ++ fact ∷ []) ≡ true
      → plays config who (done ++ facts) fact ≡ true
  last_plays done [] fact h =
      subst (λ (xs : List Fact). plays config who xs fact ≡ true) (sym (append-nil done))
      (and_parts (plays config who done fact) (all_play config who (done ++ fact ∷ []) []) h).0
  last_plays done (first ∷ facts) fact h =
      subst (λ (xs : List Fact). plays config who xs fact ≡ true) (append_assoc done (first ∷ []) facts)
      (last_plays (done ++ first ∷ []) facts fact
      (and_parts (plays config who done first) (all_play config who (done ++ first ∷ []) (facts ++ fact ∷ [])) h).1)

module _ (config : Config) (who : NodeId) where
  -- those before it play
  played_before : (done facts : List Fact) (fact : Fact) → all_play config who done (facts ++ fact ∷ []) ≡ true
      → all_play config who done facts ≡ true
  played_before done [] fact h = refl
  played_before done (first ∷ facts) fact h =
      let both = and_parts (plays config who done first) (all_play config who (done ++ first ∷ []) (facts ++ fact ∷ [])) h in
      both_true (plays config who done first) (all_play config who (done ++ first ∷ []) facts) both.0
      (played_before (done ++ first ∷ []) facts fact both.1)

-- a view that is prepared has its vote
prepared_voted : (facts : List Fact) (tx : TxParts) → is_prepared_view (view facts tx) ≡ true → HasVote facts tx votes.Prepared
prepared_voted facts tx prepared = by_view (view facts tx) prepared (view_is facts tx)
  where
    by_view : (v : View) → is_prepared_view v ≡ true → IsViewOf facts tx v → HasVote facts tx votes.Prepared
    by_view views.Prepared e h = h.0
    by_view views.Working e h = absurd (cc (e))
    by_view views.Committed e h = absurd (cc (e))
    by_view views.Aborted e h = absurd (cc (e))

-- each committed transaction was voted on
voted : (config : Config) (rm : ℕ) (done facts : List Fact) → all_play config (R rm) done facts ≡ true → (tx : TxParts)
    → IsIn facts (stored.Committed tx) → HasVote (done ++ facts) tx votes.Prepared
voted config rm done [] plays_all tx h = absurd h
voted config rm done (first ∷ facts) plays_all tx (inl e) =
    let both = and_parts (plays config (R rm) done first) (all_play config (R rm) (done ++ first ∷ []) facts) plays_all in
    let vote = prepared_voted done tx (subst (λ (f : Fact). plays config (R rm) done f ≡ true) e both.0) in
    (vote.0, IsIn-before done (first ∷ facts) (stored.VotePrepared tx vote.0) vote.1)
voted config rm done (first ∷ facts) plays_all tx (inr h) =
    let both = and_parts (plays config (R rm) done first) (all_play config (R rm) (done ++ first ∷ []) facts) plays_all in
    subst (λ (xs : List Fact). HasVote xs tx votes.Prepared) (append_assoc done (first ∷ []) facts)
    (voted config rm (done ++ first ∷ []) facts both.1 tx h)

module _ (before : List Fact) (fact : Fact) (tx : TxParts) where
  abbrev after : List Fact
  after = before ++ fact ∷ []

  was_there : (f : Fact) → IsIn after f → IsIn before f ⊎ (fact ≡ f)
  was_there f h = elim (IsIn-append before (fact ∷ []) f h) [ inl old ↦ inl old | inr (inl e) ↦ inr e | inr (inr none) ↦ absurd none ]

  -- a view that is committed then was it before, or the fact says so
  commit_joins : view after tx ≡ views.Committed → (view before tx ≡ views.Committed) ⊎ (fact ≡ stored.Committed tx)
  commit_joins e =
      let now : IsViewOf after tx views.Committed = subst (IsViewOf after tx) e (view_is after tx) in
      elim (was_there (stored.Committed tx) now.0) [
        | inl old ↦
            inl (by_view (view before tx) old (λ h. now.1 (IsIn-before before (fact ∷ []) (stored.VoteAborted tx) h))
            (λ h. now.2 (IsIn-before before (fact ∷ []) (stored.Aborted tx) h)) (view_is before tx))
        | inr same ↦ inr same
      ]
    where
      by_view : (v : View) → IsIn before (stored.Committed tx) → ¬ HasVote before tx votes.Aborted → ¬ IsIn before (stored.Aborted tx)
          → IsViewOf before tx v → v ≡ views.Committed
      by_view views.Working old no_vote no_abort h = absurd (h.1 old)
      by_view views.Prepared old no_vote no_abort h = absurd (h.1 old)
      by_view views.Committed old no_vote no_abort h = refl
      by_view views.Aborted old no_vote no_abort (inl h) = absurd (no_vote h)
      by_view views.Aborted old no_vote no_abort (inr h) = absurd (no_abort h)

  -- a commit of a transaction that was prepared makes its view committed
  committed_now : fact ≡ stored.Committed tx → view before tx ≡ views.Prepared → view after tx ≡ views.Committed
  committed_now e prepared =
      by_view (view after tx) (subst (IsViewOf before tx) prepared (view_is before tx))
      (subst (λ (f : Fact). IsIn after f) e (IsIn-last before fact)) (view_is after tx)
    where
      not_new : (f : Fact) → (stored.Committed tx ≡ f → ⊥) → ¬ IsIn before f → ¬ IsIn after f
      not_new f apart none h = elim (was_there f h) [ inl old ↦ none old | inr same ↦ apart (sym e ∙ same) ]

      by_view : (v : View) → IsViewOf before tx views.Prepared → IsIn after (stored.Committed tx) → IsViewOf after tx v
          → v ≡ views.Committed
      by_view views.Working was there h = absurd (h.1 there)
      by_view views.Prepared was there h = absurd (h.1 there)
      by_view views.Committed was there h = refl
      by_view views.Aborted was there (inl h) = absurd (not_new (stored.VoteAborted tx) (λ f. absurd (cc (f))) was.2 h)
      by_view views.Aborted was there (inr h) = absurd (not_new (stored.Aborted tx) (λ f. absurd (cc (f))) was.3 h)

-- ---- tables

-- the table by the facts of a node that is there
table_there : (config : Config) (world : World) (rm : ℕ) (node : NodeState) → node_at config world (R rm) ≡ Some node
    → table_at config world rm ≡ table (first_rows config rm) (facts_at config world (R rm))
table_there config world rm node is =
    ap (λ (o : Option NodeState). option_map_or (λ (m : NodeState). table (first_rows config rm) m.facts) o []) is
    ∙ ap (λ (o : Option NodeState). table (first_rows config rm) (facts_of o)) (sym is)

module _ (config : Config) (world next : World) (rm : ℕ) where
  abbrev facts : List Fact
  facts = facts_at config world (R rm)

  abbrev facts_now : List Fact
  facts_now = facts_at config next (R rm)

  abbrev first : List Row
  first = first_rows config rm

  -- there is no such resource manager
  pub none_moved : node_at config world (R rm) ≡ None → node_at config next (R rm) ≡ None
      → IsKept config world next rm ⊎ IsWritten config world next rm
  none_moved none none_now =
      let rows = λ (o : Option NodeState). option_map_or (λ (m : NodeState). table first m.facts) o [] in
      inl (record {
        views_are = λ tx e. ap (λ (o : Option NodeState). view (facts_of o) tx) (none ∙ sym none_now) ∙ e;
        table_is = ap rows (none_now ∙ sym none);
      })

  module _ (there : table_at config world rm ≡ table first facts) (there_now : table_at config next rm ≡ table first facts_now)
      (plays_all : all_play config (R rm) [] facts_now ≡ true) where
    -- the same facts
    same_facts : facts_now ≡ facts → IsKept config world next rm
    same_facts same = record {
      views_are = λ tx e. ap (λ (xs : List Fact). view xs tx) (sym same) ∙ e;
      table_is = there_now ∙ ap (table first) same ∙ sym there;
    }

    module _ (fact : Fact) (grown : facts_now ≡ facts ++ fact ∷ []) where
      plays_then : all_play config (R rm) [] (facts ++ fact ∷ []) ≡ true
      plays_then = subst (λ (xs : List Fact). all_play config (R rm) [] xs ≡ true) grown plays_all

      voted_then : (tx : TxParts) → IsIn facts (stored.Committed tx) → HasVote facts tx votes.Prepared
      voted_then tx h = voted config rm [] facts (played_before config (R rm) [] facts fact plays_then) tx h

      -- the table by one fact more
      table_then : table_at config next rm ≡ option_map_or (λ tx. with_writes (table first facts) (keys_voted
          (facts ++ fact ∷ []) tx)) (commit_of fact) (table first facts)
      table_then = there_now ∙ ap (table first) grown ∙ table_more facts fact voted_then first

      view_then : (tx : TxParts) (v : View) → view facts_now tx ≡ v → view (facts ++ fact ∷ []) tx ≡ v
      view_then tx v e = ap (λ (xs : List Fact). view xs tx) (sym grown) ∙ e

      -- no commit
      not_commit : ((tx : TxParts) → fact ≡ stored.Committed tx → ⊥) → commit_of fact ≡ None → IsKept config world next rm
      not_commit other none = record {
        views_are = λ tx e. elim (commit_joins facts fact tx (view_then tx views.Committed e)) [
          | inl before ↦ before
          | inr is ↦ absurd (other tx is)
        ];
        table_is =
            table_then
            ∙ ap (λ (o : Option TxParts). option_map_or (λ tx. with_writes (table first facts) (keys_voted
            (facts ++ fact ∷ []) tx)) o (table first facts)) none
            ∙ sym there;
      }

      commit : (tx : TxParts) → fact ≡ stored.Committed tx → IsWritten config world next rm
      commit tx is =
          let met : is_prepared_view (view facts tx) ≡ true =
          subst (λ (f : Fact). plays config (R rm) facts f ≡ true) is (last_plays config (R rm) [] facts fact plays_then) in
          let prepared : view facts tx ≡ views.Prepared = prepared_is (view facts tx) met in
          record {
            tx = tx;
            was = prepared;
            is = ap (λ (xs : List Fact). view xs tx) grown ∙ committed_now facts fact tx is prepared;
            alone = λ other e before. elim (commit_joins facts fact other (view_then other views.Committed e)) [
              | inl same ↦ absurd (before same)
              | inr also ↦ let one : stored.Committed other ≡ stored.Committed tx = sym also ∙ is in same_tx other tx one
            ];
            table_is =
                table_then
                ∙ ap (λ (f : Fact). option_map_or (λ t. with_writes (table first facts) (keys_voted
                (facts ++ fact ∷ []) t)) (commit_of f) (table first facts)) is
                ∙ ap (with_writes (table first facts)) (keys_stay facts fact tx (prepared_voted facts tx met))
                ∙ ap (λ (rows : List Row). with_writes rows (keys_voted facts tx)) (sym there);
          }
        where
          same_tx : (t u : TxParts) → stored.Committed t ≡ stored.Committed u → t ≡ u
          same_tx t u e = ap (λ (f : Fact). unwrap_or (commit_of f) t) e

      one_more : IsKept config world next rm ⊎ IsWritten config world next rm
      one_more = by_fact fact refl
        where
          by_fact : (f : Fact) → fact ≡ f → IsKept config world next rm ⊎ IsWritten config world next rm
          by_fact (stored.Committed tx) e = inr (commit tx e)
          by_fact other e = inl (not_commit (λ tx f. let g = sym e ∙ f in absurd (cc (g))) (ap commit_of e))

    by_growth : (fact : Option Fact) → facts_now ≡ facts ++ option_to_list fact
        → IsKept config world next rm ⊎ IsWritten config world next rm
    by_growth None e = inl (same_facts (e ∙ append-nil facts))
    by_growth (Some fact) e = one_more fact e

  -- where there is one, before and after
  pub table_moves : Grows config world next → all_play config (R rm) [] facts_now ≡ true → (node new : NodeState)
      → node_at config world (R rm) ≡ Some node → node_at config next (R rm) ≡ Some new
      → IsKept config world next rm ⊎ IsWritten config world next rm
  table_moves grows plays_all node new is is_now =
      let grown = grows (R rm) in
      by_growth (table_there config world rm node is) (table_there config next rm new is_now) plays_all grown.fact grown.is
