-- The events by which a transaction is ended in a backed world are moves of a cluster whose nodes work in groups.
-- Needed by `decides`, `ends`, `idle_branches_lead_to_commit`, `participants_follow`, `votes_decide` and `votes_lead_to_commit`.
use Rattle.std.proofs.Common.{◌≡◌, ◌⊎◌, inl, inr, ◌∙◌, ℕ, Bool, true, false, if◌then◌else◌, List, [], ◌∷◌, ◌++◌, Option, Some, None}
use Rattle.std.proofs.Common.{refl, sym, ap, subst}
use Rattle.std.specs.Prelude.{map}
use Rattle.std.specs.List.{list_all}
use Rattle.std.specs.Option.{option_map, option_map_or}
use Rattle.std.proofs.lemmas.Bool.{and_from, and_parts}
use Rattle.xid.specs.Transactions.{TxParts, tx_eq}
use Rattle.ballot.specs.Greatest.{IsIn}
use Rattle.safety.specs.CommitSteps.{View}
use Rattle.protocol.specs.declared.answers.Answer.{Answer}
use Rattle.protocol.specs.declared.events.Event.{Event}
use Rattle.protocol.specs.declared.events.Event.TheVariants.{Ask, Deliver, Restart}
use Rattle.protocol.specs.declared.nodes.NodeId.{NodeId}
use Rattle.protocol.specs.declared.nodes.NodeId.TheVariants.{L}
use Rattle.protocol.specs.declared.requests.Request.TheVariants.{Timeout, Status}
use Rattle.protocol.specs.Effects.{Config}
use Rattle.protocol.specs.Nodes.{NodeState, Input, Asked, Received, NoFault, node_step}
use Rattle.protocol.specs.Worlds.{World, Datagram, node_at, if_found, outcome_result, at_node, datagram_at, with_mark}
use Rattle.protocol.specs.Worlds.{world_step, world_after}
use Rattle.protocol.proofs.Lists.{IsIn-mapped}
use Rattle.progress.specs.Runs.{happens_at, are_at, without_fault, Leads}
use Rattle.progress.specs.Outcomes.{status_answer, HasOutcome, HaveEnded}
use Rattle.progress.proofs.Mail.{Letter, letter_of, mail, marked_mail, datagram_in, letters, posted_mail}
use Rattle.groups.specs.Runs.{CanBeHanded}
use Rattle.groups.specs.Turns.{Move, Restarts, Takes, one_turn, after_turn, after_turns}
use Rattle.groups.specs.Turns.{CanBeTaken, CanAllBeTaken, is_move_of, LeadsInTurns}
use Rattle.groups.proofs.Steps.{among, put}
use Rattle.groups.proofs.Upkeep.{upkeep_nodes, upkeep_net}
use Rattle.groups.proofs.Reached.{with_nodes}
use Rattle.groups.proofs.Taking.{after_move, after_moves, turns_are, move_taken}

-- two worlds differ in marks alone, and in who sent what
record IsLike (a b : World) : Type 0 where
  nodes_are : a.nodes ≡ b.nodes
  mail_is : mail a.net ≡ mail b.net

-- ---- one event

module _ (config : Config) (a b : World) (like : IsLike a b) where
  like_by : (who : NodeId) (input : Input) (o : Option NodeState)
      → IsLike (if_found a (λ node. outcome_result config a who node.facts (node_step config who node input NoFault)) o).world
      (if_found b (λ node. outcome_result config b who node.facts (node_step config who node input NoFault)) o).world
  like_by who input None = like
  like_by who input (Some node) =
      let left = node_step config who node input NoFault in record {
        nodes_are = ap (put config who left.node) like.nodes_are;
        mail_is = posted_mail config who a.net left.sends
            ∙ ap (λ (post : List Letter). post ++ letters config left.sends) like.mail_is ∙ sym (posted_mail config who b.net left.sends);
      }

  like_after : (who : NodeId) (input : Input)
      → IsLike (at_node config a who input NoFault).world (at_node config b who input NoFault).world
  like_after who input =
      subst (λ (o : Option NodeState). IsLike (at_node config a who input NoFault).world
      (if_found b (λ node. outcome_result config b who node.facts (node_step config who node input NoFault)) o).world)
      (ap (λ (nodes : List NodeState). among config nodes who) like.nodes_are) (like_by who input (node_at config a who))

  like_restarted : (who : NodeId)
      → IsLike (world_step config a (Restart who) NoFault).world (world_step config b (Restart who) NoFault).world
  like_restarted who = record {
    nodes_are = upkeep_nodes config a b like.nodes_are (Restart who) NoFault refl;
    mail_is = ap mail (upkeep_net config a (Restart who) NoFault refl) ∙ like.mail_is
        ∙ sym (ap mail (upkeep_net config b (Restart who) NoFault refl));
  }

-- a datagram of a like world can be handed over
can_be_handed : (a b : World) → IsLike a b → (d : Datagram) → IsIn (mail a.net) (letter_of d)
    → CanBeHanded b d.receiver (Received d.message)
can_be_handed a b like d h =
    let from = IsIn-mapped letter_of b.net (letter_of d) (subst (λ (post : List Letter). IsIn post (letter_of d)) like.mail_is h) in
    (from.source, from.among, ap (λ (l : Letter). l.receiver) from.maps, ap (λ (l : Letter). l.message) from.maps)

module _ (config : Config) (part : NodeId → Bool) (tx : TxParts) where
  -- a move at a node that takes part, by which a world comes to one that is like the one after an event
  record IsMove (before after : World) : Type 0 where
    move : Move
    at : is_move_of part tx move ≡ true
    can : CanBeTaken config before (one_turn move)
    taken : after_turn config before (one_turn move) ≡ after_move config before move
    like : IsLike after (after_move config before move)

  takes : (before after : World) (who : NodeId) (input : Input) → is_move_of part tx (Takes who input) ≡ true
      → CanBeHanded before who input → IsLike after (at_node config before who input NoFault).world → IsMove before after
  takes before after who input at can like = record {
    move = Takes who input;
    at = at;
    can = ((can, tt), λ node is. tt);
    taken = move_taken config before who input;
    like = like;
  }

  module _ (a b : World) (like : IsLike a b) where
    timed_out : (who : NodeId) (other : TxParts) (t : Bool) → tx_eq tx other ≡ t
        → option_map_or part (if t then Some who else None) false ≡ true
        → IsMove b (world_step config a (Ask who (Timeout other)) NoFault).world
    timed_out who other false e at = absurd (cc (at))
    timed_out who other true e at =
        takes b (world_step config a (Ask who (Timeout other)) NoFault).world who (Asked (Timeout other))
        (and_from (part who) (tx_eq tx other) at e) tt (like_after config a b like who (Asked (Timeout other)))

    delivered : (n : ℕ) (o : Option Datagram) → datagram_at a.net n ≡ o
        → option_map_or part (option_map (λ (d : Datagram). d.receiver) o) false ≡ true
        → IsMove b (if_found a (λ d. at_node config (with_mark a n) d.receiver (Received d.message) NoFault) o).world
    delivered n None is at = absurd (cc (at))
    delivered n (Some d) is at =
        takes b (at_node config (with_mark a n) d.receiver (Received d.message) NoFault).world d.receiver (Received d.message) at
        (can_be_handed a b like d (datagram_in a.net n d is))
        (like_after config (with_mark a n) b
        (record { nodes_are = like.nodes_are; mail_is = marked_mail a.net n ∙ like.mail_is }) d.receiver (Received d.message))

    -- an event of a run is a move
    moves : (event : Event) → option_map_or part (happens_at a tx event) false ≡ true
        → IsMove b (world_step config a event NoFault).world
    moves (Restart who) at = record {
      move = Restarts who;
      at = at;
      can = tt;
      taken = refl;
      like = like_restarted config a b like who;
    }
    moves (Ask who (Timeout other)) at = timed_out who other (tx_eq tx other) refl at
    moves (Deliver n) at = delivered n (datagram_at a.net n) refl at
    moves event at = absurd (cc (at))

  -- ---- one event after another

  record AreMoves (before after : World) : Type 0 where
    all : List Move
    at : list_all (is_move_of part tx) all ≡ true
    each : CanAllBeTaken config before (map one_turn all)
    nodes_are : after.nodes ≡ (after_moves config before all).nodes

  all_move : (events : List Event) (a b : World) → IsLike a b → are_at config part tx a events ≡ true
      → AreMoves b (world_after config a (without_fault events))
  all_move [] a b like at = record { all = []; at = refl; each = tt; nodes_are = like.nodes_are }
  all_move (event ∷ events) a b like at =
      let next : World = (world_step config a event NoFault).world in
      let parts = and_parts (option_map_or part (happens_at a tx event) false) (are_at config part tx next events) at in
      let one = moves a b like event parts.0 in
      let rest = all_move events next (after_move config b one.move) one.like parts.1 in
      record {
        all = one.move ∷ rest.all;
        at = and_from (is_move_of part tx one.move) (list_all (is_move_of part tx) rest.all) one.at rest.at;
        each = (one.can, subst (λ (w : World). CanAllBeTaken config w (map one_turn rest.all)) (sym one.taken) rest.each);
        nodes_are = rest.nodes_are;
      }

  -- so a run leads on in turns, to what nodes alone decide
  pub leads_in_turns : (P : World → Type 0) → ((a b : World) → a.nodes ≡ b.nodes → P a → P b) → (world : World)
      → Leads config part tx P world → LeadsInTurns config part tx P world
  leads_in_turns P same world run =
      let m = all_move run.events world world (record { nodes_are = refl; mail_is = refl }) run.at in
      record {
        moves = m.all;
        at = m.at;
        each = m.each;
        holds = λ turns are can.
            same (world_after config world (without_fault run.events)) (after_turns config world turns)
            (m.nodes_are ∙ sym (ap (λ (w : World). w.nodes)
            (turns_are config turns world can ∙ ap (λ (all : List Move). after_moves config world all) are)))
            run.holds;
      }

-- ---- what nodes decide

module _ (config : Config) (tx : TxParts) (a b : World) (nodes_are : a.nodes ≡ b.nodes) where
  pub same_status : (l : ℕ) → status_answer config a l tx ≡ status_answer config b l tx
  same_status l = by_node (node_at config a (L l)) ∙ ap (told b) (ap (λ (nodes : List NodeState). among config nodes (L l)) nodes_are)
    where
      told : World → Option NodeState → Answer
      told world o = (if_found world (λ node. outcome_result config world (L l) node.facts
          (node_step config (L l) node (Asked (Status tx)) NoFault)) o).answer

      by_node : (o : Option NodeState) → told a o ≡ told b o
      by_node None = refl
      by_node (Some node) = refl

  pub same_answer : (l : ℕ) (answer : Answer) → status_answer config a l tx ≡ answer → status_answer config b l tx ≡ answer
  same_answer l answer h = sym (same_status l) ∙ h

  pub same_outcome : (l : ℕ) → HasOutcome config l tx a → HasOutcome config l tx b
  same_outcome l (inl h) = inl (sym (same_status l) ∙ h)
  same_outcome l (inr h) = inr (sym (same_status l) ∙ h)

  pub same_end : (outcome : View) → HaveEnded config tx outcome a → HaveEnded config tx outcome b
  same_end outcome = subst (λ (nodes : List NodeState). HaveEnded config tx outcome a → HaveEnded config tx outcome (with_nodes b nodes))
      nodes_are (λ h. h)

  pub same_end_of_two : (x y : View) → HaveEnded config tx x a ⊎ HaveEnded config tx y a → HaveEnded config tx x b ⊎ HaveEnded config tx y b
  same_end_of_two x y (inl h) = inl (same_end x h)
  same_end_of_two x y (inr h) = inr (same_end y h)
