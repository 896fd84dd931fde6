-- What happened in groups is what happens in a run of the machine, which tells one outcome.
use Rattle.std.proofs.Common.{◌≡◌, ◌∙◌, inl, inr, ℕ, true, List, [], ◌∷◌, ◌++◌, Some, refl, sym, ap, subst, append-nil}
use Rattle.std.specs.Prelude.{map, Ok}
use Rattle.std.specs.List.{AllByRecursion}
use Rattle.xid.specs.Transactions.{TxParts}
use Rattle.ballot.specs.Greatest.{IsIn}
use Rattle.safety.specs.Vocabulary.{L, NodeId, Request, Stands as answers}
use Rattle.safety.specs.CommitSteps.{committed}
use Rattle.safety.specs.Runs as reachable
use Rattle.protocol.specs.declared.states.Standing.{Standing}
use Rattle.protocol.specs.declared.states.Standing.TheVariants as standings
use Rattle.protocol.specs.Effects.{Config}
use Rattle.protocol.specs.Nodes.{NodeState, Input, Asked}
use Rattle.protocol.specs.Worlds.{World, Occurrence, opening, node_at, step_of, world_step}
use Rattle.protocol.proofs.Lists.{IsIn-after}
use Rattle.answers.specs.Answers.{IsQuestion, HavePrepared, NoneIs}
use Rattle.answers.proofs.Runs.{never_both, prepared_ever, uncommitted_ever, IsToldIn}
use Rattle.node_core.specs.declared.output.Output.{Output}
use Rattle.node_core.specs.Nodes.{NodeParts}
use Rattle.groups.specs.Nodes.{IsGroup, replied}
use Rattle.groups.specs.Runs.{Handed, Happening, Handled, IsReached, Grouped, IsMachines, AreSame, IsSame, all_happened, handled_in}
use Rattle.groups.specs.Runs.{CanBeHanded, group_result}
use Rattle.groups.proofs.Reached.{are_machines, with_nodes}
use Rattle.cluster_answers.specs.Steps.{TellsIn, HasTold, IsToldAmong}

-- what happened in groups happens in the run that is the same
told_in : (config : Config) (world : World) (events : List Occurrence) (happened : List Happening) → AreSame config world events happened
    → (l : ℕ) (tx : TxParts) (standing : Standing) (told : Happening) → IsIn happened told → TellsIn l tx standing told
    → IsToldIn config world events l tx standing
told_in config world [] [] same l tx standing told h tells = absurd h
told_in config world [] (first ∷ happened) same l tx standing told h tells = absurd same
told_in config world (event ∷ events) [] same l tx standing told h tells = absurd h
told_in config world (event ∷ events) (first ∷ happened) same l tx standing told (inl e) tells =
    let result = world_step config world event.event event.fault in
    let handled : IsSame world event.event result.answer (Handled (L l) (Asked tells.request) (answers standing)) =
    subst (IsSame world event.event result.answer) tells.is (subst (IsSame world event.event result.answer) e same.0) in
    record {
      step = step_of world event.event result;
      among = inl refl;
      tells = record { request = tells.request; asks = tells.asks; event_is = handled.0; answer_is = handled.1 };
    }
told_in config world (event ∷ events) (first ∷ happened) same l tx standing told (inr h) tells =
    let later = told_in config (world_step config world event.event event.fault).world events happened same.1 l tx standing told h tells in
    record { step = later.step; among = inr later.among; tells = later.tells }

module _ (config : Config) (world : World) (reach : IsReached config world) (tx : TxParts) where
  machines : IsMachines config world (all_happened config world reach)
  machines = are_machines config world reach

  found : (l : ℕ) (standing : Standing) (told : Happening) → IsIn (all_happened config world reach) told → TellsIn l tx standing told
      → IsToldIn config (opening config) machines.events l tx standing
  found l standing told h tells =
      told_in config (opening config) machines.events (all_happened config world reach) machines.same l tx standing told h tells

  pub one_outcome : (l other : ℕ) (one two : Happening) → IsIn (all_happened config world reach) one
      → TellsIn l tx standings.Committed one → IsIn (all_happened config world reach) two → TellsIn other tx standings.Aborted two → ⊥
  one_outcome l other one two h commits k aborts =
      let first = found l standings.Committed one h commits in
      let second = found other standings.Aborted two k aborts in
      never_both config tx l other first.step second.step first.tells second.tells (opening config) reachable.Opening machines.events
      first.among second.among

  module _ (l : ℕ) (told : Happening) (h : IsIn (all_happened config world reach) told) where
    pub prepared_now : TellsIn l tx standings.Committed told → HavePrepared config tx world
    prepared_now tells =
        let step = found l standings.Committed told h tells in
        subst (λ (nodes : List NodeState). HavePrepared config tx (with_nodes world nodes)) machines.nodes_are
        (λ q named.
        let has = prepared_ever config tx l step.step step.tells (opening config) reachable.Opening machines.events step.among q named in
        record { voted = has.voted; ready = has.ready })

    pub uncommitted_now : TellsIn l tx standings.Aborted told → NoneIs config tx committed world
    uncommitted_now tells =
        let step = found l standings.Aborted told h tells in
        subst (λ (nodes : List NodeState). NoneIs config tx committed (with_nodes world nodes)) machines.nodes_are
        (uncommitted_ever config tx l step.step step.tells (opening config) reachable.Opening machines.events step.among)

-- ---- what a node over a record answers

-- a request for a transaction that was answered so, among replies
record IsReplied (who : NodeId) (tx : TxParts) (standing : Standing) (replies : List Happening) : Type 0 where
  request : Request
  asks : IsQuestion tx request
  among : IsIn replies (Handled who (Asked request) (answers standing))

module _ (who : NodeId) (tx : TxParts) (standing : Standing) where
  replied_so : (group : List Handed) (outs : List Output) → IsToldAmong tx standing (map (λ (h : Handed). h.input) group) outs
      → IsReplied who tx standing (replied who group outs)
  replied_so [] outs told = absurd told
  replied_so (first ∷ rest) [] told = absurd told
  replied_so (first ∷ rest) (out ∷ outs) (inl (request, is, asks, reply_is)) = record {
    request = request;
    asks = asks;
    among = inl (λ i. Handled who (is i) (reply_is i));
  }
  replied_so (first ∷ rest) (out ∷ outs) (inr later) =
      let r = replied_so rest outs later in record { request = r.request; asks = r.asks; among = inr r.among }

all_handed : (world : World) (who : NodeId) (group : List Handed)
    → AllByRecursion (CanBeHanded world who) (map (λ (h : Handed). h.input) group)
    → AllByRecursion (λ (h : Handed). CanBeHanded world who h.input) group
all_handed world who [] all = tt
all_handed world who (first ∷ rest) all = (all.0, all_handed world who rest all.1)

module _ (config : Config) (world : World) (reach : IsReached config world) (m : NodeState) (inputs : List Input) (old new : NodeParts)
    (outs : List Output) (is : node_at config world old.who ≡ Some m) (all : AllByRecursion (CanBeHanded world old.who) inputs)
    (group : IsGroup config m inputs old new outs (Ok tt)) where
  inputs_are : inputs ≡ map (λ (h : Handed). h.input) group.group
  inputs_are =
      group.inputs_are ∙ ap (λ (behind : List Input). map (λ (h : Handed). h.input) group.group ++ behind) group.all
      ∙ append-nil (map (λ (h : Handed). h.input) group.group)

  pub node_tells : (l : ℕ) → old.who ≡ L l → (tx : TxParts) (standing : Standing) → IsToldAmong tx standing inputs outs
      → HasTold config (group_result config world old.who m group.group true) l tx standing
  node_tells l who_is tx standing told =
      let r = replied_so old.who tx standing group.group outs
      (subst (λ (all : List Input). IsToldAmong tx standing all outs) inputs_are told) in
      record {
        reach = Grouped world old.who m group.group true reach is
            (all_handed world old.who group.group (subst (AllByRecursion (CanBeHanded world old.who)) inputs_are all));
        told = Handled old.who (Asked r.request) (answers standing);
        among = IsIn-after (all_happened config world reach) (handled_in config old.who m group.group)
            (Handled old.who (Asked r.request) (answers standing))
            (subst (λ (happened : List Happening). IsIn happened (Handled old.who (Asked r.request) (answers standing)))
            (sym group.told.happened) r.among);
        tells = record {
          request = r.request;
          asks = r.asks;
          is = ap (λ (who : NodeId). Handled who (Asked r.request) (answers standing)) who_is;
        };
      }
