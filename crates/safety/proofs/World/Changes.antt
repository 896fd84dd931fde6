-- An event changes no other view than the one that it says.
-- Needed by `changes_are_said`; 7 crates above.
use Rattle.std.proofs.Common.{◌≡◌, ◌≢◌, ◌⊎◌, inl, inr, ◌∙◌, ℕ, Bool, true, false, ◌||◌, ◌==◌, if◌then◌else◌, List, [], ◌∷◌, ◌++◌, length}
use Rattle.std.proofs.Common.{Option, Some, None, refl, sym, ap, subst, nat_lt, arith}
use Rattle.std.specs.List.{list_any, slice_get}
use Rattle.std.specs.Option.{option_to_list, option_and_then}
use Rattle.std.proofs.lemmas.Bool.{cond_both}
use Rattle.std.proofs.lemmas.List.{append-nil}
use Rattle.std.proofs.lemmas.List.Folds.{list_any-append}
use Rattle.std.proofs.lemmas.Option.{slice_get_past}
use Rattle.xid.specs.Transactions.{TxParts, tx_eq}
use Rattle.xid.specs.declared.transaction.Vote.TheVariants as votes
use Rattle.xid.proofs.Deciding.{tx_decides}
use Rattle.stable_record.specs.Facts.{fact_tx}
use Rattle.xid.specs.declared.refusals.Refusal.TheVariants.{NoSuch, Forged, NoMemory, Down}
use Rattle.protocol.specs.Basics.{Fact}
use Rattle.protocol.specs.declared.states.View.TheVariants as views
use Rattle.safety.specs.Vocabulary.{NodeId, A, L, R, View, Change, Answer, Done, Refused, Event, Ask, Deliver, Lose, Cut, Noise, Tear}
use Rattle.safety.specs.Vocabulary.{Restart, Compact}
use Rattle.protocol.specs.Facts.{view, is_vote_of, is_commit_of, is_abort_of}
use Rattle.wire.specs.Decoding.{spells_message}
use Rattle.wire.specs.Grammar.{spelling}
use Rattle.protocol.specs.Effects.{Config}
use Rattle.protocol.specs.Nodes.{NodeState, Input, Asked, Received, ReceivedNoise, Fault, RecordFails, NoMemoryBefore, NoMemoryAt, Outcome}
use Rattle.protocol.specs.Nodes.{effect_of, node_step, restart_outcome, compact_outcome, all_play}
use Rattle.protocol.specs.Worlds.{World, StepResult, view_number, change_of, node_at, set_node, datagram_at, answer_result, outcome_result}
use Rattle.protocol.specs.Worlds.{if_found, at_node, dispatch, world_step, with_mark}
use Rattle.protocol.proofs.Kept.Facts.{other_vote, other_commit, other_abort}
use Rattle.safety.specs.Changes.{SaysItsChange}
use Rattle.safety.specs.Standing.{facts_of, facts_at}
use Rattle.safety.proofs.World.Growth.{same_node}
use Rattle.safety.proofs.World.NodePlaces.{node_there, node_elsewhere}
use Rattle.safety.proofs.World.Outcomes.{step_is}

-- ---- one more fact

pub or_none : (b : Bool) → (b || false) ≡ b
or_none true = refl
or_none false = refl

-- one more that doesn't pass
pub any_same : (p : Fact → Bool) (facts : List Fact) (fact : Fact) → p fact ≡ false → list_any p (facts ++ fact ∷ []) ≡ list_any p facts
any_same p facts fact e =
    list_any-append p facts (fact ∷ []) ∙ ap (λ (b : Bool). list_any p facts || (b || false)) e ∙ or_none (list_any p facts)

-- a fact of another transaction leaves the view
pub view_other : (facts : List Fact) (fact : Fact) (tx : TxParts) → tx_eq tx (fact_tx fact) ≡ false → view (facts ++ fact ∷ []) tx
    ≡ view facts tx
view_other facts fact tx e = λ i.
    if any_same (is_vote_of tx votes.Aborted) facts fact (other_vote tx votes.Aborted fact e) i
    || any_same (is_abort_of tx) facts fact (other_abort tx fact e) i then views.Aborted
    else if any_same (is_commit_of tx) facts fact (other_commit tx fact e) i then views.Committed
    else if any_same (is_vote_of tx votes.Prepared) facts fact (other_vote tx votes.Prepared fact e) i then views.Prepared
    else views.Working

-- views of one number are the same
numbered_is : (v w : View) → (view_number v == view_number w) ≡ true → v ≡ w
numbered_is views.Working views.Working e = refl
numbered_is views.Prepared views.Prepared e = refl
numbered_is views.Committed views.Committed e = refl
numbered_is views.Aborted views.Aborted e = refl
numbered_is v w e = absurd (cc (e))

number_self : (v : View) → (view_number v == view_number v) ≡ true
number_self views.Working = refl
number_self views.Prepared = refl
number_self views.Committed = refl
number_self views.Aborted = refl

-- ---- what is said, by the facts before and after

record SaysByFacts (who : NodeId) (before after : List Fact) (now : Option Change) : Type 0 where
  pub only : (rm : ℕ) (tx : TxParts) → who ≡ R rm → view after tx ≢ view before tx
      → now ≡ Some (record { rm = rm; tx = tx; view = view after tx })
  pub said : (change : Change) → now ≡ Some change
      → (who ≡ R change.rm) × (view after change.tx ≡ change.view) × (view before change.tx ≢ change.view)

-- the last of facts and one more is that one
pub last_is : (before : List Fact) (fact : Fact) → slice_get (before ++ fact ∷ []) (length before) ≡ Some fact
last_is [] fact = refl
last_is (first ∷ before) fact = last_is before fact

-- the change at a resource manager, by the fact that it stored
abbrev pub change_by : ℕ → List Fact → List Fact → Fact → Option Change
change_by rm before after fact =
    if view_number (view before (fact_tx fact)) == view_number (view after (fact_tx fact)) then None
    else Some (record { rm = rm; tx = fact_tx fact; view = view after (fact_tx fact) })

nothing_said : (who : NodeId) (facts : List Fact) → SaysByFacts who facts facts None
nothing_said who facts = record { only = λ rm tx at differs. absurd (differs refl); said = λ change e. absurd (cc (e)) }

module _ (rm : ℕ) (before : List Fact) (fact : Fact) where
  abbrev after : List Fact
  after = before ++ fact ∷ []

  abbrev same_number : Bool
  same_number = view_number (view before (fact_tx fact)) == view_number (view after (fact_tx fact))

  abbrev change_to : ℕ → TxParts → Option Change
  change_to n tx = Some (record { rm = n; tx = tx; view = view after tx })

  abbrev IsChangeSaid : Change → Type 0
  IsChangeSaid change = (R rm ≡ R change.rm) × (view after change.tx ≡ change.view) × (view before change.tx ≢ change.view)

  own_tx : (tx : TxParts) → view after tx ≢ view before tx → tx ≡ fact_tx fact
  own_tx tx differs = (tx_decides tx (fact_tx fact)).0 (by_test (tx_eq tx (fact_tx fact)) refl)
    where
      by_test : (b : Bool) → tx_eq tx (fact_tx fact) ≡ b → tx_eq tx (fact_tx fact) ≡ true
      by_test true e = e
      by_test false e = absurd (differs (view_other before fact tx e))

  said_by : (b : Bool) → same_number ≡ b
      → SaysByFacts (R rm) before after (if b then None else Some (record { rm = rm; tx = fact_tx fact; view = view after (fact_tx fact) }))
  said_by true e = record {
    only = λ n tx at differs.
        let own = own_tx tx differs in
        absurd (differs (subst (λ (t : TxParts). view after t ≡ view before t) (sym own)
        (sym (numbered_is (view before (fact_tx fact)) (view after (fact_tx fact)) e))));
    said = λ change f. absurd (cc (f));
  }
  said_by false e = record {
    only = λ n tx at differs.
        let own = own_tx tx differs in
        let here : n ≡ rm = cc (at) in
        subst (λ (m : ℕ). change_to rm (fact_tx fact) ≡ change_to m tx) (sym here)
        (subst (λ (t : TxParts). change_to rm (fact_tx fact) ≡ change_to rm t) (sym own) refl);
    said = λ change f.
        let is : record { rm = rm; tx = fact_tx fact; view = view after (fact_tx fact) } ≡ change = cc (f) in
        subst IsChangeSaid is (
          refl,
          refl,
          λ same. absurd (cc (
            e,
            subst (λ (v : View). (view_number (view before (fact_tx fact)) == view_number v) ≡ true) same
                (number_self (view before (fact_tx fact))),
          )),
        );
  }

said_grown : (who : NodeId) (before : List Fact) (fact : Fact)
    → SaysByFacts who before (before ++ fact ∷ []) (change_of who before (before ++ fact ∷ []))
said_grown (R rm) before fact =
    subst (λ (o : Option Fact). SaysByFacts (R rm) before (before ++ fact ∷ []) (option_and_then (change_by rm before
    (before ++ fact ∷ [])) o))
    (sym (last_is before fact)) (said_by rm before fact _ refl)
said_grown (A a) before fact = record { only = λ rm tx at differs. absurd (cc (at)); said = λ change e. absurd (cc (e)) }
said_grown (L l) before fact = record { only = λ rm tx at differs. absurd (cc (at)); said = λ change e. absurd (cc (e)) }

said_same : (who : NodeId) (facts : List Fact) → SaysByFacts who facts facts (change_of who facts facts)
said_same (R rm) facts =
    subst (λ (o : Option Fact). SaysByFacts (R rm) facts facts (option_and_then (change_by rm facts facts) o))
    (sym (slice_get_past facts (length facts) (omega arith))) (nothing_said (R rm) facts)
said_same (A a) facts = nothing_said (A a) facts
said_same (L l) facts = nothing_said (L l) facts

grown_or_same : (who : NodeId) (before : List Fact) (fact : Option Fact)
    → SaysByFacts who before (before ++ option_to_list fact) (change_of who before (before ++ option_to_list fact))
grown_or_same who before None =
    subst (λ (fs : List Fact). SaysByFacts who before fs (change_of who before fs)) (sym (append-nil before)) (said_same who before)
grown_or_same who before (Some fact) = said_grown who before fact

by_equal : (who : NodeId) (before after other : List Fact) → after ≡ other → SaysByFacts who before other (change_of who before other)
    → SaysByFacts who before after (change_of who before after)
by_equal who before after other e says = subst (λ (fs : List Fact). SaysByFacts who before fs (change_of who before fs)) (sym e) says

possible_says : (who : NodeId) (node : NodeState) (fact : Option Fact) (left : Outcome)
    → (left.node.facts ≡ node.facts) ⊎ (left.node.facts ≡ node.facts ++ option_to_list fact)
    → SaysByFacts who node.facts left.node.facts (change_of who node.facts left.node.facts)
possible_says who node fact left (inl same) = by_equal who node.facts left.node.facts node.facts same (said_same who node.facts)
possible_says who node fact left (inr grown) =
    by_equal who node.facts left.node.facts (node.facts ++ option_to_list fact) grown (grown_or_same who node.facts fact)

-- a restart leaves the facts
pub restart_keeps : (config : Config) (who : NodeId) (node : NodeState) (fault : Fault) → (restart_outcome config who node fault).node.facts
    ≡ node.facts
restart_keeps config who node NoMemoryAt = refl
restart_keeps config who node (RecordFails whole) = refl
restart_keeps config who node fault =
    cond_both (all_play config who [] node.facts) _ _ (λ (left : Outcome). left.node.facts ≡ node.facts) (λ plays. refl) (λ damaged. refl)

-- a compaction leaves the facts
pub compact_keeps : (node : NodeState) (fault : Fault) → (compact_outcome node fault).node.facts ≡ node.facts
compact_keeps node NoMemoryAt = refl
compact_keeps node (RecordFails whole) = refl
compact_keeps node fault = refl

-- ---- in the world

module _ (config : Config) (world : World) where
  -- the facts are those before, and nothing is said
  same_facts : (result : StepResult) → ((n : NodeId) → facts_at config result.world n ≡ facts_at config world n) → result.now ≡ None
      → SaysItsChange config world result
  same_facts result same silent = record {
    only = λ rm tx differs. absurd (differs (ap (λ (fs : List Fact). view fs tx) (same (R rm))));
    said = λ change e. absurd (cc (e, silent));
  }

  unchanged : (answer : Answer) → SaysItsChange config world (answer_result world answer)
  unchanged answer = same_facts (answer_result world answer) (λ n. refl) refl

  outcome_says : (who : NodeId) (node : NodeState) (left : Outcome) → node_at config world who ≡ Some node
      → SaysByFacts who node.facts left.node.facts (change_of who node.facts left.node.facts)
      → SaysItsChange config world (outcome_result config world who node.facts left)
  outcome_says who node left stands says = record {
    only = λ rm tx differs. elim (same_node (R rm) who) [
      | inl same ↦
          let now_is = facts_now (R rm) same in
          let was = facts_before (R rm) same in
          subst (λ (fs : List Fact). result.now ≡ Some (record { rm = rm; tx = tx; view = view fs tx })) (sym now_is)
          (says.only rm tx (sym same) (λ e. differs
          (ap (λ (fs : List Fact). view fs tx) now_is ∙ e ∙ sym (ap (λ (fs : List Fact). view fs tx) was))))
      | inr apart ↦ absurd (differs (ap (λ (fs : List Fact). view fs tx) (facts_elsewhere (R rm) apart)))
    ];
    said = λ change e.
        let is = says.said change e in
        let now_is = facts_now (R change.rm) (sym is.0) in
        let was = facts_before (R change.rm) (sym is.0) in (
          ap (λ (fs : List Fact). view fs change.tx) now_is ∙ is.1,
          λ f. is.2 (sym (ap (λ (fs : List Fact). view fs change.tx) was) ∙ f),
        );
  }
    where
      result : StepResult
      result = outcome_result config world who node.facts left

      facts_now : (n : NodeId) → n ≡ who → facts_at config result.world n ≡ left.node.facts
      facts_now n e = ap (facts_at config result.world) e ∙ ap facts_of (node_there config world who node left.node stands)

      facts_before : (n : NodeId) → n ≡ who → facts_at config world n ≡ node.facts
      facts_before n e = ap (facts_at config world) e ∙ ap facts_of stands

      facts_elsewhere : (n : NodeId) → (n ≡ who → ⊥) → facts_at config result.world n ≡ facts_at config world n
      facts_elsewhere n apart = ap facts_of (node_elsewhere config world who n left.node apart)

  found_says : {X : Type 0} (o : Option X) (f : X → StepResult) → ((x : X) → o ≡ Some x → SaysItsChange config world (f x))
      → SaysItsChange config world (if_found world f o)
  found_says None f says = unchanged (Refused NoSuch)
  found_says (Some x) f says = says x refl

  input_says : (who : NodeId) (input : Input) (fault : Fault) → SaysItsChange config world (at_node config world who input fault)
  input_says who input fault = found_says (node_at config world who)
      (λ node. outcome_result config world who node.facts (node_step config who node input fault))
      (λ node stands.
      let left = node_step config who node input fault in
      let e = effect_of config who node.facts node.memory input in
      outcome_says who node left stands (possible_says who node e.fact left (elim (step_is config who node input fault) [
        | inl keeps ↦ inl keeps.facts
        | inr (inl stopped) ↦ inr stopped.facts
        | inr (inr finished) ↦ inr finished.facts
      ])))

  restart_says : (who : NodeId) (fault : Fault) → SaysItsChange config world (dispatch config world (Restart who) fault)
  restart_says who fault = found_says (node_at config world who)
      (λ node. outcome_result config world who node.facts (restart_outcome config who node fault))
      (λ node stands. outcome_says who node (restart_outcome config who node fault) stands
      (possible_says who node None (restart_outcome config who node fault) (inl (restart_keeps config who node fault))))

  compact_says : (who : NodeId) (fault : Fault) → SaysItsChange config world (dispatch config world (Compact who) fault)
  compact_says who fault = found_says (node_at config world who)
      (λ node.
      if node.up then outcome_result config world who node.facts (compact_outcome node fault) else answer_result world (Refused Down))
      (λ node stands. cond_both node.up _ _ (SaysItsChange config world)
      (λ up. outcome_says who node (compact_outcome node fault) stands
      (possible_says who node None (compact_outcome node fault) (inl (compact_keeps node fault))))
      (λ down. unchanged (Refused Down)))

  tear_says : (who : NodeId) (n : ℕ) (fault : Fault) → SaysItsChange config world (dispatch config world (Tear who n) fault)
  tear_says who n fault = found_says (node_at config world who)
      (λ node. answer_result (set_node config world who (record node { tear = Some n })) Done)
      (λ node stands. same_facts (answer_result (set_node config world who (record node { tear = Some n })) Done)
      (λ m. elim (same_node m who) [
        | inl same ↦
            ap (facts_at config (set_node config world who (record node { tear = Some n }))) same
            ∙ ap facts_of (node_there config world who node (record node { tear = Some n }) stands)
            ∙ sym (ap (facts_at config world) same ∙ ap facts_of stands)
        | inr apart ↦ ap facts_of (node_elsewhere config world who m (record node { tear = Some n }) apart)
      ]) refl)

  cut_says : (n k : ℕ) (fault : Fault) → SaysItsChange config world (dispatch config world (Cut n k) fault)
  cut_says n k fault = found_says (datagram_at world.net n)
      (λ d. if nat_lt k (length (spelling d.message)) then at_node config world d.receiver ReceivedNoise fault
      else answer_result world (Refused NoSuch))
      (λ d is. cond_both (nat_lt k (length (spelling d.message))) (at_node config world d.receiver ReceivedNoise fault)
      (answer_result world (Refused NoSuch)) (SaysItsChange config world)
      (λ fewer. input_says d.receiver ReceivedNoise fault) (λ all. unchanged (Refused NoSuch)))

  noise_says : (who : NodeId) (bytes : List ℕ) (fault : Fault) → SaysItsChange config world (dispatch config world (Noise who bytes) fault)
  noise_says who bytes fault = cond_both (spells_message bytes)
      (if_found world (λ node. answer_result world (Refused Forged)) (node_at config world who))
      (at_node config world who ReceivedNoise fault) (SaysItsChange config world)
      (λ spelled. found_says (node_at config world who) (λ node. answer_result world (Refused Forged)) (λ node is. unchanged
      (Refused Forged)))
      (λ garbled. input_says who ReceivedNoise fault)

-- what holds of a world with a mark more holds of the world
of_marked : (config : Config) (world : World) (n : ℕ) (result : StepResult) → SaysItsChange config (with_mark world n) result
    → SaysItsChange config world result
of_marked config world n result says = record { only = says.only; said = says.said }

-- whatever happens
dispatch_says : (config : Config) (world : World) (event : Event) (fault : Fault)
    → SaysItsChange config world (dispatch config world event fault)
dispatch_says config world (Ask who request) fault = input_says config world who (Asked request) fault
dispatch_says config world (Deliver n) fault = found_says config world (datagram_at world.net n)
    (λ d. at_node config (with_mark world n) d.receiver (Received d.message) fault)
    (λ d is. of_marked config world n (at_node config (with_mark world n) d.receiver (Received d.message) fault)
    (input_says config (with_mark world n) d.receiver (Received d.message) fault))
dispatch_says config world (Lose n) fault = found_says config world (datagram_at world.net n)
    (λ d. answer_result (with_mark world n) Done) (λ d is. of_marked config world n (answer_result (with_mark world n) Done)
    (unchanged config (with_mark world n) Done))
dispatch_says config world (Cut n k) fault = cut_says config world n k fault
dispatch_says config world (Noise who bytes) fault = noise_says config world who bytes fault
dispatch_says config world (Tear who n) fault = tear_says config world who n fault
dispatch_says config world (Restart who) fault = restart_says config world who fault
dispatch_says config world (Compact who) fault = compact_says config world who fault
dispatch_says config world event fault = unchanged config world (Refused NoSuch)

pub says_its_change : (config : Config) (world : World) (event : Event) (fault : Fault)
    → SaysItsChange config world (world_step config world event fault)
says_its_change config world event NoMemoryBefore = unchanged config world (Refused NoMemory)
says_its_change config world event fault = dispatch_says config world event fault
