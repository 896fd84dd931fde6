-- What comes of a node by few facts and by all.
use Rattle.std.proofs.Common.{◌≡◌, ◌∙◌, ℕ, Bool, true, false, not, ◌==◌, if◌then◌else◌, nat_le, List, [], ◌∷◌, ◌++◌, Option, Some, None}
use Rattle.std.proofs.Common.{refl, sym, ap, subst, arith, append-nil, append_assoc}
use Rattle.std.specs.Prelude.{IfSome, length}
use Rattle.std.specs.Option.{option_and_then}
use Rattle.std.proofs.lemmas.Bool.{and_parts, cond-true}
use Rattle.std.proofs.lemmas.Option.{slice_get_past}
use Rattle.xid.specs.declared.refusals.Refusal.TheVariants.{NoSuch, Damaged}
use Rattle.stable_record.specs.Facts.{fact_tx}
use Rattle.stable_record.specs.Frames.{frame_length}
use Rattle.protocol.specs.Basics.{Fact}
use Rattle.safety.specs.Vocabulary.{NodeId, A, L, R, Done, Refused}
use Rattle.protocol.specs.Effects.{Config, Effect}
use Rattle.protocol.specs.Facts.{with_fact}
use Rattle.protocol.specs.Nodes.{NodeState, Memory, empty_memory, Input, Fault, NoFault, NoMemoryBefore, NoMemoryAt, RecordFails}
use Rattle.protocol.specs.Nodes.{Outcome, accepts_input, answer_outcome, down_node, down_answer, stopped_append, finished_append}
use Rattle.protocol.specs.Nodes.{effect_outcome, effect_of, in_memory, node_step, plays, all_play, restart_outcome, compact_outcome}
use Rattle.protocol.specs.Worlds.{change_of, view_number}
use Rattle.protocol.proofs.Manager.Played.{all_play_then}
use Rattle.xid.specs.Places.{Place, is_below}
use Rattle.safety.proofs.World.Changes.{change_by}
use Rattle.floors.specs.Nodes.{is_input_below, floored_node_step, forgotten_answer}
use Rattle.protocol.specs.Kept.{kept_memory}
use Rattle.floors.proofs.About.{IsOn, effect_about, on_above}
use Rattle.floors.proofs.Nodes.{above_is}
use Rattle.resource_manager.specs.Left.{rows_of}
use Rattle.forgetting.specs.Above.{CameAlike, Says, StandsAbove}
use Rattle.forgetting.proofs.Effects.{effect_above}
use Rattle.forgetting.proofs.Growing.{plays_alike, rows_more, says_more}
use Rattle.forgetting.proofs.Lists.{last_is}
use Rattle.forgetting.proofs.Saying.{view_same}

-- ---- the last fact that played

play_last : (config : Config) (who : NodeId) (before facts : List Fact) (fact : Fact)
    → all_play config who before (facts ++ fact ∷ []) ≡ true → plays config who (before ++ facts) fact ≡ true
play_last config who before [] fact h =
    subst (λ (fs : List Fact). plays config who fs fact ≡ true) (sym (append-nil before))
    (and_parts (plays config who before fact) true h).0
play_last config who before (first ∷ facts) fact h =
    let parts = and_parts (plays config who before first) (all_play config who (before ++ first ∷ []) (facts ++ fact ∷ [])) h in
    subst (λ (fs : List Fact). plays config who fs fact ≡ true) (append_assoc before (first ∷ []) facts)
    (play_last config who (before ++ first ∷ []) facts fact parts.1)

-- ---- how a view changes

no_change : (rm : ℕ) (facts : List Fact) → change_of (R rm) facts facts ≡ None
no_change rm facts = ap (option_and_then (change_by rm facts facts)) (slice_get_past facts (length facts) (omega arith))

own_change : (rm : ℕ) (facts : List Fact) (fact : Fact) → change_of (R rm) facts (facts ++ fact ∷ [])
    ≡ change_by rm facts (facts ++ fact ∷ []) fact
own_change rm facts fact = ap (option_and_then (change_by rm facts (facts ++ fact ∷ []))) (last_is facts fact)

same_change : (who : NodeId) (floor : Option Place) (few all : List Fact) → Says who floor few all → (more : Option Fact)
    → IfSome more (λ f. is_below floor (fact_tx f) ≡ false)
    → change_of who few (with_fact few more) ≡ change_of who all (with_fact all more)
same_change (A a) floor few all says more above = refl
same_change (L l) floor few all says more above = refl
same_change (R rm) floor few all says None above = no_change rm few ∙ sym (no_change rm all)
same_change (R rm) floor few all says (Some fact) above =
    let before = view_same rm floor few all says (fact_tx fact) above in
    let after = view_same rm floor (few ++ fact ∷ []) (all ++ fact ∷ []) (says_more (R rm) floor few all says fact above) (fact_tx fact)
    above in
    own_change rm few fact
    ∙ (λ k. if view_number (before k) == view_number (after k) then None
    else Some (record { rm = rm; tx = fact_tx fact; view = after k }))
    ∙ sym (own_change rm all fact)

-- ---- what is stored by both

module _ (from config : Config) (who : NodeId) (floor : Option Place) (few all : NodeState)
    (stands : StandsAbove from config who floor few all) where
  -- both have stored one fact, or none, and but for their facts, and what is below of the memory, are the same
  pub record BothStored (little whole : Outcome) : Type 0 where
    pub more : Option Fact
    pub above : IfSome more (λ f. is_below floor (fact_tx f) ≡ false)
    pub few_are : little.node.facts ≡ with_fact few.facts more
    pub all_are : whole.node.facts ≡ with_fact all.facts more
    pub node_is : little.node ≡ record whole.node { facts = little.node.facts; memory = kept_memory floor whole.node.memory }
    pub answer_is : little.answer ≡ whole.answer
    pub sends_are : little.sends ≡ whole.sends

  says_with : (more : Option Fact) → IfSome more (λ f. is_below floor (fact_tx f) ≡ false)
      → Says who floor (with_fact few.facts more) (with_fact all.facts more)
  says_with None above = stands.says
  says_with (Some fact) above = says_more who floor few.facts all.facts stands.says fact above

  -- what plays of the few facts plays of all
  played_with : (more : Option Fact) → IfSome more (λ f. is_below floor (fact_tx f) ≡ false)
      → all_play from who [] (with_fact few.facts more) ≡ true
      → (all_play config who [] (with_fact all.facts more) ≡ true)
      × (rows_of from who (with_fact few.facts more) ≡ rows_of config who (with_fact all.facts more))
  played_with None above play = (stands.all_play_too, stands.rows_are)
  played_with (Some fact) above play =
      let p = play_last from who [] few.facts fact play in
      let too = sym (plays_alike from config who floor few.facts all.facts stands.alike stands.says fact above) ∙ p in (
        all_play_then config who [] all.facts fact stands.all_play_too too,
        rows_more from config who floor few.facts all.facts stands.says stands.rows_are stands.few_play stands.all_play_too fact above p,
      )

  pub came : (little whole : Outcome) → BothStored little whole → all_play from who [] little.node.facts ≡ true
      → CameAlike from config who floor few all little whole
  came little whole both play =
      let played = played_with both.more both.above (subst (λ (fs : List Fact). all_play from who [] fs ≡ true) both.few_are play) in
      record {
        answer_is = both.answer_is;
        sends_are = both.sends_are;
        change_is =
            ap (change_of who few.facts) both.few_are
            ∙ same_change who floor few.facts all.facts stands.says both.more both.above
            ∙ sym (ap (change_of who all.facts) both.all_are);
        stands = record {
          alike = stands.alike;
          says = subst (λ (fs : List Fact). Says who floor fs whole.node.facts) (sym both.few_are)
              (subst (Says who floor (with_fact few.facts both.more)) (sym both.all_are) (says_with both.more both.above));
          rows_are = ap (rows_of from who) both.few_are ∙ played.1 ∙ sym (ap (rows_of config who) both.all_are);
          few_play = play;
          all_play_too = subst (λ (fs : List Fact). all_play config who [] fs ≡ true) (sym both.all_are) played.0;
          node_is = both.node_is;
        };
      }

  -- ---- one input

  abbrev K : Memory → Memory
  K = kept_memory floor

  -- the one with few facts, by its parts
  abbrev little_node : NodeState
  little_node = record all { facts = few.facts; memory = K all.memory }

  keeps : (little whole : Outcome) → little.node.facts ≡ few.facts → whole.node.facts ≡ all.facts
      → little.node ≡ record whole.node { facts = little.node.facts; memory = K whole.node.memory } → little.answer ≡ whole.answer
      → little.sends ≡ whole.sends → BothStored little whole
  keeps little whole few_are all_are node answer sends = record {
    more = None;
    above = tt;
    few_are = few_are;
    all_are = all_are;
    node_is = node;
    answer_is = answer;
    sends_are = sends;
  }

  module _ (e : Effect Memory) where
    stopped : (fact : Fact) → is_below floor (fact_tx fact) ≡ false → (whole : Bool)
        → BothStored (stopped_append little_node fact whole) (stopped_append all fact whole)
    stopped fact above true = record {
      more = Some fact;
      above = above;
      few_are = refl;
      all_are = refl;
      node_is = refl;
      answer_is = refl;
      sends_are = refl;
    }
    stopped fact above false = keeps (stopped_append little_node fact false) (stopped_append all fact false) refl refl refl refl refl

    finished : (fact : Fact) → is_below floor (fact_tx fact) ≡ false
        → BothStored (finished_append little_node (in_memory K e) (few.facts ++ fact ∷ [])) (finished_append all e (all.facts ++ fact ∷ []))
    finished fact above = record {
      more = Some fact;
      above = above;
      few_are = refl;
      all_are = refl;
      node_is = refl;
      answer_is = refl;
      sends_are = refl;
    }

    both_by : (fact : Option Fact) → IfSome fact (λ f. is_below floor (fact_tx f) ≡ false) → (tear : Option ℕ) (fault : Fault)
        → BothStored (effect_outcome little_node (in_memory K e) fact tear fault) (effect_outcome all e fact tear fault)
    both_by fact above tear NoMemoryAt = keeps _ _ refl refl refl refl refl
    both_by None above tear NoFault = keeps _ _ refl refl refl refl refl
    both_by None above tear NoMemoryBefore = keeps _ _ refl refl refl refl refl
    both_by None above tear (RecordFails whole) = keeps _ _ refl refl refl refl refl
    both_by (Some fact) above (Some n) NoFault = stopped fact above (nat_le (frame_length fact) n)
    both_by (Some fact) above (Some n) NoMemoryBefore = stopped fact above (nat_le (frame_length fact) n)
    both_by (Some fact) above (Some n) (RecordFails whole) = stopped fact above (nat_le (frame_length fact) n)
    both_by (Some fact) above None (RecordFails whole) = stopped fact above whole
    both_by (Some fact) above None NoFault = finished fact above
    both_by (Some fact) above None NoMemoryBefore = finished fact above

  module _ (input : Input) (fault : Fault) (above : is_input_below floor input ≡ false) where
    abbrev e : Effect Memory
    e = effect_of config who all.facts all.memory input

    fact_above : (fact : Option Fact) → IfSome fact (λ f. IsOn input (fact_tx f)) → IfSome fact (λ f. is_below floor (fact_tx f) ≡ false)
    fact_above None on = tt
    fact_above (Some fact) on = on_above floor input (fact_tx fact) on above

    -- by whether such an input is taken, whether the node is up, and what is done then
    abbrev step_by : NodeState → Effect Memory → (takes up : Bool) → Outcome
    step_by node does takes up =
        if not takes then answer_outcome node (Refused NoSuch)
        else if not up then answer_outcome node (down_answer input)
        else effect_outcome node does does.fact all.tear fault

    both_step : (takes up : Bool) → BothStored (step_by little_node (in_memory K e) takes up) (step_by all e takes up)
    both_step false up = keeps _ _ refl refl refl refl refl
    both_step true false = keeps _ _ refl refl refl refl refl
    both_step true true =
        both_by e e.fact (fact_above e.fact (effect_about config who all.facts all.memory input).stored) all.tear fault

    few_step : node_step from who few input fault ≡ step_by little_node (in_memory K e) (accepts_input who input) all.up
    few_step =
        ap (λ (node : NodeState). node_step from who node input fault) stands.node_is
        ∙ ap (λ (does : Effect Memory). step_by little_node does (accepts_input who input) all.up)
        (effect_above from config who floor few.facts all.facts all.memory input stands.alike stands.says stands.rows_are above)

    stepped : BothStored (node_step from who few input fault) (floored_node_step config who floor all input fault)
    stepped =
        subst (BothStored (node_step from who few input fault)) (sym (above_is config who floor all input fault above))
        (subst (λ (little : Outcome). BothStored little (node_step config who all input fault)) (sym few_step)
        (both_step (accepts_input who input) all.up))

  -- whatever the input is, both with the floor
  module _ (input : Input) (fault : Fault) where
    -- by whether such an input is taken, whether the node is up, whether the input is below the floor, and what is done then
    abbrev floored_by : NodeState → (takes up below : Bool) → Outcome → Outcome
    floored_by node takes up below rest =
        if not takes then answer_outcome node (Refused NoSuch)
        else if not up then answer_outcome node (down_answer input)
        else if below then answer_outcome node (forgotten_answer input)
        else rest

    both_below : (takes up : Bool) (little whole : Outcome)
        → BothStored (floored_by little_node takes up true little) (floored_by all takes up true whole)
    both_below false up little whole = keeps _ _ refl refl refl refl refl
    both_below true false little whole = keeps _ _ refl refl refl refl refl
    both_below true true little whole = keeps _ _ refl refl refl refl refl

    -- what a node does that isn't told by these tests
    abbrev ended : Config → NodeState → Outcome
    ended cluster node =
        effect_outcome node (effect_of cluster who node.facts node.memory input) (effect_of cluster who node.facts node.memory input).fact
        node.tear fault

    below_is : (cluster : Config) (node : NodeState) → is_input_below floor input ≡ true
        → floored_node_step cluster who floor node input fault
        ≡ floored_by node (accepts_input who input) node.up true (ended cluster node)
    below_is cluster node below =
        ap (λ (b : Bool). floored_by node (accepts_input who input) node.up b (ended cluster node)) below

    handled_by : (below : Bool) → is_input_below floor input ≡ below
        → BothStored (floored_node_step from who floor few input fault) (floored_node_step config who floor all input fault)
    handled_by true below =
        subst (λ (node : NodeState). BothStored (floored_node_step from who floor node input fault)
        (floored_node_step config who floor all input fault)) (sym stands.node_is)
        (subst (λ (little : Outcome). BothStored little (floored_node_step config who floor all input fault))
        (sym (below_is from little_node below))
        (subst (BothStored (floored_by little_node (accepts_input who input) all.up true (ended from little_node)))
        (sym (below_is config all below))
        (both_below (accepts_input who input) all.up (ended from little_node) (ended config all))))
    handled_by false above =
        subst (λ (little : Outcome). BothStored little (floored_node_step config who floor all input fault))
        (sym (above_is from who floor few input fault above)) (stepped input fault above)

    pub handled : BothStored (floored_node_step from who floor few input fault) (floored_node_step config who floor all input fault)
    handled = handled_by (is_input_below floor input) refl

  -- ---- other events

  abbrev restarted_node : NodeState → Outcome
  restarted_node node = answer_outcome (record { facts = node.facts; up = true; tear = node.tear; memory = empty_memory }) Done

  plays_again : BothStored
      (if all_play from who [] few.facts then restarted_node little_node else answer_outcome (down_node little_node) (Refused Damaged))
      (if all_play config who [] all.facts then restarted_node all else answer_outcome (down_node all) (Refused Damaged))
  plays_again =
      subst (λ (little : Outcome). BothStored little
      (if all_play config who [] all.facts then restarted_node all else answer_outcome (down_node all) (Refused Damaged)))
      (sym (cond-true (all_play from who [] few.facts) (restarted_node little_node)
      (answer_outcome (down_node little_node) (Refused Damaged)) stands.few_play))
      (subst (BothStored (restarted_node little_node))
      (sym (cond-true (all_play config who [] all.facts) (restarted_node all) (answer_outcome (down_node all) (Refused Damaged))
      stands.all_play_too))
      (keeps (restarted_node little_node) (restarted_node all) refl refl refl refl refl))

  restart_by : (fault : Fault) → BothStored (restart_outcome from who little_node fault) (restart_outcome config who all fault)
  restart_by NoMemoryAt = keeps _ _ refl refl refl refl refl
  restart_by (RecordFails whole) = keeps _ _ refl refl refl refl refl
  restart_by NoFault = plays_again
  restart_by NoMemoryBefore = plays_again

  pub restarted : (fault : Fault) → BothStored (restart_outcome from who few fault) (restart_outcome config who all fault)
  restarted fault =
      subst (λ (node : NodeState). BothStored (restart_outcome from who node fault) (restart_outcome config who all fault))
      (sym stands.node_is) (restart_by fault)

  compact_by : (fault : Fault) → BothStored (compact_outcome little_node fault) (compact_outcome all fault)
  compact_by NoMemoryAt = keeps _ _ refl refl refl refl refl
  compact_by (RecordFails whole) = keeps _ _ refl refl refl refl refl
  compact_by NoFault = keeps _ _ refl refl refl refl refl
  compact_by NoMemoryBefore = keeps _ _ refl refl refl refl refl

  pub compacted : (fault : Fault) → BothStored (compact_outcome few fault) (compact_outcome all fault)
  compacted fault =
      subst (λ (node : NodeState). BothStored (compact_outcome node fault) (compact_outcome all fault)) (sym stands.node_is)
      (compact_by fault)

  pub torn : (n : Option ℕ) → StandsAbove from config who floor (record few { tear = n }) (record all { tear = n })
  torn n = record {
    alike = stands.alike;
    says = stands.says;
    rows_are = stands.rows_are;
    few_play = stands.few_play;
    all_play_too = stands.all_play_too;
    node_is = ap (λ (node : NodeState). record node { tear = n }) stands.node_is;
  }
