-- What an input makes of a node with a floor.
-- Needed by `Floored::step_into`; Grouping, Replacing, Restarting, Rising and Seen.
use Rattle.std.proofs.Common.{◌≡◌, ◌∙◌, Bool, true, false, ◌&&◌, not, if◌then◌else◌, List, [], Option, None, refl, sym, ap, subst}
use Rattle.xid.specs.Places.{Place}
use Rattle.stable_record.specs.declared.fact.FactKind.{FactKind as Fact}
use Rattle.protocol.specs.declared.nodes.NodeId.{NodeId}
use Rattle.protocol.specs.declared.rows.Row.{Row}
use Rattle.protocol.specs.Effects.{Config, Effect}
use Rattle.protocol.specs.Nodes.{Fault, Input, Memory, NoFault, NodeState, Outcome, accepts_input, all_play, answer_outcome, effect_of}
use Rattle.protocol.specs.Nodes.{down_answer, effect_outcome, node_step}
use Rattle.protocol.specs.declared.answers.Answer.TheVariants.{Refused}
use Rattle.xid.specs.declared.refusals.Refusal.TheVariants.{NoSuch}
use Rattle.protocol.specs.Worlds.{change_of}
use Rattle.node_core.specs.declared.output.Output.{Output}
use Rattle.node_core.specs.Groups.{Place as At}
use Rattle.node_core.specs.Nodes.{Befalls, NodeParts, NodeStands, Steps, StepsAs, fact_to_store}
use Rattle.node_core.specs.Storing.{output_of}
use Rattle.node_core.proofs.Changes.{unchanged}
use Rattle.floors.specs.Nodes.{floored_node_step, forgotten_answer, is_input_below, is_passed_over}
use Rattle.floors.proofs.Nodes.{floored_is}
use Rattle.forgetting.specs.Above.{CameAlike, StandsAbove}
use Rattle.forgetting.proofs.Coming.{came, handled}
use Rattle.forgetting.proofs.Effects.{effect_above}
use Rattle.floored.specs.Nodes.{FlooredDoes, FlooredStands, FlooredStepsAs, IsFlooredSound, IsOutput}
use Rattle.floored.specs.Nodes.{floor_before, floored_fact, is_over, with_floor}
use Rattle.floored.proofs.Standing.{floor_same, sound_on, stands_on, stands_up}

-- ---- whether it is passed over

turned : (below up takes : Bool) → (below && (up && takes)) ≡ (takes && up && below)
turned false false false = refl
turned false false true = refl
turned false true false = refl
turned false true true = refl
turned true false false = refl
turned true false true = refl
turned true true false = refl
turned true true true = refl

-- a node that stands above a floor is up where the machine's is
pub up_alike : (from config : Config) (who : NodeId) (floor : Option Place) (few m : NodeState) → StandsAbove from config who floor few m
    → few.up ≡ m.up
up_alike from config who floor few m above = ap (λ (n : NodeState). n.up) above.node_is

-- a node's role says whether the machine's node passes an input over
over_is : (config : Config) (node : NodeParts) (m : NodeState) (input : Input) → FlooredStands config (with_floor node) m
    → is_over node.who (floor_before node.held) node.role input ≡ is_passed_over node.who (floor_before node.held) m input
over_is config node m input s =
    let floor = floor_before node.held in
    ap (λ (up : Bool). is_input_below floor input && (up && accepts_input node.who input))
    (stands_up s.from node.who node.rows node.held node.role s.few s.is.stands
    ∙ up_alike s.from config node.who floor s.few m s.above)
    ∙ turned (is_input_below floor input) m.up (accepts_input node.who input)

-- ---- one that isn't

module _ (from config : Config) (who : NodeId) (floor : Option Place) (few m : NodeState) (above : StandsAbove from config who floor few m)
    (input : Input) (over : is_passed_over who floor m input ≡ false) where
  few_over : is_passed_over who floor few input ≡ false
  few_over =
      ap (λ (up : Bool). accepts_input who input && up && is_input_below floor input) (up_alike from config who floor few m above) ∙ over

  fact_by : (takes up below : Bool) (a b : Option Fact) → (takes && up && below) ≡ false → (below ≡ false → a ≡ b)
      → (if takes && up then a else None) ≡ (if takes && up && below then None else if takes && up then b else None)
  fact_by false up below a b o h = refl
  fact_by true false below a b o h = refl
  fact_by true true false a b o h = h refl
  fact_by true true true a b o h = absurd (cc (o))

  -- the same fact is to be stored
  fact_same : fact_to_store from who few input ≡ floored_fact config who floor m input
  fact_same =
      ap (λ (up : Bool). if accepts_input who input && up then (effect_of from who few.facts few.memory input).fact else None)
      (up_alike from config who floor few m above)
      ∙ fact_by (accepts_input who input) m.up (is_input_below floor input) (effect_of from who few.facts few.memory input).fact
      (effect_of config who m.facts m.memory input).fact over
      (λ high.
      ap (λ (n : NodeState). (effect_of from who few.facts n.memory input).fact) above.node_is
      ∙ ap (λ (e : Effect Memory). e.fact)
      (effect_above from config who floor few.facts m.facts m.memory input above.alike above.says above.rows_are high))

  module _ (fault : Fault) where
    abbrev little : Outcome
    little = floored_node_step from who floor few input fault

    abbrev whole : Outcome
    whole = floored_node_step config who floor m input fault

    -- the node beneath does what one with a floor does
    little_is : little ≡ node_step from who few input fault
    little_is =
        floored_is from who floor few input fault
        ∙ λ i. if few_over i then answer_outcome few (forgotten_answer input) else node_step from who few input fault

    pub comes_alike : all_play from who [] (node_step from who few input fault).node.facts ≡ true
        → CameAlike from config who floor few m little whole
    comes_alike play =
        came from config who floor few m above little whole (handled from config who floor few m above input fault)
        (ap (λ (o : Outcome). all_play from who [] o.node.facts) little_is ∙ play)

    output_alike : (out : Output) → CameAlike from config who floor few m little whole
        → out.reply ≡ (node_step from who few input fault).answer
        → out.now ≡ change_of who few.facts (node_step from who few input fault).node.facts
        → out.sends ≡ (node_step from who few input fault).sends → IsOutput who m.facts out whole
    output_alike out alike reply now sends = record {
      reply_is = reply ∙ ap (λ (o : Outcome). o.answer) (sym little_is) ∙ alike.answer_is;
      now_is = now ∙ ap (λ (o : Outcome). change_of who few.facts o.node.facts) (sym little_is) ∙ alike.change_is;
      sends_are = sends ∙ ap (λ (o : Outcome). o.sends) (sym little_is) ∙ alike.sends_are;
    }

    above_alike : CameAlike from config who floor few m little whole
        → StandsAbove from config who floor (node_step from who few input fault).node whole.node
    above_alike alike = subst (λ (o : Outcome). StandsAbove from config who floor o.node whole.node) little_is alike.stands

-- ---- the whole node

-- a step of the node beneath, between two places
module _ (from config : Config) (who : NodeId) (own : List Row) (floor : Option Place) (at to : At) (m : NodeState)
    (above : StandsAbove from config who floor at.state m) (input : Input) (out : Output)
    (over : is_passed_over who floor m input ≡ false) (steps : Steps from who own at.state input at.held to.held to.role out)
    (state_is : to.state ≡ (node_step from who at.state input steps.fault).node) where
  -- what the machine's node has become
  abbrev pub later : NodeState
  later = (floored_node_step config who floor m input steps.fault).node

  alike : CameAlike from config who floor at.state m (floored_node_step from who floor at.state input steps.fault)
      (floored_node_step config who floor m input steps.fault)
  alike = comes_alike from config who floor at.state m above input over steps.fault steps.shows.stands.played

  pub does_alike : FlooredDoes config who floor (record { state = m; held = at.held; role = at.role }) input out
      (record { state = later; held = to.held; role = to.role })
  does_alike = record {
    fault = steps.fault;
    befalls = subst (λ (fact : Option Fact). Befalls fact at.held to.held steps.fault)
        (fact_same from config who floor at.state m above input over) steps.befalls;
    output_is = output_alike from config who floor at.state m above input over steps.fault out alike steps.shows.reply_is
        steps.shows.now_is steps.shows.sends_are;
    state_is = refl;
  }

  pub later_above : StandsAbove from config who floor to.state later
  later_above =
      subst (λ (n : NodeState). StandsAbove from config who floor n later) (sym state_is)
      (above_alike from config who floor at.state m above input over steps.fault alike)

module _ (config : Config) (m : NodeState) (input : Input) (old : NodeParts) (s : FlooredStands config (with_floor old) m) where
  abbrev floor : Option Place
  floor = floor_before old.held

  passed : is_passed_over old.who floor m input ≡ true → (out : Output) → out ≡ output_of (forgotten_answer input) None
      → FlooredStepsAs config m input (with_floor old) (with_floor old) out
  passed over out is =
      let none : floored_fact config old.who floor m input ≡ None = λ i. if over i then None else fact_to_store config old.who m input in
      let same : answer_outcome m (forgotten_answer input) ≡ floored_node_step config old.who floor m input NoFault =
      sym (floored_is config old.who floor m input NoFault
      ∙ λ i. if over i then answer_outcome m (forgotten_answer input) else node_step config old.who m input NoFault) in
      let output : IsOutput old.who m.facts out (floored_node_step config old.who floor m input NoFault) =
      subst (IsOutput old.who m.facts out) same (record {
        reply_is = ap (λ (o : Output). o.reply) is;
        now_is = ap (λ (o : Output). o.now) is ∙ sym (unchanged old.who m.facts);
        sends_are = ap (λ (o : Output). o.sends) is;
      }) in
      let stays : FlooredStands config (with_floor old) (floored_node_step config old.who floor m input NoFault).node =
      subst (λ (o : Outcome). FlooredStands config (with_floor old) o.node) same s in
      record {
        floor_is = refl;
        same = record { who_is = refl; sizes_are = refl; rows_are = refl; nature_is = refl };
        to = record { state = (floored_node_step config old.who floor m input NoFault).node; held = old.held; role = old.role };
        held_is = refl;
        does = record {
          fault = NoFault;
          befalls = subst (λ (fact : Option Fact). Befalls fact old.held old.held NoFault) (sym none) refl;
          output_is = output;
          state_is = refl;
        };
        stands = stays;
        below = λ e. (refl, is);
        free = λ e f. record { same = refl; output_is = output; stands = stays };
      }

  stepped : is_passed_over old.who floor m input ≡ false → (new : NodeParts) (out : Output) → StepsAs s.from s.few input old new out
      → FlooredStepsAs config m input (with_floor old) (with_floor new) out
  stepped over new out t =
      let at : At = record { state = s.few; held = old.held; role = old.role } in
      let to : At = record {
        state = (node_step s.from old.who s.few input t.steps.fault).node;
        held = new.held;
        role = new.role;
      } in
      record {
        floor_is = floor_same old.held new.held t.same.nature_is;
        same = t.same;
        to = record {
          state = later s.from config old.who old.rows floor at to m s.above input out over t.steps refl;
          held = new.held;
          role = new.role;
        };
        held_is = refl;
        does = does_alike s.from config old.who old.rows floor at to m s.above input out over t.steps refl;
        stands = stands_on config old new m s t.same to.state
            (later s.from config old.who old.rows floor at to m s.above input out over t.steps refl) t.steps.shows.stands
            (later_above s.from config old.who old.rows floor at to m s.above input out over t.steps refl);
        below = λ e. absurd (cc (over, e));
        free = λ free none.
            let f = t.free free (fact_same s.from config old.who floor s.few m s.above input over ∙ none) in
            let alike = comes_alike s.from config old.who floor s.few m s.above input over NoFault f.shows.stands.played in
            record {
              same = f.same;
              output_is = output_alike s.from config old.who floor s.few m s.above input over NoFault out alike f.shows.reply_is
                  f.shows.now_is f.shows.sends_are;
              stands = stands_on config old new m s t.same (node_step s.from old.who s.few input NoFault).node
                  (floored_node_step config old.who floor m input NoFault).node f.shows.stands
                  (above_alike s.from config old.who floor s.few m s.above input over NoFault alike);
            };
      }

-- the same of the node as it is seen
pub passed_from : (node : NodeParts) (input : Input) (out : Output) → is_over node.who (floor_before node.held) node.role input ≡ true
    → out ≡ output_of (forgotten_answer input) None → (config : Config) (m : NodeState) → FlooredStands config (with_floor node) m
    → FlooredStepsAs config m input (with_floor node) (with_floor node) out
passed_from node input out over is config m s = passed config m input node s (sym (over_is config node m input s) ∙ over) out is

pub stepped_from : (old new : NodeParts) (input : Input) (out : Output) → is_over old.who (floor_before old.held) old.role input ≡ false
    → ((config : Config) (m : NodeState) → NodeStands config old m → StepsAs config m input old new out)
    → (config : Config) (m : NodeState) → FlooredStands config (with_floor old) m
    → FlooredStepsAs config m input (with_floor old) (with_floor new) out
stepped_from old new input out over steps config m s =
    stepped config m input old s (sym (over_is config old m input s) ∙ over) new out (steps s.from s.few s.is)

-- ---- it doesn't come up

module _ (config : Config) (who : NodeId) (m : NodeState) (input : Input) (fault : Fault) where
  abbrev e : Effect Memory
  e = effect_of config who m.facts m.memory input

  down_stays : (takes up : Bool) → up ≡ false
      → (if not takes then answer_outcome m (Refused NoSuch)
      else if not up then answer_outcome m (down_answer input)
      else effect_outcome m e e.fact m.tear fault).node.up ≡ m.up
  down_stays false up down = refl
  down_stays true false down = refl
  down_stays true true down = absurd (cc (down))

  up_by : (up : Bool) → m.up ≡ up → (node_step config who m input fault).node.up ≡ true → m.up ≡ true
  up_by true same h = same
  up_by false same h = sym (down_stays (accepts_input who input) m.up same) ∙ h

  pub up_before : (node_step config who m input fault).node.up ≡ true → m.up ≡ true
  up_before = up_by m.up refl

pub sound_step : (known : Option Place) (old new : NodeParts) (input : Input) (out : Output) → IsFlooredSound known old
    → is_over old.who (floor_before old.held) old.role input ≡ false
    → ((config : Config) (m : NodeState) → NodeStands config old m → StepsAs config m input old new out) → IsFlooredSound known new
sound_step known old new input out sound over steps =
    let s = sound.is in
    let came = stepped_from old new input out over steps sound.config sound.state s in
    let beneath = steps s.from s.few s.is in
    let shows = beneath.steps.shows in
    sound_on known old new sound came.same
    (λ up.
    stands_up s.from old.who old.rows old.held old.role s.few s.is.stands
    ∙ up_before s.from old.who s.few input beneath.steps.fault
    (sym (stands_up s.from old.who old.rows new.held new.role _ shows.stands) ∙ up))
    sound.config came.to.state came.stands
