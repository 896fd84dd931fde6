-- What a group of inputs makes of a node with a floor.
-- Needed by `Floored::step_all`; Seen.
use Rattle.std.proofs.Common.{◌≡◌, ◌∙◌, ℕ, Bool, true, false, ◌&&◌, not, List, [], ◌∷◌, ◌++◌, Option, None, is_some, refl, sym, ap, subst}
use Rattle.std.specs.Prelude.{Result, Ok, Err}
use Rattle.std.proofs.lemmas.Bool.{and_parts, not-true}
use Rattle.xid.specs.Places.{Place}
use Rattle.stable_record.specs.declared.record.RecordError.{RecordError}
use Rattle.xid.specs.declared.refusals.Refusal.{Refusal}
use Rattle.stable_record.specs.Held.{Held, refusal_of}
use Rattle.protocol.specs.declared.nodes.NodeId.{NodeId}
use Rattle.protocol.specs.declared.rows.Row.{Row}
use Rattle.protocol.specs.Effects.{Config}
use Rattle.protocol.specs.Nodes.{Input, NodeState, accepts_input, node_step}
use Rattle.node_core.specs.declared.output.Output.{Output}
use Rattle.node_core.specs.declared.role.Role.{Role}
use Rattle.node_core.specs.Groups.{Groups, GroupsAs, IsSameButKept, IsStoppedGroup, IsStoredGroup, Place as At, Runs}
use Rattle.node_core.specs.Nodes.{IsSameNode, Keeps, NodeParts, NodeStands, Stands}
use Rattle.node_core.proofs.Grouped.{runs_stand}
use Rattle.floors.specs.Nodes.{is_input_below, is_passed_over}
use Rattle.forgetting.specs.Above.{StandsAbove}
use Rattle.floored.specs.Nodes.{FlooredGroups, FlooredGroupsAs, FlooredRuns, FlooredStands, IsFlooredSound, are_above, floor_before}
use Rattle.floored.specs.Nodes.{with_floor}
use Rattle.floored.proofs.Handling.{does_alike, later, later_above, up_before}
use Rattle.floored.proofs.Standing.{floor_same, sound_on, stands_on, stands_up}

-- ---- inputs that aren't below

-- those before one of them, and this one
above_parts : (floor : Option Place) (before : List Input) (at : Input) (after : List Input) → are_above floor (before ++ at ∷ after) ≡ true
    → (are_above floor before ≡ true) × (is_input_below floor at ≡ false)
above_parts floor [] at after high =
    (refl, not-true (is_input_below floor at) (and_parts (not (is_input_below floor at)) (are_above floor after) high).0)
above_parts floor (input ∷ before) at after high =
    let parts = and_parts (not (is_input_below floor input)) (are_above floor (before ++ at ∷ after)) high in
    let rest = above_parts floor before at after parts.1 in
    ((λ k. parts.0 k && rest.0 k), rest.1)

not_over : (who : NodeId) (floor : Option Place) (m : NodeState) (input : Input) → is_input_below floor input ≡ false
    → is_passed_over who floor m input ≡ false
not_over who floor m input high =
    ap (λ (below : Bool). accepts_input who input && m.up && below) high ∙ none (accepts_input who input) m.up
  where
    none : (takes up : Bool) → (takes && up && false) ≡ false
    none false up = refl
    none true false = refl
    none true true = refl

-- ---- one after another

module _ (from config : Config) (who : NodeId) (own : List Row) (floor : Option Place) where
  -- the machine's node came to this one, above which the node stands
  record Walked (at : At) (inputs : List Input) (outs : List Output) (to : At) (m : NodeState) : Type 0 where
    pub now : NodeState
    pub runs : FlooredRuns config who floor (record { state = m; held = at.held; role = at.role }) inputs outs
        (record { state = now; held = to.held; role = to.role })
    pub above : StandsAbove from config who floor to.state now

  walked : (at : At) (inputs : List Input) (outs : List Output) (to : At) (m : NodeState) → StandsAbove from config who floor at.state m
      → are_above floor inputs ≡ true → Runs from who own at inputs outs to → Walked at inputs outs to m
  walked at [] [] to m above high r = record {
    now = m;
    runs = λ k. record { state = m; held = (r k).held; role = (r k).role };
    above = subst (λ (p : At). StandsAbove from config who floor p.state m) (sym r) above;
  }
  walked at (input ∷ inputs) (out ∷ outs) to m above high r =
      let next = r.0 in
      let d = r.1 in
      let parts = and_parts (not (is_input_below floor input)) (are_above floor inputs) high in
      let over = not_over who floor m input (not-true (is_input_below floor input) parts.0) in
      let now = later from config who own floor at next m above input out over d.steps d.state_is in
      let rest = walked next inputs outs to now (later_above from config who own floor at next m above input out over d.steps d.state_is)
      parts.1 r.2 in
      record {
        now = rest.now;
        runs = (
          record { state = now; held = next.held; role = next.role },
          does_alike from config who own floor at next m above input out over d.steps d.state_is,
          rest.runs,
        );
        above = rest.above;
      }
  walked at [] (out ∷ outs) to m above high r = absurd r
  walked at (input ∷ inputs) [] to m above high r = absurd r

  -- a node that is up then was up before
  walked_up : (at : At) (inputs : List Input) (outs : List Output) (to : At) → Runs from who own at inputs outs to → to.state.up ≡ true
      → at.state.up ≡ true
  walked_up at [] [] to r up = ap (λ (p : At). p.state.up) (sym r) ∙ up
  walked_up at (input ∷ inputs) (out ∷ outs) to r up =
      up_before from who at.state input r.1.steps.fault
      (ap (λ (n : NodeState). n.up) (sym r.1.state_is) ∙ walked_up r.0 inputs outs to r.2 up)
  walked_up at [] (out ∷ outs) to r up = absurd r
  walked_up at (input ∷ inputs) [] to r up = absurd r

-- a record that is the same but for what its last append added
same_stands : (config : Config) (who : NodeId) (own : List Row) (old new : Held) (role : Option Role) (m : NodeState)
    → IsSameButKept old new → Stands config who own old role m → Stands config who own new role m
same_stands config who own old new role m same s = record {
  tail = s.tail;
  keeps = subst (λ (bytes : List ℕ). Keeps config who own bytes m.facts s.tail) (sym same.bytes) s.keeps;
  played = s.played;
  role_is = s.role_is;
  tear_is = s.tear_is ∙ sym same.armed;
}

-- what the node stands for then
module _ (config : Config) (who : NodeId) (own : List Row) (at : At) (inputs : List Input) (outs : List Output) (role : Option Role)
    (new : Held) (s : Stands config who own at.held at.role at.state) where
  stored_stands : (g : IsStoredGroup config who own at inputs outs role new) → Stands config who own new role g.to.state
  stored_stands g =
      same_stands config who own g.to.held new role g.to.state g.held_is
      (subst (λ (r : Option Role). Stands config who own g.to.held r g.to.state) (sym g.role_is)
      (runs_stand config who own at g.to inputs outs s g.runs))

  stopped_stands : (why : Refusal) (g : IsStoppedGroup config who own at inputs outs role new why)
      → Stands config who own new role (node_step config who g.stops.place.state g.stops.at g.stops.stopped.fault).node
  stopped_stands why g =
      let p = g.stops in
      let m = (node_step config who p.place.state p.at p.stopped.fault).node in
      same_stands config who own p.left new role m p.left_is
      (subst (λ (r : Option Role). Stands config who own p.left r m) (sym g.down) p.stopped.shows.stands)

-- ---- the whole node

module _ (config : Config) (m : NodeState) (inputs : List Input) (old new : NodeParts) (s : FlooredStands config (with_floor old) m)
    (same : IsSameNode old new) (outs : List Output) (high : are_above (floor_before old.held) inputs ≡ true) where
  abbrev floor : Option Place
  floor = floor_before old.held

  abbrev at : At
  at = record { state = s.few; held = old.held; role = old.role }

  comes_by : (result : Result (Unit {0}) RecordError) → Groups s.from old.who old.rows at inputs outs new.role new.held result
      → FlooredGroups config old.who floor (record { state = m; held = old.held; role = old.role }) inputs (with_floor new) outs result
  comes_by (Ok done) g =
      let w = walked s.from config old.who old.rows floor at inputs outs g.to m s.above high g.runs in
      let stands = stored_stands s.from old.who old.rows at inputs outs new.role new.held s.is.stands g in (
        record { state = w.now; held = g.to.held; role = g.to.role },
        w.runs,
        g.held_is,
        stands_on config old new m s same g.to.state w.now stands w.above,
      )
  comes_by (Err error) g =
      let p = g.stops in
      let parts = above_parts floor p.before p.at p.behind (ap (are_above floor) (sym p.inputs_are) ∙ high) in
      let w = walked s.from config old.who old.rows floor at p.before p.outs p.place m s.above parts.0 p.runs in
      let over = not_over old.who floor w.now p.at parts.1 in
      let little = (node_step s.from old.who p.place.state p.at p.stopped.fault).node in
      let stands = stopped_stands s.from old.who old.rows at inputs outs new.role new.held s.is.stands (refusal_of error) g in
      let to : At = record { state = little; held = p.left; role = None } in
      let now = later s.from config old.who old.rows floor p.place to w.now w.above p.at p.out over p.stopped refl in (
        record {
          before = p.before;
          at = p.at;
          after = p.behind;
          inputs_are = p.inputs_are;
          outs = p.outs;
          place = record { state = w.now; held = p.place.held; role = p.place.role };
          runs = w.runs;
          out = p.out;
          to = record { state = now; held = p.left; role = None };
          stopped = does_alike s.from config old.who old.rows floor p.place to w.now w.above p.at p.out over p.stopped refl;
          reply_is = p.reply_is;
          held_is = p.left_is;
          stands = stands_on config old new m s same little now stands
              (later_above s.from config old.who old.rows floor p.place to w.now w.above p.at p.out over p.stopped refl);
        },
        g.down,
        g.outs_are,
      )

pub groups_from : (old new : NodeParts) (inputs : List Input) (outs : List Output) (result : Result (Unit {0}) RecordError)
    → are_above (floor_before old.held) inputs ≡ true
    → ((config : Config) (m : NodeState) → NodeStands config old m → GroupsAs config m inputs old new outs result)
    → (config : Config) (m : NodeState) → FlooredStands config (with_floor old) m
    → FlooredGroupsAs config m inputs (with_floor old) (with_floor new) outs result
groups_from old new inputs outs result high groups config m s =
    let g = groups s.from s.few s.is in
    record {
      floor_is = floor_same old.held new.held g.same.nature_is;
      same = g.same;
      once = g.once;
      comes = comes_by config m inputs old new s g.same outs high result g.comes;
    }

-- ---- it knows its floor

module _ (known : Option Place) (old new : NodeParts) (inputs : List Input) (outs : List Output) (sound : IsFlooredSound known old)
    (high : are_above (floor_before old.held) inputs ≡ true) where
  abbrev start : At
  start = record { state = sound.is.few; held = old.held; role = old.role }

  abbrev machine : At
  machine = record { state = sound.state; held = old.held; role = old.role }

  stayed : (result : Result (Unit {0}) RecordError) → Groups sound.is.from old.who old.rows start inputs outs new.role new.held result
      → is_some new.role ≡ true → is_some old.role ≡ true
  stayed (Ok done) g up =
      let s = sound.is in
      let stands = stored_stands s.from old.who old.rows start inputs outs new.role new.held s.is.stands g in
      stands_up s.from old.who old.rows old.held old.role s.few s.is.stands
      ∙ walked_up s.from sound.config old.who old.rows (floor_before old.held) start inputs outs g.to g.runs
      (sym (stands_up s.from old.who old.rows new.held new.role g.to.state stands) ∙ up)
  stayed (Err error) g up = let none : is_some new.role ≡ false = ap is_some g.down in absurd (cc (none, up))

  later_of : (result : Result (Unit {0}) RecordError)
      → FlooredGroups sound.config old.who (floor_before old.held) machine inputs (with_floor new) outs result
      → (now : NodeState) × FlooredStands sound.config (with_floor new) now
  later_of (Ok done) (to, runs, held, stands) = (to.state, stands)
  later_of (Err error) (stops, down, outs_are) = (stops.to.state, stops.stands)

  pub sound_group : (result : Result (Unit {0}) RecordError)
      → ((config : Config) (m : NodeState) → NodeStands config old m → GroupsAs config m inputs old new outs result)
      → IsFlooredSound known new
  sound_group result groups =
      let came = groups_from old new inputs outs result high groups sound.config sound.state sound.is in
      let now = later_of result came.comes in
      sound_on known old new sound came.same (stayed result (groups sound.is.from sound.is.few sound.is.is).comes) sound.config now.0 now.1
