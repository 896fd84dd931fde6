-- What a group leaves: the node still stands for a node of the machine.
-- Needed by `Node::step_all` and `handle_group`; Walked; crates floored and groups.
use Rattle.std.proofs.Common.{◌≡◌, ◌∙◌, List, [], ◌∷◌, length, Option, None, refl, sym, ap, subst, arith}
use Rattle.std.specs.Prelude.{map, Result, Ok, Err}
use Rattle.xid.specs.declared.refusals.Refusal.{Refusal}
use Rattle.stable_record.specs.Held.{Held, refusal_of}
use Rattle.stable_record.specs.declared.record.RecordError.{RecordError}
use Rattle.protocol.specs.declared.answers.Answer.TheVariants.{Refused}
use Rattle.protocol.specs.declared.nodes.NodeId.{NodeId}
use Rattle.protocol.specs.declared.rows.Row.{Row}
use Rattle.protocol.specs.Effects.{Config}
use Rattle.protocol.specs.Nodes.{NodeState, Input, node_step}
use Rattle.node_core.specs.declared.output.Output.{Output}
use Rattle.node_core.specs.declared.role.Role.{Role}
use Rattle.node_core.specs.Storing.{output_of}
use Rattle.node_core.specs.Nodes.{AreSizes, IsSound, Keeps, NodeParts, NodeStands, Stands, Steps, fact_to_store}
use Rattle.node_core.specs.Groups.{Place, Runs, IsSameButKept, Comes, Groups, GroupsAs, AppendsOnce}
use Rattle.node_core.proofs.Sound.{step_nature}

module _ (config : Config) (who : NodeId) (own : List Row) where
  map_same : (x : Output) (outs : List Output) (inputs : List Input) → length outs ≡ length inputs
      → map (λ (out : Output). x) outs ≡ map (λ (input : Input). x) inputs
  map_same x [] [] len = refl
  map_same x (o ∷ outs) (i ∷ inputs) len = ap (λ (rest : List Output). x ∷ rest) (map_same x outs inputs (omega (arith, len)))
  map_same x [] (i ∷ inputs) len = absurd (omega (arith, len))
  map_same x (o ∷ outs) [] len = absurd (omega (arith, len))

  -- what comes of a group whose append stopped is said of the node that is down
  pub group_stopped : (from : Place) (inputs : List Input) (outs last : List Output) (was role : Option Role) (new : Held)
      → (error : RecordError) (refusal : Refusal) → Comes config who own from inputs outs was new (Err error) → role ≡ None
      → refusal ≡ refusal_of error → length outs ≡ length inputs
      → last ≡ map (λ (out : Output). output_of (Refused refusal) None) outs
      → Groups config who own from inputs last role new (Err error)
  group_stopped from inputs outs last was role new error refusal stops down is len last_is = record {
    stops = stops;
    down = down;
    outs_are = last_is ∙ map_same (output_of (Refused refusal) None) outs inputs len
        ∙ ap (λ (r : Refusal). map (λ (input : Input). output_of (Refused r) None) inputs) is;
  }

  -- ---- a node still stands for a node of the machine, and its record may fail of itself as before

  -- a node stands for what it did where only the room that it keeps changed
  pub kept_stands : (old new : Held) (role : Option Role) (m : NodeState) → IsSameButKept old new → Stands config who own old role m
      → Stands config who own new role m
  kept_stands old new role m same s = record {
    tail = s.tail;
    keeps = subst (λ bytes. Keeps config who own bytes m.facts s.tail) (sym same.bytes) s.keeps;
    played = s.played;
    role_is = s.role_is;
    tear_is = s.tear_is ∙ sym same.armed;
  }

  -- after the inputs that ran, a node stands for the state that they lead to
  pub runs_stand : (from to : Place) (inputs : List Input) (outs : List Output) → Stands config who own from.held from.role from.state
      → Runs config who own from inputs outs to → Stands config who own to.held to.role to.state
  runs_stand from to [] [] s r = subst (λ (p : Place). Stands config who own p.held p.role p.state) (sym r) s
  runs_stand from to (i ∷ inputs) (o ∷ outs) s r =
      runs_stand r.0 to inputs outs
      (subst (λ m. Stands config who own r.0.held r.0.role m) (sym r.1.state_is) r.1.steps.shows.stands) r.2
  runs_stand from to [] (o ∷ outs) s r = absurd r
  runs_stand from to (i ∷ inputs) [] s r = absurd r

  steps_nature : (m : NodeState) (input : Input) (old new : Held) (role : Option Role) (out : Output)
      → Steps config who own m input old new role out → new.nature ≡ old.nature
  steps_nature m input old new role out s = step_nature (fact_to_store config who m input) old new s.fault s.befalls

  runs_nature : (from to : Place) (inputs : List Input) (outs : List Output) → Runs config who own from inputs outs to
      → to.held.nature ≡ from.held.nature
  runs_nature from to [] [] r = ap (λ (p : Place). p.held.nature) r
  runs_nature from to (i ∷ inputs) (o ∷ outs) r =
      runs_nature r.0 to inputs outs r.2 ∙ steps_nature from.state i from.held r.0.held r.0.role o r.1.steps
  runs_nature from to [] (o ∷ outs) r = absurd r
  runs_nature from to (i ∷ inputs) [] r = absurd r

  pub group_stands : (from : Place) (inputs : List Input) (outs : List Output) (role : Option Role) (new : Held)
      → (result : Result (Unit {0}) RecordError) → Stands config who own from.held from.role from.state
      → Groups config who own from inputs outs role new result → (m : NodeState) × Stands config who own new role m
  group_stands from inputs outs role new (Ok done) s g =
      let stands = runs_stand from g.to inputs outs s g.runs in (
        g.to.state,
        kept_stands g.to.held new role g.to.state g.held_is
            (subst (λ r. Stands config who own g.to.held r g.to.state) (sym g.role_is) stands),
      )
  group_stands from inputs outs role new (Err error) s g =
      let p = g.stops in
      let m : NodeState = (node_step config who p.place.state p.at p.stopped.fault).node in
      (m, kept_stands p.left new role m p.left_is (subst (λ r. Stands config who own p.left r m) (sym g.down) p.stopped.shows.stands))

  pub group_nature : (from : Place) (inputs : List Input) (outs : List Output) (role : Option Role) (new : Held)
      → (result : Result (Unit {0}) RecordError) → Groups config who own from inputs outs role new result
      → new.nature ≡ from.held.nature
  group_nature from inputs outs role new (Ok done) g = g.held_is.nature ∙ runs_nature from g.to inputs outs g.runs
  group_nature from inputs outs role new (Err error) g =
      let p = g.stops in
      p.left_is.nature ∙ steps_nature p.place.state p.at p.place.held p.left None p.out p.stopped
      ∙ runs_nature from p.place p.before p.outs p.runs

-- ---- the whole node

module _ (node : NodeParts) (held : Held) (role : Option Role) (inputs : List Input) (outs : List Output)
    (result : Result (Unit {0}) RecordError) where
  abbrev node_after : NodeParts
  node_after = record { who = node.who; sizes = node.sizes; rows = node.rows; held = held; role = role }

  -- a sound node is sound after a group
  pub sound_group : IsSound node
      → ((config : Config) (m : NodeState) → AreSizes config node.sizes → Stands config node.who node.rows node.held node.role m
      → Groups config node.who node.rows (record { state = m; held = node.held; role = node.role }) inputs outs role held result)
      → IsSound node_after
  sound_group sound groups =
      let g = groups sound.config sound.state sound.is.sizes_are sound.is.stands in
      let stands = group_stands sound.config node.who node.rows
      (record { state = sound.state; held = node.held; role = node.role }) inputs outs role held result sound.is.stands g in
      record {
        sized = sound.sized;
        among = sound.among;
        short = sound.short;
        config = sound.config;
        state = stands.0;
        is = record { sizes_are = sound.is.sizes_are; stands = stands.1 };
      }

  -- what a group of the parts comes to is what it comes to at the node
  pub groups_as : (config : Config) (m : NodeState)
      → Groups config node.who node.rows (record { state = m; held = node.held; role = node.role }) inputs outs role held result
      → AppendsOnce node.held held result → GroupsAs config m inputs node node_after outs result
  groups_as config m g once = record {
    same = record {
      who_is = refl;
      sizes_are = refl;
      rows_are = refl;
      nature_is = group_nature config node.who node.rows (record { state = m; held = node.held; role = node.role }) inputs outs role
          held result g;
    };
    once = once;
    comes = g;
  }

-- the same of the node as it is seen
pub groups_from : (inside old new : NodeParts) (inputs : List Input) (outs : List Output) (result : Result (Unit {0}) RecordError)
    → inside ≡ old
    → ((config : Config) (m : NodeState) → NodeStands config inside m → GroupsAs config m inputs inside new outs result)
    → (config : Config) (m : NodeState) → NodeStands config old m → GroupsAs config m inputs old new outs result
groups_from inside old new inputs outs result is h config m s =
    subst (λ o. GroupsAs config m inputs o new outs result) is (h config m (subst (λ o. NodeStands config o m) (sym is) s))
