-- Inputs that are handled one after another, each with its own append, to the one at which a tear stops it.
-- Needed by `store_one_by_one`.
use Rattle.std.proofs.Common.{◌≡◌, ◌∙◌, ℕ, ◌<◌, Bool, true, false, List, [], ◌∷◌, ◌++◌, length, Option, Some, None, inl, inr, refl, sym, ap}
use Rattle.std.proofs.Common.{subst, arith}
use Rattle.std.specs.Prelude.{is_some, Err}
use Rattle.wire.specs.Versions.{version_2}
use Rattle.stable_record.proofs.Lengths.{fact_frame_has}
use Rattle.stable_record.specs.declared.record.RecordError.TheVariants.{Fault}
use Rattle.xid.specs.declared.refusals.Refusal.TheVariants.{RecordFault}
use Rattle.stable_record.specs.declared.fact.FactKind.{FactKind as Fact}
use Rattle.stable_record.specs.Held.{Held, IsStopped}
use Rattle.protocol.specs.declared.answers.Answer.TheVariants.{Refused}
use Rattle.protocol.specs.declared.nodes.NodeId.{NodeId}
use Rattle.protocol.specs.declared.rows.Row.{Row}
use Rattle.protocol.specs.Effects.{Config, Effect}
use Rattle.protocol.specs.Nodes.{NodeState, Memory, Input, effect_of, node_step}
use Rattle.node_core.specs.declared.config.Sizes.{Sizes}
use Rattle.node_core.specs.declared.output.Output.{Output}
use Rattle.node_core.specs.declared.role.Role.{Role}
use Rattle.node_core.specs.Storing.{fact_frame, IsKept, Carries, carried}
use Rattle.node_core.specs.Nodes.{AreSizes, Stands, Steps, StepsFreely, fact_to_store, role_settled}
use Rattle.node_core.specs.Sparing.{is_free}
use Rattle.node_core.specs.Handling.{Handles}
use Rattle.node_core.specs.Groups.{Place, Does, Runs, StopsIn, IsStoredGroup, AppendsOnce}
use Rattle.node_core.proofs.Handled.{freely_of, steps_of}
use Rattle.node_core.proofs.Grouped.{runs_stand}

-- inputs were handled, and have led to a record, which is as it was, and a role
pub record Reaches (config : Config) (who : NodeId) (own : List Row) (from : Place) (inputs : List Input) (outs : List Output)
    (role : Option Role) (held : Held) : Type 0 where
  pub to : Place
  pub runs : Runs config who own from inputs outs to
  pub role_is : to.role ≡ role
  pub held_is : to.held ≡ held
  pub same : held ≡ from.held

still_armed : (old new : Held) → is_some old.armed ≡ true → is_some new.armed ≡ false → new ≡ old → ⊥
still_armed old new armed untorn same =
    let wrong : false ≡ true = sym untorn ∙ ap (λ (h : Held). is_some h.armed) same ∙ armed in absurd (cc wrong)

not_armed : (held : Held) → is_some held.armed ≡ true → held.armed ≡ None → ⊥
not_armed held armed none = let wrong : false ≡ true = sym (ap (λ a. is_some a) none) ∙ armed in absurd (cc wrong)

-- a frame has bytes
some_frame : (fact : Fact) → 0 < length (fact_frame fact)
some_frame fact = let has = fact_frame_has version_2 fact in omega (arith, has)

module _ (config : Config) (who : NodeId) (facts : List Fact) (memory : Memory) (e : Effect Memory) (old new : Held) (after : Role)
    (out : Output) (armed : is_some old.armed ≡ true) (untorn : is_some new.armed ≡ false) where
  not_kept : (f : Option Fact) → IsKept config who facts e old new after out.now f → ⊥
  not_kept None k = still_armed old new armed untorn k.same
  not_kept (Some fact) k = not_armed old armed k.added.unarmed

  -- an append after which no tear is armed any more was stopped
  torn : (up : Bool) → Carries config who facts memory e old new after (carried up out)
      → (role_settled (Some after) up ≡ None) × (out.reply ≡ Refused RecordFault)
  torn true done = absurd (not_kept e.fact done.kept)
  torn false (inl ran_out) = absurd (still_armed old new armed untorn ran_out.same)
  torn false (inr was) = (refl, ap (λ (o : Output). o.reply) was.out_is)

  -- it was the one of a fact's frame
  torn_once : (up : Bool) → Carries config who facts memory e old new after (carried up out)
      → (text : List ℕ) × (0 < length text) × IsStopped text old new
  torn_once true done = absurd (not_kept e.fact done.kept)
  torn_once false (inl ran_out) = absurd (still_armed old new armed untorn ran_out.same)
  torn_once false (inr was) = (fact_frame was.fact, some_frame was.fact, was.torn.stopped)

module _ (config : Config) (who : NodeId) (facts : List Fact) (memory : Memory) (e : Effect Memory) (old new : Held) (after : Role)
    (out : Output) (armed : is_some old.armed ≡ true) (still : is_some new.armed ≡ true) where
  kept_same : (f : Option Fact) → IsKept config who facts e old new after out.now f → new ≡ old
  kept_same None k = k.same
  kept_same (Some fact) k = absurd (not_armed old armed k.added.unarmed)

  -- where a tear is armed still, nothing was appended
  unstored : (up : Bool) → Carries config who facts memory e old new after (carried up out) → new ≡ old
  unstored true done = kept_same e.fact done.kept
  unstored false (inl ran_out) = ran_out.same
  unstored false (inr was) = absurd (not_armed new still was.torn.stopped.armed)

module _ (config : Config) (who : NodeId) (sizes : Sizes) (own : List Row) (are : AreSizes config sizes) where
  stops_role : (m : NodeState) (input : Input) (old new : Held) (was role : Option Role) (out : Output)
      → is_some old.armed ≡ true → is_some new.armed ≡ false → Handles who sizes input old new was role out
      → Stands config who own old was m → (role ≡ None) × (out.reply ≡ Refused RecordFault)
  stops_role m input old new was role out armed untorn (inl h) s = absurd (still_armed old new armed untorn h.held_is)
  stops_role m input old new was role out armed untorn (inr (inl h)) s = absurd (still_armed old new armed untorn h.held_is)
  stops_role m input old new was role out armed untorn (inr (inr h)) s =
      let stands : Stands config who own old (Some h.before) m = subst (λ r. Stands config who own old r m) h.was_is s in
      let t = torn config who m.facts m.memory (effect_of config who m.facts m.memory input) old new h.after out armed untorn h.up
      (h.carries config m.facts m.memory are stands.role_is.2) in
      (h.role_is ∙ t.0, t.1)

  stops_once : (m : NodeState) (input : Input) (old new : Held) (was role : Option Role) (out : Output)
      → is_some old.armed ≡ true → is_some new.armed ≡ false → Handles who sizes input old new was role out
      → Stands config who own old was m → (text : List ℕ) × (0 < length text) × IsStopped text old new
  stops_once m input old new was role out armed untorn (inl h) s = absurd (still_armed old new armed untorn h.held_is)
  stops_once m input old new was role out armed untorn (inr (inl h)) s = absurd (still_armed old new armed untorn h.held_is)
  stops_once m input old new was role out armed untorn (inr (inr h)) s =
      let stands : Stands config who own old (Some h.before) m = subst (λ r. Stands config who own old r m) h.was_is s in
      torn_once config who m.facts m.memory (effect_of config who m.facts m.memory input) old new h.after out armed untorn h.up
      (h.carries config m.facts m.memory are stands.role_is.2)

  stores_nothing : (m : NodeState) (input : Input) (old new : Held) (was role : Option Role) (out : Output)
      → is_some old.armed ≡ true → is_some new.armed ≡ true → Handles who sizes input old new was role out
      → Stands config who own old was m → new ≡ old
  stores_nothing m input old new was role out armed still (inl h) s = h.held_is
  stores_nothing m input old new was role out armed still (inr (inl h)) s = h.held_is
  stores_nothing m input old new was role out armed still (inr (inr h)) s =
      let stands : Stands config who own old (Some h.before) m = subst (λ r. Stands config who own old r m) h.was_is s in
      unstored config who m.facts m.memory (effect_of config who m.facts m.memory input) old new h.after out armed still h.up
      (h.carries config m.facts m.memory are stands.role_is.2)

  runs_then : (from to next : Place) (inputs : List Input) (outs : List Output) (input : Input) (out : Output)
      → Runs config who own from inputs outs to → Does config who own to input out next
      → Runs config who own from (inputs ++ input ∷ []) (outs ++ out ∷ []) next
  runs_then from to next [] [] input out r does = (next, subst (λ (p : Place). Does config who own p input out next) r does, refl)
  runs_then from to next (i ∷ inputs) (o ∷ outs) input out r does =
      (r.0, r.1, runs_then r.0 to next inputs outs input out r.2 does)
  runs_then from to next [] (o ∷ outs) input out r does = absurd r
  runs_then from to next (i ∷ inputs) [] input out r does = absurd r

  module _ (from : Place) (inputs : List Input) (outs : List Output) (role : Option Role) (held : Held)
      (stands : Stands config who own from.held from.role from.state) (reaches : Reaches config who own from inputs outs role held) where
    -- at the place that they have led to
    stands_there : Stands config who own held role reaches.to.state
    stands_there =
        let there = runs_stand config who own from reaches.to inputs outs stands reaches.runs in
        subst (λ h. Stands config who own h role reaches.to.state) reaches.held_is
        (subst (λ r. Stands config who own reaches.to.held r reaches.to.state) reaches.role_is there)

    handled_there : (input : Input) (new : Held) (after : Option Role) (out : Output)
        → Handles who sizes input held new role after out → Steps config who own reaches.to.state input reaches.to.held new after out
    handled_there input new after out h =
        subst (λ old. Steps config who own reaches.to.state input old new after out) (sym reaches.held_is)
        (steps_of config who sizes own reaches.to.state input held new role after out are h stands_there)

    freely_there : (input : Input) (new : Held) (after : Option Role) (out : Output)
        → Handles who sizes input held new role after out → is_free who input ≡ true
        → fact_to_store config who reaches.to.state input ≡ None
        → StepsFreely config who own reaches.to.state input reaches.to.held new after out
    freely_there input new after out h is none =
        subst (λ old. StepsFreely config who own reaches.to.state input old new after out) (sym reaches.held_is)
        (freely_of config who sizes own reaches.to.state input held new role after out are h stands_there is none)

    -- one input more, while the tear is still to come
    pub reaches_more : (input : Input) (new : Held) (after : Option Role) (out : Output) → is_some held.armed ≡ true
        → is_some new.armed ≡ true → Handles who sizes input held new role after out
        → Reaches config who own from (inputs ++ input ∷ []) (outs ++ out ∷ []) after new
    reaches_more input new after out armed still h =
        let steps = handled_there input new after out h in
        let next : Place = record {
          state = (node_step config who reaches.to.state input steps.fault).node;
          held = new;
          role = after;
        } in
        record {
          to = next;
          runs = runs_then from reaches.to next inputs outs input out reaches.runs
              (record { steps = steps; state_is = refl; free = freely_there input new after out h });
          role_is = refl;
          held_is = refl;
          same = stores_nothing reaches.to.state input held new role after out armed still h stands_there ∙ reaches.same;
        }

    -- where the tear comes, one append failed
    pub stopped_once : (input : Input) (new : Held) (after : Option Role) (out : Output) → is_some held.armed ≡ true
        → is_some new.armed ≡ false → Handles who sizes input held new role after out → AppendsOnce from.held new (Err Fault)
    stopped_once input new after out armed untorn h =
        subst (λ old. (text : List ℕ) × (0 < length text) × IsStopped text old new) reaches.same
        (stops_once reaches.to.state input held new role after out armed untorn h stands_there)

    -- and the inputs behind it are not handled
    pub stops_there : (input : Input) (behind : List Input) (new : Held) (after : Option Role) (out : Output)
        → is_some held.armed ≡ true → is_some new.armed ≡ false → Handles who sizes input held new role after out
        → StopsIn config who own from (inputs ++ input ∷ behind) new RecordFault
    stops_there input behind new after out armed untorn h =
        let stops = stops_role reaches.to.state input held new role after out armed untorn h stands_there in
        record {
          before = inputs;
          at = input;
          behind = behind;
          inputs_are = refl;
          outs = outs;
          place = reaches.to;
          runs = reaches.runs;
          left = new;
          left_is = record { bytes = refl; faults = refl; armed = refl; nature = refl };
          out = out;
          stopped = subst (λ r. Steps config who own reaches.to.state input reaches.to.held new r out) stops.0
              (handled_there input new after out h);
          reply_is = stops.1;
        }

-- all were handled
pub stored_each : (config : Config) (who : NodeId) (own : List Row) (from : Place) (inputs : List Input) (outs : List Output)
    (role : Option Role) (held : Held) → Reaches config who own from inputs outs role held
    → IsStoredGroup config who own from inputs outs role held
stored_each config who own from inputs outs role held r = record {
  to = r.to;
  runs = r.runs;
  role_is = sym r.role_is;
  held_is = record {
    bytes = ap (λ (h : Held). h.bytes) (sym r.held_is);
    faults = ap (λ (h : Held). h.faults) (sym r.held_is);
    armed = ap (λ (h : Held). h.armed) (sym r.held_is);
    nature = ap (λ (h : Held). h.nature) (sym r.held_is);
  };
}
