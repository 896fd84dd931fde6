-- A node with a floor that restarts, or whose record is made shorter.
-- Needed by `Floored::compact` and `Floored::restart`; Asked and Seen.
use Rattle.std.proofs.Common.{◌≡◌, ◌∙◌, ◌⊎◌, inl, inr, ℕ, true, false, List, Option, None, is_some, refl, sym, ap, subst}
use Rattle.std.specs.Prelude.{Result, Err}
use Rattle.xid.specs.Places.{Place}
use Rattle.xid.specs.declared.refusals.Refusal.{Refusal}
use Rattle.stable_record.specs.declared.record.RecordError.{RecordError}
use Rattle.stable_record.specs.declared.record.RecordError.TheVariants as errors
use Rattle.stable_record.specs.Behind.{IsFronting}
use Rattle.stable_record.specs.Held.{HasRead, Held, refusal_of}
use Rattle.protocol.specs.declared.answers.Answer.TheVariants.{Refused}
use Rattle.protocol.specs.declared.nodes.NodeId.{NodeId}
use Rattle.protocol.specs.declared.rows.Row.{Row}
use Rattle.protocol.specs.Effects.{Config}
use Rattle.protocol.specs.Nodes.{Fault, NodeState, NoMemoryAt, RecordFails, compact_outcome, down_node, restart_outcome}
use Rattle.node_core.specs.declared.role.Role.{Role}
use Rattle.node_core.specs.Compacting.{Compacts, CompactsAs}
use Rattle.node_core.specs.Nodes.{Holds, IsSameNode, Keeps, NodeParts, NodeStands, Stands}
use Rattle.node_core.specs.Opening.{BefallsRestart, IsWritten, RestartsAs}
use Rattle.forgetting.proofs.Coming.{came, compacted, restarted}
use Rattle.floored.specs.Nodes.{FlooredCompacts, FlooredCompactsDown, FlooredCompactsUp, FlooredRestarts, FlooredStands, IsFlooredSound}
use Rattle.floored.specs.Nodes.{floor_before, with_floor}
use Rattle.floored.proofs.Handling.{up_alike}
use Rattle.floored.proofs.Standing.{floor_found, floor_same, fronting_same, sound_on, stands_on, stands_up}

-- ---- made shorter

module _ (config : Config) (m : NodeState) (old new : NodeParts) (s : FlooredStands config (with_floor old) m) (same : IsSameNode old new)
    (result : Result (Unit {0}) Refusal) where
  abbrev floor : Option Place
  floor = floor_before old.held

  compacts_by : Compacts s.from old.who old.rows s.few old.held new.held new.role result
      → FlooredCompactsUp config m (with_floor old) (with_floor new) result
      ⊎ FlooredCompactsDown config m (with_floor old) (with_floor new) result
  compacts_by (inl up) =
      let alike = came s.from config old.who floor s.few m s.above (compact_outcome s.few up.fault) (compact_outcome m up.fault)
      (compacted s.from config old.who floor s.few m s.above up.fault) up.stands.played in
      inl (record {
        up = sym (up_alike s.from config old.who floor s.few m s.above) ∙ up.up;
        fault = up.fault;
        befalls = up.befalls;
        answer_is = up.answer_is ∙ alike.answer_is;
        stands = stands_on config old new m s same (compact_outcome s.few up.fault).node (compact_outcome m up.fault).node up.stands
            alike.stands;
      })
  compacts_by (inr down) =
      inr (record {
        down = sym (up_alike s.from config old.who floor s.few m s.above) ∙ down.down;
        result_is = down.result_is;
        held_is = down.same;
        stands = stands_on config old new m s same s.few m down.stands s.above;
      })

  -- it is up where it was
  compacts_up : Compacts s.from old.who old.rows s.few old.held new.held new.role result → is_some new.role ≡ true
      → is_some old.role ≡ true
  compacts_up (inl is) up = stands_up s.from old.who old.rows old.held old.role s.few s.is.stands ∙ is.up
  compacts_up (inr is) up =
      stands_up s.from old.who old.rows old.held old.role s.few s.is.stands
      ∙ sym (stands_up s.from old.who old.rows new.held new.role s.few is.stands) ∙ up

pub compacts_from : (old new : NodeParts) (result : Result (Unit {0}) Refusal)
    → ((config : Config) (m : NodeState) → NodeStands config old m → CompactsAs config m old new result)
    → (config : Config) (m : NodeState) → FlooredStands config (with_floor old) m
    → FlooredCompacts config m (with_floor old) (with_floor new) result
compacts_from old new result compacts config m s =
    let c = compacts s.from s.few s.is in
    record {
      floor_is = floor_same old.held new.held c.same.nature_is;
      same = c.same;
      comes = compacts_by config m old new s c.same result c.compacts;
    }

pub sound_compact : (known : Option Place) (old new : NodeParts) (result : Result (Unit {0}) Refusal) → IsFlooredSound known old
    → ((config : Config) (m : NodeState) → NodeStands config old m → CompactsAs config m old new result) → IsFlooredSound known new
sound_compact known old new result sound compacts =
    let s = sound.is in
    let c = compacts s.from s.few s.is in
    let stayed = compacts_up sound.config sound.state old new s c.same result c.compacts in
    by stayed c.same (compacts_from old new result compacts sound.config sound.state s).comes
  where
    by : (is_some new.role ≡ true → is_some old.role ≡ true) → IsSameNode old new
        → FlooredCompactsUp sound.config sound.state (with_floor old) (with_floor new) result
        ⊎ FlooredCompactsDown sound.config sound.state (with_floor old) (with_floor new) result → IsFlooredSound known new
    by stayed same (inl up) = sound_on known old new sound same stayed sound.config _ up.stands
    by stayed same (inr down) = sound_on known old new sound same stayed sound.config sound.state down.stands

-- ---- restarted

pub restarts_from : (old new : NodeParts) (result : Result (Unit {0}) Refusal)
    → ((config : Config) (m : NodeState) → NodeStands config old m → RestartsAs config m old new result)
    → (config : Config) (m : NodeState) → FlooredStands config (with_floor old) m
    → FlooredRestarts config m (with_floor old) (with_floor new) result
restarts_from old new result restarts config m s =
    let r = restarts s.from s.few s.is in
    let fault = r.restarts.fault in
    let floor = floor_before old.held in
    let little = restart_outcome s.from old.who s.few fault in
    let whole = restart_outcome config old.who m fault in
    let alike = came s.from config old.who floor s.few m s.above little whole
    (restarted s.from config old.who floor s.few m s.above fault) r.restarts.stands.played in
    record {
      floor_is = floor_same old.held new.held r.same.nature_is;
      same = r.same;
      fault = fault;
      befalls = r.restarts.befalls;
      answer_is = r.restarts.answer_is ∙ alike.answer_is;
      stands = stands_on config old new m s r.same little.node whole.node r.restarts.stands alike.stands;
    }

-- it knows the floor that it learned
pub sound_restart : (known learned : Option Place) (old new : NodeParts) (result : Result (Unit {0}) Refusal) → IsFlooredSound known old
    → IsFronting learned old.held
    → ((config : Config) (m : NodeState) → NodeStands config old m → RestartsAs config m old new result) → IsFlooredSound learned new
sound_restart known learned old new result sound fronting restarts =
    let r = restarts_from old new result restarts sound.config sound.state sound.is in
    record {
      front = fronting_same old.held new.held r.same.nature_is sound.front;
      known_is = λ up. sym (floor_found learned old.held fronting) ∙ sym (floor_same old.held new.held r.same.nature_is);
      config = sound.config;
      state = (restart_outcome sound.config old.who sound.state r.fault).node;
      is = r.stands;
    }

-- ---- where its floor couldn't be learned

-- a node whose record was read, and is down
abbrev pub stopped_node : NodeParts → Held → NodeParts
stopped_node old held = record old { held = held; role = None }

pub read_nature : (old new : Held) (error : RecordError) → HasRead {T = Unit {0}} old new (Err error) → new.nature ≡ old.nature
read_nature old new errors.Fault h = h.nature
read_nature old new errors.Memory h = ap (λ (r : Held). r.nature) h

pub read_bytes : (old new : Held) (error : RecordError) → HasRead {T = Unit {0}} old new (Err error) → new.bytes ≡ old.bytes
read_bytes old new errors.Fault h = by h.bytes
  where
    by : (new.bytes ≡ old.bytes) ⊎ (new.bytes ≡ old.bytes) → new.bytes ≡ old.bytes
    by (inl same) = same
    by (inr same) = same
read_bytes old new errors.Memory h = ap (λ (r : Held). r.bytes) h

pub read_armed : (old new : Held) (error : RecordError) → HasRead {T = Unit {0}} old new (Err error) → new.armed ≡ old.armed
read_armed old new errors.Fault h = h.armed
read_armed old new errors.Memory h = ap (λ (r : Held). r.armed) h

abbrev fault_of : RecordError → Fault
fault_of errors.Fault = RecordFails false
fault_of errors.Memory = NoMemoryAt

read_befalls : (old new : Held) (error : RecordError) → HasRead {T = Unit {0}} old new (Err error)
    → BefallsRestart old new (fault_of error)
read_befalls old new errors.Fault h = record {
  may = h.may;
  counted = h.counted;
  armed = h.armed;
  nature = h.nature;
  holds = λ config who kept tail holds.
      (tail, subst (λ (bytes : List ℕ). Holds config who bytes kept tail) (sym (read_bytes old new errors.Fault h)) holds);
}
read_befalls old new errors.Memory h = record {
  armed = ap (λ (r : Held). r.armed) h;
  faults = ap (λ (r : Held). r.faults) h;
  nature = ap (λ (r : Held). r.nature) h;
  holds = λ config who kept tail holds.
      (tail, subst (λ (bytes : List ℕ). Holds config who bytes kept tail) (sym (read_bytes old new errors.Memory h)) holds);
}

module _ (config : Config) (who : NodeId) (m : NodeState) where
  down_after : (error : RecordError) → (restart_outcome config who m (fault_of error)).node ≡ down_node m
  down_after errors.Fault = refl
  down_after errors.Memory = refl

  answer_after : (error : RecordError) → Refused (refusal_of error) ≡ (restart_outcome config who m (fault_of error)).answer
  answer_after errors.Fault = refl
  answer_after errors.Memory = refl

read_stands : (config : Config) (who : NodeId) (own : List Row) (old new : Held) (role : Option Role) (m : NodeState) (error : RecordError)
    → HasRead {T = Unit {0}} old new (Err error) → Stands config who own old role m → Stands config who own new None (down_node m)
read_stands config who own old new role m error h s = record {
  tail = s.tail;
  keeps = subst (λ (bytes : List ℕ). Keeps config who own bytes m.facts s.tail) (sym (read_bytes old new error h)) s.keeps;
  played = s.played;
  role_is = refl;
  tear_is = s.tear_is ∙ sym (read_armed old new error h);
}

pub unread_from : (old : NodeParts) (held : Held) (error : RecordError) (refusal : Refusal) → refusal ≡ refusal_of error
    → HasRead {T = Unit {0}} old.held held (Err error) → (config : Config) (m : NodeState) → FlooredStands config (with_floor old) m
    → FlooredRestarts config m (with_floor old) (with_floor (stopped_node old held)) (Err refusal)
unread_from old held error refusal is h config m s =
    let same : IsSameNode old (stopped_node old held) =
    record { who_is = refl; sizes_are = refl; rows_are = refl; nature_is = read_nature old.held held error h } in
    let fault = fault_of error in
    let floor = floor_before old.held in
    let little = restart_outcome s.from old.who s.few fault in
    let whole = restart_outcome config old.who m fault in
    let stands : Stands s.from old.who old.rows held None little.node =
    subst (λ (n : NodeState). Stands s.from old.who old.rows held None n) (sym (down_after s.from old.who s.few error))
    (read_stands s.from old.who old.rows old.held held old.role s.few error h s.is.stands) in
    let alike = came s.from config old.who floor s.few m s.above little whole
    (restarted s.from config old.who floor s.few m s.above fault) stands.played in
    record {
      floor_is = floor_same old.held held same.nature_is;
      same = same;
      fault = fault;
      befalls = read_befalls old.held held error h;
      answer_is = ap Refused is ∙ answer_after config old.who m error;
      stands = stands_on config old (stopped_node old held) m s same little.node whole.node stands alike.stands;
    }

pub unread_sound : (known : Option Place) (old : NodeParts) (held : Held) (error : RecordError) (refusal : Refusal)
    → refusal ≡ refusal_of error → HasRead {T = Unit {0}} old.held held (Err error) → IsFlooredSound known old
    → IsFlooredSound known (stopped_node old held)
unread_sound known old held error refusal is h sound =
    let r = unread_from old held error refusal is h sound.config sound.state sound.is in
    sound_on known old (stopped_node old held) sound r.same (λ up. absurd (cc (up))) sound.config
    (restart_outcome sound.config old.who sound.state r.fault).node r.stands

-- what comes of the node beneath then is what comes of a restart whose read fails
pub unread_node : (old : NodeParts) (held : Held) (error : RecordError) (refusal : Refusal) → refusal ≡ refusal_of error
    → HasRead {T = Unit {0}} old.held held (Err error) → (config : Config) (m : NodeState) → NodeStands config old m
    → RestartsAs config m old (stopped_node old held) (Err refusal)
unread_node old held error refusal is h config m s =
    let bytes = read_bytes old.held held error h in
    record {
      same = record { who_is = refl; sizes_are = refl; rows_are = refl; nature_is = read_nature old.held held error h };
      restarts = record {
        fault = fault_of error;
        befalls = read_befalls old.held held error h;
        answer_is = ap Refused is ∙ answer_after config old.who m error;
        holds = λ kept tail holds. (tail, subst (λ (bs : List ℕ). Holds config old.who bs kept tail) (sym bytes) holds);
        written = subst (λ (r : Refusal). IsWritten config old.who old.held held (Err r)) (sym is) (by error bytes);
        stands = subst (λ (n : NodeState). Stands config old.who old.rows held None n) (sym (down_after config old.who m error))
            (read_stands config old.who old.rows old.held held old.role m error h s.stands);
      };
    }
  where
    by : (e : RecordError) → held.bytes ≡ old.held.bytes → IsWritten config old.who old.held held (Err (refusal_of e))
    by errors.Fault same = inl (inl same)
    by errors.Memory same = inl same
