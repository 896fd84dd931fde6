-- A notice that a process hears is the world's event that its node hears it. What a process takes one after another is proved by it.
-- Needed by Taken and Upkept.
use Rattle.std.proofs.Common.{◌≡◌, ◌≢◌, ◌∙◌, ℕ, zero, suc, ◌+◌, ◌<◌, ◌==◌, Bool, true, false, if◌then◌else◌, List, [], ◌∷◌, map}
use Rattle.std.proofs.Common.{Option, Some, None, inl, inr, refl, sym, ap, subst, append-nil, arith}
use Rattle.std.specs.Prelude.{is_some, slice_get, MatchBool, Result}
use Rattle.std.specs.List.{range_with_len}
use Rattle.std.proofs.lemmas.Bool.{cond-true, cond-false}
use Rattle.xid.specs.Places.{Place, is_lower}
use Rattle.xid.specs.declared.refusals.Refusal.{Refusal}
use Rattle.xid.specs.declared.refusals.Refusal.TheVariants as refusals
use Rattle.xid.proofs.Places.{not_lower_self}
use Rattle.ballot.specs.Greatest.{IsIn}
use Rattle.wire.specs.declared.notice.Notice.{Notice as Heard}
use Rattle.stable_record.specs.Held.{Held}
use Rattle.protocol.specs.declared.answers.Answer.TheVariants.{Done, Refused}
use Rattle.protocol.specs.declared.nodes.NodeId.{NodeId}
use Rattle.protocol.specs.declared.nodes.NodeId.TheVariants.{A, L, R}
use Rattle.protocol.specs.Effects.{Config}
use Rattle.protocol.specs.Nodes.{NodeState, Fault, NoFault, NoMemoryBefore, NoMemoryAt, RecordFails}
use Rattle.protocol.specs.Worlds.{node_at}
use Rattle.safety.proofs.World.NodePlaces.{node_there, node_elsewhere}
use Rattle.node_core.specs.declared.output.Output.{Output}
use Rattle.node_core.specs.Opening.{restart_answer}
use Rattle.node_core.specs.Storing.{output_of}
use Rattle.floors.specs.Nodes.{Rise, kept_rise, on_least}
use Rattle.floors.specs.Worlds.{FlooredWorld, FlooredResult, Hear, floored_answer, floored_dispatch, floored_if_found}
use Rattle.floors.specs.Worlds.{hear_at, hear_result, higher, is_manager, least_of, least_told, told_with, with_entry, with_rise}
use Rattle.floors.proofs.Rising.{entry_by, entry_own, least_rise, not_sunk}
use Rattle.floored.specs.Nodes.{BefallsRise, FlooredParts, FlooredRaises, FlooredStands, on_rise}
use Rattle.floored.specs.Told.{told_at}
use Rattle.floored.proofs.Replacing.{is_up_as}
use Rattle.port.specs.Members.{MemberParts, HearsAs, HearsUp, RisesToLeast}
use Rattle.floored_groups.specs.Runs.{IsFlooredReached, FlooredHappening, Underwent}
use Rattle.floored_groups.specs.Processes.{StandsIn, OthersStay, GoesOn, notice_to}
use Rattle.floored_groups.proofs.Going.{goes_by, met_step, IsMet, others_same}

-- an entry of another node
pub entry_other : {X : Type 0} (table : NodeId → X) (who : NodeId) (x : X) (other : NodeId) → other ≢ who
    → with_entry table who x other ≡ table other
entry_other {X} table who x other apart =
    entry_by table who x (λ (y : X). y ≡ table other) other (λ same. absurd (apart same)) (λ none. refl)

-- where something stands
pub numbered : {X : Type 0} (xs : List X) (x : X) → IsIn xs x → (n : ℕ) × (slice_get xs n ≡ Some x)
numbered [] x h = absurd h
numbered (y ∷ xs) x (inl e) = (0, ap Some e)
numbered (y ∷ xs) x (inr h) = let rest = numbered xs x h in (suc rest.0, rest.1)

-- ---- the least that was told

same_told : (told other : ℕ → Option Place) (from count : ℕ) → ((rm : ℕ) → rm < from + count → told rm ≡ other rm)
    → map told (range_with_len from count) ≡ map other (range_with_len from count)
same_told told other from zero each = refl
same_told told other from (suc count) each =
    λ k. each from (omega arith) k ∷ same_told told other (from + 1) count (λ rm few. each rm (omega (arith, few))) k

-- the least that was told is the same where the same was told of each
pub same_least : (config : Config) (told other : ℕ → Option Place) → ((rm : ℕ) → rm < config.managers → told rm ≡ other rm)
    → least_told config told ≡ least_told config other
same_least config told other each =
    ap least_of (same_told told other 0 config.managers (λ rm few. each rm (omega (arith, few))))

-- ---- a floor that was to rise

-- with a fault of a rise the node was reached
pub met_rise : (old new : Held) (fault : Fault) → BefallsRise old new fault → IsMet fault
met_rise old new NoMemoryBefore b = absurd b
met_rise old new NoFault b = tt
met_rise old new NoMemoryAt b = tt
met_rise old new (RecordFails whole) b = tt

-- what came of a process is what a rise of its node comes to
pub record HasRisen (config : Config) (old new : FlooredParts) (rise : Fault → Rise) (result : Result (Unit {0}) Refusal) : Type 0 where
  pub fault : Fault
  pub met : IsMet fault
  pub who_is : new.node.who ≡ old.node.who
  pub floor_is : new.floor ≡ (rise fault).floor
  pub answer_is : restart_answer result ≡ (rise fault).answer
  pub stands : FlooredStands config new (rise fault).node

module _ (config : Config) (world : FlooredWorld) (who : NodeId) (old new : MemberParts) (s : StandsIn config world who old)
    (result : Result (Unit {0}) Refusal) where
  abbrev rises : Place → Fault → Rise
  rises place fault = on_rise who (world.floor who) s.state place fault

  -- what a process comes to whose floor was to rise is what its node comes to
  pub risen_so : (place : Place) → FlooredRaises config s.state place old.floored new.floored result
      → HasRisen config old.floored new.floored (rises place) result
  risen_so place r =
      let is : on_rise old.floored.node.who old.floored.floor s.state place r.fault ≡ rises place r.fault =
      (λ i. on_rise (s.who_is i) (s.floor_is i) s.state place r.fault) in
      record {
        fault = r.fault;
        met = met_rise old.floored.node.held new.floored.node.held r.fault r.befalls;
        who_is = r.who_is;
        floor_is = r.floor_is ∙ ap (λ (x : Rise). x.floor) is;
        answer_is = r.answer_is ∙ ap (λ (x : Rise). x.answer) is;
        stands = subst (λ (x : Rise). FlooredStands config new.floored x.node) is r.stands;
      }

  -- a rise to what was told, at an acceptor or a leader that is up
  on_told : (n : NodeId) → is_manager n ≡ false → s.state.up ≡ true → (floor : Option Place) (place : Place) (fault : Fault)
      → on_rise n floor s.state place fault ≡ on_least floor s.state (Some place) fault
  on_told (A a) other up floor place fault =
      cond-true s.state.up (on_least floor s.state (Some place) fault) (kept_rise floor s.state (Refused refusals.Down)) up
  on_told (L l) other up floor place fault =
      cond-true s.state.up (on_least floor s.state (Some place) fault) (kept_rise floor s.state (Refused refusals.Down)) up
  on_told (R rm) other up floor place fault = absurd (cc (other))

  -- and so where it was to rise to the least that was told
  pub least_so : is_manager who ≡ false → s.state.up ≡ true → (least : Option Place)
      → RisesToLeast config s.state least old.floored new.floored result
      → HasRisen config old.floored new.floored (λ fault. on_least (world.floor who) s.state least fault) result
  least_so other up None (same, done) = record {
    fault = NoFault;
    met = tt;
    who_is = ap (λ (x : FlooredParts). x.node.who) same;
    floor_is = ap (λ (x : FlooredParts). x.floor) same ∙ s.floor_is;
    answer_is = ap restart_answer done;
    stands = subst (λ (x : FlooredParts). FlooredStands config x s.state) (sym same) s.is;
  }
  least_so other up (Some place) raises =
      let r = risen_so place raises in
      let is : rises place r.fault ≡ on_least (world.floor who) s.state (Some place) r.fault =
      on_told who other up (world.floor who) place r.fault in
      record {
        fault = r.fault;
        met = r.met;
        who_is = r.who_is;
        floor_is = r.floor_is ∙ ap (λ (x : Rise). x.floor) is;
        answer_is = r.answer_is ∙ ap (λ (x : Rise). x.answer) is;
        stands = subst (λ (x : Rise). FlooredStands config new.floored x.node) is r.stands;
      }

-- ---- heard

-- what came of a notice that a process heard
pub record HasTaken (config : Config) (world : FlooredWorld) (reach : IsFlooredReached config world) (who : NodeId)
    (old new : MemberParts) (out : Output) (happened : FlooredHappening) : Type 0 where
  pub goes_on : GoesOn config world reach who new out.sends [] (happened ∷ [])
  pub risen : is_lower new.floored.floor old.floored.floor ≡ false
  pub silent : out.sends ≡ []

module _ (config : Config) (world : FlooredWorld) (reach : IsFlooredReached config world) (who : NodeId) (old new : MemberParts)
    (s : StandsIn config world who old) (notice : Heard) (n : ℕ) (there : slice_get world.notices n ≡ Some (notice_to who notice))
    (other : is_manager who ≡ false) (out : Output) where
  abbrev m : NodeState
  m = s.state

  abbrev told : ℕ → Option Place
  told = told_with (world.told who) (notice_to who notice)

  abbrev heard_up : Fault → FlooredResult
  heard_up fault =
      let rise = on_least (world.floor who) m (least_told config told) fault in
      floored_answer (record (with_rise config world who rise) { told = with_entry world.told who told }) rise.answer

  heard_is : (fault : Fault) → floored_dispatch config world (Hear n) fault
      ≡ (if m.up then heard_up fault else floored_answer world (Refused refusals.Down))
  heard_is fault =
      ap (floored_if_found world (hear_at config world fault)) there
      ∙ cond-false (is_manager who) (floored_answer world Done)
      (floored_if_found world (hear_result config world (notice_to who notice) fault) (node_at config world.machine who)) other
      ∙ ap (floored_if_found world (hear_result config world (notice_to who notice) fault)) s.there

  -- one that is down stays as it was
  heard_down : m.up ≡ false → (new ≡ old) × (out ≡ output_of (Refused refusals.Down) None)
      → HasTaken config world reach who old new out (Underwent (Hear n) out.reply)
  heard_down down (same, is) =
      let g : GoesOn config world reach who new [] [] (Underwent (Hear n) (Refused refusals.Down) ∷ []) =
      goes_by config who world reach (Hear n) NoFault refl (floored_answer world (Refused refusals.Down))
      (met_step config world (Hear n) NoFault tt ∙ heard_is NoFault
      ∙ cond-false m.up (heard_up NoFault) (floored_answer world (Refused refusals.Down)) down) new
      (subst (StandsIn config world who) (sym same) s) (others_same config who world) refl [] (sym (append-nil world.notices)) in
      record {
        goes_on = subst (λ (o : Output). GoesOn config world reach who new o.sends [] (Underwent (Hear n) o.reply ∷ [])) (sym is) g;
        risen =
            subst (λ (x : MemberParts). is_lower x.floored.floor old.floored.floor ≡ false) (sym same) (not_lower_self old.floored.floor);
        silent = ap (λ (o : Output). o.sends) is;
      }

  module _ (up : m.up ≡ true) (h : HearsUp config m notice old new out) where
    told_now : (rm : ℕ) → rm < config.managers → told_at new.told rm ≡ told rm
    told_now rm few =
        h.heard.told_are rm (subst (λ (count : ℕ). rm < count) (sym s.told_count) few)
        ∙ ap (λ (x : Option Place). if rm == notice.manager then higher x (Some notice.floor) else x) (s.told_are rm few)

    risen_least : HasRisen config old.floored new.floored (λ fault. on_least (world.floor who) m (least_told config told) fault) h.result
    risen_least =
        least_so config world who old new s h.result other up (least_told config told)
        (subst (λ (least : Option Place). RisesToLeast config m least old.floored new.floored h.result)
        (same_least config (told_at new.told) told told_now) h.rises)

    heard_so : (r : HasRisen config old.floored new.floored (λ fault. on_least (world.floor who) m (least_told config told) fault) h.result)
        → HasTaken config world reach who old new out (Underwent (Hear n) out.reply)
    heard_so r =
        let rise : Rise = on_least (world.floor who) m (least_told config told) r.fault in
        let stands : StandsIn config (heard_up r.fault).world who new = record {
          state = rise.node;
          there = node_there config world.machine who m rise.node s.there;
          is = r.stands;
          who_is = r.who_is ∙ s.who_is;
          floor_is = r.floor_is ∙ sym (entry_own world.floor who rise.floor);
          told_count = h.heard.len ∙ s.told_count;
          told_are = λ rm few. told_now rm few ∙ sym (ap (λ (t : ℕ → Option Place). t rm) (entry_own world.told who told));
        } in
        let others : OthersStay config world (heard_up r.fault).world who = record {
          nodes_are = λ k apart. node_elsewhere config world.machine who k rise.node apart;
          floors_are = λ k apart. entry_other world.floor who rise.floor k apart;
          told_are = λ k apart. entry_other world.told who told k apart;
          replaced_are = refl;
        } in
        let g : GoesOn config world reach who new [] [] (Underwent (Hear n) rise.answer ∷ []) =
        goes_by config who world reach (Hear n) r.fault refl (heard_up r.fault)
        (met_step config world (Hear n) r.fault r.met ∙ heard_is r.fault ∙ cond-true m.up (heard_up r.fault)
        (floored_answer world (Refused refusals.Down)) up) new stands others refl []
        (sym (append-nil world.notices)) in
        record {
          goes_on =
              subst (λ (o : Output). GoesOn config world reach who new o.sends [] (Underwent (Hear n) o.reply ∷ [])) (sym h.out_is)
              (subst (λ (a : _). GoesOn config world reach who new [] [] (Underwent (Hear n) a ∷ [])) (sym r.answer_is) g);
          risen =
              subst (λ (f : Option Place). is_lower new.floored.floor f ≡ false) (sym s.floor_is)
              (subst (λ (f : Option Place). is_lower f (world.floor who) ≡ false) (sym r.floor_is)
              (not_sunk (world.floor who) m (λ p. least_told config told ≡ Some p) rise
              (least_rise (world.floor who) m (least_told config told) r.fault)));
          silent = ap (λ (o : Output). o.sends) h.out_is;
        }

  -- what a process hears its node hears
  pub one_heard : HearsAs config m notice old new out → HasTaken config world reach who old new out (Underwent (Hear n) out.reply)
  one_heard h = by (is_some old.floored.node.role) (is_up_as config old.floored m s.is) h
    where
      by : (t : Bool) → t ≡ m.up
          → MatchBool t (HearsUp config m notice old new out) ((new ≡ old) × (out ≡ output_of (Refused refusals.Down) None))
          → HasTaken config world reach who old new out (Underwent (Hear n) out.reply)
      by true e h = heard_so (sym e) h (risen_least (sym e) h)
      by false e h = heard_down (sym e) h
