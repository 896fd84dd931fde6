-- What the steps of a run say of how far the floor of a resource manager was raised.
use Rattle.std.proofs.Common.{◌≡◌, ◌⊎◌, inl, inr, ◌∙◌, ℕ, zero, suc, Bool, true, false, not, ◌&&◌, ◌==◌, if◌then◌else◌, List}
use Rattle.std.proofs.Common.{◌∷◌, Option, Some, None, refl, sym, ap, subst}
use Rattle.std.specs.Prelude.{slice_get}
use Rattle.std.proofs.lemmas.Bool.{cond_both, both_ways, not-true, eqb-true, ne_eqb, or_left, or_right}
use Rattle.xid.specs.Places.{Place, is_lower, tx_place, xid_place}
use Rattle.xid.specs.declared.refusals.Refusal.TheVariants.{Busy, Down, NoMemory, NoSuch}
use Rattle.xid.proofs.Places.{not_lower, not_lower_self}
use Rattle.safety.specs.Vocabulary.{A, Answer, Done, Event, Hear, L, NodeId, R, Raise, Refused, Replace, Request, Step}
use Rattle.protocol.specs.Effects.{Config}
use Rattle.protocol.specs.Nodes.{NodeState, Fault, NoMemoryBefore, NoMemoryAt, RecordFails}
use Rattle.protocol.specs.Worlds.{node_at}
use Rattle.protocol.specs.declared.requests.Request.TheVariants as requests
use Rattle.floors.specs.Nodes.{Rise, is_free_below, is_request_below, is_unread, kept_rise, may_replace, on_least, on_raise, put_in, risen}
use Rattle.floors.specs.Worlds as floored
use Rattle.floors.specs.Worlds.{FlooredResult, FlooredWorld, Machine, Notice, floored_answer, floored_if_found, floored_step, hear_at}
use Rattle.floors.specs.Worlds.{hear_result, is_done, is_manager, is_node, least_told, raise_result, step_with_floors, told_with}
use Rattle.floors.specs.Worlds.{replace_result, with_entry, with_rise, with_told_lost, floored_step_of}
use Rattle.floors.proofs.Places.{self_node}
use Rattle.floors.proofs.Rising.{entry_own, not_sunk, raise_is}
use Rattle.cluster_run.specs.Answers.{is_over, may_be_raised, raised_by}
use Rattle.cluster_run.proofs.Outages.{either}
use Rattle.cluster_run.proofs.Floored.{IsFlooredRun, AtFirst, Then}

-- ---- places

-- what is below a floor is below each that isn't lower
below_higher : (old new : Option Place) → is_lower new old ≡ false → (request : Request) → is_request_below old request ≡ true
    → is_request_below new request ≡ true
below_higher old new up request = by_request request
  where
    lifted : (x : Option Place) → is_lower x old ≡ true → is_lower x new ≡ true
    lifted x below = by_test (is_lower x new) refl
      where
        by_test : (b : Bool) → is_lower x new ≡ b → is_lower x new ≡ true
        by_test true e = e
        by_test false e = absurd (both_ways (is_lower x old) (not_lower old new x up e) below)

    by_request : (r : Request) → is_request_below old r ≡ true → is_request_below new r ≡ true
    by_request (requests.Call x action) below = lifted (Some (xid_place x)) below
    by_request requests.Recover below = absurd (cc (below))
    by_request (requests.View tx) below = lifted (Some (tx_place tx)) below
    by_request (requests.Commit tx) below = lifted (Some (tx_place tx)) below
    by_request (requests.Status tx) below = lifted (Some (tx_place tx)) below
    by_request (requests.Timeout tx) below = lifted (Some (tx_place tx)) below

none_below : (request : Request) → is_request_below None request ≡ false
none_below (requests.Call x action) = refl
none_below requests.Recover = refl
none_below (requests.View tx) = refl
none_below (requests.Commit tx) = refl
none_below (requests.Status tx) = refl
none_below (requests.Timeout tx) = refl

-- ---- a floor that was to rise

-- the floor stays, or is the place, of which the answer tells; after one that is done it isn't lower than the place
pub record IsRaised (floor : Option Place) (place : Place) (rise : Rise) : Type 0 where
  pub maybe : (rise.floor ≡ floor) ⊎ ((rise.floor ≡ Some place) × (may_be_raised rise.answer ≡ true))
  pub surely : is_done rise.answer ≡ true → is_lower rise.floor (Some place) ≡ false

module _ (floor : Option Place) (node : NodeState) (place : Place) where
  kept_is : (answer : Answer) → (is_done answer ≡ true → is_lower floor (Some place) ≡ false)
      → IsRaised floor place (kept_rise floor node answer)
  kept_is answer surely = record { maybe = inl refl; surely = surely }

  risen_is : (fault : Fault) → IsRaised floor place (risen floor node place fault)
  risen_is NoMemoryAt = record { maybe = inl refl; surely = λ e. absurd (cc (e)) }
  risen_is (RecordFails true) = record { maybe = inr (refl, refl); surely = λ e. absurd (cc (e)) }
  risen_is (RecordFails false) = record { maybe = inl refl; surely = λ e. absurd (cc (e)) }
  risen_is fault = record { maybe = inr (refl, refl); surely = λ e. not_lower_self (Some place) }

  pub raise_said : (fault : Fault) → IsRaised floor place (on_raise floor node place fault)
  raise_said fault =
      cond_both (not node.up) _ _ (IsRaised floor place) (λ down. kept_is (Refused Down) (λ e. absurd (cc (e))))
      (λ up. cond_both (not (is_lower floor (Some place))) _ _ (IsRaised floor place)
      (λ same. kept_is Done (λ e. not-true (is_lower floor (Some place)) same))
      (λ higher. cond_both (not (is_free_below place node)) _ _ (IsRaised floor place)
      (λ busy. kept_is (Refused Busy) (λ e. absurd (cc (e)))) (λ free. risen_is fault)))

-- ---- what steps say of a floor

-- what is below the floor is below a place that may have been reached, and what is below one that was surely reached is below the floor
pub record IsSaid (rm : ℕ) (floor : Option Place) (steps : List Step) : Type 0 where
  pub maybe : (request : Request) → is_request_below floor request ≡ true → is_over may_be_raised rm steps request ≡ true
  pub surely : (request : Request) → is_over is_done rm steps request ≡ true → is_request_below floor request ≡ true

and_false : (a : Bool) → (a && false) ≡ false
and_false true = refl
and_false false = refl

module _ (rm : ℕ) (steps : List Step) (floor : Option Place) (so : IsSaid rm floor steps) (step : Step) where
  abbrev raised : (Answer → Bool) → Option Place
  raised test = raised_by test rm step.event step.answer

  -- nothing was raised here
  said_still : (new : Option Place) → new ≡ floor → raised may_be_raised ≡ None → raised is_done ≡ None → IsSaid rm new (step ∷ steps)
  said_still new same unsaid none = record {
    maybe = λ request below.
        or_right (is_request_below (raised may_be_raised) request) (is_over may_be_raised rm steps request)
        (so.maybe request (subst (λ (f : Option Place). is_request_below f request ≡ true) same below));
    surely = λ request over. elim (either (is_request_below (raised is_done) request) (is_over is_done rm steps request) over) [
      | inl here ↦
          absurd (both_ways (is_request_below None request) (none_below request)
          (subst (λ (f : Option Place). is_request_below f request ≡ true) none here))
      | inr before ↦ subst (λ (f : Option Place). is_request_below f request ≡ true) (sym same) (so.surely request before)
    ];
  }

  -- this floor was to rise
  said_raised : (place : Place) (rise : Rise) → IsRaised floor place rise → is_lower rise.floor floor ≡ false
      → ((test : Answer → Bool) → raised test ≡ (if test rise.answer then Some place else None)) → IsSaid rm rise.floor (step ∷ steps)
  said_raised place rise is up own = record {
    maybe = λ request below. elim is.maybe [
      | inl same ↦
          or_right (is_request_below (raised may_be_raised) request) (is_over may_be_raised rm steps request)
          (so.maybe request (subst (λ (f : Option Place). is_request_below f request ≡ true) same below))
      | inr rose ↦
          let at : raised may_be_raised ≡ Some place =
          own may_be_raised ∙ ap (λ (b : Bool). if b then Some place else None) rose.1 in
          or_left (is_request_below (raised may_be_raised) request) (is_over may_be_raised rm steps request)
          (subst (λ (f : Option Place). is_request_below f request ≡ true) (rose.0 ∙ sym at) below)
    ];
    surely = λ request over. elim (either (is_request_below (raised is_done) request) (is_over is_done rm steps request) over) [
      | inl here ↦
          by_done (is_done rise.answer) refl request
          (subst (λ (f : Option Place). is_request_below f request ≡ true) (own is_done) here)
      | inr before ↦ below_higher floor rise.floor up request (so.surely request before)
    ];
  }
    where
      by_done : (done : Bool) → is_done rise.answer ≡ done → (request : Request)
          → is_request_below (if done then Some place else None) request ≡ true → is_request_below rise.floor request ≡ true
      by_done true e request below = below_higher (Some place) rise.floor (is.surely e) request below
      by_done false e request below = absurd (both_ways (is_request_below None request) (none_below request) below)

-- ---- one event

module _ (config : Config) (world : FlooredWorld) (rm : ℕ) where
  abbrev floor : Option Place
  floor = world.floor (R rm)

  abbrev Still : FlooredResult → Type 0
  Still result = result.world.floor (R rm) ≡ floor

  pub machine_still : (event : Event) (fault : Fault) → Still (floored_step config world (Machine event) fault)
  machine_still event NoMemoryBefore = refl
  machine_still event fault = refl

  other_node : (who : NodeId) → is_manager who ≡ false → is_node (R rm) who ≡ false
  other_node (A a) e = refl
  other_node (L l) e = refl
  other_node (R q) e = absurd (cc (e))

  -- no resource manager is replaced
  pub replaced_still : (who : NodeId) (place : Place) (fault : Fault)
      → Still (floored_step config world (floored.Replace who place) fault)
  replaced_still who place NoMemoryBefore = refl
  replaced_still who place fault =
      cond_both (is_manager who) (floored_answer world (Refused NoSuch))
      (floored_if_found world (replace_result config world who place fault) (node_at config world.machine who)) Still
      (λ manager. refl) (λ other. by_found other (node_at config world.machine who))
    where
      lost_still : (lost : Bool) → (with_told_lost world who lost).floor (R rm) ≡ floor
      lost_still true = refl
      lost_still false = refl

      by_found : is_manager who ≡ false → (o : Option NodeState)
          → Still (floored_if_found world (replace_result config world who place fault) o)
      by_found other None = refl
      by_found other (Some node) =
          let rise = put_in config who (world.floor who) node place fault in
          cond_both (may_replace (world.floor who) node place) _ _ Still
          (λ may. ap (λ (b : Bool). if b then rise.floor else floor) (other_node who other))
          (λ used. lost_still (is_unread node fault))

  -- no notice raises the floor of a resource manager
  pub heard_still : (n : ℕ) (fault : Fault) → Still (floored_step config world (floored.Hear n) fault)
  heard_still n NoMemoryBefore = refl
  heard_still n fault = by_notice (slice_get world.notices n)
    where
      by_node : (notice : Notice) → is_manager notice.receiver ≡ false → (o : Option NodeState)
          → Still (floored_if_found world (hear_result config world notice fault) o)
      by_node notice other None = refl
      by_node notice other (Some node) =
          let told = told_with (world.told notice.receiver) notice in
          let rise = on_least (world.floor notice.receiver) node (least_told config told) fault in
          cond_both node.up (floored_answer (record (with_rise config world notice.receiver rise)
          { told = with_entry world.told notice.receiver told }) rise.answer) (floored_answer world (Refused Down)) Still
          (λ up. ap (λ (b : Bool). if b then rise.floor else floor) (other_node notice.receiver other)) (λ down. refl)

      by_notice : (o : Option Notice) → Still (floored_if_found world (hear_at config world fault) o)
      by_notice None = refl
      by_notice (Some notice) =
          cond_both (is_manager notice.receiver) (floored_answer world Done)
          (floored_if_found world (hear_result config world notice fault) (node_at config world.machine notice.receiver)) Still
          (λ manager. refl) (λ other. by_node notice other (node_at config world.machine notice.receiver))

  module _ (steps : List Step) (so : IsSaid rm floor steps) where
    -- what the steps say after one more
    abbrev Says : Event → FlooredResult → Type 0
    Says event result = (step : Step) → step.event ≡ event → step.answer ≡ result.answer
        → IsSaid rm (result.world.floor (R rm)) (step ∷ steps)

    -- an event that is no rise
    other_said : (event : Event) (result : FlooredResult) → Still result
        → ((test : Answer → Bool) (answer : Answer) → raised_by test rm event answer ≡ None) → Says event result
    other_said event result still none step event_is answer_is =
        let unsaid : (test : Answer → Bool) → raised_by test rm step.event step.answer ≡ None =
        λ (test : Answer → Bool). ap (λ (e : Event). raised_by test rm e step.answer) event_is ∙ none test step.answer in
        said_still rm steps floor so step (result.world.floor (R rm)) still (unsaid may_be_raised) (unsaid is_done)

    -- a rise that isn't this one's, or was refused
    unraised : (other : ℕ) (place : Place) (result : FlooredResult) → Still result
        → (other == rm && may_be_raised result.answer) ≡ false → (other == rm && is_done result.answer) ≡ false
        → Says (Raise other place) result
    unraised other place result still unsaid none step event_is answer_is =
        let said : (test : Answer → Bool) → (other == rm && test result.answer) ≡ false → raised_by test rm step.event step.answer ≡ None =
        λ (test : Answer → Bool) (e : (other == rm && test result.answer) ≡ false).
        ap (λ (e : Event). raised_by test rm e step.answer) event_is
        ∙ ap (λ (a : Answer). if other == rm && test a then Some place else None) answer_is
        ∙ ap (λ (b : Bool). if b then Some place else None) e in
        said_still rm steps floor so step (result.world.floor (R rm)) still (said may_be_raised unsaid) (said is_done none)

    -- its floor was to rise
    raised_here : (place : Place) (fault : Fault) (node : NodeState)
        → Says (Raise rm place) (raise_result config world rm (on_raise floor node place fault))
    raised_here place fault node step event_is answer_is =
        let rise = on_raise floor node place fault in
        let own : (test : Answer → Bool) → raised_by test rm step.event step.answer ≡ (if test rise.answer then Some place else None) =
        λ (test : Answer → Bool).
        ap (λ (e : Event). raised_by test rm e step.answer) event_is
        ∙ ap (λ (a : Answer). if rm == rm && test a then Some place else None) answer_is
        ∙ ap (λ (b : Bool). if b && test rise.answer then Some place else None) (self_node (R rm)) in
        subst (λ (f : Option Place). IsSaid rm f (step ∷ steps)) (sym (entry_own world.floor (R rm) rise.floor))
        (said_raised rm steps floor so step place rise (raise_said floor node place fault)
        (not_sunk floor node (λ p. is_free_below p node ≡ true) rise (raise_is floor node place fault)) own)

    abbrev rise_of : ℕ → Place → Fault → Option NodeState → FlooredResult
    rise_of other place fault o =
        floored_if_found world (λ node. raise_result config world other (on_raise (world.floor (R other)) node place fault)) o

    rise_here : (place : Place) (fault : Fault) (o : Option NodeState) → Says (Raise rm place) (rise_of rm place fault o)
    rise_here place fault None =
        unraised rm place (floored_answer world (Refused NoSuch)) refl (and_false (rm == rm)) (and_false (rm == rm))
    rise_here place fault (Some node) = raised_here place fault node

    rise_there : (other : ℕ) → (other == rm) ≡ false → (place : Place) (fault : Fault) (o : Option NodeState)
        → Says (Raise other place) (rise_of other place fault o)
    rise_there other apart place fault None =
        unraised other place (floored_answer world (Refused NoSuch)) refl (and_false (other == rm)) (and_false (other == rm))
    rise_there other apart place fault (Some node) =
        let rise = on_raise (world.floor (R other)) node place fault in
        unraised other place (raise_result config world other rise)
        (ap (λ (b : Bool). if b then rise.floor else floor) (ne_eqb rm other (λ same. both_ways (other == rm) apart
        (subst (λ (q : ℕ). (q == rm) ≡ true) same (self_node (R rm))))))
        (ap (λ (b : Bool). b && may_be_raised rise.answer) apart) (ap (λ (b : Bool). b && is_done rise.answer) apart)

    rise_at : (other : ℕ) (place : Place) (fault : Fault) (own : Bool) → (other == rm) ≡ own
        → Says (Raise other place) (rise_of other place fault (node_at config world.machine (R other)))
    rise_at other place fault true e =
        subst (λ (q : ℕ). Says (Raise q place) (rise_of q place fault (node_at config world.machine (R q)))) (sym (eqb-true other rm e))
        (rise_here place fault (node_at config world.machine (R rm)))
    rise_at other place fault false e = rise_there other e place fault (node_at config world.machine (R other))

    raise_says : (other : ℕ) (place : Place) (fault : Fault)
        → Says (Raise other place) (floored_step config world (floored.Raise (R other) place) fault)
    raise_says other place NoMemoryBefore =
        unraised other place (floored_answer world (Refused NoMemory)) refl (and_false (other == rm)) (and_false (other == rm))
    raise_says other place fault = rise_at other place fault (other == rm) refl

    event_says : (event : Event) (fault : Fault) → Says event (step_with_floors config world event fault)
    event_says (Raise other place) fault = raise_says other place fault
    event_says (Hear zero) fault =
        other_said (Hear zero) (step_with_floors config world (Hear zero) fault) (machine_still (Hear zero) fault) (λ test answer. refl)
    event_says (Hear (suc n)) fault =
        other_said (Hear (suc n)) (floored_step config world (floored.Hear n) fault) (heard_still n fault) (λ test answer. refl)
    event_says (Replace who place) fault =
        other_said (Replace who place) (floored_step config world (floored.Replace who place) fault) (replaced_still who place fault)
        (λ test answer. refl)
    event_says event fault =
        other_said event (floored_step config world (Machine event) fault) (machine_still event fault) (λ test answer. refl)

-- the steps of a run say it of each resource manager
pub said_ever : (config : Config) (world : FlooredWorld) (steps : List Step) (rm : ℕ) → IsFlooredRun config world steps
    → IsSaid rm (world.floor (R rm)) steps
said_ever config _ _ rm AtFirst = record {
  maybe = λ request below. absurd (both_ways (is_request_below None request) (none_below request) below);
  surely = λ request over. absurd (cc (over));
}
said_ever config _ _ rm (Then world before event fault run) =
    event_says config world rm before (said_ever config world before rm run) event fault
    (floored_step_of world event (step_with_floors config world event fault)) refl refl
