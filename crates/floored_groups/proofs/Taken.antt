-- All that a process takes at once its node takes in a world: a group of it, and then, one after another, what was set aside.
-- Needed by `processes_take_all` and `processes_take_one`; Clusters.
use Rattle.std.proofs.Common.{◌≡◌, ◌∙◌, inl, inr, Bool, true, false, not, if◌then◌else◌, List, [], ◌∷◌, ◌++◌, map, Option, Some}
use Rattle.std.proofs.Common.{None, refl, sym, ap, subst, append-nil}
use Rattle.std.specs.Prelude.{is_some, slice_get, MatchBool, Ok, Err}
use Rattle.std.specs.List.{AllByRecursion, flat_map}
use Rattle.std.proofs.lemmas.List.{map_push}
use Rattle.xid.specs.Places.{Place, is_lower, tx_place, xid_place}
use Rattle.xid.proofs.Places.{not_lower, not_lower_self}
use Rattle.wire.specs.Messages.{message_tx}
use Rattle.stable_record.specs.declared.record.RecordError.{RecordError}
use Rattle.stable_record.specs.Held.{refusal_of}
use Rattle.protocol.specs.declared.answers.Answer.{Answer}
use Rattle.protocol.specs.declared.answers.Answer.TheVariants.{Refused}
use Rattle.protocol.specs.declared.decisions.Outgoing.{Outgoing}
use Rattle.protocol.specs.declared.nodes.NodeId.{NodeId}
use Rattle.protocol.specs.declared.requests.Request.TheVariants as requests
use Rattle.protocol.specs.Effects.{Config}
use Rattle.protocol.specs.Nodes.{NodeState, Input, Asked, Received, ReceivedNoise, Fault, NoFault, NoMemoryBefore, NoMemoryAt, RecordFails}
use Rattle.protocol.specs.Nodes.{Outcome, answer_outcome, down_answer, effect_of, effect_outcome}
use Rattle.protocol.specs.Worlds.{World, Datagram, datagrams_of}
use Rattle.protocol.proofs.Lists.{IsIn-before}
use Rattle.node_core.specs.declared.output.Output.{Output}
use Rattle.node_core.specs.Groups.{Place as At}
use Rattle.node_core.specs.Nodes.{IsSameNode}
use Rattle.node_core.specs.Storing.{output_of}
use Rattle.groups.specs.Runs.{Handed, CanBeHanded}
use Rattle.floors.specs.Nodes.{floored_node_step, is_input_below}
use Rattle.floors.specs.Worlds.{FlooredWorld, Notice}
use Rattle.floors.proofs.Refusing.{below_silent}
use Rattle.floored.specs.Nodes.{FlooredDoes, FlooredGroups, FlooredRuns, FlooredStands}
use Rattle.port.specs.Members.{Acts, Hears, ActsAs, Item, MemberParts, Takes, TakesAll, TakesApart, TakesGroup, TakesThose, grouped}
use Rattle.port.specs.Members.{is_aside}
use Rattle.port.proofs.Taking.{aside_grouped}
use Rattle.floored_groups.specs.Runs.{IsFlooredReached, FlooredHappening, Took, Underwent, floored_node_after, floored_sends_after}
use Rattle.floored_groups.specs.Runs.{taken_in}
use Rattle.floored_groups.specs.Processes.{StandsIn, GoesOn, CanBeGiven, IsAnswered, AreAnswered, IsGrouped, AreGrouped, AreAnsweredApart}
use Rattle.floored_groups.specs.Processes.{sent_of, IsTaken, IsTakenAlone, IsStopped, IsUnstored}
use Rattle.floored_groups.proofs.Going.{goes_as, goes_group, goes_then, stays_on}
use Rattle.floored_groups.proofs.Handed.{IsRunOf, run_of, replies, all_inputs, all_first, after_one}
use Rattle.floored_groups.proofs.Heard.{numbered, one_heard}

-- ---- what can be given

-- what was sent and told before can be given later too
given_later : (net more : List Datagram) (notices : List Notice) (who : NodeId) (item : Item) → CanBeGiven net notices who item
    → CanBeGiven (net ++ more) notices who item
given_later net more notices who (Acts (Received message)) (d, there, to, said) = (d, IsIn-before net more d there, to, said)
given_later net more notices who (Acts (Asked request)) can = tt
given_later net more notices who (Acts ReceivedNoise) can = tt
given_later net more notices who (Hears notice) can = can

all_later : (net more : List Datagram) (notices : List Notice) (who : NodeId) (items : List Item)
    → AllByRecursion (CanBeGiven net notices who) items → AllByRecursion (CanBeGiven (net ++ more) notices who) items
all_later net more notices who [] all = tt
all_later net more notices who (item ∷ items) all =
    (given_later net more notices who item all.0, all_later net more notices who items all.1)

handed_of : (world : World) (notices : List Notice) (who : NodeId) (input : Input) → CanBeGiven world.net notices who (Acts input)
    → CanBeHanded world who input
handed_of world notices who (Received message) can = can
handed_of world notices who (Asked request) can = tt
handed_of world notices who ReceivedNoise can = tt

-- ---- below a floor that has risen

below_by : (old new name : Option Place) → is_lower new old ≡ false → (t : Bool) → is_lower name new ≡ t → is_lower name old ≡ true
    → is_lower name new ≡ true
below_by old new name risen true e below = e
below_by old new name risen false e below =
    let not : is_lower name old ≡ false = not_lower old new name risen e in absurd (cc (not, below))

still_below : (old new : Option Place) → is_lower new old ≡ false → (input : Input) → is_input_below old input ≡ true
    → is_input_below new input ≡ true
still_below old new risen (Asked (requests.Call x action)) below = below_by old new (Some (xid_place x)) risen _ refl below
still_below old new risen (Asked requests.Recover) below = below
still_below old new risen (Asked (requests.View tx)) below = below_by old new (Some (tx_place tx)) risen _ refl below
still_below old new risen (Asked (requests.Commit tx)) below = below_by old new (Some (tx_place tx)) risen _ refl below
still_below old new risen (Asked (requests.Status tx)) below = below_by old new (Some (tx_place tx)) risen _ refl below
still_below old new risen (Asked (requests.Timeout tx)) below = below_by old new (Some (tx_place tx)) risen _ refl below
still_below old new risen (Received message) below = below_by old new (Some (tx_place (message_tx message))) risen _ refl below
still_below old new risen ReceivedNoise below = below

-- ---- one thing

-- a process took one thing
record HasDone (config : Config) (world : FlooredWorld) (reach : IsFlooredReached config world) (who : NodeId) (notices : List Notice)
    (item : Item) (old new : MemberParts) (out : Output) : Type 0 where
  pub happened : FlooredHappening
  pub answered : IsAnswered notices who item out.reply happened
  pub goes_on : GoesOn config world reach who new out.sends [] (happened ∷ [])
  pub risen : is_lower new.floored.floor old.floored.floor ≡ false
  pub silent : (floor : Option Place) → is_lower old.floored.floor floor ≡ false → is_aside floor item ≡ true → out.sends ≡ []

module _ (config : Config) (world : FlooredWorld) (reach : IsFlooredReached config world) (who : NodeId) (notices : List Notice)
    (old new : MemberParts) (s : StandsIn config world who old) (out : Output) where
  abbrev m : NodeState
  m = s.state

  done_acts : (input : Input) → CanBeHanded world.machine who input → ActsAs config m input old new out
      → HasDone config world reach who notices (Acts input) old new out
  done_acts input can acts =
      let st = acts.steps in
      let from : At = record { state = m; held = old.floored.node.held; role = old.floored.node.role } in
      let does : FlooredDoes config who (world.floor who) from input out st.to =
      subst (λ (n : NodeId). FlooredDoes config n (world.floor who) from input out st.to) s.who_is
      (subst (λ (f : Option Place). FlooredDoes config old.floored.node.who f from input out st.to) s.floor_is st.does) in
      let group : List Handed = record { input = input; fault = does.fault } ∷ [] in
      let outcome : Outcome = floored_node_step config who (world.floor who) m input does.fault in
      record {
        happened = Took who input out.reply;
        answered = refl;
        goes_on =
            goes_as config who world reach new (outcome.sends ++ []) out.sends [] [] (taken_in config who (world.floor who) m group)
            (Took who input out.reply ∷ []) (append-nil outcome.sends ∙ sym does.output_is.sends_are) refl
            (ap (λ (a : Answer). Took who input a ∷ []) (sym does.output_is.reply_is))
            (goes_group config world reach who old new s group (can, tt) true
            (subst (FlooredStands config new.floored) does.state_is st.stands) st.same.who_is st.floor_is acts.told_is);
        risen =
            subst (λ (f : Option Place). is_lower f old.floored.floor ≡ false) (sym st.floor_is) (not_lower_self old.floored.floor);
        silent = λ floor high below.
            does.output_is.sends_are
            ∙ below_silent config who (world.floor who) m input does.fault
            (subst (λ (f : Option Place). is_input_below f input ≡ true) s.floor_is (still_below floor old.floored.floor high input below));
      }

  done_one : (item : Item) → CanBeGiven world.machine.net notices who item → world.notices ≡ notices → Takes item old new out
      → HasDone config world reach who notices item old new out
  done_one (Acts input) can same takes = done_acts input (handed_of world.machine notices who input can) (takes config m s.is)
  done_one (Hears notice) can same takes =
      let at = numbered notices _ can.0 in
      let h = one_heard config world reach who old new s notice at.0
      (ap (λ (all : List Notice). slice_get all at.0) same ∙ at.1) can.1 out (takes config m s.is) in
      record {
        happened = Underwent _ out.reply;
        answered = (at.0, at.1, refl);
        goes_on = h.goes_on;
        risen = h.risen;
        silent = λ floor high below. h.silent;
      }

-- what a process is handed alone
pub taken_alone : (config : Config) (world : FlooredWorld) (reach : IsFlooredReached config world) (who : NodeId) (item : Item)
    (old new : MemberParts) (out : Output) → StandsIn config world who old → CanBeGiven world.machine.net world.notices who item
    → Takes item old new out → IsTakenAlone config world reach who item new out
taken_alone config world reach who item old new out s can takes =
    let d = done_one config world reach who world.notices old new s out item can refl takes in
    record { happened = d.happened; answered = d.answered; goes_on = d.goes_on }

-- ---- one after another

-- the outputs of those that are marked
abbrev pub marked_of : (marks : List Bool) → List Output → List Output
marked_of (true ∷ marks) (out ∷ outs) = out ∷ marked_of marks outs
marked_of (false ∷ marks) (out ∷ outs) = marked_of marks outs
marked_of marks outs = []

-- those that are marked send nothing
abbrev AreSilent : (marks : List Bool) → List Output → Type 0
AreSilent (true ∷ marks) (out ∷ outs) = (out.sends ≡ []) × AreSilent marks outs
AreSilent (false ∷ marks) (out ∷ outs) = AreSilent marks outs
AreSilent marks outs = Unit {0}

-- where others are put in the places of those that are marked, the others stay
abbrev IsPutIn : (marks : List Bool) → (before after : List Output) → Type 0
IsPutIn (true ∷ marks) (was ∷ before) (out ∷ after) = IsPutIn marks before after
IsPutIn (false ∷ marks) (was ∷ before) (out ∷ after) = (out ≡ was) × IsPutIn marks before after
IsPutIn [] [] [] = Unit {0}
IsPutIn marks before after = ⊥

module _ (config : Config) (who : NodeId) (notices : List Notice) where
  -- those that are marked were taken one after another
  record HaveDone (world : FlooredWorld) (reach : IsFlooredReached config world) (marks : List Bool) (items : List Item)
      (old new : MemberParts) (before after : List Output) : Type 0 where
    pub happened : List FlooredHappening
    pub answered : AreAnswered notices who marks items after happened
    pub goes_on : GoesOn config world reach who new (sent_of (marked_of marks after)) [] happened
    pub silent : (floor : Option Place) → is_lower old.floored.floor floor ≡ false → marks ≡ map (is_aside floor) items
        → AreSilent marks after
    pub put_in : IsPutIn marks before after

  heads : (a b : Bool) (xs ys : List Bool) → a ∷ xs ≡ b ∷ ys → a ≡ b
  heads a b xs ys e = cc

  tails : (a b : Bool) (xs ys : List Bool) → a ∷ xs ≡ b ∷ ys → xs ≡ ys
  tails a b xs ys e = cc

  done_all : (world : FlooredWorld) (reach : IsFlooredReached config world) (marks : List Bool) (items : List Item) (old new : MemberParts)
      (before after : List Output) → StandsIn config world who old → AllByRecursion (CanBeGiven world.machine.net notices who) items
      → world.notices ≡ notices → TakesThose marks items old new before after → HaveDone world reach marks items old new before after
  done_all world reach [] [] old new [] [] s can same e = record {
    happened = [];
    answered = tt;
    goes_on = stays_on config who world reach new (subst (StandsIn config world who) (sym e) s);
    silent = λ floor high is. tt;
    put_in = tt;
  }
  done_all world reach (true ∷ marks) (item ∷ items) old new (was ∷ before) (out ∷ after) s can same (next, takes, rest) =
      let d = done_one config world reach who notices old next s out item can.0 same takes in
      let g = d.goes_on in
      let later : AllByRecursion (CanBeGiven g.after.machine.net notices who) items =
      subst (λ (net : List Datagram). AllByRecursion (CanBeGiven net notices who) items) (sym g.net_is)
      (all_later world.machine.net (flat_map (datagrams_of config who) out.sends) notices who items can.1) in
      let r = done_all g.after g.reached marks items next new before after g.stands later
      (g.notices_are ∙ append-nil world.notices ∙ same) rest in
      record {
        happened = d.happened ∷ r.happened;
        answered = (d.answered, r.answered);
        goes_on =
            goes_then config who world reach next new out.sends (sent_of (marked_of marks after)) [] [] (d.happened ∷ []) r.happened
            g r.goes_on;
        silent = λ floor high is. (
          d.silent floor high (sym (heads true (is_aside floor item) marks (map (is_aside floor) items) is)),
          r.silent floor (not_lower floor old.floored.floor next.floored.floor high d.risen)
              (tails true (is_aside floor item) marks (map (is_aside floor) items) is),
        );
        put_in = r.put_in;
      }
  done_all world reach (false ∷ marks) (item ∷ items) old new (was ∷ before) (out ∷ after) s can same (next, stays, rest) =
      let r = done_all world reach marks items next new before after (subst (StandsIn config world who) (sym stays.0) s) can.1 same rest in
      record {
        happened = r.happened;
        answered = r.answered;
        goes_on = r.goes_on;
        silent = λ floor high is.
            r.silent floor (subst (λ (x : MemberParts). is_lower x.floored.floor floor ≡ false) (sym stays.0) high)
            (tails false (is_aside floor item) marks (map (is_aside floor) items) is);
        put_in = (stays.1, r.put_in);
      }
  done_all world reach [] (item ∷ items) old new before after s can same h = absurd h
  done_all world reach [] [] old new (was ∷ before) after s can same h = absurd h
  done_all world reach [] [] old new [] (out ∷ after) s can same h = absurd h
  done_all world reach (mark ∷ marks) [] old new before after s can same h = absurd h
  done_all world reach (mark ∷ marks) (item ∷ items) old new [] after s can same h = absurd h
  done_all world reach (mark ∷ marks) (item ∷ items) old new (was ∷ before) [] s can same h = absurd h

-- ---- what is sent of them

marked_silent : (marks : List Bool) (outs : List Output) → AreSilent marks outs → sent_of (marked_of marks outs) ≡ []
marked_silent [] outs none = refl
marked_silent (true ∷ marks) [] none = refl
marked_silent (false ∷ marks) [] none = refl
marked_silent (true ∷ marks) (out ∷ outs) none = λ i. none.0 i ++ marked_silent marks outs none.1 i
marked_silent (false ∷ marks) (out ∷ outs) none = marked_silent marks outs none

put_silent : (marks : List Bool) (before after : List Output) → AreSilent marks before → AreSilent marks after
    → IsPutIn marks before after → sent_of before ≡ sent_of after
put_silent [] [] [] old new put = refl
put_silent (true ∷ marks) (was ∷ before) (out ∷ after) old new put =
    λ i. (old.0 ∙ sym new.0) i ++ put_silent marks before after old.1 new.1 put i
put_silent (false ∷ marks) (was ∷ before) (out ∷ after) old new put =
    λ i. (sym put.0 i).sends ++ put_silent marks before after old new put.1 i
put_silent [] [] (out ∷ after) old new put = absurd put
put_silent [] (was ∷ before) after old new put = absurd put
put_silent (true ∷ marks) [] after old new put = absurd put
put_silent (false ∷ marks) [] after old new put = absurd put
put_silent (true ∷ marks) (was ∷ before) [] old new put = absurd put
put_silent (false ∷ marks) (was ∷ before) [] old new put = absurd put

all_marked : (items : List Item) (before after : List Output) → IsPutIn (map (λ (item : Item). true) items) before after
    → marked_of (map (λ (item : Item). true) items) after ≡ after
all_marked [] [] [] put = refl
all_marked (item ∷ items) (was ∷ before) (out ∷ after) put = ap (λ (outs : List Output). out ∷ outs) (all_marked items before after put)
all_marked [] [] (out ∷ after) put = absurd put
all_marked [] (was ∷ before) after put = absurd put
all_marked (item ∷ items) [] after put = absurd put
all_marked (item ∷ items) (was ∷ before) [] put = absurd put

silent_cons : (t : Bool) (marks : List Bool) (out : Output) (outs : List Output) → (t ≡ true → out.sends ≡ []) → AreSilent marks outs
    → AreSilent (t ∷ marks) (out ∷ outs)
silent_cons true marks out outs first rest = (first refl, rest)
silent_cons false marks out outs first rest = rest

-- ---- noise in the places of those that are set aside

module _ (config : Config) (who : NodeId) (floor : Option Place) (node : NodeState) where
  noise_by : (up : Bool) (fault : Fault)
      → (if not up then answer_outcome node (down_answer ReceivedNoise)
      else effect_outcome node (effect_of config who node.facts node.memory ReceivedNoise) None node.tear fault).sends ≡ []
  noise_by false fault = refl
  noise_by true NoMemoryAt = refl
  noise_by true NoMemoryBefore = refl
  noise_by true NoFault = refl
  noise_by true (RecordFails whole) = refl

  noise_silent : (fault : Fault) → (floored_node_step config who floor node ReceivedNoise fault).sends ≡ []
  noise_silent fault = noise_by node.up fault

module _ (config : Config) (who : NodeId) (own floor : Option Place) where
  runs_silent : (items : List Item) (from : At) (outs : List Output) (to : At)
      → FlooredRuns config who own from (map (grouped floor) items) outs to → AreSilent (map (is_aside floor) items) outs
  runs_silent [] from [] to runs = tt
  runs_silent (item ∷ items) from (out ∷ outs) to (next, does, rest) =
      silent_cons (is_aside floor item) (map (is_aside floor) items) out outs
      (λ aside. does.output_is.sends_are
      ∙ ap (λ (input : Input). (floored_node_step config who own from.state input does.fault).sends) (aside_grouped floor item aside)
      ∙ noise_silent config who own from.state does.fault) (runs_silent items next outs to rest)
  runs_silent [] from (out ∷ outs) to runs = absurd runs
  runs_silent (item ∷ items) from [] to runs = absurd runs

  grouped_one : (t : Bool) (item : Item) → is_aside floor item ≡ t → (marks : List Bool) (was out : Output) (before after : List Output)
      → IsPutIn (t ∷ marks) (was ∷ before) (out ∷ after)
      → IsGrouped t who (grouped floor item) out.reply (Took who (grouped floor item) was.reply) × IsPutIn marks before after
  grouped_one true item e marks was out before after put =
      ((was.reply, ap (λ (input : Input). Took who input was.reply) (aside_grouped floor item e)), put)
  grouped_one false item e marks was out before after put =
      (ap (λ (o : Output). Took who (grouped floor item) o.reply) (sym put.0), put.1)

  grouped_so : (items : List Item) (middle outs : List Output) → IsPutIn (map (is_aside floor) items) middle outs
      → AreGrouped who floor items outs (replies who (map (grouped floor) items) middle)
  grouped_so [] [] [] put = tt
  grouped_so (item ∷ items) (was ∷ before) (out ∷ after) put =
      let one = grouped_one (is_aside floor item) item refl (map (is_aside floor) items) was out before after put in
      (one.0, grouped_so items before after one.1)
  grouped_so [] [] (out ∷ after) put = absurd put
  grouped_so [] (was ∷ before) after put = absurd put
  grouped_so (item ∷ items) [] after put = none_put (is_aside floor item) put
    where
      none_put : (t : Bool) → IsPutIn (t ∷ map (is_aside floor) items) [] after → AreGrouped who floor (item ∷ items) after []
      none_put true put = absurd put
      none_put false put = absurd put
  grouped_so (item ∷ items) (was ∷ before) [] put = none_put (is_aside floor item) put
    where
      none_put : (t : Bool) → IsPutIn (t ∷ map (is_aside floor) items) (was ∷ before) []
          → AreGrouped who floor (item ∷ items) [] (replies who (map (grouped floor) (item ∷ items)) (was ∷ before))
      none_put true put = absurd put
      none_put false put = absurd put

-- what stands in a group can be handed
grouped_can : (world : World) (notices : List Notice) (who : NodeId) (floor : Option Place) (items : List Item)
    → AllByRecursion (CanBeGiven world.net notices who) items → AllByRecursion (CanBeHanded world who) (map (grouped floor) items)
grouped_can world notices who floor [] all = tt
grouped_can world notices who floor (Acts input ∷ items) all =
    (by (is_input_below floor input), grouped_can world notices who floor items all.1)
  where
    by : (t : Bool) → CanBeHanded world who (if t then ReceivedNoise else input)
    by true = tt
    by false = handed_of world notices who input all.0
grouped_can world notices who floor (Hears notice ∷ items) all = (tt, grouped_can world notices who floor items all.1)

refused_all : (floor : Option Place) (refused : Output) (items : List Item)
    → map (λ (input : Input). refused) (map (grouped floor) items) ≡ map (λ (item : Item). refused) items
refused_all floor refused [] = refl
refused_all floor refused (item ∷ items) = ap (λ (outs : List Output). refused ∷ outs) (refused_all floor refused items)

-- ---- all of it

module _ (config : Config) (world : FlooredWorld) (reach : IsFlooredReached config world) (who : NodeId) (items : List Item)
    (old new : MemberParts) (before outs : List Output) (s : StandsIn config world who old)
    (can : AllByRecursion (CanBeGiven world.machine.net world.notices who) items) where
  abbrev floor : Option Place
  floor = old.floored.floor

  abbrev inputs : List Input
  inputs = map (grouped floor) items

  abbrev marks : List Bool
  marks = map (is_aside floor) items

  abbrev from : At
  from = record { state = s.state; held = old.floored.node.held; role = old.floored.node.role }

  -- as its node's runs are
  own_runs : (inputs : List Input) (outs : List Output) (to : At)
      → FlooredRuns config old.floored.node.who old.floored.floor from inputs outs to
      → FlooredRuns config who (world.floor who) from inputs outs to
  own_runs inputs outs to runs =
      subst (λ (n : NodeId). FlooredRuns config n (world.floor who) from inputs outs to) s.who_is
      (subst (λ (f : Option Place). FlooredRuns config old.floored.node.who f from inputs outs to) s.floor_is runs)

  module _ (between : MemberParts) (middle : List Output) (same : IsSameNode old.floored.node between.floored.node)
      (floor_is : between.floored.floor ≡ old.floored.floor) (told_is : between.told ≡ old.told) (to : At)
      (runs : FlooredRuns config who (world.floor who) from inputs middle to) (stands : FlooredStands config between.floored to.state)
      (asides : TakesThose marks items between new middle outs) (up : is_some old.floored.node.role ≡ true) where
    run : IsRunOf config who (world.floor who) s.state inputs middle to.state
    run = run_of config who (world.floor who) from inputs middle to runs

    group_on : GoesOn config world reach who between (sent_of middle) [] (replies who inputs middle)
    group_on =
        goes_as config who world reach between (floored_sends_after config who (world.floor who) s.state run.group) (sent_of middle) [] []
        (taken_in config who (world.floor who) s.state run.group) (replies who inputs middle) run.sends_are refl run.happened_is
        (goes_group config world reach who old between s run.group
        (all_inputs (CanBeHanded world.machine who) run.group inputs run.inputs_are
        (grouped_can world.machine world.notices who floor items can)) true
        (subst (FlooredStands config between.floored) run.node_is stands) same.who_is floor_is told_is)

    apart_by : (g : GoesOn config world reach who between (sent_of middle) [] (replies who inputs middle))
        → IsTaken config world reach who items old new outs
    apart_by g =
        let later : AllByRecursion (CanBeGiven g.after.machine.net world.notices who) items =
        subst (λ (net : List Datagram). AllByRecursion (CanBeGiven net world.notices who) items) (sym g.net_is)
        (all_later world.machine.net (flat_map (datagrams_of config who) (sent_of middle)) world.notices who items can) in
        let d = done_all config who world.notices g.after g.reached marks items between new middle outs g.stands later
        (g.notices_are ∙ append-nil world.notices) asides in
        let quiet : AreSilent marks outs =
        d.silent floor (subst (λ (f : Option Place). is_lower f floor ≡ false) (sym floor_is) (not_lower_self floor)) refl in
        let sends_are : sent_of middle ++ sent_of (marked_of marks outs) ≡ sent_of outs =
        ap (λ (sends : List Outgoing). sent_of middle ++ sends) (marked_silent marks outs quiet)
        ∙ append-nil (sent_of middle)
        ∙ put_silent marks middle outs (runs_silent config who (world.floor who) floor items from middle to runs) quiet d.put_in in
        record {
          happened = replies who inputs middle ++ d.happened;
          answered =
              subst (λ (b : Bool).
              MatchBool b (AreAnsweredApart world.notices who floor items outs (replies who inputs middle ++ d.happened))
              (AreAnswered world.notices who (map (λ (item : Item). true) items) items outs (replies who inputs middle ++ d.happened)))
              (sym up)
              (record {
                group = replies who inputs middle;
                asides = d.happened;
                happened_is = refl;
                grouped_are = grouped_so config who (world.floor who) floor items middle outs d.put_in;
                asides_are = d.answered;
              });
          goes_on =
              goes_as config who world reach new (sent_of middle ++ sent_of (marked_of marks outs)) (sent_of outs) ([] ++ []) []
              (replies who inputs middle ++ d.happened) (replies who inputs middle ++ d.happened) sends_are refl refl
              (goes_then config who world reach between new (sent_of middle) (sent_of (marked_of marks outs)) [] []
              (replies who inputs middle) d.happened g d.goes_on);
        }

  taken_apart : is_some old.floored.node.role ≡ true → TakesApart items old new outs → IsTaken config world reach who items old new outs
  taken_apart up t =
      let g = t.group.machine config s.state s.is in
      by g.same g.floor_is g.comes
    where
      by : IsSameNode old.floored.node t.between.floored.node → t.between.floored.floor ≡ old.floored.floor
          → FlooredGroups config old.floored.node.who old.floored.floor from inputs t.between.floored t.middle (Ok tt)
          → IsTaken config world reach who items old new outs
      by same floor_is (to, runs, held, stands) =
          let own = own_runs inputs t.middle to runs in
          apart_by t.between t.middle same floor_is t.group.told_is to own stands t.asides up
          (group_on t.between t.middle same floor_is t.group.told_is to own stands t.asides up)

  taken_each : is_some old.floored.node.role ≡ false → TakesThose (map (λ (item : Item). true) items) items old new before outs
      → IsTaken config world reach who items old new outs
  taken_each down takes =
      let every : List Bool = map (λ (item : Item). true) items in
      let d = done_all config who world.notices world reach every items old new before outs s can refl takes in
      record {
        happened = d.happened;
        answered =
            subst (λ (b : Bool). MatchBool b (AreAnsweredApart world.notices who floor items outs d.happened)
            (AreAnswered world.notices who every items outs d.happened)) (sym down) d.answered;
        goes_on =
            goes_as config who world reach new (sent_of (marked_of every outs)) (sent_of outs) [] [] d.happened d.happened
            (ap sent_of (all_marked items before outs d.put_in)) refl refl d.goes_on;
      }

  -- all that a process takes its node takes
  pub taken : TakesAll items old new before outs (Ok tt) → IsTaken config world reach who items old new outs
  taken takes = by (is_some old.floored.node.role) refl takes
    where
      by : (t : Bool) → is_some old.floored.node.role ≡ t
          → MatchBool t (TakesApart items old new outs) (TakesThose (map (λ (item : Item). true) items) items old new before outs)
          → IsTaken config world reach who items old new outs
      by true up takes = taken_apart up takes
      by false down takes = taken_each down takes

  -- ---- stopped

  stopped_group : (error : RecordError) → TakesGroup items old new outs (Err error) → IsStopped config world reach who items new outs error
  stopped_group error t =
      let g = t.machine config s.state s.is in by g.same g.floor_is g.comes
    where
      by : IsSameNode old.floored.node new.floored.node → new.floored.floor ≡ old.floored.floor
          → FlooredGroups config old.floored.node.who old.floored.floor from inputs new.floored outs (Err error)
          → IsStopped config world reach who items new outs error
      by same floor_is (p, down, outs_are) =
          let run = run_of config who (world.floor who) from p.before p.outs p.place (own_runs p.before p.outs p.place p.runs) in
          let does : FlooredDoes config who (world.floor who) p.place p.at p.out p.to =
          subst (λ (n : NodeId). FlooredDoes config n (world.floor who) p.place p.at p.out p.to) s.who_is
          (subst (λ (f : Option Place). FlooredDoes config old.floored.node.who f p.place p.at p.out p.to) s.floor_is p.stopped) in
          let group : List Handed = run.group ++ record { input = p.at; fault = does.fault } ∷ [] in
          let inputs_are : map (λ (h : Handed). h.input) group ≡ p.before ++ p.at ∷ [] =
          map_push (λ (h : Handed). h.input) run.group (record { input = p.at; fault = does.fault })
          ∙ ap (λ (xs : List Input). xs ++ p.at ∷ []) run.inputs_are in
          let last : p.to.state ≡ floored_node_after config who (world.floor who) s.state group =
          does.state_is
          ∙ ap (λ (n : NodeState). (floored_node_step config who (world.floor who) n p.at does.fault).node) run.node_is
          ∙ sym (after_one config who (world.floor who) run.group s.state p.at does.fault) in
          record {
            down = down;
            outs_are = outs_are ∙ refused_all floor (output_of (Refused (refusal_of error)) None) items;
            happened = taken_in config who (world.floor who) s.state group;
            goes_on =
                goes_group config world reach who old new s group
                (all_inputs (CanBeHanded world.machine who) group (p.before ++ p.at ∷ []) inputs_are
                (all_first (CanBeHanded world.machine who) p.before p.at p.after
                (subst (AllByRecursion (CanBeHanded world.machine who)) p.inputs_are
                (grouped_can world.machine world.notices who floor items can)))) false
                (subst (FlooredStands config new.floored) last p.stands) same.who_is floor_is t.told_is;
          }

  -- stopped, or nothing happened
  pub unstored : (error : RecordError) → TakesAll items old new before outs (Err error)
      → IsUnstored config world reach who items old new before outs error
  unstored error (inl group) = inl (stopped_group error group)
  unstored error (inr none) = inr (none.new_is, none.outs_are)
