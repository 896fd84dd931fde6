-- One event of a run, and one after another: the cluster stands for a world with floors.
use Rattle.std.proofs.Common.{◌≡◌, ◌∙◌, ℕ, List, [], ◌∷◌, ◌++◌, length, Option, Some, None, refl, sym, ap, subst}
use Rattle.std.proofs.Common.{◌+◌, ◌-◌, ◌<◌, ◌≤◌, inl, inr, arith}
use Rattle.std.specs.List.{flat_map}
use Rattle.std.proofs.lemmas.Grind.{flat_map-append}
use Rattle.std.proofs.lemmas.List.{append-nil, length_push}
use Rattle.safety.specs.Vocabulary.{Deliver, Event, Step}
use Rattle.cluster_run.specs.Happenings.{IsOfMemory, AreOfMemory, IsNext, AreNext, IsFlow, IsDoneBy, AreDoneBy}
use Rattle.cluster_run.specs.Running.{IsRunning, Printed, Prints, PrintsShort, ComesTo, GoesOn, FallsShort, lines_from, so_far}
use Rattle.cluster_run.proofs.Completing.{commands_on, done_on, flow_after, flow_on, lines_more}
use Rattle.cluster_run.proofs.Happening.{after_more, memory_more, next_more, done_more}
use Rattle.cluster_run.proofs.Printing.{prints_later, prints_more, prints_no_more, prints_none, short_after, short_before}
use Rattle.protocol.specs.Effects.{Config}
use Rattle.protocol.specs.Nodes.{Fault, NoFault, NoMemoryBefore, NoMemoryAt, RecordFails}
use Rattle.protocol.specs.Worlds.{Occurrence}
use Rattle.floors.specs.Worlds.{FlooredWorld, floored_step_of, floored_world_after, step_with_floors}
use Rattle.network.specs.Networks.{least_unmarked}
use Rattle.cluster.specs.Clusters.{BefallsIn, ClusterParts, ClusterStands, Occurs}
use Rattle.cluster.proofs.Following.{no_failure, still_firm}
use Rattle.net_script.specs.declared.values.Command.{Command}
use Rattle.net_script.specs.declared.values.Command.TheVariants.{Do}
use Rattle.net_script.specs.Traces.{step_text}

-- a run goes on from where it has come to
pub comes_on : (config : Config) (world : FlooredWorld) (old new : ClusterParts) (first before after : Printed)
    (happened more : List Occurrence)
    → ComesTo config world old first before happened → ComesTo config (floored_world_after config world happened) new before after more
    → ComesTo config world new first after (happened ++ more)
comes_on config world old new first before after happened more so then = record {
  running = subst (λ (w : FlooredWorld). IsRunning config w new) (sym (after_more config world happened more)) then.running;
  faults = memory_more happened more so.faults then.faults;
  prints =
      subst (Prints first after) (sym (lines_more config world happened more))
      (prints_more first before after (lines_from config world happened)
      (lines_from config (floored_world_after config world happened) more)
      so.prints then.prints);
}

-- nothing has happened yet
pub none_yet : (config : Config) (world : FlooredWorld) (cluster : ClusterParts) (at : Printed) → IsRunning config world cluster
    → ComesTo config world cluster at at []
none_yet config world cluster at running = record { running = running; faults = tt; prints = prints_none at }

-- what was printed on the way to more events falls short of these, and of others after them
pub short_on : (config : Config) (world : FlooredWorld) (first before : Printed) (out : Option (List ℕ))
    (happened more others : List Occurrence)
    → Prints first before (lines_from config world happened)
    → PrintsShort before out (lines_from config (floored_world_after config world happened) more)
    → PrintsShort first out (lines_from config world ((happened ++ more) ++ others))
short_on config world first before out happened more others so then =
    let at = floored_world_after config world happened in
    let both : PrintsShort first out (lines_from config world (happened ++ more)) =
    subst (PrintsShort first out) (sym (lines_more config world happened more))
    (short_after first before out (lines_from config world happened) (lines_from config at more) so then) in
    subst (PrintsShort first out) (sym (lines_more config world (happened ++ more) others))
    (short_before first out (lines_from config world (happened ++ more))
    (lines_from config (floored_world_after config world (happened ++ more)) others) both)

-- ---- an event

-- a fault that is true to what happened is none, or want of memory
of_memory : (config : Config) (world : FlooredWorld) (event : Event) (old new : ClusterParts) (fault : Fault) → IsRunning config world old
    → BefallsIn config world event old.nodes new.nodes fault → IsOfMemory fault
of_memory config world event old new NoFault running befalls = tt
of_memory config world event old new NoMemoryBefore running befalls = tt
of_memory config world event old new NoMemoryAt running befalls = tt
of_memory config world event old new (RecordFails whole) running befalls =
    no_failure config world old new running.stands running.firm whole event befalls

-- what came of an event of the machine, and its lines, of which some text was printed
pub happened_one : (config : Config) (world : FlooredWorld) (old new : ClusterParts) (event : Event) (step : Step)
    → IsRunning config world old → Occurs event old new step
    → (happened : List Occurrence) × IsDoneBy config world (Do event) happened × AreOfMemory happened
    × IsRunning config (floored_world_after config world happened) new × (lines_from config world happened ≡ step_text step)
happened_one config world old new event step running occurs =
    let o = occurs config world running.stands in
    let one : Occurrence = record { event = event; fault = o.fault } in (
      one ∷ [],
      (o.fault, refl),
      (of_memory config world event old new o.fault running o.befalls, tt),
      record { stands = o.stands; firm = still_firm old new o.same running.firm },
      append-nil (step_text (floored_step_of world event (step_with_floors config world event o.fault))) ∙ sym (ap step_text o.step_is),
    )

-- an event whose lines joined the piece, of which a beginning was printed then
pub happens_on : (old new : ClusterParts) (event : Event) (step : Step) (before after : List ℕ) (out_old out_new : Option (List ℕ))
    (last : List ℕ) → Occurs event old new step → after ≡ before ++ step_text step → Prints (so_far after out_old) (so_far last out_new) []
    → GoesOn (λ config world. IsDoneBy config world (Do event)) old new (so_far before out_old) (so_far last out_new)
happens_on old new event step before after out_old out_new last occurs text printed config world running =
    let one = happened_one config world old new event step running occurs in (
      one.0,
      one.1,
      record {
        running = one.3;
        faults = one.2;
        prints =
            subst (Prints (so_far before out_old) (so_far last out_new)) (append-nil (step_text step) ∙ sym one.4)
            (prints_more (so_far before out_old) (so_far after out_old) (so_far last out_new) (step_text step) []
            (prints_later before after (step_text step) out_old text) printed);
      },
    )

-- an event whose lines aren't written
pub happens_unwritten : (old new : ClusterParts) (event : Event) (step : Step) (before : List ℕ) (out : Option (List ℕ))
    → Occurs event old new step → FallsShort (λ config world. IsDoneBy config world (Do event)) old (so_far before out) out
happens_unwritten old new event step before out occurs config world running =
    let one = happened_one config world old new event step running occurs in
    (one.0, one.1, one.2, prints_no_more (so_far before out) (lines_from config world one.0))

-- an event whose lines joined the piece, which isn't printed whole then
pub happens_unprinted : (old new : ClusterParts) (event : Event) (step : Step) (before after : List ℕ) (out_old out_new : Option (List ℕ))
    → Occurs event old new step → after ≡ before ++ step_text step → PrintsShort (so_far after out_old) out_new []
    → FallsShort (λ config world. IsDoneBy config world (Do event)) old (so_far before out_old) out_new
happens_unprinted old new event step before after out_old out_new occurs text short config world running =
    let one = happened_one config world old new event step running occurs in (
      one.0,
      one.1,
      one.2,
      subst (PrintsShort (so_far before out_old) out_new) (append-nil (step_text step) ∙ sym one.4)
          (short_after (so_far before out_old) (so_far after out_old) out_new (step_text step) []
          (prints_later before after (step_text step) out_old text) short),
    )

-- ---- a flow

-- so many deliveries so far
pub record HasFlown (config : Config) (world : FlooredWorld) (count : ℕ) (cluster : ClusterParts) (before after : Printed) : Type 0 where
  pub happened : List Occurrence
  pub next : AreNext config world happened
  pub made : length happened ≡ count
  pub comes : ComesTo config world cluster before after happened

pub flown_none : (config : Config) (world : FlooredWorld) (cluster : ClusterParts) (out : Printed) → IsRunning config world cluster
    → HasFlown config world 0 cluster out out
flown_none config world cluster out running =
    record { happened = []; next = tt; made = refl; comes = none_yet config world cluster out running }

pub flown_more : (config : Config) (world : FlooredWorld) (count number : ℕ) (old new : ClusterParts) (first before after : Printed)
    → HasFlown config world count old first before
    → ((c : Config) (w : FlooredWorld) → ClusterStands c old w → Some number ≡ least_unmarked w.machine.net)
    → GoesOn (λ c w. IsDoneBy c w (Do (Deliver number))) old new before after
    → HasFlown config world (count + 1) new first after
flown_more config world count number old new first before after so least goes =
    let at = floored_world_after config world so.happened in
    let more = goes config at so.comes.running in
    let is : IsNext at (record { event = Deliver number; fault = (more.1).0 }) =
    (number, sym (least config at so.comes.running.stands), refl) in
    record {
      happened = so.happened ++ more.0;
      next =
          subst (λ (os : List Occurrence). AreNext config world (so.happened ++ os)) (sym (more.1).1)
          (next_more config world so.happened (record { event = Deliver number; fault = (more.1).0 }) so.next is);
      made =
          ap (λ (os : List Occurrence). length (so.happened ++ os)) (more.1).1
          ∙ length_push so.happened (record { event = Deliver number; fault = (more.1).0 }) ∙ ap (λ (n : ℕ). n + 1) so.made;
      comes = comes_on config world old new first before after so.happened more.0 so.comes more.2;
    }

-- it has made all, or none is left
pub flow_all : (config : Config) (world : FlooredWorld) (count : ℕ) (cluster : ClusterParts) (before after : Printed)
    → HasFlown config world count cluster before after
    → (happened : List Occurrence) × IsFlow config world count happened × ComesTo config world cluster before after happened
flow_all config world count cluster before after so = (
  so.happened,
  record { next = so.next; at_most = let made = so.made in omega arith; ends = inl so.made },
  so.comes,
)

pub flow_stops : (config : Config) (world : FlooredWorld) (count made : ℕ) (cluster : ClusterParts) (before after : Printed) → made ≤ count
    → HasFlown config world made cluster before after
    → ((c : Config) (w : FlooredWorld) → ClusterStands c cluster w → None ≡ least_unmarked w.machine.net)
    → (happened : List Occurrence) × IsFlow config world count happened × ComesTo config world cluster before after happened
flow_stops config world count made cluster before after few so none = (
  so.happened,
  record {
    next = so.next;
    at_most = let is = so.made in omega (arith, is, few);
    ends = inr (sym (none config (floored_world_after config world so.happened) so.comes.running.stands));
  },
  so.comes,
)

-- a delivery whose lines aren't printed whole
pub flow_short : (config : Config) (world : FlooredWorld) (count made number : ℕ) (cluster : ClusterParts) (first before : Printed)
    (out : Option (List ℕ)) → made < count → HasFlown config world made cluster first before
    → ((c : Config) (w : FlooredWorld) → ClusterStands c cluster w → Some number ≡ least_unmarked w.machine.net)
    → FallsShort (λ c w. IsDoneBy c w (Do (Deliver number))) cluster before out
    → (happened : List Occurrence) × IsFlow config world count happened × AreOfMemory happened
    × PrintsShort first out (lines_from config world happened)
flow_short config world count made number cluster first before out few so least short =
    let at = floored_world_after config world so.happened in
    let (one, (fault, is), memory, printed) = short config at so.comes.running in
    let next : IsNext at (record { event = Deliver number; fault = fault }) =
    (number, sym (least config at so.comes.running.stands), refl) in
    let some = so.happened ++ one in
    let are : AreNext config world some =
    subst (λ (os : List Occurrence). AreNext config world (so.happened ++ os)) (sym is)
    (next_more config world so.happened (record { event = Deliver number; fault = fault }) so.next next) in
    let long : length some ≡ made + 1 =
    ap (λ (os : List Occurrence). length (so.happened ++ os)) is
    ∙ length_push so.happened (record { event = Deliver number; fault = fault }) ∙ ap (λ (n : ℕ). n + 1) so.made in
    let (others, flow, unmet) = flow_on config (floored_world_after config world some) (count - (made + 1)) in (
      some ++ others,
      flow_after config world count (made + 1) some others are long (omega (arith, few)) flow,
      memory_more some others (memory_more so.happened one so.comes.faults memory) unmet,
      short_on config world first before out so.happened one others so.comes.prints printed,
    )

-- ---- commands

pub commands_more : (commands : List Command) (command : Command) (old middle new : ClusterParts) (first before after : Printed)
    → GoesOn (λ config world. AreDoneBy config world commands) old middle first before
    → GoesOn (λ config world. IsDoneBy config world command) middle new before after
    → GoesOn (λ config world. AreDoneBy config world (commands ++ command ∷ [])) old new first after
commands_more commands command old middle new first before after so then config world running =
    let done = so config world running in
    let more = then config (floored_world_after config world done.0) done.2.running in (
      done.0 ++ more.0,
      done_more config world commands done.0 command more.0 done.1 more.1,
      comes_on config world middle new first before after done.0 more.0 done.2 more.2,
    )

-- a command on the way to which printing stops, and those after it
pub commands_short : (commands : List Command) (command : Command) (others : List Command) (old middle : ClusterParts)
    (first before : Printed) (out : Option (List ℕ)) → GoesOn (λ config world. AreDoneBy config world commands) old middle first before
    → FallsShort (λ config world. IsDoneBy config world command) middle before out
    → FallsShort (λ config world. AreDoneBy config world ((commands ++ command ∷ []) ++ others)) old first out
commands_short commands command others old middle first before out so short config world running =
    let (done, are, comes) = so config world running in
    let (one, is, memory, printed) = short config (floored_world_after config world done) comes.running in
    let (rest, then, unmet) = commands_on config (floored_world_after config world (done ++ one)) others in (
      (done ++ one) ++ rest,
      done_on config world (commands ++ command ∷ []) others (done ++ one) rest (done_more config world commands done command one are is)
          then,
      memory_more (done ++ one) rest (memory_more done one comes.faults memory) unmet,
      short_on config world first before out done one rest comes.prints printed,
    )

-- ---- batches of commands

-- the commands of batches and of one more
one_batch_more : (batches : List (List Command)) (batch : List Command)
    → flat_map (λ one. one) (batches ++ batch ∷ []) ≡ flat_map (λ one. one) batches ++ batch
one_batch_more batches batch =
    flat_map-append (λ one. one) batches (batch ∷ [])
    ∙ ap (λ (last : List Command). flat_map (λ one. one) batches ++ last) (append-nil batch)

-- one more batch
pub batch_more : (batches : List (List Command)) (batch : List Command) (old middle new : ClusterParts) (first before after : Printed)
    → GoesOn (λ config world. AreDoneBy config world (flat_map (λ one. one) batches)) old middle first before
    → GoesOn (λ config world. AreDoneBy config world batch) middle new before after
    → GoesOn (λ config world. AreDoneBy config world (flat_map (λ one. one) (batches ++ batch ∷ []))) old new first after
batch_more batches batch old middle new first before after so then config world running =
    let done = flat_map (λ one. one) batches in
    let (happened, are, comes) = so config world running in
    let (more, are_then, comes_then) = then config (floored_world_after config world happened) comes.running in (
      happened ++ more,
      subst (λ (commands : List Command). AreDoneBy config world commands (happened ++ more)) (sym (one_batch_more batches batch))
          (done_on config world done batch happened more are are_then),
      comes_on config world middle new first before after happened more comes comes_then,
    )

-- a batch on the way to whose end printing stops, and those after it
pub batch_short : (batches : List (List Command)) (batch : List Command) (others : List (List Command)) (old middle : ClusterParts)
    (first before : Printed) (out : Option (List ℕ))
    → GoesOn (λ config world. AreDoneBy config world (flat_map (λ one. one) batches)) old middle first before
    → FallsShort (λ config world. AreDoneBy config world batch) middle before out
    → FallsShort (λ config world. AreDoneBy config world (flat_map (λ one. one) ((batches ++ batch ∷ []) ++ others))) old first out
batch_short batches batch others old middle first before out so short config world running =
    let done = flat_map (λ one. one) batches in
    let rest = flat_map (λ one. one) others in
    let (happened, are, comes) = so config world running in
    let (some, are_then, memory, printed) = short config (floored_world_after config world happened) comes.running in
    let (more, then, unmet) = commands_on config (floored_world_after config world (happened ++ some)) rest in (
      (happened ++ some) ++ more,
      subst (λ (commands : List Command). AreDoneBy config world commands ((happened ++ some) ++ more))
          (sym
          (flat_map-append (λ one. one) (batches ++ batch ∷ []) others
          ∙ ap (λ (front : List Command). front ++ rest) (one_batch_more batches batch)))
          (done_on config world (done ++ batch) rest (happened ++ some) more (done_on config world done batch happened some are are_then)
          then),
      memory_more (happened ++ some) more (memory_more happened some comes.faults memory) unmet,
      short_on config world first before out happened some more comes.prints printed,
    )

-- none of the commands is carried out
pub all_short : (commands : List Command) (old : ClusterParts) (piece : List ℕ) (out : Option (List ℕ))
    → FallsShort (λ config world. AreDoneBy config world commands) old (so_far piece out) out
all_short commands old piece out config world running =
    let (happened, are, unmet) = commands_on config world commands in
    (happened, are, unmet, prints_no_more (so_far piece out) (lines_from config world happened))
