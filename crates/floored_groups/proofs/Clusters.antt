-- Whatever becomes of all processes of a cluster, they stand for a world that groups with floors lead to.
-- Needed by `processes_are_clusters`; Telling and Views; crate process_history.
use Rattle.std.proofs.Common.{◌≡◌, ◌≢◌, ◌∙◌, ◌⊎◌, inl, inr, ℕ, zero, suc, ◌+◌, ◌<◌, Bool, true, false, if◌then◌else◌, List, [], ◌∷◌, ◌++◌}
use Rattle.std.proofs.Common.{length, map, Option, Some, None, refl, sym, ap, subst, append-nil, arith}
use Rattle.std.specs.Prelude.{is_some, replicate, slice_get, MatchBool}
use Rattle.std.specs.List.{AllByRecursion, flat_map}
use Rattle.std.specs.Option.{option_and_then}
use Rattle.std.proofs.lemmas.Bool.{ltb-true}
use Rattle.std.proofs.lemmas.List.{length-replicate}
use Rattle.xid.specs.Places.{Place}
use Rattle.ballot.specs.Greatest.{IsIn}
use Rattle.stable_record.specs.declared.record.RecordError.{RecordError}
use Rattle.stable_record.specs.Behind.{behind}
use Rattle.stable_record.specs.Floors.{front_of}
use Rattle.stable_record.proofs.Floors.{no_floor}
use Rattle.protocol.specs.declared.answers.Answer.{Answer}
use Rattle.protocol.specs.declared.decisions.Outgoing.{Outgoing}
use Rattle.protocol.specs.declared.nodes.NodeId.{NodeId}
use Rattle.protocol.specs.declared.nodes.NodeId.TheVariants.{A, L, R}
use Rattle.protocol.specs.Effects.{Config}
use Rattle.protocol.specs.Nodes.{NodeState, ReceivedNoise, new_node}
use Rattle.protocol.specs.Worlds.{Datagram, datagrams_of, node_at, opening}
use Rattle.protocol.proofs.Lists.{IsIn-after, IsIn-append, IsIn-before}
use Rattle.forgetting.specs.Above.{StandsAbove}
use Rattle.forgetting.proofs.Left.{stands_whole}
use Rattle.node_core.specs.declared.output.Output.{Output}
use Rattle.node_core.specs.Configs.{is_among}
use Rattle.node_core.specs.Nodes.{NodeStands}
use Rattle.node_core.specs.Opening.{IsOpened}
use Rattle.node_core.proofs.Restarting.{opened_empty}
use Rattle.floors.specs.Runs.{floored_opening}
use Rattle.floors.specs.Worlds.{FlooredWorld, Hear, Notice}
use Rattle.floors.proofs.Rising.{entry_by}
use Rattle.floored.specs.Told.{told_at}
use Rattle.port.specs.Members.{Acts, Hears, Item, MemberParts, grouped, is_aside}
use Rattle.floored_groups.specs.Runs.{FlooredHappening, IsFlooredReached, Opening, Took, Underwent, all_taken}
use Rattle.floored_groups.specs.Processes.{AreAllAnswered, AreAnswered, AreAnsweredApart, AreGrouped, CanBeGiven, GoesOn, IsAnswered}
use Rattle.floored_groups.specs.Processes.{IsGrouped, IsUnstored, OthersStay, StandsIn, notice_to, sent_of, told_by}
use Rattle.floored_groups.specs.Clusters.{AllProcesses, Armed, Begun, Compacted, Failed, IsBegun, IsReplied, IsRun, Raised, Reopened, Reply}
use Rattle.floored_groups.specs.Clusters.{Tabled, TookOne, Viewed, Restarted, StandFor, TookAll, after_step, all_replies, replies_of}
use Rattle.floored_groups.proofs.Going.{stays_on}
use Rattle.floored_groups.proofs.Reopened.{reopened_on}
use Rattle.floored_groups.proofs.Taken.{taken, taken_alone, unstored}
use Rattle.floored_groups.proofs.Upkept.{armed_on, asked_on, compacted, none_told, raised, restarted}

-- ---- begun

get_replicated : {X : Type 0} (count at : ℕ) (x : X) → at < count → slice_get (replicate count x) at ≡ Some x
get_replicated zero at x lt = absurd (omega (arith, lt))
get_replicated (suc count) zero x lt = refl
get_replicated (suc count) (suc at) x lt = get_replicated count at x (omega (arith, lt))

module _ (config : Config) where
  abbrev found : Option ℕ → Option NodeState
  found o = option_and_then (λ (at : ℕ). slice_get (opening config).nodes at) o

  -- each node of the cluster is there at first
  there_first : (who : NodeId) → is_among config who ≡ true → node_at config (opening config) who ≡ Some new_node
  there_first (A a) e =
      let few : a < config.acceptors = ltb-true a config.acceptors e in
      ap (λ (t : Bool). found (if t then Some a else None)) e
      ∙ get_replicated (config.acceptors + config.leaders + config.managers) a new_node (omega (arith, few))
  there_first (L l) e =
      let few : l < config.leaders = ltb-true l config.leaders e in
      ap (λ (t : Bool). found (if t then Some (config.acceptors + l) else None)) e
      ∙ get_replicated (config.acceptors + config.leaders + config.managers) (config.acceptors + l) new_node (omega (arith, few))
  there_first (R rm) e =
      let few : rm < config.managers = ltb-true rm config.managers e in
      ap (λ (t : Bool). found (if t then Some (config.acceptors + config.leaders + rm) else None)) e
      ∙ get_replicated (config.acceptors + config.leaders + config.managers) (config.acceptors + config.leaders + rm) new_node
      (omega (arith, few))

  begun_stands : (who : NodeId) (member : MemberParts) → is_among config who ≡ true → IsBegun config who member
      → StandsIn config (floored_opening config) who member
  begun_stands who member among b =
      let none : member.floored.floor ≡ None = b.opened.floor_is ∙ no_floor b.held.bytes b.empty in
      let is : IsOpened config who (behind [] b.held) member.floored.node =
      subst (λ (f : Option Place). IsOpened config who (behind (front_of f) b.held) member.floored.node) none b.opened.opened in
      let stands : NodeStands config member.floored.node new_node =
      subst (λ (tear : Option ℕ). NodeStands config member.floored.node (record new_node { tear = tear })) b.unarmed
      (opened_empty config who (behind [] b.held) member.floored.node b.empty is) in
      record {
        state = new_node;
        there = there_first who among;
        is = record {
          from = config;
          few = new_node;
          is = stands;
          above = subst (λ (f : Option Place). StandsAbove config config member.floored.node.who f new_node new_node) (sym none)
              (stands_whole config member.floored.node.who new_node refl);
        };
        who_is = is.who_is;
        floor_is = none;
        told_count = ap length b.told_is ∙ length-replicate config.managers None;
        told_are = λ rm few. ap (λ (told : List (Option Place)). told_at told rm) b.told_is ∙ none_told config.managers rm;
      }

-- ---- one step

-- another process stands for its node still
other_stands : (config : Config) (world after : FlooredWorld) (who other : NodeId) (member : MemberParts)
    → OthersStay config world after who → other ≢ who → StandsIn config world other member → StandsIn config after other member
other_stands config world after who other member others apart s = record {
  state = s.state;
  there = others.nodes_are other apart ∙ s.there;
  is = s.is;
  who_is = s.who_is;
  floor_is = s.floor_is ∙ sym (others.floors_are other apart);
  told_count = s.told_count;
  told_are = λ rm few. s.told_are rm few ∙ sym (ap (λ (told : ℕ → Option Place). told rm) (others.told_are other apart));
}

get_before : {X : Type 0} (xs ys : List X) (n : ℕ) (x : X) → slice_get xs n ≡ Some x → slice_get (xs ++ ys) n ≡ Some x
get_before [] ys n x e = absurd (cc (e))
get_before (y ∷ xs) ys zero x e = e
get_before (y ∷ xs) ys (suc n) x e = get_before xs ys n x e

-- what was replied stays so
replied_later : (notices more : List Notice) (happened later : List FlooredHappening) (who : NodeId) (item : Item) (answer : Answer)
    → IsReplied notices happened who item answer → IsReplied (notices ++ more) (happened ++ later) who item answer
replied_later notices more happened later who (Acts input) answer h = IsIn-before happened later (Took who input answer) h
replied_later notices more happened later who (Hears notice) answer (n, there, h) =
    (n, get_before notices more n (notice_to who notice) there, IsIn-before happened later (Underwent (Hear n) answer) h)

replied_after : (notices : List Notice) (happened later : List FlooredHappening) (who : NodeId) (item : Item) (answer : Answer)
    → IsReplied notices later who item answer → IsReplied notices (happened ++ later) who item answer
replied_after notices happened later who (Acts input) answer h = IsIn-after happened later (Took who input answer) h
replied_after notices happened later who (Hears notice) answer (n, there, h) =
    (n, there, IsIn-after happened later (Underwent (Hear n) answer) h)

-- the first of what happened is its reply
replied_first : (notices : List Notice) (who : NodeId) (item : Item) (answer : Answer) (first : FlooredHappening)
    (rest : List FlooredHappening) → IsAnswered notices who item answer first → IsReplied notices (first ∷ rest) who item answer
replied_first notices who (Acts input) answer first rest is = inl is
replied_first notices who (Hears notice) answer first rest (n, there, is) = (n, there, inl is)

replied_next : (notices : List Notice) (who : NodeId) (item : Item) (answer : Answer) (first : FlooredHappening)
    (rest : List FlooredHappening) → IsReplied notices rest who item answer → IsReplied notices (first ∷ rest) who item answer
replied_next notices who item answer first rest h = replied_after notices (first ∷ []) rest who item answer h

module _ (notices : List Notice) (who : NodeId) where
  abbrev IsGiven : List FlooredHappening → Reply → Type 0
  IsGiven happened reply = IsReplied notices happened reply.who reply.item reply.answer

  -- ---- each alone

  each_replied : (items : List Item) (outs : List Output) (happened : List FlooredHappening)
      → AreAnswered notices who (map (λ (item : Item). true) items) items outs happened → (reply : Reply)
      → IsIn (replies_of who items outs) reply → IsGiven happened reply
  each_replied [] outs happened are reply h = absurd h
  each_replied (item ∷ items) [] happened are reply h = absurd h
  each_replied (item ∷ items) (out ∷ outs) [] are reply h = absurd are
  each_replied (item ∷ items) (out ∷ outs) (first ∷ rest) are reply (inl same) =
      subst (IsGiven (first ∷ rest)) same (replied_first notices who item out.reply first rest are.0)
  each_replied (item ∷ items) (out ∷ outs) (first ∷ rest) are reply (inr h) =
      replied_next notices reply.who reply.item reply.answer first rest (each_replied items outs rest are.1 reply h)

  -- ---- a group, and what was set aside

  abbrev InEither : List FlooredHappening → List FlooredHappening → Reply → Type 0
  InEither group asides reply = IsGiven group reply ⊎ IsGiven asides reply

  -- in the group: what isn't set aside
  kept_first : (floor : Option Place) (item : Item) (answer : Answer) (first : FlooredHappening) (rest : List FlooredHappening)
      → is_aside floor item ≡ false → first ≡ Took who (grouped floor item) answer
      → IsReplied notices (first ∷ rest) who item answer
  kept_first floor (Acts input) answer first rest kept is =
      inl (is ∙ ap (λ (t : Bool). Took who (if t then ReceivedNoise else input) answer) kept)
  kept_first floor (Hears notice) answer first rest kept is = absurd (cc (kept))

  module _ (floor : Option Place) where
    apart_replied : (items : List Item) (outs : List Output) (group asides : List FlooredHappening)
        → AreGrouped who floor items outs group → AreAnswered notices who (map (is_aside floor) items) items outs asides
        → (reply : Reply) → IsIn (replies_of who items outs) reply → InEither group asides reply
    apart_replied [] outs group asides are others reply h = absurd h
    apart_replied (item ∷ items) [] group asides are others reply h = absurd h
    apart_replied (item ∷ items) (out ∷ outs) [] asides are others reply h = absurd are
    apart_replied (item ∷ items) (out ∷ outs) (first ∷ rest) asides are others reply h =
        by (λ (more : List FlooredHappening) (also : AreAnswered notices who (map (is_aside floor) items) items outs more)
        (later : IsIn (replies_of who items outs) reply). apart_replied items outs rest more are.1 also reply later)
        (is_aside floor item) refl asides are.0 others h
      where
        own : Reply
        own = record { who = who; item = item; answer = out.reply }

        wider : (more : List FlooredHappening) → InEither rest more reply → InEither (first ∷ rest) more reply
        wider more (inl g) = inl (replied_next notices reply.who reply.item reply.answer first rest g)
        wider more (inr a) = inr a

        wider_both : (a : FlooredHappening) (more : List FlooredHappening) → InEither rest more reply
            → InEither (first ∷ rest) (a ∷ more) reply
        wider_both a more (inl g) = inl (replied_next notices reply.who reply.item reply.answer first rest g)
        wider_both a more (inr b) = inr (replied_next notices reply.who reply.item reply.answer a more b)

        by : ((more : List FlooredHappening) → AreAnswered notices who (map (is_aside floor) items) items outs more
            → IsIn (replies_of who items outs) reply → InEither rest more reply) → (t : Bool) → is_aside floor item ≡ t
            → (asides : List FlooredHappening) → IsGrouped t who (grouped floor item) out.reply first
            → AreAnswered notices who (t ∷ map (is_aside floor) items) (item ∷ items) (out ∷ outs) asides
            → (own ≡ reply) ⊎ IsIn (replies_of who items outs) reply → InEither (first ∷ rest) asides reply
        by next false e asides is others (inl same) =
            inl (subst (IsGiven (first ∷ rest)) same (kept_first floor item out.reply first rest e is))
        by next false e asides is others (inr h) = wider asides (next asides others h)
        by next true e [] is others h = absurd others
        by next true e (a ∷ more) is others (inl same) =
            inr (subst (IsGiven (a ∷ more)) same (replied_first notices who item out.reply a more others.0))
        by next true e (a ∷ more) is others (inr h) = wider_both a more (next more others.1 h)

  -- each reply stands in what happened
  pub taken_replied : (old : MemberParts) (items : List Item) (outs : List Output) (happened : List FlooredHappening)
      → AreAllAnswered notices who old items outs happened → (reply : Reply) → IsIn (replies_of who items outs) reply
      → IsGiven happened reply
  taken_replied old items outs happened are reply h = by (is_some old.floored.node.role) are
    where
      by : (t : Bool)
          → MatchBool t (AreAnsweredApart notices who old.floored.floor items outs happened)
          (AreAnswered notices who (map (λ (item : Item). true) items) items outs happened) → IsGiven happened reply
      by false are = each_replied items outs happened are reply h
      by true are =
          subst (λ (all : List FlooredHappening). IsGiven all reply) (sym are.happened_is)
          (elim (apart_replied old.floored.floor items outs are.group are.asides are.grouped_are are.asides_are reply h) [
            | inl g ↦
                subst (λ (told : List Notice). IsReplied told (are.group ++ are.asides) reply.who reply.item reply.answer)
                (append-nil notices)
                (replied_later notices [] are.group are.asides reply.who reply.item reply.answer g)
            | inr a ↦ replied_after notices are.group are.asides reply.who reply.item reply.answer a
          ])

-- ---- a run

module _ (config : Config) (all : AllProcesses) (replies : List Reply) (f : StandFor config all replies) (who : NodeId) (new : MemberParts)
    (sends : List Outgoing) (told : List Notice) (happened : List FlooredHappening) where
  -- once one has gone on, with replies of its own
  stand_on : (more : List Reply) → GoesOn config f.world f.reached who new sends told happened
      → ((reply : Reply) → IsIn more reply → IsReplied f.world.notices happened reply.who reply.item reply.answer)
      → StandFor config (after_step all who new (flat_map (datagrams_of config who) sends) told) (replies ++ more)
  stand_on more g fresh = record {
    world = g.after;
    reached = g.reached;
    stand = λ other among.
        entry_by all.members who new (StandsIn config g.after other) other
        (λ same. subst (λ (n : NodeId). StandsIn config g.after n new) (sym same) g.stands)
        (λ apart. other_stands config f.world g.after who other (all.members other) g.others apart (f.stand other among));
    net_is = g.net_is ∙ ap (λ (net : List Datagram). net ++ flat_map (datagrams_of config who) sends) f.net_is;
    notices_are = g.notices_are ∙ ap (λ (notices : List Notice). notices ++ told) f.notices_are;
    replied = λ reply h.
        subst (λ (notices : List Notice).
        IsReplied notices (all_taken config g.after g.reached) reply.who reply.item reply.answer) (sym g.notices_are)
        (subst (λ (all : List FlooredHappening). IsReplied (f.world.notices ++ told) all reply.who reply.item reply.answer)
        (sym g.happened_is)
        (elim (IsIn-append replies more reply h) [
          | inl old ↦
              replied_later f.world.notices told (all_taken config f.world f.reached) happened reply.who reply.item reply.answer
              (f.replied reply old)
          | inr now ↦
              subst (λ (h : List FlooredHappening). IsReplied (f.world.notices ++ told) h reply.who reply.item reply.answer)
              (append-nil (all_taken config f.world f.reached ++ happened))
              (replied_later f.world.notices told (all_taken config f.world f.reached ++ happened) [] reply.who reply.item reply.answer
              (replied_after f.world.notices (all_taken config f.world f.reached) happened reply.who reply.item reply.answer
              (fresh reply now)))
        ]));
  }

  -- and with none
  stand_still : GoesOn config f.world f.reached who new sends told happened
      → StandFor config (after_step all who new (flat_map (datagrams_of config who) sends) told) replies
  stand_still g =
      subst (StandFor config (after_step all who new (flat_map (datagrams_of config who) sends) told)) (append-nil replies)
      (stand_on [] g (λ reply h. absurd h))

can_be : (config : Config) (world : FlooredWorld) (all : AllProcesses) (who : NodeId) (items : List Item)
    → world.machine.net ≡ all.net → world.notices ≡ all.notices → AllByRecursion (CanBeGiven all.net all.notices who) items
    → AllByRecursion (CanBeGiven world.machine.net world.notices who) items
can_be config world all who items net notices can =
    subst (λ (n : List Datagram). AllByRecursion (CanBeGiven n world.notices who) items) (sym net)
    (subst (λ (t : List Notice). AllByRecursion (CanBeGiven all.net t who) items) (sym notices) can)

can_one : (config : Config) (world : FlooredWorld) (all : AllProcesses) (who : NodeId) (item : Item) → world.machine.net ≡ all.net
    → world.notices ≡ all.notices → CanBeGiven all.net all.notices who item → CanBeGiven world.machine.net world.notices who item
can_one config world all who item net notices can =
    subst (λ (n : List Datagram). CanBeGiven n world.notices who item) (sym net)
    (subst (λ (t : List Notice). CanBeGiven all.net t who item) (sym notices) can)

-- the one reply of what was handed alone
alone_replied : (notices : List Notice) (who : NodeId) (item : Item) (answer : Answer) (happened : FlooredHappening)
    → IsAnswered notices who item answer happened → (reply : Reply)
    → IsIn (record { who = who; item = item; answer = answer } ∷ []) reply
    → IsReplied notices (happened ∷ []) reply.who reply.item reply.answer
alone_replied notices who item answer happened is reply (inl same) =
    subst (λ (r : Reply). IsReplied notices (happened ∷ []) r.who r.item r.answer) same
    (replied_first notices who item answer happened [] is)
alone_replied notices who item answer happened is reply (inr none) = absurd none

-- one whose append failed
failed_on : (config : Config) (world : FlooredWorld) (reach : IsFlooredReached config world) (who : NodeId) (items : List Item)
    (old new : MemberParts) (before outs : List Output) (error : RecordError) → StandsIn config world who old
    → IsUnstored config world reach who items old new before outs error
    → (happened : List FlooredHappening) × GoesOn config world reach who new [] [] happened
failed_on config world reach who items old new before outs error s (inl stopped) = (stopped.happened, stopped.goes_on)
failed_on config world reach who items old new before outs error s (inr none) =
    ([], stays_on config who world reach new (subst (StandsIn config world who) (sym none.0) s))

-- the processes of a run stand for a world
pub stand_for : (config : Config) (all : AllProcesses) (run : IsRun config all) → StandFor config all (all_replies config all run)
stand_for config _ (Begun members begun) = record {
  world = floored_opening config;
  reached = Opening;
  stand = λ who among. begun_stands config who (members who) among (begun who among);
  net_is = refl;
  notices_are = refl;
  replied = λ reply h. absurd h;
}
stand_for config _ (TookAll all who items new before after run among can takes) =
    let f = stand_for config all run in
    let t = taken config f.world f.reached who items (all.members who) new before after (f.stand who among)
    (can_be config f.world all who items f.net_is f.notices_are can) takes in
    stand_on config all (all_replies config all run) f who new (sent_of after) [] t.happened (replies_of who items after) t.goes_on
    (taken_replied f.world.notices who (all.members who) items after t.happened t.answered)
stand_for config _ (Failed all who items new before after error run among can takes) =
    let f = stand_for config all run in
    let t = failed_on config f.world f.reached who items (all.members who) new before after error (f.stand who among)
    (unstored config f.world f.reached who items (all.members who) new before after (f.stand who among)
    (can_be config f.world all who items f.net_is f.notices_are can) error takes) in
    stand_still config all (all_replies config all run) f who new [] [] t.0 t.1
stand_for config _ (TookOne all who item new out run among can takes) =
    let f = stand_for config all run in
    let t = taken_alone config f.world f.reached who item (all.members who) new out (f.stand who among)
    (can_one config f.world all who item f.net_is f.notices_are can) takes in
    stand_on config all (all_replies config all run) f who new out.sends [] (t.happened ∷ [])
    (record { who = who; item = item; answer = out.reply } ∷ []) t.goes_on
    (alone_replied f.world.notices who item out.reply t.happened t.answered)
stand_for config _ (Raised all rm place new result run among raises) =
    let f = stand_for config all run in
    stand_still config all (all_replies config all run) f (R rm) new [] (told_by config rm new result) _
    (raised config f.world f.reached rm place (all.members (R rm)) new (f.stand (R rm) among) result raises)
stand_for config _ (Restarted all who new result run among restarts) =
    let f = stand_for config all run in
    stand_still config all (all_replies config all run) f who new [] [] _
    (restarted config f.world f.reached who (all.members who) new (f.stand who among) result restarts)
stand_for config _ (Compacted all who new result run among compacts) =
    let f = stand_for config all run in
    stand_still config all (all_replies config all run) f who new [] [] _
    (compacted config f.world f.reached who (all.members who) new (f.stand who among) result compacts)
stand_for config _ (Viewed all who tx new result run among answers) =
    let f = stand_for config all run in
    let s = f.stand who among in
    stand_still config all (all_replies config all run) f who new [] [] []
    (asked_on config f.world f.reached who (all.members who) new s _ result (answers.machine config s.state s.is) answers.told_is)
stand_for config _ (Tabled all who new result run among answers) =
    let f = stand_for config all run in
    let s = f.stand who among in
    stand_still config all (all_replies config all run) f who new [] [] []
    (asked_on config f.world f.reached who (all.members who) new s _ result (answers.machine config s.state s.is) answers.told_is)
stand_for config _ (Armed all who n new run among arms) =
    let f = stand_for config all run in
    stand_still config all (all_replies config all run) f who new [] [] _
    (armed_on config f.world f.reached who (all.members who) new (f.stand who among) n arms)
stand_for config _ (Reopened all who new run among reopens) =
    let f = stand_for config all run in
    stand_still config all (all_replies config all run) f who new [] [] _
    (reopened_on config f.world f.reached who (all.members who) new (f.stand who among) reopens)
