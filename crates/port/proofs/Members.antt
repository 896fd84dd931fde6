-- What a member stands for, and that it stays one of its cluster.
-- Needed by 12 functions of this crate; Raising.
use Rattle.std.proofs.Common.{◌≡◌, ◌∙◌, ◌⊎◌, inl, inr, Bool, true, false, List, length, Option, Some, None, refl, sym, ap, subst}
use Rattle.std.specs.Prelude.{is_none, replicate, MatchBool, Result, Ok, Err}
use Rattle.std.specs.Option.{option_map_or}
use Rattle.std.proofs.lemmas.List.{length-replicate}
use Rattle.xid.specs.Places.{Place}
use Rattle.xid.specs.Transactions.{TxParts}
use Rattle.xid.specs.declared.refusals.Refusal.{Refusal}
use Rattle.xid.specs.declared.refusals.Refusal.TheVariants as refusals
use Rattle.wire.specs.declared.notice.Notice.{Notice}
use Rattle.stable_record.specs.declared.record.RecordError.{RecordError}
use Rattle.stable_record.specs.Held.{Held}
use Rattle.protocol.specs.declared.answers.Answer.{Answer}
use Rattle.protocol.specs.declared.answers.Answer.TheVariants.{Refused}
use Rattle.protocol.specs.declared.nodes.NodeId.{NodeId}
use Rattle.protocol.specs.declared.nodes.NodeId.TheVariants.{A, L, R}
use Rattle.protocol.specs.declared.rows.Row.{Row}
use Rattle.protocol.specs.declared.states.View.{View}
use Rattle.protocol.specs.Effects.{Config}
use Rattle.protocol.specs.Nodes.{NodeState, Input}
use Rattle.resource_manager.specs.Left.{AreAlike}
use Rattle.node_core.specs.declared.config.Sizes.{Sizes}
use Rattle.node_core.specs.declared.output.Input.{Input as Handed}
use Rattle.node_core.specs.declared.output.Output.{Output}
use Rattle.node_core.specs.Compacting.{CompactsAs}
use Rattle.node_core.specs.Configs.{is_among}
use Rattle.node_core.specs.Groups.{Place as At}
use Rattle.node_core.specs.Nodes.{AreSizes, NodeStands, input_of}
use Rattle.node_core.specs.Opening.{RestartsAs, cluster_of, restart_answer}
use Rattle.node_core.specs.Storing.{output_of}
use Rattle.floors.specs.Worlds.{least_told}
use Rattle.floored.specs.Nodes.{FlooredCompacts, FlooredCompactsDown, FlooredCompactsUp, FlooredGroups, FlooredGroupsAs, FlooredParts}
use Rattle.floored.specs.Nodes.{FlooredRaises, FlooredRestarts, FlooredStands, FlooredStepsAs, FlooredTables, FlooredViews}
use Rattle.floored.specs.Nodes.{IsFlooredOpened, IsFlooredUnopened}
use Rattle.floored.specs.Told.{HasHeard, told_at}
use Rattle.floored.proofs.Seen.{is_down, is_up}
use Rattle.floored.proofs.Taking.{stands_itself}
use Rattle.port.specs.Members.{Acts, CompactsMember, Hears, HearsAs, HearsUp, IsMember, Item, MemberParts, RaisesMember, RestartsMember}
use Rattle.port.specs.Members.{RisesToLeast, Takes, item_of, member_of, notice_in}

-- ---- sizes

alike_sizes : (who : NodeId) (from config : Config) → AreAlike who from config → (sizes : Sizes) → AreSizes from sizes
    → AreSizes config sizes
alike_sizes (A a) from config alike sizes are = subst (λ (c : Config). AreSizes c sizes) alike are
alike_sizes (L l) from config alike sizes are = subst (λ (c : Config). AreSizes c sizes) alike are
alike_sizes (R rm) from config alike sizes are = record {
  acceptors_are = are.acceptors_are ∙ ap (λ (c : Config). c.acceptors) alike;
  leaders_are = are.leaders_are ∙ ap (λ (c : Config). c.leaders) alike;
  managers_are = are.managers_are ∙ ap (λ (c : Config). c.managers) alike;
  bundled_is = are.bundled_is ∙ ap (λ (c : Config). c.bundled) alike;
}

-- a node with a floor is one of a cluster of its sizes
pub sizes_of : (config : Config) (floored : FlooredParts) (m : NodeState) → FlooredStands config floored m
    → AreSizes config floored.node.sizes
sizes_of config floored m s = alike_sizes floored.node.who s.from config s.above.alike floored.node.sizes s.is.sizes_are

module _ (sizes : Sizes) (floored : FlooredParts) (told : List (Option Place)) (is : IsMember sizes floored told) (config : Config)
    (m : NodeState) (s : FlooredStands config floored m) where
  -- a member's sizes are those of each cluster for whose node it stands
  pub member_sizes : AreSizes config sizes
  member_sizes = subst (AreSizes config) is.sizes_are (sizes_of config floored m s)

  -- so many resource managers tell it
  pub member_told : config.managers ≡ length told
  member_told = sym (is.told_are ∙ member_sizes.managers_are)

-- ---- opened

-- sizes of one cluster are the same
one_sizes : (config : Config) (a b : Sizes) → AreSizes config a → AreSizes config b → a ≡ b
one_sizes config a b x y = λ i. record {
  acceptors = (x.acceptors_are ∙ sym y.acceptors_are) i;
  leaders = (x.leaders_are ∙ sym y.leaders_are) i;
  managers = (x.managers_are ∙ sym y.managers_are) i;
  bundled = (x.bundled_is ∙ sym y.bundled_is) i;
}

-- a record's rows change no sizes
cluster_sizes : (config : Config) (who : NodeId) (rows : Option (List Row)) (sizes : Sizes) → AreSizes (cluster_of config who rows) sizes
    → AreSizes config sizes
cluster_sizes config (A a) None sizes are = are
cluster_sizes config (A a) (Some rows) sizes are = are
cluster_sizes config (L l) None sizes are = are
cluster_sizes config (L l) (Some rows) sizes are = are
cluster_sizes config (R rm) None sizes are = are
cluster_sizes config (R rm) (Some rows) sizes are = record {
  acceptors_are = are.acceptors_are;
  leaders_are = are.leaders_are;
  managers_are = are.managers_are;
  bundled_is = are.bundled_is;
}

-- a node that was opened, with nothing told, is a member
pub opened_member : (config : Config) (who : NodeId) (held : Held) (sizes : Sizes) (floored : FlooredParts) (told : List (Option Place))
    → AreSizes config sizes → IsFlooredOpened config who held floored → told ≡ replicate sizes.managers None
    → IsMember sizes floored told
opened_member config who held sizes floored told are o empty = record {
  sizes_are =
      one_sizes config floored.node.sizes sizes
      (cluster_sizes config who o.opened.kept.rows floored.node.sizes o.opened.stands.sizes_are) are;
  told_are = ap length empty ∙ length-replicate sizes.managers None;
  config = _;
  state = _;
  is = record {
    from = _;
    few = _;
    is = o.opened.stands;
    above = stands_itself _ floored.node.who floored.floor _ o.opened.stands.stands.played refl;
  };
}

-- ---- it stays one

module _ (sizes : Sizes) (old new : FlooredParts) (told now : List (Option Place)) (is : IsMember sizes old told) where
  -- a member stays one where it keeps its sizes and how many floors it can be told
  pub member_still : new.node.sizes ≡ old.node.sizes → length now ≡ length told → (config : Config) (m : NodeState)
      → FlooredStands config new m → IsMember sizes new now
  member_still same long config m stands = record {
    sizes_are = same ∙ is.sizes_are;
    told_are = long ∙ is.told_are;
    config = config;
    state = m;
    is = stands;
  }

-- what a compacted node stands for
compacted_by : (config : Config) (m : NodeState) (old new : FlooredParts) (result : Result (Unit {0}) Refusal)
    → FlooredCompactsUp config m old new result ⊎ FlooredCompactsDown config m old new result
    → (now : NodeState) × FlooredStands config new now
compacted_by config m old new result (inl up) = (_, up.stands)
compacted_by config m old new result (inr down) = (m, down.stands)

-- after a compaction a node stands for some node of the machine
pub compacted_stands : (config : Config) (m : NodeState) (old new : FlooredParts) (result : Result (Unit {0}) Refusal)
    → FlooredCompacts config m old new result → (now : NodeState) × FlooredStands config new now
compacted_stands config m old new result c = compacted_by config m old new result c.comes

-- what a node stands for after a group
grouped_by : (config : Config) (who : NodeId) (floor : Option Place) (from : At) (inputs : List Input) (new : FlooredParts)
    (outs : List Output) (result : Result (Unit {0}) RecordError) → FlooredGroups config who floor from inputs new outs result
    → (now : NodeState) × FlooredStands config new now
grouped_by config who floor from inputs new outs (Ok done) (to, runs, held, stands) = (to.state, stands)
grouped_by config who floor from inputs new outs (Err error) (stops, down, outs_are) = (stops.to.state, stops.stands)

-- so it does after a group
pub grouped_stands : (config : Config) (m : NodeState) (inputs : List Input) (old new : FlooredParts) (outs : List Output)
    (result : Result (Unit {0}) RecordError) → FlooredGroupsAs config m inputs old new outs result
    → (now : NodeState) × FlooredStands config new now
grouped_stands config m inputs old new outs result g = grouped_by config old.node.who old.floor _ inputs new outs result g.comes

-- what it stands for once its floor was to rise to the least that was told; and it is the same node
pub record RisesStill (config : Config) (old new : FlooredParts) : Type 0 where
  pub now : NodeState
  pub stands : FlooredStands config new now
  pub who_is : new.node.who ≡ old.node.who
  pub sizes_are : new.node.sizes ≡ old.node.sizes

-- and where its floor was to rise to the least that was told
pub least_stands : (config : Config) (m : NodeState) (least : Option Place) (old new : FlooredParts) (result : Result (Unit {0}) Refusal)
    → FlooredStands config old m → RisesToLeast config m least old new result → RisesStill config old new
least_stands config m None old new result s rises = record {
  now = m;
  stands = subst (λ (f : FlooredParts). FlooredStands config f m) (sym rises.0) s;
  who_is = ap (λ (f : FlooredParts). f.node.who) rises.0;
  sizes_are = ap (λ (f : FlooredParts). f.node.sizes) rises.0;
}
least_stands config m (Some place) old new result s rises =
    record { now = _; stands = rises.stands; who_is = rises.who_is; sizes_are = rises.sizes_are }

-- a member isn't opened where there is no memory for what it is told
pub unopened_early : (config : Config) (who : NodeId) (held : Held) → is_among config who ≡ true
    → IsFlooredUnopened config who held held refusals.NoMemory
unopened_early config who held among = record {
  unopened = (
    among,
    record { armed = refl; faults = refl; nature = refl; holds = λ config who kept tail holds. (tail, holds) },
    inl refl,
  );
  begins = inl refl;
}

-- ---- as its callers see it

module _ (floored : FlooredParts) (told : List (Option Place)) (now : MemberParts) (is : member_of floored told ≡ now) where
  -- what a restart of the node beneath comes to at a member
  pub restarted_seen : (new : FlooredParts) (left : List (Option Place)) (result : Result (Unit {0}) Refusal)
      → ((config : Config) (m : NodeState) → FlooredStands config floored m → FlooredRestarts config m floored new result)
      → ((config : Config) (m : NodeState) → NodeStands config floored.node m → RestartsAs config m floored.node new.node result)
      → left ≡ replicate (length told) None → RestartsMember now (member_of new left) result
  restarted_seen new left result machine node forgot =
      subst (λ (x : MemberParts). RestartsMember x (member_of new left) result) is
      (record { machine = machine; node = node; told_is = forgot })

  -- a compaction, in the same way
  pub compacted_seen : (new : FlooredParts) (result : Result (Unit {0}) Refusal)
      → ((config : Config) (m : NodeState) → FlooredStands config floored m → FlooredCompacts config m floored new result)
      → ((config : Config) (m : NodeState) → NodeStands config floored.node m → CompactsAs config m floored.node new.node result)
      → CompactsMember now (member_of new told) result
  compacted_seen new result machine node =
      subst (λ (x : MemberParts). CompactsMember x (member_of new told) result) is
      (record { machine = machine; node = node; told_is = refl })

  -- a floor that was to rise
  pub raised_seen : (place : Place) (new : FlooredParts) (result : Result (Unit {0}) Refusal)
      → ((config : Config) (m : NodeState) → FlooredStands config floored m → FlooredRaises config m place floored new result)
      → RaisesMember place now (member_of new told) result
  raised_seen place new result machine =
      subst (λ (x : MemberParts). RaisesMember place x (member_of new told) result) is (record { machine = machine; told_is = refl })

  -- a table that was asked for
  pub tabled_seen : (new : FlooredParts) (result : Result (List Row) Refusal)
      → ((config : Config) (m : NodeState) → FlooredStands config floored m → FlooredTables config m floored new result)
      → (config : Config) (m : NodeState) → FlooredStands config now.floored m → FlooredTables config m now.floored new result
  tabled_seen new result says =
      subst (λ (x : MemberParts). (config : Config) (m : NodeState) → FlooredStands config x.floored m
      → FlooredTables config m x.floored new result) is says

  -- a view that was asked for
  pub viewed_seen : (tx : TxParts) (new : FlooredParts) (result : Result View Refusal)
      → ((config : Config) (m : NodeState) → FlooredStands config floored m → FlooredViews config m floored new tx result)
      → (config : Config) (m : NodeState) → FlooredStands config now.floored m → FlooredViews config m now.floored new tx result
  viewed_seen tx new result says =
      subst (λ (x : MemberParts). (config : Config) (m : NodeState) → FlooredStands config x.floored m
      → FlooredViews config m x.floored new tx result) is says

  -- an input that is no notice was taken
  pub acted_seen : (input : Handed) (new : FlooredParts) (out : Output) → None ≡ notice_in now.floored.node.who input
      → ((config : Config) (m : NodeState) → FlooredStands config floored m
      → FlooredStepsAs config m (input_of input) floored new out)
      → Takes (item_of now.floored.node.who input) now (member_of new told) out
  acted_seen input new out none steps =
      subst (λ (item : Item). Takes item now (member_of new told) out)
      (ap (λ (o : Option Notice). option_map_or Hears o (Acts (input_of input))) none)
      (subst (λ (x : MemberParts). Takes (Acts (input_of input)) x (member_of new told) out) is
      (λ config m s. record { steps = steps config m s; told_is = refl }))

  -- a node that is up heard a notice
  pub heard_seen : (sizes : Sizes) → IsMember sizes floored told → (notice : Notice) (left : List (Option Place)) (new : FlooredParts)
      (least : Option Place) (result : Result (Unit {0}) Refusal) (answer : Answer) → is_none now.floored.node.role ≡ false
      → HasHeard notice told left → ((config : Config) → config.managers ≡ length left → least ≡ least_told config (told_at left))
      → ((config : Config) (m : NodeState) → FlooredStands config floored m → RisesToLeast config m least floored new result)
      → answer ≡ restart_answer result → (config : Config) (m : NodeState) → FlooredStands config now.floored m
      → HearsAs config m notice now (member_of new left) (output_of answer None)
  heard_seen sizes member notice left new least result answer up heard least_is rises answered config m =
      subst (λ (x : MemberParts). is_none x.floored.node.role ≡ false → FlooredStands config x.floored m
      → HearsAs config m notice x (member_of new left) (output_of answer None)) is
      (λ on s. subst (λ (b : Bool). MatchBool b (HearsUp config m notice (member_of floored told) (member_of new left)
      (output_of answer None)) ((member_of new left ≡ member_of floored told) × (output_of answer None ≡ output_of (Refused refusals.Down)
      None))) (sym (is_up floored.node.role on))
      (record {
        heard = heard;
        result = result;
        rises = subst (λ (o : Option Place). RisesToLeast config m o floored new result)
            (least_is config (member_told sizes floored told member config m s ∙ sym heard.len)) (rises config m s);
        out_is = ap (λ (a : Answer). output_of a None) answered;
      })) up

-- one that is down heard nothing
pub unheard : (now : MemberParts) (notice : Notice) → is_none now.floored.node.role ≡ true → (config : Config) (m : NodeState)
    → HearsAs config m notice now now (output_of (Refused refusals.Down) None)
unheard now notice down config m =
    subst (λ (b : Bool). MatchBool b (HearsUp config m notice now now (output_of (Refused refusals.Down) None))
    ((now ≡ now) × (output_of (Refused refusals.Down) None ≡ output_of (Refused refusals.Down) None)))
    (sym (is_down now.floored.node.role down)) (refl, refl)

-- what a notice is
pub heard_item : (who : NodeId) (input : Handed) (notice : Notice) (answer : Answer) (now new : MemberParts) (out : Output)
    → Some notice ≡ notice_in who input → out ≡ output_of answer None
    → ((config : Config) (m : NodeState) → FlooredStands config now.floored m → HearsAs config m notice now new (output_of answer None))
    → Takes (item_of who input) now new out
heard_item who input notice answer now new out some out_is hears =
    subst (λ (item : Item). Takes item now new out) (ap (λ (o : Option Notice). option_map_or Hears o (Acts (input_of input))) some)
    (subst (λ (o : Output). Takes (Hears notice) now new o) (sym out_is) hears)
