-- Events that a text may name: what comes of them may be told where fewer datagrams were sent, and notices told, than numbers have 32
-- bits.
use Rattle.std.proofs.Common.{◌≡◌, ℕ, suc, ◌<◌, ◌≤◌, ◌^◌, List, [], ◌∷◌, length, length-append, map, Option, Some, None, refl, ap, arith}
use Rattle.std.specs.List.{All, AllByRecursion, range_with_len}
use Rattle.std.specs.Option.{option_map_or}
use Rattle.std.proofs.lemmas.List.Elements.{All-from_recursion, recursion_from_All}
use Rattle.safety.specs.Vocabulary.{R}
use Rattle.protocol.specs.Effects.{Config}
use Rattle.protocol.specs.Nodes.{NodeState, first_rows}
use Rattle.protocol.specs.Tables.{table}
use Rattle.protocol.specs.Worlds.{World, Occurrence, node_at, table_at}
use Rattle.protocol.proofs.Lists.{all_mapped}
use Rattle.safety.specs.Forms.{IsSized}
use Rattle.safety.proofs.WellFormed.Runs.{IsWellWorld, well_ever}
use Rattle.floors.specs.Runs.{floored_opening}
use Rattle.floors.specs.Worlds.{FlooredWorld, Notice, floored_trace, floored_world_after, machine_part, step_with_floors, told_from}
use Rattle.cluster.proofs.Noticed.{event_adds}
use Rattle.net_script.specs.declared.values.Entry.{Entry}
use Rattle.net_script.specs.Items.{IsRow}
use Rattle.net_script.specs.TraceLines.{AreFinalRows}
use Rattle.net_script.specs.TraceReading.{IsEntry}
use Rattle.run_traces.specs.Machine.{AreNameable, CanBeTold, IsLimited}
use Rattle.run_traces.proofs.Floors.{IsGood, good_on, good_opening}
use Rattle.run_traces.proofs.Formed.{IsFormed, event_formed}
use Rattle.run_traces.proofs.Notices.{event_told, notices_told}
use Rattle.run_traces.proofs.Rows.{KeepLimits, table_is_final}
use Rattle.run_traces.proofs.Steps.{step_is}

-- ---- lines

-- each event of some that happened is well formed
abbrev pub AreFormed : List Occurrence → Type 0
AreFormed happened = AllByRecursion (λ (occurrence : Occurrence). IsFormed occurrence.event) happened

-- events that a text may name are
named_formed : (happened : List Occurrence) → AreNameable happened → AreFormed happened
named_formed [] are = tt
named_formed (o ∷ rest) are = (event_formed o.event are.0, named_formed rest are.1)

module _ (config : Config) (sized : IsSized config) (limits : IsLimited config) (first : (rm : ℕ) → KeepLimits (first_rows config rm)) where
  pub good_after : (world : FlooredWorld) → IsGood config world → (happened : List Occurrence) → AreFormed happened
      → IsGood config (floored_world_after config world happened)
  good_after world good [] formed = good
  good_after world good (o ∷ rest) formed =
      good_after (step_with_floors config world o.event o.fault).world (good_on config world good o.event o.fault formed.0) rest formed.1

  -- no datagram is ever gone
  pub net_grows : (world : FlooredWorld) → IsGood config world → (happened : List Occurrence) → AreFormed happened
      → length world.machine.net ≤ length (floored_world_after config world happened).machine.net
  net_grows world good [] formed = omega arith
  net_grows world good (o ∷ rest) formed =
      let after = (step_with_floors config world o.event o.fault).world in
      let one = (event_told config sized limits first world good o.event o.fault formed.0).counted in
      let more = net_grows after (good_on config world good o.event o.fault formed.0) rest formed.1 in
      omega (arith, one, more)

  -- and no notice
  notices_grow : (world : FlooredWorld) (happened : List Occurrence)
      → length world.notices ≤ length (floored_world_after config world happened).notices
  notices_grow world [] = omega arith
  notices_grow world (o ∷ rest) =
      let after = step_with_floors config world o.event o.fault in
      let one = ap (λ (notices : List Notice). length notices) (event_adds config world o.event o.fault).noticed in
      let both = length-append world.notices after.noticed in
      let more = notices_grow after.world rest in
      omega (arith, one, both, more)

  entries_are : (world : FlooredWorld) → IsGood config world → (happened : List Occurrence) → AreFormed happened → AreNameable happened
      → length (floored_world_after config world happened).machine.net < 2 ^ 32
      → length (floored_world_after config world happened).notices < 2 ^ 32
      → AllByRecursion IsEntry (map Entry.Step (floored_trace config world happened))
  entries_are world good [] formed named few few_notices = tt
  entries_are world good (o ∷ rest) formed named few few_notices =
      let result = step_with_floors config world o.event o.fault in
      let there = good_on config world good o.event o.fault formed.0 in
      let grows = net_grows result.world there rest formed.1 in
      let more = notices_grow result.world rest in
      let one = ap (λ (notices : List Notice). length notices) (event_adds config world o.event o.fault).noticed in
      let both = length-append world.notices result.noticed in (
        step_is world.machine o.event (machine_part result) (told_from (suc (length world.notices)) result.noticed) named.0
            (event_told config sized limits first world good o.event o.fault formed.0) (omega (arith, grows, few))
            (notices_told config limits world good o.event o.fault formed.0 (omega (arith, one, both, more, few_notices))),
        entries_are result.world there rest formed.1 named.1 few few_notices,
      )

-- the last rows of a resource manager
final_by : (config : Config) (world : World) → IsWellWorld config world → (rm : ℕ) → KeepLimits (first_rows config rm)
    → (o : Option NodeState) → node_at config world (R rm) ≡ o
    → AreFinalRows (option_map_or (λ (node : NodeState). table (first_rows config rm) node.facts) o [])
final_by config world well rm first None at = record { each = All-from_recursion IsRow [] tt; ascending = refl }
final_by config world well rm first (Some node) at =
    table_is_final node.facts (well.nodes (R rm) node at).stored (first_rows config rm) first

-- ---- what a trace may tell of

module _ (config : Config) (happened : List Occurrence) (can : CanBeTold config happened) where
  sized : IsSized config
  sized = record { acceptors = can.limits.acceptors }

  first : (rm : ℕ) → KeepLimits (first_rows config rm)
  first rm = recursion_from_All IsRow (first_rows config rm) (can.rows rm)

  formed : AreFormed happened
  formed = named_formed happened can.events

  pub steps_told : All IsEntry (map Entry.Step (floored_trace config (floored_opening config) happened))
  steps_told =
      All-from_recursion IsEntry (map Entry.Step (floored_trace config (floored_opening config) happened))
      (entries_are config sized can.limits first (floored_opening config) (good_opening config) happened formed can.events can.few
      can.few_notices)

  pub finals_told : All AreFinalRows (map (table_at config (floored_world_after config (floored_opening config) happened).machine)
      (range_with_len 0 config.managers))
  finals_told =
      let last = floored_world_after config (floored_opening config) happened in
      let good = good_after config sized can.limits first (floored_opening config) (good_opening config) happened formed in
      let well = well_ever config sized last.machine good.reached in
      All-from_recursion AreFinalRows (map (table_at config last.machine) (range_with_len 0 config.managers))
      (all_mapped AreFinalRows (table_at config last.machine) (range_with_len 0 config.managers)
      (λ rm h. final_by config last.machine well rm (first rm) (node_at config last.machine (R rm)) refl))
