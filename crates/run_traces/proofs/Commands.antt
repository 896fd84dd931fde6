-- What the commands of a script make happen: events that a text may name, where fewer datagrams were sent than numbers have 32 bits.
use Rattle.std.proofs.Common.{◌≡◌, ◌∙◌, ℕ, suc, ◌<◌, ◌≤◌, ◌^◌, List, [], ◌∷◌, ◌++◌, length, Option, Some, None, refl, sym, ap, subst, arith}
use Rattle.std.specs.List.{AllByRecursion}
use Rattle.std.specs.Option.{option_map}
use Rattle.std.proofs.lemmas.Bool.{cond_both}
use Rattle.safety.specs.Vocabulary.{Deliver}
use Rattle.protocol.specs.Effects.{Config}
use Rattle.protocol.specs.Nodes.{first_rows}
use Rattle.protocol.specs.Worlds.{Datagram, Occurrence}
use Rattle.floors.specs.Worlds.{FlooredWorld, floored_world_after, step_with_floors}
use Rattle.protocol.proofs.Lists.{all_joined}
use Rattle.safety.specs.Forms.{IsSized}
use Rattle.network.specs.Networks.{least_unmarked}
use Rattle.net_script.specs.declared.values.Command.{Command}
use Rattle.net_script.specs.declared.values.Command.TheVariants.{Do, Flow}
use Rattle.net_script.specs.Events.{IsEvent}
use Rattle.net_script.specs.Items.{IsCommand}
use Rattle.cluster_run.specs.Happenings.{AreNext, IsDoneBy, AreDoneBy}
use Rattle.run_traces.specs.Machine.{AreNameable, IsLimited}
use Rattle.run_traces.proofs.Events.{AreFormed, good_after, net_grows}
use Rattle.run_traces.proofs.Floors.{IsGood, good_on}
use Rattle.run_traces.proofs.Formed.{IsFormed, event_formed}
use Rattle.run_traces.proofs.Rows.{KeepLimits}

-- ---- events are well formed

next_formed : (config : Config) (world : FlooredWorld) (happened : List Occurrence) → AreNext config world happened → AreFormed happened
next_formed config world [] are = tt
next_formed config world (next ∷ rest) are = (
  subst IsFormed (sym are.0.2) tt,
  next_formed config (step_with_floors config world next.event next.fault).world rest are.1,
)

done_formed : (config : Config) (world : FlooredWorld) (command : Command) (happened : List Occurrence) → IsCommand command
    → IsDoneBy config world command happened → AreFormed happened
done_formed config world (Do event) happened is done = subst AreFormed (sym done.1) (event_formed event is, tt)
done_formed config world (Flow count) happened is done = next_formed config world happened done.next

all_formed : (config : Config) (world : FlooredWorld) (commands : List Command) (happened : List Occurrence)
    → AllByRecursion IsCommand commands → AreDoneBy config world commands happened → AreFormed happened
all_formed config world [] happened are done = subst AreFormed (sym done) tt
all_formed config world (command ∷ commands) happened are done =
    subst AreFormed (sym done.2)
    (all_joined (λ (occurrence : Occurrence). IsFormed occurrence.event) done.0 done.1
    (done_formed config world command done.0 are.0 done.3)
    (all_formed config (floored_world_after config world done.0) commands done.1 are.1 done.4))

-- ---- numbers

-- the least number that isn't marked is one of the datagrams'
number_by : (o : Option ℕ) (count n : ℕ) → ((k : ℕ) → o ≡ Some k → k ≤ count) → option_map suc o ≡ Some n → n ≤ suc count
number_by None count n within e = absurd (cc (e))
number_by (Some k) count n within e =
    let same : suc k ≡ n = cc (e) in
    let below = within k refl in
    omega (arith, same, below)

least_within : (net : List Datagram) (n : ℕ) → least_unmarked net ≡ Some n → n ≤ length net
least_within [] n = λ e. absurd (cc (e))
least_within (d ∷ net) n =
    cond_both d.marked (option_map suc (least_unmarked net)) (Some 1) (λ (o : Option ℕ). o ≡ Some n → n ≤ suc (length net))
    (λ marked e. number_by (least_unmarked net) (length net) n (least_within net) e)
    (λ first e. let same : 1 ≡ n = cc (e) in omega (arith, same))

module _ (config : Config) (sized : IsSized config) (limits : IsLimited config) (first : (rm : ℕ) → KeepLimits (first_rows config rm)) where
  next_named : (world : FlooredWorld) → IsGood config world → (happened : List Occurrence) → AreNext config world happened
      → length (floored_world_after config world happened).machine.net < 2 ^ 32 → AreNameable happened
  next_named world good [] are few = tt
  next_named world good (next ∷ rest) are few =
      let formed = next_formed config world (next ∷ rest) are in
      let within = least_within world.machine.net are.0.0 are.0.1 in
      let grows = net_grows config sized limits first world good (next ∷ rest) formed in
      let number : IsEvent (Deliver are.0.0) = omega (arith, within, grows, few) in (
        subst IsEvent (sym are.0.2) number,
        next_named (step_with_floors config world next.event next.fault).world
            (good_on config world good next.event next.fault formed.0) rest are.1 few,
      )

  done_named : (world : FlooredWorld) → IsGood config world → (command : Command) (happened : List Occurrence) → IsCommand command
      → IsDoneBy config world command happened → length (floored_world_after config world happened).machine.net < 2 ^ 32
      → AreNameable happened
  done_named world good (Do event) happened is done few = subst AreNameable (sym done.1) (is, tt)
  done_named world good (Flow count) happened is done few = next_named world good happened done.next few

  after_both : (world : FlooredWorld) (before more : List Occurrence)
      → floored_world_after config world (before ++ more) ≡ floored_world_after config (floored_world_after config world before) more
  after_both world [] more = refl
  after_both world (o ∷ before) more = after_both (step_with_floors config world o.event o.fault).world before more

  pub all_named : (world : FlooredWorld) → IsGood config world → (commands : List Command) (happened : List Occurrence)
      → AllByRecursion IsCommand commands → AreDoneBy config world commands happened
      → length (floored_world_after config world happened).machine.net < 2 ^ 32 → AreNameable happened
  all_named world good [] happened are done few = subst AreNameable (sym done) tt
  all_named world good (command ∷ commands) happened are done few =
      let middle = floored_world_after config world done.0 in
      let formed = done_formed config world command done.0 are.0 done.3 in
      let there = good_after config sized limits first world good done.0 formed in
      let rest = all_formed config middle commands done.1 are.1 done.4 in
      let same : length (floored_world_after config world happened).machine.net
      ≡ length (floored_world_after config middle done.1).machine.net =
      ap (λ (os : List Occurrence). length (floored_world_after config world os).machine.net) done.2
      ∙ ap (λ (w : FlooredWorld). length w.machine.net) (after_both world done.0 done.1) in
      let grows = net_grows config sized limits first middle there done.1 rest in
      subst AreNameable (sym done.2)
      (all_joined (λ (occurrence : Occurrence). IsEvent occurrence.event) done.0 done.1
      (done_named world good command done.0 are.0 done.3 (omega (arith, same, grows, few)))
      (all_named middle there commands done.1 are.1 done.4 (omega (arith, same, few))))
