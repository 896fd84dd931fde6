-- What a stopped append comes to.
-- Needed by `carry_out`.
use Rattle.std.proofs.Common.{◌≡◌, ◌∙◌, List, Option, Some, None, inl, inr, sym, ap, subst}
use Rattle.std.specs.Prelude.{◌⊎◌, if◌then◌else◌, Err}
use Rattle.xid.specs.declared.refusals.Refusal.TheVariants.{RecordFault}
use Rattle.stable_record.specs.declared.fact.FactKind.{FactKind as Fact}
use Rattle.stable_record.specs.Facts.{IsFact}
use Rattle.stable_record.specs.Held.{Held}
use Rattle.protocol.specs.declared.answers.Answer.TheVariants.{Refused}
use Rattle.protocol.specs.declared.decisions.Decision.{Decision}
use Rattle.protocol.specs.declared.events.Change.{Change}
use Rattle.protocol.specs.declared.nodes.NodeId.{NodeId}
use Rattle.protocol.specs.Effects.{Config, Effect}
use Rattle.protocol.specs.Nodes.{Memory}
use Rattle.node_core.specs.declared.output.Output.{Output}
use Rattle.node_core.specs.declared.role.Role.{Role}
use Rattle.node_core.specs.declared.storing.Stopped.{Stopped}
use Rattle.node_core.specs.declared.storing.Stopped.TheVariants as stops
use Rattle.node_core.specs.Roles.{IsDecided, IsLeft}
use Rattle.node_core.specs.Storing.{HasStored, RanOut, WasStopped, output_of, stopped_output, change_made}

-- an append that stopped ran out of memory, or a fault befell it
pub was_stopped : (config : Config) (who : NodeId) (facts : List Fact) (memory : Memory) (e : Effect Memory) (role : Role)
    (decision : Decision) (fact : Fact) (old new : Held) (stopped : Stopped) (now : Option Change) (out : Output)
    → IsDecided config who facts memory role decision e → decision.fact ≡ Some fact → IsFact fact
    → HasStored fact old new (Err stopped) → now ≡ change_made who fact → out ≡ stopped_output stopped now
    → RanOut old new out ⊎ WasStopped config who facts e old new out
was_stopped config who facts memory e role decision fact old new stops.Memory now out is some valid stored now_is out_is =
    inl (record { same = stored; out_is = out_is })
was_stopped config who facts memory e role decision fact old new (stops.Fault whole) now out is some valid stored now_is out_is =
    let left = subst (IsLeft config who facts memory role e) some is.leaves in
    inr (record {
      fact = fact;
      fact_is = sym (ap (λ (d : Decision). d.fact) is.effect_is) ∙ some;
      valid = valid;
      fits = left.fits;
      whole = whole;
      torn = stored;
      out_is = out_is ∙ ap (λ (change : Option Change). output_of (Refused RecordFault) (if whole then change else None)) now_is;
    })
