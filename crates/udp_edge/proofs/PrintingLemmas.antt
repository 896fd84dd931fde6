-- What is left of a command line that is rejected, and of a subcommand whose text isn't printed whole.
use Rattle.std.proofs.Common.{arith, refl, inl, inr, ◌≡◌, ℕ, List, Option, None, Result, Ok, Err}
use Rattle.std.specs.Prelude.{IfErr}
use Rattle.std.proofs.KnownBytes.{Keeps-refl}
use Rattle.xid.specs.declared.refusals.Refusal.{Refusal}
use Rattle.xid.specs.declared.refusals.Refusal.TheVariants as refusal
use Rattle.clap.specs.Words.{Text}
use Rattle.net_script.specs.Writing.{TriesToAppend, WritesText}
use Rattle.audit.specs.Faults.{IsJudged}
use Rattle.audit.specs.declared.faults.Fault.{Fault}
use Rattle.cluster_run.specs.Runs.{StopsRun}
use Rattle.udp_run.specs.Runs.{IsUdpRun}
use Rattle.udp_edge.specs.CommandLines.{IsMisuse, RejectsLine, exit_status}
use Rattle.udp_edge.specs.Printing.{IsOutput, IsRefused, Refuses, rejection_line, usage_line, verdict_text}
use Rattle.udp_edge.specs.declared.command.Subcommand.{Subcommand}
use Rattle.udp_edge.specs.declared.command.Subcommand.TheVariants.{Run, Udp, Audit}
use Rattle.udp_edge.specs.declared.command.Rejected.{Rejected}
use Rattle.udp_edge.specs.declared.command.Rejected.TheVariants.{Usage, NoMemory}

-- a command line that is rejected with status 2 is misuse
pub is_misuse : (words : List Text) (r : Rejected) (old new : Option (List ℕ)) → exit_status r ≡ 2 → RejectsLine words r
    → TriesToAppend old new (rejection_line r) → IsMisuse words × TriesToAppend old new usage_line
is_misuse words Usage old new two misuse p = (misuse, p)
is_misuse words NoMemory old new two misuse p = absurd (omega (arith, two))

-- a command line that is rejected with status 3 is refused for want of memory
pub wants_memory : (words : List Text) (r : Rejected) (out old new : Option (List ℕ)) → exit_status r ≡ 3
    → TriesToAppend old new (rejection_line r) → IsRefused words out out old new
wants_memory words Usage out old new three p = absurd (omega (arith, three))
wants_memory words NoMemory out old new three p = record { refusal = refusal.NoMemory; line = p; cause = inl (refl, Keeps-refl out) }

-- ---- texts that aren't printed whole

abbrev pub IsOfRun : Subcommand → Type 0
IsOfRun (Run file) = Unit {0}
IsOfRun other = ⊥

abbrev pub IsOfUdp : Subcommand → Type 0
IsOfUdp (Udp file folder) = Unit {0}
IsOfUdp other = ⊥

-- a run that isn't
pub run_stops : (subcommand : Subcommand) (bytes : List ℕ) (e : Refusal) (old new : Option (List ℕ)) → IsOfRun subcommand
    → StopsRun bytes e old new → Refuses subcommand bytes e old new
run_stops (Run file) bytes e old new of_run (inl refused) = inl refused
run_stops (Run file) bytes e old new of_run (inr (file_refused, short)) = inr (
  file_refused,
  record { found = None; text = short.text; output = (refl, short.is); broken = short.broken },
)
run_stops (Udp file folder) bytes e old new of_run stops = absurd of_run
run_stops (Audit file) bytes e old new of_run stops = absurd of_run

-- the text of a run over sockets is that subcommand's
pub udp_output : (subcommand : Subcommand) (bytes text : List ℕ) → IsOfUdp subcommand → IsUdpRun bytes text
    → IsOutput subcommand bytes None text
udp_output (Run file) bytes text of_udp is = absurd of_udp
udp_output (Udp file folder) bytes text of_udp is = (refl, is)
udp_output (Audit file) bytes text of_udp is = absurd of_udp

abbrev pub IsOfAudit : Subcommand → Type 0
IsOfAudit (Audit file) = Unit {0}
IsOfAudit other = ⊥

-- what the auditor says is that subcommand's
pub audit_output : (subcommand : Subcommand) (bytes text : List ℕ) (found : Option Fault) → IsOfAudit subcommand → IsJudged bytes found
    → text ≡ verdict_text found → IsOutput subcommand bytes found text
audit_output (Run file) bytes text found of_audit is same = absurd of_audit
audit_output (Udp file folder) bytes text found of_audit is same = absurd of_audit
audit_output (Audit file) bytes text found of_audit is same = (is, same)

-- a text that isn't
pub text_stops : {X : Type 0} (subcommand : Subcommand) (bytes : List ℕ) (found : Option Fault) (text : List ℕ) (old new : Option (List ℕ))
    (result : Result X Refusal) → IsOutput subcommand bytes found text → WritesText old new result text
    → IfErr result (λ e. Refuses subcommand bytes e old new)
text_stops subcommand bytes found text old new (Ok x) output written = tt
text_stops subcommand bytes found text old new (Err e) output (file_refused, broken) =
    inr (file_refused, record { found = found; text = text; output = output; broken = broken })
