use Rattle.std.proofs.Common.{ℕ, List, subst, sym, Option, Some, None, Vec, Global}
use Rattle.std.specs.Prelude.{MatchOption}
use Rattle.std.specs.Borrow.{Bor}
use Rattle.protocol.specs.declared.nodes.NodeId.{NodeId}
use Rattle.protocol.specs.declared.rows.Row.{Row}
use Rattle.node_core.specs.Nodes.{begun, HasRows}
use Rattle.node_core.specs.Opening.{IsManager, IsPlain, IsSnapshot}
use Rattle.node_core.proofs.Starting.{begun_rows, begun_sizes, snapshot_read, snapshot_unread, plain_reads}
use Rattle.node_core.proofs.opening.read_role.Goals as goal

-- what bytes begin with
abbrev start : NodeId → List ℕ → Option (Vec Row Global × Bor (List ℕ)) → Type 0
start who bytes x = MatchOption x (IsPlain who bytes) (λ y. IsManager who × IsSnapshot bytes y.1.now y.0.items)

pub returns-in-Ok-clause-read : goal.returns-in-Ok-clause-read
returns-in-Ok-clause-read c = λ config are.
    let who = c.args.who in
    let own = c.args.own.now in
    let rows = c.in-Ok-Some.rows.items in
    let s = subst (start who c.args.bytes.now) c.in-Ok-Some.field-0-is c.in-Ok-Some.ensures.ok in
    snapshot_read config own c.args.bytes.now c.in-Ok-Some.rest.now rows s.1 who s.0 c.in-Ok.role c.in-Ok.len c.in-Ok.ensures.within
    (c.in-Ok.ensures.read (begun config who own (Some rows)) (begun_sizes config who own (Some rows) c.args.sizes are)
    (begun_rows config who own (Some rows)))

pub returns-in-Err-play_from-clause-read : goal.returns-in-Err-play_from-clause-read
returns-in-Err-play_from-clause-read c = λ config are.
    let who = c.args.who in
    let own = c.args.own.now in
    let rows = c.in-Ok-Some.rows.items in
    let s = subst (start who c.args.bytes.now) c.in-Ok-Some.field-0-is c.in-Ok-Some.ensures.ok in
    snapshot_unread config own c.args.bytes.now c.in-Ok-Some.rest.now rows s.1 who s.0 c.in-Err-play_from.refusal
    (c.in-Err-play_from.ensures.read (begun config who own (Some rows)) (begun_sizes config who own (Some rows) c.args.sizes are)
    (begun_rows config who own (Some rows)))

pub returns-in-Ok-copy_rows-clause-read : goal.returns-in-Ok-copy_rows-clause-read
returns-in-Ok-copy_rows-clause-read c = λ config are.
    let who = c.args.who in
    let own = c.args.own.now in
    let from = begun config who own None in
    let plain = subst (start who c.args.bytes.now) c.in-Ok-None.field-0-is c.in-Ok-None.ensures.ok in
    plain_reads config who own c.args.bytes.now c.play_from-in-Ok-copy_rows.result plain
    (c.play_from-in-Ok-copy_rows.ensures.read from (begun_sizes config who own None c.args.sizes are)
    (subst (HasRows from who) (sym c.in-Ok-copy_rows.ensures.ok) (begun_rows config who own None)))
