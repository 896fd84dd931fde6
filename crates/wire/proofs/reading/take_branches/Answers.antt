use Rattle.std.proofs.Common.{◌∷◌, [], sym, arith}
use Rattle.std.proofs.lemmas.List.{length-append}
use Rattle.xid.specs.Transactions.{BranchParts}
use Rattle.wire.specs.Versions.{version_of}
use Rattle.wire.specs.Reading.{branch_at, branches_at}
use Rattle.wire.proofs.Loop.{goes_on, ends, is_done}
use Rattle.wire.proofs.reading.take_branches.Goals as goal

pub returns-in_err-rm : goal.returns-in_err-rm
returns-in_err-rm c =
    rw c.from_residual.ensures (sym (ends (branch_at (version_of c.args.version)) c.loop.all c.args.count c.loop.counter c.loop.rest.now
    (branches_at (version_of c.args.version) c.args.count c.args.bytes.now) c.loop-test.true (sym c.in_err-rm.ensures.value)
    c.loop.invariant.same))

pub loop-preserved : goal.loop-preserved
loop-preserved c =
    let b : BranchParts = record { rm = c.in_ok-rm.rm; bqual = c.in_ok-rm.bqual.now } in
    rw c.push.ensures (record {
      count = omega (arith, length-append c.loop.all (b ∷ []), c.loop.invariant.count);
      same =
          goes_on (branch_at (version_of c.args.version)) c.loop.all c.args.count c.loop.counter c.loop.rest.now
          (branches_at (version_of c.args.version) c.args.count c.args.bytes.now) b c.in_ok-rm.after.now c.loop-test.true
          (sym c.in_ok-rm.ensures.value) c.loop.invariant.same;
    })

pub returns : goal.returns
returns c =
    sym (is_done (branch_at (version_of c.args.version)) c.loop.all c.args.count c.loop.counter c.loop.rest.now
    (branches_at (version_of c.args.version) c.args.count c.args.bytes.now) c.loop-test.false c.loop.invariant.same)
