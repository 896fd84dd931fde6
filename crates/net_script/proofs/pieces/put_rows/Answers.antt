use Rattle.std.proofs.Common.{◌∙◌}
use Rattle.net_script.proofs.TraceLemmas.{kept_behind, kept_so, onward}
use Rattle.net_script.proofs.pieces.put_rows.Goals as goal

pub returns-in_err-put_hex-clause-kept : goal.returns-in_err-put_hex-clause-kept
returns-in_err-put_hex-clause-kept c =
    kept_behind c.from_residual-in_err-put_hex.result c.args.out.now.items c.push.new.self.items c.put_hex.new.out.items _
    (onward c.args.out.now.items c.loop-row.out.items c.push.new.self.items _ _ c.loop-row.invariant c.in_ok-push.ensures.items)
    c.in_err-put_hex.ensures.kept

pub returns-in_err-push-2-clause-kept : goal.returns-in_err-push-2-clause-kept
returns-in_err-push-2-clause-kept c =
    let spaced =
    onward c.args.out.now.items c.loop-row.out.items c.push.new.self.items _ _ c.loop-row.invariant c.in_ok-push.ensures.items in
    let keyed = onward c.args.out.now.items c.push.new.self.items c.put_hex.new.out.items _ _ spaced c.in_ok-put_hex.ensures.ok in
    kept_so c.from_residual-in_err-push-2.result c.args.out.now.items c.push-in-loop-row.new.self.items _
    (c.in_err-push-2.ensures.items ∙ keyed)

pub returns-in_err-put_bytes-clause-kept : goal.returns-in_err-put_bytes-clause-kept
returns-in_err-put_bytes-clause-kept c =
    let spaced =
    onward c.args.out.now.items c.loop-row.out.items c.push.new.self.items _ _ c.loop-row.invariant c.in_ok-push.ensures.items in
    let keyed = onward c.args.out.now.items c.push.new.self.items c.put_hex.new.out.items _ _ spaced c.in_ok-put_hex.ensures.ok in
    kept_behind c.from_residual-in_err-put_bytes.result c.args.out.now.items c.push-in-loop-row.new.self.items c.put_bytes.new.out.items _
    (onward c.args.out.now.items c.put_hex.new.out.items c.push-in-loop-row.new.self.items _ _ keyed c.in_ok-push-2.ensures.items)
    c.in_err-put_bytes.ensures.kept
