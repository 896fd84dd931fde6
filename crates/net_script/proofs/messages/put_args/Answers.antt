use Rattle.net_script.proofs.TraceLemmas.{kept_on}
use Rattle.net_script.proofs.messages.put_args.Goals as goal

pub returns-in_ok-put_node-in-B2b-clause-kept : goal.returns-in_ok-put_node-in-B2b-clause-kept
returns-in_ok-put_node-in-B2b-clause-kept c =
    kept_on c.put_accepts.result c.args.out.now.items c.put_node-in-B2b.new.out.items c.put_accepts.new.out.items _
    c.in_ok-put_node-in-B2b.ensures.ok c.put_accepts.ensures.kept
