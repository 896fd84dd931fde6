use Rattle.std.proofs.Common.{rules}
use Rattle.stable_record.proofs.Floors.{frame_put}
use Rattle.stable_record.proofs.floor_frame.put_floor.Goals as goal

pub returns-clause-put : goal.returns-clause-put
returns-clause-put c =
    frame_put c.args.out.now.items c.put_number.new.out.items c.push.new.self.items c.push-2.new.self.items c.put_place.new.out.items
    c.args.floor.now (search (rules, c.in_ok-put_number.ensures, c.gtrid.ensures.value)) c.in_ok-push.ensures.items
    c.in_ok-push-2.ensures.items c.in_ok-put_place.ensures.put
