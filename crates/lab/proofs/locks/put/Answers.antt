-- an acquire that was new
use Rattle.lab.proofs.Putting.{seen_more}
use Rattle.lab.proofs.locks.put.Goals as goal

pub returns-in_ok-push-clause-seen : goal.returns-in_ok-push-clause-seen
returns-in_ok-push-clause-seen c =
    λ other. rw (c.in_ok-push.ensures.items)
    (seen_more c.args.acquires.now.items c.args.seen.now c.insert.new.self c.args.acquire other c.requires
    (c.in_ok-insert.ensures.updates.0 (other.pc, other.word)))
