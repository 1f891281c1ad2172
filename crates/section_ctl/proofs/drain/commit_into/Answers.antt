-- the cache commits what was drained into it
use Rattle.std.proofs.Common.{ap, map}
use Rattle.cache_sets.specs.Slotted as caches
use Rattle.section_ctl.proofs.Drained.{commits_drained}
use Rattle.write_hold.specs.Slotted as holds
use Rattle.section_ctl.proofs.drain.commit_into.Goals as goal

pub returns-clause-cache : goal.returns-clause-cache
returns-clause-cache c =
    commits_drained (holds.lent c.args.pool.now c.args.hold.now) (holds.lent c.drain.new.pool c.drain.new.hold)
    (caches.lent c.args.pool.now c.args.sets.now) (caches.lent c.drain.new.pool c.args.sets.now)
    (caches.lent c.drain.new.pool c.commit_bits.new.self) c.requires.marked c.drain.ensures.drained.drained
    (ap (map (holds.lent_entry c.drain.new.pool)) c.drain.ensures.nothing)
    (c.commit_bits.ensures.committed c.drain.new.pool)
