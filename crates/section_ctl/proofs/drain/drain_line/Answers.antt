-- what is held of a line goes into its bytes in the pool
use Rattle.std.proofs.Common.{subst}
use Rattle.section_ctl.proofs.Drained.{drained_in}
use Rattle.section_ctl.proofs.Laws.Lent.{both_by_hold}
use Rattle.write_hold.specs.Calls.{IsDrained}
use Rattle.write_hold.specs.Slotted as holds
use Rattle.section_ctl.proofs.drain.drain_line.Goals as goal

pub bytes_mut-requires-clause-lent : goal.bytes_mut-requires-clause-lent
bytes_mut-requires-clause-lent c =
    (both_by_hold c.args.pool.now c.drain_into.new.pool c.args.sets.now c.args.hold.now c.requires.lent
    c.drain_into.ensures.others
    c.drain_into.new.self c.drain_into.ensures.lent c.drain_into.ensures.owner).cache_lent

pub returns : goal.returns
returns c =
    drained_in c.args.pool.now c.drain_into.new.pool _ c.args.sets.now c.args.hold.now c.drain_into.new.self
    c.args.line.number
    c.drain_into.new.target c.requires.lent c.requires.resident
    (subst (λ bytes. IsDrained (holds.lent c.args.pool.now c.args.hold.now)
    (holds.lent c.drain_into.new.pool c.drain_into.new.self) c.args.line.number bytes c.drain_into.new.target)
    c.bytes.ensures c.drain_into.ensures.drained)
    c.drain_into.ensures.lent c.drain_into.ensures.owner c.drain_into.ensures.others
    (c.bytes_mut.ensures.written c.drain_into.new.target) c.drain_into.array_long
