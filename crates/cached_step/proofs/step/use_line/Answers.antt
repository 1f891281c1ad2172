-- the line of the access is used
use Rattle.std.proofs.Common.{subst}
use Rattle.cache_sets.specs.Calls.{IsTouched}
use Rattle.cache_sets.specs.Slotted.{lent}
use Rattle.cached_step.specs.CacheRun.{IsModified}
use Rattle.cached_step.proofs.step.use_line.Goals as goal

pub returns-in-Read-clause-used : goal.returns-in-Read-clause-used
returns-in-Read-clause-used c pool =
    rw c.in-Read.is
    (subst (IsTouched (lent pool c.args.sets.now) (lent pool c.touch.new.self)) c.line_of.ensures
    (c.touch.ensures.touched pool))

pub returns-in-Write-clause-used : goal.returns-in-Write-clause-used
returns-in-Write-clause-used c pool =
    rw c.in-Write.is
    (subst (IsModified (lent pool c.args.sets.now) (lent pool c.modify.new.sets)) c.line_of-in-Write.ensures
    (c.modify.ensures.modified pool))
