-- the number of each acquire
use Rattle.std.proofs.Common.{◌∙◌, ◌+◌, ap}
use Rattle.lab.proofs.Adding.{added}
use Rattle.lab.proofs.lock_rows.add.Goals as goal
use Rattle.lab.specs.LockRows.{times_at}

pub returns : goal.returns
returns c =
    λ other. added c.args.times.now c.insert.new.self c.args.acquire other
    (c.times_of.result + c.from.result) c.args.amount
    (ap (λ n. n + c.from.result) c.times_of.ensures
    ∙ ap (λ n. times_at c.args.times.now c.args.acquire + n) c.from.ensures)
    (c.in_ok-insert.ensures.updates.0 (other.pc, other.word))
