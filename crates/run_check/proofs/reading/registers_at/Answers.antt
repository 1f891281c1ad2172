use Rattle.std.proofs.Common.{arith}
use Rattle.std.proofs.lemmas.List.FromFn.{fill_by_all}
use Rattle.run_check.specs.Faults.{register_at}
use Rattle.run_check.proofs.reading.registers_at.Goals as goal

pub returns : goal.returns
returns c =
    fill_by_all (register_at c.args.file.now c.args.place) c.loop-number.regs 32 0 c.loop-number.invariant.all
    (λ k within. c.loop-number.invariant.read k (omega arith))
