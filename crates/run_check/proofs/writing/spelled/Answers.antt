use Rattle.std.proofs.Common.{arith, ap, length}
use Rattle.run_check.proofs.Spelled.{small_of}
use Rattle.run_check.proofs.writing.spelled.Goals as goal

pub overflow_cast-stretches : goal.overflow_cast-stretches
overflow_cast-stretches c =
    let small = (small_of c.args.certificate.now c.stretches.ensures.valid).stretches in
    omega (arith, ap length c.stretches.ensures.exact)
