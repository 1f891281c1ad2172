-- hart by hart
use Rattle.std.proofs.Common.{◌∙◌, arith, sym}
use Rattle.machine.proofs.Readiness.{first_of, none_left, none_more}
use Rattle.machine.proofs.machine.Machine.first_ready.Goals as goal
use Rattle.machine.specs.Story.{state_of}

pub returns-then-is_some-clause-first : goal.returns-then-is_some-clause-first
returns-then-is_some-clause-first c =
    first_of (state_of c.args.self.now) c.loop-number.number c.ready_of-found.result
    (omega (arith, c.loop-number-test.true, c.requires.all))
    c.loop-number.invariant c.ready_of-found.ensures.first (sym c.is_some.ensures ∙ c.if-is_some.true)

pub loop-number-preserved : goal.loop-number-preserved
loop-number-preserved c =
    none_more (state_of c.args.self.now) c.loop-number.number c.ready_of-found.result
    (omega (arith, c.loop-number-test.true, c.requires.all)) c.loop-number.invariant c.ready_of-found.ensures.first
    (sym c.is_some.ensures ∙ c.if-is_some.false)

pub returns-clause-first : goal.returns-clause-first
returns-clause-first c =
    sym (none_left (state_of c.args.self.now) c.loop-number.number
    (omega (arith, c.loop-number-test.false, c.requires.all))
    c.loop-number.invariant)
