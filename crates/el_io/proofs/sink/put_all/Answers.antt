use Rattle.std.proofs.Common.{arith, ◌∙◌, length-take, length-drop}
use Rattle.el_io.proofs.Taking.{took-next}
use Rattle.el_io.proofs.sink.put_all.Goals as goal

pub loop-taken-preserved : goal.loop-taken-preserved
loop-taken-preserved g c = (
  omega (arith, simp (length-take, length-drop) at c.in_ok-taken.ensures.within),
  c.in_ok-taken.ensures.faults_counted ∙ c.loop-taken.invariant.1,
  took-next _ _ _ c.args.bytes.now c.loop-taken.taken c.in_ok-taken.field-0 (omega arith)
      (c.in_ok-taken.ensures.goes_on (simp (length-take, length-drop) (omega arith)))
      c.loop-taken.invariant.2 c.in_ok-taken.ensures.taken,
)
