-- one more hart has lost its reservation
use Rattle.std.proofs.Common.{ap, arith, get_or}
use Rattle.std.proofs.lemmas.List.Edits.{map_over_more}
use Rattle.hart_state.specs.Deeds.{unreserved_own}
use Rattle.engine.proofs.reservations.unreserve_all.Goals as goal

pub loop-hart-preserved : goal.loop-hart-preserved
loop-hart-preserved c =
    let at = get_or c.loop-hart.harts c.loop-hart.hart-index in
    rw c.unreserve.ensures
    (map_over_more (unreserved_own c.args.line.number) c.args.harts.now c.loop-hart.harts c.loop-hart.hart-index
    (at c.hart-item.result)
    (omega arith) c.loop-hart.invariant (ap at c.hart-item.is))
