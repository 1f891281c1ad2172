-- one hart more
use Rattle.std.proofs.Common.{zero-add}
use Rattle.std.proofs.lemmas.List.FromFn.{map-range_with_len_more}
use Rattle.engine.specs.Views.{first_own}
use Rattle.engine.proofs.beginning.first_harts.Goals as goal

pub loop-hart-preserved : goal.loop-hart-preserved
loop-hart-preserved c =
    rw (map-range_with_len_more (first_own c.args.image.now c.args.config.now) 0 c.loop-hart.hart c.loop-hart.hart
    (zero-add c.loop-hart.hart))
    (rw (← c.loop-hart.invariant, ← c.first_view.ensures, ← c.hold_owner.ensures, ← c.in_ok-make.ensures)
    c.in_ok-push.ensures.items)
