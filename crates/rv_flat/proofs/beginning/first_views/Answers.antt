-- one hart more
use Rattle.std.proofs.Common.{arith, ap, length, zero-add}
use Rattle.std.proofs.lemmas.List.FromFn.{length-map-range_with_len, map-range_with_len_more}
use Rattle.rv_flat.specs.FlatState.{first_view}
use Rattle.rv_flat.proofs.beginning.first_views.Goals as goal

pub loop-hart-preserved : goal.loop-hart-preserved
loop-hart-preserved c =
    rw (map-range_with_len_more (first_view c.args.image.now) 0 c.loop-hart.hart c.loop-hart.hart
    (zero-add c.loop-hart.hart))
    (rw (← c.loop-hart.invariant, ← c.first_view.ensures) c.in_ok-push.ensures.items)

pub returns-clause-few : goal.returns-clause-few
returns-clause-few c =
    omega (
      arith,
      ap length c.loop-hart.invariant,
      length-map-range_with_len (first_view c.args.image.now) 0 c.loop-hart.hart,
    )
