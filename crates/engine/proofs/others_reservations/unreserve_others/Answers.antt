-- one hart more
use Rattle.std.proofs.Common.{◌∙◌, ◌<◌, ◌==◌, if◌then◌else◌, length, ap, arith}
use Rattle.std.specs.Prelude.{slice_set}
use Rattle.line_pool.proofs.Laws.{no_pool}
use Rattle.engine.proofs.LostReservations.{unreserved_more}
use Rattle.engine.proofs.others_reservations.unreserve_others.Goals as goal
use Rattle.engine.specs.Parts.{own_at}
use Rattle.engine.specs.Unreserved.{unreserved_beside, written_by}

pub unreserve_one-requires-clause-hart_exists : goal.unreserve_one-requires-clause-hart_exists
unreserve_one-requires-clause-hart_exists c =
    omega (arith, c.from.ensures, c.requires, (c.loop-other.invariant no_pool).count)

pub unreserve_one-requires-clause-other_exists : goal.unreserve_one-requires-clause-other_exists
unreserve_one-requires-clause-other_exists c =
    omega (arith, c.loop-other-test.true, c.len-other-end.ensures, (c.loop-other.invariant no_pool).count)

pub loop-other-preserved : goal.loop-other-preserved
loop-other-preserved c pool =
    let now = c.loop-other.harts.items in
    let other = c.loop-other.other in
    let h = c.args.hart.number in
    let so_far = c.loop-other.invariant pool in
    let inside : other < length now = omega (arith, c.loop-other-test.true, c.len-other-end.ensures, so_far.count) in
    unreserved_more other h (written_by pool (own_at c.args.harts.now.items h)) c.args.harts.now.items
    now _ so_far inside
    (c.unreserve_one.ensures pool
    ∙ ap (λ i. if other == i then now else slice_set now other
    (unreserved_beside (written_by pool (own_at now i)) (own_at now other)))
    c.from.ensures
    ∙ ap (λ own. if other == h then now else slice_set now other
    (unreserved_beside (written_by pool own) (own_at now other))) so_far.own)

pub returns : goal.returns
returns c pool =
    let so_far = c.loop-other.invariant pool in
    record {
      count = so_far.count;
      own = so_far.own;
      others =
          λ g other less. so_far.below g other (omega (arith, c.loop-other-test.false, c.len-other-end.ensures, less));
    }
