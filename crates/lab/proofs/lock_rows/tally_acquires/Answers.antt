-- the rows of more and more sections
use Rattle.std.proofs.Common.{◌∙◌, ap, arith}
use Rattle.chronicle.proofs.Laws.Tallies.{none_small, sum_fits}
use Rattle.chronicle.specs.Tally.{plus}
use Rattle.lab.proofs.Adding.{row_put, row_small}
use Rattle.lab.proofs.Rows.{no_row}
use Rattle.lab.proofs.lock_rows.tally_acquires.Goals as goal

pub loop-begun-init : goal.loop-begun-init
loop-begun-init c = record {
  so_far = λ acquire. rw (c.new-rows.ensures.empty) (no_row acquire);
  small = λ acquire. rw (c.new-rows.ensures.empty) none_small;
}

pub sum-row-requires : goal.sum-row-requires
sum-row-requires c =
    rw (c.row_of.ensures)
    (sum_fits c.loop-begun.begun-index _ _ (omega (arith, c.loop-begun-test.true, c.requires))
    (c.loop-begun.invariant.small c.begun-item.result.acquire) c.of_acquire.ensures.small)

pub loop-begun-preserved : goal.loop-begun-preserved
loop-begun-preserved c = record {
  so_far =
      λ other. row_put c.loop-begun.rows c.insert.new.self c.args.tries.now c.loop-begun.begun-index c.begun-item.result
      other c.sum-row.result
      c.loop-begun-test.true c.begun-item.is
      (c.sum-row.ensures ∙ ap (λ r. plus r c.of_acquire.result) c.row_of.ensures
      ∙ ap (plus _) c.of_acquire.ensures.exact)
      c.loop-begun.invariant.so_far (c.in_ok-insert.ensures.updates.0 (other.pc, other.word));
  small =
      λ other. row_small c.loop-begun.rows c.insert.new.self c.loop-begun.begun-index c.begun-item.result.acquire other
      c.row_of.result c.of_acquire.result
      c.sum-row.result c.row_of.ensures c.sum-row.ensures c.loop-begun.invariant.small c.of_acquire.ensures.small
      (c.in_ok-insert.ensures.updates.0 (other.pc, other.word));
}
