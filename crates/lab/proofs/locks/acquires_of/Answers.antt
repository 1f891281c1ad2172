-- the acquires of more and more sections and swaps
use Rattle.std.proofs.Common.{arith, refl}
use Rattle.lab.proofs.Putting.{acquire_put, acquires_stay, all_among, none_yet, only_told, section_in_order}
use Rattle.lab.proofs.Putting.{swap_in_order, swap_put, swaps_in_order}
use Rattle.lab.proofs.locks.acquires_of.Goals as goal

pub loop-begun-init : goal.loop-begun-init
loop-begun-init c = record {
  so_far = rw (c.new-acquires.ensures.items) none_yet;
  order = rw (c.new-acquires.ensures.items) refl;
  seen = λ acquire. rw (c.new-acquires.ensures.items, c.new-seen.ensures.empty) refl;
}

pub loop-begun-preserved : goal.loop-begun-preserved
loop-begun-preserved c = record {
  so_far = rw (c.in_ok-put.ensures.put)
      (acquire_put c.args.tries.now c.loop-begun.begun-index c.begun-item.result c.loop-begun.acquires.items
      c.loop-begun-test.true
      c.begun-item.is c.loop-begun.invariant.so_far);
  order = rw (c.in_ok-put.ensures.put)
      (section_in_order c.args.tries.now c.loop-begun.begun-index c.begun-item.result c.loop-begun.acquires.items
      c.loop-begun-test.true
      c.begun-item.is c.loop-begun.invariant.order);
  seen = c.in_ok-put.ensures.seen;
}

pub loop-swap-preserved : goal.loop-swap-preserved
loop-swap-preserved c = record {
  sections = rw (c.in_ok-put-2.ensures.put)
      (acquires_stay c.args.tries.now c.swap-item.result.acquire c.loop-swap.acquires.items
      c.loop-swap.invariant.sections);
  so_far = rw (c.in_ok-put-2.ensures.put)
      (swap_put c.args.swaps.now c.loop-swap.swap-index c.swap-item.result c.loop-swap.acquires.items
      c.loop-swap-test.true
      c.swap-item.is c.loop-swap.invariant.so_far);
  order = rw (c.in_ok-put-2.ensures.put)
      (swap_in_order c.args.tries.now c.args.swaps.now c.loop-swap.swap-index c.swap-item.result
      c.loop-swap.acquires.items
      c.loop-swap-test.true c.swap-item.is c.loop-swap.invariant.order);
  seen = c.in_ok-put-2.ensures.seen;
}

pub returns-clause-swaps : goal.returns-clause-swaps
returns-clause-swaps c =
    all_among c.args.swaps.now c.loop-swap.swap-index c.loop-swap.acquires.items (omega (arith, c.loop-swap-test.false))
    c.loop-swap.invariant.so_far

pub returns-clause-only : goal.returns-clause-only
returns-clause-only c =
    only_told c.args.tries.now c.args.swaps.now c.loop-swap.acquires.items
    (swaps_in_order c.args.tries.now c.args.swaps.now c.loop-swap.swap-index c.loop-swap.acquires.items
    (omega (arith, c.loop-swap-test.false))
    c.loop-swap.invariant.order)

pub returns-clause-order : goal.returns-clause-order
returns-clause-order c =
    swaps_in_order c.args.tries.now c.args.swaps.now c.loop-swap.swap-index c.loop-swap.acquires.items
    (omega (arith, c.loop-swap-test.false))
    c.loop-swap.invariant.order
