-- one row more, and all of them
use Rattle.std.proofs.Common.{◌≡◌, ◌∙◌, ◌+◌, arith, subst, sym, take}
use Rattle.std.specs.Prelude.{All}
use Rattle.std.proofs.lemmas.List.Elements.{All-push}
use Rattle.lab.specs.Locks.{AreAcquiresOf, AreAmong, AreOnlyOf}
use Rattle.lab_tables.proofs.LockRowing.{rows_pushed, rows_whole}
use Rattle.lab_tables.proofs.locks.lock_rows.Goals as goal
use Rattle.lab_tables.specs.LockRows.{IsLockRow, acquires_in}

pub loop-acquire-preserved : goal.loop-acquire-preserved
loop-acquire-preserved c = record {
  acquires =
      subst (λ rows. acquires_in rows ≡ take (c.loop-acquire.acquire-index + 1) c.deref-acquire-items.result.now)
      (sym c.in_ok-push.ensures.items)
      (rows_pushed c.loop-acquire.rows.items c.deref-acquire-items.result.now c.loop-acquire.acquire-index c.row.result
      _ c.loop-acquire-test.true c.row.ensures.acquire c.loop-acquire.invariant.acquires);
  right =
      subst (All (IsLockRow c.args.kind c.args.tries.now c.args.swaps.now)) (sym c.in_ok-push.ensures.items)
      (All-push (IsLockRow c.args.kind c.args.tries.now c.args.swaps.now) c.loop-acquire.rows.items c.row.result
      c.loop-acquire.invariant.right (c.row.ensures.row c.args.tries.now c.args.swaps.now c.in_ok-counts.ensures));
}

pub returns : goal.returns
returns c =
    let whole : acquires_in c.loop-acquire.rows.items ≡ c.deref-acquire-items.result.now =
    rows_whole c.loop-acquire.rows.items c.deref-acquire-items.result.now c.loop-acquire.acquire-index
    (omega (arith, c.loop-acquire-test.false)) c.loop-acquire.invariant.acquires in
    record {
      sections =
          subst (AreAcquiresOf c.args.tries.now) (sym c.deref-acquire-items.ensures.value ∙ sym whole)
          c.in_ok-acquires.ensures.sections;
      plain =
          subst (AreAmong c.args.swaps.now) (sym c.deref-acquire-items.ensures.value ∙ sym whole)
          c.in_ok-acquires.ensures.swaps;
      only =
          subst (AreOnlyOf c.args.tries.now c.args.swaps.now) (sym c.deref-acquire-items.ensures.value ∙ sym whole)
          c.in_ok-acquires.ensures.only;
      order = whole ∙ c.deref-acquire-items.ensures.value ∙ c.in_ok-acquires.ensures.order;
      right = c.loop-acquire.invariant.right;
    }
