-- one view more
use Rattle.std.proofs.Common.{zero-add, ◌≡◌, ◌+◌, ◌*◌, false, subst, sym, ap, ◌∙◌, arith}
use Rattle.std.proofs.lemmas.List.FromFn.{map-range_with_len_more}
use Rattle.run_check.specs.Faults.{view_at, view_place, view_wrong}
use Rattle.run_check.proofs.reading.views_of.Goals as goal

pub loop-hart-preserved : goal.loop-hart-preserved
loop-hart-preserved c =
    let file = c.args.file.now in
    let is =
    c.view_at.ensures
    ∙ ap (λ n. view_at file (c.args.views + 138 * n)) c.from-in-loop-hart.ensures
    ∙ ap (λ n. view_at file (n + 138 * c.loop-hart.hart)) c.requires.place in
    rw (map-range_with_len_more (λ hart. view_at file (view_place file hart)) 0 c.loop-hart.hart c.loop-hart.hart
    (zero-add c.loop-hart.hart))
    (rw (← c.loop-hart.invariant, ← is) c.in_ok-push.ensures.items)

pub view_at-requires-clause-right : goal.view_at-requires-clause-right
view_at-requires-clause-right c =
    subst (λ n. view_wrong c.args.file.now (c.args.views + 138 * n) ≡ false) (sym c.from-in-loop-hart.ensures)
    (subst (λ n. view_wrong c.args.file.now (n + 138 * c.loop-hart.hart) ≡ false) (sym c.requires.place)
    (c.requires.right c.loop-hart.hart (omega arith)))
