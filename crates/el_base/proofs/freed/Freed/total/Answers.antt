use Rattle.std.proofs.Common.{◌≡◌, ◌+◌, ℕ, length, ap, sym, ◌∙◌, arith}
use Rattle.el_base.specs.Freed.{count_in, order_below, order_of}
use Rattle.el_base.proofs.Laws.FreedOrder.{length-order_below-more}
use Rattle.el_base.proofs.freed.Freed.total.Goals as goal

pub loop-number-preserved : goal.loop-number-preserved
loop-number-preserved c =
    let (so_far, small, within) = c.loop-number.invariant in
    let freed = c.args.self in
    let number = c.loop-number.number in
    let counted : c.from-total.result ≡ count_in freed number =
    c.from-total.ensures ∙ c.count_of.ensures.exact ∙ ap (count_in freed) c.at.ensures in
    let more : c.loop-number.total + c.from-total.result ≡ length (order_below (number + 1) freed) =
    ap (λ (total : ℕ). total + c.from-total.result) so_far
    ∙ ap (λ (count : ℕ). length (order_below number freed) + count) counted
    ∙ sym (length-order_below-more number freed) in (
      more,
      omega (arith, small, c.from-total.ensures, c.count_of.ensures.small),
      omega (arith, c.loop-number-test.true),
    )

pub returns-clause-exact : goal.returns-clause-exact
unfolding order_of
returns-clause-exact c =
    let (so_far, small, within) = c.loop-number.invariant in
    let all : c.loop-number.number ≡ 8 = omega (arith, within, c.loop-number-test) in
    so_far ∙ ap (λ (n : ℕ). length (order_below n c.args.self)) all
