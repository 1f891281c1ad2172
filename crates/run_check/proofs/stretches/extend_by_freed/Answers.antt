use Rattle.std.proofs.Common.{◌≡◌, ◌++◌, ℕ, List, length, ◌+◌, arith, sym, ap, ◌∙◌, append_assoc, append-nil}
use Rattle.std.specs.Prelude.{replicate}
use Rattle.std.proofs.lemmas.List.{length-append}
use Rattle.el_base.proofs.Laws.FreedOrder.{length-order_below-more, order_below-more}
use Rattle.el_base.specs.Freed.{count_in, order_below}
use Rattle.run_check.specs.Certified.{with_pending}
use Rattle.run_check.specs.Content.{written_out}
use Rattle.run_check.proofs.Codes.{all_freed, order_fits}
use Rattle.run_check.proofs.stretches.extend_by_freed.Goals as goal

pub loop-number-init : goal.loop-number-init
loop-number-init c = record {
  within = omega arith;
  growing = c.requires.growing;
  written = sym (append-nil (written_out (with_pending c.args.stretches.now.items c.args.pending)));
}

pub extend-requires-clause-few : goal.extend-requires-clause-few
extend-requires-clause-few c =
    let freed = c.args.freed in
    let number = c.loop-number.number in
    let before = written_out (with_pending c.args.stretches.now.items c.args.pending) in
    omega (
      arith,
      c.requires.few,
      order_fits (number + 1) freed (omega (arith, c.loop-number-test.true)),
      length-order_below-more number freed,
      length-append before (order_below number freed),
      ap length c.loop-number.invariant.written,
      c.from.ensures,
      c.count_of.ensures.exact,
      ap (count_in freed) c.at-hart.ensures,
    )

pub extend-requires-clause-growing : goal.extend-requires-clause-growing
extend-requires-clause-growing c = c.loop-number.invariant.growing

pub loop-number-preserved : goal.loop-number-preserved
loop-number-preserved c =
    let freed = c.args.freed in
    let number = c.loop-number.number in
    let before = written_out (with_pending c.args.stretches.now.items c.args.pending) in
    let counted : c.from.result ≡ count_in freed number =
    c.from.ensures ∙ c.count_of.ensures.exact ∙ ap (count_in freed) c.at-hart.ensures
    in
    record {
      within = omega (arith, c.loop-number-test.true);
      growing = c.in_ok-pending.ensures.growing;
      written =
          c.in_ok-pending.ensures.grown
          ∙ ap (λ (l : List ℕ). l ++ replicate c.from.result c.at-hart.result.number) c.loop-number.invariant.written
          ∙ ap (λ (n : ℕ). (before ++ order_below number freed) ++ replicate n c.at-hart.result.number) counted
          ∙ ap (λ (h : ℕ). (before ++ order_below number freed) ++ replicate (count_in freed number) h)
          c.at-hart.ensures
          ∙ append_assoc before (order_below number freed) (replicate (count_in freed number) number)
          ∙ ap (λ (l : List ℕ). before ++ l) (sym (order_below-more number freed));
    }

pub returns-clause-grown : goal.returns-clause-grown
returns-clause-grown c =
    let before = written_out (with_pending c.args.stretches.now.items c.args.pending) in
    c.loop-number.invariant.written
    ∙ ap (λ (l : List ℕ). before ++ l)
    (all_freed c.loop-number.number c.args.freed (omega
    (arith, c.loop-number.invariant.within, c.loop-number-test.false)))

pub returns-clause-growing : goal.returns-clause-growing
returns-clause-growing c = c.loop-number.invariant.growing
