use Rattle.std.proofs.Common.{length, Some, below_more, arith, sym, ap, ◌∙◌, inl, inr}
use Rattle.std.proofs.lemmas.Bool.{cases_lt}
use Rattle.std.proofs.lemmas.Option.{slice_get_past}
use Rattle.run_check.proofs.Runs.{both_read, some_differ}
use Rattle.run_check.proofs.checking.first_view.Goals as goal

pub returns-then-not-same_view-clause-first : goal.returns-then-not-same_view-clause-first
returns-then-not-same_view-clause-first c =
    let reads =
    both_read c.args.flat.now.harts c.args.views.now c.loop-number.number c.from.result c.hart.result
    c.index-views-from.result
    c.from.ensures (omega (arith, c.requires.one_each)) (omega arith) c.hart.ensures c.index-views-from.is
    in (some_differ reads.0 reads.1 (c.same_view.ensures.other c.if-not-same_view.true), c.loop-number.invariant)

pub loop-number-preserved : goal.loop-number-preserved
loop-number-preserved c =
    let reads =
    both_read c.args.flat.now.harts c.args.views.now c.loop-number.number c.from.result c.hart.result
    c.index-views-from.result
    c.from.ensures (omega (arith, c.requires.one_each)) (omega arith) c.hart.ensures c.index-views-from.is
    in
    below_more _ _ c.loop-number.invariant
    (reads.0 ∙ ap (λ v. Some v) (c.same_view.ensures.same c.if-not-same_view.false) ∙ sym reads.1)

pub returns-clause-none : goal.returns-clause-none
returns-clause-none c hart =
    elim (cases_lt hart (length c.args.views.now)) [
      | inl within ↦ c.loop-number.invariant hart (let past = c.loop-number-test.false in omega arith)
      | inr over ↦
          slice_get_past c.args.flat.now.harts hart (omega (arith, c.requires.one_each))
          ∙ sym (slice_get_past c.args.views.now hart over)
    ]
