-- one view more
use Rattle.std.proofs.Common.{◌++◌, ◌∷◌, [], take, arith, ap, below_more, subst, sym, ◌∙◌}
use Rattle.std.proofs.lemmas.List.{take_more}
use Rattle.rv_flat.specs.FlatState.{no_hart}
use Rattle.run_check.specs.Spelling.{IsView}
use Rattle.run_check.proofs.certifying.views_of.Goals as goal

pub view_at-requires-clause-trap : goal.view_at-requires-clause-trap
view_at-requires-clause-trap g c = c.requires.traps c.loop-number.number (omega arith)

pub loop-number-preserved : goal.loop-number-preserved
loop-number-preserved g c =
    let harts = (g.R.Reached.state c.args.reached.now).harts in
    let number = c.loop-number.number in
    let view = c.view_at.ensures in
    record {
      read =
          c.in_ok-push.ensures.items
          ∙ ap (λ l. l ++ c.view_at.result ∷ []) c.loop-number.invariant.read
          ∙ ap (λ v. take number harts ++ v ∷ []) view.exact
          ∙ sym (take_more harts number no_hart (omega arith));
      valid = below_more _ _ c.loop-number.invariant.valid (subst IsView view.exact view.valid);
    }

pub returns-clause-valid : goal.returns-clause-valid
returns-clause-valid g c = λ hart within. c.loop-number.invariant.valid hart (omega arith)
