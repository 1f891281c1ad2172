use Rattle.std.proofs.Common.{◌++◌, arith, sym, ap, subst, ◌∙◌}
use Rattle.std.specs.Prelude.{replicate}
use Rattle.run_check.specs.Certified.{with_pending, IsCode}
use Rattle.run_check.specs.Content.{written_out}
use Rattle.run_check.proofs.Codes.{longer_code, other_follows, other_number, same_number, written_longer}
use Rattle.run_check.proofs.stretches.extend.Goals as goal

pub returns-then-eq-clause-growing : goal.returns-then-eq-clause-growing
returns-then-eq-clause-growing c =
    let items = c.args.stretches.now.items in
    record {
      code =
          longer_code items c.in-Some.last c.args.hart c.args.count
          (subst (λ p. IsCode (with_pending items p)) c.in-Some.is c.requires.growing.code)
          (same_number c.in-Some.last.hart.number c.args.hart.number c.eq.result c.eq.ensures c.if-eq.true);
      none_before = λ none. absurd cc;
    }

pub returns-then-eq-clause-grown : goal.returns-then-eq-clause-grown
returns-then-eq-clause-grown c =
    let items = c.args.stretches.now.items in
    written_longer items c.in-Some.last c.args.hart c.args.count
    (same_number c.in-Some.last.hart.number c.args.hart.number c.eq.result c.eq.ensures c.if-eq.true)
    ∙ ap (λ p. written_out (with_pending items p) ++ replicate c.args.count c.args.hart.number) (sym c.in-Some.is)

pub returns-clause-growing : goal.returns-clause-growing
returns-clause-growing c =
    let items = c.args.stretches.now.items in
    record {
      code =
          other_follows items _ c.in-Some.last c.args.hart c.args.count
          (subst (λ p. IsCode (with_pending items p)) c.in-Some.is c.requires.growing.code)
          c.in_ok-push.ensures.items
          (other_number c.in-Some.last.hart.number c.args.hart.number c.eq.result c.eq.ensures c.if-eq.false)
          (omega (arith, c.if-count-eq0.false));
      none_before = λ none. absurd cc;
    }
