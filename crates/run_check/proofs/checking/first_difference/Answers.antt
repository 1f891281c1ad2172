use Rattle.std.proofs.Common.{length, sym, ap, ◌∙◌}
use Rattle.rv_flat.specs.FlatState.{FlatState}
use Rattle.run_check.specs.Content.{written_out}
use Rattle.run_check.proofs.Runs.{reached_base, reached_harts, reached_size}
use Rattle.run_check.proofs.checking.first_difference.Goals as goal

pub first_view-requires-clause-one_each : goal.first_view-requires-clause-one_each
first_view-requires-clause-one_each c =
    ap length c.views.ensures.exact
    ∙ c.views.ensures.valid.one_view_each
    ∙ sym c.requires.one_hart_each
    ∙ sym (reached_harts c.args.image.now (written_out c.args.certificate.now.stretches))
    ∙ ap (λ (s : FlatState). length s.harts) (sym c.requires.ran)

pub first_line-requires-clause-base : goal.first_line-requires-clause-base
first_line-requires-clause-base c =
    ap (λ (s : FlatState). s.base) c.requires.ran
    ∙ reached_base c.args.image.now (written_out c.args.certificate.now.stretches)

pub first_line-requires-clause-size : goal.first_line-requires-clause-size
first_line-requires-clause-size c =
    ap (λ (s : FlatState). length s.bytes) c.requires.ran
    ∙ reached_size c.args.image.now (written_out c.args.certificate.now.stretches)
