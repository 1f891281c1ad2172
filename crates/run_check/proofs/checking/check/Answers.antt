use Rattle.std.proofs.Common.{◌≡◌, ◌<◌, length, sym, ap, subst, ◌∙◌, arith}
use Rattle.rv_flat.specs.FlatState.{FlatState}
use Rattle.rv_flat.proofs.Laws.StepLaws.{start_harts}
use Rattle.run_check.specs.Spelling.{hart_in}
use Rattle.run_check.proofs.RulesSame.{hart_below}
use Rattle.run_check.proofs.checking.check.Goals as goal

pub run_stretches-serial-requires-clause-harts : goal.run_stretches-serial-requires-clause-harts
run_stretches-serial-requires-clause-harts c index within =
    let exact = c.stretches.ensures.exact in
    let valid = c.stretches.ensures.valid in
    let content = c.args.certificate.now in
    let many : length c.in_ok-flat.flat.harts ≡ content.harts =
    ap (λ (s : FlatState). length s.harts) c.in_ok-flat.ensures ∙ start_harts c.args.image.now
    ∙ c.requires.one_hart_each
    in
    let inside = subst (λ l. index < length l) exact within in
    let low = hart_below content.harts (hart_in content.stretches) index (valid.harts index inside) in
    subst (λ l. hart_in l index < length c.in_ok-flat.flat.harts) (sym exact) (omega (arith, low, many))
