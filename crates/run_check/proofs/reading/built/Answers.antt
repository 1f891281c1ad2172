use Rattle.std.proofs.Common.{◌≡◌, ℕ, List, sym, subst, ◌∙◌, arith, ap}
use Rattle.rv_alu.specs.declared.view.HartView.{HartView}
use Rattle.run_check.specs.Content.{Content}
use Rattle.run_check.specs.Faults.{content_of, harts_of, lines_at, output_at, stretches_at, views_at}
use Rattle.run_check.specs.Spelling.{IsCertificate}
use Rattle.run_check.specs.declared.content.Patch.{Patch}
use Rattle.run_check.specs.declared.content.Stretch.{Stretch}
use Rattle.run_check.proofs.Judged.{faultless}
use Rattle.run_check.proofs.reading.built.Goals as goal

abbrev content_from : ℕ → List Stretch → List HartView → List ℕ → List Patch → Content
content_from harts stretches views output lines =
    record { harts = harts; stretches = stretches; views = views; output = output; lines = lines }

content_is : (file : List ℕ) (harts : ℕ) (stretches : List Stretch) (views : List HartView) (output : List ℕ)
    (lines : List Patch) → harts ≡ harts_of file → stretches ≡ stretches_at file → views ≡ views_at file →
    output ≡ output_at file → lines ≡ lines_at file →
    content_from harts stretches views output lines ≡ content_of file
unfolding content_of
content_is file harts stretches views output lines h s v o l =
    ap (λ x. content_from x stretches views output lines) h
    ∙ ap (λ x. content_from (harts_of file) x views output lines) s
    ∙ ap (λ x. content_from (harts_of file) (stretches_at file) x output lines) v
    ∙ ap (λ x. content_from (harts_of file) (stretches_at file) (views_at file) x lines) o
    ∙ ap (λ x. content_from (harts_of file) (stretches_at file) (views_at file) (output_at file) x) l

pub new-requires : goal.new-requires
new-requires c =
    let same =
    content_is c.args.file.now c.args.counts.harts _ _ _ _ c.requires.counts.0 c.in_ok-stretches.ensures
    c.in_ok-views.ensures
    c.in_ok-output.ensures c.in_ok-lines.ensures
    in
    subst IsCertificate (sym same) (faultless c.args.file.now (λ i. omega (arith, c.type_inv.file i)) c.requires.none).0

pub returns : goal.returns
returns c =
    c.new.ensures
    ∙ content_is c.args.file.now c.args.counts.harts _ _ _ _ c.requires.counts.0 c.in_ok-stretches.ensures
    c.in_ok-views.ensures
    c.in_ok-output.ensures c.in_ok-lines.ensures
