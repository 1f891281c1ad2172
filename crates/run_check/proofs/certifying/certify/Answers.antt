use Rattle.std.proofs.Common.{◌≡◌, ℕ, List, sym, ap, subst, ◌∙◌}
use Rattle.el_base.specs.declared.entries.Entry.{Entry}
use Rattle.chronicle.specs.Serial.{serial}
use Rattle.elf_image.specs.Program.{Program}
use Rattle.rv_alu.specs.declared.view.HartView.{HartView}
use Rattle.rv_flat.specs.FlatState.{FlatState}
use Rattle.run_check.specs.Certified.{certificate_of, changed_lines, stretches_of}
use Rattle.run_check.specs.Content.{Content}
use Rattle.run_check.specs.Spelling.{IsCertificate}
use Rattle.run_check.specs.declared.content.Patch.{Patch}
use Rattle.run_check.specs.declared.content.Stretch.{Stretch}
use Rattle.run_check.proofs.CertificateRules.{certificate_rules}
use Rattle.run_check.proofs.certifying.certify.Goals as goal

abbrev content_from : ℕ → List Stretch → List HartView → List ℕ → List Patch → Content
content_from harts stretches views output lines =
    record { harts = harts; stretches = stretches; views = views; output = output; lines = lines }

certificate_is : (program : Program) (entries : List Entry) (state : FlatState) (harts : ℕ) (stretches : List Stretch)
    (views : List HartView)
    (output : List ℕ) (lines : List Patch) → harts ≡ program.harts → stretches ≡ stretches_of (serial entries) →
    views ≡ state.harts → output ≡ state.output → lines ≡ changed_lines program state.bytes →
    content_from harts stretches views output lines ≡ certificate_of program entries state
unfolding certificate_of
certificate_is program entries state harts stretches views output lines h s v o l =
    ap (λ x. content_from x stretches views output lines) h
    ∙ ap (λ x. content_from program.harts x views output lines) s
    ∙ ap (λ x. content_from program.harts (stretches_of (serial entries)) x output lines) v
    ∙ ap (λ x. content_from program.harts (stretches_of (serial entries)) state.harts x lines) o
    ∙ ap (λ x. content_from program.harts (stretches_of (serial entries)) state.harts state.output x) l

pub new-requires : goal.new-requires
new-requires g c =
    let entries = g.C.Chronicled.entries c.args.history.now in
    let state = g.R.Reached.state c.args.reached.now in
    subst IsCertificate
    (sym (certificate_is c.args.image.now entries state _ _ _ _ _ c.harts.ensures.exact c.in_ok-stretches.ensures
    c.in_ok-views.ensures.exact
    (c.in_ok-output.ensures.items ∙ c.output.ensures.exact) c.in_ok-lines.ensures))
    (certificate_rules c.args.image.now entries state c.harts.ensures.valid c.requires.history c.requires.reached
    c.in_ok-views.ensures.valid)

pub returns : goal.returns
returns g c =
    let entries = g.C.Chronicled.entries c.args.history.now in
    let state = g.R.Reached.state c.args.reached.now in
    c.new.ensures
    ∙ certificate_is c.args.image.now entries state _ _ _ _ _ c.harts.ensures.exact c.in_ok-stretches.ensures
    c.in_ok-views.ensures.exact
    (c.in_ok-output.ensures.items ∙ c.output.ensures.exact) c.in_ok-lines.ensures
